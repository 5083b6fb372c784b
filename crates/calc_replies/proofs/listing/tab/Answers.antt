use Rattle.std.proofs.Common.{◌≡◌, List, ℕ, sym, ap, ◌∙◌, subst, arith}
use Rattle.sym_model.specs.Partition.{Holds, size}
use Rattle.sym_model.specs.TableauText.{readings_text}
use Rattle.lr_product.proofs.GoodCounts.{contains-false}
use Rattle.calc_words.specs.WrittenLimits.{IsInList}
use Rattle.calc_replies.proofs.Listings.{none_after, listed-lines}
use Rattle.calc_replies.proofs.listing.tab.Goals as goal

pub returns-in_default : goal.returns-in_default
returns-in_default c =
    let outer = c.args.outer.now in
    let inner = c.args.inner.now in
    let P : List ℕ → Type 0 = λ x. Holds x c.in_ok-copy-2.field-0 in
    let Q : List ℕ → Type 0 = λ y. Holds outer y in
    let outside = contains-false outer inner
    (λ holds. let some = c.in_default.ensures.some.1 (subst P (sym c.in_ok-copy.ensures.ok)
    (subst Q (sym c.in_ok-copy-2.ensures.ok) holds)) in cc) in
    rw (c.told.ensures) (ap (readings_text outer inner)
    (sym (none_after outer inner c.args.after.now outside)))

pub listed-requires-clause-small : goal.listed-requires-clause-small
listed-requires-clause-small c =
    let outer : size c.in-Some.shape.0 ≡ size c.args.outer.now =
    ap (λ (s : List ℕ × List ℕ). size s.0) c.in-Some.ensures.value ∙ ap size c.in_ok-copy.ensures.ok
    in
    omega (arith, outer, c.requires.0.small)

pub listed-requires-clause-listed : goal.listed-requires-clause-listed
listed-requires-clause-listed c =
    let outer = c.args.outer.now in
    let inner = c.args.inner.now in
    let shape : c.in-Some.shape ≡ (outer, inner) =
    c.in-Some.ensures.value
    ∙ ap (λ (x : List ℕ). (x, c.in_ok-copy-2.field-0)) c.in_ok-copy.ensures.ok
    ∙ ap (λ (y : List ℕ). (outer, y)) c.in_ok-copy-2.ensures.ok in
    subst (λ (s : List ℕ × List ℕ). IsInList s.0 s.1 c.args.after.now) (sym shape) c.requires.2

pub returns : goal.returns
returns c =
    let outer = c.args.outer.now in
    let inner = c.args.inner.now in
    let shape : c.in-Some.shape ≡ (outer, inner) =
    c.in-Some.ensures.value
    ∙ ap (λ (x : List ℕ). (x, c.in_ok-copy-2.field-0)) c.in_ok-copy.ensures.ok
    ∙ ap (λ (y : List ℕ). (outer, y)) c.in_ok-copy-2.ensures.ok in
    rw (c.told-2.ensures, c.in_ok-order.ensures)
    (listed-lines outer inner c.in-Some.shape c.args.after.now c.in_ok-lattice.lattice.rest shape
    c.in_ok-lattice.ensures)
