use Rattle.std.proofs.Common.{ℕ, List, [], ◌∷◌, ◌++◌, ◌-◌, ◌∙◌, subst, ap, refl, Err, ℤ, rules}
use Rattle.std.specs.Prelude.{nat_eq}
use Rattle.std.specs.Cmp.Lexicographic.{pointwise}
use Rattle.sym_model.specs.PlaceOrders.{minus_one_to}
use Rattle.sym_model.specs.Strip.{height}
use Rattle.linear_combinations.specs.Entries.{coefficient, HasMoreAt, IsRefused}
use Rattle.linear_combinations.proofs.Steps.{error_is, all_done}
use Rattle.sparse_polys.specs.Combination.{terms_of}
use Rattle.linear_combinations.proofs.Cleared.{Gains-none}
use Rattle.strip_rules.specs.Adding.{IsSigned}
use Rattle.strip_rules.proofs.ShapeLists.{among_next}
use Rattle.strip_rules.proofs.Signs.{height_here}
use Rattle.strip_rules.proofs.TermsAdded.{Gains-shape, Overflows-shape, Gains-signed}
use Rattle.strip_rules.proofs.TermsAdded.{Overflows-signed}
use Rattle.strip_rules.proofs.TermsAdded.{Overflows-size}
use Rattle.sym_model.proofs.Integers.{sign_size}
use Rattle.strip_rules.proofs.shapes.add_signed_shapes.Goals as goal
use Rattle.sparse_polys.proofs.PartitionTerms.{listed_on, listed_next}

pub loop-alloc-init : goal.loop-alloc-init
loop-alloc-init g c = (
  [],
  record {
    so_far = refl;
    base = refl;
    adds = λ q d cleared. Gains-none q (terms_of g.R.Scalar.value c.args.sum.now) cleared;
  },
)

pub from_valid_parts-requires : goal.from_valid_parts-requires
from_valid_parts-requires g c = search (rules, among_next, listed_on)

pub signed-requires-clause-height : goal.signed-requires-clause-height
signed-requires-clause-height g c = search (rules, listed_on, height_here, among_next)

pub loop-alloc-preserved : goal.loop-alloc-preserved
loop-alloc-preserved g c =
    let value = g.R.Scalar.value in
    let inv = c.loop-alloc.invariant in
    let label = c.current.result.now in
    let base = c.args.hooks.now.base in
    let sign : List ℕ → ℤ = λ ν. minus_one_to (height ν base - 1) in
    let cur = c.loop-alloc.sum in
    let new = c.add_term-in-loop-alloc.new.self in
    let v = c.in_ok-signed.field-0 in
    let on = listed_on inv.0 _ _ _ _ label inv.1.so_far c.advance.ensures.next c.current.ensures in
    let same_base = c.advance.ensures.base ∙ inv.1.base in
    let high = height_here _ _ base label c.height.result c.height.ensures c.current.ensures
    same_base in
    let is : IsSigned (value c.args.c) (sign label) (value v) =
    subst (λ h. IsSigned (value c.args.c) (minus_one_to (h - 1)) (value v)) high
    c.in_ok-signed.ensures.value in
    let more : HasMoreAt (pointwise nat_eq) g.R.Scalar.zero g.R.Scalar.sum cur label v new =
    subst (λ l. HasMoreAt (pointwise nat_eq) g.R.Scalar.zero g.R.Scalar.sum cur l v new)
    c.in_ok-shape.ensures.ok c.in_ok-add_term.ensures.ok in (
      inv.0 ++ label ∷ [],
      record {
        so_far = listed_next inv.0 _ _ label on;
        base = same_base;
        adds =
            Gains-shape (value c.args.c) sign inv.0 label (terms_of value c.args.sum.now)
            (terms_of value cur) inv.1.adds (terms_of value new)
            (Gains-signed value g.R.Scalar.zero g.met.R.Scalar.zero_value.0 (value c.args.c)
            (sign label) label v cur is c.add_term-in-loop-alloc.ensures.tables.before.combination
            g.R.Scalar.sum g.met.R.Scalar.sum_value new c.in_ok-signed.ensures.lowest
            c.in_ok-add_term.ensures.tables.after.combination more);
      },
    )

pub returns-in_err-add_term-clause-large : goal.returns-in_err-add_term-clause-large
returns-in_err-add_term-clause-large g c large =
    let value = g.R.Scalar.value in
    let inv = c.loop-alloc.invariant in
    let label = c.current.result.now in
    let base = c.args.hooks.now.base in
    let sign : List ℕ → ℤ = λ ν. minus_one_to (height ν base - 1) in
    let cur = c.loop-alloc.sum in
    let v = c.in_ok-signed.field-0 in
    let on = listed_on inv.0 _ _ _ _ label inv.1.so_far c.advance.ensures.next c.current.ensures in
    let high = height_here _ _ base label c.height.result c.height.ensures c.current.ensures
    (c.advance.ensures.base ∙ inv.1.base) in
    let is : IsSigned (value c.args.c) (sign label) (value v) =
    subst (λ h. IsSigned (value c.args.c) (minus_one_to (h - 1)) (value v)) high
    c.in_ok-signed.ensures.value in
    let refused = c.in_err-add_term.ensures.large.0
    (ap Err (error_is _ _ _ c.from_residual-in_err-add_term.ensures.1 large)) in
    Overflows-shape (value c.args.c) sign inv.0 label (terms_of value c.args.sum.now)
    (terms_of value cur) inv.1.adds _ _ on
    (Overflows-signed value g.R.Scalar.zero g.met.R.Scalar.zero_value.0 (value c.args.c) (sign label)
    label v cur is c.add_term-in-loop-alloc.ensures.tables.before.combination
    g.R.Scalar.is_held g.R.Scalar.checked_sum g.met.R.Scalar.sum_answers
    (subst (λ l. IsRefused g.R.Scalar.is_held g.R.Scalar.checked_sum
    (coefficient (pointwise nat_eq) g.R.Scalar.zero cur l) v) c.in_ok-shape.ensures.ok refused))

pub returns-in_err-signed-clause-large : goal.returns-in_err-signed-clause-large
returns-in_err-signed-clause-large g c large =
    let value = g.R.Scalar.value in
    let inv = c.loop-alloc.invariant in
    let label = c.current.result.now in
    let base = c.args.hooks.now.base in
    let sign : List ℕ → ℤ = λ ν. minus_one_to (height ν base - 1) in
    let cur = terms_of value c.loop-alloc.sum in
    let on = listed_on inv.0 _ _ _ _ label inv.1.so_far c.advance.ensures.next c.current.ensures in
    Overflows-shape (value c.args.c) sign inv.0 label (terms_of value c.args.sum.now) cur inv.1.adds
    _
    _ on
    (Overflows-size (value c.args.c) (sign label) label cur (sign_size (height label base - 1))
    c.in_err-signed.ensures.large)

pub returns-clause-ok : goal.returns-clause-ok
returns-clause-ok g c = search (rules, all_done)
