use Rattle.std.proofs.Common.{◌≡◌, ℕ, ◌+◌, ◌-◌, ◌≤◌, nat_le, Bool, true, false, ◌&&◌, cond, List, [], ◌∷◌, length, take, drop, get_or, refl, sym, ap, ap₂, subst, ◌∙◌, arith}
use Rattle.std.proofs.lemmas.Bool.{eq-eqb, ne_eqb}
use Rattle.std.proofs.lemmas.List.{length-take-le}
use Rattle.tableau_laws.specs.Grid.{may_precede, pass_by_place}
use Rattle.lr_product.specs.WeighedSum.{comes_to}
use Rattle.lr_product.specs.LastRows.{missing, chains}
use Rattle.lr_product.proofs.LockStep.{last_two}
use Rattle.lr_product.proofs.RowRounds.{vanishes-rows}
use Rattle.lr_product.proofs.Sums.{comes-inside}
use Rattle.lr_product.proofs.Windows.{get-last, length-values}
use Rattle.lr_product.proofs.last_rows.completions.Goals as goal

none : (u : Bool) (x : ℕ) → cond (u && false) x 0 ≡ 0
none true x = refl
none false x = refl

pub returns-in_default : goal.returns-in_default
returns-in_default c =
    let content = c.args.content.now in
    let n = length content in
    let rows = c.args.rows in
    let s = c.args.state.now in
    record {
      value = sym (vanishes-rows n (rows.upper_end ∷ rows.lower_end ∷ [])
          (rows.upper_outside ∷ rows.lower_outside ∷ []) content (comes_to content) (omega arith)
          (comes-inside content) (take n s) (drop n s)
          (subst (λ v. pass_by_place nat_le v content ≡ false) c.split_at.ensures.front
          (c.in_default.ensures.outside refl)));
    }

pub returns-then-needed-from : goal.returns-then-needed-from
returns-then-needed-from c =
    let content = c.args.content.now in
    let n = length content in
    let rows = c.args.rows in
    let s = c.args.state.now in
    let two = last_two rows.upper_outside rows.lower_outside rows.upper_end rows.lower_end content
    (take n s) (drop n s) c.requires.content c.requires.some (length-take-le n s c.requires.long)
    c.requires.falls c.requires.upper c.requires.lower
    (λ j h. subst (λ v. get_or v j 0 ≤ get_or content j 0) c.split_at.ensures.front
    (c.in-Some.ensures.inside j h)) in
    let count : c.in-Some.missing ≡ missing n content (take n s) = c.in-Some.ensures.count
    ∙ ap (missing n content) c.split_at.ensures.front in
    record {
      value = sym (two
          ∙ ap (λ u. cond (may_precede nat_le rows.upper_end (drop n s) && u)
          (chains rows.upper_outside rows.lower_outside content (take n s) n rows.upper_end
          (drop 1 (drop n s))) 0)
          (ne_eqb (rows.upper_outside + rows.lower_outside + missing n content (take n s))
          (rows.upper_end + rows.lower_end)
          (λ q. c.if-needed-from.true
          (omega (arith, q, count, c.from.ensures, c.from-2.ensures, c.from-3.ensures, c.from-4.ensures))))
          ∙ none (may_precede nat_le rows.upper_end (drop n s)) _);
    }

pub index-requires : goal.index-requires
index-requires c =
    let rows = c.args.rows in
    let long = length-values
    (λ k. chains rows.upper_outside rows.lower_outside c.args.content.now c.split_at.result.0.now
    (length c.args.content.now) k c.rest_of.result.now)
    rows.upper_outside (rows.upper_end + 1 - rows.upper_outside) c.count_chains.new.counts.items
    (c.in_ok-count_chains.ensures.chains c.if-not-branch.false) in
    omega (arith, long, c.from-5.ensures, c.requires.upper)

pub returns : goal.returns
returns c =
    let content = c.args.content.now in
    let n = length content in
    let rows = c.args.rows in
    let l = rows.upper_outside in
    let k = rows.upper_end in
    let s = c.args.state.now in
    let front = c.split_at.ensures.front in
    let back = c.split_at.ensures.back in
    let two = last_two l rows.lower_outside k rows.lower_end content
    (take n s) (drop n s) c.requires.content c.requires.some (length-take-le n s c.requires.long)
    c.requires.falls c.requires.upper c.requires.lower
    (λ j h. subst (λ v. get_or v j 0 ≤ get_or content j 0) front (c.in-Some.ensures.inside j h)) in
    let count : c.in-Some.missing ≡ missing n content (take n s) = c.in-Some.ensures.count
    ∙ ap (missing n content) front in
    record {
      value = c.index.ensures
          ∙ ap (λ i. get_or c.count_chains.new.counts.items i c.index.result.now) c.from-5.ensures
          ∙ get-last (λ x. chains l rows.lower_outside content c.split_at.result.0.now n x
          c.rest_of.result.now) l k c.index.result.now c.count_chains.new.counts.items
          c.requires.upper
          (c.in_ok-count_chains.ensures.chains c.if-not-branch.false)
          ∙ ap₂ (λ (u v : List ℕ). chains l rows.lower_outside content u n k v) front
          (c.rest_of.ensures ∙ ap (drop 1) back)
          ∙ sym (two ∙ ap₂ (λ (u v : Bool). cond (u && v) (chains l rows.lower_outside content
          (take n s) n k (drop 1 (drop n s))) 0)
          (ap (may_precede nat_le k) (sym back) ∙ sym c.may_stand_below.ensures
          ∙ c.if-not-may_stand_below.false)
          (eq-eqb (l + rows.lower_outside + missing n content (take n s)) (k + rows.lower_end)
          (let e = c.if-needed-from.false in
          omega (arith, e, count, c.from.ensures, c.from-2.ensures, c.from-3.ensures, c.from-4.ensures))));
    }
