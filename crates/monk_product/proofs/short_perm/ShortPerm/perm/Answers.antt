use Rattle.std.proofs.Common.{◌≡◌, ◌≤◌, IfOk, List, ℕ, take, length, sym, ap, ◌∙◌, subst, arith}
use Rattle.std.proofs.lemmas.List.{take_all, length-take-le}
use Rattle.sym_model.specs.Permutation.{kept}
use Rattle.perm_codes.specs.Limits.{IsShortPermutation, IsWithinLimits}
use Rattle.monk_product.specs.ShortPerms.{IsFilled}
use Rattle.monk_product.proofs.ShortPerms.{few_kept, limits_of, shown}
use Rattle.monk_product.proofs.short_perm.ShortPerm.perm.Goals as goal

read : (u v w : List ℕ) (n at len : ℕ) → IsFilled u n → kept u ≡ w → length v ≡ 32 → 32 ≤ at
    → take at v ≡ take at u → len ≡ length w → take len v ≡ w
read u v w n at len f e m h s l =
    let long = f.long in
    let same : v ≡ u = sym (take_all at v (omega arith)) ∙ s ∙ take_all at u (omega arith) in
    ap (take len) same ∙ ap (λ k. take k u) (l ∙ ap length (sym e)) ∙ shown u ∙ e

short : (u w : List ℕ) (n : ℕ) → IsFilled u n → kept u ≡ w → IsShortPermutation w
short u w n f e =
    let l : IsWithinLimits w = subst IsWithinLimits e (limits_of u n f) in
    record { one_line = l.kept.one_line; some = l.kept.some; few = l.few }

pub from_valid_letters-requires : goal.from_valid_letters-requires
from_valid_letters-requires c =
    subst IsShortPermutation
    (sym (read _ c.loop-at.letters c.args.self.now _ c.loop-at.at c.len.result c.self.invariant
    c.self.view_is c.loop-at.invariant.0 c.loop-at-test.false c.loop-at.invariant.1
    c.len.ensures))
    (short _ _ _ c.self.invariant c.self.view_is)

pub slice_bounds-letters-end : goal.slice_bounds-letters-end
slice_bounds-letters-end c =
    let e = ap length c.self.view_is in
    let n = c.len.ensures in
    let f = few_kept c.self.inside.letters c.self.invariant.long in
    let m = c.loop-at.invariant.0 in
    omega arith

pub returns : goal.returns
returns c =
    let w = c.args.self.now in
    let l : IsWithinLimits w = subst IsWithinLimits c.self.view_is (limits_of _ _ c.self.invariant)
    in
    subst (λ v. IfOk c.from_valid_letters.result (λ (p : List ℕ). p ≡ v))
    (ap kept (read _ c.loop-at.letters w _ c.loop-at.at c.len.result c.self.invariant
    c.self.view_is c.loop-at.invariant.0 c.loop-at-test.false c.loop-at.invariant.1
    c.len.ensures) ∙ l.kept.unfixed)
    c.from_valid_letters.ensures.ok

pub slice_bounds-from_valid_letters-end : goal.slice_bounds-from_valid_letters-end
slice_bounds-from_valid_letters-end c =
    let e = ap length c.self.view_is in
    let n = c.len.ensures in
    let f = few_kept c.self.inside.letters c.self.invariant.long in
    let m = c.loop-at.invariant.0 in
    sym (length-take-le c.len.result c.loop-at.letters (omega arith))
