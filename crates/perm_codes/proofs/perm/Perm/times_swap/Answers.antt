use Rattle.std.proofs.Common.{◌≡◌, ℕ, ◌≤◌, List, length, sym, ap, ap₂, ◌∙◌, subst, arith}
use Rattle.sym_model.specs.PlaceOrders.{inversions}
use Rattle.sym_model.specs.Permutation.{with_fixed}
use Rattle.perm_codes.specs.Limits.{IsShortPermutation, IsWithinLimits}
use Rattle.perm_codes.proofs.CoverSteps.{same_inversions}
use Rattle.perm_codes.proofs.WithinLimits.{length-with_fixed, short_fixed}
use Rattle.perm_codes.proofs.perm.Perm.times_swap.Goals as goal

letters_are : (list letters w : List ℕ) (last j : ℕ) → list ≡ with_fixed last letters → letters ≡ w
    → last ≡ j → list ≡ with_fixed j w
letters_are list letters w last j a b e = a ∙ ap₂ with_fixed e b

reach : (list w : List ℕ) (j : ℕ) → list ≡ with_fixed j w → j ≤ length list
reach list w j a = omega (arith, ap length a, length-with_fixed j w)

are_short : (list w : List ℕ) (j : ℕ) → list ≡ with_fixed j w → j ≤ 255 → IsWithinLimits w →
    IsShortPermutation list
are_short list w j a h l = subst IsShortPermutation (sym a) (short_fixed j w h l)

pub inversions_exchanged-count-requires-clause-permutation
    : goal.inversions_exchanged-count-requires-clause-permutation
inversions_exchanged-count-requires-clause-permutation c =
    let is = c.as_slice.ensures ∙ letters_are _ _ _ _ _ c.in_ok-letters.ensures
    c.letters.ensures.value c.from.ensures in
    are_short _ _ _ is c.requires.second c.letters.ensures.limits

pub inversions_exchanged-count-requires-clause-inside
    : goal.inversions_exchanged-count-requires-clause-inside
inversions_exchanged-count-requires-clause-inside c =
    let is = c.as_slice.ensures ∙ letters_are _ _ _ _ _ c.in_ok-letters.ensures
    c.letters.ensures.value c.from.ensures in
    let far = reach c.as_slice.result.now c.args.self.now c.args.j is in
    omega (arith, c.from-second.ensures, c.requires.first, c.requires.order)

-- w with fixed letters added has the same number of inversions as w
pub inversions_exchanged-count-requires-clause-count
    : goal.inversions_exchanged-count-requires-clause-count
inversions_exchanged-count-requires-clause-count c =
    let is = c.as_slice.ensures ∙ letters_are _ _ _ _ _ c.in_ok-letters.ensures
    c.letters.ensures.value c.from.ensures in
    c.self.invariant.count_is ∙ ap inversions c.self.view_is
    ∙ sym (same_inversions c.args.self.now c.args.j c.requires.second c.letters.ensures.limits)
    ∙ ap inversions (sym is)

pub exchanged-requires-clause-permutation : goal.exchanged-requires-clause-permutation
exchanged-requires-clause-permutation c =
    let is = letters_are _ _ _ _ _ c.in_ok-letters.ensures c.letters.ensures.value c.from.ensures in
    are_short _ _ _ is c.requires.second c.letters.ensures.limits

pub exchanged-requires-clause-first : goal.exchanged-requires-clause-first
exchanged-requires-clause-first c =
    let is = letters_are _ _ _ _ _ c.in_ok-letters.ensures c.letters.ensures.value c.from.ensures in
    let far = reach c.in_ok-letters.letters.items c.args.self.now c.args.j is in
    omega (arith, c.from-first.ensures, c.requires.first, c.requires.order)

pub exchanged-requires-clause-second : goal.exchanged-requires-clause-second
exchanged-requires-clause-second c =
    let is = letters_are _ _ _ _ _ c.in_ok-letters.ensures c.letters.ensures.value c.from.ensures in
    let far = reach c.in_ok-letters.letters.items c.args.self.now c.args.j is in
    omega (arith, c.from-second.ensures, c.requires.first, c.requires.order)
