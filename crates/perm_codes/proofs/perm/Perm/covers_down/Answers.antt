use Rattle.std.proofs.Common.{◌≡◌, ◌+◌, ◌-◌, IfOk, List, ℕ, map, length, rules, sym, ap, ap₂}
use Rattle.std.proofs.Common.{◌∙◌, subst, arith}
use Rattle.sym_model.specs.PlaceOrders.{inversions}
use Rattle.sym_model.specs.Partition.{after}
use Rattle.sym_model.specs.Permutation.{covers_among, covers_down, times_swap, with_fixed}
use Rattle.perm_codes.specs.Limits.{IsShortPermutation}
use Rattle.perm_codes.proofs.CoverSteps.{covers_down_fixed, same_inversions}
use Rattle.perm_codes.proofs.InversionCounts.{few_inversions}
use Rattle.perm_codes.proofs.WithinLimits.{length-with_fixed, short_fixed}
use Rattle.perm_codes.proofs.perm.Perm.covers_down.Goals as goal
use Rattle.sym_model.proofs.Numbers.{one_before}

letters_are : (slice list letters w : List ℕ) (last r : ℕ) → slice ≡ list → list ≡ with_fixed last
    letters → letters ≡ w
    → last ≡ r → slice ≡ with_fixed r w
letters_are slice list letters w last r a b d e = a ∙ b ∙ ap₂ with_fixed e d

abbrev letters_of : goal.After-from-2 → Type 0
letters_of c = c.as_slice.result.now ≡ with_fixed c.args.r c.args.self.now

is : (c : goal.After-from-2) → letters_of c
is c = letters_are _ _ _ _ _ _ c.as_slice.ensures c.in_ok-letters.ensures c.letters.ensures.value
    c.from.ensures

pub covers_below-requires-clause-permutation : goal.covers_below-requires-clause-permutation
covers_below-requires-clause-permutation c =
    subst IsShortPermutation (sym (is c)) (short_fixed c.args.r c.args.self.now c.requires.last
    c.letters.ensures.limits)

pub covers_below-requires-clause-inside : goal.covers_below-requires-clause-inside
covers_below-requires-clause-inside c =
    omega (
      arith,
      ap length (is c),
      length-with_fixed c.args.r c.args.self.now,
      c.from-2.ensures,
      c.requires.place,
    )

pub overflow_add-self-inside : goal.overflow_add-self-inside
overflow_add-self-inside c =
    let few = few_inversions c.self.inside.letters.items c.self.invariant.limits.few in
    let count = c.self.invariant.count_is in
    omega arith

pub covers_below-requires-clause-count : goal.covers_below-requires-clause-count
covers_below-requires-clause-count c =
    ap (λ n. n + 1)
    (c.self.invariant.count_is ∙ ap inversions c.self.view_is
    ∙ sym (same_inversions c.args.self.now c.args.r c.requires.last c.letters.ensures.limits)
    ∙ ap inversions (sym (is c)))

abbrev down_of : List ℕ → ℕ → List (List ℕ)
down_of u p = covers_among u (map (λ i. times_swap i (p + 1) u) (after 0 p))

pub returns : goal.returns
returns c =
    let w = c.args.self.now in
    let letters = letters_are _ _ _ _ _ _ c.as_slice.ensures c.in_ok-letters.ensures
    c.letters.ensures.value c.from.ensures in
    let found : IfOk c.covers_below.result (λ covers. covers.items ≡ down_of c.as_slice.result.now
    (c.from-2.result - 1)) = search rules in
    let is : down_of c.as_slice.result.now (c.from-2.result - 1) ≡ covers_down c.args.r w =
    ap₂ (λ k m. covers_among c.as_slice.result.now (map (λ i. times_swap i k c.as_slice.result.now)
    (after 0 m))) (one_before _ _ c.from-2.ensures c.requires.place)
    (ap (λ n. n - 1) c.from-2.ensures)
    ∙ ap (covers_down c.args.r) letters
    ∙ covers_down_fixed w c.args.r c.args.r c.requires.last c.letters.ensures.limits in
    subst (λ list. IfOk c.covers_below.result (λ covers. covers.items ≡ list)) is found
