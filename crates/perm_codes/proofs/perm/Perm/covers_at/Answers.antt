use Rattle.std.proofs.Common.{◌≡◌, ◌+◌, ◌-◌, ◌≤◌, IfOk, List, ℕ, map, max, length, refl, rules, sym}
use Rattle.std.proofs.Common.{ap, ap₂, ◌∙◌, subst, arith}
use Rattle.sym_model.specs.PlaceOrders.{inversions}
use Rattle.sym_model.specs.Partition.{after}
use Rattle.sym_model.specs.Permutation.{covers_among, covers_down, covers_up, times_swap}
use Rattle.sym_model.specs.Permutation.{with_fixed}
use Rattle.perm_codes.specs.Limits.{IsShortPermutation}
use Rattle.perm_codes.proofs.CoverSteps.{covers_down_fixed, covers_up_fixed, same_inversions}
use Rattle.perm_codes.proofs.InversionCounts.{few_inversions}
use Rattle.perm_codes.proofs.WithinLimits.{length-with_fixed, short_fixed}
use Rattle.perm_codes.proofs.perm.Perm.covers_at.Goals as goal
use Rattle.sym_model.proofs.Numbers.{one_before}

letters_are :
    (slice list letters w : List ℕ) (last greater len r : ℕ) → slice ≡ list → list ≡ with_fixed last
    letters → letters ≡ w
    → last ≡ greater + 1 → greater ≡ max len r → len ≡ length w → slice ≡ with_fixed
    (max (length w) r + 1) w
letters_are slice list letters w last greater len r a b d e f g =
    a ∙ b ∙ ap₂ with_fixed (e ∙ ap (λ n. n + 1) (f ∙ ap (λ n. max n r) g)) d

few : (len r : ℕ) → len ≤ 254 → r ≤ 254 → max len r + 1 ≤ 255
few len r h l = omega arith

pub of_letters-requires-clause-permutation : goal.of_letters-requires-clause-permutation
of_letters-requires-clause-permutation c =
    let w = c.args.self.now in
    let is = letters_are _ _ _ _ _ _ _ _ c.as_slice.ensures c.in_ok-letters.ensures
    c.letters.ensures.value c.from.ensures c.max-last.ensures c.len.ensures.value in
    subst IsShortPermutation (sym is)
    (short_fixed (max (length w) c.args.r + 1) w (few (length w) c.args.r c.requires.letters
    c.requires.last) c.letters.ensures.limits)

pub of_letters-requires-clause-inside : goal.of_letters-requires-clause-inside
of_letters-requires-clause-inside c =
    let w = c.args.self.now in
    let is = letters_are _ _ _ _ _ _ _ _ c.as_slice.ensures c.in_ok-letters.ensures
    c.letters.ensures.value c.from.ensures c.max-last.ensures c.len.ensures.value in
    omega (
      arith,
      ap length is,
      length-with_fixed (max (length w) c.args.r + 1) w,
      c.from-2.ensures,
      c.requires.place,
    )

abbrev up_of : List ℕ → ℕ → List (List ℕ)
up_of u r = covers_among u (map (λ j. times_swap r j u) (after r (length u - r)))

abbrev down_of : List ℕ → ℕ → List (List ℕ)
down_of u p = covers_among u (map (λ i. times_swap i (p + 1) u) (after 0 p))

pub returns-clause-up : goal.returns-clause-up
returns-clause-up c =
    let w = c.args.self.now in
    let last = max (length c.args.self.now) c.args.r + 1 in
    let letters = letters_are _ _ _ _ _ _ _ _ c.as_slice.ensures c.in_ok-letters.ensures
    c.letters.ensures.value c.from.ensures c.max-last.ensures c.len.ensures.value in
    let found : IfOk c.of_letters.result (λ covers. covers.up ≡ up_of c.as_slice.result.now
    (c.from-2.result - 1 + 1)) = search rules in
    let is : up_of c.as_slice.result.now (c.from-2.result - 1 + 1) ≡ covers_up c.args.r w =
    ap₂ up_of letters (one_before _ _ c.from-2.ensures c.requires.place)
    ∙ covers_up_fixed w c.args.r last (few (length w) c.args.r c.requires.letters c.requires.last)
    c.letters.ensures.limits c.requires.place refl in
    subst (λ list. IfOk c.of_letters.result (λ covers. covers.up ≡ list)) is found

pub returns-clause-down : goal.returns-clause-down
returns-clause-down c =
    let w = c.args.self.now in
    let last = max (length c.args.self.now) c.args.r + 1 in
    let letters = letters_are _ _ _ _ _ _ _ _ c.as_slice.ensures c.in_ok-letters.ensures
    c.letters.ensures.value c.from.ensures c.max-last.ensures c.len.ensures.value in
    let found : IfOk c.of_letters.result (λ covers. covers.down ≡ down_of c.as_slice.result.now
    (c.from-2.result - 1)) = search rules in
    let is : down_of c.as_slice.result.now (c.from-2.result - 1) ≡ covers_down c.args.r w =
    ap₂ (λ k m. covers_among c.as_slice.result.now (map (λ i. times_swap i k c.as_slice.result.now)
    (after 0 m))) (one_before _ _ c.from-2.ensures c.requires.place)
    (ap (λ n. n - 1) c.from-2.ensures)
    ∙ ap (covers_down c.args.r) letters
    ∙ covers_down_fixed w c.args.r last (few (length w) c.args.r c.requires.letters c.requires.last)
    c.letters.ensures.limits in
    subst (λ list. IfOk c.of_letters.result (λ covers. covers.down ≡ list)) is found

pub overflow_add-self-inside : goal.overflow_add-self-inside
overflow_add-self-inside c =
    let few = few_inversions c.self.inside.letters.items c.self.invariant.limits.few in
    let count = c.self.invariant.count_is in
    omega arith

pub of_letters-requires-clause-count : goal.of_letters-requires-clause-count
of_letters-requires-clause-count c =
    let w = c.args.self.now in
    let is = letters_are _ _ _ _ _ _ _ _ c.as_slice.ensures c.in_ok-letters.ensures
    c.letters.ensures.value c.from.ensures c.max-last.ensures c.len.ensures.value in
    ap (λ n. n + 1)
    (c.self.invariant.count_is ∙ ap inversions c.self.view_is
    ∙ sym (same_inversions w (max (length w) c.args.r + 1)
    (few (length w) c.args.r c.requires.letters c.requires.last) c.letters.ensures.limits)
    ∙ ap inversions (sym is))
