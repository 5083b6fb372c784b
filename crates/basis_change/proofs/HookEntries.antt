-- The beta numbers of a partition λ in k rows are the numbers λ_i + k - i; the set of these numbers is a beta set. To add a rim hook of a cells that
-- begins in a new row below the others, each beta number is increased by 1, and then the number a is inserted.
use Rattle.std.proofs.Common.{◌≡◌, ℕ, suc, ◌+◌, ◌-◌, ◌*◌, ◌^◌, ◌<◌, ◌≤◌, nat_le, Bool, true, false, cond, List, [], ◌∷◌, map, length, refl, sym, ap, ◌∙◌, subst, arith, ℤ, ◌*ℤ◌, rules}
use Rattle.std.specs.Prelude.{nat_abs, nat_eq}
use Rattle.std.specs.Cmp.{nat_eq_equiv}
use Rattle.std.proofs.lemmas.Nat.{or_lt}
use Rattle.std.proofs.Math.Nat.{pow-le-pow_right}
use Rattle.sym_model.specs.Partition.{ArePositive, IsPartition, size, rows}
use Rattle.sym_model.specs.Bases.{has}
use Rattle.sym_model.specs.BetaList.{beta, put_falling, greater, from_beta}
use Rattle.sym_model.specs.PlaceOrders.{minus_one_to}
use Rattle.sym_model.proofs.Integers.{sign_size, nat_abs-product}
use Rattle.beta_list_laws.specs.StrictFall.{FallsStrictly}
use Rattle.beta_list_laws.proofs.BetaLists.{from_beta_partition, beta-from_beta}
use Rattle.basis_change.specs.SpecialRimHooks.{straight_value, hooked}
use Rattle.basis_change.proofs.HookSteps.{beta-last, length-others, value-again, value-put, strict-put, size-put}
use Rattle.linear_combinations.specs.Gains.{WholeTermsOf, over, mass, scaled, HaveLabels, Overflows}
use Rattle.linear_combinations.proofs.Gains.{overflows_alone}
use Rattle.basis_change.specs.RimHooks.{hook}
use Rattle.beta_sets.specs.BetaSets.{numbers, shape, IsBetaSet, IsShape}
use Rattle.linear_combinations.proofs.Labels.{same_number}
use Rattle.beta_sets.proofs.BinaryPlaces.{places-even, places-odd, places-more, places-put}
use Rattle.beta_sets.proofs.BetaSets.{digit-absent, or_digit}
use Rattle.beta_sets.proofs.ShapeSums.{one_label}
use Rattle.alternant_laws.proofs.EnoughPlaces.{rows-full}
use lib.IntN.{+ℤ_idr}
use Rattle.sym_model.proofs.Numbers.{pow_next}

-- ---- a strictly decreasing list without 0 is the beta list of a partition with a row for each number

positive_put : (a : ℕ) (xs : List ℕ) → 0 < a → ArePositive (put_falling a (map suc xs))
positive_put a [] h = (h, tt)
positive_put a (x ∷ xs) h = by (nat_le (suc x) a) (positive_put a xs h)
  where
    others : (xs : List ℕ) → ArePositive (map suc xs)
    others [] = tt
    others (x ∷ xs) = (omega arith, others xs)

    by : (t : Bool) → ArePositive (put_falling a (map suc xs)) → ArePositive (cond t (a ∷ suc x ∷ map suc xs) (suc x ∷ put_falling a (map suc xs)))
    by true r = (h, (omega arith, others xs))
    by false r = (omega arith, r)

rows-put : (ν : List ℕ) (k a : ℕ) → 0 < a → FallsStrictly (put_falling a (map suc (beta k ν))) → rows (from_beta (put_falling a (map suc (beta k ν)))) ≡ length (put_falling a (map suc (beta k ν)))
rows-put ν k a h f =
    rows-full (put_falling a (map suc (beta k ν))) f (positive_put a (beta k ν) h)

-- if the bits of the number `set` are at the beta numbers of ν for k rows, the bits of 2·set + 1 are at those for k + 1 rows (`IsBetaSet`)
pub lengthened_is : (ν : List ℕ) (k set next m : ℕ) → IsBetaSet ν k set → set < 2 ^ 63 → next ≡ 2 * set + 1 → m ≡ k + 1 → IsBetaSet ν m next
lengthened_is ν k set next m is low e s = search (rules, places-odd, places-more, beta-last)

pub greater_within : (a : ℕ) (b : List ℕ) → greater a b ≤ length b
greater_within a [] = omega arith
greater_within a (x ∷ b) = search (rules, (greater_within a b))

pub hook-none : (a set : ℕ) → has a (numbers (2 * set)) ≡ true → hook a set ≡ []
hook-none a set h = ap (λ t. cond t [] ((2 * set + 2 ^ a, minus_one_to (length (numbers (2 * set)) - greater a (numbers (2 * set)))) ∷ [])) h

pub hook-one : (a set : ℕ) → has a (numbers (2 * set)) ≡ false → hook a set ≡ (2 * set + 2 ^ a, minus_one_to (length (numbers (2 * set)) - greater a (numbers (2 * set)))) ∷ []
hook-one a set h = ap (λ t. cond t [] ((2 * set + 2 ^ a, minus_one_to (length (numbers (2 * set)) - greater a (numbers (2 * set)))) ∷ [])) h

module _ (a set others : ℕ) (c : ℤ) (twice : others ≡ 2 * set) (none : has a (numbers others) ≡ false) where
  here : has a (numbers (2 * set)) ≡ false
  here = ap (λ o. has a (numbers o)) (sym twice) ∙ none

  pub hook-added : (made passed : ℕ) (number : ℤ) → made ≡ others + 2 ^ a → number ≡ minus_one_to passed *ℤ c → passed ≡ length (numbers others) - greater a (numbers others) → (made, number) ∷ [] ≡ scaled c (hook a set)
  hook-added made passed number m n e = search rules

  pub hook-past : (old : WholeTermsOf ℕ) → 2 ^ 127 ≤ nat_abs c → Overflows nat_eq old (scaled c (hook a set))
  hook-past old large =
      let passed = length (numbers (2 * set)) - greater a (numbers (2 * set)) in
      let p = nat_abs-product c (minus_one_to passed) in
      let s = ap (λ n. nat_abs c * n) (sign_size passed) in
      subst (Overflows nat_eq old) (sym (ap (scaled c) (hook-one a set here))) (overflows_alone nat_eq_equiv same_number old (2 * set + 2 ^ a) (c *ℤ minus_one_to passed) (omega arith))

pub hook-mass : (a set : ℕ) → mass (hook a set) ≤ 1
hook-mass a set = search (rules, sign_size)

module _ (ν : List ℕ) (k set a : ℕ) (is : IsBetaSet ν k set) (low : set < 2 ^ 63) where
  others_are : numbers (2 * set) ≡ map suc (beta k ν)
  others_are = places-even 63 set ∙ ap (map suc) (sym (places-more 63 set low) ∙ is.numbers)

  module _ (few : a ≤ 20) (none : has a (numbers (2 * set)) ≡ false) where
    absent : has a (map suc (beta k ν)) ≡ false
    absent = ap (has a) (sym others_are) ∙ none

    numbers_are : numbers (2 * set + 2 ^ a) ≡ put_falling a (map suc (beta k ν))
    numbers_are = places-put 64 a (2 * set) (omega arith) (digit-absent (2 * set) a (omega arith) none) ∙ ap (put_falling a) others_are

    strict : FallsStrictly (put_falling a (map suc (beta k ν)))
    strict = strict-put ν k a is.partition absent

    shape-made : (d : ℕ) → 0 < a → size ν + a ≤ d → set < 2 ^ d → IsShape d (2 * set + 2 ^ a)
    shape-made d h cells below = record {
      beta = record {
        partition = subst (λ m. IsPartition (from_beta m)) (sym numbers_are) (from_beta_partition (put_falling a (map suc (beta k ν))) strict);
        enough = omega arith;
        numbers =
            subst (λ m. m ≡ beta (rows (from_beta m)) (from_beta m)) (sym numbers_are)
            (sym (ap (λ n. beta n (from_beta (put_falling a (map suc (beta k ν))))) (rows-put ν k a h strict) ∙ beta-from_beta (put_falling a (map suc (beta k ν))) strict));
      };
      cells = let e = ap (λ m. size (from_beta m)) numbers_are in let s = size-put ν k a is.partition absent is.enough in omega arith;
      low =
          let p = pow_next d in
          let q : 2 ^ a ≤ 2 ^ d = pow-le-pow_right {n = 2} (omega arith) (omega arith) in
          subst (λ m. m < 2 ^ (d + 1)) (or_digit (2 * set) a (omega arith) none) (or_lt (d + 1) (2 * set) (2 ^ a) (omega arith) (omega arith));
    }

    value-made : (φ : List ℕ → ℤ) → over (λ s. φ (shape s)) ((2 * set + 2 ^ a, minus_one_to (length (numbers (2 * set)) - greater a (numbers (2 * set)))) ∷ []) ≡ straight_value φ (hooked ν (k + 1) a)
    value-made φ = search (rules, +ℤ_idr, numbers_are, value-put, absent, greater_within, others_are, length-others)

  pub hook-over : a ≤ 20 → (φ : List ℕ → ℤ) → over (λ s. φ (shape s)) (hook a set) ≡ straight_value φ (hooked ν (k + 1) a)
  hook-over few φ = search (rules, hook-none, value-again, others_are, hook-one, value-made)

  pub hook-labels : a ≤ 20 → (d : ℕ) → 0 < a → size ν + a ≤ d → set < 2 ^ d → HaveLabels (IsShape d) (hook a set)
  hook-labels few d positive cells below = by (has a (numbers (2 * set))) refl
    where
      by : (t : Bool) → has a (numbers (2 * set)) ≡ t → HaveLabels (IsShape d) (hook a set)
      by true h = subst (HaveLabels (IsShape d)) (sym (hook-none a set h)) (λ t m. absurd m)
      by false h = subst (HaveLabels (IsShape d)) (sym (hook-one a set h)) (one_label (IsShape d) _ _ (shape-made few h d positive cells below))
