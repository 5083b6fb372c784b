-- The signs of reductions are 1 or -1, so reducing a list does not increase the sum of the absolute values of its coefficients.
use Rattle.std.proofs.Common.{◌≡◌, ℕ, ◌+◌, ◌*◌, ◌≤◌, ◌==◌, ◌||◌, zero, suc, inl, inr, Bool, true}
use Rattle.std.proofs.Common.{false, cond, nat_le, nat_lt, List, refl, sym, ap, ap₂, ◌∙◌, subst}
use Rattle.std.proofs.Common.{arith, ℤ, pos, negsuc, neg_ℤ, ◌*ℤ◌, Option, Some, None}
use Rattle.std.specs.Prelude.{nat_abs}
use Rattle.std.proofs.lemmas.Int.{ints}
use Rattle.sym_model.specs.Partition.{columns, rows}
use Rattle.sym_model.specs.PlaceOrders.{minus_one_to}
use Rattle.sym_model.specs.BetaList.{beta, has_equal_entries, sorted_falling, rising_pairs}
use Rattle.sym_model.specs.BetaList.{sorting_sign}
use Rattle.sym_model.specs.AlcoveReduction.{spread, squares, reflected, with_sign, reflected_within}
use Rattle.sym_model.specs.AlcoveReduction.{reflected_into_alcove, as_partition, alcove_reduction}
use Rattle.sym_model.specs.Reductions.{Reduction}
use Rattle.sym_model.proofs.Ring.{product-one}
use Rattle.beta_list_laws.specs.LowestList.{lowest, end_of, end_sign, power_of}
use Rattle.beta_list_laws.specs.LowestList.{reduction_by_remainders}
use Rattle.reduction_laws.specs.Collected.{IsSign}

pub power_sign : (m : ℕ) → IsSign (minus_one_to m)
power_sign zero = inl refl
power_sign (suc m) = elim (power_sign m) [ inl e ↦ inr (ap neg_ℤ e) | inr e ↦ inl (ap neg_ℤ e) ]

abbrev pub sign_in : ℤ → Reduction → ℤ
sign_in d None = d
sign_in d (Some r) = r.1

pub core_sign : (k n : ℕ) (shape end : List ℕ) (sign : ℤ) (power : ℕ)
    → Some (end, sign, power) ≡ reduction_by_remainders k n shape → IsSign sign
core_sign k n shape end sign power e =
    subst IsSign (sym (ap (sign_in (pos 1)) e)) (by (nat_le (k + columns (end_of k n shape)) n))
  where
    by : (b : Bool) → IsSign (sign_in (pos 1)
        (cond b (Some (end_of k n shape, end_sign k n shape, power_of k n shape)) None))
    by true = power_sign (power_of k n shape * (k + 1) + rising_pairs (lowest n (beta k shape)))
    by false = inl refl

abbrev pub answer_sign : ℤ → Option (List ℕ × ℤ) → ℤ
answer_sign d None = d
answer_sign d (Some a) = a.1

sign_product : (s t : ℤ) → IsSign s → IsSign t → IsSign (s *ℤ t)
sign_product s t (inl e) (inl d) = inl (ap₂ ◌*ℤ◌ e d)
sign_product s t (inl e) (inr d) = inr (ap₂ ◌*ℤ◌ e d)
sign_product s t (inr e) (inl d) = inr (ap₂ ◌*ℤ◌ e d)
sign_product s t (inr e) (inr d) = inl (ap₂ ◌*ℤ◌ e d)

with_sign_is : (t : ℤ) (r : Option (List ℕ × ℤ)) → IsSign t → IsSign (answer_sign (pos 1) r)
    → IsSign (answer_sign (pos 1) (with_sign t r))
with_sign_is t None s d = inl refl
with_sign_is t (Some a) s d = sign_product t a.1 s d

within_is : (steps n : ℕ) (b : List ℕ) → IsSign (answer_sign (pos 1) (reflected_within steps n b))
within_is zero n b = inl refl
within_is (suc steps) n b =
    by (nat_lt (spread b) n) ((spread b == n) || has_equal_entries (reflected n b))
    (within_is steps n (sorted_falling (reflected n b)))
  where
    by : (s t : Bool) → IsSign (answer_sign (pos 1)
        (reflected_within steps n (sorted_falling (reflected n b))))
        → IsSign (answer_sign (pos 1)
        (cond s (Some (b, pos 1))
        (cond t None (with_sign (sorting_sign (reflected n b))
        (reflected_within steps n (sorted_falling (reflected n b)))))))
    by true t h = inl refl
    by false true h = inl refl
    by false false h =
        with_sign_is (sorting_sign (reflected n b))
        (reflected_within steps n (sorted_falling (reflected n b)))
        (power_sign (rising_pairs (reflected n b))) h

partition_is : (r : Option (List ℕ × ℤ)) → IsSign (answer_sign (pos 1) r)
    → IsSign (answer_sign (pos 1) (as_partition r))
partition_is None s = s
partition_is (Some a) s = s

pub alcove_is : (k n : ℕ) (shape : List ℕ)
    → IsSign (answer_sign (pos 1) (alcove_reduction k n shape))
alcove_is k n shape = by (nat_le (rows shape) k)
  where
    by : (t : Bool) → IsSign (answer_sign (pos 1)
        (cond t (as_partition (reflected_into_alcove n (beta k shape))) None))
    by true =
        partition_is (reflected_into_alcove n (beta k shape))
        (within_is (suc (squares (beta k shape))) n (beta k shape))
    by false = inl refl

pub sign_told : (k n : ℕ) (shape end : List ℕ) (sign : ℤ)
    → Some (end, sign) ≡ alcove_reduction k n shape → IsSign sign
sign_told k n shape end sign e =
    subst IsSign (sym (ap (answer_sign (pos 1)) e)) (alcove_is k n shape)

pub signed_size : (c sign : ℤ) → IsSign sign → nat_abs (c *ℤ sign) ≡ nat_abs c
signed_size c sign (inl e) = ap (λ s. nat_abs (c *ℤ s)) e ∙ ap nat_abs (product-one c)
signed_size c sign (inr e) = ap (λ s. nat_abs (c *ℤ s)) e ∙ by c
  where
    by : (z : ℤ) → nat_abs (z *ℤ negsuc 0) ≡ nat_abs z
    by (pos n) = omega (arith, ints)
    by (negsuc n) = omega (arith, ints)

pub core_is : (k n : ℕ) (shape : List ℕ)
    → IsSign (sign_in (pos 1) (reduction_by_remainders k n shape))
core_is k n shape = by (reduction_by_remainders k n shape) refl
  where
    by : (r : Reduction) → reduction_by_remainders k n shape ≡ r → IsSign (sign_in (pos 1) r)
    by None e = inl refl
    by (Some r) e = core_sign k n shape r.0 r.1 r.2 (sym e)

pub sign_light : (sign : ℤ) → IsSign sign → nat_abs sign ≤ 1
sign_light sign (inl e) = let a = ap nat_abs e in omega arith
sign_light sign (inr e) = let a = ap nat_abs e in omega arith
