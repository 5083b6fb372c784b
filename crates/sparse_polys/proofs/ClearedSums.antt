-- Lists of terms with fractions as coefficients, multiplied by a common denominator q so that the coefficients are integers; terms are added to such
-- a list one after another (specs/Cleared of linear_combinations). A *table* is a list in which each label occurs once, with a coefficient that is
-- not 0.
--     found_over, mass_over, table_over   q times a table of fractions is a table of integers
--     Gains-term, Overflows-term          one term added to a list of fractions
--     Gains-entry, Overflows-entry        one term added to a table over any ring
--     scaled_twice                        a multiple of a multiple of a list
use Rattle.std.proofs.Common.{◌≡◌, ◌⊎◌, ℕ, ◌+◌, ◌*◌, ◌/◌, ◌^◌, ◌<◌, ◌≤◌, Bool, true, false, cond, List, [], ◌∷◌, ◌++◌, refl, sym, ap, ap₂, ◌∙◌, subst, inl, inr, arith, ℤ, pos, ◌+ℤ◌, ◌*ℤ◌, unsigned_abs}
use Rattle.std.specs.Prelude.{nat_eq, nat_abs, Option, Some, None, IsSome}
use Rattle.std.specs.Int.{◌∣◌}
use Rattle.std.specs.List.{IsDistinct}
use Rattle.std.specs.Map.{lookup, keys_of}
use Rattle.std.specs.Option.{unwrap_or}
use Rattle.std.specs.Cmp.Lexicographic.{pointwise, nat_list_eq_equiv}
use Rattle.std.proofs.lemmas.Bool.{cases_lt, and_parts, and_from}
use Rattle.std.proofs.lemmas.Int.{ints, unsigned_abs-mul}
use Rattle.sym_model.specs.Sum.{total, Among}
use Rattle.sym_model.specs.Polynomial.{pair}
use Rattle.sym_model.specs.Canonical.{is_reduced}
use Rattle.sym_model.specs.Expansion.{Fraction, Terms}
use Rattle.sym_model.specs.ListWeight.{absolute_sum}
use Rattle.sym_model.specs.WholeTerms.{WholeTermsOf}
use Rattle.sym_model.proofs.Integers.{nat_abs-product}
use Rattle.sym_model.proofs.Orders.{is_reduced-tells}
use Rattle.sym_model.proofs.Ring.{distributes_right, product_assoc}
use Rattle.sym_model.proofs.Sums.{total_map}
use Rattle.monomial_laws.specs.ExpressionTerms.{over}
use Rattle.fraction_laws.specs.Fractions.{scaled, whole, InLowestTerms, fraction_sum, fraction_product}
use Rattle.fraction_laws.specs.Room.{magnitude, HasRoomForSum}
use Rattle.fraction_laws.specs.Answers.{AnswersSum}
use Rattle.fraction_laws.proofs.Cleared.{unsigned_abs-scaled, sum-cleared, product-cleared}
use Rattle.fraction_laws.proofs.Divisors.{quotient_positive}
use Rattle.fraction_laws.proofs.Fractions.{InLowestTerms-whole}
use Rattle.linear_combinations.specs.Entries
use Rattle.linear_combinations.specs.Gains.{over as sum_over, only, mass, scaled as multiple}
use Rattle.linear_combinations.proofs.Gains.{over_at}
use Rattle.linear_combinations.proofs.LowestTerms.{is_reduced-lowest}
use Rattle.sparse_polys.specs.Combination.{terms_of, are_terms, HasMoreAt, IsCombination}
use Rattle.linear_combinations.proofs.Labels.{same_partition}
use Rattle.sparse_polys.specs.Refusal.{IsRefused}
use Rattle.sparse_polys.proofs.Tables.{lowest-coefficient}
use Rattle.sparse_polys.proofs.Totals.{total-more}
use Rattle.sparse_polys.proofs.ValueLists.{coefficient_values, combination_values, more_values}
use Rattle.sparse_polys.proofs.ValueLists.{refused_values}
use Rattle.linear_combinations.specs.Cleared.{AreCleared, IsDenominator, GainsCleared}
use Rattle.linear_combinations.specs.Cleared.{OverflowsCleared}
use Rattle.sparse_polys.specs.Products.{coefficient_at}
use Rattle.sparse_polys.proofs.Coefficients.{nat_abs-is}
use native.Mathlib.Nat.{mul-pos}
use lib.IntN.{+ℤ_idr, zero-*ℤ}

pub lowest_at : {is_label : List ℕ → Bool} (terms : Terms (List ℕ)) → IsCombination (pointwise nat_eq) is_label terms → (e : List ℕ) → InLowestTerms (coefficient_at terms e)
lowest_at {is_label} terms is e = lowest-coefficient is_label nat_list_eq_equiv same_partition terms is.proper e

pub scaled-nothing : (q : ℕ) → scaled q (whole (pos 0)) ≡ pos 0
scaled-nothing q = zero-*ℤ (pos (q / 1))

module _ (q : ℕ) where
  pub size_scaled : (c : Fraction) → nat_abs (scaled q c) ≡ magnitude q c
  size_scaled c = nat_abs-is (scaled q c) ∙ unsigned_abs-scaled q c

  pub mass_over : (terms : Terms (List ℕ)) → mass (over q terms) ≡ absolute_sum q terms
  mass_over [] = refl
  mass_over (t ∷ terms) = ap₂ (λ a b. a + b) (nat_abs-product t.1.0 (pos (q / t.1.1))) (mass_over terms)

  pub over_sum : (φ : List ℕ → ℤ) (terms : Terms (List ℕ)) → pair (over q terms) φ ≡ total (λ (t : List ℕ × Fraction). scaled q t.1 *ℤ φ t.0) terms
  over_sum φ terms = total_map (λ (t : List ℕ × ℤ). t.1 *ℤ φ t.0) (λ (t : List ℕ × Fraction). (t.0, scaled q t.1)) terms

  coefficient_over : (terms : Terms (List ℕ)) (e : List ℕ) → Entries.coefficient (pointwise nat_eq) (pos 0) (over q terms) e ≡ scaled q (coefficient_at terms e)
  coefficient_over [] e = sym (scaled-nothing q)
  coefficient_over (t ∷ terms) e = by (pointwise nat_eq e t.0) (coefficient_over terms e)
    where
      by : (b : Bool) → Entries.coefficient (pointwise nat_eq) (pos 0) (over q terms) e ≡ scaled q (coefficient_at terms e)
          → unwrap_or (cond b (Some (scaled q t.1)) (lookup (pointwise nat_eq e) (over q terms))) (pos 0)
          ≡ scaled q (unwrap_or (cond b (Some t.1) (lookup (pointwise nat_eq e) terms)) (pos 0, 1))
      by true h = refl
      by false h = h

  keys_over : (terms : Terms (List ℕ)) → keys_of (over q terms) ≡ keys_of terms
  keys_over [] = refl
  keys_over (t ∷ terms) = ap (λ ks. t.0 ∷ ks) (keys_over terms)

  module _ {is_label : List ℕ → Bool} (terms : Terms (List ℕ)) (is : IsCombination (pointwise nat_eq) is_label terms) where
    distinct_over : IsDistinct (pointwise nat_eq) (keys_of (over q terms))
    distinct_over = subst (IsDistinct (pointwise nat_eq)) (sym (keys_over terms)) is.distinct

    pub found_over : (e : List ℕ) → sum_over (only (pointwise nat_eq) e) (over q terms) ≡ scaled q (coefficient_at terms e)
    found_over e = over_at nat_list_eq_equiv same_partition (over q terms) distinct_over e ∙ coefficient_over terms e

    pub table_over : 0 < q → ((t : List ℕ × Fraction) → Among t terms → t.1.1 ∣ q) → Entries.IsCombination (pointwise nat_eq) is_label whole (over q terms)
    table_over some divides = record { distinct = distinct_over; proper = proper terms is.proper divides }
      where
        proper : (terms : Terms (List ℕ)) → are_terms is_label terms ≡ true
            → ((t : List ℕ × Fraction) → Among t terms → t.1.1 ∣ q) → Entries.are_terms whole is_label (over q terms) ≡ true
        proper [] h divides = refl
        proper (t ∷ terms) h divides =
            let p = and_parts _ _ h in
            let r = and_parts (is_reduced t.1) (is_label t.0) p.0 in
            let positive : 0 < nat_abs (scaled q t.1) =
            let n = nat_abs-product t.1.0 (pos (q / t.1.1)) in
            let m = mul-pos (is_reduced-tells t.1 r.0).nonzero (quotient_positive q t.1.1 some (divides t (inl refl))) in
            omega arith in
            and_from _ _
            (and_from _ _
            (is_reduced-lowest (whole (scaled q t.1)) (InLowestTerms-whole (scaled q t.1))
            (λ e. let z = ap (λ (c : Fraction). nat_abs c.0) e in omega arith))
            r.1)
            (proper terms p.1 (λ u m. divides u (inr m)))

-- ---- the term (k, c) is added to the list `old`; q is a multiple of the denominators of c and of the coefficients of `old`

module _ {is_label : List ℕ → Bool} (q : ℕ) (old new : Terms (List ℕ)) (k : List ℕ) (c : Fraction)
    (is : IsCombination (pointwise nat_eq) is_label old) (also : IsCombination (pointwise nat_eq) is_label new) (low : InLowestTerms c)
    (some : 0 < q) (divides : c.1 ∣ q) (cleared : AreCleared (pointwise nat_eq) q old)
    (more : HasMoreAt (pointwise nat_eq) old k c new) where
  both : ((fraction_sum (coefficient_at old k) c).1 ∣ q) × (scaled q (fraction_sum (coefficient_at old k) c) ≡ scaled q (coefficient_at old k) +ℤ scaled q c)
  both = sum-cleared q (coefficient_at old k) c (lowest_at old is k) low some (cleared k) divides

  sum_here : scaled q (coefficient_at new k) ≡ scaled q (coefficient_at old k) +ℤ scaled q c
  sum_here =
      ap (scaled q) (more k ∙ ap (λ b. cond b (fraction_sum (coefficient_at old k) c) (coefficient_at old k)) (nat_list_eq_equiv.refl k)) ∙ both.1

  cleared_more : AreCleared (pointwise nat_eq) q new
  cleared_more e = by (pointwise nat_eq k e) (more e)
    where
      by : (b : Bool) → coefficient_at new e ≡ cond b (fraction_sum (coefficient_at old k) c) (coefficient_at old e) → (coefficient_at new e).1 ∣ q
      by true f = subst (λ (r : Fraction). r.1 ∣ q) (sym f) both.0
      by false f = subst (λ (r : Fraction). r.1 ∣ q) (sym f) (cleared e)

  sums_more : (φ : List ℕ → ℤ) → pair (over q new) φ ≡ pair (over q old) φ +ℤ pair ((k, scaled q c) ∷ []) φ
  sums_more φ =
      let t = total-more nat_list_eq_equiv same_partition (λ (l : List ℕ) (r : Fraction). scaled q r *ℤ φ l) (λ l. ap (λ z. z *ℤ φ l) (scaled-nothing q) ∙ zero-*ℤ (φ l)) k old new is also c more in
      let e = ap (λ z. z *ℤ φ k) sum_here in
      let d = distributes_right (scaled q (coefficient_at old k)) (scaled q c) (φ k) in
      let x = over_sum q φ old in
      let y = over_sum q φ new in
      let n = +ℤ_idr (scaled q c *ℤ φ k) in
      omega (arith, ints)

  pub Gains-term : (z : ℤ) → scaled q c ≡ z
      → GainsCleared (pointwise nat_eq) is_label q old ((k, z) ∷ []) new
  Gains-term z e = record {
    table = λ was. also;
    cleared = cleared_more;
    gains = record { sums = λ φ. sums_more φ ∙ ap (λ y. pair (over q old) φ +ℤ pair ((k, y) ∷ []) φ) e };
  }

-- if q < 2^127 is a common denominator, and the checked addition of the ring gives None for c and the coefficient a of k in `old`, then
-- |q·a| + |q·c| ≥ 2^127
module _ {R : Type 0} (is_held : R → Type 0) (value : R → Fraction) (checked : R → R → Option R) (answers : (a b : R) → is_held a → is_held b → AnswersSum value a b (checked a b))
    (q : ℕ) (old : Terms (List ℕ)) (k : List ℕ) (c : Fraction) (refused : IsRefused is_held value checked (coefficient_at old k) c)
    (some : 0 < q) (small : q < 2 ^ 127) (divides : c.1 ∣ q)
    (cleared : AreCleared (pointwise nat_eq) q old) where
  pub sum_large : 2 ^ 127 ≤ magnitude q (coefficient_at old k) + magnitude q c
  sum_large =
      by
      (λ r. no_some (checked refused.left refused.right) refused.refused ((answers refused.left refused.right refused.left_held refused.right_held).room q r))
      (cases_lt (magnitude q (coefficient_at old k) + magnitude q c) (2 ^ 127))
    where
      no_some : (o : Option R) → o ≡ None → IsSome o → ⊥
      no_some None e s = cc
      no_some (Some x) e s = cc

      by : (HasRoomForSum q (value refused.left) (value refused.right) → ⊥)
          → (magnitude q (coefficient_at old k) + magnitude q c < 2 ^ 127) ⊎ (2 ^ 127 ≤ magnitude q (coefficient_at old k) + magnitude q c)
          → 2 ^ 127 ≤ magnitude q (coefficient_at old k) + magnitude q c
      by none (inl l) =
          absurd
          (none
          (subst (λ r. HasRoomForSum q r (value refused.right)) (sym refused.left_value)
          (subst (λ r. HasRoomForSum q (coefficient_at old k) r) (sym refused.right_value)
          (record { positive = some; small = small; left = cleared k; right = divides; room = l }))))
      by none (inr l) = l

  pub Overflows-term : {is_label : List ℕ → Bool} → IsCombination (pointwise nat_eq) is_label old
      → (z : ℤ) → scaled q c ≡ z → OverflowsCleared (pointwise nat_eq) q old ((k, z) ∷ [])
  Overflows-term is z e =
      let l = sum_large in
      let a = ap nat_abs (found_over q old is k) ∙ size_scaled q (coefficient_at old k) in
      let b = ap nat_abs (sym e) ∙ size_scaled q c in
      let h = ap (λ b. cond b (nat_abs z) 0) (nat_list_eq_equiv.refl k) in
      (k, omega arith)

-- adding v to the coefficient of k in a table over any ring adds value(v) to the coefficient of k in the list of values
module _ {R : Type 0} (value : R → Fraction) (zero : R) (none : value zero ≡ whole (pos 0))
    {is_label : List ℕ → Bool} (q : ℕ) (entries : List (List ℕ × R)) (k : List ℕ) (v : R)
    (was : Entries.IsCombination (pointwise nat_eq) is_label value entries) (some : 0 < q)
    (divides : (value v).1 ∣ q) (cleared : AreCleared (pointwise nat_eq) q (terms_of value entries))
  where
    pub Gains-entry : (sum : R → R → R)
        → ((a b : R) → value (sum a b) ≡ fraction_sum (value a) (value b))
        → (after : List (List ℕ × R)) → InLowestTerms (value v)
        → Entries.IsCombination (pointwise nat_eq) is_label value after
        → Entries.HasMoreAt (pointwise nat_eq) zero sum entries k v after
        → (z : ℤ) → scaled q (value v) ≡ z
        → GainsCleared (pointwise nat_eq) is_label q (terms_of value entries) ((k, z) ∷ [])
        (terms_of value after)
    Gains-entry sum sums after low also more z e =
        Gains-term q (terms_of value entries) (terms_of value after) k (value v)
        (combination_values value (pointwise nat_eq) is_label entries was)
        (combination_values value (pointwise nat_eq) is_label after also) low some divides cleared
        (more_values value zero none (pointwise nat_eq) sum sums entries k v after more) z e

    pub Overflows-entry : (is_held : R → Type 0) (checked : R → R → Option R)
        → ((a b : R) → is_held a → is_held b → AnswersSum value a b (checked a b)) → q < 2 ^ 127
        → Entries.IsRefused is_held checked (Entries.coefficient (pointwise nat_eq) zero entries k) v
        → (z : ℤ) → scaled q (value v) ≡ z
        → OverflowsCleared (pointwise nat_eq) q (terms_of value entries) ((k, z) ∷ [])
    Overflows-entry is_held checked answers small refused z e =
        Overflows-term is_held value checked answers q (terms_of value entries) k (value v)
        (refused_values value is_held checked
        (Entries.coefficient (pointwise nat_eq) zero entries k) v _ _
        (coefficient_values value zero none (pointwise nat_eq) entries k) refl refused) some small
        divides cleared (combination_values value (pointwise nat_eq) is_label entries was) z e

pub record IsClearedProduct (d e : ℕ) (a b c : Fraction) : Type 0 where
  pub positive : 0 < d * e
  pub divides : c.1 ∣ d * e
  pub value : scaled (d * e) c ≡ scaled d a *ℤ scaled e b
  pub size : magnitude (d * e) c ≡ magnitude d a * magnitude e b

pub cleared-product : (d e : ℕ) (a b c : Fraction) → InLowestTerms a → InLowestTerms b
    → c ≡ fraction_product a b → IsDenominator d a × IsDenominator e b → IsClearedProduct d e a b c
cleared-product d e a b c la lb f h =
    let u = product-cleared d e a b la lb h.0.positive h.1.positive h.0.multiple h.1.multiple in
    let v : scaled (d * e) c ≡ scaled d a *ℤ scaled e b = ap (scaled (d * e)) f ∙ u.1 in
    record {
      positive = mul-pos h.0.positive h.1.positive;
      divides = subst (λ (r : Fraction). r.1 ∣ (d * e)) (sym f) u.0;
      value = v;
      size = sym (unsigned_abs-scaled (d * e) c) ∙ ap unsigned_abs v ∙ unsigned_abs-mul (scaled d a) (scaled e b)
          ∙ ap₂ ◌*◌ (unsigned_abs-scaled d a) (unsigned_abs-scaled e b);
    }

pub scaled_twice : {L : Type 0} (c d : ℤ) (xs : WholeTermsOf L) → multiple (c *ℤ d) xs ≡ multiple c (multiple d xs ++ [])
scaled_twice c d [] = refl
scaled_twice {L} c d (t ∷ xs) = ap (λ z. (t.0, z) ∷ multiple (c *ℤ d) xs) (product_assoc c d t.1) ∙ ap (λ (l : WholeTermsOf L). (t.0, c *ℤ (d *ℤ t.1)) ∷ l) (scaled_twice c d xs)
