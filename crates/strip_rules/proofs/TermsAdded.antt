-- Terms that are added to a table, each times the coefficient c (`GainsMultiple`, `OverflowsMultiple`).
--     Gains-shape, Overflows-shape    one partition after another
--     Gains-signed, Overflows-signed  one term with a sign, in a table over any ring
--     Overflows-size                  adding a term overflows if c is too large by itself
use Rattle.std.proofs.Common.{◌≡◌, ℕ, ◌*◌, ◌^◌, ◌≤◌, List, [], ◌∷◌, ◌++◌, refl, sym, ap, subst, arith, ℤ, pos, ◌*ℤ◌}
use Rattle.std.specs.Prelude.{nat_eq, nat_abs, Option}
use Rattle.std.specs.Int.{◌∣◌}
use Rattle.std.specs.Cmp.Lexicographic.{pointwise, nat_list_eq_equiv}
use Rattle.sym_model.specs.Canonical.{is_label}
use Rattle.sym_model.specs.Expansion.{Fraction, Terms}
use Rattle.sym_model.proofs.Integers.{nat_abs-product}
use Rattle.fraction_laws.specs.Fractions.{scaled as numerator_over, whole, InLowestTerms, fraction_sum}
use Rattle.fraction_laws.specs.Room.{magnitude}
use Rattle.fraction_laws.specs.Answers.{AnswersSum}
use Rattle.linear_combinations.specs.Entries
use Rattle.linear_combinations.specs.Gains.{scaled}
use Rattle.linear_combinations.proofs.Labels.{same_partition}
use Rattle.linear_combinations.proofs.Gains.{overflows_alone}
use Rattle.sparse_polys.specs.Combination.{terms_of}
use Rattle.linear_combinations.specs.Cleared.{numerators_over, OverflowsCleared}
use Rattle.linear_combinations.proofs.Cleared.{Gains-next, Overflows-next}
use Rattle.sparse_polys.proofs.ClearedSums.{size_scaled, Gains-entry, Overflows-entry}
use Rattle.linear_combinations.specs.Cleared.{IsDenominator, GainsMultiple, OverflowsMultiple}
use Rattle.linear_combinations.specs.Gains.{each_by}
use Rattle.linear_combinations.proofs.Counted.{scaled_each_by-append}
use Rattle.strip_rules.specs.Adding.{IsSigned}

module _ (c : Fraction) (sign : List ℕ → ℤ) (done : List (List ℕ)) (k : List ℕ)
    (old cur : Terms (List ℕ)) (a : GainsMultiple (pointwise nat_eq) is_label c
    (each_by sign done) old cur) where
  pub Gains-shape : (new : Terms (List ℕ))
      → GainsMultiple (pointwise nat_eq) is_label c ((k, sign k) ∷ []) cur new
      → GainsMultiple (pointwise nat_eq) is_label c (each_by sign (done ++ k ∷ [])) old new
  Gains-shape new b q d cleared =
      let z = numerator_over q c in
      let x = a q d cleared in
      Gains-next (λ xs. scaled z (each_by sign xs)) (scaled_each_by-append sign z) q done k old cur x (done ++ k ∷ []) new refl (b q d x.cleared)

  pub Overflows-shape : (rest all : List (List ℕ)) → done ++ k ∷ rest ≡ all
      → OverflowsMultiple (pointwise nat_eq) c ((k, sign k) ∷ []) cur
      → OverflowsMultiple (pointwise nat_eq) c (each_by sign all) old
  Overflows-shape rest all on e q d small cleared =
      let z = numerator_over q c in
      let x = a q d cleared in
      subst (λ l. OverflowsCleared (pointwise nat_eq) q old (scaled z (each_by sign l))) on
      (Overflows-next (λ xs. scaled z (each_by sign xs)) (scaled_each_by-append sign z) q done k old cur x rest (e q d small x.cleared))

module _ {R : Type 0} (value : R → Fraction) (zero : R) (none : value zero ≡ whole (pos 0))
    (c : Fraction) (s : ℤ) (k : List ℕ) (v : R) (entries : List (List ℕ × R))
    (is : IsSigned c s (value v))
    (was : Entries.IsCombination (pointwise nat_eq) is_label value entries) where
  signed_divides : (q : ℕ) → IsDenominator q c → (value v).1 ∣ q
  signed_divides q d = subst (λ n. n ∣ q) (sym is.denominator) d.multiple

  pub Gains-signed : (sum : R → R → R)
      → ((a b : R) → value (sum a b) ≡ fraction_sum (value a) (value b))
      → (after : List (List ℕ × R)) → InLowestTerms (value v)
      → Entries.IsCombination (pointwise nat_eq) is_label value after
      → Entries.HasMoreAt (pointwise nat_eq) zero sum entries k v after
      → GainsMultiple (pointwise nat_eq) is_label c ((k, s) ∷ []) (terms_of value entries)
      (terms_of value after)
  Gains-signed sum sums after low also more q d cleared =
      Gains-entry value zero none q entries k v was d.positive (signed_divides q d) cleared sum
      sums after low also more (numerator_over q c *ℤ s) (is.value q)

  pub Overflows-signed : (is_held : R → Type 0) (checked : R → R → Option R)
      → ((a b : R) → is_held a → is_held b → AnswersSum value a b (checked a b))
      → Entries.IsRefused is_held checked (Entries.coefficient (pointwise nat_eq) zero entries k) v
      → OverflowsMultiple (pointwise nat_eq) c ((k, s) ∷ []) (terms_of value entries)
  Overflows-signed is_held checked answers refused q d small cleared =
      Overflows-entry value zero none q entries k v was d.positive (signed_divides q d) cleared
      is_held checked answers small refused (numerator_over q c *ℤ s) (is.value q)

-- if |q·c| is 2^127 or more for each multiple q of the denominator of c, adding c times a sign at a label k overflows (`OverflowsMultiple`)
pub Overflows-size : (c : Fraction) (s : ℤ) (k : List ℕ) (old : Terms (List ℕ)) → nat_abs s ≡ 1
    → ((q : ℕ) → IsDenominator q c → 2 ^ 127 ≤ magnitude q c)
    → OverflowsMultiple (pointwise nat_eq) c ((k, s) ∷ []) old
Overflows-size c s k old one large q d small cleared =
    let l = large q d in
    let z = size_scaled q c in
    let p = nat_abs-product (numerator_over q c) s in
    let m = ap (λ n. nat_abs (numerator_over q c) * n) one in
    overflows_alone nat_list_eq_equiv same_partition (numerators_over q old) k (numerator_over q c *ℤ s) (omega arith)
