-- The loop that multiplies a list of different monomials by x_r, one monomial after another: the next product is not in the result yet.
use Rattle.std.proofs.Common.{◌≡◌, ℕ, Bool, true, false, cond, List, [], ◌∷◌, ◌++◌, refl, sym, ap, ◌∙◌, subst, inl, inr, pos}
use Rattle.std.specs.Prelude.{nat_eq, Some, None}
use Rattle.std.specs.List.{IsDistinct}
use Rattle.std.specs.Map.{lookup, keys_of}
use Rattle.std.specs.Option.{unwrap_or}
use Rattle.std.specs.Cmp.Lexicographic.{pointwise, nat_list_eq_equiv}
use Rattle.std.proofs.lemmas.Bool.{and_parts}
use Rattle.std.proofs.lemmas.List.{map-append}
use Rattle.std.proofs.lemmas.Slice.Eq.{bytes_eq-Decides}
use Rattle.sym_model.specs.Sum.{Among}
use Rattle.sym_model.specs.Expansion.{Fraction, Terms}
use Rattle.sym_model.specs.Partition.{without_last_zeros}
use Rattle.sym_model.proofs.Exponents.{same_true}
use Rattle.sym_model.proofs.Sums.{Among-append_left, Among-append_right}
use Rattle.fraction_laws.specs.Fractions.{whole, fraction_sum, InLowestTerms}
use Rattle.sparse_polys.proofs.Tables.{term-tests}
use Rattle.sparse_polys.proofs.Coefficients.{lowest-is_reduced}
use Rattle.sparse_polys.specs.Combination.{terms_of, HasMoreAt, IsPolynomialTable}
use Rattle.linear_combinations.proofs.Labels.{same_partition}
use Rattle.sparse_polys.proofs.Steps.{absent_before}
use Rattle.sparse_polys.proofs.Totals.{carried}
use Rattle.sparse_polys.specs.Products.{coefficient_at, AreRaised}
use Rattle.sparse_polys.specs.Raised.{raised}
use Rattle.sparse_polys.proofs.Raising.{raised-same}

absent_coefficient : (terms : Terms (List ℕ)) (k : List ℕ) → ((t : List ℕ × Fraction) → Among t terms → t.0 ≡ k → ⊥) → coefficient_at terms k ≡ whole (pos 0)
absent_coefficient [] k h = refl
absent_coefficient (u ∷ terms) k h = by (pointwise nat_eq k u.0) refl (absent_coefficient terms k (λ t m. h t (inr m)))
  where
    by : (b : Bool) → pointwise nat_eq k u.0 ≡ b → coefficient_at terms k ≡ whole (pos 0) → unwrap_or (cond b (Some u.1) (lookup (pointwise nat_eq k) terms)) (pos 0, 1) ≡ whole (pos 0)
    by true p rest = absurd (h u (inl refl) (sym (same_partition k u.0 p)))
    by false p rest = rest

missed : (terms : Terms (List ℕ)) (k : List ℕ) → lookup (pointwise nat_eq k) terms ≡ None → (t : List ℕ × Fraction) → Among t terms → t.0 ≡ k → ⊥
missed [] k none t m e = m
missed (u ∷ terms) k none t m e = by (pointwise nat_eq k u.0) refl none (missed terms k) m
  where
    by : (b : Bool) → pointwise nat_eq k u.0 ≡ b → cond b (Some u.1) (lookup (pointwise nat_eq k) terms) ≡ None
        → (lookup (pointwise nat_eq k) terms ≡ None → (t : List ℕ × Fraction) → Among t terms → t.0 ≡ k → ⊥) → Among t (u ∷ terms) → ⊥
    by true p here rest n = cc
    by false p here rest (inl i) = let s : pointwise nat_eq k u.0 ≡ true = (bytes_eq-Decides k u.0).1 (sym e ∙ ap (λ (v : List ℕ × Fraction). v.0) i) in cc
    by false p here rest (inr n) = rest here t n e

pub lowest_among : (terms : Terms (List ℕ)) → IsPolynomialTable terms → (t : List ℕ × Fraction) → Among t terms → InLowestTerms t.1
lowest_among terms is t m = lowest-is_reduced t.1 (term-tests terms is t m).0

trimmed_at : (terms : Terms (List ℕ)) → IsPolynomialTable terms → (t : List ℕ × Fraction) → Among t terms → without_last_zeros t.0 ≡ t.0
trimmed_at terms is t m =
    let label = (term-tests terms is t m).1 in
    same_true (without_last_zeros t.0) t.0 (and_parts _ _ (and_parts _ _ label).0).0

module _ {R : Type 0} (value : R → Fraction) (r : ℕ) (done rest : List (List ℕ × R)) (k : List ℕ) (v : R) (terms cur : Terms (List ℕ))
    (is : IsPolynomialTable terms) (all : terms_of value (done ++ (k, v) ∷ rest) ≡ terms) (labels : AreRaised r (terms_of value done) cur) where
  split : terms_of value done ++ (k, value v) ∷ terms_of value rest ≡ terms
  split = sym (map-append (λ (p : List ℕ × R). (p.0, value p.1)) done ((k, v) ∷ rest)) ∙ all

  pub new_label : coefficient_at cur (raised r k) ≡ whole (pos 0)
  new_label =
      absent_coefficient cur (raised r k) (λ t m e.
      let u = labels t m in
      let within : Among u.0 terms = subst (Among u.0) split (Among-append_left u.0 (terms_of value done) ((k, value v) ∷ terms_of value rest) u.1) in
      let here : Among (k, value v) terms = subst (Among (k, value v)) split (Among-append_right (k, value v) (terms_of value done) ((k, value v) ∷ terms_of value rest) (inl refl)) in
      let same : u.0.0 ≡ k = raised-same r u.0.0 k (trimmed_at terms is u.0 within) (trimmed_at terms is (k, value v) here) (sym u.2 ∙ e) in
      let none : lookup (pointwise nat_eq k) (terms_of value done) ≡ None =
      absent_before nat_list_eq_equiv (terms_of value done) (k, value v) (terms_of value rest)
      (subst (λ (l : Terms (List ℕ)). IsDistinct (pointwise nat_eq) (keys_of l)) (sym split) is.distinct) in
      missed (terms_of value done) k none u.0 u.1 same)

  pub labels_next : (new : Terms (List ℕ)) → IsPolynomialTable cur → IsPolynomialTable new → HasMoreAt (pointwise nat_eq) cur (raised r k) (value v) new
      → AreRaised r (terms_of value (done ++ (k, v) ∷ [])) new
  labels_next new was also more t m = by (pointwise nat_eq (raised r k) t.0) refl
    where
      pushed : terms_of value (done ++ (k, v) ∷ []) ≡ terms_of value done ++ (k, value v) ∷ []
      pushed = map-append (λ (p : List ℕ × R). (p.0, value p.1)) done ((k, v) ∷ [])

      by : (b : Bool) → pointwise nat_eq (raised r k) t.0 ≡ b → (u : List ℕ × Fraction) × Among u (terms_of value (done ++ (k, v) ∷ [])) × (t.0 ≡ raised r u.0)
      by true p =
          ((k, value v), subst (Among (k, value v)) (sym pushed) (Among-append_right (k, value v) (terms_of value done) ((k, value v) ∷ []) (inl refl)), sym (same_partition (raised r k) t.0 p))
      by false p =
          let equal : coefficient_at cur t.0 ≡ coefficient_at new t.0 =
          sym (more t.0 ∙ ap (λ b. cond b (fraction_sum (coefficient_at cur (raised r k)) (value v)) (coefficient_at cur t.0)) p) in
          let u = labels t (carried nat_list_eq_equiv same_partition new cur also t m equal) in
          (u.0, subst (Among u.0) (sym pushed) (Among-append_left u.0 (terms_of value done) ((k, value v) ∷ []) u.1), u.2)
