-- For a list W in m, that is, a list of terms c·m_μ: if a list in p is k times a list F in m, then the sum of c·p_λ[W] over the terms c·p_λ of the
-- list in p is k times the plethysm F[W].
use Rattle.std.proofs.Common.{◌≡◌, ℕ, ◌*◌, ◌<◌, ◌*ℤ◌, pos, List, [], ◌∷◌, ◌++◌, length, replicate, sym, ◌∙◌, ap, ap₂, refl, flat_map}
use Rattle.std.specs.Prelude.{nat_abs}
use Rattle.sym_model.specs.Bases.{monomial, power_sum}
use Rattle.sym_model.specs.ListWeight.{IsBounded}
use Rattle.sym_model.specs.Polynomial.{Poly, Same, coefficient, scale}
use Rattle.sym_model.specs.Expansion.{Basis, basis_polynomial, power_sums, Terms, IsExpansionOf}
use Rattle.sym_model.specs.Plethysm.{plethysm, substitute, exponent_lists_within, repeated_monomials}
use Rattle.sym_model.specs.WholeTerms.{WholeTerms, combined}
use Rattle.sym_model.proofs.Polynomials.{coefficient_scale}
use Rattle.sym_model.proofs.Ring.{product_left_comm, product_assoc}
use Rattle.sym_model.proofs.WholeTerms.{combined_respects}
use Rattle.monomial_laws.specs.ExpressionTerms.{in_monomials, IsList, over}
use Rattle.monomial_laws.proofs.DividedTerms.{IsDivided-over}
use Rattle.sparse_polys.specs.Tables.{IsFractionTable, IsWholeTable}
use Rattle.sparse_polys.proofs.WholeLists.{Once-keys, label-partition}
use Rattle.sparse_polys.proofs.Quotients.{Quotients, IsDivided-quotients}
use Rattle.basis_change.specs.Clearing.{IsMultipleIn}
use Rattle.basis_change.proofs.Ends.{clears, expands}
use Rattle.plethysm_laws.proofs.Paths.{substitute-combined}
use Rattle.plethysm_laws.proofs.RepeatedMonomials.{repeated-places}
use Rattle.plethysm_laws.proofs.Substitutions.{substitute_respects, substitute-scale}
use Rattle.plethysm.specs.BoundedSums.{IsBoundedSum}
use Rattle.plethysm.specs.PathSums.{power_sum_in}
use Rattle.plethysm.proofs.FactorLists.{sums}
use native.Mathlib.Nat.{mul-pos}

-- if f and g are the same polynomial (`Same`), the lists of their monomials of degree at most d, each repeated according to its coefficient, are
-- equal
pub repeated_same : (d n : ℕ) (f g : Poly) → Same f g → repeated_monomials d n f ≡ repeated_monomials d n g
repeated_same d n f g e = by (exponent_lists_within n d)
  where
    by : (αs : List (List ℕ)) → flat_map (λ α. replicate (nat_abs (coefficient f α)) α) αs ≡ flat_map (λ α. replicate (nat_abs (coefficient g α)) α) αs
    by [] = refl
    by (α ∷ αs) = ap₂ ◌++◌ (ap (λ z. replicate (nat_abs z) α) (e α)) (by αs)

-- let `terms` in p be k times the list `outer` in m: if the list S in m is the sum of c·p_λ[W] over the terms c·p_λ of `terms`, then S is k times the
-- plethysm of `outer` and W
pub composed : (k K b : ℕ) (outer terms W S : WholeTerms) → IsWholeTable terms → IsBoundedSum K b W → IsMultipleIn power_sums k outer terms
    → ((n : ℕ) → Same (in_monomials S n) (combined (λ label. power_sum_in W label n) terms))
    → IsList S (λ n. scale (pos k) (plethysm (in_monomials outer) b n (in_monomials W n)))
composed k K b outer terms W S is h multiple same_sum n α =
    let g = in_monomials W n in
    let γs = repeated_monomials b n (in_monomials W n) in
    let m = length γs in
    same_sum n α
    ∙ sym (substitute-combined n γs g terms (λ t i. (label-partition terms is t i).positive) (repeated-places b n g) (sums W K b h n) α)
    ∙ substitute_respects n γs (combined (λ label. power_sum label m) terms) (scale (pos k) (in_monomials outer m)) (multiple m) α
    ∙ substitute-scale n γs (pos k) (in_monomials outer m) α

-- let V be D times the list `outer` in m, `list` be V with the monomials γs in place of its variables, E be q·`list` in the target basis, and
-- `answer` be E divided by D·q: if `outer` expands f divided by p, then `answer` expands f with the monomials γs in place of its variables, divided
-- by p
pub expansion-composed : (target : Basis) (N D q p n : ℕ) (γs : List (List ℕ)) (outer answer : Terms (List ℕ)) (V list E : WholeTerms) (f : Poly) → 0 < D → 0 < q
    → IsFractionTable outer → IsBounded N D outer → Same V (over D outer) → Same (in_monomials list n) (substitute n γs (in_monomials V (length γs)))
    → IsMultipleIn target q list E → IsFractionTable answer → Quotients (D * q) answer E
    → IsExpansionOf Basis.monomials outer (length γs) f p → IsExpansionOf target answer n (substitute n γs f) p
expansion-composed target N D q p n γs outer answer V list E f some positive is b same substituted multiple js quotients x =
    let P : List ℕ → Poly = λ label. basis_polynomial target label n in
    let M : List ℕ → Poly = λ label. monomial label (length γs) in
    let v = in_monomials V (length γs) in
    let u = in_monomials (over D outer) (length γs) in
    let S = substitute n γs in
    let whole = clears M D p (over D outer) outer f (IsDivided-over D outer x.positive (Once-keys outer is) (λ t m. (b t m).0)) x in
    let inner : Same (scale (pos p) (in_monomials V (length γs))) (scale (pos D) f) =
    λ β.
    coefficient_scale (pos p) v β ∙ ap (λ z. pos p *ℤ z) (combined_respects M V (over D outer) same β)
    ∙ sym (coefficient_scale (pos p) u β) ∙ whole β in
    expands P (D * q) p E answer (S f) (IsDivided-quotients (D * q) E answer (mul-pos some positive) js quotients) (mul-pos some positive)
    (λ α.
    coefficient_scale (pos p) (combined P E) α
    ∙ ap (λ z. pos p *ℤ z) (multiple n α ∙ coefficient_scale (pos q) (in_monomials list n) α ∙ ap (λ z. pos q *ℤ z) (substituted α))
    ∙ product_left_comm (pos p) (pos q) (coefficient (S v) α)
    ∙ ap (λ z. pos q *ℤ z)
    (sym (coefficient_scale (pos p) (S v) α) ∙ sym (substitute-scale n γs (pos p) v α) ∙ substitute_respects n γs (scale (pos p) v) (scale (pos D) f) inner α
    ∙ substitute-scale n γs (pos D) f α ∙ coefficient_scale (pos D) (S f) α)
    ∙ product_left_comm (pos q) (pos D) (coefficient (S f) α) ∙ sym (product_assoc (pos D) (pos q) (coefficient (S f) α))
    ∙ sym (coefficient_scale (pos (D * q)) (S f) α))
