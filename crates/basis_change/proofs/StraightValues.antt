-- The polynomial of the terms to which a list in the monomial basis m straightens (`straightened_list`).
--     multiple-straightened                    a list in m and its straightened terms, in Schur polynomials, are the same polynomial
--     straightened-again, straightened-large   the straightened terms as a table of beta sets
use Rattle.std.proofs.Common.{◌≡◌, ℕ, ◌≤◌, List, [], ◌∷◌, sym, ap, ◌∙◌, arith, ℤ, pos, ◌+ℤ◌, ◌*ℤ◌, rules}
use Rattle.std.specs.Prelude.{Option, Some, None, nat_abs}
use Rattle.std.proofs.lemmas.Int.{ints}
use Rattle.sym_model.specs.Sum.{total}
use Rattle.sym_model.specs.Partition.{IsPartition, size}
use Rattle.sym_model.specs.Polynomial.{pair}
use Rattle.sym_model.specs.Bases.{monomial}
use Rattle.sym_model.specs.Schur.{schur}
use Rattle.sym_model.specs.Arrangement.{arrangements}
use Rattle.sym_model.specs.Straightening.{shifted, straight, straightened}
use Rattle.sym_model.specs.Expansion.{schurs}
use Rattle.sym_model.specs.WholeTerms.{WholeTerms, WholeTermsOf, combined}
use Rattle.sym_model.proofs.Ring.{ring, one-product}
use Rattle.sym_model.proofs.Sums.{total_ext, total_among, total_each, total_scale}
use Rattle.sym_model.proofs.Polynomials.{pair_determined, at_only, coefficient_pair, coefficient_scale}
use Rattle.sym_model.proofs.WholeTerms.{pair_of_combined}
use Rattle.monomial_laws.specs.ExpressionTerms.{in_monomials}
use Rattle.alternant_laws.specs.StraightenedTerms.{straightened_term, straightened_terms}
use Rattle.alternant_laws.proofs.EnoughPlaces.{enough_places}
use Rattle.sparse_polys.specs.Tables.{equal, IsWholeTable}
use Rattle.sparse_polys.specs.LabelSizes.{AreWithin}
use Rattle.sparse_polys.proofs.WholeLists.{label-partition}
use Rattle.linear_combinations.specs.Gains.{Gains, Overflows, HaveLabels, only, over as sum_over}
use Rattle.linear_combinations.proofs.Gains.{over_only_within}
use Rattle.beta_sets.specs.BetaSets.{shapes, IsInRows, IsShapeTable}
use Rattle.basis_change.proofs.TwentyRows.{mass-single, rows-apart}
use Rattle.basis_change.specs.Arranging.{times_straight, straight_term, straight_terms}
use Rattle.basis_change.specs.Clearing.{IsMultipleIn}
use Rattle.basis_change.specs.Straightening.{straightened_list}
use Rattle.basis_change.proofs.StraightTerms.{total-straight_terms}
use lib.IntN.{+ℤ_idl, *ℤ-zero}

-- Σ c·φ(α) over the terms c·x^α of the Schur polynomial of a label in n variables
abbrev schur_value : ℕ → (List ℕ → ℤ) → List ℕ → ℤ
schur_value n φ label = pair (schur label n) φ

abbrev term_value : ℕ → (List ℕ → ℤ) → List ℕ × ℤ → ℤ
term_value n φ t = t.1 *ℤ schur_value n φ t.0

one-value : (n : ℕ) (φ : List ℕ → ℤ) (c : ℤ) (o : Option (ℤ × List ℕ)) → total (term_value n φ) (times_straight c o) ≡ c *ℤ pair (combined (λ label. schur label n) (straightened_term o)) φ
one-value n φ c None = sym (*ℤ-zero c)
one-value n φ c (Some s) =
    turned s.0 c (pair (schur s.1 n) φ) ∙ ap (λ z. c *ℤ z) (sym (pair_of_combined (λ label. schur label n) ((s.1, s.0) ∷ []) φ))
  where
    turned : (a c x : ℤ) → (a *ℤ c) *ℤ x +ℤ pos 0 ≡ c *ℤ (a *ℤ x +ℤ pos 0)
    turned a c x = simp ring (omega (arith, ints))

label-value : (n d : ℕ) (φ : List ℕ → ℤ) (c : ℤ) (parts : List ℕ) → IsPartition parts → size parts ≤ d
    → total (term_value n φ) (straight_terms c parts d) ≡ c *ℤ pair (monomial parts n) φ
label-value n d φ c parts p h =
    total-straight_terms (term_value n φ) c parts d
    ∙ total_ext (λ (α : List ℕ). total (term_value n φ) (straight_term c (shifted α))) (λ (α : List ℕ). c *ℤ pair (combined (λ label. schur label n) (straightened_term (straightened α))) φ)
    (λ α. one-value n φ c (straight (shifted α))) (arrangements parts d)
    ∙ total_scale c (λ (α : List ℕ). pair (combined (λ label. schur label n) (straightened_term (straightened α))) φ) (arrangements parts d)
    ∙ ap (λ z. c *ℤ z)
    (sym (pair_of_combined (λ label. schur label n) (straightened_terms (arrangements parts d)) φ
    ∙ total_each (λ (t : List ℕ × ℤ). t.1 *ℤ pair (schur t.0 n) φ) (λ (α : List ℕ). straightened_term (straightened α)) (arrangements parts d)
    ∙ total_ext (λ (α : List ℕ). total (λ (t : List ℕ × ℤ). t.1 *ℤ pair (schur t.0 n) φ) (straightened_term (straightened α))) (λ (α : List ℕ). pair (combined (λ label. schur label n) (straightened_term (straightened α))) φ)
    (λ α. sym (pair_of_combined (λ label. schur label n) (straightened_term (straightened α)) φ)) (arrangements parts d))
    ∙ sym (pair_determined (monomial parts n) (combined (λ label. schur label n) (straightened_terms (arrangements parts d))) φ (enough_places n d parts p h)))

straightened-value : (n d : ℕ) (φ : List ℕ → ℤ) (terms : WholeTerms) → IsWholeTable terms → AreWithin d terms
    → sum_over (schur_value n φ) (straightened_list d terms) ≡ pair (in_monomials terms n) φ
straightened-value n d φ terms is w =
    total_each (term_value n φ) (λ (t : List ℕ × ℤ). straight_terms t.1 t.0 d) terms
    ∙ total_among (λ (t : List ℕ × ℤ). total (term_value n φ) (straight_terms t.1 t.0 d)) (λ (t : List ℕ × ℤ). t.1 *ℤ pair (monomial t.0 n) φ) terms
    (λ t m. label-value n d φ t.1 t.0 (label-partition terms is t m) (w t m))
    ∙ sym (pair_of_combined (λ label. monomial label n) terms φ)

pub multiple-straightened : (d : ℕ) (terms end : WholeTerms) → IsWholeTable terms → AreWithin d terms → Gains [] (straightened_list d terms) end → IsMultipleIn schurs 1 terms end
multiple-straightened d terms end is w a n α =
    search (rules, coefficient_pair, pair_of_combined, at_only, +ℤ_idl, straightened-value, one-product, coefficient_scale)

pub straightened-again : (d : ℕ) (terms sum end : WholeTerms) → Gains [] (straightened_list d terms) sum → Gains [] sum end → Gains [] (straightened_list d terms) end
straightened-again d terms sum end a b = search rules

-- let `sum` be a table of beta sets in 20 rows, and let the terms of the partitions of these sets (`shapes sum`) have the same sum as the
-- straightened terms. If adding up the terms `shapes sum` overflows, then adding up the straightened terms overflows
pub straightened-large : (d : ℕ) (terms : WholeTerms) (sum : WholeTermsOf ℕ) → IsShapeTable sum → HaveLabels (IsInRows 20 20) sum → Gains [] (straightened_list d terms) (shapes sum)
    → Overflows equal [] (shapes sum) → Overflows equal [] (straightened_list d terms)
straightened-large d terms sum is w a (ν, l) =
    let m = mass-single rows-apart sum is w ν in
    let e = ap nat_abs (a.sums (only equal ν) ∙ +ℤ_idl (sum_over (only equal ν) (straightened_list d terms))) in
    let f = over_only_within equal ν (straightened_list d terms) in
    let z = over_only_within equal ν [] in
    (ν, omega arith)
