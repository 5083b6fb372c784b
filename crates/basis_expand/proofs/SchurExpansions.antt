-- Expansions in Schur polynomials, described by sums: for a function φ of exponents, the sum of a polynomial is Σ c·φ(α) over its terms c·x^α. A list
-- with the common denominator q is described by the sum of the polynomial of q times the list.
--     pair_cleared          this sum is computed term by term
--     expansion-tells       if a list expands f/d, then d times the sum of q times the list is q times the sum of f
--     expansion-from        if this equation holds for each φ, then the list expands f/d
--     expansion_times       if a list expands h times the value of a second list, it expands h·f for each f that the second list expands
use Rattle.std.proofs.Common.{◌≡◌, ℕ, ◌/◌, ◌<◌, List, [], ◌∷◌, sym, ◌∙◌, ap, refl, inl, inr, ℤ, pos, ◌+ℤ◌, ◌*ℤ◌, rules}
use Rattle.std.specs.Int.{◌∣◌}
use Rattle.std.proofs.Math.Nat.{div-mul_cancel}
use Rattle.sym_model.specs.Sum.{Among}
use Rattle.sym_model.specs.Polynomial.{Poly, pair, scale, times}
use Rattle.sym_model.specs.Schur.{schur}
use Rattle.sym_model.specs.Expansion.{schurs, Fraction, Terms, denominators, cleared, value, IsExpansionOf}
use Rattle.sym_model.proofs.Ring.{ring, product_left_comm, distributes_left, product_turned}
use Rattle.sym_model.proofs.Polynomials.{pair_plus, pair_scale, pair_determined, same_from_pair, times_respects, Same_refl}
use Rattle.sym_model.proofs.PolynomialLaws.{times-scale}
use Rattle.monomial_laws.proofs.DividedTerms.{divides-denominators}
use Rattle.sparse_polys.proofs.Expansions.{common-denominators}
use Rattle.sparse_polys.specs.Tables.{IsFractionTable}
use Rattle.basis_expand.specs.SchurLists.{sum_at}
use Rattle.linear_combinations.specs.Cleared.{IsCommonDenominator}
use Rattle.sym_model.proofs.Integers.{product_cancel}
use lib.IntN.{*ℤ_comm, *ℤ-zero}

pub pair_cleared : (q : ℕ) (terms : Terms (List ℕ)) (n : ℕ) (φ : List ℕ → ℤ) → pair (cleared (λ label. schur label n) q terms) φ ≡ sum_at q terms n φ
pair_cleared q [] n φ = refl
pair_cleared q (t ∷ terms) n φ = search (rules, pair_plus, pair_scale, (pair_cleared q terms n φ))

-- ---- the sums over Q times a list and over R times this list, for two common denominators Q and R

turned : (num Q R den w q r X Y : ℤ) → Q *ℤ den ≡ q → R *ℤ den ≡ r → r *ℤ X ≡ q *ℤ Y → r *ℤ (num *ℤ Q *ℤ w +ℤ X) ≡ q *ℤ (num *ℤ R *ℤ w +ℤ Y)
turned num Q R den w q r X Y e f h = search (rules, distributes_left, ring)

two_denominators : (q r : ℕ) (terms : Terms (List ℕ)) (n : ℕ) (φ : List ℕ → ℤ)
    → ((t : List ℕ × Fraction) → Among t terms → t.1.1 ∣ q) → ((t : List ℕ × Fraction) → Among t terms → t.1.1 ∣ r)
    → pos r *ℤ sum_at q terms n φ ≡ pos q *ℤ sum_at r terms n φ
two_denominators q r [] n φ h k = *ℤ-zero (pos r) ∙ sym (*ℤ-zero (pos q))
two_denominators q r (t ∷ terms) n φ h k =
    turned t.1.0 (pos (q / t.1.1)) (pos (r / t.1.1)) (pos t.1.1) (pair (schur t.0 n) φ) (pos q) (pos r) (sum_at q terms n φ) (sum_at r terms n φ)
    (ap pos (div-mul_cancel t.1.1 (h t (inl refl)))) (ap pos (div-mul_cancel t.1.1 (k t (inl refl))))
    (two_denominators q r terms n φ (λ u m. h u (inr m)) (λ u m. k u (inr m)))

pub through : (D q d : ℕ) (X Y f : ℤ) → 0 < D → pos D *ℤ X ≡ pos q *ℤ Y → pos d *ℤ Y ≡ pos D *ℤ f → pos d *ℤ X ≡ pos q *ℤ f
through D q d X Y f some e h =
    product_cancel (pos d *ℤ X) (pos q *ℤ f) D some
    (*ℤ_comm (pos d *ℤ X) (pos D) ∙ product_left_comm (pos D) (pos d) X ∙ ap (λ z. pos d *ℤ z) e ∙ product_left_comm (pos d) (pos q) Y
    ∙ ap (λ z. pos q *ℤ z) h ∙ product_left_comm (pos q) (pos D) f ∙ *ℤ_comm (pos D) (pos q *ℤ f))

expansion-at : (terms : Terms (List ℕ)) (n : ℕ) (f : Poly) (d : ℕ) → IsExpansionOf schurs terms n f d
    → (φ : List ℕ → ℤ) → pos d *ℤ sum_at (denominators terms) terms n φ ≡ pos (denominators terms) *ℤ pair f φ
expansion-at terms n f d h φ =
    ap (λ z. pos d *ℤ z) (sym (pair_cleared (denominators terms) terms n φ))
    ∙ sym (pair_scale (pos d) (value schurs terms n) φ)
    ∙ pair_determined (scale (pos d) (value schurs terms n)) (scale (pos (denominators terms)) f) φ h.equal
    ∙ pair_scale (pos (denominators terms)) f φ

pub expansion-tells : (terms : Terms (List ℕ)) (n : ℕ) (f : Poly) (d q : ℕ) → IsCommonDenominator q terms → IsExpansionOf schurs terms n f d
    → (φ : List ℕ → ℤ) → pos d *ℤ sum_at q terms n φ ≡ pos q *ℤ pair f φ
expansion-tells terms n f d q common h φ =
    let D = denominators terms in
    through D q d (sum_at q terms n φ) (sum_at (denominators terms) terms n φ) (pair f φ) h.positive
    (two_denominators q D terms n φ common.multiple (divides-denominators terms))
    (expansion-at terms n f d h φ)

pub expansion-from : (terms : Terms (List ℕ)) (n : ℕ) (f : Poly) (d q : ℕ) → IsFractionTable terms → IsCommonDenominator q terms
    → ((φ : List ℕ → ℤ) → pos d *ℤ sum_at q terms n φ ≡ pos q *ℤ pair f φ) → IsExpansionOf schurs terms n f d
expansion-from terms n f d q is common h =
    let D = denominators terms in
    record {
      positive = (common-denominators terms is).positive;
      equal =
          same_from_pair (scale (pos d) (value schurs terms n)) (scale (pos (denominators terms)) f) (λ φ.
          pair_scale (pos d) (value schurs terms n) φ
          ∙ ap (λ z. pos d *ℤ z) (pair_cleared (denominators terms) terms n φ)
          ∙ through q D d (sum_at (denominators terms) terms n φ) (sum_at q terms n φ) (pair f φ) common.positive
          (two_denominators (denominators terms) q terms n φ (divides-denominators terms) common.multiple) (h φ)
          ∙ sym (pair_scale (pos (denominators terms)) f φ));
    }

-- if d > 0 and a·e = b·d, an expansion of a·g divided by d is one of b·g divided by e
pub expansion_rescaled : (terms : Terms (List ℕ)) (n : ℕ) (g : Poly) (a b : ℤ) (d e : ℕ) → 0 < d → a *ℤ pos e ≡ b *ℤ pos d
    → IsExpansionOf schurs terms n (scale a g) d → IsExpansionOf schurs terms n (scale b g) e
expansion_rescaled terms n g a b d e some cross h = record {
  positive = h.positive;
  equal =
      same_from_pair (scale (pos e) (value schurs terms n)) (scale (pos (denominators terms)) (scale b g)) (λ φ.
      let D = pos (denominators terms) in
      let V = pair (value schurs terms n) φ in
      let G = pair g φ in
      let told : pos d *ℤ pair (value schurs terms n) φ ≡ pos (denominators terms) *ℤ (a *ℤ pair g φ) =
      sym (pair_scale (pos d) (value schurs terms n) φ)
      ∙ pair_determined (scale (pos d) (value schurs terms n)) (scale (pos (denominators terms)) (scale a g)) φ h.equal
      ∙ pair_scale (pos (denominators terms)) (scale a g) φ ∙ ap (λ z. pos (denominators terms) *ℤ z) (pair_scale a g φ) in
      pair_scale (pos e) (value schurs terms n) φ
      ∙ product_cancel (pos e *ℤ V) (D *ℤ (b *ℤ G)) d some (crossed (pos d) (pos e) V D a b G told cross)
      ∙ sym (pair_scale (pos (denominators terms)) (scale b g) φ ∙ ap (λ z. pos (denominators terms) *ℤ z) (pair_scale b g φ)));
}
  where
    crossed : (d e V D a b G : ℤ) → d *ℤ V ≡ D *ℤ (a *ℤ G) → a *ℤ e ≡ b *ℤ d → (e *ℤ V) *ℤ d ≡ (D *ℤ (b *ℤ G)) *ℤ d
    crossed d e V D a b G h k =
        product_turned e V d ∙ ap (λ z. e *ℤ z) h ∙ second e D a G ∙ ap (λ z. D *ℤ (z *ℤ G)) k ∙ third D b d G
      where
        second : (e D a G : ℤ) → e *ℤ (D *ℤ (a *ℤ G)) ≡ D *ℤ ((a *ℤ e) *ℤ G)
        second e D a G = simp ring

        third : (D b d G : ℤ) → D *ℤ ((b *ℤ d) *ℤ G) ≡ (D *ℤ (b *ℤ G)) *ℤ d
        third D b d G = simp ring

-- if `product` expands h times the polynomial of `list`, it expands h·f for each f that `list` expands
pub expansion_times : (list product : Terms (List ℕ)) (n : ℕ) (h f : Poly) (q : ℕ)
    → IsExpansionOf schurs product n (times h (value schurs list n)) (denominators list)
    → IsExpansionOf schurs list n f q → IsExpansionOf schurs product n (times h f) q
expansion_times list product n h f q made is = record {
  positive = made.positive;
  equal =
      same_from_pair (scale (pos q) (value schurs product n)) (scale (pos (denominators product)) (times h f)) (λ φ.
      let D = denominators list in
      let told : pos (denominators list) *ℤ pair (value schurs product n) φ ≡ pos (denominators product) *ℤ pair (times h (value schurs list n)) φ =
      sym (pair_scale (pos (denominators list)) (value schurs product n) φ)
      ∙ pair_determined (scale (pos (denominators list)) (value schurs product n)) (scale (pos (denominators product)) (times h (value schurs list n))) φ made.equal
      ∙ pair_scale (pos (denominators product)) (times h (value schurs list n)) φ in
      let factor : pos q *ℤ pair (times h (value schurs list n)) φ ≡ pos (denominators list) *ℤ pair (times h f) φ =
      sym (pair_determined (times h (scale (pos q) (value schurs list n))) (scale (pos q) (times h (value schurs list n))) φ (times-scale (pos q) h (value schurs list n)) ∙ pair_scale (pos q) (times h (value schurs list n)) φ)
      ∙ pair_determined (times h (scale (pos q) (value schurs list n))) (times h (scale (pos (denominators list)) f)) φ
      (times_respects h h (scale (pos q) (value schurs list n)) (scale (pos (denominators list)) f) (Same_refl h) is.equal)
      ∙ pair_determined (times h (scale (pos (denominators list)) f)) (scale (pos (denominators list)) (times h f)) φ (times-scale (pos (denominators list)) h f)
      ∙ pair_scale (pos (denominators list)) (times h f) φ in
      pair_scale (pos q) (value schurs product n) φ
      ∙ through D (denominators product) q (pair (value schurs product n) φ) (pair (times h (value schurs list n)) φ) (pair (times h f) φ) is.positive told factor
      ∙ sym (pair_scale (pos (denominators product)) (times h f) φ));
}
