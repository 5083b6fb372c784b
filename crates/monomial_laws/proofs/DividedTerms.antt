-- Lists of terms whose coefficients are fractions. Such a list is described by a list with integer coefficients and a number D by which they are
-- divided (`IsDivided`). The label of a term is a partition. If the labels denote polynomials, the value of a list is the sum of its coefficients
-- times the polynomials of their labels.
--     value-divided           the value of the list of fractions is that of the integer list divided by D, whatever polynomials the labels denote
--     expansion_divided       if the sum of the terms c·m_λ of the integer list is f, the list of fractions is the expansion of f/D in the basis m
use Rattle.std.proofs.Common.{◌≡◌, ◌⊎◌, ℕ, ◌*◌, ◌/◌, ◌%◌, ◌<◌, cond, List, [], ◌∷◌, map, sym, ◌∙◌, ap, ap₂, subst, refl, inl, inr, arith, ℤ, pos, ◌+ℤ◌, ◌*ℤ◌, ◌++◌, rules}
use Rattle.std.specs.Int.{◌∣◌}
use Rattle.std.proofs.Math.Nat.{div-mul_cancel, dvd-mul_right, dvd-mul_left}
use Rattle.std.proofs.lemmas.Nat.Gcd.{dvd_trans, dvd_of_mod-eq-zero}
use Rattle.sym_model.specs.Sum.{Among, Once}
use Rattle.sym_model.specs.Polynomial.{Poly, coefficient, Same, plus, scale}
use Rattle.sym_model.specs.Bases.{monomial}
use Rattle.sym_model.specs.Expansion.{Basis, Terms, Fraction, denominators, cleared, value_by, IsExpansionOf}
use Rattle.sym_model.specs.WholeTerms.{WholeTerms, combined}
use Rattle.monomial_laws.specs.ExpressionTerms.{in_monomials, IsList, over}
use Rattle.sym_model.proofs.Ring.{product_assoc}
use Rattle.sym_model.proofs.Sums.{total_none, total_map, Among-map}
use Rattle.sym_model.proofs.Exponents.{same_from, same_apart, same_or_not}
use Rattle.sym_model.proofs.Polynomials.{coefficient_scale, pair_scale, pair_determined, Same_trans, Same_sym, scale_respects}
use Rattle.sym_model.proofs.WholeTerms.{combined_respects, coefficient-combined}
use Rattle.monomial_laws.proofs.ExpressionTerms.{list-scale}
use lib.IntN.{+ℤ_idl, +ℤ_idr, *ℤ_comm, *ℤ-zero}
use Rattle.std.proofs.lemmas.List.{map-append}
pub use Rattle.independence_laws.proofs.OneList.{divides-denominators}

-- the labels of a list of terms
abbrev pub labels_of : Terms (List ℕ) → List (List ℕ)
labels_of terms = map (λ (t : List ℕ × Fraction). t.0) terms

-- ---- `over q terms`: the coefficients of a list of terms as integers over a common denominator q

pub over-missing : (q : ℕ) (terms : Terms (List ℕ)) (label : List ℕ) → (Among label (labels_of terms) → ⊥) → coefficient (over q terms) label ≡ pos 0
over-missing q terms label h = search (rules, total_map, total_none, same_apart, Among-map)

pub over-there : (q : ℕ) (terms : Terms (List ℕ)) → Once (labels_of terms) → (t : List ℕ × Fraction) → Among t terms → coefficient (over q terms) t.0 ≡ t.1.0 *ℤ pos (q / t.1.1)
over-there q [] o t m = absurd m
over-there q (u ∷ terms) o t (inl e) = search (rules, same_from, over-missing, +ℤ_idr)
over-there q (u ∷ terms) o t (inr m) =
    ap₂ ◌+ℤ◌
    (ap (λ b. cond b (u.1.0 *ℤ pos (q / u.1.1)) (pos 0)) (same_apart u.0 t.0 (λ e. o.0 (subst (λ l. Among l (labels_of terms)) (sym e) (Among-map (λ (v : List ℕ × Fraction). v.0) t terms m)))))
    (over-there q terms o.1 t m)
    ∙ +ℤ_idl (t.1.0 *ℤ pos (q / t.1.1))

pub among_or_not : (label : List ℕ) (terms : Terms (List ℕ)) → ((t : List ℕ × Fraction) × Among t terms × (t.0 ≡ label)) ⊎ (Among label (labels_of terms) → ⊥)
among_or_not label [] = inr (λ m. m)
among_or_not label (t ∷ terms) = by (same_or_not t.0 label) (among_or_not label terms)
  where
    by : (t.0 ≡ label) ⊎ (t.0 ≡ label → ⊥) → ((u : List ℕ × Fraction) × Among u terms × (u.0 ≡ label)) ⊎ (Among label (labels_of terms) → ⊥)
        → ((u : List ℕ × Fraction) × Among u (t ∷ terms) × (u.0 ≡ label)) ⊎ (Among label (labels_of (t ∷ terms)) → ⊥)
    by (inl e) r = inl (t, inl refl, e)
    by (inr n) (inl u) = inl (u.0, inr u.1, u.2)
    by (inr n) (inr none) = inr (λ m. not_here m)
      where
        not_here : Among label (labels_of (t ∷ terms)) → ⊥
        not_here (inl e) = n (sym e)
        not_here (inr m) = none m

-- `terms` is the integer list `whole` divided by D: the coefficient of each term of `terms` is the coefficient of the same label in `whole` divided
-- by D, and a label that does not occur in `terms` has the coefficient 0 in `whole`. Moreover no label occurs twice in `terms`, and no denominator
-- is 0
pub record IsDivided (D : ℕ) (whole : WholeTerms) (terms : Terms (List ℕ)) : Type 0 where
  pub once : Once (labels_of terms)
  pub positive : 0 < denominators terms
  pub there : (t : List ℕ × Fraction) → Among t terms → t.1.0 *ℤ pos D ≡ coefficient whole t.0 *ℤ pos t.1.1
  pub missing : (label : List ℕ) → (Among label (labels_of terms) → ⊥) → coefficient whole label ≡ pos 0

pub coefficient_divided : (D : ℕ) (whole : WholeTerms) (terms : Terms (List ℕ)) → IsDivided D whole terms → (label : List ℕ)
    → pos D *ℤ coefficient (over (denominators terms) terms) label ≡ pos (denominators terms) *ℤ coefficient whole label
coefficient_divided D whole terms d label = by (among_or_not label terms)
  where
    q : ℕ
    q = denominators terms

    by : ((t : List ℕ × Fraction) × Among t terms × (t.0 ≡ label)) ⊎ (Among label (labels_of terms) → ⊥) → pos D *ℤ coefficient (over (denominators terms) terms) label ≡ pos (denominators terms) *ℤ coefficient whole label
    by (inl (t, m, e)) =
        ap (λ l. pos D *ℤ coefficient (over (denominators terms) terms) l) (sym e)
        ∙ ap (λ z. pos D *ℤ z) (over-there (denominators terms) terms d.once t m)
        ∙ sum (t.1.0) (coefficient whole t.0) D t.1.1 (denominators terms / t.1.1) (denominators terms) (d.there t m) (div-mul_cancel t.1.1 (divides-denominators terms t m))
        ∙ ap (λ l. pos (denominators terms) *ℤ coefficient whole l) e
      where
        sum : (n w : ℤ) (D den r q : ℕ) → n *ℤ pos D ≡ w *ℤ pos den → r * den ≡ q → pos D *ℤ (n *ℤ pos r) ≡ pos q *ℤ w
        sum n w D den r q a b =
            sym (product_assoc (pos D) n (pos r))
            ∙ ap (λ z. z *ℤ pos r) (*ℤ_comm (pos D) n ∙ a)
            ∙ product_assoc w (pos den) (pos r)
            ∙ ap (λ k. w *ℤ pos k) (let c : den * r ≡ q = omega arith in c)
            ∙ *ℤ_comm w (pos q)
    by (inr n) =
        ap (λ z. pos D *ℤ z) (over-missing (denominators terms) terms label n) ∙ *ℤ-zero (pos D)
        ∙ sym (ap (λ z. pos (denominators terms) *ℤ z) (d.missing label n) ∙ *ℤ-zero (pos (denominators terms)))

pub cleared-combined : (polynomial : List ℕ → Poly) (q : ℕ) (terms : Terms (List ℕ)) → cleared polynomial q terms ≡ combined polynomial (over q terms)
cleared-combined polynomial q [] = refl
cleared-combined polynomial q (t ∷ terms) = ap (plus (scale (t.1.0 *ℤ pos (q / t.1.1)) (polynomial t.0))) (cleared-combined polynomial q terms)

pub cleared-over : (q n : ℕ) (terms : Terms (List ℕ)) → cleared (λ label. monomial label n) q terms ≡ in_monomials (over q terms) n
cleared-over q n terms = cleared-combined (λ label. monomial label n) q terms

-- let the labels denote any polynomials. If `terms` is the integer list W divided by D, then the value of `terms` is the value of W divided by D.
-- Here both sides are multiplied by D and by the product of the denominators of `terms` (`value_by` is the value times this product)
pub value-divided : (polynomial : List ℕ → Poly) (D : ℕ) (W : WholeTerms) (terms : Terms (List ℕ)) → IsDivided D W terms → (α : List ℕ)
    → pos D *ℤ coefficient (value_by polynomial terms) α ≡ pos (denominators terms) *ℤ coefficient (combined polynomial W) α
value-divided polynomial D W terms d α =
    let ψ : List ℕ → ℤ = λ l. coefficient (polynomial l) α in
    let O = over (denominators terms) terms in
    ap (λ f. pos D *ℤ coefficient f α) (cleared-combined polynomial (denominators terms) terms)
    ∙ ap (λ z. pos D *ℤ z) (coefficient-combined polynomial O α)
    ∙ sym (pair_scale (pos D) O ψ)
    ∙ pair_determined (scale (pos D) O) (scale (pos (denominators terms)) W) ψ
    (λ l. coefficient_scale (pos D) O l ∙ coefficient_divided D W terms d l ∙ sym (coefficient_scale (pos (denominators terms)) W l))
    ∙ pair_scale (pos (denominators terms)) W ψ
    ∙ ap (λ z. pos (denominators terms) *ℤ z) (sym (coefficient-combined polynomial W α))

-- if no label occurs twice in `terms`, and each denominator is positive and divides m, then `terms` is the integer list `over m terms` divided by m
pub IsDivided-over : (m : ℕ) (terms : Terms (List ℕ)) → 0 < denominators terms → Once (labels_of terms) → ((t : List ℕ × Fraction) → Among t terms → m % t.1.1 ≡ 0) → IsDivided m (over m terms) terms
IsDivided-over m terms positive is w = search (rules, div-mul_cancel, dvd_of_mod-eq-zero, over-there, product_assoc, over-missing)

-- if `terms` is the integer list `whole` divided by D, and the sum of the terms c·m_λ of `whole` is f, then `terms` is the expansion of f/D in the
-- basis m, in every number of variables
pub expansion_divided : (D : ℕ) (whole : WholeTerms) (terms : Terms (List ℕ)) (f : ℕ → Poly) → IsDivided D whole terms → IsList whole f → (n : ℕ) → IsExpansionOf Basis.monomials terms n (f n) D
expansion_divided D whole terms f d h n =
    let q = denominators terms in
    let left = in_monomials (over q terms) n in
    record {
      positive = d.positive;
      equal =
          subst (λ g. Same (scale (pos D) g) (scale (pos (denominators terms)) (f n))) (sym (cleared-over (denominators terms) n terms))
          (Same_trans (scale (pos D) left) (in_monomials (scale (pos D) (over q terms)) n) (scale (pos q) (f n))
          (Same_sym (in_monomials (scale (pos D) (over q terms)) n) (scale (pos D) left) (list-scale (pos D) (over q terms) n))
          (Same_trans (in_monomials (scale (pos D) (over q terms)) n) (in_monomials (scale (pos q) whole) n) (scale (pos q) (f n))
          (combined_respects (λ label. monomial label n) (scale (pos D) (over q terms)) (scale (pos q) whole)
          (λ label. coefficient_scale (pos D) (over q terms) label ∙ coefficient_divided D whole terms d label ∙ sym (coefficient_scale (pos q) whole label)))
          (Same_trans (in_monomials (scale (pos q) whole) n) (scale (pos q) (in_monomials whole n)) (scale (pos q) (f n))
          (list-scale (pos q) whole n)
          (scale_respects (pos q) (in_monomials whole n) (f n) (h n)))));
    }

pub over-append : (m : ℕ) (xs ys : Terms (List ℕ)) → over m (xs ++ ys) ≡ over m xs ++ over m ys
over-append m xs ys = search (rules, map-append)
