-- Bounds for the labels and coefficients of a list of terms in the monomial basis m that is divided by a number.
--     within-multiple, bounded-multiple       bounds by the majorants of the polynomials that the list expands before it is divided
--     expansion-, within-, bounded-quotients  the list that expands an expression: each label has a size of at most the degree of the expression, and
--                                             each coefficient is bounded by means of the numbers `numerator` and `denominator` of the expression
use Rattle.std.proofs.Common.{◌≡◌, ◌⊎◌, ℕ, ◌*◌, ◌/◌, ◌<◌, ◌≤◌, true, List, length, sym, ◌∙◌, ap, ap₂, subst, refl, inl, inr, arith, pos, ◌*ℤ◌}
use Rattle.std.specs.Prelude.{nat_abs}
use Rattle.std.proofs.lemmas.Bool.{cases_lt, and_parts}
use Rattle.std.proofs.lemmas.Int.{unsigned_abs-mul}
use Rattle.std.proofs.lemmas.Nat.Gcd.{mod-eq-zero_of_dvd}
use Rattle.fraction_laws.specs.Fractions.{whole, lowest_terms}
use Rattle.fraction_laws.proofs.Fractions.{Stands, Stands-lowest_terms}
use Rattle.fraction_laws.proofs.Cleared.{scaled-Stands}
use Rattle.sym_model.specs.Sum.{Among}
use Rattle.sym_model.specs.Partition.{size}
use Rattle.sym_model.specs.Polynomial.{Poly, coefficient, scale}
use Rattle.sym_model.specs.Expansion.{Basis, Fraction, Terms, IsExpansionOf}
use Rattle.sym_model.specs.Expression.{Tree, degree, denominator, cleared_value}
use Rattle.sym_model.specs.Weight.{factorial, numerator}
use Rattle.sym_model.specs.WholeTerms.{WholeTerms}
use Rattle.sym_model.specs.ListWeight.{IsBounded}
use Rattle.sym_model.specs.Canonical.{is_reduced}
use Rattle.sym_model.specs.LabelLimits.{is_label}
use Rattle.sym_model.proofs.Ring.{one-product, product_assoc}
use Rattle.sym_model.proofs.Polynomials.{coefficient_scale}
use Rattle.sym_model.proofs.CanonicalLists.{each_term-among}
use Rattle.sym_model.proofs.Orders.{is_label-tells, is_reduced-tells}
use Rattle.monomial_laws.specs.Majorant as majorant
use Rattle.monomial_laws.specs.ExpressionTerms.{IsList, IsCleared}
use Rattle.monomial_laws.proofs.DividedTerms.{expansion_divided}
use Rattle.monomial_laws.proofs.Majorants.{bounded_value, coefficient_bound, coefficient-higher}
use Rattle.sparse_polys.specs.Tables.{IsFractionTable}
use Rattle.sparse_polys.specs.LabelSizes.{AreWithin}
use Rattle.sparse_polys.proofs.WholeLists.{found-among}
use Rattle.sparse_polys.proofs.Bounds.{coefficient-list}
use Rattle.sparse_polys.proofs.Quotients.{Quotients, IsDivided-quotients, lowest-zero}
use Rattle.sym_model.proofs.Integers.{product_cancel}
use native.Mathlib.Nat.{mul-pos}
use lib.IntN.{*ℤ_comm, *ℤ-zero}

-- `terms` is the list W divided by D·k, W expands k·f(n) for every n, and `IsBounded N top n` holds of f(n) for every n
module _ (N top D k : ℕ) (W : WholeTerms) (terms : Terms (List ℕ)) (f : ℕ → Poly) (some : 0 < D) (more : 0 < k) (is : IsFractionTable terms) (q : Quotients (D * k) terms W)
    (h : IsList W (λ n. scale (pos k) (f n))) (b : (n : ℕ) → majorant.IsBounded N top n (f n)) where
  tests : (t : List ℕ × Fraction) → Among t terms → (is_reduced t.1 ≡ true) × (is_label t.0 ≡ true)
  tests t m = let p = and_parts (is_reduced t.1) (is_label t.0) (each_term-among _ terms is.proper t m) in (p.0, p.1)

  stands : (t : List ℕ × Fraction) → Among t terms → Stands t.1 (coefficient (f (length t.0)) t.0) D
  stands t m =
      let s = subst (λ (r : Fraction). Stands r (coefficient W t.0) (D * k)) (sym (sym (found-among terms is.distinct t m) ∙ q t.0)) (Stands-lowest_terms (coefficient W t.0) (D * k) (mul-pos some more)) in
      let e = coefficient-list W (λ n. scale (pos k) (f n)) h t.0 (is_label-tells t.0 (tests t m).1).partition ∙ coefficient_scale (pos k) (f (length t.0)) t.0 in
      record {
        lowest = s.lowest;
        positive = some;
        is = product_cancel (t.1.0 *ℤ pos D) (coefficient (f (length t.0)) t.0 *ℤ pos t.1.1) k more
            (product_assoc t.1.0 (pos D) (pos k)
            ∙ s.is
            ∙ ap (λ z. z *ℤ pos t.1.1) e
            ∙ product_assoc (pos k) (coefficient (f (length t.0)) t.0) (pos t.1.1)
            ∙ *ℤ_comm (pos k) (coefficient (f (length t.0)) t.0 *ℤ pos t.1.1));
      }

  pub within-multiple : AreWithin top terms
  within-multiple t m = by (cases_lt top (size t.0))
    where
      by : (top < size t.0) ⊎ (size t.0 ≤ top) → size t.0 ≤ top
      by (inl high) =
          absurd
          (let e = coefficient-list W (λ n. scale (pos k) (f n)) h t.0 (is_label-tells t.0 (tests t m).1).partition ∙ coefficient_scale (pos k) (f (length t.0)) t.0
          ∙ ap (λ z. pos k *ℤ z) (coefficient-higher N top (length t.0) (f (length t.0)) (b (length t.0)) t.0 refl high) ∙ *ℤ-zero (pos k) in
          let none : t.1 ≡ whole (pos 0) = sym (found-among terms is.distinct t m) ∙ q t.0 ∙ ap (λ z. lowest_terms z (D * k)) e ∙ lowest-zero (D * k) (mul-pos some more) in
          let size_none = ap (λ (r : Fraction). nat_abs r.0) none in
          let nonzero = (is_reduced-tells t.1 (tests t m).0).nonzero in
          omega arith)
      by (inr low) = low

  pub bounded-multiple : IsBounded N D terms
  bounded-multiple t m =
      let c = coefficient (f (length t.0)) t.0 in
      let s = scaled-Stands D (coefficient (f (length t.0)) t.0) t.1 (stands t m) in
      let e : nat_abs t.1.0 * (D / t.1.1) ≡ nat_abs (coefficient (f (length t.0)) t.0) = sym (unsigned_abs-mul t.1.0 (pos (D / t.1.1))) ∙ ap nat_abs s.1 in (
        mod-eq-zero_of_dvd t.1.1 s.0,
        subst (λ n. n ≤ N * factorial (size t.0)) (sym (ap₂ ◌*◌ e refl))
            (coefficient_bound N top (length t.0) (f (length t.0)) (b (length t.0)) t.0 refl),
      )

-- `terms` is the list W divided by d, the denominator of the expression e, and W expands the cleared value of e (d times its value)
module _ (e : Tree) (W : WholeTerms) (terms : Terms (List ℕ)) (d : ℕ) (some : 0 < d) (is : IsFractionTable terms) (q : Quotients d terms W) (h : IsCleared W e) (den : d ≡ denominator e) where
  pub expansion-quotients : (n : ℕ) → IsExpansionOf Basis.monomials terms n (cleared_value e n) (denominator e)
  expansion-quotients n =
      subst (λ k. IsExpansionOf Basis.monomials terms n (cleared_value e n) k) den
      (expansion_divided d W terms (cleared_value e) (IsDivided-quotients d W terms some is q) h n)

  quotients : Quotients (d * 1) terms W
  quotients = subst (λ k. Quotients k terms W) (let o : d ≡ d * 1 = omega arith in o) q

  as_multiple : IsList W (λ n. scale (pos 1) (cleared_value e n))
  as_multiple n α = h n α ∙ sym (coefficient_scale (pos 1) (cleared_value e n) α ∙ one-product (coefficient (cleared_value e n) α))

  pub within-quotients : AreWithin (degree e) terms
  within-quotients = within-multiple (numerator e) (degree e) d 1 W terms (cleared_value e) some (omega arith) is quotients as_multiple (bounded_value e)

  pub bounded-quotients : IsBounded (numerator e) (denominator e) terms
  bounded-quotients =
      subst (λ k. IsBounded (numerator e) k terms) den
      (bounded-multiple (numerator e) (degree e) d 1 W terms (cleared_value e) some (omega arith) is quotients as_multiple (bounded_value e))
