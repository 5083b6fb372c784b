-- Lists of terms c·m_λ whose coefficients are fractions, and lists with integer coefficients that are multiples of them. N and D bound a list of
-- fractions (`IsBounded`) if D is a multiple of all denominators and |c|·D·Π λ_i! ≤ N·|λ|! for each term; N bounds a list of integers
-- (`IsBoundedBy`) if |c|·Π λ_i! ≤ N·|λ|! for each term. The growth into the basis m at d is d^d.
--     whole-bounded       if N and D bound a list of fractions, N bounds the list of integers that is D times the list
--     cleared-answer      let a list of fractions be a list W of integers divided by q, with labels in W of at most d cells; then q is a multiple of
--                         all denominators, the labels of the list have at most d cells, and the absolute values of the coefficients of q times the
--                         list add up to at most those of W
use Rattle.std.proofs.Common.{length, ◌≡◌, ◌⊎◌, ℕ, ◌+◌, ◌/◌, ◌<◌, ◌≤◌, List, [], ◌∷◌, map, sym, ◌∙◌, ap, ap₂, subst, refl, inl, inr, arith, pos, ◌*◌, ◌^◌, ◌*ℤ◌, rules}
use Rattle.std.specs.Prelude.{nat_abs}
use Rattle.std.specs.Int.{◌∣◌}
use Rattle.std.proofs.lemmas.Int.{unsigned_abs-mul}
use Rattle.std.proofs.lemmas.Bool.{cases_lt}
use Rattle.std.proofs.lemmas.Nat.Gcd.{mod-eq-zero_of_dvd}
use Rattle.fraction_laws.specs.Fractions.{whole, lowest_terms, scaled}
use Rattle.fraction_laws.proofs.Fractions.{Stands, Stands-lowest_terms}
use Rattle.fraction_laws.proofs.Cleared.{scaled-Stands}
use Rattle.sym_model.specs.Sum.{Among}
use Rattle.sym_model.specs.Partition.{size}
use Rattle.sym_model.specs.Polynomial.{Term, Poly, Same, same, coefficient}
use Rattle.sym_model.specs.Expansion.{Basis, Fraction, Terms}
use Rattle.sym_model.specs.ListWeight.{absolute_sum, factorials, IsBounded}
use Rattle.sym_model.specs.Weight.{factorial, growth}
use Rattle.sym_model.specs.WholeTerms.{WholeTerms}
use Rattle.sym_model.proofs.Sums.{total_none, Among_from_map}
use Rattle.sym_model.proofs.Orders.{is_reduced-tells}
use Rattle.sym_model.proofs.Exponents.{same_apart}
use Rattle.monomial_laws.specs.Majorant as majorant
use Rattle.monomial_laws.specs.ExpressionTerms.{IsList, over}
use Rattle.monomial_laws.proofs.Majorants.{coefficient_bound}
use Rattle.monomial_laws.proofs.DividedTerms.{labels_of, among_or_not, over-there, over-missing}
use Rattle.monomial_laws.proofs.Powers.{factorials-positive}
use Rattle.monomial_laws.proofs.WeightBounds.{factorial-within_growth, growth-mono}
use Rattle.sparse_polys.specs.MonomialProducts.{greatest_size}
use Rattle.sparse_polys.proofs.Rows.{greatest_size-among}
use Rattle.sparse_polys.proofs.Tables.{term-tests}
use Rattle.sparse_polys.proofs.Bounds.{coefficient-list, greatest-within}
use Rattle.sparse_polys.specs.Tables.{IsFractionTable, IsWholeTable}
use Rattle.sparse_polys.specs.LabelSizes.{AreWithin}
use Rattle.sparse_polys.proofs.WholeLists.{found-among, label-partition, Once-keys, labels-same, not_zero}
use Rattle.sparse_polys.proofs.Quotients.{Quotients, lowest-zero}
use Rattle.family_lists.proofs.Totals.{labels_few}
use Rattle.linear_combinations.specs.Gains.{mass}
use Rattle.linear_combinations.proofs.Found.{coefficient_of_term}
use Rattle.basis_change.specs.Clearing.{IsBoundedBy}
use Rattle.basis_change.specs.ClearedAnswer.{IsClearedBy}
use native.Mathlib.Nat.{mul-le-mul_left}

nothing_past : (d : ℕ) (W : WholeTerms) (label : List ℕ) → AreWithin d W → d < size label → coefficient W label ≡ pos 0
nothing_past d W label w h = search (rules, total_none, same_apart)

pub greatest_is : (d : ℕ) (terms : Terms (List ℕ)) → AreWithin d terms → ((e : ℕ) → AreWithin e terms → d ≤ e) → d ≡ greatest_size terms
greatest_is d terms within least =
    let above = greatest-within d terms within in
    let below = least (greatest_size terms) (λ t m. greatest_size-among terms t m) in
    omega arith

-- let N and D bound a list (`IsBounded`) with labels of at most d cells: if D times some coefficient has an absolute value of 2^127 or more, then N
-- times the growth into m at d is 2^127 or more
pub large-term : (N D d : ℕ) (terms : Terms (List ℕ)) → IsBounded N D terms → AreWithin d terms
    → (t : List ℕ × Fraction) × Among t terms × (2 ^ 127 ≤ nat_abs (scaled D t.1)) → 2 ^ 127 ≤ N * growth Basis.monomials d
large-term N D d terms b w (t, m, h) =
    let k = subst (λ k. k * factorials t.0 ≤ N * factorial (size t.0)) (sym (unsigned_abs-mul t.1.0 (pos (D / t.1.1)))) (b t m).1 in
    let x = mul-le-mul_left (nat_abs (scaled D t.1)) (factorials-positive t.0) in
    let g = factorial-within_growth (size t.0) in
    let i = growth-mono (size t.0) d (w t m) in
    let y = mul-le-mul_left N (let z : factorial (size t.0) ≤ growth Basis.monomials d = omega arith in z) in
    omega arith

-- in this module, W is D times the list `terms`
module _ (D : ℕ) (terms : Terms (List ℕ)) (W : WholeTerms) (is : IsFractionTable terms) (also : IsWholeTable W) (same : Same W (over D terms)) where
  pub whole-within : (d : ℕ) → AreWithin d terms → AreWithin d W
  whole-within d w =
      labels-same (λ (label : List ℕ). size label ≤ d) W (over D terms) also same
      (λ t m.
      let u = Among_from_map (λ (u : List ℕ × Fraction). (u.0, u.1.0 *ℤ pos (D / u.1.1))) t terms m in
      subst (λ (v : Term). size v.0 ≤ d) (sym u.2) (w u.0 u.1))

  pub whole-bounded : (N : ℕ) → IsBounded N D terms → IsBoundedBy N W
  whole-bounded N b t m = by (among_or_not t.0 terms)
    where
      number : t.1 ≡ coefficient (over D terms) t.0
      number = sym (coefficient_of_term W also.distinct t m) ∙ same t.0

      by : ((u : List ℕ × Fraction) × Among u terms × (u.0 ≡ t.0)) ⊎ (Among t.0 (labels_of terms) → ⊥) → nat_abs t.1 * factorials t.0 ≤ N * factorial (size t.0)
      by (inl (u, n, e)) =
          let c = ap nat_abs (number ∙ ap (coefficient (over D terms)) (sym e) ∙ over-there D terms (Once-keys terms is) u n) ∙ unsigned_abs-mul u.1.0 (pos (D / u.1.1)) in
          subst (λ l. nat_abs t.1 * factorials l ≤ N * factorial (size l)) e (subst (λ k. k * factorials u.0 ≤ N * factorial (size u.0)) (sym c) (b u n).1)
      by (inr none) = absurd (not_zero W also t m (number ∙ over-missing D terms t.0 none))

-- let a list in the monomial basis m expand the polynomials f(n), which are in n variables. If each f(n) has a majorant that is a sum of at most N
-- powers of x_1 + .. + x_n (`majorant.IsBounded`), then |c|·Π λ_i! ≤ N·|λ|! for each term c·m_λ of the list (`IsBoundedBy`)
pub bounded-terms : (N d : ℕ) (terms : WholeTerms) (f : ℕ → Poly) → IsWholeTable terms → IsList terms f → ((n : ℕ) → majorant.IsBounded N d n (f n)) → IsBoundedBy N terms
bounded-terms N d terms f is h b t m =
    subst (λ z. nat_abs z * factorials t.0 ≤ N * factorial (size t.0))
    (sym (coefficient-list terms f h t.0 (label-partition terms is t m)) ∙ coefficient_of_term terms is.distinct t m)
    (coefficient_bound N d (length t.0) (f (length t.0)) (b (length t.0)) t.0 refl)

module _ (m d : ℕ) (W : WholeTerms) (answer : Terms (List ℕ)) (some : 0 < m) (is : IsFractionTable answer) (q : Quotients m answer W) where
  quotient : (t : List ℕ × Fraction) → Among t answer → t.1 ≡ lowest_terms (coefficient W t.0) m
  quotient t n = sym (found-among answer is.distinct t n) ∙ q t.0

  cleared-at : (t : List ℕ × Fraction) → Among t answer → (t.1.1 ∣ m) × (scaled m t.1 ≡ coefficient W t.0)
  cleared-at t n =
      scaled-Stands m (coefficient W t.0) t.1
      (subst (λ (r : Fraction). Stands r (coefficient W t.0) m) (sym (quotient t n)) (Stands-lowest_terms (coefficient W t.0) m some))

  sum-labels : (ts : Terms (List ℕ)) → ((t : List ℕ × Fraction) → Among t ts → Among t answer) → absolute_sum m ts ≡ size (map (λ (l : List ℕ). nat_abs (coefficient W l)) (labels_of ts))
  sum-labels [] w = refl
  sum-labels (t ∷ ts) w =
      ap₂ ◌+◌ (sym (unsigned_abs-mul t.1.0 (pos (m / t.1.1))) ∙ ap nat_abs (cleared-at t (w t (inl refl))).1)
      (sum-labels ts (λ u n. w u (inr n)))

  within-answer : AreWithin d W → AreWithin d answer
  within-answer r t n = by (cases_lt d (size t.0))
    where
      by : (d < size t.0) ⊎ (size t.0 ≤ d) → size t.0 ≤ d
      by (inr l) = l
      by (inl h) =
          absurd
          (let none : t.1 ≡ whole (pos 0) = quotient t n ∙ ap (λ z. lowest_terms z m) (nothing_past d W t.0 r h) ∙ lowest-zero m some in
          let size_none = ap (λ (x : Fraction). nat_abs x.0) none in
          let nonzero = (is_reduced-tells t.1 (term-tests answer is t n).0).nonzero in
          omega arith)

  pub cleared-answer : (most : ℕ) → mass W ≤ most → AreWithin d W → IsClearedBy m most d answer
  cleared-answer most h r = search (rules, mod-eq-zero_of_dvd, cleared-at, sum-labels, labels_few, labels_of, Once-keys, within-answer)
