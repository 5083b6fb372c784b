-- The expression that the one-line form of a list of terms spells denotes this list.
use Rattle.std.proofs.Common.{◌≡◌, ℕ, suc, ◌*◌, ◌/◌, ◌<◌, Bool, true, false, List, [], ◌∷◌, map, cond, eqb, ℤ, pos, negsuc, nat_abs, neg_ℤ, ◌+ℤ◌, ◌*ℤ◌, refl, sym, ap, ap₂, ◌∙◌, subst, decimal, arith, rules}
use Rattle.std.proofs.lemmas.Int.{ints}
use Rattle.std.proofs.lemmas.Bool.{eqb-true, and_parts}
use Rattle.std.proofs.Math.Nat.{mul-div_cancel}
use Rattle.sym_model.specs.Polynomial.{coefficient, one, scale, times as product_of}
use Rattle.sym_model.specs.Partition.{ArePositive, without_last_zeros}
use Rattle.sym_model.specs.Expansion.{Basis, Fraction, Terms, basis_polynomial, denominators, cleared, IsExpansionOf}
use Rattle.sym_model.specs.Expression.{Tree, number, fraction, atom, negation, sum, difference, product, denominator, cleared_value}
use Rattle.sym_model.specs.NumberText.{decimal_value}
use Rattle.sym_model.specs.Phrase.{Phrase, numeral, ratio, operation, times, tree}
use Rattle.sym_model.specs.OneLine.{is_unit}
use Rattle.sym_model.proofs.Ring.{ring}
use Rattle.sym_model.proofs.Polynomials.{coefficient_plus, coefficient_scale, coefficient_negate}
use Rattle.sym_model.proofs.PolynomialLaws.{one-times, scale-times}
use Rattle.sym_model.proofs.Parts.{without_last_zeros-positive}
use Rattle.monomial_laws.proofs.Majorants.{In-atom}
use Rattle.monomial_laws.proofs.WeightBounds.{lcm-left, lcm-right, lcm-positive}
use Rattle.printing_laws.proofs.Decimals.{decimal_value-decimal}
use Rattle.printing_laws.proofs.NumberTexts.{AreShort}
use Rattle.printing_laws.proofs.Atoms.{IsReadable}
use Rattle.printing_laws.proofs.LinePhrases.{atom_phrase, coefficient_phrase, term_phrase, joined, later_phrase, first_phrase, line_phrase}
use Rattle.std.proofs.Math.IntN.{+ℤ_assoc}
use native.Mathlib.Nat.{mul-pos}

-- ---- equations between integers, for multiples, sums and negatives of the values of terms

of_term : (d r a c q : ℤ) → r *ℤ d ≡ q → d *ℤ ((a *ℤ r) *ℤ c) ≡ q *ℤ (a *ℤ c)
of_term d r a c q e = subst (λ z. d *ℤ ((a *ℤ r) *ℤ c) ≡ z *ℤ (a *ℤ c)) e (simp ring (omega (arith, ints)))

of_part : (l m d s q v : ℤ) → m *ℤ d ≡ l → d *ℤ s ≡ q *ℤ v → l *ℤ s ≡ q *ℤ (m *ℤ v)
of_part l m d s q v e h = search (rules, ring, ints)

of_sum : (l s r q x y : ℤ) → l *ℤ s ≡ q *ℤ x → l *ℤ r ≡ q *ℤ y → l *ℤ (s +ℤ r) ≡ q *ℤ (x +ℤ y)
of_sum l s r q x y e h = search (rules, ring, ints)

of_negation : (l s q x : ℤ) → l *ℤ s ≡ q *ℤ x → l *ℤ neg_ℤ s ≡ q *ℤ neg_ℤ x
of_negation l s q x e = search rules

of_sign : (a r c : ℤ) → (neg_ℤ a *ℤ r) *ℤ c ≡ neg_ℤ ((a *ℤ r) *ℤ c)
of_sign a r c = simp ring (omega (arith, ints))

-- ---- the expression of an atom, such as s[2,1]

values : (numbers : List ℕ) → AreShort numbers → map decimal_value (map decimal numbers) ≡ numbers
values [] h = refl
values (a ∷ numbers) h = ap₂ ◌∷◌ (decimal_value-decimal a h.0) (values numbers h.1)

tree_atom : (basis : Basis) (numbers : List ℕ) → AreShort numbers → ArePositive numbers → tree (atom_phrase basis numbers) ≡ atom basis numbers
tree_atom basis numbers h p = ap (λ ns. atom basis (without_last_zeros ns)) (values numbers h) ∙ ap (atom basis) (without_last_zeros-positive numbers p)

-- the term can be read back (`IsReadable`), the parts of its label are positive, and the denominator of its coefficient is positive
pub record IsProper (t : List ℕ × Fraction) : Type 0 where
  pub readable : IsReadable t
  pub positive : ArePositive t.0
  pub den : 0 < t.1.1

abbrev pub AreProper : Terms (List ℕ) → Type 0
AreProper [] = Unit {0}
AreProper (t ∷ terms) = IsProper t × AreProper terms

-- the denominator of the coefficient of each term divides q
abbrev pub AreDivisors : ℕ → Terms (List ℕ) → Type 0
AreDivisors q [] = Unit {0}
AreDivisors q (t ∷ terms) = (q / t.1.1 * t.1.1 ≡ q) × AreDivisors q terms

module _ (basis : Basis) (n : ℕ) (α : List ℕ) where
  -- the coefficient of x^α in the polynomial of a label, for the given basis, in n variables
  abbrev pub at_label : List ℕ → ℤ
  at_label numbers = coefficient (basis_polynomial basis numbers n) α

  -- q times the coefficient of x^α in a term without its sign, if the denominator of the term divides q
  abbrev unsigned_share : ℕ → List ℕ × Fraction → ℤ
  unsigned_share q t = (pos (nat_abs t.1.0) *ℤ pos (q / t.1.1)) *ℤ at_label t.0

  abbrev pub shares : ℕ → Terms (List ℕ) → ℤ
  shares q [] = pos 0
  shares q (t ∷ terms) = (t.1.0 *ℤ pos (q / t.1.1)) *ℤ at_label t.0 +ℤ shares q terms

  pub coefficient-cleared : (q : ℕ) (terms : Terms (List ℕ)) → coefficient (cleared (λ label. basis_polynomial basis label n) q terms) α ≡ shares q terms
  coefficient-cleared q [] = refl
  coefficient-cleared q (t ∷ terms) = search (rules, coefficient_plus, coefficient_scale, (coefficient-cleared q terms))

  -- s is q times the coefficient of x^α in the value of the expression e, and the denominator of e is positive
  pub record Stands (q : ℕ) (e : Tree) (s : ℤ) : Type 0 where
    pub positive : 0 < denominator e
    pub equal : pos (denominator e) *ℤ s ≡ pos q *ℤ coefficient (cleared_value e n) α

  scaled_atom : (a : ℕ) (numbers : List ℕ) → coefficient (product_of (scale (pos a) (one n)) (basis_polynomial basis numbers n)) α ≡ pos a *ℤ at_label numbers
  scaled_atom a numbers =
      sym (scale-times (pos a) (one n) (basis_polynomial basis numbers n) α)
      ∙ coefficient_scale (pos a) (product_of (one n) (basis_polynomial basis numbers n)) α
      ∙ ap (λ z. pos a *ℤ z) (one-times n (basis_polynomial basis numbers n) (In-atom basis numbers n) α)

  stands-unit : (q : ℕ) (numbers : List ℕ) → Stands q (atom basis numbers) ((pos 1 *ℤ pos (q / 1)) *ℤ at_label numbers)
  stands-unit q numbers = search rules

  stands-product : (q a d : ℕ) (numbers : List ℕ) (e : Tree) → 0 < d → q / d * d ≡ q → denominator e ≡ d → cleared_value e n ≡ scale (pos a) (one n)
      → Stands q (product e (atom basis numbers)) ((pos a *ℤ pos (q / d)) *ℤ at_label numbers)
  stands-product q a d numbers e some divides den value =
      let whole : denominator e * 1 ≡ d = omega arith in
      record {
        positive = omega arith;
        equal = ap (λ k. pos k *ℤ ((pos a *ℤ pos (q / d)) *ℤ at_label numbers)) whole
            ∙ of_term (pos d) (pos (q / d)) (pos a) (at_label numbers) (pos q) (ap pos divides)
            ∙ ap (λ z. pos q *ℤ z) (sym (ap (λ f. coefficient (product_of f (basis_polynomial basis numbers n)) α) value ∙ scaled_atom a numbers));
      }

  stands-term : (q : ℕ) (t : List ℕ × Fraction) → IsProper t → q / t.1.1 * t.1.1 ≡ q → Stands q (tree (term_phrase basis t)) (unsigned_share q t)
  stands-term q t h divides = by (is_unit t.1) refl
    where
      is_atom : tree (atom_phrase basis t.0) ≡ atom basis t.0
      is_atom = tree_atom basis t.0 h.readable.numbers h.positive

      num_is : decimal_value (decimal (nat_abs t.1.0)) ≡ nat_abs t.1.0
      num_is = decimal_value-decimal (nat_abs t.1.0) h.readable.fraction.num

      den_is : decimal_value (decimal t.1.1) ≡ t.1.1
      den_is = decimal_value-decimal t.1.1 h.readable.fraction.den

      with_coefficient : (b : Bool) → eqb t.1.1 1 ≡ b
          → Stands q (product (tree (cond b (numeral (decimal (nat_abs t.1.0))) (ratio (decimal (nat_abs t.1.0)) (decimal t.1.1)))) (atom basis t.0)) (unsigned_share q t)
      with_coefficient true e =
          stands-product q (nat_abs t.1.0) t.1.1 t.0 (number (decimal_value (decimal (nat_abs t.1.0)))) h.den divides (sym (eqb-true t.1.1 1 e)) (ap (λ a. scale (pos a) (one n)) num_is)
      with_coefficient false e =
          stands-product q (nat_abs t.1.0) t.1.1 t.0 (fraction (decimal_value (decimal (nat_abs t.1.0))) (decimal_value (decimal t.1.1))) h.den divides den_is (ap (λ a. scale (pos a) (one n)) num_is)

      by : (b : Bool) → is_unit t.1 ≡ b → Stands q (tree (cond b (atom_phrase basis t.0) (operation times (coefficient_phrase t.1) (atom_phrase basis t.0)))) (unsigned_share q t)
      by true e =
          let p = and_parts (eqb (nat_abs t.1.0) 1) (eqb t.1.1 1) e in
          subst (λ f. Stands q f (unsigned_share q t)) (sym is_atom)
          (subst (λ s. Stands q (atom basis t.0) s)
          (ap₂ (λ (a d : ℕ). (pos a *ℤ pos (q / d)) *ℤ at_label t.0) (sym (eqb-true (nat_abs t.1.0) 1 p.0)) (sym (eqb-true t.1.1 1 p.1)))
          (stands-unit q t.0))
      by false e =
          subst (λ f. Stands q (product (tree (coefficient_phrase t.1)) f) (unsigned_share q t)) (sym is_atom) (with_coefficient (eqb t.1.1 1) refl)

  stands-sum : (q : ℕ) (e f : Tree) (s r : ℤ) → Stands q e s → Stands q f r → Stands q (sum e f) (s +ℤ r)
  stands-sum q e f s r h k = search (rules, lcm-positive, of_sum, of_part, lcm-left, lcm-right, coefficient_plus, coefficient_scale)

  stands-difference : (q : ℕ) (e f : Tree) (s r : ℤ) → Stands q e s → Stands q f r → Stands q (difference e f) (s +ℤ neg_ℤ r)
  stands-difference q e f s r h k =
      search (rules, lcm-positive, of_sum, neg_ℤ, of_part, lcm-left, of_negation, lcm-right, coefficient_plus, coefficient_scale, coefficient_negate)

  stands-negation : (q : ℕ) (e : Tree) (s : ℤ) → Stands q e s → Stands q (negation e) (neg_ℤ s)
  stands-negation q e s h = search (rules, of_negation, coefficient_negate)

  stands-joined : (q : ℕ) (left : Phrase) (s : ℤ) (t : List ℕ × Fraction) → IsProper t → q / t.1.1 * t.1.1 ≡ q → Stands q (tree left) s
      → Stands q (tree (joined basis left t)) (s +ℤ (t.1.0 *ℤ pos (q / t.1.1)) *ℤ at_label t.0)
  stands-joined q left s (numbers, (pos m, den)) h divides k =
      stands-sum q (tree left) (tree (term_phrase basis (numbers, (pos m, den)))) s (unsigned_share q (numbers, (pos m, den))) k (stands-term q (numbers, (pos m, den)) h divides)
  stands-joined q left s (numbers, (negsuc m, den)) h divides k =
      subst (λ z. Stands q (tree (joined basis left (numbers, (negsuc m, den)))) (s +ℤ z)) (sym (of_sign (pos (suc m)) (pos (q / den)) (at_label numbers)))
      (stands-difference q (tree left) (tree (term_phrase basis (numbers, (negsuc m, den)))) s (unsigned_share q (numbers, (negsuc m, den))) k (stands-term q (numbers, (negsuc m, den)) h divides))

  stands-later : (q : ℕ) (left : Phrase) (s : ℤ) (terms : Terms (List ℕ)) → AreProper terms → AreDivisors q terms → Stands q (tree left) s
      → Stands q (tree (later_phrase basis left terms)) (s +ℤ shares q terms)
  stands-later q left s [] h divides k = subst (λ z. Stands q (tree left) z) (let e : s ≡ s +ℤ pos 0 = omega (arith, ints) in e) k
  stands-later q left s (t ∷ terms) h divides k =
      let x = (t.1.0 *ℤ pos (q / t.1.1)) *ℤ at_label t.0 in
      subst (λ z. Stands q (tree (later_phrase basis (joined basis left t) terms)) z) (+ℤ_assoc s x (shares q terms))
      (stands-later q (joined basis left t) (s +ℤ x) terms h.1 divides.1 (stands-joined q left s t h.0 divides.0 k))

  stands-first : (q : ℕ) (t : List ℕ × Fraction) → IsProper t → q / t.1.1 * t.1.1 ≡ q → Stands q (tree (first_phrase basis t)) ((t.1.0 *ℤ pos (q / t.1.1)) *ℤ at_label t.0)
  stands-first q (numbers, (pos m, den)) h divides = stands-term q (numbers, (pos m, den)) h divides
  stands-first q (numbers, (negsuc m, den)) h divides =
      subst (λ z. Stands q (tree (first_phrase basis (numbers, (negsuc m, den)))) z) (sym (of_sign (pos (suc m)) (pos (q / den)) (at_label numbers)))
      (stands-negation q (tree (term_phrase basis (numbers, (negsuc m, den)))) (unsigned_share q (numbers, (negsuc m, den))) (stands-term q (numbers, (negsuc m, den)) h divides))

  pub stands-line : (q : ℕ) (terms : Terms (List ℕ)) → AreProper terms → AreDivisors q terms → Stands q (tree (line_phrase basis terms)) (shares q terms)
  stands-line q [] h divides = search rules
  stands-line q (t ∷ terms) h divides = stands-later q (first_phrase basis t) ((t.1.0 *ℤ pos (q / t.1.1)) *ℤ at_label t.0) terms h.1 divides.1 (stands-first q t h.0 divides.0)

divisors : (k : ℕ) (terms : Terms (List ℕ)) → AreProper terms → AreDivisors (k * denominators terms) terms
divisors k [] h = tt
divisors k (t ∷ terms) h =
    let turned : k * (t.1.1 * denominators terms) ≡ k * denominators terms * t.1.1 = omega arith in
    let moved : k * t.1.1 * denominators terms ≡ k * (t.1.1 * denominators terms) = omega arith in
    (ap (λ q. q / t.1.1 * t.1.1) turned ∙ ap (λ r. r * t.1.1) (mul-div_cancel (k * denominators terms) h.0.den) ∙ sym turned, subst (λ q. AreDivisors q terms) moved (divisors (k * t.1.1) terms h.1))

denominators-positive : (terms : Terms (List ℕ)) → AreProper terms → 0 < denominators terms
denominators-positive [] h = omega arith
denominators-positive (t ∷ terms) h = mul-pos h.0.den (denominators-positive terms h.1)

pub line-value : (basis : Basis) (terms : Terms (List ℕ)) → AreProper terms → (n : ℕ)
    → IsExpansionOf basis terms n (cleared_value (tree (line_phrase basis terms)) n) (denominator (tree (line_phrase basis terms)))
line-value basis terms h n = record {
  positive = denominators-positive terms h;
  equal = λ α.
      let q = denominators terms in
      let once : 1 * q ≡ q = omega arith in
      let s = stands-line basis n α q terms h (subst (λ k. AreDivisors k terms) once (divisors 1 terms h)) in
      coefficient_scale (pos (denominator (tree (line_phrase basis terms)))) (cleared (λ label. basis_polynomial basis label n) q terms) α
      ∙ ap (λ z. pos (denominator (tree (line_phrase basis terms))) *ℤ z) (coefficient-cleared basis n α q terms)
      ∙ s.equal
      ∙ sym (coefficient_scale (pos q) (cleared_value (tree (line_phrase basis terms)) n) α);
}
