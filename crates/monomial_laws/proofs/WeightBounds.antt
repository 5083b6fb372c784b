-- The weight of an expression e bounds every number that the conversion of e into m computes (specs/ExpressionTerms). It is `numerator e` times the
-- denominator of e times B(d), with d the degree of e. Here B(d) is d^d, or 1 if d = 0 (`growth` of m at d). Let f be bounded by N at the degree d
-- (`IsBounded`): a sum of at most N powers of x_1 + .. + x_n, with exponents up to d, is a majorant of f.
--     coefficient_within_factorial   no coefficient of f exceeds N·d! in absolute value
--     coefficient_within_growth      no coefficient of f exceeds N·B(d) in absolute value
--     product_within_growth          if g is bounded by M at the degree e, and the coefficients of f and g in m are replaced by their absolute
--                                    values, no coefficient of the product of f and g in m exceeds N·M·B(d + e)
use Rattle.std.proofs.Common.{◌≡◌, ◌⊎◌, ℕ, zero, suc, ◌+◌, ◌-◌, ◌*◌, ◌/◌, ◌^◌, ◌<◌, ◌≤◌, List, [], ◌∷◌, length, sym, ◌∙◌, ap, subst, refl, inl, inr, arith, ℤ, pos, ◌+ℤ◌, rules}
use Rattle.std.specs.Prelude.{nat_abs, ◌≤ℤ◌}
use Rattle.std.proofs.lemmas.Int.{ints}
use Rattle.std.proofs.lemmas.Nat.{mul-le}
use Rattle.std.proofs.Math.Nat.{pow-le-pow_left}
use Rattle.std.proofs.lemmas.Bool.{cases_lt, cases_eq}
use Rattle.sym_model.specs.Sum.{Among, Once}
use Rattle.sym_model.specs.Polynomial.{Poly, coefficient, times}
use Rattle.sym_model.specs.Partition.{size, sorted_parts}
use Rattle.sym_model.specs.Expansion.{Basis}
use Rattle.sym_model.specs.Expression.{Tree, number, fraction, atom, negation, sum, difference, product, degree, lcm, denominator}
use Rattle.sym_model.specs.Weight.{factorial, growth, numerator, weight}
use Rattle.sym_model.specs.WholeTerms.{WholeTerms, labels}
use Rattle.monomial_laws.specs.MonomialProduct.{product_coefficient}
use Rattle.monomial_laws.specs.Majorant.{IsBounded, powers}
use Rattle.monomial_laws.specs.ExpressionTerms.{in_monomials, absolute, HasDenominators}
use Rattle.sym_model.proofs.Sums.{total_among}
use Rattle.sym_model.proofs.Exponents.{same_from, same_apart, same_or_not}
use Rattle.sym_model.proofs.Polynomials.{coefficient_outside}
use Rattle.monomial_laws.proofs.PowerSumCoefficients.{coefficient-monomial_terms}
use Rattle.monomial_laws.proofs.Splits.{coefficient_times, length-splits, In-monomial_terms}
use Rattle.monomial_laws.proofs.Growths.{factorial-mono}
use Rattle.monomial_laws.proofs.Powers.{factorials-positive}
use Rattle.monomial_laws.proofs.Majorants.{bounded-times, coefficient_bound, coefficient-higher}
use Rattle.std.specs.Int.{◌∣◌}
use Rattle.sym_model.specs.Canonical.{gcd}
use Rattle.sym_model.proofs.GreatestCommonDivisors.{IsGcd-gcd}
use Rattle.sym_model.proofs.Numbers.{times-more, positive_factor}
use native.Mathlib.Nat.{div-mul_cancel, dvd-mul_left, mul-le-mul_left, pow-suc}
use lib.IntN.{+ℤ_idl}

-- ---- upper bounds for d!, and bounds for `growth` of m

factorial-within : (d : ℕ) → factorial d ≤ suc d ^ d
factorial-within zero = omega arith
factorial-within (suc d) =
    let p = pow-le-pow_left (let o : suc d ≤ suc (suc d) = omega arith in o) d in
    let q = factorial-within d in
    let r = mul-le (suc d) (factorial d) (suc (suc d)) (suc (suc d) ^ d) (omega arith) (omega arith) in
    rw (pow-suc (suc (suc d)) d) (omega arith)

pub factorial-within_growth : (d : ℕ) → factorial d ≤ growth Basis.monomials d
factorial-within_growth zero = omega arith
factorial-within_growth (suc d) =
    let p = factorial-within d in
    let q = mul-le-mul_left (suc d) p in
    rw (pow-suc (suc d) d) (omega arith)

growth-more : (d : ℕ) → growth Basis.monomials d ≤ growth Basis.monomials (suc d)
growth-more zero = omega arith
growth-more (suc d) =
    let p = pow-le-pow_left (let o : suc d ≤ suc (suc d) = omega arith in o) (suc d) in
    let q = mul-le-mul_left (suc (suc d) ^ suc d) (let one : 1 ≤ suc (suc d) = omega arith in one) in
    rw (pow-suc (suc (suc d)) (suc d)) (omega arith)

growth-mono_more : (d j : ℕ) → growth Basis.monomials d ≤ growth Basis.monomials (j + d)
growth-mono_more d zero = let e : 0 + d ≡ d = omega arith in rw e (omega arith)
growth-mono_more d (suc j) = let e : suc j + d ≡ suc (j + d) = omega arith in let h = growth-mono_more d j in let k = growth-more (j + d) in rw e (omega arith)

pub growth-mono : (d e : ℕ) → d ≤ e → growth Basis.monomials d ≤ growth Basis.monomials e
growth-mono d e h = let i : (e - d) + d ≡ e = omega arith in subst (λ k. growth Basis.monomials d ≤ growth Basis.monomials k) i (growth-mono_more d (e - d))

pub growth-positive : (d : ℕ) → 0 < growth Basis.monomials d
growth-positive d = let h = growth-mono 0 d (omega arith) in omega arith

-- if f is bounded by N at the degree d (`IsBounded`), no coefficient of f exceeds N·d! in absolute value
pub coefficient_within_factorial : (N d n : ℕ) (f : Poly) → IsBounded N d n f → (α : List ℕ) → length α ≡ n → nat_abs (coefficient f α) ≤ N * factorial d
coefficient_within_factorial N d n f b α e = by (cases_lt d (size α))
  where
    by : (d < size α) ⊎ (size α ≤ d) → nat_abs (coefficient f α) ≤ N * factorial d
    by (inl h) = let z = ap nat_abs (coefficient-higher N d n f b α e h) in omega (arith, z)
    by (inr h) =
        let p = coefficient_bound N d n f b α e in
        let q = mul-le-mul_left N (factorial-mono (size α) d h) in
        let u = mul-le-mul_left (nat_abs (coefficient f α)) (factorials-positive α) in
        omega arith

-- if f is bounded by N at the degree d (`IsBounded`), no coefficient of f exceeds, in absolute value, N times `growth` of m at d, which is d^d (1 if
-- d = 0)
pub coefficient_within_growth : (N d n : ℕ) (f : Poly) → IsBounded N d n f → (α : List ℕ) → length α ≡ n → nat_abs (coefficient f α) ≤ N * growth Basis.monomials d
coefficient_within_growth N d n f b α e = by (cases_lt d (size α))
  where
    by : (d < size α) ⊎ (size α ≤ d) → nat_abs (coefficient f α) ≤ N * growth Basis.monomials d
    by (inl h) = let z = ap nat_abs (coefficient-higher N d n f b α e h) in omega (arith, z)
    by (inr h) =
        let p = coefficient_bound N d n f b α e in
        let q = factorial-within_growth (size α) in
        let r = growth-mono (size α) d h in
        let s = mul-le-mul_left N (let t : factorial (size α) ≤ growth Basis.monomials d = omega arith in t) in
        let u = mul-le-mul_left (nat_abs (coefficient f α)) (factorials-positive α) in
        omega arith

absolute-missing : (terms : WholeTerms) (label : List ℕ) → (Among label (labels terms) → ⊥) → (coefficient terms label ≡ pos 0) × (coefficient (absolute terms) label ≡ pos 0)
absolute-missing [] label h = (refl, refl)
absolute-missing (t ∷ terms) label h = search (rules, same_apart, +ℤ_idl, (absolute-missing terms label))

pub coefficient-absolute : (terms : WholeTerms) (label : List ℕ) → Once (labels terms) → coefficient (absolute terms) label ≡ pos (nat_abs (coefficient terms label))
coefficient-absolute [] label o = refl
coefficient-absolute (t ∷ terms) label o =
    search (rules, same_or_not, absolute-missing, same_from, ints, same_apart, +ℤ_idl, (coefficient-absolute terms label o.1))

-- if the polynomial of a list in the monomial basis m is bounded by N at the degree d (`IsBounded`), so is the polynomial of the list that has the
-- absolute values of the coefficients
pub bounded-absolute : (N d n : ℕ) (terms : WholeTerms) → Once (labels terms) → IsBounded N d n (in_monomials terms n) → IsBounded N d n (in_monomials (absolute terms) n)
bounded-absolute N d n terms o b = record {
  exponents = b.exponents;
  few = b.few;
  low = b.low;
  majorant = λ α. by α (cases_eq (length α) n);
}
  where
    nonnegative : (x : ℤ) (y : ℤ) → pos (nat_abs x) ≤ℤ y → pos 0 ≤ℤ y
    nonnegative x y h = omega (arith, ints)

    by : (α : List ℕ) → (length α ≡ n) ⊎ (length α ≡ n → ⊥) → pos (nat_abs (coefficient (in_monomials (absolute terms) n) α)) ≤ℤ coefficient (powers b.exponents n) α
    by α (inl e) =
        subst (λ z. pos (nat_abs z) ≤ℤ coefficient (powers b.exponents n) α)
        (sym (coefficient-monomial_terms (absolute terms) n α e ∙ coefficient-absolute terms (sorted_parts α) o ∙ ap (λ z. pos (nat_abs z)) (sym (coefficient-monomial_terms terms n α e))))
        (twice (coefficient (in_monomials terms n) α) (coefficient (powers b.exponents n) α) (b.majorant α))
      where
        twice : (x y : ℤ) → pos (nat_abs x) ≤ℤ y → pos (nat_abs (pos (nat_abs x))) ≤ℤ y
        twice x y h = omega (arith, ints)
    by α (inr e) =
        subst (λ z. pos (nat_abs z) ≤ℤ coefficient (powers b.exponents n) α)
        (sym (coefficient_outside n (in_monomials (absolute terms) n) α (In-monomial_terms (absolute terms) n) e))
        (nonnegative (coefficient (in_monomials terms n) α) (coefficient (powers b.exponents n) α) (b.majorant α))

pub coefficient-list_product : (A B : WholeTerms) (ν : List ℕ) → coefficient (times (in_monomials A (length ν)) (in_monomials B (length ν))) ν ≡ product_coefficient A B ν
coefficient-list_product A B ν = search (rules, coefficient_times, In-monomial_terms, total_among, length-splits, coefficient-monomial_terms)

-- let the polynomials of the lists A and B be bounded by N at the degree d and by M at the degree e (`IsBounded`). If the coefficients of A and B are
-- replaced by their absolute values, no coefficient of the product exceeds N·M times `growth` of m at d + e
pub product_within_growth : (N M d e : ℕ) (A B : WholeTerms) → Once (labels A) → Once (labels B)
    → ((n : ℕ) → IsBounded N d n (in_monomials A n)) → ((n : ℕ) → IsBounded M e n (in_monomials B n))
    → (ν : List ℕ) → nat_abs (product_coefficient (absolute A) (absolute B) ν) ≤ N * M * growth Basis.monomials (d + e)
product_within_growth N M d e A B o p h k ν =
    let n = length ν in
    subst (λ z. nat_abs z ≤ N * M * growth Basis.monomials (d + e)) (coefficient-list_product (absolute A) (absolute B) ν)
    (coefficient_within_growth (N * M) (d + e) n (times (in_monomials (absolute A) n) (in_monomials (absolute B) n))
    (bounded-times N M d e n (in_monomials (absolute A) n) (in_monomials (absolute B) n) (In-monomial_terms (absolute A) n) (In-monomial_terms (absolute B) n)
    (bounded-absolute N d n A o (h n)) (bounded-absolute M e n B p (k n)))
    ν refl)

-- ---- the weight of an expression e is at least `numerator e` times `growth` of m at the degree of e, and at least `denominator e`

pub lcm-left : (a b : ℕ) → 0 < a → lcm a b / a * a ≡ lcm a b
lcm-left a b h =
    let g = IsGcd-gcd a b in
    let p = div-mul_cancel (gcd a b) {m = a} g.0 in
    let q = div-mul_cancel (gcd a b) {m = b} g.1 in
    let e : b / gcd a b * a ≡ lcm a b = ap (λ k. b / gcd a b * k) (sym p) ∙ (let r : b / gcd a b * (a / gcd a b * gcd a b) ≡ a / gcd a b * (b / gcd a b * gcd a b) = omega arith in r) ∙ ap (λ k. a / gcd a b * k) q in
    div-mul_cancel a {m = lcm a b} (subst (λ k. a ∣ k) e (dvd-mul_left a (b / gcd a b)))

pub lcm-right : (a b : ℕ) → lcm a b / b * b ≡ lcm a b
lcm-right a b = div-mul_cancel b {m = lcm a b} (dvd-mul_left b (a / gcd a b))

pub lcm-positive : (a b : ℕ) → 0 < a → 0 < b → 0 < lcm a b
lcm-positive a b h k =
    let g = IsGcd-gcd a b in
    let p = div-mul_cancel (gcd a b) {m = a} g.0 in
    let q = positive_factor (a / gcd a b) (gcd a b) a p h in
    let r = mul-le (suc zero) (suc zero) (a / gcd a b) b (omega arith) (omega arith) in
    omega arith

pub denominator-positive : (e : Tree) → HasDenominators e → 0 < denominator e
denominator-positive (number a) h = omega arith
denominator-positive (fraction a b) h = h
denominator-positive (atom basis parts) h = omega arith
denominator-positive (negation e) h = denominator-positive e h
denominator-positive (sum e f) h = lcm-positive (denominator e) (denominator f) (denominator-positive e h.0) (denominator-positive f h.1)
denominator-positive (difference e f) h = lcm-positive (denominator e) (denominator f) (denominator-positive e h.0) (denominator-positive f h.1)
denominator-positive (product e f) h =
    let r = mul-le (suc zero) (suc zero) (denominator e) (denominator f) (denominator-positive e h.0) (denominator-positive f h.1) in omega arith

pub complement_left : (e f : Tree) → HasDenominators e → HasDenominators f → 0 < lcm (denominator e) (denominator f) / denominator e
complement_left e f h k =
    positive_factor (lcm (denominator e) (denominator f) / denominator e) (denominator e) (lcm (denominator e) (denominator f))
    (lcm-left (denominator e) (denominator f) (denominator-positive e h)) (lcm-positive (denominator e) (denominator f) (denominator-positive e h) (denominator-positive f k))

pub complement_right : (e f : Tree) → HasDenominators e → HasDenominators f → 0 < lcm (denominator e) (denominator f) / denominator f
complement_right e f h k = search (rules, positive_factor, lcm-right, lcm-positive, denominator-positive)

pub numerator-positive : (e : Tree) → HasDenominators e → 0 < numerator e
numerator-positive (number a) h = omega arith
numerator-positive (fraction a b) h = omega arith
numerator-positive (atom basis parts) h = omega arith
numerator-positive (negation e) h = numerator-positive e h
numerator-positive (sum e f) h =
    let q = lcm (denominator e) (denominator f) / denominator e in
    let r = mul-le (suc zero) (suc zero) (numerator e) q (numerator-positive e h.0) (complement_left e f h.0 h.1) in omega arith
numerator-positive (difference e f) h =
    let q = lcm (denominator e) (denominator f) / denominator e in
    let r = mul-le (suc zero) (suc zero) (numerator e) q (numerator-positive e h.0) (complement_left e f h.0 h.1) in omega arith
numerator-positive (product e f) h =
    let r = mul-le (suc zero) (suc zero) (numerator e) (numerator f) (numerator-positive e h.0) (numerator-positive f h.1) in omega arith

-- the weight of e is at least `numerator e` times `growth` of m at the degree of e
pub growth-within_weight : (e : Tree) → HasDenominators e → numerator e * growth Basis.monomials (degree e) ≤ weight Basis.monomials e
growth-within_weight e h = mul-le (numerator e) (growth Basis.monomials (degree e)) (numerator e * denominator e) (growth Basis.monomials (degree e)) (times-more (numerator e) (denominator e) (denominator-positive e h)) (omega arith)

pub denominator-within_weight : (e : Tree) → HasDenominators e → denominator e ≤ weight Basis.monomials e
denominator-within_weight e h = search (rules, times-more, numerator-positive, growth-positive)
