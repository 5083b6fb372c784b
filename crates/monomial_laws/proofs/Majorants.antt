-- Majorants of polynomials (specs/Majorant), and bounds for the value of an expression. F is a majorant of f if each coefficient of F is at least
-- the absolute value of the same coefficient of f. A polynomial f in n variables is bounded by N at the degree d (`IsBounded`) if a sum of at most
-- N powers of x_1 + .. + x_n, with exponents up to d, is a majorant of f.
--     majorant-times                       majorants of products and multiples
--     majorant-monomials, -product_over    (x_1 + .. + x_n)^d is a majorant of the basis polynomials of degree d
--     bounded_value                        the cleared value of an expression e, which is the value of e times its common denominator, is bounded by
--                                          `numerator e` at the degree of e
--     coefficient_bound                    if f is bounded by N (at any degree), the coefficient of x^α is at most N·|α|!/Π α_i! in absolute value
use Rattle.std.proofs.lemmas.Grind.{common_steps}
use Rattle.std.proofs.Common.{◌≡◌, ◌⊎◌, ℕ, map, zero, suc, ◌<◌, ◌+◌, ◌*◌, ◌/◌, ◌≤◌, max, Bool, true, false, cond, eqb, List, [], ◌∷◌, ◌++◌, length, sym, ◌∙◌, ap, subst, refl, inl, inr, arith, ℤ, pos, negsuc, ◌+ℤ◌, ◌*ℤ◌, rules}
use Rattle.std.specs.Prelude.{◌≤ℤ◌, nat_abs}
use Rattle.std.proofs.lemmas.Int.{ints}
use Rattle.std.proofs.lemmas.Nat.{mul-le}
use Rattle.std.proofs.lemmas.Bool.{cases_eq, eq-eqb, eqb-true, and_parts}
use Rattle.std.proofs.lemmas.List.{length-append}
use Rattle.sym_model.specs.Sum.{total, Among}
use Rattle.sym_model.specs.Polynomial.{Poly, same, coefficient, Same, In, one, plus, scale, negate, times}
use Rattle.sym_model.specs.Partition.{size, sorted_parts}
use Rattle.sym_model.specs.Bases.{monomials, product_over, at_most_one, has, elementary_of, complete_of, power_sum_of}
use Rattle.sym_model.specs.Expansion.{Basis, elementaries, completes, power_sums, schurs, basis_polynomial}
use Rattle.sym_model.specs.Expression.{Tree, number, fraction, atom, negation, sum, difference, product, degree, lcm, denominator, cleared_value}
use Rattle.sym_model.specs.Weight.{factorial, numerator}
use Rattle.monomial_laws.specs.MonomialProduct.{splits}
use Rattle.monomial_laws.specs.Majorant.{IsMajorant, IsBounded, power, powers}
use Rattle.sym_model.proofs.Sums.{total_none, Among_from_append, Among_from_each, Among_from_map}
use Rattle.sym_model.proofs.Polynomials.{coefficient_plus, coefficient_scale, coefficient_negate, Same_sym, Same_refl, In_one, In_plus, In_scale, In_negate, In_times, coefficient_outside}
use Rattle.sym_model.proofs.Monomials.{is_exponent_list, coefficient-monomials, In-monomials}
use Rattle.monomial_laws.proofs.Splits.{coefficient_times}
use Rattle.monomial_laws.proofs.Powers.{power-elsewhere, power-add, In-power, In-powers, In-product_over, power-nonnegative, power-positive, coefficient_power, coefficient-powers, sums, length-sums, powers-product, copies, length-copies, powers-append, powers-copies, powers-few}
use Rattle.monomial_laws.proofs.SchurMajorants.{In-schur, majorant-schur}
use Rattle.sym_model.specs.ListWeight.{factorials}
use native.Mathlib.Nat.{mul-le-mul_left}
use lib.IntN.{+ℤ_idr}
use Rattle.sym_model.proofs.Integers.{le_trans_ℤ}

pub total_within_total : {A : Type 0} (f g : A → ℤ) (xs : List A) → ((x : A) → Among x xs → pos (nat_abs (f x)) ≤ℤ g x) → pos (nat_abs (total f xs)) ≤ℤ total g xs
total_within_total f g [] h = omega (arith, ints)
total_within_total f g (x ∷ xs) h = search (rules, ints, (total_within_total f g xs))

product_within : (a b c d : ℤ) → pos (nat_abs a) ≤ℤ c → pos (nat_abs b) ≤ℤ d → pos (nat_abs (a *ℤ b)) ≤ℤ (c *ℤ d)
product_within a b (pos c) (pos d) h k = grind (arith, common_steps)
product_within a b (negsuc c) d h k = absurd (omega (arith, ints))
product_within a b (pos c) (negsuc d) h k = absurd (omega (arith, ints))

-- ---- majorants of sums, multiples and products

pub majorant_respects : (F G f g : Poly) → Same F G → Same f g → IsMajorant F f → IsMajorant G g
majorant_respects F G f g e k m α = subst (λ z. pos (nat_abs z) ≤ℤ coefficient G α) (k α) (subst (λ z. pos (nat_abs (coefficient f α)) ≤ℤ z) (e α) (m α))

pub majorant-negate : (F f : Poly) → IsMajorant F f → IsMajorant F (negate f)
majorant-negate F f h α = omega (arith, ints, coefficient_negate f α, h α)

pub majorant-times : (n : ℕ) (F G f g : Poly) → In n F → In n G → In n f → In n g → IsMajorant F f → IsMajorant G g → IsMajorant (times F G) (times f g)
majorant-times n F G f g i j k l h m α = by (cases_eq (length α) n)
  where
    by : (length α ≡ n) ⊎ (length α ≡ n → ⊥) → pos (nat_abs (coefficient (times f g) α)) ≤ℤ coefficient (times F G) α
    by (inl e) =
        rw (coefficient_times n f g α k l e, coefficient_times n F G α i j e)
        (total_within_total (λ (s : List ℕ × List ℕ). coefficient f s.0 *ℤ coefficient g s.1) (λ (s : List ℕ × List ℕ). coefficient F s.0 *ℤ coefficient G s.1) (splits α)
        (λ s n. product_within (coefficient f s.0) (coefficient g s.1) (coefficient F s.0) (coefficient G s.1) (h s.0) (m s.1)))
    by (inr e) =
        rw (coefficient_outside n (times f g) α (In_times n f g k l) e, coefficient_outside n (times F G) α (In_times n F G i j) e)
        (omega (arith, ints))

majorant-itself : (F : Poly) → ((α : List ℕ) → pos 0 ≤ℤ coefficient F α) → IsMajorant F F
majorant-itself F h α = omega (arith, ints, h α)

majorant-copies : (q n : ℕ) (ds : List ℕ) (f : Poly) → IsMajorant (powers ds n) f → IsMajorant (powers (copies q ds) n) (scale (pos q) f)
majorant-copies q n ds f h α =
    rw (coefficient_scale (pos q) f α, powers-copies q ds n α)
    (product_within (pos q) (coefficient f α) (pos q) (coefficient (powers ds n) α) (omega (arith, ints)) (h α))

majorant-append : (n : ℕ) (ds es : List ℕ) (f g : Poly) → IsMajorant (powers ds n) f → IsMajorant (powers es n) g → IsMajorant (powers (ds ++ es) n) (plus f g)
majorant-append n ds es f g h k α =
    omega (arith, ints, powers-append ds es n α, coefficient_plus f g α, h α, k α)

majorant-one : (d n : ℕ) (f : Poly) → IsMajorant (power d n) f → IsMajorant (powers (d ∷ []) n) f
majorant-one d n f h α = subst (λ z. pos (nat_abs (coefficient f α)) ≤ℤ z) (sym (coefficient-powers (d ∷ []) n α ∙ +ℤ_idr (coefficient (power d n) α))) (h α)

-- (x_1 + .. + x_n)^d is a majorant of the sum of the monomials of degree d that pass a test

pub majorant-monomials : (test : List ℕ → Bool) (n d : ℕ) → IsMajorant (power d n) (monomials test n d)
majorant-monomials test n d γ = subst (λ z. pos (nat_abs z) ≤ℤ coefficient (power d n) γ) (sym (coefficient-monomials test n d γ)) (by (is_exponent_list n d γ) refl (test γ))
  where
    by : (x : Bool) → is_exponent_list n d γ ≡ x → (y : Bool) → pos (nat_abs (cond x (cond y (pos 1) (pos 0)) (pos 0))) ≤ℤ coefficient (power d n) γ
    by false e y = power-nonnegative d n γ
    by true e y =
        let p = and_parts (eqb (length γ) n) (eqb (size γ) d) e in
        at y (power-positive d n γ (eqb-true (length γ) n p.0) (eqb-true (size γ) d p.1))
      where
        at : (y : Bool) → pos 1 ≤ℤ coefficient (power d n) γ → pos (nat_abs (cond y (pos 1) (pos 0))) ≤ℤ coefficient (power d n) γ
        at true h = omega (arith, ints)
        at false h = omega (arith, ints)

pub majorant-product_over : (f : ℕ → ℕ → Poly) (n : ℕ) → ((k : ℕ) → In n (f k n)) → ((k : ℕ) → IsMajorant (power k n) (f k n)) → (parts : List ℕ) → IsMajorant (power (size parts) n) (product_over f parts n)
majorant-product_over f n i h [] = majorant-itself (one n) (power-nonnegative 0 n)
majorant-product_over f n i h (k ∷ parts) =
    majorant_respects
    (times (power k n) (power (size parts) n)) (power (k + size parts) n)
    (times (f k n) (product_over f parts n)) (times (f k n) (product_over f parts n))
    (Same_sym (power (k + size parts) n) (times (power k n) (power (size parts) n)) (power-add k (size parts) n))
    (Same_refl (times (f k n) (product_over f parts n)))
    (majorant-times n (power k n) (power (size parts) n) (f k n) (product_over f parts n) (In-power k n) (In-power (size parts) n) (i k) (In-product_over f parts n i) (h k) (majorant-product_over f n i h parts))

-- ---- a bound for the value of an expression times its common denominator

pub In-atom : (basis : Basis) (parts : List ℕ) (n : ℕ) → In n (basis_polynomial basis parts n)
In-atom Basis.monomials parts n = In-monomials (λ α. same (sorted_parts α) parts) n (size parts)
In-atom elementaries parts n = In-product_over elementary_of parts n (λ k. In-monomials at_most_one n k)
In-atom completes parts n = In-product_over complete_of parts n (λ k. In-monomials (λ α. true) n k)
In-atom power_sums parts n = In-product_over power_sum_of parts n (λ k. In-monomials (has k) n k)
In-atom schurs parts n = In-schur parts n

pub majorant-atom : (basis : Basis) (parts : List ℕ) (n : ℕ) → IsMajorant (power (size parts) n) (basis_polynomial basis parts n)
majorant-atom Basis.monomials parts n = majorant-monomials (λ α. same (sorted_parts α) parts) n (size parts)
majorant-atom elementaries parts n = majorant-product_over elementary_of n (λ k. In-monomials at_most_one n k) (λ k. majorant-monomials at_most_one n k) parts
majorant-atom completes parts n = majorant-product_over complete_of n (λ k. In-monomials (λ α. true) n k) (λ k. majorant-monomials (λ α. true) n k) parts
majorant-atom power_sums parts n = majorant-product_over power_sum_of n (λ k. In-monomials (has k) n k) (λ k. majorant-monomials (has k) n k) parts
majorant-atom schurs parts n = majorant-schur parts n

pub In-cleared_value : (e : Tree) (n : ℕ) → In n (cleared_value e n)
In-cleared_value (number a) n = In_scale n (pos a) (one n) (In_one n)
In-cleared_value (fraction a b) n = In_scale n (pos a) (one n) (In_one n)
In-cleared_value (atom basis parts) n = In-atom basis parts n
In-cleared_value (negation e) n = In_negate n (cleared_value e n) (In-cleared_value e n)
In-cleared_value (sum e f) n =
    let q = lcm (denominator e) (denominator f) in
    In_plus n (scale (pos (q / denominator e)) (cleared_value e n)) (scale (pos (q / denominator f)) (cleared_value f n))
    (In_scale n (pos (q / denominator e)) (cleared_value e n) (In-cleared_value e n))
    (In_scale n (pos (q / denominator f)) (cleared_value f n) (In-cleared_value f n))
In-cleared_value (difference e f) n =
    let q = lcm (denominator e) (denominator f) in
    In_plus n (scale (pos (q / denominator e)) (cleared_value e n)) (negate (scale (pos (q / denominator f)) (cleared_value f n)))
    (In_scale n (pos (q / denominator e)) (cleared_value e n) (In-cleared_value e n))
    (In_negate n (scale (pos (q / denominator f)) (cleared_value f n)) (In_scale n (pos (q / denominator f)) (cleared_value f n) (In-cleared_value f n)))
In-cleared_value (product e f) n = In_times n (cleared_value e n) (cleared_value f n) (In-cleared_value e n) (In-cleared_value f n)

low-copies : (d q : ℕ) (ds : List ℕ) → ((k : ℕ) → Among k ds → k ≤ d) → (k : ℕ) → Among k (copies q ds) → k ≤ d
low-copies d zero ds h k m = absurd m
low-copies d (suc q) ds h k m = by (Among_from_append k ds (copies q ds) m) (low-copies d q ds h k)
  where
    by : Among k ds ⊎ Among k (copies q ds) → (Among k (copies q ds) → k ≤ d) → k ≤ d
    by (inl u) r = h k u
    by (inr u) r = r u

low-append : (d e : ℕ) (ds es : List ℕ) → ((k : ℕ) → Among k ds → k ≤ d) → ((k : ℕ) → Among k es → k ≤ e) → (k : ℕ) → Among k (ds ++ es) → k ≤ max d e
low-append d e ds es h i k m = by (Among_from_append k ds es m)
  where
    by : Among k ds ⊎ Among k es → k ≤ max d e
    by (inl u) = omega (arith, h k u)
    by (inr u) = omega (arith, i k u)

low-sums : (d e : ℕ) (ds es : List ℕ) → ((k : ℕ) → Among k ds → k ≤ d) → ((k : ℕ) → Among k es → k ≤ e) → (k : ℕ) → Among k (sums ds es) → k ≤ d + e
low-sums d e ds es h i k m =
    let r = Among_from_each (λ (x : ℕ). map (λ (y : ℕ). x + y) es) k ds m in
    let s = Among_from_map (λ (y : ℕ). r.0 + y) k es r.2 in
    omega (arith, h r.0 r.1, i s.0 s.1, s.2)

pub low-one : (d k : ℕ) → Among k (d ∷ []) → k ≤ d
low-one d k (inl e) = omega arith
low-one d k (inr m) = absurd m

bounded-number : (a n : ℕ) → IsBounded (max 1 a) 0 n (scale (pos a) (one n))
bounded-number a n = record {
  exponents = copies a (0 ∷ []);
  few = omega (arith, length-copies a (0 ∷ []));
  low = low-copies 0 a (0 ∷ []) (low-one 0);
  majorant = majorant-copies a n (0 ∷ []) (one n) (majorant-one 0 n (one n) (majorant-itself (one n) (power-nonnegative 0 n)));
}

pub bounded-atom : (basis : Basis) (parts : List ℕ) (n : ℕ) → IsBounded 1 (size parts) n (basis_polynomial basis parts n)
bounded-atom basis parts n = record {
  exponents = size parts ∷ [];
  few = omega arith;
  low = low-one (size parts);
  majorant = majorant-one (size parts) n (basis_polynomial basis parts n) (majorant-atom basis parts n);
}

pub bounded-negate : (N d n : ℕ) (f : Poly) → IsBounded N d n f → IsBounded N d n (negate f)
bounded-negate N d n f b = record { exponents = b.exponents; few = b.few; low = b.low; majorant = majorant-negate (powers b.exponents n) f b.majorant }

pub bounded-scale : (N d q n : ℕ) (f : Poly) → IsBounded N d n f → IsBounded (N * q) d n (scale (pos q) f)
bounded-scale N d q n f b = record {
  exponents = copies q b.exponents;
  few = let m = mul-le-mul_left q b.few in omega (arith, length-copies q b.exponents);
  low = low-copies d q b.exponents b.low;
  majorant = majorant-copies q n b.exponents f b.majorant;
}

pub bounded-plus : (N M d e n : ℕ) (f g : Poly) → IsBounded N d n f → IsBounded M e n g → IsBounded (N + M) (max d e) n (plus f g)
bounded-plus N M d e n f g b c = record {
  exponents = b.exponents ++ c.exponents;
  few = omega (arith, length-append b.exponents c.exponents, b.few, c.few);
  low = low-append d e b.exponents c.exponents b.low c.low;
  majorant = majorant-append n b.exponents c.exponents f g b.majorant c.majorant;
}

pub bounded-times : (N M d e n : ℕ) (f g : Poly) → In n f → In n g → IsBounded N d n f → IsBounded M e n g → IsBounded (N * M) (d + e) n (times f g)
bounded-times N M d e n f g i j b c = record {
  exponents = sums b.exponents c.exponents;
  few = let m = mul-le (length b.exponents) (length c.exponents) N M b.few c.few in omega (arith, length-sums b.exponents c.exponents);
  low = low-sums d e b.exponents c.exponents b.low c.low;
  majorant =
      majorant_respects
      (times (powers b.exponents n) (powers c.exponents n)) (powers (sums b.exponents c.exponents) n) (times f g) (times f g)
      (Same_sym (powers (sums b.exponents c.exponents) n) (times (powers b.exponents n) (powers c.exponents n)) (powers-product b.exponents c.exponents n))
      (Same_refl (times f g))
      (majorant-times n (powers b.exponents n) (powers c.exponents n) f g (In-powers b.exponents n) (In-powers c.exponents n) i j b.majorant c.majorant);
}

pub bounded-weaken : (N M d e n : ℕ) (f : Poly) → N ≤ M → d ≤ e → IsBounded N d n f → IsBounded M e n f
bounded-weaken N M d e n f h k b = record {
  exponents = b.exponents;
  few = omega (arith, b.few);
  low = λ j m. omega (arith, b.low j m);
  majorant = b.majorant;
}

pub bounded-majorant : (N d n : ℕ) (F f : Poly) → IsMajorant F f → IsBounded N d n F → IsBounded N d n f
bounded-majorant N d n F f m b = search rules

pub bounded_respects : (N d n : ℕ) (f g : Poly) → Same f g → IsBounded N d n f → IsBounded N d n g
bounded_respects N d n f g e b = search rules

-- the cleared value of an expression e, which is the value of e times its common denominator, is bounded by `numerator e` at the degree of e
-- (`IsBounded`), in every number of variables
pub bounded_value : (e : Tree) (n : ℕ) → IsBounded (numerator e) (degree e) n (cleared_value e n)
bounded_value (number a) n = bounded-number a n
bounded_value (fraction a b) n = bounded-number a n
bounded_value (atom basis parts) n = bounded-atom basis parts n
bounded_value (negation e) n = bounded-negate (numerator e) (degree e) n (cleared_value e n) (bounded_value e n)
bounded_value (sum e f) n = search (rules, bounded-plus, bounded-scale, (bounded_value e n), (bounded_value f n))
bounded_value (difference e f) n = search (rules, bounded-plus, bounded-scale, bounded-negate, (bounded_value e n), (bounded_value f n))
bounded_value (product e f) n =
    bounded-times (numerator e) (numerator f) (degree e) (degree f) n (cleared_value e n) (cleared_value f n) (In-cleared_value e n) (In-cleared_value f n) (bounded_value e n) (bounded_value f n)

within_multiple : (c l N : ℕ) (P : ℤ) (F D : ℕ) → pos c ≤ℤ (pos l *ℤ P) → l ≤ N → pos 0 ≤ℤ P → P *ℤ pos F ≡ pos D → c * F ≤ N * D
within_multiple c l N (pos p) F D h k s e =
    let a : c ≤ l * p = omega (arith, ints) in
    let b = mul-le c F (l * p) F a (omega arith) in
    let d : p * F ≡ D = omega (arith, ints) in
    let g = mul-le l D N D k (omega arith) in
    let i : l * (p * F) ≡ l * D = ap (λ m. l * m) d in
    omega arith
within_multiple c l N (negsuc p) F D h k s e = absurd (omega (arith, ints))

pub coefficient_bound : (N d n : ℕ) (f : Poly) → IsBounded N d n f → (α : List ℕ) → length α ≡ n → nat_abs (coefficient f α) * factorials α ≤ N * factorial (size α)
coefficient_bound N top n f b α e =
    let d = size α in
    let within : pos (nat_abs (coefficient f α)) ≤ℤ (pos (length b.exponents) *ℤ coefficient (power d n) α) =
    le_trans_ℤ (pos (nat_abs (coefficient f α))) (coefficient (powers b.exponents n) α) (pos (length b.exponents) *ℤ coefficient (power d n) α) (b.majorant α) (powers-few b.exponents n d α e refl) in
    within_multiple (nat_abs (coefficient f α)) (length b.exponents) N (coefficient (power d n) α) (factorials α) (factorial d) within b.few (power-nonnegative d n α)
    (coefficient_power d n α e ∙ ap (λ t. cond t (pos (factorial d)) (pos 0)) (eq-eqb d d refl))

-- if f is bounded at the degree d (`IsBounded`), and the exponents α have a sum greater than d, then the coefficient of x^α in f is 0
pub coefficient-higher : (N d n : ℕ) (f : Poly) → IsBounded N d n f → (α : List ℕ) → length α ≡ n → d < size α → coefficient f α ≡ pos 0
coefficient-higher N d n f b α e high =
    let none : coefficient (powers b.exponents n) α ≡ pos 0 =
    coefficient-powers b.exponents n α
    ∙ total_none (λ (k : ℕ). coefficient (power k n) α) b.exponents (λ k m. power-elsewhere k n α e (λ i. let l = b.low k m in omega arith)) in
    vanishes (coefficient f α) (coefficient (powers b.exponents n) α) (b.majorant α) none
  where
    vanishes : (x y : ℤ) → pos (nat_abs x) ≤ℤ y → y ≡ pos 0 → x ≡ pos 0
    vanishes x y h k = omega (arith, ints)
