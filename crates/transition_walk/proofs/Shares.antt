-- The value of a Schubert polynomial with each variable 1, by the transition rule. A *share* is a function of a permutation and of the label of a
-- term, and no step of the rule increases it (`IsShare` of specs/Growth). The *extent* of a label is a number that each step increases by at most 1.
--     ones_positive, ones_step    the value at w is positive, and is the sum of the values at w·t_rs and at the covers in the rule
--     share_step                  no step increases S_w(1, .., 1)·base^l, with l inversions of w, if one term becomes at most `base` terms at w·t_rs
--     ones_limit                  the value of S_w in one variable for each letter of w is the value of the whole polynomial
--     limit_share                 S_w(1, .., 1)·base^l, with l inversions of w, is a share for a suitable base
use Rattle.std.proofs.Common.{◌≡◌, ℕ, suc, zero, ◌+◌, ◌-◌, ◌*◌, ◌^◌, ◌≤◌, true, cond, List, [], ◌∷◌, length, refl, sym, ap, ◌∙◌, inl, inr, arith, ℤ, pos, negsuc, ◌*ℤ◌, ◌≤ℤ◌}
use Rattle.std.specs.Prelude.{nat_abs}
use Rattle.std.proofs.lemmas.Int.{ints}
use Rattle.sym_model.specs.Sum.{Among, total}
use Rattle.sym_model.specs.PastLimit.{value_at_ones}
use Rattle.sym_model.specs.Permutation.{IsTransition, times_swap, covers_down}
use Rattle.sym_model.specs.PlaceOrders.{inversions}
use Rattle.sym_model.specs.Polynomial.{Poly, Term, pair, fits_in}
use Rattle.sym_model.specs.Schubert as polynomials
use Rattle.sym_model.specs.Schubert.{schubert_in}
use Rattle.sym_model.proofs.Ring.{product-one}
use Rattle.sym_model.proofs.Sums.{total_ext}
use Rattle.sym_model.proofs.Exponents.{fits_in_length}
use Rattle.schubert_laws.proofs.FixedLetters.{In_schubert}
use Rattle.schubert_laws.proofs.Members.{short_cover, short_transition, place_within, cover_inversions}
use Rattle.transition_walk.specs.Transitions.{IsShort}
use Rattle.schubert_laws.proofs.LowerPermutations.{transition_inversions}
use Rattle.transition_walk.proofs.Monomials.{unit, length-unit, pair_transition, pair_variable, schubert_monomials}
use Rattle.linear_combinations.specs.Gains.{WholeTermsOf, mass}
use Rattle.transition_walk.specs.Growth.{GrowsBy, IsShare}
use native.Mathlib.Nat.{mul-le-mul_left, pow-suc}
use Rattle.sym_model.specs.Sum.{sum_by}
use Rattle.linear_combinations.proofs.Weighed.{weighed_all}
use Rattle.std.proofs.Math.Nat.{pow-zero, mul-pos}
use Rattle.schubert_laws.proofs.IndependentSchuberts.{pair_restrict_whole}

-- `ones n w`: the value of the Schubert polynomial of w in n variables with each variable 1
abbrev pub ones : ℕ → List ℕ → ℕ
ones n w = nat_abs (value_at_ones (schubert_in w n))

-- `share n base w`: the value `ones n w` times base^l, with l the number of inversions of w. Let w have at most n letters, and let each step of the
-- transition rule turn a term in the list of a permutation v into at most `base` terms in the list of v·t_rs. Then a term in the list of w becomes at
-- most `share n base w` terms
abbrev pub share : ℕ → ℕ → List ℕ → ℕ
share n base w = ones n w * base ^ inversions w

pair_one_value : (f : Poly) → pair f (λ α. pos 1) ≡ value_at_ones f
pair_one_value f = total_ext (λ (t : Term). t.1 *ℤ pos 1) (λ (t : Term). t.1) (λ t. product-one t.1) f

some_ones : (xs : List (List ℕ)) → pos 0 ≤ℤ total (λ (x : List ℕ). pos 1) xs
some_ones [] = omega (arith, ints)
some_ones (x ∷ xs) = let h = some_ones xs in omega (arith, ints)

pub natural : (z : ℤ) → pos 0 ≤ℤ z → z ≡ pos (nat_abs z)
natural (pos n) h = refl
natural (negsuc n) h = absurd (omega (arith, ints))

at_least_one : (n : ℕ) (w : List ℕ) → IsShort n w → pos 1 ≤ℤ pair (schubert_in w n) (λ α. pos 1)
at_least_one n w short =
    let m = schubert_monomials n w short in
    let a = m.sums (λ α. pos 1) in
    let b = some_ones m.others in
    omega (arith, ints)

ones_is : (n : ℕ) (w : List ℕ) → IsShort n w → pair (schubert_in w n) (λ α. pos 1) ≡ pos (ones n w)
ones_is n w short =
    let a = at_least_one n w short in
    natural (pair (schubert_in w n) (λ α. pos 1)) (omega (arith, ints)) ∙ ap (λ z. pos (nat_abs z)) (pair_one_value (schubert_in w n))

pub ones_positive : (n : ℕ) (w : List ℕ) → IsShort n w → 1 ≤ ones n w
ones_positive n w short = let a = at_least_one n w short in let b = ones_is n w short in omega (arith, ints)

ones_sum : (n : ℕ) (xs : List (List ℕ)) → ((x : List ℕ) → Among x xs → IsShort n x) → total (λ (x : List ℕ). pair (schubert_in x n) (λ α. pos 1)) xs ≡ pos (sum_by (ones n) xs)
ones_sum n [] h = refl
ones_sum n (x ∷ xs) h =
    let a = ones_is n x (h x (inl refl)) in
    let b = ones_sum n xs (λ y m. h y (inr m)) in
    omega (arith, ints)

pub ones_step : (n r s : ℕ) (w : List ℕ) → IsShort n w → IsTransition w r s → ones n w ≡ ones n (times_swap r s w) + sum_by (ones n) (covers_down r (times_swap r s w))
ones_step n r s w short t =
    let place = place_within w r s short.one_line t in
    let p0 = place.0 in
    let p1 = place.1 in
    let few = short.few in
    let v = short_transition n w r s short t in
    let fits : fits_in n (unit r) ≡ true = fits_in_length n (unit r) (let l = length-unit r p0 in omega arith) in
    let a = pair_transition n r s w (λ α. pos 1) short.one_line t in
    let b = pair_variable n r (schubert_in (times_swap r s w) n) (λ α. pos 1) ∙ ap (λ c. cond c (pair (schubert_in (times_swap r s w) n) (λ α. pos 1)) (pos 0)) fits in
    let c = ones_sum n (covers_down r (times_swap r s w)) (λ x m. short_cover n r (times_swap r s w) x v (omega arith) m) in
    let d = ones_is n w short in
    let e = ones_is n (times_swap r s w) v in
    omega (arith, ints)

pub ones_limit : (w : List ℕ) → ones (length w) w ≡ nat_abs (value_at_ones (polynomials.schubert w))
ones_limit w =
    ap nat_abs
    (sym (pair_one_value (schubert_in w (length w)))
    ∙ pair_restrict_whole (length w) (polynomials.schubert w) (λ α. pos 1) (In_schubert w)
    ∙ pair_one_value (polynomials.schubert w))

-- ---- the shares S_w(1, .., 1)·base^l of permutations w

pub power_positive : (base k : ℕ) → 1 ≤ base → 1 ≤ base ^ k
power_positive base zero h = let e = pow-zero base in omega arith
power_positive base (suc k) h =
    let r = power_positive base k h in
    let e = pow-suc base k in
    let m = mul-le-mul_left (base ^ k) h in
    omega arith

pub share_positive : (n base : ℕ) (w : List ℕ) → IsShort n w → n ≤ base → 1 ≤ share n base w
share_positive n base w short some = mul-pos (ones_positive n w short) (power n w short.few some)
  where
    power : (n : ℕ) (w : List ℕ) → length w ≤ n → n ≤ base → 1 ≤ base ^ inversions w
    power zero [] h k = let e = pow-zero base in omega arith
    power zero (a ∷ w) h k = absurd (omega arith)
    power (suc n) w h k = power_positive base (inversions w) (omega arith)

share_sum : (n base k : ℕ) (xs : List (List ℕ)) → ((x : List ℕ) → Among x xs → inversions x ≡ k) → sum_by (share n base) xs ≡ sum_by (ones n) xs * base ^ k
share_sum n base k [] h = omega arith
share_sum n base k (x ∷ xs) h =
    by (ones n x) (sum_by (ones n) xs) (base ^ inversions x) (base ^ k) (sum_by (share n base) xs) (ap (λ i. base ^ i) (h x (inl refl))) (share_sum n base k xs (λ y m. h y (inr m)))
  where
    by : (a b p q s : ℕ) → p ≡ q → s ≡ b * q → a * p + s ≡ (a + b) * q
    by a b p q s e f = let g = ap (λ z. a * z) e in let d : (a + b) * q ≡ a * q + b * q = omega arith in omega arith

pub share_step : (n r s base few m : ℕ) (w : List ℕ) → IsShort n w → IsTransition w r s → few ≤ base
    → m * few * share n base (times_swap r s w) + m * sum_by (share n base) (covers_down r (times_swap r s w)) ≤ m * share n base w
share_step n r s base few m w short t h =
    let i = transition_inversions w r s short.one_line t in
    let covers = share_sum n base (inversions (times_swap r s w) + 1) (covers_down r (times_swap r s w)) (λ x j. cover_inversions r (times_swap r s w) x j) in
    let p : inversions w ≡ suc (inversions (times_swap r s w)) = omega arith in
    let q : inversions (times_swap r s w) + 1 ≡ suc (inversions (times_swap r s w)) = omega arith in
    by (ones n (times_swap r s w)) (sum_by (ones n) (covers_down r (times_swap r s w))) (ones n w) (base ^ inversions (times_swap r s w)) (base ^ inversions w) (sum_by (share n base) (covers_down r (times_swap r s w)))
    (ones_step n r s w short t) (ap (λ k. base ^ k) p ∙ pow-suc base (inversions (times_swap r s w)))
    (covers ∙ ap (λ k. sum_by (ones n) (covers_down r (times_swap r s w)) * base ^ k) (q ∙ sym p))
  where
    by : (a b c x y z : ℕ) → c ≡ a + b → y ≡ x * base → z ≡ b * y → m * few * (a * x) + m * z ≤ m * (c * y)
    by a b c x y z e f g =
        let k = mul-le-mul_left (m * (a * x)) h in
        let l : m * few * (a * x) ≡ m * (a * x) * few = omega arith in
        let o : m * (a * x) * base ≡ m * (a * (x * base)) = omega arith in
        let p = ap (λ u. m * (a * u)) f in
        let q = ap (λ u. m * u) g in
        let r = ap (λ u. m * (u * y)) e in
        let s : m * ((a + b) * y) ≡ m * (a * y) + m * (b * y) = omega arith in
        omega arith

-- if a factor turns each label of extent at most k into terms (x, c) with Σ|c| ≤ k + extra, then S_w(1, .., 1)·(top + extra)^l, with l the number of
-- inversions of w, is a share: no step of the transition rule increases it
pub limit_share : {L : Type 0} (images : ℕ → List ℕ → L → WholeTermsOf L) (extent : L → ℕ) (takes : ℕ → List ℕ → L → Type 0) (most extra n top : ℕ) → top ≤ most + 1
    → ((k r : ℕ) (v : List ℕ) (label : L) → IsShort k v → 1 ≤ r → r ≤ k → r ≤ 255 → k ≤ most → extent label ≤ k → GrowsBy extent (takes r v) (images r v) k extra label)
    → IsShare images extent n top (λ w label. share n (top + extra) w)
limit_share images extent takes most extra n top high law = record {
  falls = λ r s w label short small t inside extents.
      let place = place_within w r s short.one_line t in
      let p1 = place.1 in
      let lower = short_transition n w r s short t in
      let lf = lower.few in
      let few = short.few in
      let i = transition_inversions w r s short.one_line t in
      let grown = law (top - inversions w) r (times_swap r s w) label (record { one_line = lower.one_line; few = omega arith }) place.0 (omega arith) (omega arith) (omega arith) (omega arith) in
      let a = weighed_all (share n (top + extra) (times_swap r s w)) (images r (times_swap r s w) label) in
      let b = share_step n r s (top + extra) (top - inversions w + extra) 1 w short t (omega arith) in
      let c = mul-le-mul_left (share n (top + extra) (times_swap r s w)) grown.few in
      by (mass (images r (times_swap r s w) label)) (top - inversions w + extra) (share n (top + extra) (times_swap r s w)) _ _ _ a c b;
}
  where
    by : (m few s all covers whole : ℕ) → all ≡ m * s → s * m ≤ s * few → 1 * few * s + 1 * covers ≤ 1 * whole → all + covers ≤ whole
    by m few s all covers whole e f g =
        let p : s * m ≡ m * s = omega arith in
        let q : 1 * few * s ≡ s * few = omega arith in
        omega arith
