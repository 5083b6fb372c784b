-- The polynomials U_p(g) = `schubert_over g p` with the first m variables set to 0, m being the number of letters of p. A function ψ of the exponents of
-- the other variables gives the function `at_origin m ψ` of all exponents, whose pairing with a polynomial is that of ψ with the polynomial at
-- x_1 = .. = x_m = 0. Places and variables are counted from 0.
--     dual_at_origin     U_p(x_j·g) there is minus the sum of Monk's rule for p at the place of the letter m - j, without the term with a variable
--     one_at_origin      U_p(1) is 0 if p has an ascent
use Rattle.std.proofs.Common.{◌≡◌, ℕ, zero, suc, ◌+◌, ◌-◌, ◌<◌, ◌≤◌, List, [], ◌∷◌, length, get_or, replicate, refl, sym, ◌∙◌, ap, ap₂, arith, inl, inr, ◌⊎◌, cond, nat_lt, None, ℤ, pos, ◌+ℤ◌, neg_ℤ}
use Rattle.std.proofs.lemmas.Int.{ints}
use Rattle.sym_model.specs.Polynomial.{Poly, In, one, times, pair}
use Rattle.sym_model.specs.BetaList.{rising_pairs}
use Rattle.sym_model.specs.Permutation.{IsOneLine, first_ascent}
use Rattle.sym_model.specs.Schubert.{schubert_over}
use Rattle.sym_model.proofs.Polynomials.{pair_ext, pair_zero, pair_one}
use Rattle.schubert_laws.proofs.ChainSums.{if_not_less, later_term, monk_part, part_some}
use Rattle.schubert_laws.proofs.CoverTests.{letter_at, letter_most, up}
use Rattle.schubert_laws.proofs.Differences.{along, along_zero}
use Rattle.schubert_laws.proofs.DifferenceLaws.{variable_after}
use Rattle.schubert_laws.proofs.DualMonk.{dual_monk}
use Rattle.schubert_laws.proofs.Exchanges.{exchange_at, raise, Rises, IsFirstAscent, first_ascent_cases, rising_pairs_exchange}
use Rattle.schubert_laws.proofs.MonkStep.{covered, value, covered_sym, pair_ascent}
use Rattle.schubert_laws.proofs.Paths.{over_top}
use Rattle.schubert_laws.proofs.Pieri.{signed_split, sum_below_cut}
use Rattle.schubert_laws.proofs.PlaceSums.{sum_below, sum_below_ext, sum_below_add, sum_below_neg}

abbrev pub at_origin : ℕ → (List ℕ → ℤ) → List ℕ → ℤ
at_origin zero ψ α = ψ α
at_origin (suc m) ψ [] = pos 0
at_origin (suc m) ψ (zero ∷ α) = at_origin m ψ α
at_origin (suc m) ψ (suc a ∷ α) = pos 0

pub origin_raise : (m r : ℕ) (ψ : List ℕ → ℤ) (α : List ℕ) → r < m → at_origin m ψ (raise r α) ≡ pos 0
origin_raise zero r ψ α h = absurd (omega arith)
origin_raise (suc m) r ψ [] h = refl
origin_raise (suc m) zero ψ (a ∷ α) h = refl
origin_raise (suc m) (suc r) ψ (zero ∷ α) h = origin_raise m r ψ α (omega arith)
origin_raise (suc m) (suc r) ψ (suc a ∷ α) h = refl

-- raising a later variable
pub origin_later : (m t : ℕ) (ψ : List ℕ → ℤ) (α : List ℕ) → at_origin m ψ (raise (m + t) α) ≡ at_origin m (λ β. ψ (raise t β)) α
origin_later zero t ψ α = let e : 0 + t ≡ t = omega arith in ap (λ i. ψ (raise i α)) e
origin_later (suc m) t ψ [] = refl
origin_later (suc m) t ψ (zero ∷ α) = let e : suc m + t ≡ suc (m + t) = omega arith in ap (λ i. at_origin (suc m) ψ (raise i (0 ∷ α))) e ∙ origin_later m t ψ α
origin_later (suc m) t ψ (suc a ∷ α) = let e : suc m + t ≡ suc (m + t) = omega arith in ap (λ i. at_origin (suc m) ψ (raise i (suc a ∷ α))) e

pub origin_along : (m t : ℕ) (ψ : List ℕ → ℤ) (α : List ℕ) → along (m + t) (at_origin m ψ) α ≡ at_origin m (along t ψ) α
origin_along zero t ψ α = let e : 0 + t ≡ t = omega arith in ap (λ i. along i ψ α) e
origin_along (suc m) t ψ [] = let e : suc m + t ≡ suc (m + t) = omega arith in ap (λ i. along i (at_origin (suc m) ψ) []) e
origin_along (suc m) t ψ (zero ∷ α) = let e : suc m + t ≡ suc (m + t) = omega arith in ap (λ i. along i (at_origin (suc m) ψ) (0 ∷ α)) e ∙ origin_along m t ψ α
origin_along (suc m) t ψ (suc a ∷ α) = let e : suc m + t ≡ suc (m + t) = omega arith in ap (λ i. along i (at_origin (suc m) ψ) (suc a ∷ α)) e ∙ along_zero (m + t) α

value_sum : (g : Poly) (φ : List ℕ → ℤ) (p : List ℕ) (r : ℕ) → IsOneLine p → r < length p
    → sum_below (length p) (value g φ p r) ≡ monk_part (length p) r (λ v. pair (schubert_over g v) φ) p
value_sum g φ p r o h =
    let a = sum_below_ext (length p) (value g φ p r)
    (λ b. later_term (length p) r (λ v. pair (schubert_over g v) φ) p b +ℤ cond (nat_lt b r) (neg_ℤ (up (λ v. pair (schubert_over g v) φ) p b r)) (pos 0))
    (λ b i. signed_split r b (covered g φ p r b)
    ∙ ap₂ ◌+ℤ◌
    (ap (λ z. cond (nat_lt r b) z (pos 0)) (sym (if_not_less (length p) (letter_at p b) (pos 0) (covered g φ p r b) (letter_most p b o i))))
    (ap (λ z. cond (nat_lt b r) (neg_ℤ z) (pos 0)) (covered_sym g φ p r b))) in
    let d = sum_below_add (length p) (later_term (length p) r (λ v. pair (schubert_over g v) φ) p) (λ b. cond (nat_lt b r) (neg_ℤ (up (λ v. pair (schubert_over g v) φ) p b r)) (pos 0)) in
    let e = sum_below_cut (length p) r (λ b. neg_ℤ (up (λ v. pair (schubert_over g v) φ) p b r)) (omega arith) in
    let n = sum_below_neg r (λ b. up (λ v. pair (schubert_over g v) φ) p b r) in
    let q = part_some (length p) r (λ v. pair (schubert_over g v) φ) p (letter_most p r o h) in
    omega (arith, ints)

-- the pairing of ψ with U_p(g) at x = 0
abbrev pub valued : Poly → (List ℕ → ℤ) → List ℕ → ℤ
valued g ψ p = pair (schubert_over g p) (at_origin (length p) ψ)

pub dual_at_origin : (g : Poly) (N r : ℕ) (p : List ℕ) (ψ : List ℕ → ℤ) → In N g → length p ≤ N → IsOneLine p → r < length p
    → pair (schubert_over (times (variable_after (length p - get_or p r 0)) g) p) (at_origin (length p) ψ)
    ≡ neg_ℤ (monk_part (length p) r (λ v. pair (schubert_over g v) (at_origin (length p) ψ)) p)
dual_at_origin g N r p ψ i l o h =
    let d = dual_monk g N r p (at_origin (length p) ψ) i l o h in
    let z = pair_ext (schubert_over g p) (λ α. at_origin (length p) ψ (raise r α)) (λ α. pos 0) (λ α. origin_raise (length p) r ψ α h) in
    let t = pair_zero (schubert_over g p) in
    let v = value_sum g (at_origin (length p) ψ) p r o h in
    omega (arith, ints)

-- ---- the polynomial 1

pub along_zeros : (k n : ℕ) (φ : List ℕ → ℤ) → along k φ (replicate n 0) ≡ pos 0
along_zeros zero zero φ = refl
along_zeros zero (suc zero) φ = refl
along_zeros zero (suc (suc n)) φ = refl
along_zeros (suc k) zero φ = refl
along_zeros (suc k) (suc n) φ = along_zeros k n (λ β. φ (0 ∷ β))

one_within : (steps n k : ℕ) (q : List ℕ) (φ : List ℕ → ℤ) → rising_pairs q < steps → Rises k q → pair (schubert_over (one n) q) φ ≡ pos 0
one_within zero n k q φ b r = absurd (omega arith)
one_within (suc steps) n k q φ b r =
    pair_ascent (one n) q k φ r
    ∙ by (first_ascent_cases (exchange_at k q)) (λ j s. one_within steps n j (exchange_at k q) (along k φ) (let e = rising_pairs_exchange k q r in omega arith) s)
  where
    by : ((j : ℕ) × IsFirstAscent (exchange_at k q) j) ⊎ ((first_ascent (exchange_at k q) ≡ None) × ((j : ℕ) → Rises j (exchange_at k q) → ⊥))
        → ((j : ℕ) → Rises j (exchange_at k q) → pair (schubert_over (one n) (exchange_at k q)) (along k φ) ≡ pos 0)
        → pair (schubert_over (one n) (exchange_at k q)) (along k φ) ≡ pos 0
    by (inl found) rec = rec found.0 found.1.rises
    by (inr none) rec =
        ap (λ u. pair u (along k φ)) (over_top (one n) (rising_pairs (exchange_at k q)) (exchange_at k q) none.0)
        ∙ pair_one n (along k φ) ∙ along_zeros k n φ

pub one_at_origin : (n k : ℕ) (q : List ℕ) (φ : List ℕ → ℤ) → Rises k q → pair (schubert_over (one n) q) φ ≡ pos 0
one_at_origin n k q φ r = one_within (suc (rising_pairs q)) n k q φ (omega arith) r
