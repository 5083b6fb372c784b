-- Monk's rule for divided differences of x_j·g (the dual rule): for a list p of the letters 1, .., M, let U_p(g) be `schubert_over g p`, and r the place of
-- the letter M + 1 - j in p. Then U_p(x_j·g) is x_r·U_p(g) minus the sum of U_v(g) over the covers v of p that swap the letter at r with a later one,
-- plus the sum of U_v(g) over those that swap it with an earlier one. The proof is that of Monk's rule, in which the summand c·S_w is replaced by the
-- polynomial U_w(h) for a polynomial h that depends on the letter at r. Places and variables are counted from 0.
--     dual_over      the rule for all lists, from the rule for lists without an ascent
--     dual_monk      the rule
use Rattle.std.proofs.Common.{◌≡◌, ℕ, zero, suc, ◌+◌, ◌-◌, ◌<◌, ◌≤◌, List, length, get_or, refl, ◌∙◌, ap, arith, inl, inr, ◌⊎◌, None, ℤ, pos, ◌+ℤ◌, neg_ℤ}
use Rattle.std.proofs.lemmas.Int.{ints}
use Rattle.std.proofs.lemmas.Bool.{cases_lt}
use Rattle.sym_model.specs.Sum.{Once}
use Rattle.sym_model.specs.Polynomial.{Poly, In, times, pair}
use Rattle.sym_model.specs.BetaList.{rising_pairs}
use Rattle.sym_model.specs.Permutation.{IsOneLine, first_ascent}
use Rattle.sym_model.specs.Schubert.{schubert_over}
use Rattle.sym_model.proofs.Polynomials.{pair_in, pair_add}
use Rattle.schubert_laws.proofs.ChainSums.{up_none}
use Rattle.schubert_laws.proofs.CoverTests.{letter_is, covers_only_if}
use Rattle.schubert_laws.proofs.Differences.{along}
use Rattle.schubert_laws.proofs.DifferenceLaws.{variable_after, pair_variable_times}
use Rattle.schubert_laws.proofs.Dominant.{among_exchange, once_exchange}
use Rattle.schubert_laws.proofs.Exchanges.{exchange_at, raise, Rises, IsFirstAscent, first_ascent_cases, rises_within, rising_pairs_exchange, length-exchange_at}
use Rattle.schubert_laws.proofs.FixedLetters.{In_descended}
use Rattle.schubert_laws.proofs.MonkRule.{HasNoAscent, falling_pair}
use Rattle.schubert_laws.proofs.MonkStep.{jump, along_raise, pair_jump, covered, value, signed_up, signed_down, signed_same, covered_sym, correction, value_corrected, sum_correction, pair_ascent}
use Rattle.schubert_laws.proofs.Paths.{over_top}
use Rattle.schubert_laws.proofs.PlaceSums.{sum_below, sum_below_ext, sum_below_add, sum_below_moved, sum_below_none}
use Rattle.schubert_laws.proofs.Swaps.{moved, moved_within, get_moved, among_get}

abbrev pub IsDual : Poly → (ℕ → Poly) → List ℕ → ℕ → Type 0
IsDual g h w r =
    (φ : List ℕ → ℤ) → pair (schubert_over g w) (λ α. φ (raise r α)) ≡ pair (schubert_over (h (get_or w r 0)) w) φ +ℤ sum_below (length w) (value g φ w r)

pub dual_step : (g : Poly) (h : ℕ → Poly) (N k r : ℕ) (u : List ℕ) → In N g → length u ≤ N → Once u → Rises k u → r < length u
    → IsDual g h (exchange_at k u) (moved k r) → IsDual g h u r
dual_step g h N k r u i n o s l m φ =
    let inside = rises_within k u s in
    let iw = In_descended g N (rising_pairs (exchange_at k u)) (exchange_at k u) i in
    let same_letter = get_moved k r 0 u inside in
    let x = pair_ascent g u k (λ α. φ (raise r α)) s in
    let y = pair_in N (schubert_over g (exchange_at k u)) (along k (λ α. φ (raise r α))) (λ α. along k φ (raise (moved k r) α) +ℤ jump k r (φ α)) iw (λ α q. along_raise k r φ α (omega arith)) in
    let a = pair_add (schubert_over g (exchange_at k u)) (λ α. along k φ (raise (moved k r) α)) (λ α. jump k r (φ α)) in
    let b = pair_jump k r (schubert_over g (exchange_at k u)) φ in
    let q = pair_ascent (h (get_or u r 0)) u k φ s in
    let e = ap (λ t. pair (schubert_over (h t) (exchange_at k u)) (along k φ)) same_letter in
    let mm = m (along k φ) in
    let nl = ap (λ t. sum_below t (value g (along k φ) (exchange_at k u) (moved k r))) (length-exchange_at k u) in
    let re = sum_below_moved k (length u) (value g (along k φ) (exchange_at k u) (moved k r)) inside in
    let ve = sum_below_ext (length u) (value g φ u r) (λ t. value g (along k φ) (exchange_at k u) (moved k r) (moved k t) +ℤ correction k r (pair (schubert_over g (exchange_at k u)) φ) t) (λ t p. value_corrected g φ k r t u o s l p) in
    let va = sum_below_add (length u) (λ t. value g (along k φ) (exchange_at k u) (moved k r) (moved k t)) (correction k r (pair (schubert_over g (exchange_at k u)) φ)) in
    let sc = sum_correction (length u) k r (pair (schubert_over g (exchange_at k u)) φ) inside l in
    omega (arith, ints)

dual_within : (steps : ℕ) (g : Poly) (h : ℕ → Poly) (N : ℕ) (P : List ℕ → Type 0) → In N g → ((v : List ℕ) → P v → length v ≤ N)
    → ((v : List ℕ) (k : ℕ) → P v → P (exchange_at k v)) → ((v : List ℕ) → P v → Once v)
    → ((v : List ℕ) → P v → ((k : ℕ) → Rises k v → ⊥) → (r : ℕ) → r < length v → IsDual g h v r)
    → (v : List ℕ) → rising_pairs v < steps → P v → (r : ℕ) → r < length v → IsDual g h v r
dual_within zero g h N P i len kept once base v s p r l = absurd (omega arith)
dual_within (suc steps) g h N P i len kept once base v s p r l =
    by (first_ascent_cases v) (λ y t q x j. dual_within steps g h N P i len kept once base y t q x j)
  where
    by : ((k : ℕ) × IsFirstAscent v k) ⊎ ((first_ascent v ≡ None) × ((k : ℕ) → Rises k v → ⊥))
        → ((y : List ℕ) → rising_pairs y < steps → P y → (x : ℕ) → x < length y → IsDual g h y x) → IsDual g h v r
    by (inr none) rec = base v p none.1 r l
    by (inl found) rec =
        let k : ℕ = found.0 in
        let a = found.1.rises in
        let e = rising_pairs_exchange k v a in
        let w = rises_within k v a in
        let j = length-exchange_at k v in
        let z = moved_within k r (length v) w l in
        dual_step g h N k r v i (len v p) (once v p) a l (rec (exchange_at k v) (omega arith) (kept v k p) (moved k r) (omega arith))

pub dual_over : (g : Poly) (h : ℕ → Poly) (N : ℕ) (P : List ℕ → Type 0) → In N g → ((v : List ℕ) → P v → length v ≤ N)
    → ((v : List ℕ) (k : ℕ) → P v → P (exchange_at k v)) → ((v : List ℕ) → P v → Once v)
    → ((v : List ℕ) → P v → ((k : ℕ) → Rises k v → ⊥) → (r : ℕ) → r < length v → IsDual g h v r)
    → (v : List ℕ) → P v → (r : ℕ) → r < length v → IsDual g h v r
dual_over g h N P i len kept once base v p r l = dual_within (suc (rising_pairs v)) g h N P i len kept once base v (omega arith) p r l

-- ---- the list M, M - 1, .., 1, which has no ascent: both sides of the rule are 0

fallen_most : (v : List ℕ) (r : ℕ) → IsOneLine v → HasNoAscent v → r < length v → get_or v r 0 + r ≤ length v
fallen_most v zero o n h = let p = (o.letters (get_or v 0 0) (among_get 0 0 v h)).1 in omega arith
fallen_most v (suc r) o n h =
    let e = fallen_most v r o n (omega arith) in
    let f = falling_pair v r (suc r) 0 o.once n (omega arith) h in
    omega arith

fallen_least : (t : ℕ) (v : List ℕ) (r : ℕ) → IsOneLine v → HasNoAscent v → r < length v → length v ≡ suc (r + t) → length v ≤ get_or v r 0 + r
fallen_least zero v r o n h e = let p = (o.letters (get_or v r 0) (among_get r 0 v h)).0 in omega arith
fallen_least (suc t) v r o n h e =
    let q = fallen_least t v (suc r) o n (omega arith) (omega arith) in
    let f = falling_pair v r (suc r) 0 o.once n (omega arith) (omega arith) in
    omega arith

pub fallen : (v : List ℕ) (r : ℕ) → IsOneLine v → HasNoAscent v → r < length v → get_or v r 0 + r ≡ length v
fallen v r o n h =
    let p = fallen_most v r o n h in
    let q = fallen_least (length v - suc r) v r o n h (omega arith) in
    omega arith

no_cover_up : (g : Poly) (φ : List ℕ → ℤ) (v : List ℕ) (a b : ℕ) → IsOneLine v → HasNoAscent v → a < b → b < length v → covered g φ v a b ≡ pos 0
no_cover_up g φ v a b o n h l =
    up_none (λ u. pair (schubert_over g u) φ) v a b (λ t. absurd (
    let c = (covers_only_if a b v o h l t).0 in
    let x = letter_is v a 0 (omega arith) in
    let y = letter_is v b 0 l in
    let f = falling_pair v a b 0 o.once n h l in
    omega arith))

no_value : (g : Poly) (φ : List ℕ → ℤ) (v : List ℕ) (r b : ℕ) → IsOneLine v → HasNoAscent v → r < length v → b < length v → value g φ v r b ≡ pos 0
no_value g φ v r b o n h l = elim (cases_lt r b) [
  | inl f ↦ signed_up r b (covered g φ v r b) f ∙ no_cover_up g φ v r b o n f l
  | inr f ↦ elim (cases_lt b r) [
    | inl c ↦ signed_down r b (covered g φ v r b) c ∙ ap neg_ℤ (covered_sym g φ v r b ∙ no_cover_up g φ v b r o n c h)
    | inr c ↦ signed_same r b (covered g φ v r b) (omega arith)
  ]
]

record IsOf (m : ℕ) (v : List ℕ) : Type 0 where
  pub one_line : IsOneLine v
  pub size : length v ≡ m

-- x_(m - a)·g, for a letter a from 1 to m; variables are counted from 0
abbrev times_variable : ℕ → Poly → ℕ → Poly
times_variable m g a = times (variable_after (m - a)) g

dual_falling : (g : Poly) (N m r : ℕ) (v : List ℕ) → In N g → m ≤ N → IsOf m v → HasNoAscent v → first_ascent v ≡ None → r < length v → IsDual g (times_variable m g) v r
dual_falling g N m r v i l s n e h φ =
    let z = sum_below_none (length v) (value g φ v r) (λ b k. no_value g φ v r b s.one_line n h k) in
    let f = fallen v r s.one_line n h in
    let size = s.size in
    let p : m - get_or v r 0 ≡ r = omega arith in
    let q = ap (λ u. pair u (λ α. φ (raise r α))) (over_top g (rising_pairs v) v e) in
    let t = ap (λ u. pair u φ) (over_top (times_variable m g (get_or v r 0)) (rising_pairs v) v e) in
    let x = ap (λ k. pair (times (variable_after k) g) φ) p in
    let y = pair_variable_times r N g φ i (omega arith) in
    omega (arith, ints)

pub one_line_exchange : (k : ℕ) (v : List ℕ) → IsOneLine v → IsOneLine (exchange_at k v)
one_line_exchange k v o = record {
  letters = λ a m. let p = o.letters a (among_exchange a k v m) in let p0 = p.0 in let p1 = p.1 in let l = length-exchange_at k v in (omega arith, omega arith);
  once = once_exchange k v o.once;
}

-- the dual rule: x_j stands in g for j = m - a, a being the letter of p at r
pub dual_monk : (g : Poly) (N r : ℕ) (p : List ℕ) (φ : List ℕ → ℤ) → In N g → length p ≤ N → IsOneLine p → r < length p
    → pair (schubert_over g p) (λ α. φ (raise r α))
    ≡ pair (schubert_over (times (variable_after (length p - get_or p r 0)) g) p) φ +ℤ sum_below (length p) (value g φ p r)
dual_monk g N r p φ i l o h =
    dual_over g (times_variable (length p) g) N (IsOf (length p)) i
    (λ v s. let e = s.size in omega arith)
    (λ v k s. record { one_line = one_line_exchange k v s.one_line; size = length-exchange_at k v ∙ s.size })
    (λ v s. s.one_line.once)
    (λ v s n q t. dual_falling g N (length p) q v i l s n (none_of v n) t)
    p (record { one_line = o; size = refl }) r h φ
  where
    none_of : (v : List ℕ) → HasNoAscent v → first_ascent v ≡ None
    none_of v n = elim (first_ascent_cases v) [ inl f ↦ absurd (n f.0 f.1.rises) | inr e ↦ e.0 ]
