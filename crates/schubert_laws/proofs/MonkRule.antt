-- Monk's rule for lists w = v ++ (m), whose last letter m is greater than all letters of v. Here `schubert_over g w` is g if w has no ascent, and
-- otherwise it is computed from g by divided differences.
--     monk_over      for each polynomial g: if the rule for `schubert_over g` holds for all w such that v has no ascent, it holds for all w
--     monk_last      the rule for Schubert polynomials
use Rattle.std.proofs.Common.{◌≡◌, ℕ, zero, suc, ◌+◌, ◌<◌, ◌≤◌, List, [], ◌∷◌, ◌++◌, length, get_or, refl, sym, ◌∙◌, ap, ap₂, subst, arith, inl, inr, ◌⊎◌, None, ℤ, pos, neg_ℤ, length-append, rules}
use Rattle.std.proofs.Math.ListN.{get_or-append}
use Rattle.std.proofs.lemmas.Bool.{cases_lt, cond_below}
use lib.IntN.{+ℤ_idr}
use Rattle.sym_model.specs.Sum.{Among, Once}
use Rattle.sym_model.specs.Polynomial.{Poly, In, nothing, pair}
use Rattle.sym_model.specs.Partition.{Falls}
use Rattle.sym_model.specs.PlaceOrders.{smaller}
use Rattle.sym_model.specs.Alternant.{staircase}
use Rattle.sym_model.specs.BetaList.{greater, rising_pairs}
use Rattle.sym_model.specs.Permutation.{code, first_ascent}
use Rattle.sym_model.specs.DividedDifference.{x_to}
use Rattle.sym_model.specs.Schubert.{schubert, schubert_over}
use Rattle.sym_model.proofs.Sums.{Among_from_append}
use Rattle.sym_model.proofs.Polynomials.{pair_determined}
use Rattle.sym_model.proofs.Parts.{length-staircase}
use Rattle.sym_model.proofs.Numbers.{counts-not_less}
use Rattle.schubert_laws.proofs.Exchanges.{exchange_at, raise, Rises, IsFirstAscent, first_ascent_cases, rises_within, rising_pairs_exchange, length-exchange_at}
use Rattle.schubert_laws.proofs.Dominant.{pair_x_to, dominant, among_exchange, once_exchange, code_no_ascent, greater_head, smaller_of_all}
use Rattle.schubert_laws.proofs.FixedLetters.{In_schubert, In_x_to, rises_added, exchange_added, once_added, code_added, smaller_added, falls_staircase}
use Rattle.schubert_laws.proofs.Swaps.{swap_at, moved, moved_within, length-swap_at, raises, greater_swap, smaller_swap, once_swap, among_get}
use Rattle.schubert_laws.proofs.PlaceSums.{sum_below_only}
use Rattle.schubert_laws.proofs.MonkStep.{covered, value, signed_up, signed_down, signed_same, covered_sym, covered_none, covered_is, Passes, IsMonk, pair_factor_sum, monk_step}
use Rattle.std.proofs.Math.Seq.{get_or-append_seam, set-append_seam}
use Rattle.std.proofs.Math.Nat.{le_of_lt}

abbrev pub HasNoAscent : List ℕ → Type 0
HasNoAscent v = (k : ℕ) → Rises k v → ⊥

monk_within : (steps : ℕ) (g : Poly) (c : ℕ → Poly) (N m n : ℕ) (P : List ℕ → Type 0) → In N g → suc n ≤ N
    → ((v : List ℕ) → P v → length v ≡ n) → ((v : List ℕ) (k : ℕ) → P v → P (exchange_at k v)) → ((v : List ℕ) → P v → Once (v ++ (m ∷ [])))
    → ((a : ℕ) → Passes (suc n) N (c a)) → ((v : List ℕ) → P v → HasNoAscent v → (r : ℕ) → r < n → IsMonk g c (v ++ (m ∷ [])) r)
    → (v : List ℕ) → rising_pairs v < steps → P v → (r : ℕ) → r < n → IsMonk g c (v ++ (m ∷ [])) r
monk_within zero g c N m n P i b len kept once passes base v s p r h = absurd (omega arith)
monk_within (suc steps) g c N m n P i b len kept once passes base v s p r h =
    by (first_ascent_cases v) (λ y t q x l. monk_within steps g c N m n P i b len kept once passes base y t q x l)
  where
    by : ((k : ℕ) × IsFirstAscent v k) ⊎ ((first_ascent v ≡ None) × HasNoAscent v)
        → ((y : List ℕ) → rising_pairs y < steps → P y → (x : ℕ) → x < n → IsMonk g c (y ++ (m ∷ [])) x) → IsMonk g c (v ++ (m ∷ [])) r
    by (inr none) rec = base v p none.1 r h
    by (inl found) rec =
        let k : ℕ = found.0 in
        let a = found.1.rises in
        let l = len v p in
        let e = rising_pairs_exchange k v a in
        let w = rises_within k v a in
        let j : length (v ++ (m ∷ [])) ≡ suc n = omega (arith, length-append v (m ∷ [])) in
        monk_step g c N k r (v ++ (m ∷ [])) i (omega arith) (once v p) (rises_added k m v a) (omega arith)
        (subst (λ t. Passes t N (c (get_or (v ++ (m ∷ [])) r 0))) (sym j) (passes (get_or (v ++ (m ∷ [])) r 0)))
        (subst (λ y. IsMonk g c y (moved k r)) (sym (exchange_added k m v a))
        (rec (exchange_at k v) (omega arith) (kept v k p) (moved k r) (moved_within k r n (omega arith) h)))

pub monk_over : (g : Poly) (c : ℕ → Poly) (N m n : ℕ) (P : List ℕ → Type 0) → In N g → suc n ≤ N
    → ((v : List ℕ) → P v → length v ≡ n) → ((v : List ℕ) (k : ℕ) → P v → P (exchange_at k v)) → ((v : List ℕ) → P v → Once (v ++ (m ∷ [])))
    → ((a : ℕ) → Passes (suc n) N (c a)) → ((v : List ℕ) → P v → HasNoAscent v → (r : ℕ) → r < n → IsMonk g c (v ++ (m ∷ [])) r)
    → (v : List ℕ) → P v → (r : ℕ) → r < n → IsMonk g c (v ++ (m ∷ [])) r
monk_over g c N m n P i b len kept once passes base v p r h = monk_within (suc (rising_pairs v)) g c N m n P i b len kept once passes base v (omega arith) p r h

-- ---- lists v ++ (m) such that v has no ascent: swapping the letter at a place r of v with another letter gives a cover only if this letter is m

abbrev pub IsBelow : ℕ → List ℕ → Type 0
IsBelow m v = (a : ℕ) → Among a v → a < m

rising_pairs_added : (m : ℕ) (v : List ℕ) → IsBelow m v → rising_pairs (v ++ (m ∷ [])) ≡ rising_pairs v + length v
rising_pairs_added m [] b = refl
rising_pairs_added m (a ∷ v) b =
    let e = rising_pairs_added m v (λ x i. b x (inr i)) in
    let g = greater_added a m v (b a (inl refl)) in
    omega arith
  where
    greater_added : (x y : ℕ) (u : List ℕ) → x < y → greater x (u ++ (y ∷ [])) ≡ suc (greater x u)
    greater_added x y [] h = let c = sym (cond_below {X = ℕ} x y 1 0 h) in omega arith
    greater_added x y (z ∷ u) h = let e = greater_added x y u h in omega arith

pub greater_of_none : (x : ℕ) (u : List ℕ) → ((y : ℕ) → Among y u → y ≤ x) → greater x u ≡ 0
greater_of_none x [] h = refl
greater_of_none x (y ∷ u) h =
    let c = counts-not_less x y (h y (inl refl)) in
    let e = greater_of_none x u (λ z i. h z (inr i)) in
    omega arith

swap_first : (a m : ℕ) (v : List ℕ) → swap_at zero (suc (length v)) ((a ∷ v) ++ (m ∷ [])) ≡ m ∷ (v ++ (a ∷ []))
swap_first a m v = ap₂ ◌∷◌ (get_or-append_seam v m [] a) (set-append_seam v m [] a)

below_or : (a m : ℕ) (v : List ℕ) → IsBelow m v → a < m → (y : ℕ) → Among y (v ++ (a ∷ [])) → y < m
below_or a m v b h y i = elim (Among_from_append y v (a ∷ []) i) [
  | inl l ↦ b y l
  | inr (inl e) ↦ omega arith
  | inr (inr e) ↦ absurd e
]

-- let the letters of v be different, v have no ascent, and m be greater than all letters of v: for each place r of v, swapping the letter at r with m
-- in the list v ++ (m) gives a cover of this list
pub last_cover : (m r : ℕ) (v : List ℕ) → Once v → IsBelow m v → HasNoAscent v → r < length v
    → rising_pairs (v ++ (m ∷ [])) ≡ suc (rising_pairs (swap_at r (length v) (v ++ (m ∷ []))))
last_cover m r [] o b n h = absurd (omega arith)
last_cover m zero (a ∷ v) o b n h =
    let e = ap rising_pairs (swap_first a m v) in
    let below = greater_head a v o n in
    let x = rising_pairs_added m v (λ y i. b y (inr i)) in
    let y = rising_pairs_added a v below in
    let g = greater_of_none m (v ++ (a ∷ [])) (λ z i. le_of_lt (below_or a m v (λ t j. b t (inr j)) (b a (inl refl)) z i)) in
    let p = rising_pairs_added m (a ∷ v) b in
    let q = greater_of_none a v (λ z i. le_of_lt (below z i)) in
    omega arith
last_cover m (suc r) (a ∷ v) o b n h =
    let e = last_cover m r v o.1 (λ y i. b y (inr i)) (λ k. n (suc k)) (omega arith) in
    let g = greater_swap a r (length v) (v ++ (m ∷ [])) in
    omega arith

-- let the letters of v be different, v have no ascent, and m be greater than all letters of v: for each place r of v, swapping the letter at r with m
-- in the list v ++ (m) adds 1 to entry r of its code
pub last_code : (m r : ℕ) (v : List ℕ) → Once v → IsBelow m v → HasNoAscent v → r < length v
    → code (swap_at r (length v) (v ++ (m ∷ []))) ≡ raise r (code (v ++ (m ∷ [])))
last_code m r [] o b n h = absurd (omega arith)
last_code m zero (a ∷ v) o b n h =
    let below = greater_head a v o n in
    ap code (swap_first a m v)
    ∙ ap₂ ◌∷◌ (first below) (code_added a v below ∙ sym (code_added m v (λ y i. b y (inr i))))
  where
    first : ((y : ℕ) → Among y v → y < a) → smaller m (v ++ (a ∷ [])) ≡ suc (smaller a (v ++ (m ∷ [])))
    first below =
        let p = smaller_of_all m (v ++ (a ∷ [])) (below_or a m v (λ t j. b t (inr j)) (b a (inl refl))) in
        let l = length-append v (a ∷ []) in
        let q = smaller_added a m v (b a (inl refl)) in
        let s = smaller_of_all a v below in
        omega arith
last_code m (suc r) (a ∷ v) o b n h = ap₂ ◌∷◌ (smaller_swap a r (length v) (v ++ (m ∷ []))) (last_code m r v o.1 (λ y i. b y (inr i)) (λ k. n (suc k)) (omega arith))

pub falls_raised : (n r : ℕ) → r < n → Falls (raise r (staircase n ++ (0 ∷ [])))
falls_raised zero r h = absurd (omega arith)
falls_raised (suc zero) zero h = (omega arith, tt)
falls_raised (suc zero) (suc r) h = absurd (omega arith)
falls_raised (suc (suc n)) zero h = (omega arith, falls_staircase (suc n))
falls_raised (suc (suc n)) (suc zero) h = (omega arith, falls_raised (suc n) zero (omega arith))
falls_raised (suc (suc n)) (suc (suc r)) h = (omega arith, falls_raised (suc n) (suc r) (omega arith))

pub falling_pair : (v : List ℕ) (i j d : ℕ) → Once v → HasNoAscent v → i < j → j < length v → get_or v j d < get_or v i d
falling_pair [] i j d o n h l = absurd (omega arith)
falling_pair (a ∷ v) i zero d o n h l = absurd (omega arith)
falling_pair (a ∷ v) zero (suc j) d o n h l = greater_head a v o n (get_or v j d) (among_get j d v (omega arith))
falling_pair (a ∷ v) (suc i) (suc j) d o n h l = falling_pair v i j d o.1 (λ k. n (suc k)) (omega arith) (omega arith)

no_cover : (m i j : ℕ) (v : List ℕ) → Once v → HasNoAscent v → i < j → j < length v → rising_pairs (v ++ (m ∷ [])) ≡ suc (rising_pairs (swap_at i j (v ++ (m ∷ [])))) → ⊥
no_cover m i j v o n h l e =
    let f = falling_pair v i j 0 o n h l in
    let x = get_or-append v (m ∷ []) 0 i (omega arith) in
    let y = get_or-append v (m ∷ []) 0 j l in
    let len = length-append v (m ∷ []) in
    let r = raises i j 0 (v ++ (m ∷ [])) h (omega arith) (omega arith) in
    omega arith

abbrev pub no_factors : ℕ → Poly
no_factors a = nothing

code_falling : (m : ℕ) (v : List ℕ) → Once v → IsBelow m v → HasNoAscent v → code (v ++ (m ∷ [])) ≡ staircase (length v) ++ (0 ∷ [])
code_falling m v o b n = code_added m v b ∙ ap (λ d. d ++ (0 ∷ [])) (code_no_ascent v o n)

pub pair_dominant : (w : List ℕ) (φ : List ℕ → ℤ) → Once w → Falls (code w) → pair (schubert w) φ ≡ φ (code w)
pair_dominant w φ o f = pair_determined (schubert w) (x_to (code w)) φ (dominant w o f) ∙ pair_x_to (code w) φ

pub over_swap : (a b : ℕ) (w : List ℕ) → schubert_over (x_to (staircase (length w))) (swap_at a b w) ≡ schubert (swap_at a b w)
over_swap a b w = ap (λ n. schubert_over (x_to (staircase n)) (swap_at a b w)) (sym (length-swap_at a b w))

-- let the letters of v be different, v have no ascent, and r and b be places of v: swapping the letters at r and b in the list v ++ (m) gives no
-- cover of it, so the term of b in Monk's rule is 0
pub falling_elsewhere : (g : Poly) (φ : List ℕ → ℤ) (m r b : ℕ) (v : List ℕ) → Once v → HasNoAscent v → r < length v → b < length v → value g φ (v ++ (m ∷ [])) r b ≡ pos 0
falling_elsewhere g φ m r b v o n h l =
    search (rules, cases_lt, signed_up, covered, covered_none, no_cover, signed_down, neg_ℤ, covered_sym, signed_same)

falling_here : (m r : ℕ) (v : List ℕ) → Once v → IsBelow m v → HasNoAscent v → r < length v → IsMonk (x_to (staircase (length (v ++ (m ∷ []))))) no_factors (v ++ (m ∷ [])) r
falling_here m r v o b n h φ =
    let w : List ℕ = v ++ (m ∷ []) in
    let l = length-append v (m ∷ []) in
    let ow = once_added m v o b in
    let cf = code_falling m v o b n in
    pair_factor_sum (length (v ++ (m ∷ []))) r nothing (schubert (v ++ (m ∷ []))) φ (In_schubert (v ++ (m ∷ []))) (omega arith)
    ∙ +ℤ_idr _
    ∙ pair_dominant (v ++ (m ∷ [])) (λ α. φ (raise r α)) ow (subst Falls (sym cf) (falls_staircase (length v)))
    ∙ ap φ (sym (last_code m r v o b n h))
    ∙ sym (pair_dominant (swap_at r (length v) (v ++ (m ∷ []))) φ (once_swap r (length v) (v ++ (m ∷ [])) (omega arith) (omega arith) ow)
    (subst Falls (sym (last_code m r v o b n h ∙ ap (raise r) cf)) (falls_raised (length v) r h)))
    ∙ ap (λ f. pair f φ) (sym (over_swap r (length v) (v ++ (m ∷ []))))
    ∙ sym (covered_is (x_to (staircase (length (v ++ (m ∷ []))))) φ (v ++ (m ∷ [])) r (length v) (last_cover m r v o b n h))
    ∙ sym (signed_up r (length v) (covered (x_to (staircase (length (v ++ (m ∷ []))))) φ (v ++ (m ∷ [])) r (length v)) h)
    ∙ sym (sum_below_only (length (v ++ (m ∷ []))) (length v) (value (x_to (staircase (length (v ++ (m ∷ []))))) φ (v ++ (m ∷ [])) r) (omega arith)
    (λ j k d. falling_elsewhere (x_to (staircase (length (v ++ (m ∷ []))))) φ m r j v o n h (omega arith)))

record IsStart (m n : ℕ) (v : List ℕ) : Type 0 where
  pub size : length v ≡ n
  pub once : Once v
  pub below : IsBelow m v

pub monk_last : (m r : ℕ) (v : List ℕ) → Once v → IsBelow m v → r < length v → IsMonk (x_to (staircase (length (v ++ (m ∷ []))))) no_factors (v ++ (m ∷ [])) r
monk_last m r v o b h =
    subst (λ n. IsMonk (x_to (staircase n)) no_factors (v ++ (m ∷ [])) r) (sym (longer v (length v) refl))
    (monk_over (x_to (staircase (suc (length v)))) no_factors (suc (length v)) m (length v) (IsStart m (length v))
    (In_x_to (suc (length v)) (staircase (suc (length v))) (length-staircase (suc (length v))))
    (omega arith)
    (λ u s. s.size)
    (λ u k s. record { size = length-exchange_at k u ∙ s.size; once = once_exchange k u s.once; below = λ a i. s.below a (among_exchange a k u i) })
    (λ u s. once_added m u s.once s.below)
    (λ a k f i j α. refl)
    (λ u s n t l.
    subst (λ x. IsMonk (x_to (staircase x)) no_factors (u ++ (m ∷ [])) t) (longer u (length v) s.size)
    (falling_here m t u s.once s.below n (shorter t u s.size l)))
    v
    (record { size = refl; once = o; below = b })
    r h)
  where
    longer : (u : List ℕ) (n : ℕ) → length u ≡ n → length (u ++ (m ∷ [])) ≡ suc n
    longer u n e = omega (arith, length-append u (m ∷ []))

    shorter : (t : ℕ) (u : List ℕ) → length u ≡ length v → t < length v → t < length u
    shorter t u e l = omega arith
