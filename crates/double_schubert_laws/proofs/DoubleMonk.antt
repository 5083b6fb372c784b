-- Monk's rule for double Schubert polynomials of lists whose last letter is greater than all others.
use Rattle.std.proofs.Common.{◌≡◌, ℕ, zero, suc, ◌+◌, ◌-◌, ◌<◌, ◌≤◌, List, [], ◌∷◌, ◌++◌, length, get_or, replicate, refl, sym, ◌∙◌, ap, subst, arith, inl, inr, ℤ, neg_ℤ, length-append, rules}
use Rattle.std.proofs.Math.ListN.{get_or-append}
use Rattle.sym_model.specs.Sum.{Among, Once}
use Rattle.sym_model.specs.Polynomial.{Poly, negate, times, pair, join}
use Rattle.sym_model.specs.Partition.{Falls}
use Rattle.sym_model.specs.Alternant.{staircase}
use Rattle.sym_model.specs.Permutation.{code}
use Rattle.sym_model.specs.DividedDifference.{differences_after}
use Rattle.sym_model.specs.Schubert.{schubert_over}
use Rattle.sym_model.proofs.Polynomials.{pair_in, pair_negate, pair_times, same_from_pair}
use Rattle.sym_model.proofs.Parts.{length-staircase}
use Rattle.schubert_laws.proofs.Differences.{along, pair_differences}
use Rattle.schubert_laws.proofs.Exchanges.{raise, length-exchange_at}
use Rattle.schubert_laws.proofs.DifferenceLaws.{variable_after}
use Rattle.schubert_laws.proofs.Dominant.{pair_x_to, once_exchange, among_exchange, greater_head, code_no_ascent}
use Rattle.schubert_laws.proofs.FixedLetters.{falls_staircase, once_added, code_added}
use Rattle.schubert_laws.proofs.Swaps.{swap_at, length-swap_at, once_swap, among_get}
use Rattle.schubert_laws.proofs.PlaceSums.{sum_below_only}
use Rattle.schubert_laws.proofs.MonkStep.{covered, value, signed_up, covered_is, Passes, IsMonk}
use Rattle.schubert_laws.proofs.MonkRule.{HasNoAscent, IsBelow, monk_over, last_cover, last_code, falls_raised, falling_elsewhere}
use Rattle.sym_model.specs.DoubleSchubert.{difference_product, double_schubert}
use Rattle.double_schubert_laws.proofs.DiagramProducts.{less, diagram, diagram_less, diagram_raise}
use Rattle.double_schubert_laws.proofs.DoubleDominant.{pair_less, In_double, In_difference_product, double_dominant}

along_joined : (k s : ℕ) (φ : List ℕ → ℤ) (α : List ℕ) → suc k < s → suc k < length α
    → along k (λ β. φ (join (replicate s 0 ++ (1 ∷ [])) β)) α ≡ along k φ (join (replicate s 0 ++ (1 ∷ [])) α)
along_joined k s φ [] h l = absurd (omega arith)
along_joined zero zero φ (a ∷ α) h l = absurd (omega arith)
along_joined zero (suc zero) φ (a ∷ α) h l = absurd (omega arith)
along_joined zero (suc (suc s)) φ (a ∷ []) h l = absurd (omega arith)
along_joined zero (suc (suc s)) φ (a ∷ b ∷ α) h l = search rules
along_joined (suc k) zero φ (a ∷ α) h l = absurd (omega arith)
along_joined (suc k) (suc s) φ (a ∷ α) h l = along_joined k s (λ β. φ ((0 + a) ∷ β)) α (omega arith) (omega arith)

-- the polynomial -y_a in m variables x and m variables y
abbrev pub minus_y : ℕ → ℕ → Poly
minus_y m a = negate (variable_after (m + (a - 1)))

pair_minus_y : (m a : ℕ) (f : Poly) (φ : List ℕ → ℤ) → pair (times (minus_y m a) f) φ ≡ neg_ℤ (pair f (λ β. φ (join (replicate (m + (a - 1)) 0 ++ (1 ∷ [])) β)))
pair_minus_y m a f φ =
    pair_times (minus_y m a) f φ
    ∙ pair_negate (variable_after (m + (a - 1))) (λ α. pair f (λ β. φ (join α β)))
    ∙ ap neg_ℤ (pair_x_to (replicate (m + (a - 1)) 0 ++ (1 ∷ [])) (λ α. pair f (λ β. φ (join α β))))

y_passes : (m n a : ℕ) → n ≤ m → Passes n (m + m) (minus_y m a)
y_passes m n a l k f h i =
    same_from_pair (times (minus_y m a) (differences_after k f)) (differences_after k (times (minus_y m a) f)) (λ φ.
    pair_minus_y m a (differences_after k f) φ
    ∙ ap neg_ℤ (pair_differences k f (λ β. φ (join (replicate (m + (a - 1)) 0 ++ (1 ∷ [])) β))
    ∙ pair_in (m + m) f (along k (λ β. φ (join (replicate (m + (a - 1)) 0 ++ (1 ∷ [])) β))) (λ β. along k φ (join (replicate (m + (a - 1)) 0 ++ (1 ∷ [])) β)) i
    (λ α e. along_joined k (m + (a - 1)) φ α (omega arith) (omega arith)))
    ∙ sym (pair_differences k (times (minus_y m a) f) φ ∙ pair_minus_y m a f (along k φ)))

abbrev AreFrom : ℕ → List ℕ → Type 0
AreFrom n v = (a : ℕ) → Among a v → (1 ≤ a) × (a ≤ n)

below_next_letter : (n a : ℕ) (v : List ℕ) → AreFrom (suc n) (a ∷ v) → ((x : ℕ) → Among x v → x < a) → AreFrom n v
below_next_letter n a v i g x j = let t = i a (inl refl) in let t1 = t.1 in let p = i x (inr j) in let q = g x j in (p.0, omega arith)

falling_letters : (n : ℕ) (v : List ℕ) → length v ≡ n → Once v → HasNoAscent v → AreFrom n v → (r : ℕ) → r < n → get_or v r 0 ≡ suc (get_or (staircase n) r 0)
falling_letters zero v e o h i r l = absurd (omega arith)
falling_letters (suc n) [] e o h i r l = absurd (omega arith)
falling_letters (suc zero) (a ∷ v) e o h i zero l = let t = i a (inl refl) in let t0 = t.0 in let t1 = t.1 in omega arith
falling_letters (suc (suc n)) (a ∷ v) e o h i zero l =
    let t = i a (inl refl) in
    let t1 = t.1 in
    let g = greater_head a v o h in
    let rest = falling_letters (suc n) v (omega arith) o.1 (λ k. h (suc k)) (below_next_letter (suc n) a v i g) 0 (omega arith) in
    let b = g (get_or v 0 0) (among_get 0 0 v (omega arith)) in
    omega arith
falling_letters (suc n) (a ∷ v) e o h i (suc r) l =
    falling_letters n v (omega arith) o.1 (λ k. h (suc k)) (below_next_letter n a v i (greater_head a v o h)) r (omega arith)

-- ---- permutations v of n letters (`IsStart`), and Monk's rule for v followed by the letter n + 1 if v has no ascent

pub record IsStart (n : ℕ) (v : List ℕ) : Type 0 where
  pub size : length v ≡ n
  pub once : Once v
  pub letters : AreFrom n v

below : (n : ℕ) (v : List ℕ) → IsStart n v → IsBelow (suc n) v
below n v s a j = let t = s.letters a j in let t1 = t.1 in omega arith

monk_falling : (m n r : ℕ) (v : List ℕ) → IsStart n v → HasNoAscent v → r < n → suc n ≤ m
    → IsMonk (difference_product (length (v ++ (suc n ∷ []))) m) (minus_y m) (v ++ (suc n ∷ [])) r
monk_falling m n r v s h l k φ =
    let w : List ℕ = v ++ (suc n ∷ []) in
    let size = s.size in
    let len = length-append v (suc n ∷ []) in
    let lc = length-staircase n in
    let cf = code_added (suc n) v (below n v s) ∙ ap (λ d. d ++ (0 ∷ [])) (code_no_ascent v s.once h ∙ ap staircase s.size) in
    let len2 = ap length cf ∙ length-append (staircase n) (0 ∷ []) in
    let lw = length-swap_at r (length v) (v ++ (suc n ∷ [])) in
    let letter : get_or (v ++ (suc n ∷ [])) r 0 - 1 ≡ get_or (code (v ++ (suc n ∷ []))) r 0 =
    let a = get_or-append v (suc n ∷ []) 0 r (omega arith) in
    let b = falling_letters n v s.size s.once h s.letters r l in
    let c = get_or-append (staircase n) (0 ∷ []) 0 r (omega arith) in
    let d = ap (λ x. get_or x r 0) cf in
    omega arith in
    let ow = once_added (suc n) v s.once (below n v s) in
    let up = last_code (suc n) r v s.once (below n v s) h (omega arith) in
    pair_less (m + m) r (m + (get_or (v ++ (suc n ∷ [])) r 0 - 1)) (double_schubert (v ++ (suc n ∷ [])) m) φ (In_double m (v ++ (suc n ∷ []))) (omega arith)
    (let a = get_small (omega arith) letter cf in omega arith)
    ∙ double_dominant m (v ++ (suc n ∷ [])) (less r (m + (get_or (v ++ (suc n ∷ [])) r 0 - 1)) φ) (omega arith) ow (subst Falls (sym cf) (falls_staircase n))
    ∙ diagram_less m 0 (code (v ++ (suc n ∷ []))) r (m + (get_or (v ++ (suc n ∷ [])) r 0 - 1)) φ (replicate (m + m) 0)
    ∙ ap (λ x. less r (m + x) (diagram m 0 (code (v ++ (suc n ∷ []))) φ) (replicate (m + m) 0)) letter
    ∙ sym (diagram_raise m 0 r r (code (v ++ (suc n ∷ []))) φ (replicate (m + m) 0) (omega arith) (omega arith))
    ∙ ap (λ c. diagram m 0 c φ (replicate (m + m) 0)) (sym up)
    ∙ sym (double_dominant m (swap_at r (length v) (v ++ (suc n ∷ []))) φ (omega arith) (once_swap r (length v) (v ++ (suc n ∷ [])) (omega arith) (omega arith) ow)
    (subst Falls (sym (up ∙ ap (raise r) cf)) (falls_raised n r l)))
    ∙ ap (λ x. pair (schubert_over (difference_product x m) (swap_at r (length v) (v ++ (suc n ∷ [])))) φ) lw
    ∙ sym (covered_is (difference_product (length (v ++ (suc n ∷ []))) m) φ (v ++ (suc n ∷ [])) r (length v) (last_cover (suc n) r v s.once (below n v s) h (omega arith)))
    ∙ sym (signed_up r (length v) (covered (difference_product (length (v ++ (suc n ∷ []))) m) φ (v ++ (suc n ∷ [])) r (length v)) (omega arith))
    ∙ sym (sum_below_only (length (v ++ (suc n ∷ []))) (length v) (value (difference_product (length (v ++ (suc n ∷ []))) m) φ (v ++ (suc n ∷ [])) r) (omega arith)
    (λ j q d. falling_elsewhere (difference_product (length (v ++ (suc n ∷ []))) m) φ (suc n) r j v s.once h (omega arith) (omega arith)))
  where
    get_small : r < length v → get_or (v ++ (suc n ∷ [])) r 0 - 1 ≡ get_or (code (v ++ (suc n ∷ []))) r 0 → code (v ++ (suc n ∷ [])) ≡ staircase n ++ (0 ∷ []) → get_or (v ++ (suc n ∷ [])) r 0 ≤ n
    get_small q e f =
        let a = get_or-append v (suc n ∷ []) 0 r q in
        let b = (s.letters (get_or v r 0) (among_get r 0 v q)).1 in
        omega arith

-- ---- Monk's rule for a permutation of n letters with the letter n + 1 added at the end

pub monk_double_last : (m n r : ℕ) (v : List ℕ) → IsStart n v → r < n → suc n ≤ m → IsMonk (difference_product (suc n) m) (minus_y m) (v ++ (suc n ∷ [])) r
monk_double_last m n r v s h k =
    monk_over (difference_product (suc n) m) (minus_y m) (m + m) (suc n) n (IsStart n)
    (In_difference_product m (suc n))
    (omega arith)
    (λ u t. t.size)
    (λ u j t. record { size = length-exchange_at j u ∙ t.size; once = once_exchange j u t.once; letters = λ a i. t.letters a (among_exchange a j u i) })
    (λ u t. once_added (suc n) u t.once (below n u t))
    (λ a. y_passes m (suc n) a k)
    (λ u t no x l. subst (λ i. IsMonk (difference_product i m) (minus_y m) (u ++ (suc n ∷ [])) x) (longer u t.size) (monk_falling m n x u t no l k))
    v s r h
  where
    longer : (u : List ℕ) → length u ≡ n → length (u ++ (suc n ∷ [])) ≡ suc n
    longer u e = omega (arith, length-append u (suc n ∷ []))
