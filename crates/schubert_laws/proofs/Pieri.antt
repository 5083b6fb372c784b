-- Pieri's formula for Schubert polynomials (Sottile): e_d(x_1, .., x_k)·S_w is the sum of S_v over the last lists v of the chains of d covers, for a
-- permutation w followed by k fixed letters. By induction on k: the step for all letters (`one_place_more`) is Monk's rule at the place k + 1.
use Rattle.std.proofs.Common.{◌≡◌, ℕ, zero, suc, ◌+◌, ◌-◌, ◌<◌, ◌≤◌, List, [], ◌∷◌, ◌++◌, length, get_or, refl, sym, ◌∙◌, ap, ap₂, subst, arith, inl, inr, cond, nat_lt, true, ℤ, pos, ◌+ℤ◌, neg_ℤ, length-append}
use Rattle.std.proofs.lemmas.Int.{ints}
use Rattle.std.proofs.Math.Seq.{get_or-append_right}
use Rattle.std.proofs.Math.ListN.{get_or-append}
use Rattle.std.proofs.lemmas.Bool.{cases_lt}
use Rattle.sym_model.specs.Partition.{after}
use Rattle.sym_model.specs.Polynomial.{Poly, one, times, pair, join}
use Rattle.sym_model.specs.DividedDifference.{variable_in}
use Rattle.sym_model.specs.Permutation.{IsOneLine}
use Rattle.sym_model.specs.Schubert.{schubert, schubert_in}
use Rattle.sym_model.proofs.AfterLists.{length_after}
use Rattle.sym_model.proofs.Polynomials.{pair_plus, pair_times, pair_exchange, pair_determined, Same_refl, times_respects, In_restrict}
use Rattle.sym_model.proofs.PolynomialLaws.{one-times, times_assoc, times_comm, restricted_test}
use Rattle.schubert_laws.specs.Chains.{elementary_in, letters_before}
use Rattle.schubert_laws.proofs.ChainSums.{if_less, if_not_less, chain_sum, later_term, monk_part, part_some, later_ext, up_ext, no_covers_left, one_place_more}
use Rattle.schubert_laws.proofs.CoverTests.{letter_at, letter_most, covers_only_if, up}
use Rattle.schubert_laws.proofs.FixedTails.{one_line_added, one_line_next, next_after, schubert_added}
use Rattle.schubert_laws.proofs.MonkFromOne.{one_line_swap, longer, top_of, swap_added, pair_left, pair_within, monk_longer}
use Rattle.schubert_laws.proofs.MonkStep.{is_cover, covered, signed, value, covered_sym}
use Rattle.schubert_laws.proofs.PlaceSums.{sum_below, sum_below_ext, sum_below_add, sum_below_none, sum_below_neg}
use Rattle.schubert_laws.proofs.Swaps.{swap_at, length-swap_at}

-- ---- Monk's rule for a permutation with fixed letters at its end, as a sum over places

pub sum_below_cut : (n q : ℕ) (h : ℕ → ℤ) → q ≤ n → sum_below n (λ b. cond (nat_lt b q) (h b) (pos 0)) ≡ sum_below q h
sum_below_cut n zero h l = sum_below_none n (λ b. cond (nat_lt b zero) (h b) (pos 0)) (λ b i. if_not_less b zero _ _ (omega arith))
sum_below_cut zero (suc q) h l = absurd (omega arith)
sum_below_cut (suc n) (suc q) h l =
    ap₂ ◌+ℤ◌ (if_less 0 (suc q) _ _ (omega arith))
    (sum_below_ext n (λ b. cond (nat_lt (suc b) (suc q)) (h (suc b)) (pos 0)) (λ b. cond (nat_lt b q) (h (suc b)) (pos 0)) (λ b i. shifted b)
    ∙ sum_below_cut n q (λ b. h (suc b)) (omega arith))
  where
    shifted : (b : ℕ) → cond (nat_lt (suc b) (suc q)) (h (suc b)) (pos 0) ≡ cond (nat_lt b q) (h (suc b)) (pos 0)
    shifted b = elim (cases_lt b q) [
      | inl i ↦ if_less (suc b) (suc q) _ _ (omega arith) ∙ sym (if_less b q (h (suc b)) (pos 0) i)
      | inr i ↦ if_not_less (suc b) (suc q) _ _ (omega arith) ∙ sym (if_not_less b q (h (suc b)) (pos 0) i)
    ]

-- the pairing of f with the polynomial of a list, in n variables
abbrev pub paired : ℕ → (List ℕ → ℤ) → List ℕ → ℤ
paired n f v = pair (schubert_in v n) f

pub signed_split : (r b : ℕ) (z : ℤ) → signed r b z ≡ cond (nat_lt r b) z (pos 0) +ℤ cond (nat_lt b r) (neg_ℤ z) (pos 0)
signed_split r b z = elim (cases_lt r b) [
  | inl h ↦
      let x = if_less r b z (cond (nat_lt b r) (neg_ℤ z) (pos 0)) h in
      let y = if_less r b z (pos 0) h in
      let t = if_not_less b r (neg_ℤ z) (pos 0) (omega arith) in
      omega (arith, ints)
  | inr h ↦
      let x = if_not_less r b z (cond (nat_lt b r) (neg_ℤ z) (pos 0)) h in
      let y = if_not_less r b z (pos 0) h in
      omega (arith, ints)
]

monk_up : (n q j : ℕ) (u : List ℕ) (f : List ℕ → ℤ) → IsOneLine u → q < length u + j
    → pair (times (variable_in (suc q) n) (schubert_in (longer u j) n)) f ≡ monk_part (length (longer u j)) q (paired n f) (longer u j)
monk_up n q j u f o h =
    pair_determined (times (variable_in (suc q) n) (schubert_in (longer u j) n)) (times (variable_in (suc q) n) (schubert_in u n)) f
    (times_respects (variable_in (suc q) n) (variable_in (suc q) n) (schubert_in (longer u j) n) (schubert_in u n) (Same_refl (variable_in (suc q) n)) (schubert_added (j + 1) u n o))
    ∙ pair_left n f u j q o
    ∙ monk_longer u j q o h (restricted_test n f)
    ∙ split
  where
    long : length (longer u j) ≡ length u + j + 1
    long = omega (arith, length-append u (after (length u) (j + 1)), length_after (length u) (j + 1))

    ups : (b : ℕ) → covered (top_of (longer u j)) (restricted_test n f) (longer u j) q b ≡ up (paired n f) (longer u j) q b
    ups b = ap (λ z. cond (is_cover (longer u j) q b) z (pos 0)) (pair_within n f q b (longer u j))

    later : (b : ℕ) → b < length (longer u j) → cond (nat_lt q b) (covered (top_of (longer u j)) (restricted_test n f) (longer u j) q b) (pos 0) ≡ later_term (length (longer u j)) q (paired n f) (longer u j) b
    later b i =
        ap (λ z. cond (nat_lt q b) z (pos 0))
        (ups b ∙ sym (if_not_less (length (longer u j)) (letter_at (longer u j) b) (pos 0) (up (paired n f) (longer u j) q b) (letter_most (longer u j) b (one_line_added (j + 1) u o) i)))

    earlier : (b : ℕ) → covered (top_of (longer u j)) (restricted_test n f) (longer u j) q b ≡ up (paired n f) (longer u j) b q
    earlier b = covered_sym (top_of (longer u j)) (restricted_test n f) (longer u j) q b
        ∙ ap (λ z. cond (is_cover (longer u j) b q) z (pos 0)) (pair_within n f b q (longer u j))

    split : sum_below (length (longer u j)) (value (top_of (longer u j)) (restricted_test n f) (longer u j) q) ≡ monk_part (length (longer u j)) q (paired n f) (longer u j)
    split =
        let c : ℕ → ℤ = covered (top_of (longer u j)) (restricted_test n f) (longer u j) q in
        let l = long in
        let a = sum_below_ext (length (longer u j)) (value (top_of (longer u j)) (restricted_test n f) (longer u j) q)
        (λ b. later_term (length (longer u j)) q (paired n f) (longer u j) b +ℤ cond (nat_lt b q) (neg_ℤ (up (paired n f) (longer u j) b q)) (pos 0))
        (λ b i. signed_split q b (covered (top_of (longer u j)) (restricted_test n f) (longer u j) q b)
        ∙ ap₂ ◌+ℤ◌ (later b i) (ap (λ z. cond (nat_lt b q) (neg_ℤ z) (pos 0)) (earlier b))) in
        let d = sum_below_add (length (longer u j)) (later_term (length (longer u j)) q (paired n f) (longer u j)) (λ b. cond (nat_lt b q) (neg_ℤ (up (paired n f) (longer u j) b q)) (pos 0)) in
        let e = sum_below_cut (length (longer u j)) q (λ b. neg_ℤ (up (paired n f) (longer u j) b q)) (omega arith) in
        let g = sum_below_neg q (λ b. up (paired n f) (longer u j) b q) in
        let p = part_some (length (longer u j)) q (paired n f) (longer u j) (letter_most (longer u j) q (one_line_added (j + 1) u o) (omega arith)) in
        omega (arith, ints)

-- ---- Pieri's formula for a permutation with enough fixed letters at its end

get_after : (a j i d : ℕ) → i < j → get_or (after a j) i d ≡ suc (a + i)
get_after a zero i d h = absurd (omega arith)
get_after a (suc j) zero d h = omega arith
get_after a (suc j) (suc i) d h = get_after (a + 1) j i d (omega arith) ∙ omega arith

pub fixed_there : (u : List ℕ) (j b : ℕ) → length u ≤ b → b < length u + j → letter_at (u ++ after (length u) j) b ≡ suc b
fixed_there u j b h l =
    get_or-append_right u (after (length u) j) b (suc b) h ∙ get_after (length u) j (b - length u) (suc b) (omega arith) ∙ omega arith

-- a cover of u followed by fixed letters that swaps the letter at a place of u exchanges it with another letter of u or with the first fixed letter
pub cover_near : (u : List ℕ) (j k b : ℕ) → IsOneLine u → k < length u → k < b → b < length u + j → is_cover (u ++ after (length u) j) k b ≡ true → b ≤ length u
cover_near u j k b o h l m t = elim (cases_lt (length u) b) [
  | inl f ↦
      let w : List ℕ = u ++ after (length u) j in
      let c = covers_only_if k b (u ++ after (length u) j) (one_line_added j u o) l (omega (arith, length-append u (after (length u) j), length_after (length u) j)) t in
      let x = fixed_there u j (length u) (omega arith) (omega arith) in
      let y = fixed_there u j b (omega arith) m in
      let z : letter_at (u ++ after (length u) j) k ≤ length u = inside in
      absurd (elim (c.1 (length u) h f) [ inl r ↦ omega arith | inr r ↦ omega arith ])
  | inr f ↦ f
]
  where
    inside : letter_at (u ++ after (length u) j) k ≤ length u
    inside = let e = get_or-append u (after (length u) j) (suc k) k h in let p = letter_most u k o h in omega arith

one_times : (n : ℕ) (w : List ℕ) (f : List ℕ → ℤ) → pair (times (one n) (schubert_in w n)) f ≡ pair (schubert_in w n) f
one_times n w f = pair_determined (times (one n) (schubert_in w n)) (schubert_in w n) f (one-times n (schubert_in w n) (In_restrict n (schubert w)))

-- the sum over a list of length 0 of places is 0
no_places : (m d : ℕ) (φ : List ℕ → ℤ) (w : List ℕ) → chain_sum m (suc d) zero φ w ≡ pos 0
no_places zero d φ w = refl
no_places (suc m) d φ w =
    let e = no_places m d φ w in
    let l : cond (nat_lt (letters_before (suc m) w) zero) (pos 0) (pos 0) ≡ pos 0 = if_not_less (letters_before (suc m) w) zero (pos 0) (pos 0) (omega arith) in
    omega (arith, ints)

pub part_ext : (m k : ℕ) (F G : List ℕ → ℤ) (w : List ℕ) → ((b : ℕ) → k < b → b < length w → is_cover w k b ≡ true → F (swap_at k b w) ≡ G (swap_at k b w))
    → ((a : ℕ) → a < k → F (swap_at a k w) ≡ G (swap_at a k w)) → monk_part m k F w ≡ monk_part m k G w
part_ext m k F G w later earlier =
    ap₂ (λ x y. cond (nat_lt m (letter_at w k)) (pos 0) (x +ℤ neg_ℤ y))
    (sum_below_ext (length w) (later_term m k F w) (later_term m k G w) (λ b i. later_ext m k F G w b (λ h l. up_ext F G w k b (later b h i))))
    (sum_below_ext k (λ a. up F w a k) (λ a. up G w a k) (λ a i. up_ext F G w a k (λ t. earlier a i)))

-- the test f of a product with the first factor E, as a test of the second factor
abbrev pub after_factor : Poly → (List ℕ → ℤ) → List ℕ → ℤ
after_factor E f β = pair E (λ α. f (join α β))

pub through_factor : (E g : Poly) (f : List ℕ → ℤ) → pair (times E g) f ≡ pair g (after_factor E f)
through_factor E g f = pair_times E g f ∙ pair_exchange E g (λ α β. f (join α β))

-- e_(d+1)(x_1, .., x_(k+1)) is e_(d+1)(x_1, .., x_k) + x_(k+1)·e_d(x_1, .., x_k)
one_variable_more : (d k n : ℕ) (g : Poly) (f : List ℕ → ℤ)
    → pair (times (elementary_in (suc d) (suc k) n) g) f
    ≡ pair (times (elementary_in (suc d) k n) g) f +ℤ pair (times (variable_in (suc k) n) g) (after_factor (elementary_in d k n) f)
one_variable_more d k n g f =
    pair_times (elementary_in (suc d) (suc k) n) g f
    ∙ pair_plus (elementary_in (suc d) k n) (times (variable_in (suc k) n) (elementary_in d k n)) (λ α. pair g (λ β. f (join α β)))
    ∙ ap₂ ◌+ℤ◌ (sym (pair_times (elementary_in (suc d) k n) g f))
    (sym (pair_times (times (variable_in (suc k) n) (elementary_in d k n)) g f)
    ∙ pair_determined (times (times (variable_in (suc k) n) (elementary_in d k n)) g) (times (times (elementary_in d k n) (variable_in (suc k) n)) g) f
    (times_respects (times (variable_in (suc k) n) (elementary_in d k n)) (times (elementary_in d k n) (variable_in (suc k) n)) g g (times_comm (variable_in (suc k) n) (elementary_in d k n)) (Same_refl g))
    ∙ pair_determined (times (times (elementary_in d k n) (variable_in (suc k) n)) g) (times (elementary_in d k n) (times (variable_in (suc k) n) g)) f
    (times_assoc (elementary_in d k n) (variable_in (suc k) n) g)
    ∙ through_factor (elementary_in d k n) (times (variable_in (suc k) n) g) f)

pub pieri_at : (k d j m n : ℕ) (u : List ℕ) (f : List ℕ → ℤ) → IsOneLine u → k ≤ length u → k ≤ j → m ≡ length u + j
    → chain_sum m d k (paired n f) (u ++ after (length u) j) ≡ pair (times (elementary_in d k n) (schubert_in (u ++ after (length u) j) n)) f
pieri_at zero zero j m n u f o h l e = no_covers_left m zero (paired n f) (u ++ after (length u) j) ∙ sym (one_times n (u ++ after (length u) j) f)
pieri_at zero (suc d) j m n u f o h l e = no_places m d (paired n f) (u ++ after (length u) j)
pieri_at (suc k) zero j m n u f o h l e = no_covers_left m (suc k) (paired n f) (u ++ after (length u) j) ∙ sym (one_times n (u ++ after (length u) j) f)
pieri_at (suc k) (suc d) zero m n u f o h l e = absurd (omega arith)
pieri_at (suc k) (suc d) (suc j) m n u f o h l e =
    let w : List ℕ = u ++ after (length u) (suc j) in
    one_place_more m d k (paired n f) (u ++ after (length u) (suc j)) (one_line_added (suc j) u o) (let q = long in omega arith) (let q = long in omega arith)
    ∙ ap₂ ◌+ℤ◌ (pieri_at k (suc d) (suc j) m n u f o (omega arith) (omega arith) e)
    (part_ext m k (λ v. chain_sum m d k (paired n f) v) (paired n (after_factor (elementary_in d k n) f)) (u ++ after (length u) (suc j))
    (λ b i r t. whole b i (λ v p. pieri_at k d j m n v f p) r t)
    (λ a i. before a i (λ v p. pieri_at k d j m n v f p))
    ∙ sym monk)
    ∙ sym (one_variable_more d k n (schubert_in (u ++ after (length u) (suc j)) n) f)
  where
    long : length (u ++ after (length u) (suc j)) ≡ m
    long = omega (arith, length-append u (after (length u) (suc j)), length_after (length u) (suc j))

    next : j + 1 ≡ suc j
    next = omega arith

    monk : pair (times (variable_in (suc k) n) (schubert_in (u ++ after (length u) (suc j)) n)) (after_factor (elementary_in d k n) f)
        ≡ monk_part m k (paired n (after_factor (elementary_in d k n) f)) (u ++ after (length u) (suc j))
    monk =
        subst (λ i. pair (times (variable_in (suc k) n) (schubert_in (u ++ after (length u) i) n)) (after_factor (elementary_in d k n) f)
        ≡ monk_part (length (u ++ after (length u) i)) k (paired n (after_factor (elementary_in d k n) f)) (u ++ after (length u) i)) next
        (monk_up n k j u (after_factor (elementary_in d k n) f) o (omega arith))
        ∙ ap (λ i. monk_part i k (paired n (after_factor (elementary_in d k n) f)) (u ++ after (length u) (suc j))) long

    more : List ℕ
    more = u ++ ((length u + 1) ∷ [])

    -- a swap of two letters of u and the first fixed letter
    swapped : (a b : ℕ) → a ≤ length u → b ≤ length u
        → ((v : List ℕ) → IsOneLine v → k ≤ length v → k ≤ j → m ≡ length v + j
        → chain_sum m d k (paired n f) (v ++ after (length v) j) ≡ pair (times (elementary_in d k n) (schubert_in (v ++ after (length v) j) n)) f)
        → chain_sum m d k (paired n f) (swap_at a b (u ++ after (length u) (suc j))) ≡ paired n (after_factor (elementary_in d k n) f) (swap_at a b (u ++ after (length u) (suc j)))
    swapped a b p q rec =
        let x = length-append u ((length u + 1) ∷ []) in
        let y = length-swap_at a b (u ++ ((length u + 1) ∷ [])) in
        subst (λ v. chain_sum m d k (paired n f) v ≡ paired n (after_factor (elementary_in d k n) f) v)
        (sym (ap (swap_at a b) (next_after u j) ∙ swap_added (u ++ ((length u + 1) ∷ [])) j a b (omega arith) (omega arith)))
        (rec (swap_at a b (u ++ ((length u + 1) ∷ []))) (one_line_swap a b (u ++ ((length u + 1) ∷ [])) (omega arith) (omega arith) (one_line_next u o)) (omega arith) (omega arith) (omega arith)
        ∙ through_factor (elementary_in d k n) (schubert_in (swap_at a b (u ++ ((length u + 1) ∷ [])) ++ after (length (swap_at a b (u ++ ((length u + 1) ∷ [])))) j) n) f)

    whole : (b : ℕ) → k < b
        → ((v : List ℕ) → IsOneLine v → k ≤ length v → k ≤ j → m ≡ length v + j
        → chain_sum m d k (paired n f) (v ++ after (length v) j) ≡ pair (times (elementary_in d k n) (schubert_in (v ++ after (length v) j) n)) f)
        → b < length (u ++ after (length u) (suc j)) → is_cover (u ++ after (length u) (suc j)) k b ≡ true
        → chain_sum m d k (paired n f) (swap_at k b (u ++ after (length u) (suc j))) ≡ paired n (after_factor (elementary_in d k n) f) (swap_at k b (u ++ after (length u) (suc j)))
    whole b p rec r t =
        let q = long in
        swapped k b (omega arith) (cover_near u (suc j) k b o (omega arith) p (omega arith) t) rec

    before : (a : ℕ) → a < k
        → ((v : List ℕ) → IsOneLine v → k ≤ length v → k ≤ j → m ≡ length v + j
        → chain_sum m d k (paired n f) (v ++ after (length v) j) ≡ pair (times (elementary_in d k n) (schubert_in (v ++ after (length v) j) n)) f)
        → chain_sum m d k (paired n f) (swap_at a k (u ++ after (length u) (suc j))) ≡ paired n (after_factor (elementary_in d k n) f) (swap_at a k (u ++ after (length u) (suc j)))
    before a p rec = swapped a k (omega arith) (omega arith) rec
