-- Pieri's formula for every permutation, as `schubert_pieri_law` states it: chains exchange at most one fixed letter after the letters of w and the place k, so
-- that one fixed letter at the end is enough.
--     total_chains       the sum of φ over the list `chains_from m d k w` is `chain_sum m d k φ w`
--     chain_front        fixed letters at the end do not take part in chains whose greater letters are smaller
use Rattle.std.proofs.Common.{◌≡◌, ℕ, zero, suc, ◌+◌, ◌-◌, ◌<◌, ◌≤◌, max, List, [], ◌++◌, length, map, flat_map, refl, sym, ◌∙◌, ap, ap₂, arith, inl, inr, cond, ◌==◌, ℤ, pos, ◌+ℤ◌, length-append, append_assoc, eqb-true, eq-eqb}
use Rattle.std.specs.List.{swap}
use Rattle.std.proofs.lemmas.Int.{ints}
use Rattle.std.proofs.Math.ListN.{get_or-append}
use Rattle.std.proofs.lemmas.Bool.{cases_lt, lt-ltb, le-ltb}
use Rattle.sym_model.specs.Sum.{total}
use Rattle.sym_model.specs.Partition.{after}
use Rattle.sym_model.specs.PlaceOrders.{inversions, places}
use Rattle.sym_model.specs.BetaList.{rising_pairs}
use Rattle.sym_model.specs.Polynomial.{Same, times, pair}
use Rattle.sym_model.specs.Permutation.{IsOneLine, swapped, covers_among}
use Rattle.sym_model.specs.Schubert.{schubert_in, schuberts_in}
use Rattle.sym_model.proofs.AfterLists.{length_after, after-append}
use Rattle.sym_model.proofs.Exponents.{tests_agree}
use Rattle.sym_model.proofs.Sums.{total_append, total_each, total_map, total_select}
use Rattle.sym_model.proofs.Polynomials.{pair_each, pair_determined, same_from_pair, Same_refl, times_respects}
use Rattle.schubert_laws.specs.Chains.{letters_before, lifted, chains_from, chains, elementary_in}
use Rattle.schubert_laws.proofs.ChainSums.{place_below, letter_there, place_is, lift, lift_ext, lift_none, lift_some, up_none, chain_sum, no_covers_left}
use Rattle.schubert_laws.proofs.CoverTests.{letter_at, covers_if, covers_only_if, up}
use Rattle.schubert_laws.proofs.FixedTails.{one_line_added, schubert_added, one_more_inversion, one_less_rising}
use Rattle.schubert_laws.proofs.MonkFromOne.{swap_is, one_line_swap, swap_added, sum_after}
use Rattle.schubert_laws.proofs.MonkStep.{is_cover}
use Rattle.schubert_laws.proofs.Pieri.{paired, fixed_there, cover_near, pieri_at}
use Rattle.schubert_laws.proofs.PlaceSums.{sum_below_ext, sum_below_none}
use Rattle.schubert_laws.proofs.Swaps.{swap_at, length-swap_at, once_swap}

-- ---- the list of the chains

pub cover_test : (a b : ℕ) (w : List ℕ) → IsOneLine w → a < length w → b < length w → (inversions (swap w a b) == inversions w + 1) ≡ is_cover w a b
cover_test a b w o h l =
    tests_agree (inversions (swap w a b) == inversions w + 1) (is_cover w a b)
    (λ e. eq-eqb (rising_pairs w) (suc (rising_pairs (swap_at a b w)))
    (one_less_rising w (swap_at a b w) o.once (once_swap a b w h l o.once) (length-swap_at a b w)
    (sym (ap inversions (swap_is w a b h l)) ∙ eqb-true (inversions (swap w a b)) (inversions w + 1) e)))
    (λ e. eq-eqb (inversions (swap w a b)) (inversions w + 1)
    (ap inversions (swap_is w a b h l)
    ∙ one_more_inversion w (swap_at a b w) o.once (once_swap a b w h l o.once) (length-swap_at a b w) (eqb-true (rising_pairs w) (suc (rising_pairs (swap_at a b w))) e)))

total_lifted : (k m : ℕ) (G : List ℕ → ℤ) (w : List ℕ) → IsOneLine w → 1 ≤ m → m ≤ length w → total G (lifted k m w) ≡ lift G w k (letters_before m w)
total_lifted k m G w o h l = elim (cases_lt (letters_before m w) k) [
  | inl f ↦ ap (total G) (ap (λ t. cond t [] (covers_among w (map (λ a. swapped a (letters_before m w + 1) w) (places k)))) (lt-ltb (letters_before m w) k f)) ∙ sym (lift_none G w k (letters_before m w) f)
  | inr f ↦
      ap (total G) (ap (λ t. cond t [] (covers_among w (map (λ a. swapped a (letters_before m w + 1) w) (places k)))) (le-ltb (letters_before m w) k f))
      ∙ total_select G (λ v. inversions v == inversions w + 1) (map (λ a. swapped a (letters_before m w + 1) w) (places k))
      ∙ total_map (λ v. cond (inversions v == inversions w + 1) (G v) (pos 0)) (λ a. swapped a (letters_before m w + 1) w) (places k)
      ∙ sym (sum_after k 0 (λ a. cond (inversions (swap w a (letters_before m w + 1 - 1)) == inversions w + 1) (G (swap w a (letters_before m w + 1 - 1))) (pos 0)))
      ∙ sum_below_ext k (λ a. cond (inversions (swap w (0 + a) (letters_before m w + 1 - 1)) == inversions w + 1) (G (swap w (0 + a) (letters_before m w + 1 - 1))) (pos 0)) (λ a. up G w a (letters_before m w)) (λ a i. same a i f)
      ∙ sym (lift_some G w k (letters_before m w) f)
]
  where
    same : (a : ℕ) → a < k → k ≤ letters_before m w
        → cond (inversions (swap w (0 + a) (letters_before m w + 1 - 1)) == inversions w + 1) (G (swap w (0 + a) (letters_before m w + 1 - 1))) (pos 0) ≡ up G w a (letters_before m w)
    same a i f =
        let p = place_below m w o h l in
        let x : 0 + a ≡ a = omega arith in
        let y : letters_before m w + 1 - 1 ≡ letters_before m w = omega arith in
        ap₂ (λ c d. cond (inversions (swap w c d) == inversions w + 1) (G (swap w c d)) (pos 0)) x y
        ∙ ap₂ (λ s v. cond s (G v) (pos 0)) (cover_test a (letters_before m w) w o (omega arith) p) (swap_is w a (letters_before m w) (omega arith) p)

pub total_chains : (m d k : ℕ) (φ : List ℕ → ℤ) (w : List ℕ) → IsOneLine w → m ≤ length w → total φ (chains_from m d k w) ≡ chain_sum m d k φ w
total_chains zero zero k φ w o l = let e : φ w +ℤ pos 0 ≡ φ w = omega (arith, ints) in e
total_chains zero (suc d) k φ w o l = refl
total_chains (suc m) zero k φ w o l = total_chains m zero k φ w o (omega arith)
total_chains (suc m) (suc d) k φ w o l =
    let p = place_below (suc m) w o (omega arith) l in
    total_append φ (chains_from m (suc d) k w) (flat_map (λ v. chains_from m d k v) (lifted k (suc m) w))
    ∙ ap₂ ◌+ℤ◌ (total_chains m (suc d) k φ w o (omega arith))
    (total_each φ (λ v. chains_from m d k v) (lifted k (suc m) w)
    ∙ total_lifted k (suc m) (λ v. total φ (chains_from m d k v)) w o (omega arith) l
    ∙ lift_ext (λ v. total φ (chains_from m d k v)) (λ v. chain_sum m d k φ v) w k (letters_before (suc m) w) (λ a i j.
    total_chains m d k φ (swap_at a (letters_before (suc m) w) w) (one_line_swap a (letters_before (suc m) w) w (omega arith) p o) (omega (arith, length-swap_at a (letters_before (suc m) w) w))))

-- ---- fixed letters at the end

chain_ext : (m d k : ℕ) (φ ψ : List ℕ → ℤ) (w : List ℕ) → IsOneLine w → m ≤ length w → ((v : List ℕ) → IsOneLine v → φ v ≡ ψ v) → chain_sum m d k φ w ≡ chain_sum m d k ψ w
chain_ext zero zero k φ ψ w o l e = e w o
chain_ext zero (suc d) k φ ψ w o l e = refl
chain_ext (suc m) zero k φ ψ w o l e = chain_ext m zero k φ ψ w o (omega arith) e
chain_ext (suc m) (suc d) k φ ψ w o l e =
    let p = place_below (suc m) w o (omega arith) l in
    ap₂ ◌+ℤ◌ (chain_ext m (suc d) k φ ψ w o (omega arith) e)
    (lift_ext (λ v. chain_sum m d k φ v) (λ v. chain_sum m d k ψ v) w k (letters_before (suc m) w) (λ a i j.
    chain_ext m d k φ ψ (swap_at a (letters_before (suc m) w) w) (one_line_swap a (letters_before (suc m) w) w (omega arith) p o) (omega (arith, length-swap_at a (letters_before (suc m) w) w)) e))

-- the list v with j fixed letters added at its end
abbrev longer_by : ℕ → List ℕ → List ℕ
longer_by j v = v ++ after (length v) j

length-longer_by : (j : ℕ) (v : List ℕ) → length (longer_by j v) ≡ length v + j
length-longer_by j v = omega (arith, length-append v (after (length v) j), length_after (length v) j)

letter_front : (j c : ℕ) (v : List ℕ) → c < length v → letter_at (longer_by j v) c ≡ letter_at v c
letter_front j c v h = get_or-append v (after (length v) j) (suc c) c h

cover_front : (j a b : ℕ) (v : List ℕ) → IsOneLine v → a < b → b < length v → is_cover (longer_by j v) a b ≡ is_cover v a b
cover_front j a b v o h l =
    let e = length-longer_by j v in
    let p = letter_front j a v (omega arith) in
    let q = letter_front j b v l in
    tests_agree (is_cover (longer_by j v) a b) (is_cover v a b)
    (λ t.
    let c = covers_only_if a b (longer_by j v) (one_line_added j v o) h (omega arith) t in
    let c0 = c.0 in
    covers_if a b v o h l (omega arith, λ i x y. let r = letter_front j i v (omega arith) in elim (c.1 i x y) [ inl s ↦ inl (omega arith) | inr s ↦ inr (omega arith) ]))
    (λ t.
    let c = covers_only_if a b v o h l t in
    let c0 = c.0 in
    covers_if a b (longer_by j v) (one_line_added j v o) h (omega arith) (omega arith, λ i x y. let r = letter_front j i v (omega arith) in elim (c.1 i x y) [ inl s ↦ inl (omega arith) | inr s ↦ inr (omega arith) ]))

place_front : (j m : ℕ) (v : List ℕ) → IsOneLine v → 1 ≤ m → m ≤ length v → letters_before m (longer_by j v) ≡ letters_before m v
place_front j m v o h l =
    place_is m (letters_before m v) (longer_by j v) (one_line_added j v o) h (omega (arith, length-longer_by j v))
    (letter_front j (letters_before m v) v (place_below m v o h l) ∙ letter_there m v o h l)

pub chain_front : (m d k j : ℕ) (φ : List ℕ → ℤ) (v : List ℕ) → IsOneLine v → m ≤ length v → chain_sum m d k φ (longer_by j v) ≡ chain_sum m d k (λ x. φ (longer_by j x)) v
chain_front zero zero k j φ v o l = refl
chain_front zero (suc d) k j φ v o l = refl
chain_front (suc m) zero k j φ v o l = chain_front m zero k j φ v o (omega arith)
chain_front (suc m) (suc d) k j φ v o l =
    let p = place_below (suc m) v o (omega arith) l in
    ap₂ ◌+ℤ◌ (chain_front m (suc d) k j φ v o (omega arith))
    (ap (lift (λ x. chain_sum m d k φ x) (longer_by j v) k) (place_front j (suc m) v o (omega arith) l)
    ∙ elim (cases_lt (letters_before (suc m) v) k) [
      | inl f ↦
          lift_none (λ x. chain_sum m d k φ x) (longer_by j v) k (letters_before (suc m) v) f
          ∙ sym (lift_none (λ x. chain_sum m d k (λ y. φ (longer_by j y)) x) v k (letters_before (suc m) v) f)
      | inr f ↦
          lift_some (λ x. chain_sum m d k φ x) (longer_by j v) k (letters_before (suc m) v) f
          ∙ sum_below_ext k (λ a. up (λ x. chain_sum m d k φ x) (longer_by j v) a (letters_before (suc m) v)) (λ a. up (λ x. chain_sum m d k (λ y. φ (longer_by j y)) x) v a (letters_before (suc m) v)) (λ a i.
          ap₂ (λ t z. cond t z (pos 0)) (cover_front j a (letters_before (suc m) v) v o (omega arith) p)
          (ap (λ x. chain_sum m d k φ x) (swap_added v j a (letters_before (suc m) v) (omega arith) p)
          ∙ chain_front m d k j φ (swap_at a (letters_before (suc m) v) v) (one_line_swap a (letters_before (suc m) v) v (omega arith) p o) (omega (arith, length-swap_at a (letters_before (suc m) v) v))))
          ∙ sym (lift_some (λ x. chain_sum m d k (λ y. φ (longer_by j y)) x) v k (letters_before (suc m) v) f)
    ])

-- chains from w followed by fixed letters exchange none of them but the first
chain_fewer : (i d k j : ℕ) (φ : List ℕ → ℤ) (u : List ℕ) → IsOneLine u → k ≤ length u → i < j
    → chain_sum (length u + 1 + i) d k φ (longer_by j u) ≡ chain_sum (length u + 1) d k φ (longer_by j u)
chain_fewer zero d k j φ u o h l = let e : length u + 1 + 0 ≡ length u + 1 = omega arith in ap (λ m. chain_sum m d k φ (longer_by j u)) e
chain_fewer (suc i) zero k j φ u o h l =
    no_covers_left (length u + 1 + suc i) k φ (longer_by j u) ∙ sym (no_covers_left (length u + 1) k φ (longer_by j u))
chain_fewer (suc i) (suc d) k j φ u o h l =
    let e : length u + 1 + suc i ≡ suc (length u + 1 + i) = omega arith in
    let r = chain_fewer i (suc d) k j φ u o h (omega arith) in
    let z = none in
    ap (λ m. chain_sum m (suc d) k φ (longer_by j u)) e ∙ omega (arith, ints)
  where
    place : letters_before (suc (length u + 1 + i)) (longer_by j u) ≡ length u + 1 + i
    place =
        place_is (suc (length u + 1 + i)) (length u + 1 + i) (longer_by j u) (one_line_added j u o) (omega arith) (omega (arith, length-longer_by j u))
        (fixed_there u j (length u + 1 + i) (omega arith) (omega arith))

    none : lift (λ v. chain_sum (length u + 1 + i) d k φ v) (longer_by j u) k (letters_before (suc (length u + 1 + i)) (longer_by j u)) ≡ pos 0
    none =
        ap (lift (λ v. chain_sum (length u + 1 + i) d k φ v) (longer_by j u) k) place
        ∙ lift_some (λ v. chain_sum (length u + 1 + i) d k φ v) (longer_by j u) k (length u + 1 + i) (omega arith)
        ∙ sum_below_none k (λ a. up (λ v. chain_sum (length u + 1 + i) d k φ v) (longer_by j u) a (length u + 1 + i)) (λ a x.
        up_none (λ v. chain_sum (length u + 1 + i) d k φ v) (longer_by j u) a (length u + 1 + i) (λ t.
        absurd (let b = cover_near u j a (length u + 1 + i) o (omega arith) (omega arith) (omega arith) t in omega arith)))

-- ---- Pieri's formula

paired_longer : (n j : ℕ) (f : List ℕ → ℤ) (v : List ℕ) → IsOneLine v → paired n f (longer_by j v) ≡ paired n f v
paired_longer n j f v o = pair_determined (schubert_in (longer_by j v) n) (schubert_in v n) f (schubert_added j v n o)

longer_twice : (i j : ℕ) (v : List ℕ) → longer_by j (longer_by i v) ≡ longer_by (i + j) v
longer_twice i j v =
    let e = length-longer_by i v in
    append_assoc v (after (length v) i) (after (length (longer_by i v)) j)
    ∙ ap (λ l. v ++ (after (length v) i ++ after l j)) e
    ∙ ap (λ l. v ++ l) (sym (after-append (length v) i j))

pieri_from : (d k n : ℕ) (u : List ℕ) (f : List ℕ → ℤ) → IsOneLine u → k ≤ length u
    → total (paired n f) (chains_from (length u + 1) d k (longer_by 1 u)) ≡ pair (times (elementary_in d k n) (schubert_in u n)) f
pieri_from d k n u f o h =
    let long = length-longer_by 1 u in
    let o1 = one_line_added 1 u o in
    total_chains (length u + 1) d k (paired n f) (longer_by 1 u) o1 (omega arith)
    ∙ chain_ext (length u + 1) d k (paired n f) (λ x. paired n f (longer_by k x)) (longer_by 1 u) o1 (omega arith) (λ v x. sym (paired_longer n k f v x))
    ∙ sym (chain_front (length u + 1) d k k (paired n f) (longer_by 1 u) o1 (omega arith))
    ∙ ap (chain_sum (length u + 1) d k (paired n f)) (longer_twice 1 k u)
    ∙ sym (chain_fewer k d k (1 + k) (paired n f) u o h (omega arith))
    ∙ pieri_at k d (1 + k) (length u + 1 + k) n u f o h (omega arith) (omega arith)
    ∙ pair_determined (times (elementary_in d k n) (schubert_in (longer_by (1 + k) u) n)) (times (elementary_in d k n) (schubert_in u n)) f
    (times_respects (elementary_in d k n) (elementary_in d k n) (schubert_in (longer_by (1 + k) u) n) (schubert_in u n) (Same_refl (elementary_in d k n)) (schubert_added (1 + k) u n o))

pub pieri_sum : (d k n : ℕ) (w : List ℕ) (f : List ℕ → ℤ) → IsOneLine w → total (paired n f) (chains d k w) ≡ pair (times (elementary_in d k n) (schubert_in w n)) f
pieri_sum d k n w f o =
    let p = max (length w) k - length w in
    let long = length-longer_by (max (length w) k - length w) w in
    let e : max (length w) k + 1 ≡ length (longer_by (max (length w) k - length w) w) + 1 = omega arith in
    let g : max (length w) k + 1 - length w ≡ max (length w) k - length w + 1 = omega arith in
    ap₂ (λ m v. total (paired n f) (chains_from m d k v)) e
    (ap (λ i. longer_by i w) g ∙ sym (longer_twice (max (length w) k - length w) 1 w))
    ∙ pieri_from d k n (longer_by (max (length w) k - length w) w) f (one_line_added (max (length w) k - length w) w o) (omega arith)
    ∙ pair_determined (times (elementary_in d k n) (schubert_in (longer_by (max (length w) k - length w) w) n)) (times (elementary_in d k n) (schubert_in w n)) f
    (times_respects (elementary_in d k n) (elementary_in d k n) (schubert_in (longer_by (max (length w) k - length w) w) n) (schubert_in w n) (Same_refl (elementary_in d k n))
    (schubert_added (max (length w) k - length w) w n o))

pub pieri : (w : List ℕ) (d k n : ℕ) → IsOneLine w → Same (times (elementary_in d k n) (schubert_in w n)) (schuberts_in (chains d k w) n)
pieri w d k n o =
    same_from_pair (times (elementary_in d k n) (schubert_in w n)) (schuberts_in (chains d k w) n) (λ f.
    sym (pieri_sum d k n w f o) ∙ sym (pair_each (λ v. schubert_in v n) (chains d k w) f))
