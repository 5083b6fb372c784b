-- The chains of covers of the Pieri formula (`kept_chains` of specs/KeptChains of `double_schubert_laws`), listed by the places of the greater letters
-- of their first covers.
--     by_places      all chains, by the place of the greater letter of the first cover
--     cut            there are none for a letter with too few smaller letters among the first k
--     walk_all       the covers at a place, by the other place of the exchange
use Rattle.std.proofs.Common.{◌≡◌, ℕ, zero, suc, ◌+◌, ◌-◌, ◌<◌, ◌≤◌, ◌==◌, Bool, true, false, cond, nat_lt, nat_le, List, [], ◌∷◌, ◌++◌, length, take, drop, map, flat_map, filter, get_or, refl, sym, ap, ap₂, ◌∙◌, inl, inr, arith, ℤ, pos, ◌+ℤ◌, eq-eqb, append-nil}
use Rattle.std.proofs.Math.ListN.{get_or-append}
use Rattle.std.proofs.lemmas.Bool.{lt-ltb, le-ltb}
use Rattle.std.proofs.lemmas.Grind.{flat_map-append}
use Rattle.std.proofs.lemmas.Int.{ints}
use Rattle.std.proofs.lemmas.List.{take-append-le, take-append-drop, take_more, get_or-drop, length-drop}
use Rattle.sym_model.specs.Sum.{total, Among}
use Rattle.sym_model.specs.Partition.{after}
use Rattle.sym_model.specs.PlaceOrders.{inversions, places}
use Rattle.sym_model.specs.Permutation.{with_fixed, times_swap, covers_among}
use Rattle.sym_model.proofs.AfterLists.{length_after, among_after, after-last, total_after}
use Rattle.sym_model.proofs.Sums.{total_append, total_each, total_ext, total_none, total_within, total_cond_list}
use Rattle.schubert_laws.specs.Chains.{letters_before}
use Rattle.schubert_laws.specs.ShortPermutations.{IsShort}
use Rattle.schubert_laws.proofs.IndependentSchuberts.{length-with_fixed}
use Rattle.double_schubert_laws.specs.KeptChains.{kept_lifted, kept_chains, less_among}
use Rattle.double_schubert_laws.proofs.KeptChains.{fixed_one_line, fixed_longer, none_kept}
use lib.IntN.{+ℤ_idl}

-- ---- fixed letters up to the place 32, and up to the place n

pub letter_short : (n p : ℕ) (w : List ℕ) → IsShort n w → n ≤ 32 → p < n → get_or (with_fixed 32 w) p 0 ≡ get_or (with_fixed n w) p 0
letter_short n p w s l h =
    let e = length-with_fixed n w s.short in
    ap (λ v. get_or v p 0) (fixed_longer n 32 w s.short l) ∙ get_or-append (with_fixed n w) (after n (32 - n)) 0 p (omega arith)

pub less_short : (n k a : ℕ) (w : List ℕ) → IsShort n w → n ≤ 32 → k ≤ n → less_among k a (with_fixed 32 w) ≡ less_among k a (with_fixed n w)
less_short n k a w s l h =
    let e = length-with_fixed n w s.short in
    ap (λ v. length (filter (λ x. nat_lt x a) v))
    (ap (take k) (fixed_longer n 32 w s.short l) ∙ take-append-le k (with_fixed n w) (after n (32 - n)) (omega arith))

-- ---- chains

pub none_left : (m k n : ℕ) (w : List ℕ) → kept_chains m 0 k n w ≡ w ∷ []
none_left zero k n w = refl
none_left (suc m) k n w = none_left m k n w

-- the last permutations of the chains whose first cover exchanges the letter a and a smaller one, and which go on with `left` covers
abbrev pub ends : ℕ → ℕ → ℕ → List ℕ → ℕ → List (List ℕ)
ends left k n w a = flat_map (λ v. kept_chains (a - 1) left k n v) (kept_lifted k a n w)

-- the same if a is at most m, and otherwise the empty list
abbrev pub ends_to : ℕ → ℕ → ℕ → ℕ → List ℕ → ℕ → List (List ℕ)
ends_to m left k n w a = cond (nat_le a m) (ends left k n w a) []

before_in : (a p : ℕ) (u : List ℕ) → Among a (take p u) → letters_before a u < p
before_in a zero u m = absurd m
before_in a (suc p) [] m = absurd m
before_in a (suc p) (x ∷ u) (inl e) =
    let z = ap (λ t. cond {A = ℕ} t 0 (suc (letters_before a u))) (eq-eqb x a (sym e)) in
    omega arith
before_in a (suc p) (x ∷ u) (inr m) = by (x == a) (before_in a p u m)
  where
    by : (t : Bool) → letters_before a u < p → cond t 0 (suc (letters_before a u)) < suc p
    by true h = omega arith
    by false h = omega arith

zero_if : (b : Bool) → cond b (pos 0) (pos 0) ≡ pos 0
zero_if true = refl
zero_if false = refl

last_empty : {A : Type 0} (xs ys : List A) → xs ++ ys ≡ [] → ys ≡ []
last_empty [] ys e = e
last_empty (x ∷ xs) ys e = let l = ap length e in absurd (omega arith)

module _ (left k n : ℕ) (w : List ℕ) where
  early : (a : ℕ) → letters_before a (with_fixed n w) < k → ends left k n w a ≡ []
  early a h =
      ap (λ t. flat_map (λ v. kept_chains (a - 1) left k n v)
      (cond t [] (covers_among w (map (λ b. times_swap b (letters_before a (with_fixed n w) + 1) w) (places k)))))
      (lt-ltb (letters_before a (with_fixed n w)) k h)

  pub cut : (a : ℕ) → IsShort n w → 1 ≤ a → a ≤ n → less_among k a (with_fixed n w) < suc left → ends left k n w a ≡ []
  cut zero s c h f = absurd (omega arith)
  cut (suc m) s c h f =
      let e : suc m - 1 ≡ m = omega arith in
      ap (λ i. flat_map (λ v. kept_chains i left k n v) (kept_lifted k (suc m) n w)) e
      ∙ last_empty (kept_chains m (suc left) k n w) (flat_map (λ v. kept_chains m left k n v) (kept_lifted k (suc m) n w))
      (none_kept (suc m) (suc left) k n w s h f)

  module _ (φ : List ℕ → ℤ) where
    by_letters : (m : ℕ) → total φ (kept_chains m (suc left) k n w) ≡ total (λ a. total φ (ends left k n w a)) (after 0 m)
    by_letters zero = refl
    by_letters (suc m) =
        let p : m ≡ 0 + suc m - 1 = omega arith in
        let q : suc m ≡ 0 + suc m = omega arith in
        let s = total_append φ (kept_chains m (suc left) k n w) (flat_map (λ v. kept_chains m left k n v) (kept_lifted k (suc m) n w)) in
        let t = total_append (λ a. total φ (ends left k n w a)) (after 0 m) ((0 + suc m) ∷ []) in
        let l = ap (total (λ a. total φ (ends left k n w a))) (after-last 0 m) in
        let r = by_letters m in
        let o = ap₂ (λ i a. total φ (flat_map (λ v. kept_chains i left k n v) (kept_lifted k a n w))) p q in
        omega (arith, ints)

    pub by_places : IsShort n w → (m : ℕ) → m ≤ n
        → total φ (kept_chains m (suc left) k n w) ≡ total φ (flat_map (ends_to m left k n w) (drop k (with_fixed n w)))
    by_places s m h =
        let o = fixed_one_line n w s in
        let e : 0 + m ≡ m = omega arith in
        by_letters m
        ∙ sym (total_after 0 m n (λ a. total φ (ends left k n w a)) h)
        ∙ ap (λ i. total (λ a. cond (nat_le a i) (total φ (ends left k n w a)) (pos 0)) (after 0 n)) e
        ∙ sym (total_within (λ a. cond (nat_le a m) (total φ (ends left k n w a)) (pos 0)) (after 0 n) (with_fixed n w) o.once
        (λ a i. let x = o.letters a i in let x0 = x.0 in let x1 = x.1 in let l = length-with_fixed n w s.short in among_after 0 n a (omega arith) (omega arith))
        (length-with_fixed n w s.short ∙ sym (length_after 0 n)))
        ∙ ap (total (λ a. cond (nat_le a m) (total φ (ends left k n w a)) (pos 0))) (sym (take-append-drop k (with_fixed n w)))
        ∙ total_append (λ a. cond (nat_le a m) (total φ (ends left k n w a)) (pos 0)) (take k (with_fixed n w)) (drop k (with_fixed n w))
        ∙ ap (λ z. z +ℤ total (λ a. cond (nat_le a m) (total φ (ends left k n w a)) (pos 0)) (drop k (with_fixed n w)))
        (total_none (λ a. cond (nat_le a m) (total φ (ends left k n w a)) (pos 0)) (take k (with_fixed n w)) (λ a i.
        ap (λ l. cond (nat_le a m) (total φ l) (pos 0)) (early a (before_in a k (with_fixed n w) i)) ∙ zero_if (nat_le a m)))
        ∙ +ℤ_idl (total (λ a. cond (nat_le a m) (total φ (ends left k n w a)) (pos 0)) (drop k (with_fixed n w)))
        ∙ sym (total_each φ (ends_to m left k n w) (drop k (with_fixed n w))
        ∙ total_ext (λ a. total φ (ends_to m left k n w a)) (λ a. cond (nat_le a m) (total φ (ends left k n w a)) (pos 0))
        (λ a. total_cond_list (nat_le a m) φ (ends left k n w a)) (drop k (with_fixed n w)))

-- the letters of u at the places from k on, before the place p, counted from 0, with one more
pub next_letter : (k p : ℕ) (u : List ℕ) → k ≤ p → p < length u → take (p + 1 - k) (drop k u) ≡ take (p - k) (drop k u) ++ get_or u p 0 ∷ []
next_letter k p u h l =
    let e : p + 1 - k ≡ p - k + 1 = omega arith in
    let d = length-drop k u in
    let q : k + (p - k) ≡ p = omega arith in
    ap (λ i. take i (drop k u)) e ∙ take_more (drop k u) (p - k) 0 (omega arith)
    ∙ ap (λ x. take (p - k) (drop k u) ++ x ∷ []) (get_or-drop k u (p - k) 0 ∙ ap (λ i. get_or u i 0) q)

pub next_ends : (F : ℕ → List (List ℕ)) (k p : ℕ) (u : List ℕ) → k ≤ p → p < length u
    → flat_map F (take (p + 1 - k) (drop k u)) ≡ flat_map F (take (p - k) (drop k u)) ++ F (get_or u p 0)
next_ends F k p u h l =
    ap (flat_map F) (next_letter k p u h l) ∙ flat_map-append F (take (p - k) (drop k u)) (get_or u p 0 ∷ [])
    ∙ ap (λ x. flat_map F (take (p - k) (drop k u)) ++ x) (append-nil (F (get_or u p 0)))

-- ---- covers at a place

-- the last permutations of the chains whose first cover exchanges the letters at the places a and p + 1, and which go on with `left` covers that
-- exchange letters less than m
abbrev pub ends_at : ℕ → ℕ → ℕ → ℕ → List ℕ → ℕ → ℕ → List (List ℕ)
ends_at m left k n w p a = flat_map (λ v. kept_chains (m - 1) left k n v) (covers_among w (times_swap a (p + 1) w ∷ []))

each_cover : (K : List ℕ → List (List ℕ)) (w : List ℕ) (g : ℕ → List ℕ) (js : List ℕ)
    → flat_map (λ a. flat_map K (covers_among w (g a ∷ []))) js ≡ flat_map K (covers_among w (map g js))
each_cover K w g [] = refl
each_cover K w g (a ∷ js) = by (inversions (g a) == inversions w + 1) (each_cover K w g js)
  where
    by : (t : Bool) → flat_map (λ a. flat_map K (covers_among w (g a ∷ []))) js ≡ flat_map K (covers_among w (map g js))
        → flat_map K (cond t (g a ∷ []) []) ++ flat_map (λ a. flat_map K (covers_among w (g a ∷ []))) js
        ≡ flat_map K (cond t (g a ∷ covers_among w (map g js)) (covers_among w (map g js)))
    by true e = ap₂ (λ x y. x ++ y) (append-nil (K (g a))) e
    by false e = e

pub walk_all : (left k n p a : ℕ) (w : List ℕ) → letters_before a (with_fixed n w) ≡ p → k ≤ p
    → flat_map (ends_at a left k n w p) (places k) ≡ ends left k n w a
walk_all left k n p a w e h =
    each_cover (λ v. kept_chains (a - 1) left k n v) w (λ i. times_swap i (p + 1) w) (places k)
    ∙ sym (ap (λ t. flat_map (λ v. kept_chains (a - 1) left k n v)
    (cond t [] (covers_among w (map (λ b. times_swap b (letters_before a (with_fixed n w) + 1) w) (places k)))))
    (le-ltb (letters_before a (with_fixed n w)) k (omega arith))
    ∙ ap (λ q. flat_map (λ v. kept_chains (a - 1) left k n v) (covers_among w (map (λ b. times_swap b (q + 1) w) (places k)))) e)

pub walk_next : (F : ℕ → List (List ℕ)) (k a : ℕ) → a < k → flat_map F (after a (k - a)) ≡ F (a + 1) ++ flat_map F (after (a + 1) (k - (a + 1)))
walk_next F k a h = let e : k - a ≡ suc (k - (a + 1)) = omega arith in ap (λ i. flat_map F (after a i)) e
