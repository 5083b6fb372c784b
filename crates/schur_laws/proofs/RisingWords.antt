-- A weakly increasing word in the letters 1, .., n + k consists of a word in the letters 1, .., n followed by a word in the letters n + 1, .., n + k.
-- The second word is a word in the letters 1, .., k with each letter raised by n.
use Rattle.std.proofs.Common.{◌≡◌, ℕ, zero, suc, ◌+◌, ◌-◌, ◌<◌, ◌≤◌, inl, inr, nat_le, Bool, true, false, ◌&&◌, cond, List, [], ◌∷◌, ◌++◌, map, length, min, refl, sym, ap, ap₂, subst, ◌∙◌, arith, ℤ, pos, ◌+ℤ◌, flat_map, rules}
use Rattle.std.proofs.lemmas.Bool.{le-leb, lt-leb}
use Rattle.std.proofs.lemmas.Int.{ints}
use Rattle.sym_model.specs.Sum.{total, Among}
use Rattle.sym_model.specs.Partition.{after}
use Rattle.sym_model.specs.Schur.{words, row_rises}
use Rattle.sym_model.proofs.AfterLists.{after_among, after-append}
use Rattle.sym_model.proofs.Sums.{total_ext, total_among, total_append, total_none, total_map, total_each, total_exchange, Among_from_each, Among_from_map, total_cond, total_cond_list as total_listed}
use Rattle.schur_laws.specs.InnerShapes.{up_to}
use lib.IntN.{+ℤ_idl, +ℤ_idr, +ℤ_comm}
use Rattle.sym_model.proofs.Integers.{nested_tests}

-- the weakly increasing words of b letters from 1 to n whose letters are at least x
abbrev pub rising_words : ℕ → ℕ → ℕ → List (List ℕ)
rising_words n x zero = [] ∷ []
rising_words n x (suc b) = flat_map (λ y. cond (nat_le x y) (map (λ w. y ∷ w) (rising_words n y b)) []) (after 0 n)

-- each letter of the word is from 1 to n
abbrev pub AreLetters : ℕ → List ℕ → Type 0
AreLetters n [] = Unit {0}
AreLetters n (a ∷ w) = (0 < a) × (a ≤ n) × AreLetters n w

-- each letter of w raised by n
abbrev pub raised_by : ℕ → List ℕ → List ℕ
raised_by n w = map (λ j. n + j) w

-- ---- sums over the weakly increasing words, and over all words

pub total_rising : (n x b : ℕ) (f : List ℕ → ℤ) → total f (rising_words n x (suc b)) ≡ total (λ y. cond (nat_le x y) (total (λ w. f (y ∷ w)) (rising_words n y b)) (pos 0)) (after 0 n)
total_rising n x b f = search (rules, total_each, total_ext, total_listed, total_map)

rising_of_words : (n x b : ℕ) (f : List ℕ → ℤ) → total (λ w. cond (row_rises (x ∷ w)) (f w) (pos 0)) (words n b) ≡ total f (rising_words n x b)
rising_of_words n x zero f = refl
rising_of_words n x (suc b) f =
    total_each (λ w. cond (row_rises (x ∷ w)) (f w) (pos 0)) (λ y. map (λ w. y ∷ w) (words n b)) (after 0 n)
    ∙ total_ext (λ y. total (λ w. cond (row_rises (x ∷ w)) (f w) (pos 0)) (map (λ w. y ∷ w) (words n b))) (λ y. cond (nat_le x y) (total (λ w. f (y ∷ w)) (rising_words n y b)) (pos 0))
    (λ y. total_map (λ w. cond (row_rises (x ∷ w)) (f w) (pos 0)) (λ w. y ∷ w) (words n b)
    ∙ total_ext (λ w. cond (nat_le x y && row_rises (y ∷ w)) (f (y ∷ w)) (pos 0)) (λ w. cond (nat_le x y) (cond (row_rises (y ∷ w)) (f (y ∷ w)) (pos 0)) (pos 0)) (λ w. sym (nested_tests (nat_le x y) (row_rises (y ∷ w)) (f (y ∷ w)))) (words n b)
    ∙ total_cond (nat_le x y) (λ w. cond (row_rises (y ∷ w)) (f (y ∷ w)) (pos 0)) (words n b)
    ∙ ap (λ z. cond (nat_le x y) z (pos 0)) (rising_of_words n y b (λ w. f (y ∷ w)))) (after 0 n)
    ∙ sym (total_rising n x b f)

pub total_rising_words : (n b : ℕ) (f : List ℕ → ℤ) → total (λ w. cond (row_rises w) (f w) (pos 0)) (words n b) ≡ total f (rising_words n 0 b)
total_rising_words n b f = search (rules, total_ext, rising_of_words, le-leb)

-- w is a word of b letters, each from 1 to n
pub record IsWord (n b : ℕ) (w : List ℕ) : Type 0 where
  pub letters : AreLetters n w
  pub long : length w ≡ b

pub rising-tells : (n x b : ℕ) (w : List ℕ) → Among w (rising_words n x b) → IsWord n b w
rising-tells n x zero w (inl e) = subst (λ v. IsWord n 0 v) (sym e) (record { letters = tt; long = refl })
rising-tells n x zero w (inr m) = absurd m
rising-tells n x (suc b) w m =
    let y = Among_from_each (λ y. cond (nat_le x y) (map (λ v. y ∷ v) (rising_words n y b)) []) w (after 0 n) m in
    by y.0 (after_among 0 n y.0 y.1) (nat_le x y.0) y.2 (λ v k. rising-tells n y.0 b v k)
  where
    by : (y : ℕ) → (0 < y) × (y ≤ 0 + n) → (t : Bool) → Among w (cond t (map (λ v. y ∷ v) (rising_words n y b)) []) → ((v : List ℕ) → Among v (rising_words n y b) → IsWord n b v) → IsWord n (suc b) w
    by y r false k rec = absurd k
    by y r true k rec =
        let v = Among_from_map (λ u. y ∷ u) w (rising_words n y b) k in
        let i = rec v.0 v.1 in
        let high : y ≤ n = let h = r.1 in omega arith in
        subst (λ u. IsWord n (suc b) u) (sym v.2) (record { letters = (r.0, high, i.letters); long = ap suc i.long })

-- ---- the letters n + 1, .., n + k, and words in these letters

pub after_shift : (n a k : ℕ) → after (n + a) k ≡ map (λ j. n + j) (after a k)
after_shift n a zero = refl
after_shift n a (suc k) = search (rules, (after_shift n (a + 1) k))

total_letters : (n k : ℕ) (g : ℕ → ℤ) → total g (after 0 (n + k)) ≡ total g (after 0 n) +ℤ total (λ j. g (n + j)) (after 0 k)
total_letters n k g =
    ap (total g) (after-append 0 n k ∙ ap (λ i. after 0 n ++ after i k) (let e : 0 + n ≡ n + 0 = omega arith in e) ∙ ap (λ l. after 0 n ++ l) (after_shift n 0 k))
    ∙ total_append g (after 0 n) (map (λ j. n + j) (after 0 k)) ∙ ap (λ z. total g (after 0 n) +ℤ z) (total_map g (λ j. n + j) (after 0 k))

raise-le : (n x j : ℕ) → nat_le (n + x) (n + j) ≡ nat_le x j
raise-le n x j = search rules

rising_after : (n k b x : ℕ) (g : List ℕ → ℤ) → 0 < x → total g (rising_words (n + k) (n + x) b) ≡ total (λ w. g (raised_by n w)) (rising_words k x b)
rising_after n k zero x g h = refl
rising_after n k (suc b) x g h =
    total_rising (n + k) (n + x) b g
    ∙ total_letters n k (λ y. cond (nat_le (n + x) y) (total (λ w. g (y ∷ w)) (rising_words (n + k) y b)) (pos 0))
    ∙ ap₂ ◌+ℤ◌
    (total_none (λ y. cond (nat_le (n + x) y) (total (λ w. g (y ∷ w)) (rising_words (n + k) y b)) (pos 0)) (after 0 n)
    (λ y m. let r = after_among 0 n y m in let l = r.1 in ap (λ t. cond t (total (λ w. g (y ∷ w)) (rising_words (n + k) y b)) (pos 0)) (lt-leb (n + x) y (omega arith))))
    (total_among (λ j. cond (nat_le (n + x) (n + j)) (total (λ w. g ((n + j) ∷ w)) (rising_words (n + k) (n + j) b)) (pos 0))
    (λ j. cond (nat_le x j) (total (λ w. g (raised_by n (j ∷ w))) (rising_words k j b)) (pos 0)) (after 0 k)
    (λ j m. let r = after_among 0 k j m in ap₂ (λ t z. cond t z (pos 0)) (raise-le n x j) (rising_after n k b j (λ w. g ((n + j) ∷ w)) r.0)))
    ∙ +ℤ_idl (total (λ j. cond (nat_le x j) (total (λ w. g (raised_by n (j ∷ w))) (rising_words k j b)) (pos 0)) (after 0 k))
    ∙ sym (total_rising k x b (λ w. g (raised_by n w)))

-- ---- sums over weakly increasing words, split into their letters up to n and their greater letters

total_next : (a : ℕ) (g : ℕ → ℤ) → total g (after 0 (suc a)) ≡ total (λ b. g (suc b)) (up_to a)
total_next a g =
    ap₂ ◌+ℤ◌ (ap g (let e : 0 + 1 ≡ suc 0 = omega arith in e))
    (ap (total g) (ap (λ i. after i a) (let e : 0 + 1 ≡ 1 + 0 = omega arith in e) ∙ after_shift 1 0 a)
    ∙ total_map g (λ j. 1 + j) (after 0 a) ∙ total_ext (λ j. g (1 + j)) (λ j. g (suc j)) (λ j. ap g (let e : 1 + j ≡ suc j = omega arith in e)) (after 0 a))

-- the sum of f over the words that are v followed by a weakly increasing word of m letters from n + 1 to n + k
abbrev pub cut_sum : ℕ → ℕ → (List ℕ → ℤ) → ℕ → List ℕ → ℤ
cut_sum n k f m v = total (λ w. f (v ++ raised_by n w)) (rising_words k 0 m)

pub total_cut_words : (n k a x : ℕ) (f : List ℕ → ℤ) → x ≤ n → total f (rising_words (n + k) x a) ≡ total (λ b. total (cut_sum n k f (a - b)) (rising_words n x b)) (up_to a)
total_cut_words n k zero x f h = omega (arith, ints)
total_cut_words n k (suc a) x f h =
    total_rising (n + k) x a f
    ∙ total_letters n k (λ y. cond (nat_le x y) (total (λ w. f (y ∷ w)) (rising_words (n + k) y a)) (pos 0))
    ∙ ap₂ ◌+ℤ◌ (below (λ y l. total_cut_words n k a y (λ w. f (y ∷ w)) l)) above
    ∙ +ℤ_comm (total (λ b. total (cut_sum n k f (a - b)) (rising_words n x (suc b))) (up_to a)) (total (λ w. f (raised_by n w)) (rising_words k 0 (suc a)))
    ∙ ap₂ ◌+ℤ◌ first rest
  where
    below : ((y : ℕ) → y ≤ n → total (λ w. f (y ∷ w)) (rising_words (n + k) y a) ≡ total (λ b. total (λ w. cut_sum n k f (a - b) (y ∷ w)) (rising_words n y b)) (up_to a))
        → total (λ y. cond (nat_le x y) (total (λ w. f (y ∷ w)) (rising_words (n + k) y a)) (pos 0)) (after 0 n) ≡ total (λ b. total (cut_sum n k f (a - b)) (rising_words n x (suc b))) (up_to a)
    below rec =
        total_among (λ y. cond (nat_le x y) (total (λ w. f (y ∷ w)) (rising_words (n + k) y a)) (pos 0))
        (λ y. total (λ b. cond (nat_le x y) (total (λ w. cut_sum n k f (a - b) (y ∷ w)) (rising_words n y b)) (pos 0)) (up_to a)) (after 0 n)
        (λ y m. let r = after_among 0 n y m in let l = r.1 in
        ap (λ z. cond (nat_le x y) z (pos 0)) (rec y (omega arith))
        ∙ sym (total_cond (nat_le x y) (λ b. total (λ w. cut_sum n k f (a - b) (y ∷ w)) (rising_words n y b)) (up_to a)))
        ∙ total_exchange (λ y b. cond (nat_le x y) (total (λ w. cut_sum n k f (a - b) (y ∷ w)) (rising_words n y b)) (pos 0)) (after 0 n) (up_to a)
        ∙ total_ext (λ b. total (λ y. cond (nat_le x y) (total (λ w. cut_sum n k f (a - b) (y ∷ w)) (rising_words n y b)) (pos 0)) (after 0 n)) (λ b. total (cut_sum n k f (a - b)) (rising_words n x (suc b)))
        (λ b. sym (total_rising n x b (cut_sum n k f (a - b)))) (up_to a)

    above : total (λ j. cond (nat_le x (n + j)) (total (λ w. f ((n + j) ∷ w)) (rising_words (n + k) (n + j) a)) (pos 0)) (after 0 k) ≡ total (λ w. f (raised_by n w)) (rising_words k 0 (suc a))
    above =
        total_among (λ j. cond (nat_le x (n + j)) (total (λ w. f ((n + j) ∷ w)) (rising_words (n + k) (n + j) a)) (pos 0))
        (λ j. cond (nat_le 0 j) (total (λ w. f (raised_by n (j ∷ w))) (rising_words k j a)) (pos 0)) (after 0 k)
        (λ j m. let r = after_among 0 k j m in
        ap₂ (λ t z. cond t z (pos 0)) (le-leb x (n + j) (omega arith) ∙ sym (le-leb 0 j (omega arith))) (rising_after n k a j (λ w. f ((n + j) ∷ w)) r.0))
        ∙ sym (total_rising k 0 a (λ w. f (raised_by n w)))

    first : total (λ w. f (raised_by n w)) (rising_words k 0 (suc a)) ≡ total (cut_sum n k f (suc a - 0)) (rising_words n x 0)
    first = ap (λ i. total (λ w. f (raised_by n w)) (rising_words k 0 i)) (let e : suc a ≡ suc a - 0 = omega arith in e) ∙ sym (+ℤ_idr (cut_sum n k f (suc a - 0) []))

    rest : total (λ b. total (cut_sum n k f (a - b)) (rising_words n x (suc b))) (up_to a) ≡ total (λ b. total (cut_sum n k f (suc a - b)) (rising_words n x b)) (after 0 (suc a))
    rest =
        total_ext (λ b. total (cut_sum n k f (a - b)) (rising_words n x (suc b))) (λ b. total (cut_sum n k f (suc a - suc b)) (rising_words n x (suc b)))
        (λ b. ap (λ i. total (cut_sum n k f i) (rising_words n x (suc b))) (let e : a - b ≡ suc a - suc b = omega arith in e)) (up_to a)
        ∙ sym (total_next a (λ b. total (cut_sum n k f (suc a - b)) (rising_words n x b)))

pub total_up_to : (a c : ℕ) (g : ℕ → ℤ) → total (λ b. cond (nat_le b c) (g b) (pos 0)) (up_to a) ≡ total g (up_to (min a c))
total_up_to a c g = ap₂ ◌+ℤ◌ (ap (λ t. cond t (g 0) (pos 0)) (le-leb 0 c (omega arith))) (ap (λ i. total (λ b. cond (nat_le b i) (g b) (pos 0)) (after 0 a)) (let e : c ≡ 0 + c = omega arith in e) ∙ from 0 a c)
  where
    from : (s a' c' : ℕ) → total (λ b. cond (nat_le b (s + c')) (g b) (pos 0)) (after s a') ≡ total g (after s (min a' c'))
    from s zero c' = ap (λ i. total g (after s i)) (let e : 0 ≡ min 0 c' = omega arith in e)
    from s (suc a') zero =
        total_none (λ b. cond (nat_le b (s + 0)) (g b) (pos 0)) (after s (suc a')) (λ b m. let r = after_among s (suc a') b m in let l = r.0 in ap (λ t. cond t (g b) (pos 0)) (lt-leb b (s + 0) (omega arith)))
        ∙ ap (λ i. total g (after s i)) (let e : 0 ≡ min (suc a') 0 = omega arith in e)
    from s (suc a') (suc c') =
        let d : s + suc c' ≡ s + 1 + c' = omega arith in
        ap₂ ◌+ℤ◌ (ap (λ t. cond t (g (s + 1)) (pos 0)) (le-leb (s + 1) (s + suc c') (omega arith)))
        (ap (λ i. total (λ b. cond (nat_le b i) (g b) (pos 0)) (after (s + 1) a')) d ∙ from (s + 1) a' c')
        ∙ ap (λ i. total g (after s i)) (let e : suc (min a' c') ≡ min (suc a') (suc c') = omega arith in e)
