-- The fillings with letters up to n in which no letter is greater than k are the fillings with letters up to k; so a Schur polynomial in n variables,
-- restricted to k variables, is the one in k variables.
use Rattle.std.proofs.Common.{◌≡◌, ℕ, zero, suc, ◌+◌, ◌-◌, ◌<◌, ◌≤◌, ◌⊎◌, ◌==◌, Bool, true, false, cond, ◌&&◌, List, [], ◌∷◌, ◌++◌, map, nat_le, sym, ◌∙◌, ap, ap₂, refl, inl, inr, arith, ℤ, pos, ◌+ℤ◌, ◌*ℤ◌, filter}
use Rattle.std.proofs.lemmas.Bool.{and_parts, and_from, leb-true, le-leb, eqb-true, eq-eqb, ne_eqb, cases_eq, cases_lt, cases_Bool}
use Rattle.sym_model.specs.Sum.{total}
use Rattle.sym_model.specs.Partition.{Falls, IsPartition, after}
use Rattle.sym_model.specs.Polynomial.{Term, Same, pair, resize, all_zero, fits_in, restrict}
use Rattle.sym_model.specs.Schur.{row_lengths, fillings_of, semistandard, contains, tableaux, times_in, letters_of, content, skew_schur}
use Rattle.sym_model.specs.GoodTableau.{every}
use Rattle.sym_model.proofs.Ring.{one-product}
use Rattle.sym_model.proofs.Sums.{total_ext, total_among, total_map}
use Rattle.sym_model.proofs.Exponents.{tests_agree}
use Rattle.sym_model.proofs.Polynomials.{pair_restrict, same_from_pair}
use Rattle.sym_model.proofs.AfterLists.{total_after}
use Rattle.tableau_laws.specs.PaddedRows.{letters_at, words_over, fillings_over, pattern_of}
use Rattle.tableau_laws.specs.Grid.{is_padded_tableau}
use Rattle.tableau_laws.proofs.Transposing.{words_sum, fillings_sum}
use Rattle.tableau_laws.proofs.PatternFillings.{Fits, AllFit, filling_tells}
use Rattle.tableau_laws.proofs.RowSums.{of_tableaux, total_tableaux}
use Rattle.tableau_laws.proofs.Contents.{content-padded}
use Rattle.tableau_laws.proofs.ColumnSums.{total_under}
use Rattle.sym_model.specs.Bounded.{AreAtMost}
use Rattle.std.proofs.Math.Bool.{and_assoc}
use Rattle.sym_model.proofs.Integers.{tests_exchanged}

-- whether no letter of the word is greater than k
abbrev pub are_up_to : ℕ → List ℕ → Bool
are_up_to k w = every (λ a. nat_le a k) w

up_to-append : (k : ℕ) (v w : List ℕ) → are_up_to k (v ++ w) ≡ (are_up_to k v && are_up_to k w)
up_to-append k [] w = refl
up_to-append k (a ∷ v) w = ap (λ b. nat_le a k && b) (up_to-append k v w) ∙ sym (and_assoc (nat_le a k) (are_up_to k v) (are_up_to k w))

total_letters : (k n : ℕ) (p : Bool) (g : ℕ → ℤ) → k ≤ n → total (λ (x : ℕ). cond (nat_le x k) (g x) (pos 0)) (letters_at n p) ≡ total g (letters_at k p)
total_letters k n true g h =
    let e : k ≡ 0 + k = omega arith in
    ap (λ (i : ℕ). total (λ (x : ℕ). cond (nat_le x i) (g x) (pos 0)) (after 0 n)) e ∙ total_after 0 k n g h
total_letters k n false g h = ap (λ (b : Bool). cond b (g 0) (pos 0) +ℤ pos 0) (le-leb 0 k (omega arith))

total_words : (k n : ℕ) (line : List Bool) (g : List ℕ → ℤ) → k ≤ n → total (λ (w : List ℕ). cond (are_up_to k w) (g w) (pos 0)) (words_over n line) ≡ total g (words_over k line)
total_words k n [] g h = refl
total_words k n (p ∷ line) g h =
    words_sum n p line (λ (w : List ℕ). cond (are_up_to k w) (g w) (pos 0))
    ∙ total_ext (λ (a : ℕ). total (λ (w : List ℕ). cond (nat_le a k && are_up_to k w) (g (a ∷ w)) (pos 0)) (words_over n line))
    (λ (a : ℕ). cond (nat_le a k) (total (λ (w : List ℕ). g (a ∷ w)) (words_over k line)) (pos 0))
    (λ a. total_under (nat_le a k) (are_up_to k) (λ (w : List ℕ). g (a ∷ w)) (words_over n line)
    ∙ ap (λ (x : ℤ). cond (nat_le a k) x (pos 0)) (total_words k n line (λ (w : List ℕ). g (a ∷ w)) h))
    (letters_at n p)
    ∙ total_letters k n p (λ (a : ℕ). total (λ (w : List ℕ). g (a ∷ w)) (words_over k line)) h
    ∙ sym (words_sum k p line g)

pub total_up_to : (k n : ℕ) (pattern : List (List Bool)) (g : List (List ℕ) → ℤ) → k ≤ n
    → total (λ (rows : List (List ℕ)). cond (are_up_to k (letters_of rows)) (g rows) (pos 0)) (fillings_over n pattern) ≡ total g (fillings_over k pattern)
total_up_to k n [] g h = refl
total_up_to k n (line ∷ pattern) g h =
    fillings_sum n line pattern (λ (rows : List (List ℕ)). cond (are_up_to k (letters_of rows)) (g rows) (pos 0))
    ∙ total_ext (λ (w : List ℕ). total (λ (rest : List (List ℕ)). cond (are_up_to k (w ++ letters_of rest)) (g (w ∷ rest)) (pos 0)) (fillings_over n pattern))
    (λ (w : List ℕ). cond (are_up_to k w) (total (λ (rest : List (List ℕ)). g (w ∷ rest)) (fillings_over k pattern)) (pos 0))
    (λ w. total_ext (λ (rest : List (List ℕ)). cond (are_up_to k (w ++ letters_of rest)) (g (w ∷ rest)) (pos 0))
    (λ (rest : List (List ℕ)). cond (are_up_to k w && are_up_to k (letters_of rest)) (g (w ∷ rest)) (pos 0))
    (λ rest. ap (λ (b : Bool). cond b (g (w ∷ rest)) (pos 0)) (up_to-append k w (letters_of rest))) (fillings_over n pattern)
    ∙ total_under (are_up_to k w) (λ (rest : List (List ℕ)). are_up_to k (letters_of rest)) (λ (rest : List (List ℕ)). g (w ∷ rest)) (fillings_over n pattern)
    ∙ ap (λ (x : ℤ). cond (are_up_to k w) x (pos 0)) (total_up_to k n pattern (λ (rest : List (List ℕ)). g (w ∷ rest)) h))
    (words_over n line)
    ∙ total_words k n line (λ (w : List ℕ). total (λ (rest : List (List ℕ)). g (w ∷ rest)) (fillings_over k pattern)) h
    ∙ sym (fillings_sum k line pattern g)

-- ---- no letter of a word is greater than k if and only if the content of the word has only zeros after the first k entries

resize_map : (f : ℕ → ℕ) (a k n : ℕ) → k ≤ n → resize k (map f (after a n)) ≡ map f (after a k)
resize_map f a zero n h = refl
resize_map f a (suc k) zero h = absurd (omega arith)
resize_map f a (suc k) (suc n) h = ap (λ l. f (a + 1) ∷ l) (resize_map f (a + 1) k n (omega arith))

pub resize-content : (k n : ℕ) (w : List ℕ) → k ≤ n → resize k (content n w) ≡ content k w
resize-content k n w h = resize_map (λ j. times_in j w) 0 k n h

all_zero_tells : (f : ℕ → ℕ) (a n j : ℕ) → all_zero (map f (after a n)) ≡ true → a < j → j ≤ a + n → f j ≡ 0
all_zero_tells f a zero j e h l = absurd (omega arith)
all_zero_tells f a (suc n) j e h l =
    let p = and_parts (f (a + 1) == 0) (all_zero (map f (after (a + 1) n))) e in
    by (cases_eq j (a + 1)) p.0 (λ d. all_zero_tells f (a + 1) n j p.1 (omega arith) (omega arith))
  where
    by : (j ≡ a + 1) ⊎ (j ≡ a + 1 → ⊥) → (f (a + 1) == 0) ≡ true → ((j ≡ a + 1 → ⊥) → f j ≡ 0) → f j ≡ 0
    by (inl d) z later = ap f d ∙ eqb-true (f (a + 1)) 0 z
    by (inr d) z later = later d

all_zero_from : (f : ℕ → ℕ) (a n : ℕ) → ((j : ℕ) → a < j → f j ≡ 0) → all_zero (map f (after a n)) ≡ true
all_zero_from f a zero z = refl
all_zero_from f a (suc n) z =
    and_from (f (a + 1) == 0) (all_zero (map f (after (a + 1) n))) (eq-eqb (f (a + 1)) 0 (z (a + 1) (omega arith))) (all_zero_from f (a + 1) n (λ j h. z j (omega arith)))

fits_in_map : (f : ℕ → ℕ) (a k n : ℕ) → k ≤ n → fits_in k (map f (after a n)) ≡ all_zero (map f (after (a + k) (n - k)))
fits_in_map f a zero n h =
    let e : a ≡ a + 0 = omega arith in
    let d : n ≡ n - 0 = omega arith in
    ap₂ (λ i j. all_zero (map f (after i j))) e d
fits_in_map f a (suc k) zero h = absurd (omega arith)
fits_in_map f a (suc k) (suc n) h =
    let e : a + 1 + k ≡ a + suc k = omega arith in
    let d : n - k ≡ suc n - suc k = omega arith in
    fits_in_map f (a + 1) k n (omega arith) ∙ ap₂ (λ i j. all_zero (map f (after i j))) e d

none_greater : (k j : ℕ) (w : List ℕ) → are_up_to k w ≡ true → k < j → times_in j w ≡ 0
none_greater k j [] e h = refl
none_greater k j (a ∷ w) e h =
    let p = and_parts (nat_le a k) (are_up_to k w) e in
    let l = leb-true a k p.0 in
    let d : (a == j) ≡ false = ne_eqb a j (λ i. absurd (omega arith)) in
    ap (λ (b : Bool). cond {A = ℕ} b 1 0 + times_in j w) d ∙ omega (arith, none_greater k j w p.1 h)

up_to_from : (k n : ℕ) (w : List ℕ) → AreAtMost n w → ((j : ℕ) → k < j → j ≤ n → times_in j w ≡ 0) → are_up_to k w ≡ true
up_to_from k n [] a z = refl
up_to_from k n (b ∷ w) a z =
    and_from (nat_le b k) (are_up_to k w) (first (cases_lt k b)) (up_to_from k n w a.1 (λ j h l. let e = z j h l in omega arith))
  where
    first : (k < b) ⊎ (b ≤ k) → nat_le b k ≡ true
    first (inl h) =
        let e = z b h a.0 in
        let d : cond {A = ℕ} (b == b) 1 0 ≡ 1 = ap (λ (c : Bool). cond {A = ℕ} c 1 0) (eq-eqb b b refl) in
        absurd (omega arith)
    first (inr h) = le-leb b k h

fits_in-content : (k n : ℕ) (w : List ℕ) → k ≤ n → AreAtMost n w → fits_in k (content n w) ≡ are_up_to k w
fits_in-content k n w h a =
    tests_agree (fits_in k (content n w)) (are_up_to k w)
    (λ e. up_to_from k n w a (λ j g l. all_zero_tells (λ i. times_in i w) (0 + k) (n - k) j (sym (fits_in_map (λ i. times_in i w) 0 k n h) ∙ e) (omega arith) (omega arith)))
    (λ e. fits_in_map (λ i. times_in i w) 0 k n h ∙ all_zero_from (λ i. times_in i w) (0 + k) (n - k) (λ j g. none_greater k j w e (omega arith)))

word_within : (n : ℕ) (line : List Bool) (w : List ℕ) → Fits n line w → AreAtMost n w
word_within n [] [] f = tt
word_within n [] (a ∷ w) f = absurd f
word_within n (p ∷ line) [] f = absurd f
word_within n (true ∷ line) (a ∷ w) f = (f.0.1, word_within n line w f.1)
word_within n (false ∷ line) (a ∷ w) f = let e = f.0 in (omega arith, word_within n line w f.1)

within_append : (n : ℕ) (v w : List ℕ) → AreAtMost n v → AreAtMost n w → AreAtMost n (v ++ w)
within_append n [] w a b = b
within_append n (x ∷ v) w a b = (a.0, within_append n v w a.1 b)

filling_within : (n : ℕ) (pattern : List (List Bool)) (rows : List (List ℕ)) → AllFit n pattern rows → AreAtMost n (letters_of rows)
filling_within n [] [] f = tt
filling_within n [] (w ∷ rows) f = absurd f
filling_within n (line ∷ pattern) [] f = absurd f
filling_within n (line ∷ pattern) (w ∷ rows) f = within_append n w (letters_of rows) (word_within n line w f.0) (filling_within n pattern rows f.1)

pub pair-skew_schur : (n : ℕ) (outer inner : List ℕ) (χ : List ℕ → ℤ) → pair (skew_schur outer inner n) χ ≡ total (λ (T : List (List ℕ)). χ (content n (letters_of T))) (tableaux n outer inner)
pair-skew_schur n outer inner χ =
    total_map (λ (t : Term). t.1 *ℤ χ t.0) (λ (T : List (List ℕ)). (content n (letters_of T), pos 1)) (tableaux n outer inner)
    ∙ total_ext (λ (T : List (List ℕ)). pos 1 *ℤ χ (content n (letters_of T))) (λ (T : List (List ℕ)). χ (content n (letters_of T))) (λ T. one-product (χ (content n (letters_of T)))) (tableaux n outer inner)

restricted_sum : (k n : ℕ) (outer inner : List ℕ) (φ : List ℕ → ℤ) → k ≤ n → Falls inner → contains outer inner ≡ true
    → total (λ (T : List (List ℕ)). cond (fits_in k (content n (letters_of T))) (φ (resize k (content n (letters_of T)))) (pos 0)) (tableaux n outer inner)
    ≡ total (λ (T : List (List ℕ)). φ (content k (letters_of T))) (tableaux k outer inner)
restricted_sum k n outer inner φ h falls holds =
    total_tableaux n outer inner (λ (T : List (List ℕ)). summand (content n (letters_of T))) (λ (R : List (List ℕ)). summand (content n (letters_of R))) falls holds
    (λ T m. ap summand (sym (content-padded n inner T)))
    ∙ total_among (of_tableaux (λ (R : List (List ℕ)). summand (content n (letters_of R))))
    (λ (R : List (List ℕ)). cond (are_up_to k (letters_of R)) (of_tableaux (λ (S : List (List ℕ)). φ (content k (letters_of S))) R) (pos 0)) (fillings_over n (pattern_of outer inner))
    (λ R m. ap₂ (λ (b : Bool) (κ : List ℕ). cond (is_padded_tableau R) (cond b (φ κ) (pos 0)) (pos 0))
    (fits_in-content k n (letters_of R) h (filling_within n (pattern_of outer inner) R (filling_tells n (pattern_of outer inner) R m)))
    (resize-content k n (letters_of R) h)
    ∙ tests_exchanged (is_padded_tableau R) (are_up_to k (letters_of R)) (φ (content k (letters_of R))))
    ∙ total_up_to k n (pattern_of outer inner) (of_tableaux (λ (S : List (List ℕ)). φ (content k (letters_of S)))) h
    ∙ sym (total_tableaux k outer inner (λ (T : List (List ℕ)). φ (content k (letters_of T))) (λ (R : List (List ℕ)). φ (content k (letters_of R))) falls holds
    (λ T m. ap φ (sym (content-padded k inner T))))
  where
    summand : List ℕ → ℤ
    summand κ = cond (fits_in k κ) (φ (resize k κ)) (pos 0)

pub restrict-skew_schur : (outer inner : List ℕ) (k n : ℕ) → k ≤ n → IsPartition inner → Same (restrict k (skew_schur outer inner n)) (skew_schur outer inner k)
restrict-skew_schur outer inner k n h i =
    same_from_pair (restrict k (skew_schur outer inner n)) (skew_schur outer inner k) (λ φ.
    pair_restrict k (skew_schur outer inner n) φ
    ∙ pair-skew_schur n outer inner (λ α. cond (fits_in k α) (φ (resize k α)) (pos 0))
    ∙ by φ (cases_Bool (contains outer inner))
    ∙ sym (pair-skew_schur k outer inner φ))
  where
    none : (m : ℕ) (f : List (List ℕ) → ℤ) → contains outer inner ≡ false → total f (tableaux m outer inner) ≡ pos 0
    none m f e = ap (λ (b : Bool). total f (cond b (filter (semistandard inner) (fillings_of m (row_lengths outer inner))) [])) e

    by : (φ : List ℕ → ℤ) → (contains outer inner ≡ true) ⊎ (contains outer inner ≡ false)
        → total (λ (T : List (List ℕ)). cond (fits_in k (content n (letters_of T))) (φ (resize k (content n (letters_of T)))) (pos 0)) (tableaux n outer inner)
        ≡ total (λ (T : List (List ℕ)). φ (content k (letters_of T))) (tableaux k outer inner)
    by φ (inl e) = restricted_sum k n outer inner φ h i.falls e
    by φ (inr e) = none n (λ (T : List (List ℕ)). cond (fits_in k (content n (letters_of T))) (φ (resize k (content n (letters_of T)))) (pos 0)) e ∙ sym (none k (λ (T : List (List ℕ)). φ (content k (letters_of T))) e)
