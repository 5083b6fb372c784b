-- The words that continue a prefix and pass a test, listed by their first letter.
use Rattle.std.proofs.Common.{◌≡◌, ℕ, zero, suc, ◌+◌, ◌-◌, ◌<◌, ◌≤◌, Bool, true, false, ◌&&◌, cond, List, [], ◌∷◌, ◌++◌, map, length, ◌∙◌, ap, ap₂, sym, refl, arith, append_assoc, append-nil, filter, flat_map}
use Rattle.sym_model.specs.Partition.{after}
use Rattle.sym_model.specs.Schur.{words}
use Rattle.sym_model.proofs.Lists.{select-each, select-map, select-ext, each-ext}
use Rattle.tableau_iter.specs.Fits.{all_fit}
use Rattle.tableau_iter.specs.Walks.{completions, continued, later}
use Rattle.std.proofs.Math.Bool.{and-false, and_assoc}

pub select-select : {A : Type 0} (f g : A → Bool) (xs : List A) → filter g (filter f xs) ≡ filter (λ (x : A). f x && g x) xs
select-select f g [] = refl
select-select f g (x ∷ xs) = by (f x) (select-select f g xs)
  where
    by : (b : Bool) → filter g (filter f xs) ≡ filter (λ x. f x && g x) xs
        → filter g (cond b (x ∷ filter f xs) (filter f xs)) ≡ cond (b && g x) (x ∷ filter (λ x. f x && g x) xs) (filter (λ x. f x && g x) xs)
    by true e = ap (λ l. cond (g x) (x ∷ l) l) e
    by false e = e

-- the words of n + 1 letters that complete the prefix `front` are those with a first letter greater than 0
pub completions-first :
    (test : List ℕ → Bool) (k n : ℕ) (front : List ℕ) → completions test k (suc n) front ≡ continued test k n front 0
completions-first test k n front =
    let all : k ≡ k - 0 = omega arith in
    let passes = λ (w : List ℕ). test (front ++ w) in
    select-each passes (λ a. map (λ w. a ∷ w) (words k n)) (after 0 k)
    ∙ each-ext (λ a. filter passes (map (λ w. a ∷ w) (words k n))) (λ b. map (λ w. b ∷ w) (completions test k n (front ++ b ∷ []))) (after 0 k)
    (λ a.
    select-map passes (λ w. a ∷ w) (words k n)
    ∙ ap (map (λ w. a ∷ w))
    (select-ext (λ w. test (front ++ (a ∷ w))) (λ w. test ((front ++ a ∷ []) ++ w)) (words k n)
    (λ w. ap test (sym (append_assoc front (a ∷ []) w)))))
    ∙ ap (λ m. flat_map (λ b. map (λ w. b ∷ w) (completions test k n (front ++ b ∷ []))) (after 0 m)) all

-- for a < k, the words that continue `front` with a first letter greater than a are those with the first letter a + 1, followed by those with a
-- greater one
pub continued-next :
    (test : List ℕ → Bool) (k n : ℕ) (front : List ℕ) (a : ℕ) → a < k
    → continued test k n front a
    ≡ map (λ w. (a + 1) ∷ w) (completions test k n (front ++ (a + 1) ∷ [])) ++ continued test k n front (a + 1)
continued-next test k n front a h =
    let count : k - a ≡ suc (k - (a + 1)) = omega arith in
    ap (λ m. flat_map (λ b. map (λ w. b ∷ w) (completions test k n (front ++ b ∷ []))) (after a m)) count

pub continued-none : (test : List ℕ → Bool) (k n : ℕ) (front : List ℕ) (a : ℕ) → k ≤ a → continued test k n front a ≡ []
continued-none test k n front a h =
    let count : k - a ≡ 0 = omega arith in
    ap (λ m. flat_map (λ b. map (λ w. b ∷ w) (completions test k n (front ++ b ∷ []))) (after a m)) count

-- if w is the first word that completes `front` followed by a + 1, the words that continue `front` with a first letter greater than a are (a + 1) ∷ w
-- and the words after it (`later`)
pub continued-found :
    (test : List ℕ → Bool) (k n : ℕ) (front w : List ℕ) (a : ℕ) → a < k → length w ≡ n
    → completions test k n (front ++ (a + 1) ∷ []) ≡ w ∷ later test k (front ++ (a + 1) ∷ []) w
    → continued test k n front a ≡ ((a + 1) ∷ w) ∷ later test k front ((a + 1) ∷ w)
unfolding later
continued-found test k n front w a h l e =
    continued-next test k n front a h
    ∙ ap (λ xs. map (λ w. (a + 1) ∷ w) xs ++ continued test k n front (a + 1)) e
    ∙ ap (λ m. ((a + 1) ∷ w) ∷ (map (λ w. (a + 1) ∷ w) (later test k (front ++ (a + 1) ∷ []) w) ++ continued test k m front (a + 1))) (sym l)

pub continued-passed :
    (test : List ℕ → Bool) (k n : ℕ) (front : List ℕ) (a : ℕ) → a < k → completions test k n (front ++ (a + 1) ∷ []) ≡ []
    → continued test k n front a ≡ continued test k n front (a + 1)
continued-passed test k n front a h e =
    continued-next test k n front a h ∙ ap (λ xs. map (λ w. (a + 1) ∷ w) xs ++ continued test k n front (a + 1)) e

pub later-same :
    (test : List ℕ → Bool) (k : ℕ) (front w v : List ℕ) (a : ℕ) → length w ≡ length v
    → later test k (front ++ a ∷ []) w ≡ v ∷ later test k (front ++ a ∷ []) v
    → later test k front (a ∷ w) ≡ (a ∷ v) ∷ later test k front (a ∷ v)
unfolding later
later-same test k front w v a l e =
    ap (λ xs. map (λ w. a ∷ w) xs ++ continued test k (length w) front a) e
    ∙ ap (λ m. (a ∷ v) ∷ (map (λ w. a ∷ w) (later test k (front ++ a ∷ []) v) ++ continued test k m front a)) l

pub later-greater :
    (test : List ℕ → Bool) (k : ℕ) (front w : List ℕ) (a : ℕ) → later test k (front ++ a ∷ []) w ≡ []
    → later test k front (a ∷ w) ≡ continued test k (length w) front a
unfolding later
later-greater test k front w a e = ap (λ xs. map (λ w. a ∷ w) xs ++ continued test k (length w) front a) e

pub later-none : (test : List ℕ → Bool) (k : ℕ) (front : List ℕ) → later test k front [] ≡ []
unfolding later
later-none test k front = refl

pub completions-end :
    (test : List ℕ → Bool) (k : ℕ) (front : List ℕ) → test front ≡ true → completions test k 0 front ≡ [] ∷ []
completions-end test k front e = ap (λ b. cond b ([] ∷ []) []) (ap test (append-nil front) ∙ e)

-- ---- words with a letter that does not fit after the letters before it

pub all_fit-append :
    (fits : List ℕ → ℕ → Bool) (front v w : List ℕ) → all_fit fits front (v ++ w) ≡ (all_fit fits front v && all_fit fits (front ++ v) w)
all_fit-append fits front [] w = ap (λ f. all_fit fits f w) (sym (append-nil front))
all_fit-append fits front (a ∷ v) w =
    ap (λ b. fits front a && b) (all_fit-append fits (front ++ a ∷ []) v w)
    ∙ sym (and_assoc (fits front a) (all_fit fits (front ++ a ∷ []) v) (all_fit fits ((front ++ a ∷ []) ++ v) w))
    ∙ ap (λ f. (fits front a && all_fit fits (front ++ a ∷ []) v) && all_fit fits f w) (append_assoc front (a ∷ []) v)

pub all_fit-one :
    (fits : List ℕ → ℕ → Bool) (front : List ℕ) (a : ℕ) → all_fit fits [] front ≡ true → fits front a ≡ true → all_fit fits [] (front ++ a ∷ []) ≡ true
all_fit-one fits front a e f = all_fit-append fits [] front (a ∷ []) ∙ ap₂ (λ x y. x && (y && true)) e f

pub misfit :
    (fits : List ℕ → ℕ → Bool) (k n : ℕ) (front : List ℕ) (b : ℕ) → fits front b ≡ false → completions (all_fit fits []) k n (front ++ b ∷ []) ≡ []
misfit fits k n front b e =
    none (λ w. all_fit fits [] ((front ++ b ∷ []) ++ w)) (words k n)
    (λ w.
    all_fit-append fits [] (front ++ b ∷ []) w
    ∙ ap (λ x. x && all_fit fits (front ++ b ∷ []) w)
    (all_fit-append fits [] front (b ∷ []) ∙ ap (λ y. all_fit fits [] front && (y && true)) e ∙ and-false (all_fit fits [] front)))
  where
    none : (test : List ℕ → Bool) (xs : List (List ℕ)) → ((w : List ℕ) → test w ≡ false) → filter test xs ≡ []
    none test [] h = refl
    none test (x ∷ xs) h = ap (λ b. cond b (x ∷ filter test xs) (filter test xs)) (h x) ∙ none test xs h

pub continued-skip :
    (test : List ℕ → Bool) (k n : ℕ) (front : List ℕ) (a gap c : ℕ) → a + gap ≡ c → c ≤ k
    → ((b : ℕ) → a < b → b ≤ c → completions test k n (front ++ b ∷ []) ≡ []) → continued test k n front a ≡ continued test k n front c
continued-skip test k n front a zero c e h none =
    let same : a ≡ c = omega arith in
    ap (continued test k n front) same
continued-skip test k n front a (suc gap) c e h none =
    continued-passed test k n front a (omega arith) (none (a + 1) (omega arith) (omega arith))
    ∙ continued-skip test k n front (a + 1) gap c (omega arith) h (λ b l m. none b (omega arith) m)
