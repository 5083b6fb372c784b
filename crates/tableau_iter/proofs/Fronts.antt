-- How the code of walk.rt finds the next word, in lexicographic order, in which each letter fits: it keeps the letters before an index and replaces
-- the later ones. A *position* has the current word and the data that decide which letters fit.
use Rattle.std.proofs.Common.{◌≡◌, ℕ, suc, ◌+◌, ◌-◌, ◌<◌, ◌≤◌, Bool, true, false, List, [], ◌∷◌, ◌++◌, length, take, drop, get_or, ◌∙◌, ap, ap₂, sym, refl, subst, inl, inr, arith}
use Rattle.std.proofs.lemmas.Bool.{cases_lt}
use Rattle.std.proofs.lemmas.List.{length-drop, length-take, take_more, take-take, take_all, get_or-take, nil_from_length, drop_more}
use Rattle.std.specs.Bool.{OnTrue, OnFalse}
use Rattle.tableau_iter.specs.Walks.{completions, continued, later}
use Rattle.tableau_iter.specs.Fits.{all_fit}
use Rattle.tableau_iter.specs.Positions.{Position, Setting, fits_in, passes, IsSameUpTo, Begins}
use Rattle.tableau_iter.proofs.Walking.{completions-first, continued-found, continued-none, continued-passed, continued-skip, misfit, later-same, later-greater, later-none, completions-end}
use Rattle.std.proofs.Math.Seq.{get_or-append_seam}

pub IsSameUpTo-then : (place : ℕ) (p q r : Position) → IsSameUpTo place p q → IsSameUpTo place q r → IsSameUpTo place p r
IsSameUpTo-then place p q r a b = record {
  setting = b.setting ∙ a.setting;
  length = b.length ∙ a.length;
  front = b.front ∙ a.front;
}

take-less : (i k : ℕ) (xs ys : List ℕ) → i ≤ k → take k xs ≡ take k ys → take i xs ≡ take i ys
take-less i k xs ys h e = sym (take-take i k xs h) ∙ ap (take i) e ∙ take-take i k ys h

pub IsSameUpTo-less : (i k : ℕ) (p q : Position) → i ≤ k → IsSameUpTo k p q → IsSameUpTo i p q
IsSameUpTo-less i k p q h a = record {
  setting = a.setting;
  length = a.length;
  front = take-less i k q.word p.word h a.front;
}

pub passes-same : (place : ℕ) (p q : Position) → IsSameUpTo place p q → passes q ≡ passes p
passes-same place p q s = ap (λ (t : Setting). λ (w : List ℕ). all_fit (fits_in t) [] w) s.setting

letters-same : (place : ℕ) (p q : Position) → IsSameUpTo place p q → q.setting.letters ≡ p.setting.letters
letters-same place p q s = ap (λ (t : Setting). t.letters) s.setting

completions-same :
    (t u : List ℕ → Bool) (k m n o : ℕ) (f g : List ℕ) → t ≡ u → k ≡ m → n ≡ o → f ≡ g → completions t k n f ≡ completions u m o g
completions-same t u k m n o f g a b c d =
    ap (λ t. completions t k n f) a ∙ ap₂ (λ k n. completions u k n f) b c ∙ ap (completions u m o) d

continued-same :
    (t u : List ℕ → Bool) (k m n o a : ℕ) (f g : List ℕ) → t ≡ u → k ≡ m → n ≡ o → f ≡ g → continued t k n f a ≡ continued u m o g a
continued-same t u k m n o a f g h i j l =
    ap (λ t. continued t k n f a) h ∙ ap₂ (λ k n. continued u k n f a) i j ∙ ap (λ f. continued u m o f a) l

later-equal :
    (t u : List ℕ → Bool) (k m : ℕ) (f g v w : List ℕ) → t ≡ u → k ≡ m → f ≡ g → v ≡ w → later t k f v ≡ later u m g w
later-equal t u k m f g v w a b c d =
    ap (λ t. later t k f v) a ∙ ap (λ k. later u k f v) b ∙ ap₂ (λ f v. later u m f v) c d

begins-as :
    (place : ℕ) (p q : Position) (list : List (List ℕ)) (front w : List ℕ) → Begins place q list
    → passes q ≡ passes p → q.setting.letters ≡ p.setting.letters → take place q.word ≡ front → drop place q.word ≡ w
    → list ≡ w ∷ later (passes p) p.setting.letters front w
begins-as place p q list front w b t k f d =
    b ∙ ap₂ (λ x xs. x ∷ xs) d (later-equal (passes q) (passes p) q.setting.letters p.setting.letters (take place q.word) front (drop place q.word) w t k f d)

begins-from :
    (place : ℕ) (p q : Position) (list : List (List ℕ)) (front w : List ℕ) → list ≡ w ∷ later (passes p) p.setting.letters front w
    → passes q ≡ passes p → q.setting.letters ≡ p.setting.letters → take place q.word ≡ front → drop place q.word ≡ w → Begins place q list
begins-from place p q list front w e t k f d =
    e ∙ sym (ap₂ (λ x xs. x ∷ xs) d (later-equal (passes q) (passes p) q.setting.letters p.setting.letters (take place q.word) front (drop place q.word) w t k f d))

letter_at : (word front : List ℕ) (place a : ℕ) → place < length word → length front ≡ place → take (place + 1) word ≡ front ++ a ∷ [] → get_or word place 0 ≡ a
letter_at word front place a h l e =
    let next : place < place + 1 = omega arith in
    sym (get_or-take (place + 1) word place 0 next) ∙ ap (λ xs. get_or xs place 0) e
    ∙ ap (λ n. get_or (front ++ a ∷ []) n 0) (sym l) ∙ get_or-append_seam front a [] 0

-- ---- letters tried at an index one after another

skipped :
    (old : Position) (place tried letter : ℕ) (list : List (List ℕ)) → tried < letter → letter ≤ old.setting.letters
    → ((b : ℕ) → tried < b → b < letter → (fits_in old.setting) (take place old.word) b ≡ false)
    → list ≡ continued (passes old) old.setting.letters (length old.word - (place + 1)) (take place old.word) tried
    → list ≡ continued (passes old) old.setting.letters (length old.word - (place + 1)) (take place old.word) (letter - 1)
skipped old place tried letter list h l skip is =
    is
    ∙ continued-skip (passes old) old.setting.letters (length old.word - (place + 1)) (take place old.word) tried (letter - 1 - tried) (letter - 1) (omega arith) (omega arith)
    (λ b m n. misfit (fits_in old.setting) old.setting.letters (length old.word - (place + 1)) (take place old.word) b (skip b m (omega arith)))

pub tried-found :
    (old b put new : Position) (place tried letter : ℕ) (list : List (List ℕ)) → place < length old.word → tried < letter → letter ≤ old.setting.letters
    → ((c : ℕ) → tried < c → c < letter → (fits_in old.setting) (take place old.word) c ≡ false)
    → IsSameUpTo place old b → IsSameUpTo place b put → take (place + 1) put.word ≡ take place b.word ++ letter ∷ [] → IsSameUpTo (place + 1) put new
    → Begins (place + 1) new (completions (passes put) put.setting.letters (length put.word - (place + 1)) (take (place + 1) put.word))
    → list ≡ continued (passes old) old.setting.letters (length old.word - (place + 1)) (take place old.word) tried
    → Begins place new list
tried-found old b put new place tried letter list h m l skip s sp e n found is =
    let t = letter - 1 in
    let up : letter ≡ letter - 1 + 1 = omega arith in
    let so = IsSameUpTo-then place old b put s sp in
    let sn = IsSameUpTo-then place old put new so (IsSameUpTo-less place (place + 1) put new (omega arith) n) in
    let front = take place old.word in
    let w = drop (place + 1) new.word in
    let long : length new.word ≡ length old.word = sn.length in
    let put_front : take (place + 1) put.word ≡ take place old.word ++ (letter - 1 + 1) ∷ [] =
    e ∙ ap₂ (λ xs a. xs ++ a ∷ []) s.front up in
    let new_front : take (place + 1) new.word ≡ take place old.word ++ (letter - 1 + 1) ∷ [] = n.front ∙ put_front in
    let count : length (take place old.word) ≡ place = omega (arith, length-take place old.word) in
    let within : place < length new.word = omega arith in
    let at = letter_at new.word front place (t + 1) within count new_front in
    let size : length put.word - (place + 1) ≡ length old.word - (place + 1) = omega (arith, so.length) in
    let rest : length w ≡ length old.word - (place + 1) = omega (arith, length-drop (place + 1) new.word) in
    let inner =
    sym (completions-same (passes put) (passes old) put.setting.letters old.setting.letters (length put.word - (place + 1)) (length old.word - (place + 1))
    (take (place + 1) put.word) (take place old.word ++ (letter - 1 + 1) ∷ []) (passes-same place old put so) (letters-same place old put so) size put_front)
    ∙ begins-as (place + 1) old new _ (front ++ (t + 1) ∷ []) w found (passes-same place old new sn) (letters-same place old new sn) new_front refl in
    let outer =
    skipped old place tried letter list m l skip is
    ∙ continued-found (passes old) old.setting.letters (length old.word - (place + 1)) front w t (omega arith) rest inner in
    begins-from place old new list front ((t + 1) ∷ w) outer (passes-same place old new sn) (letters-same place old new sn) sn.front
    (drop_more new.word place 0 within ∙ ap (λ a. a ∷ w) at)

pub tried-none :
    (old b put : Position) (place tried letter : ℕ) (list : List (List ℕ)) → place < length old.word → tried < letter → letter ≤ old.setting.letters
    → ((c : ℕ) → tried < c → c < letter → (fits_in old.setting) (take place old.word) c ≡ false)
    → IsSameUpTo place old b → IsSameUpTo place b put → take (place + 1) put.word ≡ take place b.word ++ letter ∷ []
    → completions (passes put) put.setting.letters (length put.word - (place + 1)) (take (place + 1) put.word) ≡ []
    → list ≡ continued (passes old) old.setting.letters (length old.word - (place + 1)) (take place old.word) tried
    → list ≡ continued (passes old) old.setting.letters (length old.word - (place + 1)) (take place old.word) letter
tried-none old b put place tried letter list h m l skip s sp e none is =
    let up : letter ≡ letter - 1 + 1 = omega arith in
    let so = IsSameUpTo-then place old b put s sp in
    let put_front : take (place + 1) put.word ≡ take place old.word ++ (letter - 1 + 1) ∷ [] =
    e ∙ ap₂ (λ xs a. xs ++ a ∷ []) s.front up in
    let size : length put.word - (place + 1) ≡ length old.word - (place + 1) = omega (arith, so.length) in
    skipped old place tried letter list m l skip is
    ∙ continued-passed (passes old) old.setting.letters (length old.word - (place + 1)) (take place old.word) (letter - 1) (omega arith)
    (sym (completions-same (passes put) (passes old) put.setting.letters old.setting.letters (length put.word - (place + 1)) (length old.word - (place + 1))
    (take (place + 1) put.word) (take place old.word ++ (letter - 1 + 1) ∷ []) (passes-same place old put so) (letters-same place old put so) size put_front)
    ∙ none)
    ∙ ap (continued (passes old) old.setting.letters (length old.word - (place + 1)) (take place old.word)) (sym up)

-- if no letter greater than `tried` fits at `place`, no word that fits has the letters of `old` before `place` and a letter greater than `tried` at
-- `place`
pub tried-all :
    (old : Position) (place tried : ℕ) (list : List (List ℕ))
    → ((c : ℕ) → tried < c → c ≤ old.setting.letters → (fits_in old.setting) (take place old.word) c ≡ false)
    → list ≡ continued (passes old) old.setting.letters (length old.word - (place + 1)) (take place old.word) tried → list ≡ []
tried-all old place tried list skip is = elim (cases_lt tried old.setting.letters) [
  | inr h ↦ is ∙ continued-none (passes old) old.setting.letters (length old.word - (place + 1)) (take place old.word) tried h
  | inl h ↦
      is
      ∙ continued-skip (passes old) old.setting.letters (length old.word - (place + 1)) (take place old.word) tried (old.setting.letters - tried) old.setting.letters (omega arith) (omega arith)
      (λ b m n. misfit (fits_in old.setting) old.setting.letters (length old.word - (place + 1)) (take place old.word) b (skip b m n))
      ∙ continued-none (passes old) old.setting.letters (length old.word - (place + 1)) (take place old.word) old.setting.letters (omega arith)
]

pub end-found :
    (old new : Position) (place : ℕ) → place ≡ length old.word → new ≡ old → passes old old.word ≡ true
    → Begins place new (completions (passes old) old.setting.letters (length old.word - place) (take place old.word))
end-found old new place e n t =
    let none : length old.word - place ≡ 0 = omega arith in
    let whole : take place old.word ≡ old.word = take_all place old.word (omega arith) in
    let over : drop place old.word ≡ [] = nil_from_length (drop place old.word) (omega (arith, length-drop place old.word)) in
    subst (λ (q : Position). Begins place q (completions (passes old) old.setting.letters (length old.word - place) (take place old.word))) (sym n)
    (begins-from place old old _ old.word []
    (ap₂ (λ n f. completions (passes old) old.setting.letters n f) none whole ∙ completions-end (passes old) old.setting.letters old.word t
    ∙ ap (λ l. [] ∷ l) (sym (later-none (passes old) old.setting.letters old.word)))
    refl refl whole over)

pub more-letters :
    (old : Position) (place : ℕ) → place < length old.word
    → completions (passes old) old.setting.letters (length old.word - place) (take place old.word)
    ≡ continued (passes old) old.setting.letters (length old.word - (place + 1)) (take place old.word) 0
more-letters old place h =
    let count : length old.word - place ≡ suc (length old.word - (place + 1)) = omega arith in
    ap (λ n. completions (passes old) old.setting.letters n (take place old.word)) count
    ∙ completions-first (passes old) old.setting.letters (length old.word - (place + 1)) (take place old.word)

-- ---- the search for the next word after the current one, from the last index to the first

pub next-end :
    (old : Position) (place : ℕ) → place ≡ length old.word → later (passes old) old.setting.letters (take place old.word) (drop place old.word) ≡ []
next-end old place e =
    ap (later (passes old) old.setting.letters (take place old.word)) (nil_from_length (drop place old.word) (omega (arith, length-drop place old.word)))
    ∙ later-none (passes old) old.setting.letters (take place old.word)

pub next-inside :
    (old new : Position) (place : ℕ) → place < length old.word → IsSameUpTo (place + 1) old new
    → Begins (place + 1) new (later (passes old) old.setting.letters (take (place + 1) old.word) (drop (place + 1) old.word))
    → Begins place new (later (passes old) old.setting.letters (take place old.word) (drop place old.word))
next-inside old new place h s found =
    let a = get_or old.word place 0 in
    let front = take place old.word in
    let v = drop (place + 1) old.word in
    let w = drop (place + 1) new.word in
    let less = IsSameUpTo-less place (place + 1) old new (omega arith) s in
    let within : place < length new.word = omega (arith, s.length) in
    let same = passes-same (place + 1) old new s in
    let new_front : take (place + 1) new.word ≡ take place old.word ++ get_or old.word place 0 ∷ [] = s.front ∙ take_more old.word place 0 h in
    let count : length (take place old.word) ≡ place = omega (arith, length-take place old.word) in
    let letter = letter_at new.word front place a within count new_front in
    let long : length v ≡ length w = omega (arith, length-drop (place + 1) old.word, length-drop (place + 1) new.word, s.length) in
    let inner =
    ap (λ f. later (passes old) old.setting.letters f v) (sym (take_more old.word place 0 h))
    ∙ begins-as (place + 1) old new _ (front ++ a ∷ []) w found same (letters-same (place + 1) old new s) new_front refl in
    begins-from place old new _ front (a ∷ w)
    (ap (later (passes old) old.setting.letters front) (drop_more old.word place 0 h) ∙ later-same (passes old) old.setting.letters front v w a long inner)
    same (letters-same (place + 1) old new s) less.front (drop_more new.word place 0 within ∙ ap (λ b. b ∷ w) letter)

-- let w be the word of `old`, and let no fitting word after w begin with w_0, .., w_place. Then the fitting words after w that begin with
-- w_0, .., w_(place - 1) are the fitting words that begin with these letters and have a letter greater than w_place at `place`
pub next-outside :
    (old b : Position) (place : ℕ) → place < length old.word → IsSameUpTo (place + 1) old b
    → later (passes old) old.setting.letters (take (place + 1) old.word) (drop (place + 1) old.word) ≡ []
    → later (passes old) old.setting.letters (take place old.word) (drop place old.word)
    ≡ continued (passes b) b.setting.letters (length b.word - (place + 1)) (take place b.word) (get_or old.word place 0)
next-outside old b place h s none =
    let a = get_or old.word place 0 in
    let front = take place old.word in
    let v = drop (place + 1) old.word in
    let less = IsSameUpTo-less place (place + 1) old b (omega arith) s in
    let long : length v ≡ length b.word - (place + 1) = omega (arith, length-drop (place + 1) old.word, s.length) in
    ap (later (passes old) old.setting.letters front) (drop_more old.word place 0 h)
    ∙ later-greater (passes old) old.setting.letters front v a (ap (λ f. later (passes old) old.setting.letters f v) (sym (take_more old.word place 0 h)) ∙ none)
    ∙ sym (continued-same (passes b) (passes old) b.setting.letters old.setting.letters (length b.word - (place + 1)) (length v) a (take place b.word) front
    (passes-same (place + 1) old b s) (letters-same (place + 1) old b s) (sym long) less.front)

-- let the words of `old`, b and `taken` begin with the same letters w_0, .., w_place, and let `letter` be w_place. If no fitting word after the word
-- of `old` begins with these letters, then the fitting words after it that begin with w_0, .., w_(place - 1) are those fitting words that begin with
-- w_0, .., w_(place - 1) and have a letter greater than `letter` at `place`
pub next-taken :
    (old b taken : Position) (place letter : ℕ) → place < length old.word → IsSameUpTo (place + 1) old b → IsSameUpTo (place + 1) b taken
    → letter ≡ get_or b.word place 0
    → later (passes old) old.setting.letters (take (place + 1) old.word) (drop (place + 1) old.word) ≡ []
    → later (passes old) old.setting.letters (take place old.word) (drop place old.word)
    ≡ continued (passes taken) taken.setting.letters (length taken.word - (place + 1)) (take place taken.word) letter
next-taken old b taken place letter h s u is none =
    let here : place < place + 1 = omega arith in
    let same : letter ≡ get_or old.word place 0 =
    is ∙ sym (get_or-take (place + 1) b.word place 0 here) ∙ ap (λ v. get_or v place 0) s.front ∙ get_or-take (place + 1) old.word place 0 here in
    next-outside old taken place h (IsSameUpTo-then (place + 1) old b taken s u) none
    ∙ ap (continued (passes taken) taken.setting.letters (length taken.word - (place + 1)) (take place taken.word)) (sym same)

pub from_true : (b : Bool) (P : Type 0) → OnTrue b P → b ≡ true → P
from_true true P h e = h
from_true false P h e = absurd (cc)

pub from_false : (b : Bool) (P : Type 0) → OnFalse b P → b ≡ false → P
from_false true P h e = absurd (cc)
from_false false P h e = h
