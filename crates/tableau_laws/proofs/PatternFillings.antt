-- The words over a line of booleans (`words_over`) are those with an allowed letter at each place: from 1 to n at a cell (true), and 0 outside the
-- shape (false). The fillings of a pattern, that is, of a list of lines, have such a word for each line. Each word and each filling is listed once.
use Rattle.std.proofs.Common.{◌≡◌, ℕ, suc, ◌<◌, ◌≤◌, Bool, true, false, List, [], ◌∷◌, map, length, sym, ap, ap₂, subst, refl, inl, inr, arith, flat_map}
use Rattle.sym_model.specs.Sum.{Among, Once}
use Rattle.sym_model.proofs.Sums.{Among-map, Among_from_map, Among-each, Among_from_each, Once-map, Once-each}
use Rattle.tableau_laws.specs.PaddedRows.{letters_at, words_over, fillings_over}
use Rattle.sym_model.proofs.AfterLists.{after_among, among_after, once_after}

-- the lists x ∷ rest with x from `firsts` and rest from `rests`
abbrev pub fronts : {A : Type 0} → List A → List (List A) → List (List A)
fronts {A} firsts rests = flat_map (λ (x : A). map (λ (ys : List A). x ∷ ys) rests) firsts

pub Among-fronts : {A : Type 0} (x : A) (ys : List A) (firsts : List A) (rests : List (List A)) → Among x firsts → Among ys rests → Among (x ∷ ys) (fronts firsts rests)
Among-fronts {A} x ys firsts rests m n =
    Among-each (λ (z : A). map (λ (zs : List A). z ∷ zs) rests) x (x ∷ ys) firsts m (Among-map (λ (zs : List A). x ∷ zs) ys rests n)

pub Among_from_fronts : {A : Type 0} (w : List A) (firsts : List A) (rests : List (List A)) → Among w (fronts firsts rests)
    → (x : A) × (ys : List A) × Among x firsts × Among ys rests × (w ≡ x ∷ ys)
Among_from_fronts {A} w firsts rests m =
    let r = Among_from_each (λ (z : A). map (λ (zs : List A). z ∷ zs) rests) w firsts m in
    let s = Among_from_map (λ (zs : List A). r.0 ∷ zs) w rests r.2 in
    (r.0, s.0, r.1, s.1, s.2)

pub Once-fronts : {A : Type 0} (firsts : List A) (rests : List (List A)) → Once firsts → Once rests → Once (fronts firsts rests)
Once-fronts {A} firsts rests o p =
    Once-each (λ (z : A). map (λ (zs : List A). z ∷ zs) rests) firsts o
    (λ x m. Once-map (λ (zs : List A). x ∷ zs) rests (λ u v k l e. cc) p)
    (λ x z w m n k l. same_first x z w k l)
  where
    same_first : (x z : A) (w : List A) → Among w (map (λ (zs : List A). x ∷ zs) rests) → Among w (map (λ (zs : List A). z ∷ zs) rests) → x ≡ z
    same_first x z w k l =
        let r = Among_from_map (λ (zs : List A). x ∷ zs) w rests k in
        let s = Among_from_map (λ (zs : List A). z ∷ zs) w rests l in
        let d : w ≡ x ∷ r.0 = r.2 in
        let e : w ≡ z ∷ s.0 = s.2 in
        cc

-- the letter a is allowed at a place: it is from 1 to n if the place is a cell (true), and 0 if it is outside the shape (false)
abbrev pub MayStand : ℕ → Bool → ℕ → Type 0
MayStand n true a = (0 < a) × (a ≤ n)
MayStand n false a = a ≡ 0

-- the word w is as long as the line and has an allowed letter (`MayStand`) at each place
abbrev pub Fits : ℕ → List Bool → List ℕ → Type 0
Fits n [] [] = Unit {0}
Fits n [] (a ∷ w) = ⊥
Fits n (p ∷ line) [] = ⊥
Fits n (p ∷ line) (a ∷ w) = MayStand n p a × Fits n line w

letter_tells : (n : ℕ) (p : Bool) (a : ℕ) → Among a (letters_at n p) → MayStand n p a
letter_tells n true a m = let h = after_among 0 n a m in (h.0, omega arith)
letter_tells n false a (inl e) = e
letter_tells n false a (inr m) = absurd m

letter_from : (n : ℕ) (p : Bool) (a : ℕ) → MayStand n p a → Among a (letters_at n p)
letter_from n true a h = let l = h.1 in among_after 0 n a h.0 (omega arith)
letter_from n false a h = inl h

letters_once : (n : ℕ) (p : Bool) → Once (letters_at n p)
letters_once n true = once_after 0 n
letters_once n false = ((λ m. m), tt)

pub word_tells : (n : ℕ) (line : List Bool) (w : List ℕ) → Among w (words_over n line) → Fits n line w
word_tells n [] w (inl e) = subst (λ v. Fits n [] v) (sym e) tt
word_tells n [] w (inr m) = absurd m
word_tells n (p ∷ line) w m =
    let r = Among_from_fronts w (letters_at n p) (words_over n line) m in
    subst (λ v. Fits n (p ∷ line) v) (sym r.4) (letter_tells n p r.0 r.2, word_tells n line r.1 r.3)

pub word_from : (n : ℕ) (line : List Bool) (w : List ℕ) → Fits n line w → Among w (words_over n line)
word_from n [] [] f = inl refl
word_from n [] (a ∷ w) f = absurd f
word_from n (p ∷ line) [] f = absurd f
word_from n (p ∷ line) (a ∷ w) f = Among-fronts a w (letters_at n p) (words_over n line) (letter_from n p a f.0) (word_from n line w f.1)

pub words_once : (n : ℕ) (line : List Bool) → Once (words_over n line)
words_once n [] = ((λ m. m), tt)
words_once n (p ∷ line) = Once-fronts (letters_at n p) (words_over n line) (letters_once n p) (words_once n line)

pub fits_length : (n : ℕ) (line : List Bool) (w : List ℕ) → Fits n line w → length w ≡ length line
fits_length n [] [] f = refl
fits_length n [] (a ∷ w) f = absurd f
fits_length n (p ∷ line) [] f = absurd f
fits_length n (p ∷ line) (a ∷ w) f = ap suc (fits_length n line w f.1)

-- the filling has one word for each line of the pattern, and each word fits its line (`Fits`)
abbrev pub AllFit : ℕ → List (List Bool) → List (List ℕ) → Type 0
AllFit n [] [] = Unit {0}
AllFit n [] (w ∷ ws) = ⊥
AllFit n (line ∷ pattern) [] = ⊥
AllFit n (line ∷ pattern) (w ∷ ws) = Fits n line w × AllFit n pattern ws

pub filling_tells : (n : ℕ) (pattern : List (List Bool)) (ws : List (List ℕ)) → Among ws (fillings_over n pattern) → AllFit n pattern ws
filling_tells n [] ws (inl e) = subst (λ v. AllFit n [] v) (sym e) tt
filling_tells n [] ws (inr m) = absurd m
filling_tells n (line ∷ pattern) ws m =
    let r = Among_from_fronts ws (words_over n line) (fillings_over n pattern) m in
    subst (λ v. AllFit n (line ∷ pattern) v) (sym r.4) (word_tells n line r.0 r.2, filling_tells n pattern r.1 r.3)

pub filling_from : (n : ℕ) (pattern : List (List Bool)) (ws : List (List ℕ)) → AllFit n pattern ws → Among ws (fillings_over n pattern)
filling_from n [] [] f = inl refl
filling_from n [] (w ∷ ws) f = absurd f
filling_from n (line ∷ pattern) [] f = absurd f
filling_from n (line ∷ pattern) (w ∷ ws) f = Among-fronts w ws (words_over n line) (fillings_over n pattern) (word_from n line w f.0) (filling_from n pattern ws f.1)

pub fillings_once : (n : ℕ) (pattern : List (List Bool)) → Once (fillings_over n pattern)
fillings_once n [] = ((λ m. m), tt)
fillings_once n (line ∷ pattern) = Once-fronts (words_over n line) (fillings_over n pattern) (words_once n line) (fillings_once n pattern)

pub filling_lengths : (n : ℕ) (pattern : List (List Bool)) (ws : List (List ℕ)) → AllFit n pattern ws → map length ws ≡ map length pattern
filling_lengths n [] [] f = refl
filling_lengths n [] (w ∷ ws) f = absurd f
filling_lengths n (line ∷ pattern) [] f = absurd f
filling_lengths n (line ∷ pattern) (w ∷ ws) f = ap₂ ◌∷◌ (fits_length n line w f.0) (filling_lengths n pattern ws f.1)
