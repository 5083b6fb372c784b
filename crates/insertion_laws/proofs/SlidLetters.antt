-- If the letters of a tableau are positive, so are the letters of the rows after a slide.
use Rattle.std.proofs.Common.{◌≡◌, ℕ, ◌+◌, Bool, true, false, cond, nat_le, List, [], ◌∷◌, ◌++◌, length, take, drop, ◌∙◌, ap, sym, refl, subst}
use Rattle.std.proofs.lemmas.Bool.{and_parts, and_from}
use Rattle.std.proofs.lemmas.List.{take-append-drop}
use Rattle.sym_model.specs.Schur.{letters_of}
use Rattle.sym_model.specs.Slide.{slid_rows}
use Rattle.sym_model.specs.Tableau.{are_letters}
use Rattle.sym_model.proofs.Tableaux.{are_letters-append}
use Rattle.insertion_laws.proofs.SlideSteps.{place_below, moved}

letters-parts : (v w : List ℕ) → are_letters (v ++ w) ≡ true → (are_letters v ≡ true) × (are_letters w ≡ true)
letters-parts [] w h = (refl, h)
letters-parts (a ∷ v) w h =
    let p = and_parts (nat_le 1 a) (are_letters (v ++ w)) h in
    let q = letters-parts v w p.1 in
    (and_from (nat_le 1 a) (are_letters v) p.0 q.0, q.1)

pub letters-taken : (n : ℕ) (w : List ℕ) → are_letters w ≡ true → are_letters (take n w) ≡ true
letters-taken n w h = (letters-parts (take n w) (drop n w) (ap are_letters (take-append-drop n w) ∙ h)).0

letters-dropped : (n : ℕ) (w : List ℕ) → are_letters w ≡ true → are_letters (drop n w) ≡ true
letters-dropped n w h = (letters-parts (take n w) (drop n w) (ap are_letters (take-append-drop n w) ∙ h)).1

-- all letters of all rows are positive
abbrev pub AreLetters : List (List ℕ) → Type 0
AreLetters rows = are_letters (letters_of rows) ≡ true

pub AreLetters-append : (v w : List (List ℕ)) → AreLetters v → AreLetters w → AreLetters (v ++ w)
AreLetters-append [] w p q = q
AreLetters-append (row ∷ v) w p q =
    let h = letters-parts row (letters_of v) p in
    are_letters-append row (letters_of (v ++ w)) h.0 (AreLetters-append v w h.1 q)

pub AreLetters-parts : (v w : List (List ℕ)) → AreLetters (v ++ w) → AreLetters v × AreLetters w
AreLetters-parts [] w h = (refl, h)
AreLetters-parts (row ∷ v) w h =
    let p = letters-parts row (letters_of (v ++ w)) h in
    let q = AreLetters-parts v w p.1 in
    (are_letters-append row (letters_of v) p.0 q.0, q.1)

pub AreLetters-taken : (n : ℕ) (rows : List (List ℕ)) → AreLetters rows → AreLetters (take n rows)
AreLetters-taken n rows h = (AreLetters-parts (take n rows) (drop n rows) (subst AreLetters (sym (take-append-drop n rows)) h)).0

pub AreLetters-dropped : (n : ℕ) (rows : List (List ℕ)) → AreLetters rows → AreLetters (drop n rows)
AreLetters-dropped n rows h = (AreLetters-parts (take n rows) (drop n rows) (subst AreLetters (sym (take-append-drop n rows)) h)).1

either_rows : (b : Bool) (v w : List (List ℕ)) → AreLetters v → AreLetters w → AreLetters (cond b v w)
either_rows true v w p q = p
either_rows false v w p q = q

pub slid-letters :
    (below : List (List ℕ)) (inner left right : List ℕ) → are_letters left ≡ true → are_letters right ≡ true → AreLetters below
    → AreLetters (slid_rows inner left right below)
slid-letters [] inner left right p q h = are_letters-append (left ++ right) [] (are_letters-append left right p q) refl
slid-letters (row ∷ below) inner left right p q h =
    let m = moved inner left right row in
    let n = place_below inner left + m in
    let here = letters-parts row (letters_of below) h in
    are_letters-append (left ++ (take m right ++ (take 1 (drop n row) ++ drop m right)))
    (letters_of (cond (nat_le (length row) n) (row ∷ below) (slid_rows (drop 1 inner) (take n row) (drop (n + 1) row) below)))
    (are_letters-append left (take m right ++ (take 1 (drop n row) ++ drop m right)) p
    (are_letters-append (take m right) (take 1 (drop n row) ++ drop m right) (letters-taken m right q)
    (are_letters-append (take 1 (drop n row)) (drop m right) (letters-taken 1 (drop n row) (letters-dropped n row here.0)) (letters-dropped m right q))))
    (either_rows (nat_le (length row) n) (row ∷ below) (slid_rows (drop 1 inner) (take n row) (drop (n + 1) row) below) h
    (slid-letters below (drop 1 inner) (take n row) (drop (n + 1) row) (letters-taken n row here.0) (letters-dropped (n + 1) row here.0) here.1))
