-- A filling is a semistandard tableau with entries at least 1 if and only if each of its rows passes the test `row_passes`: the letters of the row
-- are positive and weakly increasing, and smaller than the letters directly below them.
use Rattle.std.proofs.Common.{◌≡◌, ℕ, zero, suc, ◌+◌, ◌-◌, ◌<◌, Bool, true, false, ◌&&◌, cond, nat_le, List, [], ◌∷◌, ◌++◌, length, drop, ◌∙◌, ap, ap₂, sym, refl, arith, rules}
use Rattle.std.proofs.lemmas.Bool.{lt-ltb, and_parts}
use Rattle.std.proofs.Math.Bool.{and-false}
use Rattle.sym_model.specs.Partition.{part, after}
use Rattle.sym_model.specs.Schur.{row_rises, columns_rise, semistandard, letters_of}
use Rattle.sym_model.specs.GoodTableau.{every}
use Rattle.sym_model.specs.Tableau.{SkewFilling, are_letters}
use Rattle.skew_shapes.specs.CellFillings.{IsFilling, IsTableauWithin, is_tableau}
use Rattle.skew_shapes.specs.RowTests.{row_passes}
use Rattle.std.proofs.Math.Numerals.{add-one}

-- ---- tests that each number of a list must pass (`every`)

every-append : (test : ℕ → Bool) (v w : List ℕ) → every test (v ++ w) ≡ (every test v && every test w)
every-append test [] w = refl
every-append test (a ∷ v) w = search (rules, (every-append test v w))

every_after-shift : (f g : ℕ → Bool) (a k : ℕ) → ((i : ℕ) → a < i → f (i + 1) ≡ g i) → every f (after (a + 1) k) ≡ every g (after a k)
every_after-shift f g a zero h = refl
every_after-shift f g a (suc k) h = ap₂ (λ x y. x && y) (h (a + 1) (omega arith)) (every_after-shift f g (a + 1) k (λ i l. h i (omega arith)))

pub every_after-more : (test : ℕ → Bool) (a k : ℕ) → every test (after a k) ≡ true → test (a + k + 1) ≡ true → every test (after a (k + 1)) ≡ true
every_after-more test a k h e = ap (λ n. every test (after a n)) (add-one k) ∙ more a k h e
  where
    more : (a k : ℕ) → every test (after a k) ≡ true → test (a + k + 1) ≡ true → every test (after a (suc k)) ≡ true
    more a zero h e = let same : a + 1 ≡ a + 0 + 1 = omega arith in ap (λ b. b && true) (ap test same ∙ e)
    more a (suc k) h e =
        let p = and_parts (test (a + 1)) (every test (after (a + 1) k)) h in
        let same : a + 1 + k + 1 ≡ a + suc k + 1 = omega arith in
        ap₂ (λ x y. x && y) p.0 (more (a + 1) k p.1 (ap test same ∙ e))

pub every_after-fails : (test : ℕ → Bool) (a k i : ℕ) → i < k → test (a + i + 1) ≡ false → every test (after a k) ≡ false
every_after-fails test a zero i h e = absurd (omega arith)
every_after-fails test a (suc k) zero h e = search rules
every_after-fails test a (suc k) (suc i) h e =
    let same : a + 1 + i + 1 ≡ a + suc i + 1 = omega arith in
    ap (λ b. test (a + 1) && b) (every_after-fails test (a + 1) k i (omega arith) (ap test same ∙ e)) ∙ and-false (test (a + 1))

passes-next :
    (inner row : List ℕ) (rows : List (List ℕ)) (i : ℕ) → 0 < i → row_passes inner (row ∷ rows) (i + 1) ≡ row_passes (drop 1 inner) rows i
passes-next inner row rows i h = search rules

regroup : (a b c d e : Bool) → ((a && b) && (c && d && e)) ≡ ((a && (c && d)) && (b && e))
regroup false b c d e = refl
regroup true b false d e = and-false b
regroup true b true false e = and-false b
regroup true b true true e = refl

pub tests-rows :
    (inner : List ℕ) (rows : List (List ℕ))
    → (are_letters (letters_of rows) && semistandard inner rows) ≡ every (row_passes inner rows) (after 0 (length rows))
tests-rows inner [] = refl
tests-rows inner (row ∷ []) = search rules
tests-rows inner (row ∷ lower ∷ rows) =
    let rest = lower ∷ rows in
    let more = tests-rows (drop 1 inner) (lower ∷ rows) in
    let shift = every_after-shift (row_passes inner (row ∷ lower ∷ rows)) (row_passes (drop 1 inner) (lower ∷ rows)) 0 (length (lower ∷ rows))
    (λ i h. passes-next inner row (lower ∷ rows) i h) in
    let stands = columns_rise row (drop (part inner 1 - part inner 2) lower) in
    ap (λ b. b && (row_rises row && stands && semistandard (drop 1 inner) rest)) (every-append (λ a. nat_le 1 a) row (letters_of (lower ∷ rows)))
    ∙ regroup (are_letters row) (are_letters (letters_of (lower ∷ rows))) (row_rises row) stands (semistandard (drop 1 inner) rest)
    ∙ ap (λ b. (are_letters row && (row_rises row && stands)) && b) (more ∙ sym shift)
    ∙ ap (λ b. (are_letters row && (row_rises row && cond b stands true)) && every (row_passes inner (row ∷ lower ∷ rows)) (after 1 (length rest)))
    (sym (lt-ltb 1 (suc (suc (length rows))) (omega arith)))

pub IsTableauWithin-from : (t : SkewFilling) → IsFilling t → is_tableau t ≡ true → IsTableauWithin t
IsTableauWithin-from t f h = search rules
