-- The number of times that a number occurs in the first rows of a tableau, and the test of a standard tableau by these numbers.
use Rattle.std.proofs.Common.{◌≡◌, ℕ, zero, suc, ◌+◌, ◌-◌, ◌<◌, ◌≤◌, true, ◌&&◌, ◌==◌, List, [], ◌∷◌, ◌++◌, map, length, take, get_or, replicate, ◌∙◌, ap, ap₂, sym, refl, arith, length-append, eqb-true, rules}
use Rattle.std.proofs.lemmas.Bool.{eq-eqb, and_parts}
use Rattle.std.proofs.lemmas.List.{length-map}
use Rattle.sym_model.specs.Partition.{size, after}
use Rattle.sym_model.specs.Schur.{row_lengths, letters_of, times_in}
use Rattle.sym_model.specs.GoodTableau.{every}
use Rattle.sym_model.specs.StandardTableau.{IsStandard}
use Rattle.sym_model.specs.Tableau.{SkewFilling, IsTableau, shape_of}
use Rattle.sym_model.proofs.Tableaux.{length-row_lengths, row_lengths-none, length-letters_of}
use Rattle.skew_shapes.specs.CellFillings.{IsTableauWithin, row_of}
use Rattle.std.proofs.lemmas.Grind.{common_steps}

-- ---- the letters of the first i rows of a tableau, and the number of times that a letter occurs in them

pub letters-more :
    (rows : List (List ℕ)) (i : ℕ) → i < length rows → letters_of (take (i + 1) rows) ≡ letters_of (take i rows) ++ row_of rows (i + 1)
letters-more rows i h = grind (arith, common_steps)

pub length-letters-take : (rows : List (List ℕ)) (i : ℕ) → length (letters_of (take i rows)) ≤ length (letters_of rows)
length-letters-take [] zero = omega arith
length-letters-take [] (suc i) = omega arith
length-letters-take (row ∷ rows) zero = omega arith
length-letters-take (row ∷ rows) (suc i) = search (rules, length-append, (length-letters-take rows i))

size-row_lengths : (outer inner : List ℕ) → size (row_lengths outer inner) ≤ size outer
size-row_lengths [] inner = omega arith
size-row_lengths (a ∷ outer) [] = omega (arith, size-row_lengths outer [])
size-row_lengths (a ∷ outer) (b ∷ inner) = omega (arith, size-row_lengths outer inner)

pub rows-tableau : (t : SkewFilling) → IsTableauWithin t → length t.rows ≡ length t.outer
rows-tableau t h = sym (length-map t.rows length) ∙ ap length h.tableau.cells ∙ length-row_lengths t.outer t.inner

pub few-letters : (t : SkewFilling) → IsTableauWithin t → length (letters_of t.rows) ≤ 4096
few-letters t h =
    omega (arith, length-letters_of t.rows, ap size h.tableau.cells, size-row_lengths t.outer t.inner, h.shape.outside.small)

pub straight-letters : (t : SkewFilling) → IsTableauWithin t → t.inner ≡ [] → length (letters_of t.rows) ≡ size t.outer
straight-letters t h e =
    length-letters_of t.rows ∙ ap size (h.tableau.cells ∙ ap (row_lengths t.outer) e ∙ row_lengths-none t.outer)

-- ---- tableaux in which each number occurs once

once_tells :
    (w : List ℕ) (a k : ℕ) → every (λ n. times_in n w == 1) (after a k) ≡ true → map (λ n. times_in n w) (after a k) ≡ replicate k 1
once_tells w a zero h = refl
once_tells w a (suc k) h =
    let p = and_parts (times_in (a + 1) w == 1) (every (λ n. times_in n w == 1) (after (a + 1) k)) h in
    ap₂ ◌∷◌ (eqb-true (times_in (a + 1) w) 1 p.0) (once_tells w (a + 1) k p.1)

once_from :
    (w : List ℕ) (a k : ℕ) → map (λ n. times_in n w) (after a k) ≡ replicate k 1 → every (λ n. times_in n w == 1) (after a k) ≡ true
once_from w a zero h = refl
once_from w a (suc k) h =
    ap₂ (λ x y. x && y) (eq-eqb (times_in (a + 1) w) 1 (ap (λ l. get_or l 0 0) h)) (once_from w (a + 1) k (tail h))
  where
    tail : times_in (a + 1) w ∷ map (λ n. times_in n w) (after (a + 1) k) ≡ 1 ∷ replicate k 1 → map (λ n. times_in n w) (after (a + 1) k) ≡ replicate k 1
    tail e = cc

straight : (t : SkewFilling) → IsTableauWithin t → t.inner ≡ [] → IsTableau (shape_of t.rows) [] t.rows
straight t h e = search (rules, row_lengths-none)

pub IsStandard-from :
    (t : SkewFilling) → IsTableauWithin t → t.inner ≡ [] → every (λ n. times_in n (letters_of t.rows) == 1) (after 0 (length (letters_of t.rows))) ≡ true
    → IsStandard t.rows
IsStandard-from t h e once = search (rules, straight, once_tells)

pub IsStandard-tells :
    (rows : List (List ℕ)) → IsStandard rows → every (λ n. times_in n (letters_of rows) == 1) (after 0 (length (letters_of rows))) ≡ true
IsStandard-tells rows s = once_from (letters_of rows) 0 (length (letters_of rows)) s.once
