-- The functions of corner.rt row by row: the union of two shapes, a shape with one cell added, and the first row that is longer in one shape than in
-- another.
use Rattle.std.proofs.Common.{◌≡◌, ℕ, zero, suc, ◌+◌, ◌<◌, ◌≤◌, max, List, [], ◌∷◌, ◌++◌, length, get_or, ◌∙◌, ap, refl, arith}
use Rattle.std.proofs.Math.ListN.{set}
use Rattle.sym_model.specs.Partition.{ArePositive, size}
use Rattle.insertion_laws.proofs.Removals.{grown-here, grown-below}
use Rattle.sym_model.specs.Growth.{grown, union, with_cell}

pub length-union : (s t : List ℕ) → length (union s t) ≡ max (length s) (length t)
length-union [] [] = refl
length-union [] (b ∷ t) = omega arith
length-union (a ∷ s) [] = omega arith
length-union (a ∷ s) (b ∷ t) = omega (arith, length-union s t)

pub get-union : (s t : List ℕ) (k : ℕ) → get_or (union s t) k 0 ≡ max (get_or s k 0) (get_or t k 0)
get-union [] [] k = omega arith
get-union [] (b ∷ t) k = omega arith
get-union (a ∷ s) [] k = omega arith
get-union (a ∷ s) (b ∷ t) zero = refl
get-union (a ∷ s) (b ∷ t) (suc k) = get-union s t k

pub cell-pushed : (i : ℕ) (s : List ℕ) → length s ≤ i → with_cell i s ≡ s ++ 1 ∷ []
cell-pushed i [] h = refl
cell-pushed zero (a ∷ s) h = absurd (omega arith)
cell-pushed (suc i) (a ∷ s) h = ap (λ (t : List ℕ). a ∷ t) (cell-pushed i s (omega arith))

pub grown-at :
    (i : ℕ) (large small : List ℕ) → i < length large → ((k : ℕ) → k < i → get_or large k 0 ≤ get_or small k 0)
    → ArePositive large → get_or small i 0 < get_or large i 0 → grown large small ≡ i
grown-at i [] small l h p m = absurd (omega arith)
grown-at zero (a ∷ large) [] l h p m = refl
grown-at (suc i) (a ∷ large) [] l h p m = let z = h 0 (omega arith) in let q = p.0 in absurd (omega arith)
grown-at zero (a ∷ large) (b ∷ small) l h p m = grown-here a b large small m
grown-at (suc i) (a ∷ large) (b ∷ small) l h p m =
    grown-below a b large small (h 0 (omega arith))
    ∙ ap suc (grown-at i large small (omega arith) (λ k n. h (suc k) (omega arith)) p.1 m)

pub grown-none :
    (large small : List ℕ) → ((k : ℕ) → k < length large → get_or large k 0 ≤ get_or small k 0) → ArePositive large
    → grown large small ≡ length large
grown-none [] small h p = refl
grown-none (a ∷ large) [] h p = let z = h 0 (omega arith) in let q = p.0 in absurd (omega arith)
grown-none (a ∷ large) (b ∷ small) h p =
    grown-below a b large small (h 0 (omega arith)) ∙ ap suc (grown-none large small (λ k n. h (suc k) (omega arith)) p.1)

pub cell_fits : (i : ℕ) (s : List ℕ) (v : ℕ) → i < length s → v ≡ get_or s i v → v + 1 ≤ size (with_cell i s)
cell_fits i [] v l e = absurd (omega arith)
cell_fits zero (a ∷ s) v l e = omega arith
cell_fits (suc i) (a ∷ s) v l e = omega (arith, cell_fits i s v (omega arith) e)

pub cell-written : (i : ℕ) (s : List ℕ) (v : ℕ) → i < length s → v ≡ get_or s i v → set s i (v + 1) ≡ with_cell i s
cell-written i [] v l e = absurd (omega arith)
cell-written zero (a ∷ s) v l e = ap (λ n. (n + 1) ∷ s) e
cell-written (suc i) (a ∷ s) v l e = ap (λ (t : List ℕ). a ∷ t) (cell-written i s v (omega arith) e)
