-- The fillings of a skew shape, padded with zeros, are the fillings of its pattern (`fillings_over`). The *pattern* has a line of booleans for each
-- row: false at the cells of the inner shape, and true at the other cells.
use Rattle.std.proofs.Common.{◌≡◌, ℕ, zero, suc, ◌-◌, Bool, true, false, List, [], ◌∷◌, ◌++◌, map, drop, replicate, sym, ◌∙◌, ap, refl, append-nil, flat_map, rules}
use Rattle.std.proofs.lemmas.List.{map-append, map-id}
use Rattle.sym_model.specs.Partition.{part, after}
use Rattle.sym_model.specs.Schur.{words, row_lengths, fillings_of}
use Rattle.sym_model.proofs.Lists.{map-map}
use Rattle.tableau_laws.specs.PaddedRows.{words_over, fillings_over, line_of, pattern_of, padded}

pub each_ext : {A B : Type 0} (f g : A → List B) → ((x : A) → f x ≡ g x) → (xs : List A) → flat_map f xs ≡ flat_map g xs
each_ext f g e [] = refl
each_ext f g e (x ∷ xs) = ap (λ l. l ++ flat_map f xs) (e x) ∙ ap (λ l. g x ++ l) (each_ext f g e xs)

pub each_map : {A B C : Type 0} (f : B → List C) (h : A → B) (xs : List A) → flat_map f (map h xs) ≡ flat_map (λ (x : A). f (h x)) xs
each_map f h [] = refl
each_map f h (x ∷ xs) = ap (λ l. f (h x) ++ l) (each_map f h xs)

pub map_each : {A B C : Type 0} (h : B → C) (f : A → List B) (xs : List A) → map h (flat_map f xs) ≡ flat_map (λ (x : A). map h (f x)) xs
map_each h f [] = refl
map_each h f (x ∷ xs) = map-append h (f x) (flat_map f xs) ∙ ap (λ l. map h (f x) ++ l) (map_each h f xs)

-- ---- the words over a line with b places outside the shape (false), and then k cells (true)

pub words_over-cells : (n k : ℕ) → words_over n (replicate k true) ≡ words n k
words_over-cells n zero = refl
words_over-cells n (suc k) = ap (λ (ws : List (List ℕ)). flat_map (λ (a : ℕ). map (λ (w : List ℕ). a ∷ w) ws) (after 0 n)) (words_over-cells n k)

words_over-outside : (n b : ℕ) (line : List Bool) → words_over n (replicate b false ++ line) ≡ map (λ (w : List ℕ). replicate b 0 ++ w) (words_over n line)
words_over-outside n zero line = sym (map-id (words_over n line))
words_over-outside n (suc b) line = search (rules, append-nil, map-map, (words_over-outside n b line))

pub words_over-line : (n b k : ℕ) → words_over n (line_of b k) ≡ map (λ (w : List ℕ). replicate b 0 ++ w) (words n k)
words_over-line n b k = words_over-outside n b (replicate k true) ∙ ap (map (λ (w : List ℕ). replicate b 0 ++ w)) (words_over-cells n k)

padded_row : (n k : ℕ) (inner : List ℕ) (rests padded_rests : List (List (List ℕ))) → map (padded (drop 1 inner)) rests ≡ padded_rests
    → map (padded inner) (flat_map (λ (row : List ℕ). map (λ (rest : List (List ℕ)). row ∷ rest) rests) (words n k))
    ≡ flat_map (λ (w : List ℕ). map (λ (rest : List (List ℕ)). w ∷ rest) padded_rests) (words_over n (line_of (part inner 1) k))
padded_row n k inner rests padded_rests e = search (rules, map_each, each_ext, each_map, words_over-line, map-map)

pub padded-fillings : (n : ℕ) (outer inner : List ℕ) → map (padded inner) (fillings_of n (row_lengths outer inner)) ≡ fillings_over n (pattern_of outer inner)
padded-fillings n [] inner = refl
padded-fillings n (a ∷ outer) [] = search (rules, padded_row, (padded-fillings n outer))
padded-fillings n (a ∷ outer) (b ∷ inner) =
    padded_row n (a - b) (b ∷ inner) (fillings_of n (row_lengths outer inner)) (fillings_over n (pattern_of outer inner)) (padded-fillings n outer inner)
