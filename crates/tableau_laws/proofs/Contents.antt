-- The content of a filling can be computed from its padded rows and from its columns, since it depends neither on zeros nor on the order of the
-- letters.
use Rattle.std.proofs.Common.{◌≡◌, ℕ, zero, suc, ◌+◌, ◌<◌, List, [], ◌∷◌, ◌++◌, map, replicate, drop, ap, refl, arith, rules}
use Rattle.std.proofs.lemmas.Bool.{ne_eqb}
use Rattle.sym_model.specs.Partition.{after}
use Rattle.sym_model.specs.Polynomial.{join}
use Rattle.sym_model.specs.Schur.{times_in, letters_of, content}
use Rattle.tableau_laws.specs.PaddedRows.{put_row, transposed, padded}
use Rattle.sym_model.proofs.AfterLists.{after_among}
use Rattle.sym_model.proofs.Contents.{times_in-append}
use Rattle.sym_model.proofs.Lists.{map-among}

pub times_in-zeros : (k b : ℕ) → 0 < k → times_in k (replicate b 0) ≡ 0
times_in-zeros k zero h = refl
times_in-zeros k (suc b) h = search (rules, ne_eqb, (times_in-zeros k b h))

-- if each letter k ≥ 1 occurs equally often in v and w, the two words have the same content
pub content_same : (n : ℕ) (v w : List ℕ) → ((k : ℕ) → 0 < k → times_in k v ≡ times_in k w) → content n v ≡ content n w
content_same n v w e = map-among (λ k. times_in k v) (λ k. times_in k w) (after 0 n) (λ k m. let h = after_among 0 n k m in e k h.0)

pub times_in-padded : (k : ℕ) (inner : List ℕ) (rows : List (List ℕ)) → 0 < k → times_in k (letters_of (padded inner rows)) ≡ times_in k (letters_of rows)
times_in-padded k inner [] h = refl
times_in-padded k inner (row ∷ rows) h = search (rules, times_in-zeros, times_in-append, (times_in-padded k (drop 1 inner) rows h))

pub content-padded : (n : ℕ) (inner : List ℕ) (rows : List (List ℕ)) → content n (letters_of (padded inner rows)) ≡ content n (letters_of rows)
content-padded n inner rows = content_same n (letters_of (padded inner rows)) (letters_of rows) (λ k h. times_in-padded k inner rows h)

pub times_in-put : (k : ℕ) (row : List ℕ) (columns : List (List ℕ)) → times_in k (letters_of (put_row row columns)) ≡ times_in k row + times_in k (letters_of columns)
times_in-put k [] columns = omega arith
times_in-put k (x ∷ row) [] = let e = times_in-put k row [] in omega arith
times_in-put k (x ∷ row) (c ∷ columns) = search (rules, times_in-append, (times_in-put k row columns))

pub times_in-transposed : (k : ℕ) (rows : List (List ℕ)) → times_in k (letters_of (transposed rows)) ≡ times_in k (letters_of rows)
times_in-transposed k [] = refl
times_in-transposed k (row ∷ rows) = search (rules, times_in-put, times_in-append, (times_in-transposed k rows))

pub content-transposed : (n : ℕ) (rows : List (List ℕ)) → content n (letters_of (transposed rows)) ≡ content n (letters_of rows)
content-transposed n rows = content_same n (letters_of (transposed rows)) (letters_of rows) (λ k h. times_in-transposed k rows)

join_sums : (f g : ℕ → ℕ) (xs : List ℕ) → map (λ k. f k + g k) xs ≡ join (map f xs) (map g xs)
join_sums f g [] = refl
join_sums f g (x ∷ xs) = ap (λ l. (f x + g x) ∷ l) (join_sums f g xs)

pub content-append : (n : ℕ) (v w : List ℕ) → content n (v ++ w) ≡ join (content n v) (content n w)
content-append n v w = search (rules, map-among, times_in-append, join_sums)
