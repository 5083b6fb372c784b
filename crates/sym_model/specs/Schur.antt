-- Semistandard tableaux of a skew shape and the Schur polynomials (Fulton, 1 and 2.2;
-- Macdonald, I.5).
use Rattle.std.specs.Prelude.{ℕ, zero, suc, ◌+◌, ◌-◌, ◌==◌, nat_le, nat_lt, Bool, true, ◌&&◌, cond}
use Rattle.std.specs.Prelude.{pos, List, [], ◌∷◌, map, drop, filter, flat_map}
use Rattle.sym_model.specs.Polynomial.{Poly}
use Rattle.sym_model.specs.Partition.{part, after}

-- all words of k letters from 1 to n, in lexicographic order
abbrev pub words : ℕ → ℕ → List (List ℕ)
words n zero = [] ∷ []
words n (suc k) = flat_map (λ a. map (λ w. a ∷ w) (words n k)) (after 0 n)

-- the number of cells in each row of outer/inner
abbrev pub row_lengths : List ℕ → List ℕ → List ℕ
row_lengths [] inner = []
row_lengths (a ∷ outer) [] = a ∷ row_lengths outer []
row_lengths (a ∷ outer) (b ∷ inner) = (a - b) ∷ row_lengths outer inner

-- all fillings of rows with the given lengths: a word for each row, with a letter from 1 to n for
-- each cell
abbrev pub fillings_of : ℕ → List ℕ → List (List (List ℕ))
fillings_of n [] = [] ∷ []
fillings_of n (k ∷ lengths) =
    flat_map (λ row. map (λ rest. row ∷ rest) (fillings_of n lengths)) (words n k)

-- whether the row is weakly increasing
abbrev pub row_rises : List ℕ → Bool
row_rises [] = true
row_rises (a ∷ []) = true
row_rises (a ∷ b ∷ row) = nat_le a b && row_rises (b ∷ row)

-- whether each letter of the lower row is greater than the letter above it; the first letters of the two lists are in
-- the same column
abbrev pub columns_rise : List ℕ → List ℕ → Bool
columns_rise [] lower = true
columns_rise (a ∷ upper) [] = true
columns_rise (a ∷ upper) (b ∷ lower) = nat_lt a b && columns_rise upper lower

-- whether a filling with the inner partition `inner` is semistandard: rows are weakly increasing, columns strictly. A
-- row with the inner part c begins c - c' columns to the right of the next row, which has the inner part c'.
abbrev pub semistandard : List ℕ → List (List ℕ) → Bool
semistandard inner [] = true
semistandard inner (row ∷ []) = row_rises row
semistandard inner (row ∷ lower ∷ rest) =
    row_rises row && columns_rise row (drop (part inner 1 - part inner 2) lower)
    && semistandard (drop 1 inner) (lower ∷ rest)

-- whether inner lies inside outer: no part of inner is greater than the part of outer in the same row
abbrev pub contains : List ℕ → List ℕ → Bool
contains outer [] = true
contains [] (b ∷ inner) = (b == 0) && contains [] inner
contains (a ∷ outer) (b ∷ inner) = nat_le b a && contains outer inner

-- the semistandard tableaux of the shape outer/inner with entries from 1 to n; the empty list if inner does not lie
-- inside outer
abbrev pub tableaux : ℕ → List ℕ → List ℕ → List (List (List ℕ))
tableaux n outer inner =
    cond (contains outer inner) (filter (semistandard inner)
    (fillings_of n (row_lengths outer inner))) []

-- the number of times that k occurs in the word
abbrev pub times_in : ℕ → List ℕ → ℕ
times_in k [] = 0
times_in k (a ∷ w) = cond (a == k) 1 0 + times_in k w

-- the letters of a filling, row by row from the top
abbrev pub letters_of : List (List ℕ) → List ℕ
letters_of filling = flat_map (λ row. row) filling

-- the content of a word in letters from 1 to n: for each of these letters the number of times that it occurs in the
-- word
abbrev pub content : ℕ → List ℕ → List ℕ
content n w = map (λ k. times_in k w) (after 0 n)

-- s_{outer/inner} in n variables: the sum of x^content over the semistandard tableaux of the shape outer/inner with
-- entries from 1 to n (Fulton); 0 if inner is not contained in outer
abbrev pub skew_schur : List ℕ → List ℕ → ℕ → Poly
skew_schur outer inner n =
    map (λ filling. (content n (letters_of filling), pos 1)) (tableaux n outer inner)

-- s_λ in n variables, for the partition λ = `parts`
abbrev pub schur : List ℕ → ℕ → Poly
schur parts n = skew_schur parts [] n
