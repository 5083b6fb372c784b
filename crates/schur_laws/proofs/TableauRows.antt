-- Sums over the semistandard tableaux of a straight shape, row by row from the first on. The pairing of a polynomial with a function φ of exponents
-- is the sum of c·φ(α) over its terms c·x^α.
--     over_rows               the sum of φ(content) over the tableaux that can be directly below a row `upper`
--     pair-schur_rows         the pairing of a Schur polynomial with φ is `over_rows` of φ with an empty row `upper`
--     over_rows-ext           the sum depends only on the values of φ at lists of n numbers
--     over_rows-zeros         empty rows at the end of the shape do not change the sum
--     over_rows-no_row_above  a row of zeros as `upper` gives the same sum as an empty row
use Rattle.std.proofs.Common.{◌≡◌, ℕ, zero, suc, Bool, true, false, cond, ◌&&◌, List, [], ◌∷◌, ◌++◌, map, length, replicate, nat_lt, sym, ◌∙◌, ap, ap₂, refl, ℤ, pos, rules}
use Rattle.std.proofs.lemmas.Bool.{lt-ltb, and_from}
use Rattle.std.proofs.Math.Bool.{and-true, and_assoc}
use Rattle.sym_model.specs.Sum.{total}
use Rattle.sym_model.specs.Partition.{in_front, without_last_zeros}
use Rattle.sym_model.specs.Polynomial.{pair, join}
use Rattle.sym_model.specs.Schur.{words, row_lengths, fillings_of, row_rises, columns_rise, semistandard, letters_of, content, schur}
use Rattle.sym_model.proofs.Sums.{total_ext, total_select, total_map, total_each}
use Rattle.sym_model.proofs.Exponents.{length-join_same}
use Rattle.sym_model.proofs.Tableaux.{row_lengths-none, columns_rise-nothing}
use Rattle.tableau_laws.specs.Grid.{first_line}
use Rattle.tableau_laws.proofs.Contents.{content-append}
use Rattle.tableau_laws.proofs.ColumnSums.{total_under}
use Rattle.tableau_laws.proofs.FewerLetters.{pair-skew_schur}
use Rattle.alternant_laws.proofs.Exchanges.{length_content}
use Rattle.schur_laws.proofs.GreatestLetters.{over_rising, rising-ext, rising-none, AreLetters}
use lib.IntN.{+ℤ_idr}

-- the sum of φ(content) over the semistandard tableaux with letters up to n that have rows of the lengths `parts` and can be directly below the row
-- `upper`
abbrev pub over_rows : ℕ → List ℕ → List ℕ → (List ℕ → ℤ) → ℤ
over_rows n upper [] φ = φ (content n [])
over_rows n upper (a ∷ parts) φ =
    over_rising n a (λ v. cond (columns_rise upper v) (over_rows n v parts (λ γ. φ (join (content n v) γ))) (pos 0))

-- ---- the pairing of a Schur polynomial with φ is a sum over rows

semistandard-front : (row : List ℕ) (rows : List (List ℕ)) → semistandard [] (row ∷ rows) ≡ (row_rises row && (columns_rise row (first_line rows) && semistandard [] rows))
semistandard-front row [] = sym (ap (λ b. row_rises row && (b && true)) (columns_rise-nothing row) ∙ and-true (row_rises row))
semistandard-front row (lower ∷ rows) = and_assoc (row_rises row) (columns_rise row lower) (semistandard [] (lower ∷ rows))

-- whether the rows are a semistandard tableau, and the first row can be directly below the row `upper`
abbrev stands_below : List ℕ → List (List ℕ) → Bool
stands_below upper rows = columns_rise upper (first_line rows) && semistandard [] rows

four_tests : (p q r : Bool) (z : ℤ) → cond (p && (q && r)) z (pos 0) ≡ cond (q && (p && r)) z (pos 0)
four_tests true true r z = refl
four_tests true false r z = refl
four_tests false true r z = refl
four_tests false false r z = refl

total_below : (n : ℕ) (upper parts : List ℕ) (φ : List ℕ → ℤ)
    → total (λ (rows : List (List ℕ)). cond (stands_below upper rows) (φ (content n (letters_of rows))) (pos 0)) (fillings_of n parts) ≡ over_rows n upper parts φ
total_below n upper [] φ = +ℤ_idr (cond (columns_rise upper [] && true) (φ (content n [])) (pos 0)) ∙ ap (λ b. cond (b && true) (φ (content n [])) (pos 0)) (columns_rise-nothing upper)
total_below n upper (a ∷ parts) φ =
    total_each (λ (rows : List (List ℕ)). cond (stands_below upper rows) (φ (content n (letters_of rows))) (pos 0)) (λ (row : List ℕ). map (λ (rest : List (List ℕ)). row ∷ rest) (fillings_of n parts)) (words n a)
    ∙ total_ext
    (λ (row : List ℕ). total (λ (rows : List (List ℕ)). cond (stands_below upper rows) (φ (content n (letters_of rows))) (pos 0)) (map (λ (rest : List (List ℕ)). row ∷ rest) (fillings_of n parts)))
    (λ (row : List ℕ). cond (row_rises row) (cond (columns_rise upper row) (over_rows n row parts (λ γ. φ (join (content n row) γ))) (pos 0)) (pos 0))
    (λ row.
    total_map (λ (rows : List (List ℕ)). cond (stands_below upper rows) (φ (content n (letters_of rows))) (pos 0)) (λ (rest : List (List ℕ)). row ∷ rest) (fillings_of n parts)
    ∙ total_ext
    (λ (rest : List (List ℕ)). cond (stands_below upper (row ∷ rest)) (φ (content n (row ++ letters_of rest))) (pos 0))
    (λ (rest : List (List ℕ)). cond (row_rises row && (columns_rise upper row && stands_below row rest)) (φ (join (content n row) (content n (letters_of rest)))) (pos 0))
    (λ rest.
    ap₂ (λ (b : Bool) (κ : List ℕ). cond (columns_rise upper row && b) (φ κ) (pos 0)) (semistandard-front row rest) (content-append n row (letters_of rest))
    ∙ four_tests (columns_rise upper row) (row_rises row) (stands_below row rest) (φ (join (content n row) (content n (letters_of rest)))))
    (fillings_of n parts)
    ∙ total_under (row_rises row) (λ (rest : List (List ℕ)). columns_rise upper row && stands_below row rest) (λ (rest : List (List ℕ)). φ (join (content n row) (content n (letters_of rest)))) (fillings_of n parts)
    ∙ ap (λ z. cond (row_rises row) z (pos 0))
    (total_under (columns_rise upper row) (stands_below row) (λ (rest : List (List ℕ)). φ (join (content n row) (content n (letters_of rest)))) (fillings_of n parts)
    ∙ ap (λ z. cond (columns_rise upper row) z (pos 0)) (total_below n row parts (λ γ. φ (join (content n row) γ)))))
    (words n a)

pub pair-schur_rows : (n : ℕ) (parts : List ℕ) (φ : List ℕ → ℤ) → pair (schur parts n) φ ≡ over_rows n [] parts φ
pair-schur_rows n parts φ =
    pair-skew_schur n parts [] φ
    ∙ total_select (λ (rows : List (List ℕ)). φ (content n (letters_of rows))) (semistandard []) (fillings_of n (row_lengths parts []))
    ∙ ap (λ l. total (λ (rows : List (List ℕ)). cond (semistandard [] rows) (φ (content n (letters_of rows))) (pos 0)) (fillings_of n l)) (row_lengths-none parts)
    ∙ total_below n [] parts φ

pub over_rows-ext : (n : ℕ) (upper parts : List ℕ) (φ ψ : List ℕ → ℤ) → ((γ : List ℕ) → length γ ≡ n → φ γ ≡ ψ γ) → over_rows n upper parts φ ≡ over_rows n upper parts ψ
over_rows-ext n upper [] φ ψ h = h (content n []) (length_content n [])
over_rows-ext n upper (a ∷ parts) φ ψ h =
    rising-ext n a _ _
    (λ v l m. ap (λ z. cond (columns_rise upper v) z (pos 0))
    (over_rows-ext n v parts (λ γ. φ (join (content n v) γ)) (λ γ. ψ (join (content n v) γ))
    (λ γ k. h (join (content n v) γ) (length-join_same n (content n v) γ (length_content n v) k))))

one_empty_row : (n : ℕ) (upper : List ℕ) (φ : List ℕ → ℤ) → over_rows n upper (0 ∷ []) φ ≡ φ (content n [])
one_empty_row n upper φ =
    rising-none n (λ v. cond (columns_rise upper v) (φ (join (content n v) (content n []))) (pos 0))
    ∙ ap (λ b. cond b (φ (join (content n []) (content n []))) (pos 0)) (columns_rise-nothing upper)
    ∙ ap φ (sym (content-append n [] []))

in_front_zeros : (n : ℕ) (upper : List ℕ) (a : ℕ) (parts : List ℕ) (φ : List ℕ → ℤ) → over_rows n upper (in_front a parts) φ ≡ over_rows n upper (a ∷ parts) φ
in_front_zeros n upper zero [] φ = sym (one_empty_row n upper φ)
in_front_zeros n upper zero (b ∷ parts) φ = refl
in_front_zeros n upper (suc a) parts φ = refl

pub over_rows-zeros : (n : ℕ) (upper parts : List ℕ) (φ : List ℕ → ℤ) → over_rows n upper (without_last_zeros parts) φ ≡ over_rows n upper parts φ
over_rows-zeros n upper [] φ = refl
over_rows-zeros n upper (a ∷ parts) φ =
    in_front_zeros n upper a (without_last_zeros parts) φ
    ∙ rising-ext n a _ _
    (λ v l m. ap (λ z. cond (columns_rise upper v) z (pos 0)) (over_rows-zeros n v parts (λ γ. φ (join (content n v) γ))))

zeros_above : (n m : ℕ) (v : List ℕ) → AreLetters n v → columns_rise (replicate m 0) v ≡ true
zeros_above n zero v h = refl
zeros_above n (suc m) [] h = refl
zeros_above n (suc m) (b ∷ v) h = and_from (nat_lt 0 b) (columns_rise (replicate m 0) v) (lt-ltb 0 b h.0.0) (zeros_above n m v h.1)

pub over_rows-no_row_above : (n m : ℕ) (parts : List ℕ) (φ : List ℕ → ℤ) → over_rows n [] parts φ ≡ over_rows n (replicate m 0) parts φ
over_rows-no_row_above n m [] φ = refl
over_rows-no_row_above n m (a ∷ parts) φ = search (rules, rising-ext, zeros_above)
