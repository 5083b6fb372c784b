-- The Littlewood–Richardson rule: the product of a Schur polynomial and a skew Schur polynomial as a sum of Schur polynomials over good tableaux, and
-- its Schur coefficients as counts of good tableaux. A tableau T is good for the partition `start` if start plus the content of the last j columns of
-- T is a partition for each j.
use Rattle.std.proofs.Common.{◌≡◌, ℕ, ◌<◌, ◌≤◌, ◌⊎◌, Bool, true, false, cond, ◌&&◌, List, [], ◌∷◌, length, nat_le, sym, ◌∙◌, ap, inl, inr, arith, pos, filter, flat_map}
use Rattle.std.proofs.lemmas.Bool.{cases_lt, and_left, lt-leb}
use Rattle.sym_model.specs.Sum.{Among}
use Rattle.sym_model.specs.Partition.{Falls, IsPartition, rows}
use Rattle.sym_model.specs.Polynomial.{Same, In, coefficient, nothing, join, times, pair}
use Rattle.sym_model.specs.Schur.{tableaux, content, letters_of, skew_schur, schur}
use Rattle.sym_model.specs.GoodTableau.{is_falling, is_good, good_tableaux}
use Rattle.sym_model.specs.Alternant.{alternant, staircase}
use Rattle.sym_model.proofs.Sums.{total_among, total_none}
use Rattle.sym_model.proofs.Exponents.{length-join}
use Rattle.sym_model.proofs.Polynomials.{pair_each, pair_times_each, pair_determined, same_from_pair, times_respects, Same_refl, Same_sym, Same_trans, In_each, In_times}
use Rattle.sym_model.proofs.PolynomialLaws.{times_assoc}
use Rattle.sym_model.proofs.SortedParts.{IsPartition-none, IsPartition-without_last_zeros}
use Rattle.sym_model.proofs.Parts.{length-without_last_zeros}
use Rattle.tableau_laws.specs.PaddedRows.{fillings_over, padded}
use Rattle.tableau_laws.specs.Grid.{is_chain, pass_by_place, first_line, may_stand_above, are_tableau_columns}
use Rattle.tableau_laws.specs.ColumnFold.{column_lines}
use Rattle.tableau_laws.proofs.PatternFillings.{AllFit, filling_tells}
use Rattle.tableau_laws.proofs.RowSums.{of_columns, total_columns}
use Rattle.tableau_laws.proofs.Contents.{content-padded, content-transposed}
use Rattle.tableau_laws.proofs.FewerLetters.{pair-skew_schur}
use Rattle.tableau_laws.proofs.GoodReadings.{good_falls}
use Rattle.alternant_laws.proofs.Exchanges.{length_content}
use Rattle.tableau_laws.proofs.ColumnCounts.{contains_nothing}
use Rattle.alternant_laws.specs.GoodSums.{good_alternants, start_plus_content, good_schurs}
use Rattle.alternant_laws.proofs.Staircase.{staircase_cancels}
use Rattle.alternant_laws.proofs.FailingColumns.{at_sum}
use Rattle.alternant_laws.proofs.FallingAlternants.{join_padded, resize-without_last_zeros, falls_from_test}
use Rattle.alternant_laws.proofs.StraightShapes.{OnlyCells, leftmost_line, straight_columns, too_few_letters, leftmost_line_cells, leftmost_line_length}
use Rattle.alternant_laws.proofs.GoodAlternants.{at_filling, good_sums, In-skew_schur, stembridge}

pub bialternant : (n : ℕ) (parts : List ℕ) → IsPartition parts → rows parts ≤ n → Same (times (alternant (staircase n)) (schur parts n)) (alternant (join parts (staircase n)))
bialternant n parts p h =
    Same_trans (times (alternant (staircase n)) (schur parts n)) (good_alternants n [] parts []) (alternant (join parts (staircase n)))
    (stembridge n [] parts [] IsPartition-none (omega arith) p IsPartition-none)
    (same_from_pair (good_alternants n [] parts []) (alternant (join parts (staircase n))) (λ φ.
    pair_each (λ (T : List (List ℕ)). alternant (join (join [] (content n (letters_of T))) (staircase n))) (good_tableaux n [] parts []) φ
    ∙ good_sums n (at_sum n φ) [] parts [] IsPartition-none (omega arith) p.falls tt (contains_nothing parts)
    ∙ straight_columns n parts (at_sum n φ) p h
    ∙ ap (λ β. pair (alternant β) φ) (join_padded n parts h)))

no_columns : (n : ℕ) (lines : List (List Bool)) (cs : List (List ℕ)) → OnlyCells (leftmost_line lines) → n < length (leftmost_line lines) → AllFit n lines cs → are_tableau_columns cs ≡ false
no_columns n [] cs o h f = absurd (omega arith)
no_columns n (line ∷ lines) [] o h f = absurd f
no_columns n (line ∷ lines) (c ∷ cs) o h f =
    and_left (is_chain may_stand_above c) (pass_by_place nat_le c (first_line cs) && are_tableau_columns cs) (too_few_letters n line c o f.0 h)

pub schur_few_variables : (n : ℕ) (parts : List ℕ) → IsPartition parts → n < rows parts → Same (schur parts n) nothing
schur_few_variables n parts p h =
    same_from_pair (schur parts n) nothing (λ φ.
    pair-skew_schur n parts [] φ
    ∙ total_columns n parts [] (λ (T : List (List ℕ)). φ (content n (letters_of T))) (λ (cs : List (List ℕ)). φ (content n (letters_of cs))) p.falls tt (contains_nothing parts)
    (λ T m. ap φ (sym (content-transposed n (padded [] T) ∙ content-padded n [] T)))
    ∙ total_none (of_columns (λ (cs : List (List ℕ)). φ (content n (letters_of cs)))) (fillings_over n (column_lines parts []))
    (λ cs m. ap (λ (b : Bool). cond b (φ (content n (letters_of cs))) (pos 0))
    (no_columns n (column_lines parts []) cs (leftmost_line_cells parts) (let l = leftmost_line_length parts p.positive in omega arith) (filling_tells n (column_lines parts []) cs m))))

-- ---- sums of Schur polynomials over good tableaux

-- start + content(T) is a weakly decreasing list of n numbers; without the zeros at its end it is a partition with at most n rows
record IsGoodSum (n : ℕ) (start : List ℕ) (T : List (List ℕ)) : Type 0 where
  falls : is_falling (join start (content n (letters_of T))) ≡ true
  length : length (join start (content n (letters_of T))) ≡ n
  partition : IsPartition (start_plus_content n start T)
  few : rows (start_plus_content n start T) ≤ n

good_sum : (n : ℕ) (start outer inner : List ℕ) (T : List (List ℕ)) → rows start ≤ n → Falls outer → Among T (good_tableaux n start outer inner) → IsGoodSum n start T
good_sum n start outer inner T h falls m =
    let f = good_falls n start outer inner T falls m in
    let a = length-join start (content n (letters_of T)) in
    let b = length_content n (letters_of T) in
    let l : length (join start (content n (letters_of T))) ≡ n = omega arith in
    let s = length-without_last_zeros (join start (content n (letters_of T))) in
    record { falls = f; length = l; partition = IsPartition-without_last_zeros (join start (content n (letters_of T))) (falls_from_test (join start (content n (letters_of T))) f); few = omega arith }

staircase_times_good : (n : ℕ) (start outer inner : List ℕ) → rows start ≤ n → Falls outer
    → Same (times (alternant (staircase n)) (good_schurs n start outer inner)) (good_alternants n start outer inner)
staircase_times_good n start outer inner h falls =
    same_from_pair (times (alternant (staircase n)) (good_schurs n start outer inner)) (good_alternants n start outer inner) (λ φ.
    pair_times_each (alternant (staircase n)) (λ (T : List (List ℕ)). schur (start_plus_content n start T) n) (good_tableaux n start outer inner) φ
    ∙ total_among (λ (T : List (List ℕ)). pair (times (alternant (staircase n)) (schur (start_plus_content n start T) n)) φ) (at_filling n φ start) (good_tableaux n start outer inner)
    (λ T m. let g = good_sum n start outer inner T h falls m in
    pair_determined (times (alternant (staircase n)) (schur (start_plus_content n start T) n)) (alternant (join (start_plus_content n start T) (staircase n))) φ (bialternant n (start_plus_content n start T) g.partition g.few)
    ∙ ap (λ β. pair (alternant β) φ) (sym (join_padded n (start_plus_content n start T) g.few)
    ∙ ap (λ ν. join ν (staircase n)) (resize-without_last_zeros n (join start (content n (letters_of T))) g.length)))
    ∙ sym (pair_each (λ (T : List (List ℕ)). alternant (join (join start (content n (letters_of T))) (staircase n))) (good_tableaux n start outer inner) φ))

pub In-good_schurs : (n : ℕ) (start outer inner : List ℕ) → In n (good_schurs n start outer inner)
In-good_schurs n start outer inner =
    In_each n (λ (T : List (List ℕ)). schur (start_plus_content n start T) n) (good_tableaux n start outer inner) (λ T m. In-skew_schur n (start_plus_content n start T) [])

pub skew-good_schurs : (n : ℕ) (outer inner : List ℕ) → IsPartition outer → IsPartition inner → Same (skew_schur outer inner n) (good_schurs n [] outer inner)
skew-good_schurs n outer inner o i =
    staircase_cancels n (skew_schur outer inner n) (good_schurs n [] outer inner) (In-skew_schur n outer inner) (In-good_schurs n [] outer inner)
    (Same_trans (times (alternant (staircase n)) (skew_schur outer inner n)) (good_alternants n [] outer inner) (times (alternant (staircase n)) (good_schurs n [] outer inner))
    (stembridge n [] outer inner IsPartition-none (omega arith) o i)
    (Same_sym (times (alternant (staircase n)) (good_schurs n [] outer inner)) (good_alternants n [] outer inner) (staircase_times_good n [] outer inner (omega arith) o.falls)))

-- if start has at most n rows, a_ρ·s_start·s_(outer/inner) is the sum of a_(start + content(T) + ρ) over the good tableaux T of outer/inner
pub staircase_product : (n : ℕ) (start outer inner : List ℕ) → IsPartition start → IsPartition outer → IsPartition inner → rows start ≤ n
    → Same (times (alternant (staircase n)) (times (schur start n) (skew_schur outer inner n))) (good_alternants n start outer inner)
staircase_product n start outer inner p o i h =
    Same_trans (times (alternant (staircase n)) (times (schur start n) (skew_schur outer inner n))) (times (times (alternant (staircase n)) (schur start n)) (skew_schur outer inner n)) (good_alternants n start outer inner)
    (Same_sym (times (times (alternant (staircase n)) (schur start n)) (skew_schur outer inner n)) (times (alternant (staircase n)) (times (schur start n) (skew_schur outer inner n))) (times_assoc (alternant (staircase n)) (schur start n) (skew_schur outer inner n)))
    (Same_trans (times (times (alternant (staircase n)) (schur start n)) (skew_schur outer inner n)) (times (alternant (join start (staircase n))) (skew_schur outer inner n)) (good_alternants n start outer inner)
    (times_respects (times (alternant (staircase n)) (schur start n)) (alternant (join start (staircase n))) (skew_schur outer inner n) (skew_schur outer inner n) (bialternant n start p h) (Same_refl (skew_schur outer inner n)))
    (stembridge n start outer inner p h o i))

pub product-good_schurs : (n : ℕ) (start outer inner : List ℕ) → IsPartition start → IsPartition outer → IsPartition inner
    → Same (times (schur start n) (skew_schur outer inner n)) (good_schurs n start outer inner)
product-good_schurs n start outer inner p o i = by (cases_lt n (rows start))
  where
    none : (b : Bool) → b ≡ false → flat_map (λ (T : List (List ℕ)). schur (start_plus_content n start T) n) (cond b (filter (is_good n start outer inner) (tableaux n outer inner)) []) ≡ []
    none b e = ap (λ (c : Bool). flat_map (λ (T : List (List ℕ)). schur (start_plus_content n start T) n) (cond c (filter (is_good n start outer inner) (tableaux n outer inner)) [])) e

    by : (n < rows start) ⊎ (rows start ≤ n) → Same (times (schur start n) (skew_schur outer inner n)) (good_schurs n start outer inner)
    by (inl h) = λ α.
        times_respects (schur start n) nothing (skew_schur outer inner n) (skew_schur outer inner n) (schur_few_variables n start p h) (Same_refl (skew_schur outer inner n)) α
        ∙ sym (ap (λ f. coefficient f α) (none (nat_le (rows start) n) (lt-leb (rows start) n h)))
    by (inr h) =
        staircase_cancels n (times (schur start n) (skew_schur outer inner n)) (good_schurs n start outer inner) (In_times n (schur start n) (skew_schur outer inner n) (In-skew_schur n start []) (In-skew_schur n outer inner)) (In-good_schurs n start outer inner)
        (Same_trans (times (alternant (staircase n)) (times (schur start n) (skew_schur outer inner n))) (good_alternants n start outer inner) (times (alternant (staircase n)) (good_schurs n start outer inner))
        (staircase_product n start outer inner p o i h)
        (Same_sym (times (alternant (staircase n)) (good_schurs n start outer inner)) (good_alternants n start outer inner) (staircase_times_good n start outer inner h o.falls)))
