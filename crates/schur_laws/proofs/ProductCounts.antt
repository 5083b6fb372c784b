-- The coefficients of products of Schur polynomials as counts of lattice tableaux of skew shapes. A tableau T is good for the start λ, a partition,
-- if, for each column, λ plus the content of this column and of the columns to its right is a partition; `product_count k λ μ ν` is the number of
-- good tableaux T of the shape μ, with letters up to k, for which λ + content(T) = ν.
use Rattle.std.proofs.Common.{◌≡◌, ℕ, ◌<◌, ◌≤◌, ◌⊎◌, Bool, true, false, cond, List, [], ◌∷◌, map, length, sym, ◌∙◌, ap, refl, inl, inr, arith, pos, filter}
use Rattle.std.proofs.lemmas.Bool.{cases_lt, lt-leb, both_ways}
use Rattle.std.proofs.lemmas.Int.{ints}
use Rattle.sym_model.specs.Sum.{Among}
use Rattle.sym_model.specs.Partition.{IsPartition, cells, rows, without_last_zeros}
use Rattle.sym_model.specs.Polynomial.{same, join, resize, times}
use Rattle.sym_model.specs.Schur.{words, content, contains, tableaux, schur}
use Rattle.sym_model.specs.GoodTableau.{column_reading, is_good, is_among, product_count}
use Rattle.sym_model.specs.Alternant.{alternant, staircase}
use Rattle.sym_model.proofs.Polynomials.{Same_refl, times_respects}
use Rattle.sym_model.proofs.PolynomialLaws.{times_comm}
use Rattle.sym_model.proofs.SortedParts.{IsPartition-none}
use Rattle.tableau_laws.specs.ColumnFold.{over_columns, column_lines, is_sum}
use Rattle.tableau_laws.proofs.ColumnCounts.{contains_nothing, product_count-columns}
use Rattle.strip_laws.proofs.Containment.{contains_from_places}
use Rattle.alternant_laws.proofs.CountedTerms.{product_coefficients}
use Rattle.schur_laws.proofs.GoodTableaux.{IsTableau}
use Rattle.schur_laws.proofs.Duality.{rows_inside, counted, counted_tells, counted_by_columns, duality}

none_among : (ws : List (List ℕ)) → filter (λ (w : List ℕ). false) ws ≡ []
none_among [] = refl
none_among (w ∷ ws) = none_among ws

-- if the partition λ has more than k rows, there is no good tableau with letters up to k for the start λ, and `product_count k λ μ ν` is 0
pub product_count-none : (k : ℕ) (λ' μ ν : List ℕ) → k < rows λ' → product_count k λ' μ ν ≡ 0
product_count-none k λ' μ ν h =
    let came : List ℕ → Bool = λ w. same (without_last_zeros (join λ' (content k w))) ν in
    let ws = words k (length (cells μ [])) in
    ap (λ t. length (filter came (filter (λ w. is_among w (map (column_reading μ []) (cond t (filter (is_good k λ' μ []) (tableaux k μ [])) []))) ws))) (lt-leb (rows λ') k h)
    ∙ ap (λ l. length (filter came l)) (none_among ws)

pub product_by_shape : (λ' μ ν : List ℕ) → IsPartition λ' → IsPartition μ → IsPartition ν → contains ν λ' ≡ true
    → pos (product_count (rows ν) λ' μ ν) ≡ over_columns (rows μ) (column_lines ν λ') (is_sum μ) (resize (rows μ) []) []
product_by_shape λ' μ ν p q r h =
    product_count-columns (rows ν) λ' μ ν p q (rows_inside ν λ' p h)
    ∙ duality λ' μ [] ν p q IsPartition-none r (contains_nothing μ) h

-- if λ is not inside ν, no good tableau T of the shape μ for the start λ has λ + content(T) = ν, and `product_count` is 0
pub product_outside : (λ' μ ν : List ℕ) → IsPartition λ' → IsPartition μ → IsPartition ν → contains ν λ' ≡ false → product_count (rows ν) λ' μ ν ≡ 0
product_outside λ' μ ν p q r h = by (cases_lt (rows ν) (rows λ'))
  where
    holds : (P : List (List ℕ)) → IsTableau (rows ν) λ' μ [] ν P → contains ν λ' ≡ true
    holds P T = contains_from_places ν λ' (λ i. let e = T.sums i in omega arith)

    none : length λ' ≤ length ν → (xs : List (List (List ℕ))) → ((P : List (List ℕ)) → Among P xs → Among P (counted (length ν) λ' μ [] ν)) → length xs ≡ 0
    none l [] m = refl
    none l (P ∷ xs) m =
        let T = counted_tells (length ν) λ' μ [] ν P q.falls (contains_nothing μ) l (omega arith) (m P (inl refl)) in
        absurd (both_ways (contains ν λ') h (holds P T))

    by : (rows ν < rows λ') ⊎ (rows λ' ≤ rows ν) → product_count (rows ν) λ' μ ν ≡ 0
    by (inl l) = product_count-none (rows ν) λ' μ ν l
    by (inr l) =
        let a = product_count-columns (rows ν) λ' μ ν p q l ∙ sym (counted_by_columns (rows ν) λ' μ [] ν p l) in
        let b = none l (counted (length ν) λ' μ [] ν) (λ P m. m) in
        omega (arith, ints)

pub product_exchanged : (λ' μ ν : List ℕ) → IsPartition λ' → IsPartition μ → IsPartition ν → product_count (rows ν) λ' μ ν ≡ product_count (rows ν) μ λ' ν
product_exchanged λ' μ ν p q r =
    let n = rows ν in
    let e : pos (product_count n λ' μ ν) ≡ pos (product_count n μ λ' ν) =
    sym (product_coefficients n λ' μ ν p q r (omega arith))
    ∙ times_respects (alternant (staircase n)) (alternant (staircase n)) (times (schur λ' n) (schur μ n)) (times (schur μ n) (schur λ' n))
    (Same_refl (alternant (staircase n))) (times_comm (schur λ' n) (schur μ n)) (join ν (staircase n))
    ∙ product_coefficients n μ λ' ν q p r (omega arith) in
    omega (arith, ints)
