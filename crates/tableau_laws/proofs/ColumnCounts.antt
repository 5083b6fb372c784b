-- Counts of tableaux as sums over the ways to choose a tableau column by column (`over_columns`). Here a tableau is *good* for a partition `start` if
-- start plus the content of the columns right of column j is a partition, for each j ≥ 0. A *good reading* is the column reading of a good tableau.
use Rattle.std.proofs.Common.{◌≡◌, ℕ, zero, suc, ◌+◌, ◌≤◌, true, cond, ◌&&◌, List, [], ◌∷◌, length, replicate, nat_le, sym, ◌∙◌, ap, ap₂, refl, arith, ℤ, pos}
use Rattle.std.proofs.lemmas.Bool.{and_from, le-leb}
use Rattle.sym_model.specs.Sum.{total}
use Rattle.sym_model.specs.Partition.{Falls, IsPartition, rows, without_last_zeros}
use Rattle.sym_model.specs.Polynomial.{same, join, resize}
use Rattle.sym_model.specs.Schur.{contains, content}
use Rattle.sym_model.specs.GoodTableau.{is_falling, good_readings, product_count, lattice_readings, skew_count}
use Rattle.sym_model.proofs.Sums.{total_ext, length-select}
use Rattle.sym_model.proofs.Exponents.{resize-nil}
use Rattle.sym_model.proofs.Contents.{content-none}
use Rattle.sym_model.proofs.SortedParts.{IsPartition-none}
use Rattle.tableau_laws.specs.PaddedRows.{fillings_over}
use Rattle.tableau_laws.specs.Grid.{are_tableau_columns}
use Rattle.tableau_laws.specs.ColumnFold.{reading_of, sum_reached, is_good_by_columns, over_columns, column_lines, is_sum}
use Rattle.tableau_laws.proofs.ColumnReadings.{content-reading}
use Rattle.tableau_laws.proofs.ColumnSums.{of_good_columns, total_good_columns}
use Rattle.tableau_laws.proofs.GoodReadings.{of_good, total_good_readings}

join_zeros_resize : (n : ℕ) (start : List ℕ) → length start ≤ n → join start (replicate n 0) ≡ resize n start
join_zeros_resize n [] h = sym (resize-nil n)
join_zeros_resize zero (a ∷ start) h = absurd (omega arith)
join_zeros_resize (suc n) (a ∷ start) h = ap₂ ◌∷◌ (let e : a + 0 ≡ a = omega arith in e) (join_zeros_resize n start (omega arith))

pub sum_at_start : (n : ℕ) (start : List ℕ) → length start ≤ n → sum_reached n start [] ≡ resize n start
sum_at_start n start h = ap (join start) (content-none n) ∙ join_zeros_resize n start h

pub falling-resize : (n : ℕ) (parts : List ℕ) → Falls parts → is_falling (resize n parts) ≡ true
falling-resize zero parts f = refl
falling-resize (suc zero) [] f = refl
falling-resize (suc (suc n)) [] f = falling-resize (suc n) [] tt
falling-resize (suc zero) (a ∷ parts) f = refl
falling-resize (suc (suc n)) (a ∷ []) f = and_from (nat_le 0 a) (is_falling (0 ∷ resize n [])) (le-leb 0 a (omega arith)) (falling-resize (suc n) [] tt)
falling-resize (suc (suc n)) (a ∷ b ∷ parts) f = and_from (nat_le b a) (is_falling (b ∷ resize n parts)) (le-leb b a f.0) (falling-resize (suc n) (b ∷ parts) f.1)

pub total_readings_by_columns : (n : ℕ) (start outer inner : List ℕ) (f : List ℕ → ℤ)
    → IsPartition start → IsPartition outer → IsPartition inner → contains outer inner ≡ true → rows start ≤ n
    → total (λ w. f (join start (content n w))) (good_readings n start outer inner) ≡ over_columns n (column_lines outer inner) (λ ν right. f ν) (resize n start) []
total_readings_by_columns n start outer inner f s o i holds h =
    total_good_readings n start outer inner (λ w. f (join start (content n w))) o.falls i.falls holds
    ∙ ap (λ b. cond b (total (of_good n start (λ (cs : List (List ℕ)). f (join start (content n (reading_of cs))))) (fillings_over n (column_lines outer inner))) (pos 0)) (le-leb (rows start) n h)
    ∙ total_ext (of_good n start (λ (cs : List (List ℕ)). f (join start (content n (reading_of cs))))) (of_good_columns n start (λ ν right. f ν))
    (λ cs. ap (λ κ. cond (are_tableau_columns cs && is_good_by_columns n start cs) (f (join start κ)) (pos 0)) (content-reading n cs)) (fillings_over n (column_lines outer inner))
    ∙ total_good_columns n start (column_lines outer inner) (λ ν right. f ν)
    ∙ ap (λ ν. cond (is_falling ν) (over_columns n (column_lines outer inner) (λ ν' right. f ν') ν []) (pos 0)) (sum_at_start n start h)
    ∙ ap (λ b. cond b (over_columns n (column_lines outer inner) (λ ν right. f ν) (resize n start) []) (pos 0)) (falling-resize n start s.falls)

pub contains_nothing : (parts : List ℕ) → contains parts [] ≡ true
contains_nothing [] = refl
contains_nothing (a ∷ parts) = refl

pub product_count-columns : (k : ℕ) (λ' μ ν : List ℕ) → IsPartition λ' → IsPartition μ → rows λ' ≤ k
    → pos (product_count k λ' μ ν) ≡ over_columns k (column_lines μ []) (is_sum ν) (resize k λ') []
product_count-columns k λ' μ ν p q h =
    length-select (λ w. same (without_last_zeros (join λ' (content k w))) ν) (good_readings k λ' μ [])
    ∙ total_readings_by_columns k λ' μ [] (λ s. cond (same (without_last_zeros s) ν) (pos 1) (pos 0)) p q IsPartition-none (contains_nothing μ) h

pub skew_count-columns : (outer inner κ : List ℕ) → IsPartition outer → IsPartition inner → contains outer inner ≡ true
    → pos (skew_count outer inner κ) ≡ over_columns (rows outer) (column_lines outer inner) (is_sum κ) (resize (rows outer) []) []
skew_count-columns outer inner κ p q h =
    length-select (λ w. same (without_last_zeros (content (rows outer) w)) κ) (lattice_readings outer inner)
    ∙ total_readings_by_columns (rows outer) [] outer inner (λ s. cond (same (without_last_zeros s) κ) (pos 1) (pos 0)) IsPartition-none p q h (omega arith)
