-- The insertion tableau and the recording tableau of a permutation are standard. They are the tableaux of the chains of shapes in the last line and
-- in the last column of the growth grid of the permutation.
use Rattle.std.proofs.Common.{◌≡◌, ℕ, zero, suc, ◌+◌, ◌<◌, ◌≤◌, ◌==◌, cond, List, [], ◌∷◌, ◌++◌, length, ◌∙◌, ap, sym, refl, subst, inl, inr, arith}
use Rattle.std.proofs.lemmas.Bool.{cases_eq, eq-eqb, ne_eqb}
use Rattle.sym_model.specs.Insertion.{insertion_pair}
use Rattle.sym_model.specs.Partition.{size}
use Rattle.sym_model.specs.Permutation.{IsOneLine}
use Rattle.sym_model.specs.Schur.{letters_of, times_in}
use Rattle.sym_model.specs.StandardTableau.{IsStandard}
use Rattle.sym_model.specs.Tableau.{shape_of}
use Rattle.sym_model.proofs.Contents.{times_in-append}
use Rattle.insertion_laws.specs.Rows.{AreRows, RowsBelow}
use Rattle.insertion_laws.proofs.TableauRows.{rows_from, standard_from}
use Rattle.insertion_laws.proofs.WordsAndPairs.{pair_of, from_letters, as_many_cells, one_shape, recorded_tableau}
use Rattle.insertion_laws.proofs.InsertedWords.{first-tableau, inserted_word}
use Rattle.sym_model.specs.Growth.{grown, growth_shape, tableau_of_chain, with_end}
use Rattle.growth_diagrams.proofs.LocalRules.{below_run, tableau_of}
use Rattle.growth_diagrams.proofs.GrowthPairs.{at_most_all, first_of_grid, perm_from, second_of_grid}
use Rattle.perm_codes.specs.Limits.{IsWithinLimits}
use Rattle.sym_model.proofs.Sums.{letters_among}

times-with_end : (j i k : ℕ) (rows : List (List ℕ)) → times_in j (letters_of (with_end i k rows)) ≡ times_in j (letters_of rows) + cond (k == j) 1 0
times-with_end j i k [] = omega arith
times-with_end j zero k (row ∷ rows) =
    omega (
      arith,
      times_in-append j (row ++ k ∷ []) (letters_of rows),
      times_in-append j row (k ∷ []),
      times_in-append j row (letters_of rows),
    )
times-with_end j (suc i) k (row ∷ rows) =
    omega (
      arith,
      times_in-append j row (letters_of (with_end i k rows)),
      times_in-append j row (letters_of rows),
      times-with_end j i k rows,
    )

none_in_chain : (s : ℕ → List ℕ) (n j : ℕ) → n < j → times_in j (letters_of (tableau_of_chain s n)) ≡ 0
none_in_chain s zero j l = refl
none_in_chain s (suc n) j l =
    omega (
      arith,
      times-with_end j (grown (s (suc n)) (s n)) (suc n) (tableau_of_chain s n),
      none_in_chain s n j (omega arith),
      ap {B = ℕ} (λ t. cond t 1 0) (ne_eqb (suc n) j (λ e. omega arith)),
    )

once_in_chain : (s : ℕ → List ℕ) (n j : ℕ) → 1 ≤ j → j ≤ n → times_in j (letters_of (tableau_of_chain s n)) ≡ 1
once_in_chain s zero j l m = absurd (omega arith)
once_in_chain s (suc n) j l m = elim (cases_eq (suc n) j) [
  | inl e ↦
      omega (
        arith,
        times-with_end j (grown (s (suc n)) (s n)) (suc n) (tableau_of_chain s n),
        none_in_chain s n j (omega arith),
        ap {B = ℕ} (λ t. cond t 1 0) (eq-eqb (suc n) j e),
      )
  | inr d ↦
      omega (
        arith,
        times-with_end j (grown (s (suc n)) (s n)) (suc n) (tableau_of_chain s n),
        once_in_chain s n j l (omega arith),
        ap {B = ℕ} (λ t. cond t 1 0) (ne_eqb (suc n) j d),
      )
]

pub standard_insertion : (w : List ℕ) → IsOneLine w → IsStandard (insertion_pair w).0
standard_insertion w h =
    let n = length w in
    let p = perm_from w h in
    let rows = (insertion_pair w).0 in
    let pair = pair_of 1 w (from_letters w (letters_among w (λ a m. (h.letters a m).0))) in
    let here : tableau_of (length w) w ≡ (insertion_pair w).0 =
    ap (inserted_word []) (at_most_all n w p.at_most_n) ∙ sym (first-tableau w 1 [] []) in
    let e : suc (length w) ≡ length w + 1 = omega arith in
    standard_from 1 n (insertion_pair w).1 rows
    (record {
      p_rows = pair.q_rows;
      q_rows = pair.p_rows;
      shapes = sym pair.shapes;
      below = subst (λ k. RowsBelow k rows) e (subst (RowsBelow (suc (length w))) here (below_run n w [] tt));
      once = λ j l m. ap (λ (r : List (List ℕ)). times_in j (letters_of r)) (first_of_grid w p) ∙ once_in_chain (λ j. growth_shape w n j) n j l m;
      cells = as_many_cells w;
    })

-- ---- the rows that edges.rt reads from the last line and from the last column

-- the rows are those of a standard tableau of at most 512 cells
pub record AreStandardRows (rows : List (List ℕ)) : Type 0 where
  pub standard : IsStandard rows
  pub tableau : AreRows 1 rows
  pub few : size (shape_of rows) ≤ 512

standard_rows : (rows : List (List ℕ)) → IsStandard rows → size (shape_of rows) ≤ 512 → AreStandardRows rows
standard_rows rows h f = record { standard = h; tableau = rows_from rows h.tableau; few = f }

pub line_read :
    (w : List ℕ) (k : ℕ) (rows : List (List ℕ)) → IsWithinLimits w → k ≡ length w
    → rows ≡ tableau_of_chain (λ j. growth_shape w (length w) j) k → rows ≡ (insertion_pair w).0
line_read w k rows h e r =
    r ∙ ap (tableau_of_chain (λ j. growth_shape w (length w) j)) e ∙ sym (first_of_grid w (perm_from w h.kept.one_line))

pub column_read :
    (w : List ℕ) (k : ℕ) (rows : List (List ℕ)) → IsWithinLimits w → k ≡ length w
    → rows ≡ tableau_of_chain (λ i. growth_shape w i (length w)) k → rows ≡ (insertion_pair w).1
column_read w k rows h e r =
    r ∙ ap (tableau_of_chain (λ i. growth_shape w i (length w))) e ∙ sym (second_of_grid w (perm_from w h.kept.one_line))

pub line_standard : (w : List ℕ) (rows : List (List ℕ)) → IsWithinLimits w → rows ≡ (insertion_pair w).0 → AreStandardRows rows
line_standard w rows h e =
    let few = h.few in
    subst AreStandardRows (sym e)
    (standard_rows (insertion_pair w).0 (standard_insertion w h.kept.one_line) (omega (arith, as_many_cells w)))

pub column_standard : (w : List ℕ) (rows : List (List ℕ)) → IsWithinLimits w → rows ≡ (insertion_pair w).1 → AreStandardRows rows
column_standard w rows h e =
    let few = h.few in
    subst AreStandardRows (sym e)
    (standard_rows (insertion_pair w).1 (recorded_tableau w) (omega (arith, as_many_cells w, ap size (one_shape w))))
