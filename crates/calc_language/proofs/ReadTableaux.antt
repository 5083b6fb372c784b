-- The column reading of the rows that a command's words give, and the tableau that has this column reading.
use Rattle.std.proofs.Common.{◌≡◌, ◌≤◌, ℕ, true, List, length, get_or, sym, ap, ◌∙◌, arith, rules}
use Rattle.partitions.specs.Limits.{IsWithinLimits}
use Rattle.sym_model.proofs.SortedParts.{rows_within_size}
use Rattle.sym_model.specs.CommandOffence.{most_letters}
use Rattle.sym_model.specs.GoodTableau.{column_reading}
use Rattle.sym_model.specs.Partition.{size}
use Rattle.sym_model.specs.Schur.{letters_of}
use Rattle.sym_model.specs.Tableau.{IsTableau, IsStraightTableau, shape_of}
use Rattle.sym_model.proofs.Parts.{get_or-le-size}
use Rattle.sym_model.proofs.Tableaux.{length-letters_of}
use Rattle.skew_shapes.specs.CellFillings.{filled_with, is_tableau}
use Rattle.tableau_iter.proofs.EntryLimits.{filling_back}

pub is_tableau_back : (outer inner : List ℕ) (rows : List (List ℕ)) → IsTableau outer inner rows → is_tableau (filled_with outer inner (column_reading outer inner rows)) ≡ true
is_tableau_back outer inner rows t = search (rules, filling_back)

pub letters_as_shape : (first second : List (List ℕ)) → shape_of first ≡ shape_of second → length (letters_of first) ≡ length (letters_of second)
letters_as_shape first second h = length-letters_of first ∙ ap size h ∙ sym (length-letters_of second)

pub few_letters : (rows : List (List ℕ)) → IsStraightTableau rows → length (letters_of rows) ≤ most_letters → IsWithinLimits (shape_of rows)
few_letters rows t h = search (rules, rows_within_size, length-letters_of)

pub row_within : (rows : List (List ℕ)) (i : ℕ) → length (letters_of rows) ≤ most_letters → get_or (shape_of rows) i 0 ≤ 256
row_within rows i h = omega (arith, get_or-le-size (shape_of rows) i, length-letters_of rows, h)
