use Rattle.std.proofs.Common.{◌≡◌, ℕ, ◌+◌, ◌<◌, ◌≤◌, List, length, take, ap, arith, rules}
use Rattle.std.proofs.Common.{length-append}
use Rattle.std.proofs.lemmas.List.{take_all}
use Rattle.sym_model.specs.Schur.{letters_of, times_in}
use Rattle.sym_model.proofs.Contents.{times_in-append}
use Rattle.skew_shapes.specs.CellFillings.{row_of}
use Rattle.skew_shapes.proofs.StandardNumbers.{letters-more, length-letters-take, rows-tableau}
use Rattle.skew_shapes.proofs.StandardNumbers.{few-letters}
use Rattle.skew_shapes.proofs.standard.times.Goals as goal

more :
    (rows : List (List ℕ)) (row : List ℕ) (i count this number : ℕ) → i < length rows →
    row ≡ row_of rows (i + 1)
    → (count ≡ times_in number (letters_of (take i rows)))
    × (count ≤ length (letters_of (take i rows)))
    → this ≡ times_in number row → this ≤ length row
    → (count + this ≡ times_in number (letters_of (take (i + 1) rows)))
    × (count + this ≤ length (letters_of (take (i + 1) rows)))
more rows row i count this number h e so n l =
    search (rules, letters-more, times_in-append, length-append)

pub overflow_add-count : goal.overflow_add-count
overflow_add-count c = search (rules, rows-tableau, more, length-letters-take, few-letters)

pub loop-row-preserved : goal.loop-row-preserved
loop-row-preserved c =
    let t = c.args.t.now in
    let count = rows-tableau t c.shape.ensures.tableau in
    let within : c.loop-row.row < length c.args.t.now.rows =
    omega (
      arith,
      c.rows-row-end.ensures.value,
      ap length c.outer.ensures.value,
      ap (λ (s : List ℕ × List ℕ). length s.0) c.shape.ensures.value,
    ) in
    more t.rows c.row.result.now c.loop-row.row c.loop-row.count c.times_in_row-count.result
    c.args.number within c.row.ensures
    c.loop-row.invariant c.times_in_row-count.ensures.count c.times_in_row-count.ensures.most

pub returns : goal.returns
returns c = search (rules, rows-tableau, take_all)
