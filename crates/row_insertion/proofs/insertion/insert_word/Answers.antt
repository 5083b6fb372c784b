use Rattle.std.proofs.Common.{◌≡◌, ℕ, List, rules, ◌<◌, length, get_or, ap, sym, refl, subst, arith}
use Rattle.std.proofs.lemmas.Grind.{common_steps}
use Rattle.sym_model.specs.Insertion.{insertion_pair}
use Rattle.sym_model.specs.Knuth.{IsOnlyTableauOf}
use Rattle.insertion_laws.proofs.ReadingWords.{only_tableau_of}
use Rattle.sym_model.specs.StandardTableau.{IsStandard}
use Rattle.row_insertion.specs.RowLists.{rows_in}
use Rattle.row_insertion.proofs.GrowingRows.{length-rows_in}
use Rattle.row_insertion.proofs.Overwriting.{any_default}
use Rattle.row_insertion.proofs.WordRuns.{run_place, run_more, run_standard}
use Rattle.row_insertion.proofs.insertion.insert_word.Goals as goal

pub push_at-requires : goal.push_at-requires
push_at-requires c =
    omega (
      arith,
      run_place c.args.letters.now c.loop-at.at c.in_ok-row.row (rows_in c.loop-at.insertion.items)
          (rows_in c.loop-at.recording.items)
          (rows_in c.insert.new.rows.items) c.loop-at.invariant c.in_ok-row.ensures.row,
      length-rows_in c.loop-at.recording.items,
    )

pub loop-at-preserved : goal.loop-at-preserved
loop-at-preserved c =
    let w = c.args.letters.now in
    let within : c.loop-at.at < length w = omega arith in
    let a = get_or w c.loop-at.at 0 in
    run_more w c.loop-at.at a c.in_ok-row.row (rows_in c.loop-at.insertion.items)
    (rows_in c.loop-at.recording.items)
    (rows_in c.insert.new.rows.items) (rows_in c.push_at.new.rows.items) within c.requires.letters
    (any_default w c.loop-at.at c.loop-at.at 0 a within refl refl) c.loop-at.invariant
    c.in_ok-row.ensures.rows c.in_ok-row.ensures.row
    c.in_ok-push_at.ensures

pub standard_of-requires-clause-standard : goal.standard_of-requires-clause-standard
standard_of-requires-clause-standard c =
    subst IsStandard (ap rows_in (sym c.deref-2.ensures.value))
    (run_standard c.args.letters.now c.loop-at.at (rows_in c.loop-at.insertion.items)
    (rows_in c.loop-at.recording.items) c.loop-at.invariant)

pub returns-clause-only : goal.returns-clause-only
returns-clause-only c =
    let w = c.args.letters.now in
    let e : (c.in_ok-p.p.rows, c.in_ok-q.q.rows) ≡ insertion_pair c.args.letters.now =
    first_of (search rules, grind (arith, common_steps)) in
    subst (IsOnlyTableauOf w) (sym (ap (λ (r : List (List ℕ) × List (List ℕ)). r.0) e))
    (only_tableau_of w c.requires.letters)
