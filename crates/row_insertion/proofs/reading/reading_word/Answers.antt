use Rattle.std.proofs.Common.{◌≡◌, ◌≤◌, ℕ, List, length, drop, reverse, ◌∙◌, ap, sym, arith}
use Rattle.sym_model.specs.Schur.{letters_of}
use Rattle.skew_shapes.proofs.StandardNumbers.{rows-tableau}
use Rattle.row_insertion.proofs.MadeTableaux.{read_more}
use Rattle.row_insertion.proofs.reading.reading_word.Goals as goal
use Rattle.std.proofs.Math.Seq.{drop-length}

pub loop-row-init : goal.loop-row-init
loop-row-init c =
    let t = c.args.t.now in
    let count : c.rows-row.result ≡ length t.rows =
    c.rows-row.ensures.value ∙ ap (λ (p : List ℕ). length p)
    (c.outer.ensures.value ∙ ap (λ (s : List ℕ × List ℕ). s.0) c.shape.ensures.value)
    ∙ sym (rows-tableau t c.shape.ensures.tableau) in
    record {
      within = omega arith;
      read =
          c.new-letters.ensures.items
          ∙ ap (λ (l : List (List ℕ)). letters_of (reverse l))
          (sym (ap (λ n. drop n t.rows) count ∙ drop-length t.rows));
    }

pub row-requires : goal.row-requires
row-requires c =
    let few : c.loop-row.row ≤ length c.args.t.now.outer =
    omega (
      arith,
      c.loop-row.invariant.within,
      rows-tableau c.args.t.now
          c.shape.ensures.tableau,
    ) in
    (omega arith, few)

pub loop-row-preserved : goal.loop-row-preserved
loop-row-preserved c =
    record {
      within = omega (arith, c.loop-row.invariant.within);
      read =
          read_more c.loop-row.letters.items c.extend_from_slice.new.self.items c.row.result.now
          c.args.t.now.rows c.loop-row.row
          (omega arith) c.loop-row.invariant.within c.loop-row.invariant.read c.row.ensures
          c.in_ok-extend_from_slice.ensures.items;
    }
