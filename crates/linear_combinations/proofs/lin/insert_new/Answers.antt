use Rattle.std.proofs.Common.{◌≢◌, pos}
use Rattle.std.specs.Prelude.{Some}
use Rattle.std.proofs.lemmas.Bool.{and_from}
use Rattle.fraction_laws.specs.Fractions.{whole}
use Rattle.linear_combinations.proofs.LowestTerms.{is_reduced-lowest}
use Rattle.linear_combinations.proofs.Tables.{IsCombination-put, held_found}
use Rattle.linear_combinations.proofs.lin.insert_new.Goals as goal

pub returns-clause-table : goal.returns-clause-table
returns-clause-table g c =
    let old = c.args.table.now.entries in
    let new = c.insert.new.self.entries in
    let finds = c.in_ok-insert.ensures.updates.0 in
    let held = c.is_zero.ensures.held in
    let other : g.R.Scalar.value c.args.c ≢ whole (pos 0) =
    λ zero. let t = c.is_zero.ensures.zero.1 zero in let f = c.if-is_zero.false in cc in
    record {
      combination = IsCombination-put g.met.L.Eq.laws g.met.L.Label.same_label g.L.Label.is_label
          g.R.Scalar.value old new c.args.label c.args.c c.requires.table.combination
          (and_from _ _ (is_reduced-lowest (g.R.Scalar.value c.args.c)
          (g.met.R.Scalar.lowest c.args.c held) other) c.lies_in_limits.ensures)
          c.in_ok-insert.ensures.unique finds;
      held = held_found g.L.PartialEq.eq g.R.Scalar.zero g.R.Scalar.is_held old new c.args.label
          (Some c.args.c) c.requires.table.held held finds;
    }
