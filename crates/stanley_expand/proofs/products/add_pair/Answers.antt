use Rattle.std.proofs.lemmas.Result.{on_ok_weaker}
use Rattle.sym_model.specs.Polynomial.{times}
use Rattle.sym_model.specs.Schur.{schur}
use Rattle.transition_walk.proofs.Answering.{sums_represented}
use Rattle.stanley_expand.proofs.SumsAdded.{added_as, rows_listed}
use Rattle.stanley_expand.proofs.products.add_pair.Goals as goal

pub add_multiple-requires : goal.add_multiple-requires
add_multiple-requires c = rows_listed c.args.rows c.in_ok-mult.field-0 c.in_ok-mult.ensures.meets.1

pub returns : goal.returns
returns c =
    on_ok_weaker c.add_multiple.result
    (added_as c.args.rows c.args.sum.now c.in_ok-mult.field-0 c.args.count (times (schur c.args.left.now c.args.rows) (schur c.args.right.now c.args.rows)) c.add_multiple.new.sum
    (sums_represented (λ κ. schur κ c.args.rows) c.in_ok-mult.field-0 (times (schur c.args.left.now c.args.rows) (schur c.args.right.now c.args.rows)) c.in_ok-mult.ensures.meets.0))
    c.add_multiple.ensures
