use Rattle.std.proofs.Common.{arith}
use Rattle.double_schubert.proofs.EightLetters.{inversions_of_eight}
use Rattle.double_schubert.proofs.product.act.Goals as goal

pub act_by_transitions-requires : goal.act_by_transitions-requires
act_by_transitions-requires c =
    let a = c.requires.first in
    let b = c.requires.second in
    let i = inversions_of_eight c.args.w.now c.requires.first in
    omega arith
