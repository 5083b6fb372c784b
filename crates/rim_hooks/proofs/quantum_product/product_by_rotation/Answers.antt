use Rattle.std.proofs.Common.{rules}
use Rattle.rotation_laws.specs.Rotation.{AreTurned}
use Rattle.rim_hooks.proofs.TurnedFactors.{turned_few}
use Rattle.rim_hooks.proofs.quantum_product.product_by_rotation.Goals as goal

pub rotated_back-requires-clause-few : goal.rotated_back-requires-clause-few
rotated_back-requires-clause-few c =
    let k = c.args.k in
    let n = c.args.n in
    let bases = c.in-Ok-Some.bases in
    let turned : AreTurned k n c.args.factors.now bases.factors bases.turns bases.power = search rules in
    turned_few k n c.args.factors.now bases.factors bases.turns bases.power turned
