use Rattle.std.proofs.Common.{◌-◌, rules}
use Rattle.basis_expand.proofs.Evaluations.{nodes-first, nodes-next, nodes-fewer}
use Rattle.basis_expand.proofs.Evaluations.{nodes-all}
use Rattle.basis_expand.proofs.nodes.postorder.Goals as goal

pub loop-node-init : goal.loop-node-init
loop-node-init c = search (rules, nodes-first)

pub loop-node-preserved : goal.loop-node-preserved
loop-node-preserved c = search (rules, nodes-next)

pub loop-node-smaller : goal.loop-node-smaller
loop-node-smaller c = search (rules, nodes-fewer)

pub returns : goal.returns
returns c = search (rules, nodes-all)
