use Rattle.indexmap.proofs.CallerLemmas.{updates-with_value_at}
use Rattle.linear_combinations.proofs.lin.put_at.Goals as goal

pub returns-clause-updates : goal.returns-clause-updates
returns-clause-updates g c =
    λ p here. updates-with_value_at c.args.table.now c.args.at c.args.c g.met.L.Eq.laws
    c.len.ensures.unique p.0 p.1 here
