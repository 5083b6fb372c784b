use Rattle.schubert_laws.proofs.LowerPermutations.{transition_inversions}
use Rattle.transition_walk.proofs.places.transition_places.Goals as goal

pub returns-clause-fewer : goal.returns-clause-fewer
returns-clause-fewer c = transition_inversions c.args.w.now c.in_ok-r.r c.last_smaller.result
    c.last_descent.ensures.limits.kept.one_line c.last_smaller.ensures
