use Rattle.sym_model.specs.Expression.{sum, difference, negation}
use Rattle.basis_expand.proofs.Making.{failed-part, made-again}
use Rattle.basis_expand.proofs.Parts.{within-difference, within-subtracted, taken-right}
use Rattle.basis_expand.proofs.Parts.{taken-sum}
use Rattle.basis_expand.proofs.evaluation.subtracted.Goals as goal

pub returns-in_err-turned : goal.returns-in_err-turned
returns-in_err-turned g c e f t h k =
    let target = c.args.target.now in
    failed-part (g.T.Target.stands target) (g.T.Target.heavy target) (difference e f) (negation f) _
    _ c.from_residual.ensures.0 c.from_residual.ensures.1
    (c.in_err-turned.ensures f (taken-right g.T.Target.limit e f t) k)
    (g.met.T.Target.grows target (negation f) (difference e f)
    (within-subtracted e f t.plain.0 t.plain.1))

pub returns : goal.returns
returns g c e f t h k =
    let target = c.args.target.now in
    made-again (g.T.Target.stands target) (g.T.Target.heavy target) (sum e (negation f))
    (difference e f) _
    (g.met.T.Target.differs target e f)
    (g.met.T.Target.grows target (sum e (negation f)) (difference e f)
    (let w = within-difference e f in record { num = w.num; den = w.den; deg = w.deg }))
    (c.added.ensures e (negation f) (taken-sum g.T.Target.limit e f t) h (c.in_ok-turned.ensures f
    (taken-right g.T.Target.limit e f t) k).ok)
