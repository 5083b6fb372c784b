use Rattle.std.proofs.Common.{sym, subst}
use Rattle.sym_model.specs.Expansion.{IsExpansionOf}
use Rattle.sym_model.specs.Expression.{cleared_value, denominator}
use Rattle.expression_reading.specs.Trees.{tree_of}
use Rattle.calc_replies.proofs.expanding.by_family.Goals as goal

pub returns-in-Ok-clause-expands : goal.returns-in-Ok-clause-expands
returns-in-Ok-clause-expands c = λ n.
    let e = tree_of c.args.formula.now.tree in
    subst (λ b. IsExpansionOf b c.in-Ok.list n (cleared_value e n) (denominator e))
    (sym c.requires.family) (c.in-Ok.ensures.value n)
