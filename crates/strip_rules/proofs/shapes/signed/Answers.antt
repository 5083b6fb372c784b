use Rattle.std.proofs.Common.{rules}
use Rattle.strip_rules.proofs.Signs.{signed_odd, signed_even, negation_large}
use Rattle.strip_rules.proofs.shapes.signed.Goals as goal

pub returns-then-height-eq1-clause-value : goal.returns-then-height-eq1-clause-value
returns-then-height-eq1-clause-value g c = search (rules, signed_odd)

pub returns-in_default-clause-large : goal.returns-in_default-clause-large
returns-in_default-clause-large g c q d = search (rules, negation_large)

pub returns-clause-value : goal.returns-clause-value
returns-clause-value g c =
    signed_even c.args.height (g.R.Scalar.value c.args.c) (g.R.Scalar.value c.in-Some.negated)
    c.requires.height c.if-height-eq1.false c.in-Some.ensures.answer.value

pub returns-clause-lowest : goal.returns-clause-lowest
returns-clause-lowest g c = g.met.R.Scalar.lowest c.in-Some.negated c.in-Some.ensures.held_negation
