use Rattle.std.proofs.Common.{◌*◌, ◌<◌, ◌/◌, ◌∙◌, sym, ap₂, subst}
use Rattle.sym_model.specs.Weight.{factorial}
use Rattle.monomial_laws.proofs.Growths.{factorial-positive}
use Rattle.basis_change_laws.proofs.FactorialQuotients.{rise-is, within-factorial}
use Rattle.expand_in_families.proofs.factorials.rise.Goals as goal

pub nonzero_div-result : goal.nonzero_div-result
nonzero_div-result c = subst (λ n. 0 < n) (sym c.factorial-2.ensures) (factorial-positive c.args.a)

pub returns-clause-value : goal.returns-clause-value
returns-clause-value c = ap₂ (λ x y. x / y * factorial c.args.a) c.factorial.ensures
    c.factorial-2.ensures ∙ rise-is c.args.a c.args.d c.requires.0

pub returns-clause-small : goal.returns-clause-small
returns-clause-small c =
    within-factorial (c.factorial.result / c.factorial-2.result) (factorial c.args.a) c.args.d
    (ap₂ (λ x y. x / y * factorial c.args.a) c.factorial.ensures c.factorial-2.ensures
    ∙ rise-is c.args.a c.args.d c.requires.0)
    (factorial-positive c.args.a) c.requires.1
