use Rattle.std.proofs.Common.{◌+◌, ◌*◌, ◌<◌, ◌/◌, ◌∙◌, sym, ap₂, subst, arith}
use Rattle.sym_model.specs.Weight.{factorial}
use Rattle.basis_change_laws.proofs.FactorialQuotients.{binomial-is, factors-positive}
use Rattle.basis_change_laws.proofs.FactorialQuotients.{within-factorial, quotient-small}
use Rattle.expand_in_families.proofs.factorials.binomial.Goals as goal

pub overflow_mul-result : goal.overflow_mul-result
overflow_mul-result c =
    let f = quotient-small c.args.a c.args.b c.requires in
    let e = ap₂ ◌*◌ c.factorial-2.ensures c.factorial-3.ensures in
    omega arith

pub nonzero_div-result : goal.nonzero_div-result
nonzero_div-result c = subst (λ n. 0 < n)
    (sym (ap₂ ◌*◌ c.factorial-2.ensures c.factorial-3.ensures)) (factors-positive c.args.a c.args.b)

pub returns-clause-value : goal.returns-clause-value
returns-clause-value c =
    ap₂ (λ x y. x / y * (factorial c.args.a * factorial c.args.b)) c.factorial.ensures
    (ap₂ ◌*◌ c.factorial-2.ensures c.factorial-3.ensures) ∙ binomial-is c.args.a c.args.b

pub returns-clause-small : goal.returns-clause-small
returns-clause-small c =
    within-factorial (c.factorial.result / (c.factorial-2.result * c.factorial-3.result))
    (factorial c.args.a * factorial c.args.b) (c.args.a + c.args.b)
    (ap₂ (λ x y. x / y * (factorial c.args.a * factorial c.args.b)) c.factorial.ensures
    (ap₂ ◌*◌ c.factorial-2.ensures c.factorial-3.ensures) ∙ binomial-is c.args.a c.args.b)
    (factors-positive c.args.a c.args.b) c.requires
