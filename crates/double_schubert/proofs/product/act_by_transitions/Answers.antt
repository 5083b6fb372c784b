use Rattle.std.proofs.Common.{sym, ap₂, ◌∙◌}
use Rattle.sym_model.specs.DoubleSchubert.{double_schubert_in, shifted_in}
use Rattle.sym_model.specs.Polynomial.{pair, times}
use Rattle.double_schubert_laws.specs.Factors.{acted}
use Rattle.double_schubert_laws.proofs.ProductSteps.{product_start}
use Rattle.linear_combinations.proofs.Labels.{same_pair}
use Rattle.linear_combinations.proofs.Masses.{over_same, represents_sums}
use Rattle.double_schubert.proofs.FactorGains.{label_laws}
use Rattle.double_schubert.proofs.product.act_by_transitions.Goals as goal

pub returns-clause-value : goal.returns-clause-value
returns-clause-value c n =
    represents_sums (λ label. shifted_in label n) c.in_ok-sorted_terms.field-0
    (times (double_schubert_in c.args.w.now n) (double_schubert_in c.args.other.now n))
    (λ φ.
    sym (over_same label_laws same_pair c.in_ok-sum.sum c.in_ok-sorted_terms.field-0
    c.in_ok-sum.ensures.table c.in_ok-sorted_terms.ensures.combination
    c.in_ok-sorted_terms.ensures.same (λ label. pair (shifted_in label n) φ))
    ∙ c.in_ok-sum.ensures.value n φ
    ∙ ap₂ (λ p e. acted n φ c.args.w.now (p, e)) c.in_ok-copy.ensures.ok c.one.ensures
    ∙ product_start n φ c.args.w.now c.args.other.now)
