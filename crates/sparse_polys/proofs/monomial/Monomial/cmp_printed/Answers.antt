use Rattle.std.proofs.Common.{◌≡◌, sym, ◌∙◌, rules}
use Rattle.sym_model.specs.PrintedOrder.{printed_order}
use Rattle.linear_combinations.proofs.Labels.{monomial_order_equal}
use Rattle.sparse_polys.proofs.ExponentOrder.{printed_order-trimmed}
use Rattle.sparse_polys.proofs.Labels.{is_monomial_label-from}
use Rattle.sparse_polys.proofs.monomial.Monomial.cmp_printed.Goals as goal

value : (c : goal.After-then) → c.then.result ≡ printed_order c.args.self.now c.args.other.now
value c = search (rules, printed_order-trimmed)

pub returns-clause-value : goal.returns-clause-value
returns-clause-value c = value c

pub returns-clause-equal : goal.returns-clause-equal
returns-clause-equal c =
    λ together.
    monomial_order_equal c.args.self.now c.args.other.now (is_monomial_label-from c.args.self.now
    c.degree-2.ensures.limits)
    (is_monomial_label-from c.args.other.now c.degree.ensures.limits) (sym (value c) ∙ together)
