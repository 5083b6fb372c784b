use Rattle.std.proofs.lemmas.Cmp.{nat_list_eq_equiv}
use Rattle.sym_model.specs.Expansion.{basis_polynomial}
use Rattle.linear_combinations.proofs.Labels.{same_partition}
use Rattle.sparse_polys.proofs.Values.{represents-same_coefficients}
use Rattle.expression_reading.specs.Trees.{basis_of}
use Rattle.calc_replies.proofs.composing.composition.Goals as goal

pub returns-clause-expands : goal.returns-clause-expands
returns-clause-expands c = λ n.
    represents-same_coefficients nat_list_eq_equiv same_partition c.in_ok-list.list
    c.in_ok-terms.terms c.sorted_terms.ensures.was
    c.in_ok-terms.ensures.combination c.in_ok-terms.ensures.same
    (λ label. basis_polynomial (basis_of c.args.target) label n) _ _
    (c.in_ok-list.ensures.expands n)
