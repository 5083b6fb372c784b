use Rattle.std.proofs.Common.{◌≡◌, List, ℕ, ℤ, sym, ◌∙◌, subst}
use Rattle.std.specs.Cmp.Lexicographic.{nat_list_eq_equiv}
use Rattle.sym_model.specs.Expansion.{Represents}
use Rattle.sym_model.specs.Polynomial.{pair, times}
use Rattle.sym_model.specs.Schubert.{schubert_in}
use Rattle.sym_model.specs.WholeTerms.{as_fractions}
use Rattle.linear_combinations.specs.Gains.{over}
use Rattle.linear_combinations.proofs.Labels.{same_partition}
use Rattle.linear_combinations.proofs.Masses.{over_same, represents_sums}
use Rattle.monk_product.proofs.row_product.product_if_fast.Goals as goal

pub returns : goal.returns
returns c = λ n.
    let terms = c.in_ok-sorted_terms.field-0 in
    let sums : (φ : List ℕ → ℤ) → over (λ x. pair (schubert_in x n) φ) terms
    ≡ pair (times (schubert_in c.args.u.now n) (schubert_in c.args.v.now n)) φ =
    λ φ.
    sym (over_same nat_list_eq_equiv same_partition c.in_ok-sum.sum terms
    c.in_ok-sorted_terms.ensures.was c.in_ok-sorted_terms.ensures.combination
    c.in_ok-sorted_terms.ensures.same (λ x. pair (schubert_in x n) φ))
    ∙ c.in_ok-sum.ensures.value n φ in
    subst (λ l. Represents (λ x. schubert_in x n) (as_fractions l)
    (times (schubert_in c.args.u.now n) (schubert_in c.args.v.now n)) 1)
    (sym c.in_ok-written_out.ensures)
    (represents_sums (λ x. schubert_in x n) terms
    (times (schubert_in c.args.u.now n) (schubert_in c.args.v.now n)) sums)
