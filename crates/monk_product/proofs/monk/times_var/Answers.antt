use Rattle.std.proofs.Common.{◌+◌, max, sym, ap, ◌∙◌, subst, arith, ◌+ℤ◌}
use Rattle.std.specs.Prelude.{Err}
use Rattle.sym_model.specs.Polynomial.{pair, times}
use Rattle.sym_model.specs.Schubert.{schubert_in}
use Rattle.sym_model.specs.DividedDifference.{variable_in}
use Rattle.sym_model.specs.WholeTerms.{combined, WholeTerms}
use Rattle.linear_combinations.proofs.Steps.{error_is}
use Rattle.linear_combinations.proofs.Masses.{represents_sums, weight_is, weight_grows}
use Rattle.monk_product.specs.Monk.{AreShort, over, mass, monk_terms, greatest_length}
use Rattle.linear_combinations.specs.Gains.{replaced}
use Rattle.monk_product.proofs.MonkGains.{longest, over_product, product_mass, product_short}
use Rattle.monk_product.proofs.MonkGains.{product_large, pair_product}
use Rattle.monk_product.proofs.monk.times_var.Goals as goal
use lib.IntN.{+ℤ_idl}

pub add_by-requires : goal.add_by-requires
add_by-requires c t m = (c.requires.first, c.requires.last, c.requires.letters t m)

pub returns-in_err-add_by-clause-large : goal.returns-in_err-add_by-clause-large
returns-in_err-add_by-clause-large c err =
    let large = product_large c.args.r c.requires.first c.args.list c.new-product.result
    c.add_by.new.self c.in_err-add_by.ensures.list (c.in_err-add_by.ensures.large
    (ap Err (error_is _ _ _ c.from_residual.ensures.1 err))) in
    let none = ap mass c.new-product.ensures in
    let w = weight_is c.args.list in
    omega arith

pub returns-clause-value : goal.returns-clause-value
returns-clause-value c n =
    represents_sums (λ w. schubert_in w n) c.add_by.new.self (times (variable_in c.args.r n)
    (combined (λ w. schubert_in w n) c.args.list))
    (λ φ.
    c.in_ok-add_by.ensures.gains.sums (λ w. pair (schubert_in w n) φ)
    ∙ ap (λ (ts : WholeTerms). over (λ w. pair (schubert_in w n) φ) ts +ℤ over
    (λ w. pair (schubert_in w n) φ) (replaced (monk_terms c.args.r) c.args.list))
    c.new-product.ensures
    ∙ +ℤ_idl (over (λ w. pair (schubert_in w n) φ) (replaced (monk_terms c.args.r) c.args.list))
    ∙ over_product c.args.r c.requires.first c.args.list (λ w. pair (schubert_in w n) φ)
    ∙ pair_product c.args.r c.requires.first c.args.list n φ c.in_ok-add_by.ensures.list)

pub returns-clause-weight : goal.returns-clause-weight
returns-clause-weight c =
    let most = max c.args.r (greatest_length c.args.list) in
    let a = product_mass c.args.r c.requires.first c.args.list c.new-product.result
    c.add_by.new.self c.in_ok-add_by.ensures.table c.in_ok-add_by.ensures.gains
    (max c.args.r (greatest_length c.args.list)) (longest c.args.list c.args.r) (omega arith) in
    let none = ap mass c.new-product.ensures in
    let first = c.requires.first in
    weight_grows c.args.list c.add_by.new.self (max c.args.r (greatest_length c.args.list))
    (omega arith) (omega arith)

pub returns-clause-short : goal.returns-clause-short
returns-clause-short c =
    product_short c.args.r c.requires.first c.args.list c.new-product.result c.add_by.new.self
    c.in_ok-add_by.ensures.table c.in_ok-add_by.ensures.gains
    (max c.args.r (greatest_length c.args.list)) (longest c.args.list c.args.r) (omega arith)
    (subst (λ (ts : WholeTerms). AreShort (max c.args.r (greatest_length c.args.list) + 1) ts)
    (sym c.new-product.ensures) (λ t m. absurd m))
