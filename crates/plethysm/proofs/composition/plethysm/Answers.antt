use Rattle.std.proofs.Common.{◌*◌, ◌+◌, ◌^◌, ◌<◌, ℕ, List, length, ap, sym, ◌∙◌, subst, arith, Err, mul-pos}
use Rattle.std.proofs.lemmas.Nat.{mul-le}
use Rattle.sym_model.specs.Expansion.{power_sums, IsExpansionOf}
use Rattle.sym_model.specs.Plethysm.{repeated_monomials, substitute}
use Rattle.sym_model.specs.Weight.{growth}
use Rattle.monomial_laws.specs.ExpressionTerms.{in_monomials}
use Rattle.expression_reading.specs.Trees.{basis_of}
use Rattle.sparse_polys.specs.MonomialProducts.{greatest_size}
use Rattle.linear_combinations.proofs.Steps.{error_is}
use Rattle.sparse_polys.proofs.Rows.{greatest_size-among}
use Rattle.sparse_polys.proofs.Bounds.{greatest-within}
use Rattle.sparse_polys.proofs.Quotients.{Quotients}
use Rattle.sparse_polys.proofs.WholeLists.{if_ok_both}
use Rattle.basis_change.specs.Clearing.{clearing_factor}
use Rattle.basis_change.proofs.Bounds.{large-least, wide}
use Rattle.basis_change.proofs.ChangedLists.{factor-positive, large-factor}
use Rattle.basis_change.proofs.ClearedAnswers.{large-term, whole-bounded, whole-within}
use Rattle.plethysm_laws.proofs.RepeatedMonomials.{repeated-places}
use Rattle.plethysm_laws.proofs.PathWeights.{weight-finished, weight-outer}
use Rattle.plethysm_laws.proofs.PathWeights.{weight-rises}
use Rattle.plethysm.proofs.Constants.{constant-expansion}
use Rattle.plethysm.proofs.FinishedBounds.{finished-bounded, finished-within}
use Rattle.plethysm.proofs.FinishedNumbers.{positive-bound, degree_limit-ten}
use Rattle.plethysm.proofs.FinishedNumbers.{product-low}
use Rattle.plethysm.proofs.InnerLists.{bounded_sum, inner-value, within-inner}
use Rattle.plethysm.proofs.PlethysmAnswers.{repeated_same, expansion-composed}
use Rattle.plethysm.proofs.composition.plethysm.Goals as goal

pub overflow_mul-size : goal.overflow_mul-size
overflow_mul-size c =
    let x = c.greatest_size-a.ensures.least (greatest_size c.args.outer.now)
    (λ t m. greatest_size-among c.args.outer.now t m) in
    let y = c.greatest_size-b.ensures.least (greatest_size c.args.inner.now)
    (λ t m. greatest_size-among c.args.inner.now t m) in
    let p = product-low _ _ _ _ 10 x y c.requires.sizes.2 in
    omega arith

pub clearing_factor-requires : goal.clearing_factor-requires
clearing_factor-requires c =
    let x = c.greatest_size-a.ensures.least (greatest_size c.args.outer.now)
    (λ t m. greatest_size-among c.args.outer.now t m) in
    let y = c.greatest_size-b.ensures.least (greatest_size c.args.inner.now)
    (λ t m. greatest_size-among c.args.inner.now t m) in
    let p = product-low _ _ _ _ 10 x y c.requires.sizes.2 in
    omega arith

pub returns-in_err-den-clause-large : goal.returns-in_err-den-clause-large
returns-in_err-den-clause-large c err a b v w =
    let not_below : c.args.outer_bound.den * c.clearing_factor.result < 2 ^ 127 → ⊥ =
    c.in_err-den.ensures in
    let e = ap (λ q. c.args.outer_bound.den * q) c.clearing_factor.ensures in
    let l = large-factor (basis_of c.args.target) _ c.args.outer_bound.den
    (c.greatest_size-a.result * c.greatest_size-b.result)
    (positive-bound c.args.outer_bound.num c.greatest_size-a.result c.args.inner_bound.num
    c.greatest_size-b.result c.requires.positive.0 c.requires.positive.2) (omega arith) in
    let finished = weight-finished c.args.outer_bound.num c.args.outer_bound.den
    c.greatest_size-a.result c.args.inner_bound.num c.greatest_size-b.result
    c.requires.positive.0 c.requires.positive.1 c.requires.positive.2 (basis_of c.args.target) in
    let more = weight-rises c.args.outer_bound.num c.args.outer_bound.den c.greatest_size-a.result a
    c.args.inner_bound.num c.greatest_size-b.result b c.requires.positive.2
    (c.greatest_size-a.ensures.least a v) (c.greatest_size-b.ensures.least b w) in
    omega arith

pub whole_terms-requires : goal.whole_terms-requires
whole_terms-requires c =
    let p = factor-positive (basis_of c.args.target)
    (c.greatest_size-a.result * c.greatest_size-b.result) in
    let m = mul-le c.args.outer_bound.den 1 c.args.outer_bound.den
    (clearing_factor (basis_of c.args.target)
    (c.greatest_size-a.result * c.greatest_size-b.result)) (omega arith) p in
    let e = ap (λ q. c.args.outer_bound.den * q) c.clearing_factor.ensures in
    omega (arith, c.in_ok-den.ensures.0)

pub returns-in_err-whole-clause-large : goal.returns-in_err-whole-clause-large
returns-in_err-whole-clause-large c err a b v w =
    let l = large-least power_sums c.args.outer_bound.num c.args.outer_bound.den a
    c.requires.positive.1
    (large-term c.args.outer_bound.num c.args.outer_bound.den a c.args.outer.now c.requires.outer v
    (c.in_err-whole.ensures.large (ap Err (error_is _ _ _ c.from_residual-in_err-whole.ensures.1 err)))) in
    let x = weight-outer c.args.outer_bound.num c.args.outer_bound.den a c.args.inner_bound.num b
    c.requires.positive.0 c.requires.positive.1 c.requires.positive.2 in
    omega arith

pub in_m-requires-clause-size : goal.in_m-requires-clause-size
in_m-requires-clause-size c =
    let a = c.greatest_size-a.ensures.least (greatest_size c.args.outer.now)
    (λ t m. greatest_size-among c.args.outer.now t m) in
    omega (arith, c.requires.sizes.0)

pub in_m-requires-clause-sizes : goal.in_m-requires-clause-sizes
in_m-requires-clause-sizes c =
    whole-within c.args.outer_bound.den c.args.outer.now c.in_ok-whole.whole
    c.greatest_size-a.ensures.table c.in_ok-whole.ensures.table c.in_ok-whole.ensures.value
    c.greatest_size-a.result c.greatest_size-a.ensures.within

pub in_m-requires-clause-low : goal.in_m-requires-clause-low
in_m-requires-clause-low c =
    let x = c.greatest_size-a.ensures.least (greatest_size c.args.outer.now)
    (λ t m. greatest_size-among c.args.outer.now t m) in
    let y = greatest-within (greatest_size c.args.inner.now) c.in_ok-inner.inner
    (within-inner c.args.inner.now c.in_ok-inner.inner c.in_ok-inner.ensures.value
    c.greatest_size-b.ensures.table c.in_ok-inner.ensures.table) in
    product-low _ _ _ _ 512 x y (omega (arith, c.requires.sizes.2))

pub returns-in_err-terms-clause-large : goal.returns-in_err-terms-clause-large
returns-in_err-terms-clause-large c err a b v w =
    let h = bounded_sum c.args.inner.now c.in_ok-inner.inner c.in_ok-inner.ensures.value
    c.greatest_size-b.ensures.table c.in_ok-inner.ensures.table c.args.inner_bound.num
    c.args.inner_bound.den c.greatest_size-b.result c.requires.positive.2 c.requires.whole c.requires.natural
    c.greatest_size-b.ensures.within c.requires.inner in
    let l = c.in_err-terms.ensures.large
    (ap Err (error_is _ _ _ c.from_residual-in_err-terms.ensures.1 err))
    c.args.outer_bound.num c.args.outer_bound.den c.args.inner_bound.num c.greatest_size-b.result
    c.requires.positive.0 c.requires.positive.1 c.requires.positive.2
    (whole-bounded c.args.outer_bound.den c.args.outer.now c.in_ok-whole.whole
    c.greatest_size-a.ensures.table c.in_ok-whole.ensures.table c.in_ok-whole.ensures.value
    c.args.outer_bound.num c.requires.outer) h in
    let more = weight-rises c.args.outer_bound.num c.args.outer_bound.den c.greatest_size-a.result a
    c.args.inner_bound.num c.greatest_size-b.result b c.requires.positive.2
    (c.greatest_size-a.ensures.least a v) (c.greatest_size-b.ensures.least b w) in
    omega arith

pub in_basis-requires-clause-low : goal.in_basis-requires-clause-low
in_basis-requires-clause-low c =
    let x = c.greatest_size-a.ensures.least (greatest_size c.args.outer.now)
    (λ t m. greatest_size-among c.args.outer.now t m) in
    let y = c.greatest_size-b.ensures.least (greatest_size c.args.inner.now)
    (λ t m. greatest_size-among c.args.inner.now t m) in
    let p = product-low _ _ _ _ 10 x y c.requires.sizes.2 in
    let ten = degree_limit-ten (basis_of c.args.target) in
    omega arith

pub in_basis-requires-clause-sizes : goal.in_basis-requires-clause-sizes
in_basis-requires-clause-sizes c =
    let h = bounded_sum c.args.inner.now c.in_ok-inner.inner c.in_ok-inner.ensures.value
    c.greatest_size-b.ensures.table c.in_ok-inner.ensures.table c.args.inner_bound.num
    c.args.inner_bound.den c.greatest_size-b.result c.requires.positive.2 c.requires.whole c.requires.natural
    c.greatest_size-b.ensures.within c.requires.inner in
    finished-within c.args.outer_bound.num c.args.outer_bound.den c.greatest_size-a.result
    (c.args.inner_bound.num * (c.greatest_size-b.result + 1)) c.greatest_size-b.result
    c.args.outer.now c.in_ok-whole.whole c.in_ok-inner.inner c.in_ok-terms.terms
    c.greatest_size-a.ensures.table c.requires.outer c.greatest_size-a.ensures.within
    c.in_ok-whole.ensures.value h c.in_ok-terms.ensures.table
    (c.in_ok-terms.ensures.value (c.args.inner_bound.num * (c.greatest_size-b.result + 1))
    c.greatest_size-b.result h)

pub returns-in_err-answer-clause-large : goal.returns-in_err-answer-clause-large
returns-in_err-answer-clause-large c err a b v w =
    let h = bounded_sum c.args.inner.now c.in_ok-inner.inner c.in_ok-inner.ensures.value
    c.greatest_size-b.ensures.table c.in_ok-inner.ensures.table c.args.inner_bound.num
    c.args.inner_bound.den c.greatest_size-b.result c.requires.positive.2 c.requires.whole c.requires.natural
    c.greatest_size-b.ensures.within c.requires.inner in
    let g = growth (basis_of c.args.target) (c.greatest_size-a.result * c.greatest_size-b.result) in
    let l = wide (2 ^ 127) _ c.args.outer_bound.den g g c.requires.positive.1
    (c.in_err-answer.ensures.large
    (ap Err (error_is _ _ _ c.from_residual-in_err-answer.ensures.1 err)) _
    (finished-bounded c.args.outer_bound.num c.args.outer_bound.den c.greatest_size-a.result
    (c.args.inner_bound.num * (c.greatest_size-b.result + 1)) c.greatest_size-b.result
    c.args.outer.now c.in_ok-whole.whole c.in_ok-inner.inner c.in_ok-terms.terms
    c.greatest_size-a.ensures.table c.requires.outer c.greatest_size-a.ensures.within
    c.in_ok-whole.ensures.value h c.in_ok-terms.ensures.table
    (c.in_ok-terms.ensures.value (c.args.inner_bound.num * (c.greatest_size-b.result + 1))
    c.greatest_size-b.result h))) (omega arith) in
    let finished = weight-finished c.args.outer_bound.num c.args.outer_bound.den
    c.greatest_size-a.result c.args.inner_bound.num c.greatest_size-b.result
    c.requires.positive.0 c.requires.positive.1 c.requires.positive.2 (basis_of c.args.target) in
    let more = weight-rises c.args.outer_bound.num c.args.outer_bound.den c.greatest_size-a.result a
    c.args.inner_bound.num c.greatest_size-b.result b c.requires.positive.2
    (c.greatest_size-a.ensures.least a v) (c.greatest_size-b.ensures.least b w) in
    omega arith

pub divided-requires : goal.divided-requires
divided-requires c =
    let p = mul-pos c.requires.positive.1 (factor-positive (basis_of c.args.target)
    (c.greatest_size-a.result * c.greatest_size-b.result)) in
    let e = c.in_ok-den.ensures.1 ∙ ap (λ q. c.args.outer_bound.den * q) c.clearing_factor.ensures in
    (omega arith, omega (arith, c.in_ok-den.ensures.0))

pub returns-clause-value : goal.returns-clause-value
returns-clause-value c =
    if_ok_both c.divided.result c.divided.ensures.value c.divided.ensures.table
    (λ answer quotients table b w n f g q x y.
    let h = bounded_sum c.args.inner.now c.in_ok-inner.inner c.in_ok-inner.ensures.value
    c.greatest_size-b.ensures.table c.in_ok-inner.ensures.table c.args.inner_bound.num
    c.args.inner_bound.den b c.requires.positive.2 c.requires.whole c.requires.natural
    w c.requires.inner in
    let e = inner-value c.args.inner.now c.in_ok-inner.inner c.in_ok-inner.ensures.value
    (λ t m. (c.requires.natural t m).0) n g y in
    let γs = repeated_monomials b n (in_monomials c.in_ok-inner.inner n) in
    subst (λ (γs : List (List ℕ)). IsExpansionOf (basis_of c.args.target) answer n
    (substitute n γs (f (length γs))) q)
    (sym (repeated_same b n g (in_monomials c.in_ok-inner.inner n) e))
    (expansion-composed (basis_of c.args.target) c.args.outer_bound.num c.args.outer_bound.den _ q n
    γs c.args.outer.now answer c.in_ok-whole.whole c.in_ok-terms.terms
    c.in_ok-answer.answer (f (length γs)) c.requires.positive.1
    (factor-positive (basis_of c.args.target)
    (c.greatest_size-a.result * c.greatest_size-b.result)) c.greatest_size-a.ensures.table
    c.requires.outer c.in_ok-whole.ensures.value
    (c.in_ok-terms.ensures.value (c.args.inner_bound.num * (b + 1)) b h n)
    c.in_ok-answer.ensures.value table
    (subst (λ d. Quotients d answer c.in_ok-answer.answer) (c.in_ok-den.ensures.1
    ∙ ap (λ q. c.args.outer_bound.den * q) c.clearing_factor.ensures) quotients) (x (length γs))))

pub returns-clause-constant : goal.returns-clause-constant
returns-clause-constant c =
    if_ok_both c.divided.result c.divided.ensures.value c.divided.ensures.table
    (λ answer quotients table none n b q f g x.
    let h = bounded_sum c.args.inner.now c.in_ok-inner.inner c.in_ok-inner.ensures.value
    c.greatest_size-b.ensures.table c.in_ok-inner.ensures.table c.args.inner_bound.num
    c.args.inner_bound.den c.greatest_size-b.result c.requires.positive.2 c.requires.whole c.requires.natural
    c.greatest_size-b.ensures.within c.requires.inner in
    let own = in_monomials c.in_ok-inner.inner n in
    let y = c.greatest_size-b.result in
    let γs = repeated_monomials c.greatest_size-b.result n (in_monomials c.in_ok-inner.inner n) in
    constant-expansion c.args.outer.now f q c.greatest_size-a.ensures.table none x
    (basis_of c.args.target) answer n γs (repeated_monomials b n g) (repeated-places y n own)
    (repeated-places b n g)
    (expansion-composed (basis_of c.args.target) c.args.outer_bound.num c.args.outer_bound.den _ q n
    γs c.args.outer.now answer c.in_ok-whole.whole c.in_ok-terms.terms
    c.in_ok-answer.answer (f (length γs)) c.requires.positive.1
    (factor-positive (basis_of c.args.target)
    (c.greatest_size-a.result * c.greatest_size-b.result)) c.greatest_size-a.ensures.table
    c.requires.outer c.in_ok-whole.ensures.value
    (c.in_ok-terms.ensures.value (c.args.inner_bound.num * (c.greatest_size-b.result + 1))
    c.greatest_size-b.result h n) c.in_ok-answer.ensures.value table
    (subst (λ d. Quotients d answer c.in_ok-answer.answer) (c.in_ok-den.ensures.1
    ∙ ap (λ q. c.args.outer_bound.den * q) c.clearing_factor.ensures) quotients) (x (length γs))))
