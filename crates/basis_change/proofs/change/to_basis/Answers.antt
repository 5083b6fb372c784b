use Rattle.std.proofs.Common.{◌≡◌, ◌*◌, ◌^◌, ◌<◌, ap, ◌∙◌, subst, Err, arith, mul-pos, rules}
use Rattle.std.proofs.lemmas.Nat.{mul-le}
use Rattle.sym_model.specs.Weight.{factorial, growth}
use Rattle.monomial_laws.proofs.Growths.{factorial-positive}
use Rattle.sparse_polys.proofs.Steps.{error_is}
use Rattle.sparse_polys.proofs.WholeLists.{if_ok_both}
use Rattle.sparse_polys.proofs.Quotients.{Quotients}
use Rattle.expression_reading.specs.Trees.{basis_of}
use Rattle.basis_change.specs.ClearedAnswer.{IsClearedBy}
use Rattle.basis_change.specs.Clearing.{clearing_factor}
use Rattle.basis_change.proofs.Bounds.{large-higher, large-least, wide}
use Rattle.basis_change.proofs.ChangedLists.{factor-positive, factor-multiplied, large-factor}
use Rattle.basis_change.proofs.ChangedLists.{limit-most}
use Rattle.basis_change.proofs.ClearedAnswers.{greatest_is, cleared-answer, large-term}
use Rattle.basis_change.proofs.ClearedAnswers.{whole-bounded, whole-within}
use Rattle.basis_change.proofs.Ends.{expansion-by}
use Rattle.basis_change.proofs.change.to_basis.Goals as goal

pub clearing_factor-requires : goal.clearing_factor-requires
clearing_factor-requires c = search (rules, limit-most)

pub returns-in_err-den-clause-large : goal.returns-in_err-den-clause-large
returns-in_err-den-clause-large c err d w =
    large-higher (basis_of c.args.target) c.args.bound.num c.args.bound.den
    c.greatest_size-size.result d (c.greatest_size-size.ensures.least d w)
    (large-factor (basis_of c.args.target) c.args.bound.num c.args.bound.den
    c.greatest_size-size.result c.requires.positive.0
    (let not_below : c.args.bound.den * c.clearing_factor.result < 2 ^ 127 → ⊥ = c.in_err-den.ensures
    in let e = ap (λ q. c.args.bound.den * q) c.clearing_factor.ensures in omega arith))

pub whole_terms-requires : goal.whole_terms-requires
whole_terms-requires c = search (rules, factor-positive, mul-le)

pub returns-in_err-terms-clause-large : goal.returns-in_err-terms-clause-large
returns-in_err-terms-clause-large c err d w =
    large-least (basis_of c.args.target) c.args.bound.num c.args.bound.den d c.requires.positive.1
    (large-term c.args.bound.num c.args.bound.den d c.args.list.now c.requires.bounded w
    (c.in_err-terms.ensures.large (ap Err (error_is _ _ _ c.from_residual-in_err-terms.ensures.1 err))))

pub quotients_in-requires-clause-low : goal.quotients_in-requires-clause-low
quotients_in-requires-clause-low c = c.greatest_size-size.ensures.least _ c.requires.sizes

pub quotients_in-requires-clause-sizes : goal.quotients_in-requires-clause-sizes
quotients_in-requires-clause-sizes c =
    whole-within c.args.bound.den c.args.list.now c.in_ok-terms.terms
    c.greatest_size-size.ensures.table c.in_ok-terms.ensures.table c.in_ok-terms.ensures.value
    c.greatest_size-size.result c.greatest_size-size.ensures.within

pub quotients_in-requires-clause-den : goal.quotients_in-requires-clause-den
quotients_in-requires-clause-den c = search (rules, mul-pos, factor-positive)

pub returns-clause-value : goal.returns-clause-value
returns-clause-value c =
    let den = c.in_ok-den.ensures.1 ∙ ap (λ q. c.args.bound.den * q) c.clearing_factor.ensures in
    if_ok_both c.quotients_in.result c.quotients_in.ensures.value c.quotients_in.ensures.table
    (λ answer quotients table.
    expansion-by (basis_of c.args.target) c.args.bound.num c.args.bound.den _ c.args.list.now answer
    c.in_ok-terms.terms quotients.whole c.requires.positive.1
    (factor-positive (basis_of c.args.target) c.greatest_size-size.result)
    c.greatest_size-size.ensures.table c.requires.bounded c.in_ok-terms.ensures.value
    quotients.value table
    (subst (λ d. Quotients d answer quotients.whole) den quotients.quotients))

pub returns-clause-cleared : goal.returns-clause-cleared
returns-clause-cleared c =
    let size = greatest_is c.greatest_size-size.result c.args.list.now
    c.greatest_size-size.ensures.within c.greatest_size-size.ensures.least in
    let b = whole-bounded c.args.bound.den c.args.list.now c.in_ok-terms.terms
    c.greatest_size-size.ensures.table c.in_ok-terms.ensures.table c.in_ok-terms.ensures.value
    c.args.bound.num c.requires.bounded in
    if_ok_both c.quotients_in.result c.quotients_in.ensures.value c.quotients_in.ensures.table
    (λ answer quotients table m.
    let den : c.in_ok-den.den ≡ c.args.bound.den * factorial c.greatest_size-size.result =
    c.in_ok-den.ensures.1 ∙ ap (λ q. c.args.bound.den * q) (c.clearing_factor.ensures
    ∙ factor-multiplied (basis_of c.args.target) c.greatest_size-size.result m) in
    subst (λ k. IsClearedBy (c.args.bound.den * factorial k) (c.args.bound.num * growth
    (basis_of c.args.target) k) k answer) size
    (cleared-answer (c.args.bound.den * factorial c.greatest_size-size.result)
    c.greatest_size-size.result quotients.whole answer
    (mul-pos c.requires.positive.1 (factorial-positive c.greatest_size-size.result)) table
    (subst (λ d. Quotients d answer quotients.whole) den quotients.quotients)
    (c.args.bound.num * growth (basis_of c.args.target) c.greatest_size-size.result)
    (quotients.few m c.args.bound.num b) (quotients.within m)))

pub returns-clause-large : goal.returns-clause-large
returns-clause-large c err d w =
    let g = growth (basis_of c.args.target) c.greatest_size-size.result in
    large-higher (basis_of c.args.target) c.args.bound.num c.args.bound.den
    c.greatest_size-size.result d (c.greatest_size-size.ensures.least d w)
    (wide (2 ^ 127) c.args.bound.num c.args.bound.den g g c.requires.positive.1
    (c.quotients_in.ensures.large err c.args.bound.num
    (whole-bounded c.args.bound.den c.args.list.now c.in_ok-terms.terms
    c.greatest_size-size.ensures.table c.in_ok-terms.ensures.table c.in_ok-terms.ensures.value
    c.args.bound.num c.requires.bounded)) (omega arith))
