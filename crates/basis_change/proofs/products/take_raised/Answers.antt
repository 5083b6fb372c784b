use Rattle.std.proofs.Common.{◌≡◌, ◌∷◌, [], ◌++◌, get_or, ℕ, List, ap, Err, rules}
use Rattle.std.proofs.Common.{refl, ℤ, neg_ℤ}
use Rattle.sym_model.specs.RaisedPart.{raise}
use Rattle.sym_model.proofs.SortedParts.{IsPartition-raise, size-raise, has-zero_or, has-get_or}
use Rattle.linear_combinations.specs.Gains.{each_with}
use Rattle.linear_combinations.proofs.Gains.{places_gain, places_overflow}
use Rattle.linear_combinations.proofs.Steps.{error_is}
use Rattle.sparse_polys.proofs.PartitionTerms.{IsWithinLimits-low}
use Rattle.basis_change.specs.AugmentedProducts.{Mixed, equal, raised}
use Rattle.basis_change.proofs.products.take_raised.Goals as goal
use Rattle.std.proofs.lemmas.List.{get_or_default}
use Rattle.sym_model.proofs.Parts.{get_or-le-size}

abbrev taken : ℤ → List ℕ → ℕ → List ℕ → List ℕ → Mixed
taken z converted by augmented numbers = each_with z (raised converted by augmented numbers)

taken-append : (z : ℤ) (converted : List ℕ) (by : ℕ) (augmented xs ys : List ℕ) →
    taken z converted by augmented (xs ++ ys) ≡ taken z converted by augmented xs ++ taken z
    converted by augmented ys
taken-append z converted by augmented [] ys = refl
taken-append z converted by augmented (b ∷ xs) ys = ap (λ (l : Mixed).
    ((converted, raise by b augmented), z) ∷ l) (taken-append z converted by augmented xs ys)

pub take_one-requires-clause-small : goal.take_one-requires-clause-small
take_one-requires-clause-small c = search (rules, get_or-le-size)

pub take_one-requires-clause-limits : goal.take_one-requires-clause-limits
take_one-requires-clause-limits c =
    search (rules, size-raise, has-zero_or, has-get_or, IsWithinLimits-low, IsPartition-raise)

pub returns-in_err-take_one-clause-large : goal.returns-in_err-take_one-clause-large
returns-in_err-take_one-clause-large c err =
    let z = neg_ℤ c.args.c in
    let conv = c.args.converted.now in
    let aug = c.args.augmented.now in
    let i = c.loop-part.part-index in
    places_overflow (taken z conv c.args.by aug) (taken-append z conv c.args.by aug) aug i
    (get_or aug i 0) c.loop-part-test.true
    (get_or_default aug i 0 (get_or aug i 0) c.loop-part-test.true) c.args.sum.now c.loop-part.sum
    c.loop-part.invariant equal
    (c.in_err-take_one.ensures.large (ap Err (error_is _ _ _ c.from_residual.ensures.1 err)))

pub loop-part-preserved : goal.loop-part-preserved
loop-part-preserved c =
    let z = neg_ℤ c.args.c in
    let conv = c.args.converted.now in
    let aug = c.args.augmented.now in
    let i = c.loop-part.part-index in
    places_gain (taken z conv c.args.by aug) (taken-append z conv c.args.by aug) aug i
    (get_or aug i 0) c.loop-part-test.true
    (get_or_default aug i 0 (get_or aug i 0) c.loop-part-test.true) c.args.sum.now c.loop-part.sum
    c.loop-part.invariant c.take_one.new.sum c.in_ok-take_one.ensures.gains
