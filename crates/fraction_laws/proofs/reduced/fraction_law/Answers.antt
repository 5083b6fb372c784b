use Rattle.sym_model.specs.Expansion.{Fraction}
use Rattle.fraction_laws.specs.Fractions.{InLowestTerms}
use Rattle.fraction_laws.proofs.Fractions.{same_fraction, Stands-sum, Stands-product, Stands-itself}
use Rattle.fraction_laws.proofs.FractionLaws.{sum_laws, ring_laws, field_laws}
use Rattle.fraction_laws.proofs.reduced.fraction_law.Goals as goal

pub returns-clause-same : goal.returns-clause-same
returns-clause-same c = same_fraction

pub returns-clause-sum : goal.returns-clause-sum
returns-clause-sum c r s l k = (Stands-sum r s _ _ _ _ (Stands-itself r l) (Stands-itself s k)).lowest

pub returns-clause-product : goal.returns-clause-product
returns-clause-product c r s l k = (Stands-product r s _ _ _ _ (Stands-itself r l) (Stands-itself s k)).lowest

pub returns-clause-sums : goal.returns-clause-sums
returns-clause-sums c = sum_laws InLowestTerms (λ (r : Fraction). r) (λ r l. l)

pub returns-clause-products : goal.returns-clause-products
returns-clause-products c = ring_laws InLowestTerms (λ (r : Fraction). r) (λ r l. l)

pub returns-clause-quotients : goal.returns-clause-quotients
returns-clause-quotients c = field_laws InLowestTerms (λ (r : Fraction). r) (λ r l. l)
