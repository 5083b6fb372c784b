use Rattle.tableau_laws.proofs.ColumnCounts.{falling-resize}
use Rattle.alternant_laws.proofs.FallingAlternants.{coefficient_at_partition}
use Rattle.alternant_laws.proofs.SchurProducts.{product-good_schurs, skew-good_schurs}
use Rattle.alternant_laws.proofs.CountedTerms.{product_coefficients, product_counts_stable}
use Rattle.alternant_laws.proofs.CountedTerms.{skew_coefficients}
use Rattle.alternant_laws.proofs.ClassicalProducts.{classical_product-coefficient}
use Rattle.alternant_laws.proofs.stembridge.littlewood_richardson_law.Goals as goal

pub returns-clause-product : goal.returns-clause-product
returns-clause-product c = product-good_schurs

pub returns-clause-skew : goal.returns-clause-skew
returns-clause-skew c = skew-good_schurs

pub returns-clause-alternant : goal.returns-clause-alternant
returns-clause-alternant c = λ n α ν l f p h. coefficient_at_partition n α ν l f p h
    (falling-resize n ν p.falls)

pub returns-clause-product_coefficient : goal.returns-clause-product_coefficient
returns-clause-product_coefficient c = product_coefficients

pub returns-clause-product_stable : goal.returns-clause-product_stable
returns-clause-product_stable c = product_counts_stable

pub returns-clause-skew_coefficient : goal.returns-clause-skew_coefficient
returns-clause-skew_coefficient c = skew_coefficients

pub returns-clause-classical : goal.returns-clause-classical
returns-clause-classical c = classical_product-coefficient
