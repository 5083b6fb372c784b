use Rattle.schur_laws.proofs.Duality.{duality}
use Rattle.schur_laws.proofs.ProductCounts.{product_by_shape, product_outside, product_exchanged}
use Rattle.schur_laws.proofs.skew_duality.duality_law.Goals as goal

pub returns-clause-skew_shapes : goal.returns-clause-skew_shapes
returns-clause-skew_shapes c σ τ λ' μ s o i e h g = duality σ λ' μ τ s o i e h g

pub returns-clause-product : goal.returns-clause-product
returns-clause-product c λ' μ ν p q r h = product_by_shape λ' μ ν p q r h

pub returns-clause-outside : goal.returns-clause-outside
returns-clause-outside c λ' μ ν p q r h = product_outside λ' μ ν p q r h

pub returns-clause-exchange : goal.returns-clause-exchange
returns-clause-exchange c λ' μ ν p q r = product_exchanged λ' μ ν p q r
