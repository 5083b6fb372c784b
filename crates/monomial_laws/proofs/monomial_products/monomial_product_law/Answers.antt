use Rattle.std.proofs.Common.{refl}
use Rattle.monomial_laws.proofs.Splits.{monomial_product, terms_product}
use Rattle.monomial_laws.proofs.monomial_products.monomial_product_law.Goals as goal

pub returns-clause-product : goal.returns-clause-product
returns-clause-product c = monomial_product

pub returns-clause-lists : goal.returns-clause-lists
returns-clause-lists c = terms_product

pub returns-clause-square : goal.returns-clause-square
returns-clause-square c = refl

pub returns-clause-apart : goal.returns-clause-apart
returns-clause-apart c = refl

pub returns-clause-two_ones : goal.returns-clause-two_ones
returns-clause-two_ones c = refl
