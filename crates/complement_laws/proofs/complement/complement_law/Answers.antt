use Rattle.complement_laws.proofs.Complements.{schur-complement, product-complement}
use Rattle.complement_laws.proofs.complement.complement_law.Goals as goal

pub returns-clause-schur : goal.returns-clause-schur
returns-clause-schur c = λ k n parts p r h. schur-complement k n parts (record { partition = p; few = r }) h

pub returns-clause-product : goal.returns-clause-product
returns-clause-product c = λ k n m left right outer p q r f g h a b d.
    product-complement k n m left right outer (record { partition = p; few = f }) (record { partition = q; few = g }) (record { partition = r; few = h }) a b d
