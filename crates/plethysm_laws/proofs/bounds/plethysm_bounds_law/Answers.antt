use Rattle.std.proofs.Common.{length}
use Rattle.sym_model.specs.Plethysm.{repeated_monomials}
use Rattle.plethysm_laws.proofs.RepeatedMonomials.{repeated-sum, repeated-places}
use Rattle.plethysm_laws.proofs.SubstitutedBounds.{bounded-substitute}
use Rattle.plethysm_laws.proofs.ListBounds.{bounded-list}
use Rattle.plethysm_laws.proofs.PathBounds.{path-met}
use Rattle.plethysm_laws.proofs.bounds.plethysm_bounds_law.Goals as goal

pub returns-clause-plethysm : goal.returns-clause-plethysm
returns-clause-plethysm c = λ N a K b n f g o h i r.
    let γs = repeated_monomials b n g in
    bounded-substitute N a K b n (repeated_monomials b n g) (f (length γs)) g o
    (repeated-places b n g) (repeated-sum b n g h) h.places i (r (length γs))

pub returns-clause-path : goal.returns-clause-path
returns-clause-path c = λ K a b n terms g o p h i α l.
    path-met K b a n (repeated_monomials b n g) g terms o p (repeated-places b n g)
    (repeated-sum b n g h) h.places i α l

pub returns-clause-list : goal.returns-clause-list
returns-clause-list c = bounded-list
