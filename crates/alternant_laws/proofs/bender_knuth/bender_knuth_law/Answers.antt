use Rattle.alternant_laws.proofs.TableauInvolution.{bender_knuth, symmetric-skew_schur}
use Rattle.alternant_laws.proofs.bender_knuth.bender_knuth_law.Goals as goal

pub returns-clause-involution : goal.returns-clause-involution
returns-clause-involution c = bender_knuth

pub returns-clause-symmetric : goal.returns-clause-symmetric
returns-clause-symmetric c = symmetric-skew_schur
