use Rattle.std.proofs.Common.{◌≡◌, ◌++◌, drop}
use Rattle.sym_model.specs.RaisedPart.{without_one}
use Rattle.sparse_polys.proofs.PartLists.{rest_of}
use Rattle.sparse_polys.proofs.parts.without_part.Given as goal

abbrev pub invariant-loop-p : goal.invariant-loop-p
invariant-loop-p l = l.rest.items ++ rest_of l.found l.part (drop l.p-index l.parts) ≡ without_one l.part l.parts
