use Rattle.std.proofs.Common.{◌-◌}
use Rattle.sparse_polys.specs.Tables.{IsWholeTable}
use Rattle.basis_expand.specs.Contents.{CountsContents}
use Rattle.basis_expand.proofs.schurs_in_monomials.+add_contents.Given as goal

abbrev pub decreases-add_contents : goal.decreases-add_contents
decreases-add_contents l = l.left

-- the labels that continue `chosen` with a next part less than `part` have been added to `list`, each with its coefficient
abbrev pub invariant-loop-part : goal.invariant-loop-part
invariant-loop-part l = record {
  counted : CountsContents l.terms l.chosen (l.part - 1) l.left l.fn.list l.list;
  terms : IsWholeTable l.terms;
  table : IsWholeTable l.list;
}
