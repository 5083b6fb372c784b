use Rattle.std.proofs.Common.{◌≡◌, [], ◌++◌, map}
use Rattle.std.specs.Map.Iter.{deref_pair}
use Rattle.monomial_laws.specs.ExpressionTerms.{over}
use Rattle.linear_combinations.specs.Gains.{Gains}
use Rattle.sparse_polys.specs.Tables.{IsWholeTable}
use Rattle.basis_change.proofs.clearing.whole_terms.Given as goal

-- the terms visited so far, followed by those still to come, are all terms of the list; the terms added to the table so far are `den` times the
-- visited ones
abbrev pub invariant-loop-label : goal.invariant-loop-label
invariant-loop-label l = record {
  gains : Gains [] (over l.den (map deref_pair l.yielded)) l.terms;
  table : IsWholeTable l.terms;
  so_far : map deref_pair l.yielded ++ l.label-iterator ≡ l.initial.label-iterator;
}
