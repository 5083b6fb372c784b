use Rattle.std.proofs.Common.{◌≡◌, [], replicate, List}
use Rattle.sym_model.specs.WholeTerms.{WholeTerms}
use Rattle.stanley_expand.proofs.walk.empty_tables.Given as goal

-- the list has `counter` empty tables so far
abbrev pub invariant-loop : goal.invariant-loop
invariant-loop l = ◌≡◌ {A = List WholeTerms} l.tables.items (replicate l.counter [])
