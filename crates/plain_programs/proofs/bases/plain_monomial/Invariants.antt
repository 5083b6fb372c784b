use Rattle.std.proofs.Common.{◌≡◌, ◌++◌, map, filter}
use Rattle.std.specs.Vec.Iter.{into_iter_items}
use Rattle.sym_model.specs.Polynomial.{same}
use Rattle.sym_model.specs.Partition.{size, sorted_parts}
use Rattle.sym_model.specs.Bases.{exponent_lists}
use Rattle.plain_programs.specs.PlainLists.{lists}
use Rattle.plain_programs.proofs.bases.plain_monomial.Given as goal

abbrev pub invariant-loop-exponents : goal.invariant-loop-exponents
invariant-loop-exponents l =
    lists l.kept ++ filter (λ α. same (sorted_parts α) l.parts) (map (λ w. w.items) (into_iter_items l.exponents-iterator)) ≡ filter (λ α. same (sorted_parts α) l.parts) (exponent_lists l.n (size l.parts))
