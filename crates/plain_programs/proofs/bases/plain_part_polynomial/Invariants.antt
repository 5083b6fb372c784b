use Rattle.std.proofs.Common.{◌≡◌, ◌++◌, map, filter}
use Rattle.std.specs.Vec.Iter.{into_iter_items}
use Rattle.sym_model.specs.Bases.{exponent_lists}
use Rattle.plain_programs.specs.PlainLists.{lists, keeps}
use Rattle.plain_programs.proofs.bases.plain_part_polynomial.Given as goal

abbrev pub invariant-loop-exponents : goal.invariant-loop-exponents
invariant-loop-exponents l =
    lists l.kept ++ filter (keeps l.basis l.part) (map (λ w. w.items) (into_iter_items l.exponents-iterator)) ≡ filter (keeps l.basis l.part) (exponent_lists l.n l.part)
