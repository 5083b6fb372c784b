-- The results of the functions `core_of` and `alcove_of`, converted to the tuples by which the specs describe reductions.
use Rattle.std.specs.Prelude.{ℕ, ℤ, List, Option, Some, None}
use Rattle.sym_model.specs.Reductions.{Reduction}
use Rattle.rim_hooks.specs.declared.reflections.Alcove.{Alcove}
use Rattle.rim_hooks.specs.declared.removals.Core.{Core}

-- the result of `core_of` as the partition, the sign and the power of q; None for `None`
abbrev pub reduction : Option Core → Reduction
reduction None = None
reduction (Some core) = Some (core.shape, core.sign, core.power)

-- the partition to which a partition is reduced into the alcove, with its sign; None if the reduction is 0
abbrev pub signed_partition : Option Alcove → Option (List ℕ × ℤ)
signed_partition None = None
signed_partition (Some alcove) = Some (alcove.shape, alcove.sign)
