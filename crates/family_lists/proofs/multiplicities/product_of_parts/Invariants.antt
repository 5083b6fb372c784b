use Rattle.std.proofs.Common.{◌≡◌, ◌*◌, drop}
use Rattle.family_list_laws.specs.OnePartLists.{product_of_parts}
use Rattle.family_lists.proofs.multiplicities.product_of_parts.Given as goal

abbrev pub invariant-loop-part : goal.invariant-loop-part
invariant-loop-part l =
    l.product * product_of_parts (drop l.part-index l.parts) ≡ product_of_parts l.parts
