use Rattle.std.proofs.Common.{◌≡◌, ◌+◌, ◌-◌, ◌++◌, ◌∙◌, length, map, take, drop, ap, subst, arith}
use Rattle.std.specs.Prelude.{IfOk}
use Rattle.std.proofs.lemmas.List.{take_all, length-drop}
use Rattle.sym_model.specs.Partition.{without_last_zeros}
use Rattle.expand_in_families.proofs.PeelingSteps.{left-numbers, left-limits}
use Rattle.expand_in_families.proofs.schur_lists.left_by_hook.Goals as goal

pub from_valid_numbers-requires : goal.from_valid_numbers-requires
from_valid_numbers-requires c =
    let row = c.args.row in
    let below = drop (c.args.row + 1) c.args.shape.now in
    let written : c.deref.result.now ≡ take c.args.row c.args.shape.now ++ map (λ a. a - 1)
    (drop (c.args.row + 1) c.args.shape.now) =
    c.deref.ensures.value ∙ c.loop-part.invariant
    ∙ ap (λ l. take c.args.row c.args.shape.now ++ map (λ a. a - 1) l)
    (take_all c.loop-part.part-index _ c.loop-part-test.false ∙ take_all
    (length c.args.shape.now - (c.args.row + 1)) (drop (c.args.row + 1) c.args.shape.now)
    (omega (arith, length-drop (c.args.row + 1) c.args.shape.now))) in
    left-limits c.args.shape.now c.args.row c.deref.result.now c.requires.partition
    c.requires.within c.requires.low written

pub returns : goal.returns
returns c =
    let written : c.deref.result.now ≡ take c.args.row c.args.shape.now ++ map (λ a. a - 1)
    (drop (c.args.row + 1) c.args.shape.now) =
    c.deref.ensures.value ∙ c.loop-part.invariant
    ∙ ap (λ l. take c.args.row c.args.shape.now ++ map (λ a. a - 1) l)
    (take_all c.loop-part.part-index _ c.loop-part-test.false ∙ take_all
    (length c.args.shape.now - (c.args.row + 1)) (drop (c.args.row + 1) c.args.shape.now)
    (omega (arith, length-drop (c.args.row + 1) c.args.shape.now))) in
    subst (λ l. IfOk c.from_valid_numbers.result (λ rest. rest ≡ l)) (ap without_last_zeros written
    ∙ left-numbers c.args.shape.now c.args.row c.requires.partition)
    c.from_valid_numbers.ensures.ok
