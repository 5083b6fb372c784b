use Rattle.std.proofs.Common.{◌≡◌, ℕ, List, ◌++◌, map, ap, ap₂, ◌∙◌}
use Rattle.sym_model.specs.Partition.{without_last_zeros}
use Rattle.schur_laws.specs.InnerShapes.{shapes_inside}
use Rattle.lr_coproduct.proofs.InnerLists.{partitions_inside}
use Rattle.lr_coproduct.proofs.SortedShapes.{sorted_shapes}
use Rattle.lr_coproduct.proofs.inner_shapes.inner_shapes.Goals as goal

pub returns-clause-listed : goal.returns-clause-listed
returns-clause-listed c =
    let listed : c.add_shapes.new.shapes.items ≡ partitions_inside c.args.shape.now =
    c.in_ok-add_shapes.ensures
    ∙ ap (λ (l : List (List ℕ)). l ++ map without_last_zeros
    (shapes_inside c.parts.result.now c.part.result)) c.new-shapes.ensures.items
    ∙ ap₂ (λ (r : List ℕ) (m : ℕ). map without_last_zeros (shapes_inside r m)) c.parts.ensures.value
    c.part.ensures.value in
    sorted_shapes c.args.shape.now c.add_shapes.new.shapes.items c.sort_shapes.new.shapes.items
    listed c.sort_shapes.ensures.permutation c.sort_shapes.ensures.sorted c.part.ensures.limits
