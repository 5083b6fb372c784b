use Rattle.std.proofs.Common.{◌≡◌, ℕ, ◌+◌, ◌≤◌, List, [], ◌∷◌, ◌++◌, append_assoc, map, length}
use Rattle.std.proofs.Common.{length-append, sym, ap, ◌∙◌, subst, arith}
use Rattle.sym_model.specs.Partition.{Falls, size, without_last_zeros}
use Rattle.schur_laws.specs.InnerShapes.{shapes_inside}
use Rattle.lr_coproduct.proofs.InnerLists.{limits_front, falls_next, listed_from}
use Rattle.lr_coproduct.proofs.InnerLists.{listed_next, below_it}
use Rattle.lr_coproduct.proofs.inner_shapes.+add_shapes.Goals as goal
use Rattle.sparse_polys.proofs.SearchWays.{size-chosen}

pub from_valid_numbers-requires : goal.from_valid_numbers-requires
from_valid_numbers-requires t c = limits_front c.args.front.now c.args.most c.requires.falls
    (omega (arith, c.requires.few)) (omega (arith, c.requires.small))

pub add_shapes-requires : goal.add_shapes-requires
add_shapes-requires t c =
    let part = c.loop-part.part in
    let next : c.deref.result.now ≡ c.args.front.now ++ part ∷ [] = c.deref.ensures.value
    ∙ c.in_ok-next.ensures in
    let rows : c.args.rows.now ≡ c.in-Some.row.now ∷ c.in-Some.below.now = c.in-Some.ensures.cases.0
    in
    let count = ap length rows in
    let cells = ap size rows in
    let long = length-append c.args.front.now (part ∷ []) in
    let sum = size-chosen c.args.front.now part in (
      omega arith,
      (
        subst (λ (l : List ℕ). Falls (l ++ part ∷ [])) (sym next)
            (falls_next c.args.front.now part c.args.most
            (omega (arith, c.loop-part-test.true, c.min-part-end.ensures)) c.requires.falls),
        (
          subst (λ (l : List ℕ). length l + length c.in-Some.below.now ≤ 512) (sym next)
              (omega (arith, c.requires.few)),
          subst (λ (l : List ℕ). size l + size c.in-Some.below.now ≤ 4096) (sym next)
              (omega (arith, c.requires.small, c.loop-part-test.true, c.min-part-end.ensures)),
        ),
      ),
    )

pub loop-part-preserved : goal.loop-part-preserved
loop-part-preserved t c =
    let part = c.loop-part.part in
    let next : c.deref.result.now ≡ c.args.front.now ++ part ∷ [] = c.deref.ensures.value
    ∙ c.in_ok-next.ensures in
    let more = map (λ i. without_last_zeros (c.deref.result.now ++ i))
    (shapes_inside c.in-Some.below.now part) in
    c.in_ok-add_shapes.ensures
    ∙ ap (λ l. l ++ more) c.loop-part.invariant
    ∙ append_assoc c.args.shapes.now.items (listed_from c.args.front.now c.in-Some.below.now
    (below_it part)) more
    ∙ ap (λ l. c.args.shapes.now.items ++ l)
    (sym (listed_next c.args.front.now c.in-Some.below.now part c.deref.result.now next))
