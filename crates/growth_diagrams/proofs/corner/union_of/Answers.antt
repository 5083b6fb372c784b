use Rattle.std.proofs.Common.{◌≡◌, ℕ, List, [], ◌∷◌, ◌++◌, ◌+◌, ◌-◌, ◌<◌, ◌≤◌, max, get_or, take}
use Rattle.std.proofs.Common.{length, ap, ap₂, subst, sym, ◌∙◌, arith}
use Rattle.std.proofs.lemmas.List.{take_more, take_all}
use Rattle.partitions.specs.Limits.{IsWithinLimits}
use Rattle.sym_model.specs.Growth.{union}
use Rattle.growth_diagrams.proofs.Corners.{length-union, get-union}
use Rattle.growth_diagrams.proofs.corner.union_of.Goals as goal

pub loop-at-preserved : goal.loop-at-preserved
loop-at-preserved c =
    let l = c.args.left.now in
    let r = c.args.right.now in
    let i = c.loop-at.at in
    let e : i + 1 - 1 ≡ i = omega arith in
    let letter : c.max.result ≡ get_or (union c.args.left.now c.args.right.now) i 0 =
    omega (
      arith,
      c.max.ensures,
      c.part.ensures.value,
      c.part-in-loop-at.ensures.value,
      get-union l r i,
      ap (λ n. get_or l n 0) e,
      ap (λ n. get_or r n 0) e,
    ) in
    let within : i < length (union c.args.left.now c.args.right.now) =
    omega (
      arith,
      length-union l r,
      c.max-at-end.ensures,
      c.rows.ensures.value,
      c.rows-2.ensures.value,
    ) in
    c.in_ok-push.ensures.items ∙ ap₂ (λ (w : List ℕ) (a : ℕ). w ++ a ∷ []) c.loop-at.invariant
    letter ∙ sym (take_more (union l r) i 0 within)

all_there : (l r items : List ℕ) (n i a b : ℕ) → items ≡ take i (union l r) → n ≡ max a b →
    a ≡ length l → b ≡ length r → n ≤ i → items ≡ union l r
all_there l r items n i a b e f g h k = e ∙ take_all i (union l r) (omega (arith, length-union l r))

pub from_valid_parts-requires : goal.from_valid_parts-requires
from_valid_parts-requires c =
    subst IsWithinLimits
    (sym (c.deref.ensures.value ∙ all_there c.args.left.now c.args.right.now c.loop-at.parts.items _
    c.loop-at.at _ _ c.loop-at.invariant c.max-at-end.ensures c.rows.ensures.value
    c.rows-2.ensures.value (omega arith)))
    c.requires

pub returns : goal.returns
returns c =
    let e = c.deref.ensures.value ∙ all_there c.args.left.now c.args.right.now c.loop-at.parts.items
    _ c.loop-at.at _ _ c.loop-at.invariant c.max-at-end.ensures c.rows.ensures.value
    c.rows-2.ensures.value (omega arith) in
    rw e at c.from_valid_parts.ensures.ok
