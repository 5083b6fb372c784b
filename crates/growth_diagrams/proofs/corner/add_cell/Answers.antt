use Rattle.std.proofs.Common.{◌≡◌, ℕ, List, [], ◌∷◌, ◌++◌, Vec, Global, ◌+◌, ◌≤◌, get_or, length}
use Rattle.std.proofs.Common.{ap, ap₂, subst, sym, ◌∙◌, arith, rules}
use Rattle.std.specs.Vec.{vec_len}
use Rattle.std.proofs.Math.ListN.{set}
use Rattle.partitions.specs.Limits.{IsWithinLimits}
use Rattle.sym_model.specs.Partition.{size}
use Rattle.sym_model.specs.Growth.{with_cell}
use Rattle.growth_diagrams.proofs.Corners.{cell_fits, cell-written, cell-pushed}
use Rattle.growth_diagrams.proofs.corner.add_cell.Goals as goal
use Rattle.growth_diagrams.proofs.corner.add_cell.Goals.{then-at-len, else-at-len+in_ok-push}

pub overflow_add-index_mut : goal.overflow_add-index_mut
overflow_add-index_mut c =
    let v = c.index_mut.result.now in
    let s : c.in_ok-parts.parts.items ≡ c.args.shape.now = c.in_ok-parts.ensures.items
    ∙ c.parts.ensures.value in
    let at : v ≡ get_or c.args.shape.now c.args.row v = c.index_mut.ensures.value
    ∙ ap₂ (λ (w : List ℕ) (i : ℕ). get_or w i v) s c.from-at.ensures in
    let fits : v + 1 ≤ size (with_cell c.args.row c.args.shape.now) =
    cell_fits c.args.row c.args.shape.now v (omega (
      arith,
      c.in_ok-parts.ensures.len,
      ap (λ (w : List ℕ). length w) c.parts.ensures.value,
    )) at in
    first_of (omega (arith, c.requires.small), search rules)

pub from_valid_parts-requires : goal.from_valid_parts-requires
from_valid_parts-requires c =
    let s : c.in_ok-parts.parts.items ≡ c.args.shape.now = c.in_ok-parts.ensures.items
    ∙ c.parts.ensures.value in
    let long : vec_len c.in_ok-parts.parts ≡ length c.args.shape.now =
    c.in_ok-parts.ensures.len ∙ ap (λ (w : List ℕ). length w) c.parts.ensures.value in
    elim c.if-at-len.branch [
      | then-at-len w ↦
          let v = w.index_mut.result.now in
          let e : c.deref.result.now ≡ with_cell c.args.row c.args.shape.now =
          c.deref.ensures.value ∙ ap (λ (p : Vec ℕ Global). p.items) w.parts-is
          ∙ ap₂ (λ (l : List ℕ) (i : ℕ). set l i (v + 1)) s c.from-at.ensures
          ∙ cell-written c.args.row c.args.shape.now v (omega arith)
          (w.index_mut.ensures.value ∙ ap₂ (λ (l : List ℕ) (i : ℕ). get_or l i v) s
          c.from-at.ensures) in
          subst IsWithinLimits (sym e) c.requires
      | else-at-len+in_ok-push w ↦
          let e : c.deref.result.now ≡ with_cell c.args.row c.args.shape.now =
          c.deref.ensures.value ∙ ap (λ (p : Vec ℕ Global). p.items) w.parts-is
          ∙ w.in_ok-push.ensures.items
          ∙ ap (λ (l : List ℕ). l ++ 1 ∷ []) s ∙ sym (cell-pushed c.args.row c.args.shape.now
          (omega arith)) in
          subst IsWithinLimits (sym e) c.requires
    ]

pub returns : goal.returns
returns c =
    let s : c.in_ok-parts.parts.items ≡ c.args.shape.now = c.in_ok-parts.ensures.items
    ∙ c.parts.ensures.value in
    let long : vec_len c.in_ok-parts.parts ≡ length c.args.shape.now =
    c.in_ok-parts.ensures.len ∙ ap (λ (w : List ℕ). length w) c.parts.ensures.value in
    elim c.if-at-len.branch [
      | then-at-len w ↦
          let v = w.index_mut.result.now in
          let e : c.deref.result.now ≡ with_cell c.args.row c.args.shape.now =
          c.deref.ensures.value ∙ ap (λ (p : Vec ℕ Global). p.items) w.parts-is
          ∙ ap₂ (λ (l : List ℕ) (i : ℕ). set l i (v + 1)) s c.from-at.ensures
          ∙ cell-written c.args.row c.args.shape.now v (omega arith)
          (w.index_mut.ensures.value ∙ ap₂ (λ (l : List ℕ) (i : ℕ). get_or l i v) s
          c.from-at.ensures) in
          rw e at c.from_valid_parts.ensures.ok
      | else-at-len+in_ok-push w ↦
          let e : c.deref.result.now ≡ with_cell c.args.row c.args.shape.now =
          c.deref.ensures.value ∙ ap (λ (p : Vec ℕ Global). p.items) w.parts-is
          ∙ w.in_ok-push.ensures.items
          ∙ ap (λ (l : List ℕ). l ++ 1 ∷ []) s ∙ sym (cell-pushed c.args.row c.args.shape.now
          (omega arith)) in
          rw e at c.from_valid_parts.ensures.ok
    ]
