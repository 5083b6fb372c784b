use Rattle.std.proofs.Common.{◌≡◌, ℕ, suc, ◌+◌, ◌-◌, ◌<◌, List, length, take, get_or, ap, ap₂, sym}
use Rattle.std.proofs.Common.{subst, ◌∙◌, add-one, arith}
use Rattle.std.specs.List.{refill}
use Rattle.sym_model.specs.Partition.{IsPartition, without_last_zeros}
use Rattle.sym_model.specs.Slide.{lowered_at}
use Rattle.sym_model.proofs.Parts.{get_or-lowered}
use Rattle.partitions.proofs.Steps.{all_written}
use Rattle.partitions.proofs.LoweredParts.{lowered_kept, lowered_dropped, length-lowered}
use Rattle.partitions.proofs.corners.lower_last.Goals as goal

written :
    (parts given new : List ℕ) (place : ℕ) → given ≡ parts → new ≡ lowered_at (place + 1) given
    → refill (length parts) parts new ≡ lowered_at (suc place) parts
written parts given new place e f =
    let low : new ≡ lowered_at (suc place) parts = f ∙ ap₂ lowered_at (add-one place) e in
    all_written (length parts) new parts (ap length low ∙ length-lowered parts place) ∙ low

kept :
    (parts now : List ℕ) (place : ℕ) → IsPartition parts → get_or parts (place + 1) 0 < get_or parts
    place 0
    → now ≡ lowered_at (suc place) parts → (get_or now place 0 ≡ 0 → ⊥)
    → now ≡ without_last_zeros (lowered_at (place + 1) parts)
kept parts now place p corner e nonzero =
    let here : get_or now place 0 ≡ get_or parts place 0 - 1 = ap (λ xs. get_or xs place 0) e
    ∙ get_or-lowered parts place in
    e ∙ sym (lowered_kept parts place p.positive (omega (arith, nonzero)))
    ∙ ap (λ i. without_last_zeros (lowered_at i parts)) (sym (add-one place))

dropped :
    (parts now left : List ℕ) (place : ℕ) → IsPartition parts → get_or parts (place + 1) 0 < get_or
    parts place 0
    → now ≡ lowered_at (suc place) parts → get_or now place 0 ≡ 0 → left ≡ take (length now - 1) now
    → left ≡ without_last_zeros (lowered_at (place + 1) parts)
dropped parts now left place p corner e zero f =
    let here : get_or now place 0 ≡ get_or parts place 0 - 1 = ap (λ xs. get_or xs place 0) e
    ∙ get_or-lowered parts place in
    let next : get_or parts (suc place) 0 < get_or parts place 0 =
    subst (λ i. get_or parts i 0 < get_or parts place 0) (add-one place) corner in
    f ∙ ap (λ xs. take (length xs - 1) xs) e
    ∙ ap (λ n. take (n - 1) (lowered_at (suc place) parts)) (length-lowered parts place)
    ∙ sym (lowered_dropped parts place p.positive next (omega arith))
    ∙ ap (λ i. without_last_zeros (lowered_at i parts)) (sym (add-one place))

pub returns-then-as_slice-place-eq0 : goal.returns-then-as_slice-place-eq0
returns-then-as_slice-place-eq0 c =
    let parts = c.args.parts.now.items in
    let now = written parts c.as_mut_slice.result.now c.lower.new.numbers c.args.place
    c.as_mut_slice.ensures.value c.lower.ensures in
    let zero = ap (λ xs. get_or xs c.args.place 0) (sym c.as_slice.ensures)
    ∙ c.if-as_slice-place-eq0.true in
    dropped parts _ c.pop.new.self.items c.args.place c.requires.partition c.requires.corner now
    zero c.pop.ensures.rest

pub returns-else-as_slice-place-eq0 : goal.returns-else-as_slice-place-eq0
returns-else-as_slice-place-eq0 c =
    let parts = c.args.parts.now.items in
    let now = written parts c.as_mut_slice.result.now c.lower.new.numbers c.args.place
    c.as_mut_slice.ensures.value c.lower.ensures in
    kept parts _ c.args.place c.requires.partition c.requires.corner now
    (λ e. c.if-as_slice-place-eq0.false (ap (λ xs. get_or xs c.args.place 0) c.as_slice.ensures
    ∙ e))
