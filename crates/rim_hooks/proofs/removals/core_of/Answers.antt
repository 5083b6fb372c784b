use Rattle.std.proofs.Common.{◌≡◌, ◌+◌, ◌-◌, ◌*◌, ◌/◌, sym, ◌∙◌, ap, ap₂, arith, to_z, of_z, w8, rules}
use Rattle.std.proofs.Common.{Some, None, ℕ}
use Rattle.sym_model.specs.Partition.{size}
use Rattle.sym_model.specs.PlaceOrders.{minus_one_to}
use Rattle.rim_hooks.specs.Signs.{sign_of}
use Rattle.rim_hooks.proofs.CoreFacts.{kept_sign, holds, entries_strict, core_few, core_limits}
use Rattle.rim_hooks.proofs.CoreFacts.{core_smaller, core_none, core_some, core_reduces, core_only}
use Rattle.rim_hooks.proofs.removals.core_of.Goals as goal

pub lowest_entries-requires-clause-strict : goal.lowest_entries-requires-clause-strict
lowest_entries-requires-clause-strict c = search (rules, entries_strict)

pub from_beta-requires-clause-few : goal.from_beta-requires-clause-few
from_beta-requires-clause-few c =
    let w = holds c.args.k c.args.n c.args.shape.now c.as_slice.result.now c.as_slice-2.result.now
    c.in_ok-lowest.lowest (c.as_slice.ensures ∙ c.in_ok-entries.ensures.value)
    c.in_ok-lowest.ensures c.as_slice-2.ensures in
    let a = c.requires.cells.0 in
    let b = c.requires.cells.1 in
    core_few c.args.k c.args.n c.args.shape.now c.as_slice-2.result.now c.in_ok-lowest.lowest.is_odd
    (omega arith) w

pub from_beta-requires-clause-limits : goal.from_beta-requires-clause-limits
from_beta-requires-clause-limits c =
    let w = holds c.args.k c.args.n c.args.shape.now c.as_slice.result.now c.as_slice-2.result.now
    c.in_ok-lowest.lowest (c.as_slice.ensures ∙ c.in_ok-entries.ensures.value)
    c.in_ok-lowest.ensures c.as_slice-2.ensures in
    let a = c.requires.cells.0 in
    let b = c.requires.cells.1 in
    core_limits c.args.k c.args.n c.args.shape.now c.as_slice-2.result.now
    c.in_ok-lowest.lowest.is_odd (omega arith) c.requires.rows.0 (omega arith)
    c.size-cells.ensures.limits w

pub returns-then-from-clause-reduces : goal.returns-then-from-clause-reduces
returns-then-from-clause-reduces c =
    let w = holds c.args.k c.args.n c.args.shape.now c.as_slice.result.now c.as_slice-2.result.now
    c.in_ok-lowest.lowest (c.as_slice.ensures ∙ c.in_ok-entries.ensures.value)
    c.in_ok-lowest.ensures c.as_slice-2.ensures in
    let a = c.requires.cells.0 in
    let p = c.part.ensures.value in
    let x = c.from.ensures in
    let y = c.from-2.ensures in
    let z = c.from-3.ensures in
    let t = c.if-from.true in
    let none = core_none c.args.k c.args.n c.args.shape.now c.as_slice-2.result.now c.in_ok-end.end
    c.in_ok-lowest.lowest.is_odd w c.in_ok-end.ensures.value (omega arith) in
    core_reduces c.args.k c.args.n c.args.shape.now None (omega arith) c.size-cells.ensures.limits
    c.requires.rows.0 none

pub returns-then-from-clause-only : goal.returns-then-from-clause-only
returns-then-from-clause-only c =
    let w = holds c.args.k c.args.n c.args.shape.now c.as_slice.result.now c.as_slice-2.result.now
    c.in_ok-lowest.lowest (c.as_slice.ensures ∙ c.in_ok-entries.ensures.value)
    c.in_ok-lowest.ensures c.as_slice-2.ensures in
    let a = c.requires.cells.0 in
    let p = c.part.ensures.value in
    let x = c.from.ensures in
    let y = c.from-2.ensures in
    let z = c.from-3.ensures in
    let t = c.if-from.true in
    let none = core_none c.args.k c.args.n c.args.shape.now c.as_slice-2.result.now c.in_ok-end.end
    c.in_ok-lowest.lowest.is_odd w c.in_ok-end.ensures.value (omega arith) in
    core_only c.args.k c.args.n c.args.shape.now None (omega arith) c.size-cells.ensures.limits none

pub overflow_sub-power : goal.overflow_sub-power
overflow_sub-power c =
    let w = holds c.args.k c.args.n c.args.shape.now c.as_slice.result.now c.as_slice-2.result.now
    c.in_ok-lowest.lowest (c.as_slice.ensures ∙ c.in_ok-entries.ensures.value)
    c.in_ok-lowest.ensures c.as_slice-2.ensures in
    let a = c.requires.cells.0 in
    let x = c.size-cells.ensures.value in
    let y = c.size.ensures.value in
    let z = core_smaller c.args.k c.args.n c.args.shape.now c.as_slice-2.result.now c.in_ok-end.end
    c.in_ok-lowest.lowest.is_odd (omega arith) c.requires.rows.0 c.size-cells.ensures.limits w
    c.in_ok-end.ensures.value in
    omega arith

pub returns-clause-reduces : goal.returns-clause-reduces
returns-clause-reduces c =
    let w = holds c.args.k c.args.n c.args.shape.now c.as_slice.result.now c.as_slice-2.result.now
    c.in_ok-lowest.lowest (c.as_slice.ensures ∙ c.in_ok-entries.ensures.value)
    c.in_ok-lowest.ensures c.as_slice-2.ensures in
    let a = c.requires.cells.0 in
    let p = c.part.ensures.value in
    let x = c.from.ensures in
    let y = c.from-2.ensures in
    let z = c.from-3.ensures in
    let t = c.if-from.false in
    let quotient : ℕ → ℕ → ℕ = λ u v. (u - v) / c.args.n in
    let power : c.from-4.result ≡ quotient (size c.args.shape.now) (size c.in_ok-end.end) =
    c.from-4.ensures ∙ ap₂ quotient c.size-cells.ensures.value c.size.ensures.value in
    let turns = c.turns_the_sign.ensures ∙ ap (λ u. minus_one_to (u * (c.args.k + 1)))
    (sym c.from-4.ensures) in
    let sign = ap (λ v. to_z w8 (of_z w8 v)) c.sign.ensures ∙ kept_sign c.is_one_odd.result
    ∙ c.is_one_odd.ensures in
    let some = core_some c.args.k c.args.n c.args.shape.now c.as_slice-2.result.now c.in_ok-end.end
    c.in_ok-lowest.lowest.is_odd c.from-4.result (to_z w8 (of_z w8 c.sign.result))
    (sign_of c.turns_the_sign.result)
    w c.in_ok-end.ensures.value (omega arith) power turns sign in
    core_reduces c.args.k c.args.n c.args.shape.now
    (Some (c.in_ok-end.end, to_z w8 (of_z w8 c.sign.result), c.from-4.result)) (omega arith)
    c.size-cells.ensures.limits c.requires.rows.0 some

pub returns-clause-only : goal.returns-clause-only
returns-clause-only c =
    let w = holds c.args.k c.args.n c.args.shape.now c.as_slice.result.now c.as_slice-2.result.now
    c.in_ok-lowest.lowest (c.as_slice.ensures ∙ c.in_ok-entries.ensures.value)
    c.in_ok-lowest.ensures c.as_slice-2.ensures in
    let a = c.requires.cells.0 in
    let p = c.part.ensures.value in
    let x = c.from.ensures in
    let y = c.from-2.ensures in
    let z = c.from-3.ensures in
    let t = c.if-from.false in
    let quotient : ℕ → ℕ → ℕ = λ u v. (u - v) / c.args.n in
    let power : c.from-4.result ≡ quotient (size c.args.shape.now) (size c.in_ok-end.end) =
    c.from-4.ensures ∙ ap₂ quotient c.size-cells.ensures.value c.size.ensures.value in
    let turns = c.turns_the_sign.ensures ∙ ap (λ u. minus_one_to (u * (c.args.k + 1)))
    (sym c.from-4.ensures) in
    let sign = ap (λ v. to_z w8 (of_z w8 v)) c.sign.ensures ∙ kept_sign c.is_one_odd.result
    ∙ c.is_one_odd.ensures in
    let some = core_some c.args.k c.args.n c.args.shape.now c.as_slice-2.result.now c.in_ok-end.end
    c.in_ok-lowest.lowest.is_odd c.from-4.result (to_z w8 (of_z w8 c.sign.result))
    (sign_of c.turns_the_sign.result)
    w c.in_ok-end.ensures.value (omega arith) power turns sign in
    core_only c.args.k c.args.n c.args.shape.now
    (Some (c.in_ok-end.end, to_z w8 (of_z w8 c.sign.result), c.from-4.result)) (omega arith)
    c.size-cells.ensures.limits some

pub returns-then-from-clause-remainders : goal.returns-then-from-clause-remainders
returns-then-from-clause-remainders c = search (rules, holds, core_none)

pub returns-clause-remainders : goal.returns-clause-remainders
returns-clause-remainders c =
    let w = holds c.args.k c.args.n c.args.shape.now c.as_slice.result.now c.as_slice-2.result.now
    c.in_ok-lowest.lowest (c.as_slice.ensures ∙ c.in_ok-entries.ensures.value)
    c.in_ok-lowest.ensures c.as_slice-2.ensures in
    let a = c.requires.cells.0 in
    let p = c.part.ensures.value in
    let x = c.from.ensures in
    let y = c.from-2.ensures in
    let z = c.from-3.ensures in
    let t = c.if-from.false in
    let quotient : ℕ → ℕ → ℕ = λ u v. (u - v) / c.args.n in
    let power : c.from-4.result ≡ quotient (size c.args.shape.now) (size c.in_ok-end.end) =
    c.from-4.ensures ∙ ap₂ quotient c.size-cells.ensures.value c.size.ensures.value in
    let turns = c.turns_the_sign.ensures ∙ ap (λ u. minus_one_to (u * (c.args.k + 1)))
    (sym c.from-4.ensures) in
    let sign = ap (λ v. to_z w8 (of_z w8 v)) c.sign.ensures ∙ kept_sign c.is_one_odd.result
    ∙ c.is_one_odd.ensures in
    let some = core_some c.args.k c.args.n c.args.shape.now c.as_slice-2.result.now c.in_ok-end.end
    c.in_ok-lowest.lowest.is_odd c.from-4.result (to_z w8 (of_z w8 c.sign.result))
    (sign_of c.turns_the_sign.result)
    w c.in_ok-end.ensures.value (omega arith) power turns sign in
    sym some
