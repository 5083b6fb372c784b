use Rattle.std.proofs.Common.{sym, ◌∙◌, ap, subst, arith, to_z, of_z, w8, map, rules}
use Rattle.beta_list_laws.specs.AlcoveEnd.{up}
use Rattle.rim_hooks.specs.Sorting.{Sorts}
use Rattle.rim_hooks.proofs.CoreFacts.{kept_sign}
use Rattle.rim_hooks.proofs.AlcoveFacts.{entries_few, alcove_equal, holds_window, window_small}
use Rattle.rim_hooks.proofs.AlcoveFacts.{alcove_few, alcove_limits, alcove_some, alcove_told}
use Rattle.rim_hooks.proofs.reflections.alcove_of.Goals as goal

pub window_start-requires-clause-few : goal.window_start-requires-clause-few
window_start-requires-clause-few c = search (rules, entries_few)

pub returns-in_default-clause-value : goal.returns-in_default-clause-value
returns-in_default-clause-value c = search (rules, alcove_equal)

pub raised_entries-requires : goal.raised_entries-requires
raised_entries-requires c =
    let a = c.requires.cells.0 in
    let b = c.requires.cells.1 in (
      omega arith,
      window_small c.args.k c.args.n c.in-Some.start c.args.shape.now
          c.as_slice.result.now (omega arith) b c.requires.rows.1 (omega arith) c.requires.rows.0
          c.in_ok-entries.ensures.limits
          (c.as_slice.ensures ∙ c.in_ok-entries.ensures.value) c.in-Some.ensures,
    )

pub from_beta-requires-clause-few : goal.from_beta-requires-clause-few
from_beta-requires-clause-few c =
    let a = c.requires.cells.0 in
    let b = c.requires.cells.1 in
    let same = c.as_slice-2.ensures ∙ sym c.as_slice.ensures in
    let s = subst (λ b. Sorts c.in_ok-sorted.sorted (map (up c.args.n c.in-Some.start) b)) same
    c.in_ok-sorted.ensures in
    let w = holds_window c.args.k c.args.n c.in-Some.start c.args.shape.now c.as_slice.result.now
    c.as_slice-3.result.now c.in_ok-sorted.sorted
    (c.as_slice.ensures ∙ c.in_ok-entries.ensures.value) c.in-Some.ensures s c.as_slice-3.ensures in
    alcove_few c.args.k c.args.n c.in-Some.start c.args.shape.now c.as_slice.result.now
    c.as_slice-3.result.now c.in_ok-sorted.sorted.is_odd (omega arith) w

pub from_beta-requires-clause-limits : goal.from_beta-requires-clause-limits
from_beta-requires-clause-limits c =
    let a = c.requires.cells.0 in
    let b = c.requires.cells.1 in
    let same = c.as_slice-2.ensures ∙ sym c.as_slice.ensures in
    let s = subst (λ b. Sorts c.in_ok-sorted.sorted (map (up c.args.n c.in-Some.start) b)) same
    c.in_ok-sorted.ensures in
    let w = holds_window c.args.k c.args.n c.in-Some.start c.args.shape.now c.as_slice.result.now
    c.as_slice-3.result.now c.in_ok-sorted.sorted
    (c.as_slice.ensures ∙ c.in_ok-entries.ensures.value) c.in-Some.ensures s c.as_slice-3.ensures in
    alcove_limits c.args.k c.args.n c.in-Some.start c.args.shape.now c.as_slice.result.now
    c.as_slice-3.result.now c.in_ok-sorted.sorted.is_odd (omega arith) (omega arith)
    c.requires.rows.0 c.in_ok-entries.ensures.limits w

pub returns-clause-value : goal.returns-clause-value
returns-clause-value c =
    let a = c.requires.cells.0 in
    let b = c.requires.cells.1 in
    let same = c.as_slice-2.ensures ∙ sym c.as_slice.ensures in
    let s = subst (λ b. Sorts c.in_ok-sorted.sorted (map (up c.args.n c.in-Some.start) b)) same
    c.in_ok-sorted.ensures in
    let w = holds_window c.args.k c.args.n c.in-Some.start c.args.shape.now c.as_slice.result.now
    c.as_slice-3.result.now c.in_ok-sorted.sorted
    (c.as_slice.ensures ∙ c.in_ok-entries.ensures.value) c.in-Some.ensures s c.as_slice-3.ensures in
    alcove_some c.args.k c.args.n c.in-Some.start c.args.shape.now c.as_slice.result.now
    c.as_slice-3.result.now c.in_ok-end.end c.in_ok-sorted.sorted.is_odd
    (to_z w8 (of_z w8 c.sign.result))
    (omega arith) c.requires.rows.0 c.in_ok-entries.ensures.limits w c.in_ok-end.ensures.value
    (ap (λ v. to_z w8 (of_z w8 v)) c.sign.ensures ∙ kept_sign c.in_ok-sorted.sorted.is_odd)

pub returns-clause-remainders : goal.returns-clause-remainders
returns-clause-remainders c =
    let a = c.requires.cells.0 in
    let b = c.requires.cells.1 in
    let same = c.as_slice-2.ensures ∙ sym c.as_slice.ensures in
    let s = subst (λ b. Sorts c.in_ok-sorted.sorted (map (up c.args.n c.in-Some.start) b)) same
    c.in_ok-sorted.ensures in
    let w = holds_window c.args.k c.args.n c.in-Some.start c.args.shape.now c.as_slice.result.now
    c.as_slice-3.result.now c.in_ok-sorted.sorted
    (c.as_slice.ensures ∙ c.in_ok-entries.ensures.value) c.in-Some.ensures s c.as_slice-3.ensures in
    alcove_told c.args.k c.args.n c.in-Some.start c.args.shape.now c.as_slice.result.now
    c.as_slice-3.result.now c.in_ok-end.end c.in_ok-sorted.sorted.is_odd
    (to_z w8 (of_z w8 c.sign.result))
    (omega arith) c.in_ok-entries.ensures.limits w c.in_ok-end.ensures.value
    (ap (λ v. to_z w8 (of_z w8 v)) c.sign.ensures ∙ kept_sign c.in_ok-sorted.sorted.is_odd)
