use Rattle.std.proofs.Common.{◌≡◌, refl, List, ℕ, [], ◌∷◌, ◌++◌, sym, subst, ap, ◌∙◌, arith, Err}
use Rattle.fraction_laws.specs.Fractions.{whole}
use Rattle.sym_model.specs.Polynomial.{Same}
use Rattle.sym_model.specs.Partition.{size}
use Rattle.sym_model.specs.PartitionList.{partitions_of}
use Rattle.linear_combinations.proofs.Steps.{error_is, all_done, IsCombination-empty}
use Rattle.sparse_polys.specs.Tables.{equal, IsWholeTable}
use Rattle.sym_model.specs.LabelLimits.{is_label}
use Rattle.sparse_polys.proofs.WholeLists.{Finds, Finds-next, more_as, Same-from_look_ups}
use Rattle.sparse_polys.proofs.PartitionTerms.{listed_on, listed_partition, IsWithinLimits-listed}
use Rattle.sparse_polys.proofs.PartitionTerms.{listed_next}
use Rattle.family_lists.specs.ClosedCoefficients.{closed_coefficient}
use Rattle.family_lists.proofs.ClosedLists.{listed-fits, closed-stands}
use Rattle.linear_combinations.proofs.Counted.{each_by-append}
use Rattle.linear_combinations.specs.Gains.{each_by}
use Rattle.family_lists.proofs.factors.closed_list.Goals as goal

pub loop-alloc-init : goal.loop-alloc-init
loop-alloc-init c = (
  [],
  record {
    so_far = c.in_ok-labels.ensures.rest;
    finds = subst (λ terms. Finds terms []) (sym c.new-list.ensures) (λ label. refl);
    table = subst IsWholeTable (sym c.new-list.ensures) (IsCombination-empty equal is_label whole);
  },
)

pub from_valid_parts-requires : goal.from_valid_parts-requires
from_valid_parts-requires c =
    let inv = c.loop-alloc.invariant in
    let low = c.requires.low.1 in
    IsWithinLimits-listed inv.0 _ c.args.k c.current.result.now (omega arith)
    (listed_on inv.0 _ _ _ _ c.current.result.now inv.1.so_far c.advance.ensures.next
    c.current.ensures)

pub coefficient-c-requires-clause-some : goal.coefficient-c-requires-clause-some
coefficient-c-requires-clause-some c =
    let inv = c.loop-alloc.invariant in
    let on = listed_on inv.0 _ _ _ _ c.current.result.now inv.1.so_far c.advance.ensures.next
    c.current.ensures in
    let s = (listed_partition inv.0 _ c.args.k c.current.result.now on).1 in
    let e = ap size c.in_ok-label.ensures.ok in
    let low = c.requires.low.0 in
    omega arith

pub coefficient-c-requires-clause-low : goal.coefficient-c-requires-clause-low
coefficient-c-requires-clause-low c =
    let inv = c.loop-alloc.invariant in
    let on = listed_on inv.0 _ _ _ _ c.current.result.now inv.1.so_far c.advance.ensures.next
    c.current.ensures in
    let s = (listed_partition inv.0 _ c.args.k c.current.result.now on).1 in
    let e = ap size c.in_ok-label.ensures.ok in
    let low = c.requires.low.1 in
    omega arith

pub loop-alloc-preserved : goal.loop-alloc-preserved
loop-alloc-preserved c =
    let inv = c.loop-alloc.invariant in
    let label = c.current.result.now in
    let old = c.loop-alloc.list in
    let new = c.add_term.new.self in
    let on = listed_on inv.0 _ _ _ _ label inv.1.so_far c.advance.ensures.next c.current.ensures in (
      inv.0 ++ label ∷ [],
      record {
        so_far = listed_next inv.0 _ (partitions_of c.args.k) label on;
        finds =
            subst (Finds new) (sym (each_by-append (closed_coefficient c.args.target c.args.family) inv.0
            (label ∷ [])))
            (Finds-next old new (each_by (closed_coefficient c.args.target c.args.family) inv.0)
            label
            (closed_coefficient c.args.target c.args.family label) inv.1.finds
            (more_as old old new c.in_ok-label.label label c.coefficient-c.result
            (closed_coefficient c.args.target c.args.family label) refl
            c.in_ok-label.ensures.ok
            (c.coefficient-c.ensures ∙ ap (closed_coefficient c.args.target c.args.family)
            c.in_ok-label.ensures.ok)
            c.in_ok-add_term.ensures.ok));
        table = c.in_ok-add_term.ensures.tables.after.combination;
      },
    )

pub returns-in_err-add_term-clause-small : goal.returns-in_err-add_term-clause-small
returns-in_err-add_term-clause-small c = λ large.
    let inv = c.loop-alloc.invariant in
    let label = c.current.result.now in
    let on = listed_on inv.0 _ _ _ _ label inv.1.so_far c.advance.ensures.next c.current.ensures in
    let refused =
    c.in_err-add_term.ensures.large.0
    (ap Err (error_is _ _ _ c.from_residual-in_err-add_term.ensures.1 large)) in
    listed-fits (closed_coefficient c.args.target c.args.family) c.args.k inv.0 _ label
    c.in_ok-label.label c.loop-alloc.list c.coefficient-c.result
    inv.1.finds on c.in_ok-label.ensures.ok refused

pub returns-clause-value : goal.returns-clause-value
returns-clause-value c =
    let inv = c.loop-alloc.invariant in
    let all : inv.0 ≡ partitions_of c.args.k =
    all_done inv.0 _ _ _ c.loop-alloc-test.ensures.ended inv.1.so_far refl in
    closed-stands c.args.target c.args.family c.args.k c.loop-alloc.list c.requires.other
    c.requires.low.0 inv.1.table
    (subst (λ (labels : List (List ℕ)). Same c.loop-alloc.list
    (each_by (closed_coefficient c.args.target c.args.family) labels)) all
    (Same-from_look_ups c.loop-alloc.list (each_by (closed_coefficient c.args.target c.args.family)
    inv.0) inv.1.table inv.1.finds))
