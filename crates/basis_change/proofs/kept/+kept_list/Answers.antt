use Rattle.std.proofs.Common.{◌+◌, ℕ, List, [], ◌∷◌, ◌++◌, ◌-◌, drop, get_or, sym, ap, refl, rules}
use Rattle.std.proofs.Common.{◌∙◌, subst, arith, Err, append-nil, true}
use Rattle.std.specs.Prelude.{nat_eq}
use Rattle.std.proofs.lemmas.List.{take_rest}
use Rattle.std.proofs.lemmas.Option.{slice_get_within}
use Rattle.fraction_laws.specs.Fractions.{whole}
use Rattle.sym_model.specs.Bases.{has}
use Rattle.sym_model.specs.Partition.{size}
use Rattle.sym_model.specs.RaisedPart.{without_one, distinct}
use Rattle.sym_model.proofs.SortedParts.{rows_within_size, size-without_one, has-get_or}
use Rattle.sym_model.proofs.SortedParts.{IsPartition-without_one}
use Rattle.linear_combinations.specs.Gains.{Gains, Overflows, replaced}
use Rattle.linear_combinations.proofs.Gains.{gains_none, pairs_gain, pairs_overflow}
use Rattle.linear_combinations.proofs.Steps.{error_is, IsCombination-empty}
use Rattle.family_lists.proofs.KeptLists.{list-found, lists-kept}
use Rattle.beta_sets.specs.BetaSets.{IsShapeTable}
use Rattle.basis_change.specs.KeptLists.{IsKept}
use Rattle.basis_change.specs.RimHooks.{hooks_below, hooked_lists}
use Rattle.beta_sets.proofs.BetaSets.{within_more}
use Rattle.basis_change.proofs.KeptLists.{part-positive, kept-step}
use Rattle.basis_change.proofs.KeptLists.{not_large, listed-next, listed-end, parts_of}
use Rattle.basis_change.proofs.KeptLists.{rests-next, hooked_lists-append}
use Rattle.basis_change.proofs.kept.+kept_list.Goals as goal
use Rattle.sym_model.proofs.Lists.{no_items, some_items}

pub from_valid_parts-requires : goal.from_valid_parts-requires
from_valid_parts-requires t c = search (rules, rows_within_size)

pub returns-then-is_empty-clause-kept : goal.returns-then-is_empty-clause-kept
returns-then-is_empty-clause-kept t c =
    lists-kept IsKept c.args.lists.now.entries c.keep.new.lists.entries _ c.in_ok-of_nothing.field-0
    c.requires.kept
    (subst (λ (x : List ℕ). IsKept x c.in_ok-of_nothing.field-0)
    (sym (c.label.view_is ∙ c.in_ok-label.ensures.ok ∙ no_items c.args.parts.now (sym c.if-is_empty.ensures))) c.in_ok-of_nothing.ensures.kept)
    c.in_ok-keep.ensures.kept

pub loop-at-init : goal.loop-at-init
loop-at-init t c = (
  [],
  record {
    listed = refl;
    rests = λ x m. absurd m;
    gains = subst (Gains [] []) (sym c.new-sum.ensures) (gains_none []);
    table = subst IsShapeTable (sym c.new-sum.ensures)
        (IsCombination-empty nat_eq (λ s. true) whole);
    kept = c.requires.kept;
  },
)

pub kept_list-requires : goal.kept_list-requires
kept_list-requires t c =
    search (rules, has-get_or, size-without_one, part-positive, IsPartition-without_one)

pub list_at-requires : goal.list_at-requires
list_at-requires t c = search (rules, slice_get_within)

pub add_by-requires : goal.add_by-requires
add_by-requires t c u m =
    let parts = c.args.parts.now in
    let a = get_or parts c.loop-at.at 0 in
    let s = size-without_one a parts (has-get_or parts c.loop-at.at c.loop-at-test.true) in
    let l = c.requires.low in
    let kept : IsKept (without_one a parts) c.list_at.result.1.now =
    list-found IsKept c.kept_list.new.lists.entries _ (without_one a parts) c.list_at.result.0.now
    c.list_at.result.1.now c.in_ok-place.place
    (c.deref.ensures.value ∙ c.in_ok-rest.ensures) c.in_ok-place.ensures.kept
    c.in_ok-place.ensures.place c.list_at.ensures in (
      omega arith,
      within_more (size (without_one a parts)) (20 - a) c.list_at.result.1.now (omega arith)
          kept.within u m,
    )

pub returns-in_err-add_by-clause-small : goal.returns-in_err-add_by-clause-small
returns-in_err-add_by-clause-small t c err =
    let parts = c.args.parts.now in
    let a = get_or parts c.loop-at.at 0 in
    let done = c.loop-at.invariant.0 in
    let inv = c.loop-at.invariant.1 in
    let list = c.list_at.result.1.now in
    let here = has-get_or parts c.loop-at.at c.loop-at-test.true in
    let kept : IsKept (without_one a parts) list =
    list-found IsKept c.kept_list.new.lists.entries _ (without_one a parts) c.list_at.result.0.now
    list c.in_ok-place.place
    (c.deref.ensures.value ∙ c.in_ok-rest.ensures) c.in_ok-place.ensures.kept
    c.in_ok-place.ensures.place c.list_at.ensures in
    not_large parts c.requires.partition c.requires.low (done ++ (a, list) ∷ [])
    (distinct (drop (c.loop-at.at + 1) parts)) (some_items parts (sym c.if-is_empty.ensures))
    (listed-next parts c.loop-at.at done list c.loop-at-test.true
    (ap (has a) (sym (take_rest parts (c.loop-at.at + 1))) ∙ sym c.if-has_part.ensures) inv.listed)
    (rests-next parts done (a, list) inv.rests (record { part = here; kept = kept }))
    (pairs_overflow hooked_lists hooked_lists-append done (a, list) [] c.loop-at.sum inv.gains
    nat_eq [] (done ++ (a, list) ∷ []) refl
    (subst (Overflows nat_eq c.loop-at.sum) (sym (append-nil (replaced (hooks_below a) list)))
    (c.in_err-add_by.ensures.large
    (ap Err (error_is _ _ _ c.from_residual-in_err-add_by.ensures.1 err)))))

pub loop-at-preserved : goal.loop-at-preserved
loop-at-preserved t c =
    let parts = c.args.parts.now in
    let a = get_or parts c.loop-at.at 0 in
    let done = c.loop-at.invariant.0 in
    let inv = c.loop-at.invariant.1 in
    let list = c.list_at.result.1.now in
    let here = has-get_or parts c.loop-at.at c.loop-at-test.true in
    let kept : IsKept (without_one a parts) list =
    list-found IsKept c.kept_list.new.lists.entries _ (without_one a parts) c.list_at.result.0.now
    list c.in_ok-place.place
    (c.deref.ensures.value ∙ c.in_ok-rest.ensures) c.in_ok-place.ensures.kept
    c.in_ok-place.ensures.place c.list_at.ensures in (
      done ++ (a, list) ∷ [],
      record {
        listed = listed-next parts c.loop-at.at done list c.loop-at-test.true
            (ap (has a) (sym (take_rest parts (c.loop-at.at + 1))) ∙ sym c.if-has_part.ensures)
            inv.listed;
        rests = rests-next parts done (a, list) inv.rests (record { part = here; kept = kept });
        gains = pairs_gain hooked_lists hooked_lists-append done (a, list) [] c.loop-at.sum
            inv.gains (done ++ (a, list) ∷ []) c.add_by.new.self refl
            (subst (λ l. Gains c.loop-at.sum l c.add_by.new.self)
            (sym (append-nil (replaced (hooks_below a) list))) c.in_ok-add_by.ensures.gains);
        table = c.in_ok-add_by.ensures.table;
        kept = c.in_ok-place.ensures.kept;
      },
    )

pub returns-clause-kept : goal.returns-clause-kept
returns-clause-kept t c =
    let parts = c.args.parts.now in
    let done = c.loop-at.invariant.0 in
    let inv = c.loop-at.invariant.1 in
    let n = c.loop-at-test.false in
    let e = c.loop-at.auto.at-end in
    lists-kept IsKept c.loop-at.lists.entries c.keep-2.new.lists.entries c.in_ok-label.label
    c.loop-at.sum inv.kept
    (subst (λ (x : List ℕ). IsKept x c.loop-at.sum) (sym c.in_ok-label.ensures.ok)
    (kept-step parts c.requires.partition c.requires.low done c.loop-at.sum
    (some_items parts (sym c.if-is_empty.ensures))
    (listed-end parts c.loop-at.at (parts_of done) (omega arith) inv.listed) inv.rests inv.gains
    inv.table))
    c.in_ok-keep-2.ensures.kept
