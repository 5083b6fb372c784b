use Rattle.std.proofs.Common.{refl, arith, rules}
use Rattle.std.proofs.lemmas.Option.{slice_get_within}
use Rattle.std.specs.Cmp.{nat_eq_equiv}
use Rattle.sym_model.specs.Partition.{size}
use Rattle.family_lists.proofs.KeptLists.{list-found}
use Rattle.linear_combinations.proofs.Masses.{labels_gained, on_both}
use Rattle.beta_sets.specs.BetaSets.{IsInRows}
use Rattle.linear_combinations.proofs.Labels.{same_number}
use Rattle.beta_sets.proofs.BetaSets.{within_more}
use Rattle.basis_change.specs.KeptLists.{IsKept}
use Rattle.basis_change.proofs.TwentyRows.{wide-gains, wide-labels, wide-large}
use Rattle.basis_change.proofs.kept.add_straightened.Goals as goal
use Rattle.std.proofs.lemmas.Result.{on_ok_weaker}

pub list_at-requires : goal.list_at-requires
list_at-requires c = search (rules, slice_get_within)

pub add_by-requires : goal.add_by-requires
add_by-requires c =
    let kept : IsKept c.args.parts.now c.list_at.result.1.now =
    list-found IsKept c.kept_list.new.lists.entries _ c.args.parts.now c.list_at.result.0.now
    c.list_at.result.1.now c.in_ok-at.at refl c.in_ok-at.ensures.kept c.in_ok-at.ensures.place
    c.list_at.ensures in
    within_more (size c.args.parts.now) 20 c.list_at.result.1.now c.requires.low kept.within

pub returns-clause-gains : goal.returns-clause-gains
returns-clause-gains c =
    let kept : IsKept c.args.parts.now c.list_at.result.1.now =
    list-found IsKept c.kept_list.new.lists.entries _ c.args.parts.now c.list_at.result.0.now
    c.list_at.result.1.now c.in_ok-at.at refl c.in_ok-at.ensures.kept c.in_ok-at.ensures.place
    c.list_at.ensures in
    on_ok_weaker c.add_by.result (λ gains n enough. wide-gains c.args.c c.args.parts.now n c.list_at.result.1.now kept c.requires.low enough
    c.args.sum.now c.add_by.new.self gains) c.add_by.ensures.gains

pub returns-clause-within : goal.returns-clause-within
returns-clause-within c =
    let kept : IsKept c.args.parts.now c.list_at.result.1.now =
    list-found IsKept c.kept_list.new.lists.entries _ c.args.parts.now c.list_at.result.0.now
    c.list_at.result.1.now c.in_ok-at.at refl c.in_ok-at.ensures.kept c.in_ok-at.ensures.place
    c.list_at.ensures in
    on_both c.add_by.result c.add_by.ensures.gains c.add_by.ensures.table
    (λ gains table. labels_gained nat_eq_equiv same_number c.args.sum.now _ c.add_by.new.self table gains
    (IsInRows 20 20) c.requires.within
    (wide-labels c.args.c c.args.parts.now (size c.args.parts.now) c.list_at.result.1.now kept c.requires.low
    (omega arith)))

pub returns-clause-large : goal.returns-clause-large
returns-clause-large c err n enough =
    let kept : IsKept c.args.parts.now c.list_at.result.1.now =
    list-found IsKept c.kept_list.new.lists.entries _ c.args.parts.now c.list_at.result.0.now
    c.list_at.result.1.now c.in_ok-at.at refl c.in_ok-at.ensures.kept c.in_ok-at.ensures.place
    c.list_at.ensures in
    wide-large c.args.c c.args.parts.now n c.list_at.result.1.now kept c.requires.low enough
    c.args.sum.now c.add_by.ensures.list c.requires.within (c.add_by.ensures.large err)
