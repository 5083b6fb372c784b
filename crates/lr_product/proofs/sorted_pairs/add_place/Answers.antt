use Rattle.std.proofs.Common.{◌≡◌, ℕ, ◌^◌, ◌<◌, List, length, take, sym, subst, ap, ◌∙◌, arith, rules}
use Rattle.std.specs.Prelude.{Some, slice_get}
use Rattle.lr_product.specs.Places.{entry_at}
use Rattle.std.specs.Int.{w128}
use Rattle.std.proofs.lemmas.Int.{to_z_pos}
use Rattle.sym_model.specs.Partition.{without_last_zeros}
use Rattle.partitions.specs.Limits.{IsWithinLimits}
use Rattle.lr_product.proofs.CountedLists.{sum_within}
use Rattle.lr_product.proofs.Placed.{none_at, some_at, nothing_counted, pushed_counts}
use Rattle.lr_product.proofs.Placed.{pushed_small, reached_at}
use Rattle.lr_product.proofs.sorted_pairs.add_place.Goals as goal

small_at : (es : List (List ℕ × ℕ)) (at : ℕ) (key : List ℕ) (w : ℕ) → slice_get es at
    ≡ Some (key, w) → (entry_at es at).1 < 2 ^ 127 → w < 2 ^ 127
small_at es at key w e h =
    let a = ap (λ (x : List ℕ × ℕ). x.1) (some_at es at key w e) in omega arith

pub returns-in_default-clause-adds : goal.returns-in_default-clause-adds
returns-in_default-clause-adds c parts = search (rules, nothing_counted, none_at)

pub returns-then-ways-eq0-clause-adds : goal.returns-then-ways-eq0-clause-adds
returns-then-ways-eq0-clause-adds c parts = search (rules, nothing_counted, some_at)

pub slice_bounds-from_valid_numbers-end : goal.slice_bounds-from_valid_numbers-end
slice_bounds-from_valid_numbers-end c =
    let key = c.in-Some.state.now in
    let r = reached_at c.args.letters c.args.table.now.entries c.args.at key c.in-Some.ways
    c.requires.reached (sym c.in-Some.ensures) (omega (arith, c.if-ways-eq0.false)) in
    c.from.ensures ∙ sym (ap length (ap (λ k. take k key) c.from.ensures) ∙ r.long)

pub from_valid_numbers-requires : goal.from_valid_numbers-requires
from_valid_numbers-requires c =
    let n = c.args.letters in
    let key = c.in-Some.state.now in
    let r = reached_at n c.args.table.now.entries c.args.at key c.in-Some.ways c.requires.reached
    (sym c.in-Some.ensures) (omega (arith, c.if-ways-eq0.false)) in
    subst (λ (s : List ℕ). IsWithinLimits (without_last_zeros s))
    (sym (ap (λ k. take k key) c.from.ensures)) (sum_within n (take n key) c.requires.letters r)

pub returns-clause-adds : goal.returns-clause-adds
returns-clause-adds c parts =
    let small : c.in-Some.ways < 2 ^ 127 = small_at c.args.table.now.entries c.args.at
    c.in-Some.state.now c.in-Some.ways (sym c.in-Some.ensures) (c.requires.exact.below c.args.at) in
    search (rules, pushed_counts, to_z_pos)

pub returns-clause-small : goal.returns-clause-small
returns-clause-small c =
    let small : c.in-Some.ways < 2 ^ 127 = small_at c.args.table.now.entries c.args.at
    c.in-Some.state.now c.in-Some.ways (sym c.in-Some.ensures) (c.requires.exact.below c.args.at) in
    pushed_small c.args.pairs.now.items c.push.new.self.items c.in_ok-label.label c.new.result
    c.in-Some.ways c.in_ok-push.ensures.items (c.new.ensures ∙ to_z_pos w128 c.in-Some.ways small)
    small
