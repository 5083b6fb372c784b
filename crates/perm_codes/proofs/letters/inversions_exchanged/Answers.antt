use Rattle.std.proofs.Common.{◌≡◌, ◌+◌, ◌*◌, arith}
use Rattle.std.specs.List.{swap}
use Rattle.sym_model.specs.PlaceOrders.{inversions}
use Rattle.perm_codes.proofs.InversionCounts.{few_inversions}
use Rattle.perm_codes.proofs.OneSwap.{rising_count, falling_count}
use Rattle.perm_codes.proofs.WithinLimits.{short_swap}
use Rattle.perm_codes.proofs.letters.inversions_exchanged.Goals as goal

pub overflow_add-result : goal.overflow_add-result
overflow_add-result c =
    let few = few_inversions c.args.letters.now c.requires.permutation.few in
    let count = c.requires.count in
    omega arith

more : (c : goal.After-count_between) → c.args.count + 1 + 2 * c.count_between.result ≡ inversions
    (swap c.args.letters.now c.args.first c.args.second)
more c =
    let n = c.requires.count in
    let k = c.count_between.ensures in
    let r = rising_count c.args.first c.args.second c.args.letters.now c.requires.order
    c.requires.inside c.requires.permutation.one_line.once c.if-left-right.true in
    omega arith

pub overflow_add-result-then-left-right : goal.overflow_add-result-then-left-right
overflow_add-result-then-left-right c =
    let w = c.args.letters.now in
    let s = short_swap w c.args.first c.args.second
    (omega (arith, c.requires.order, c.requires.inside)) c.requires.inside
    c.requires.permutation in
    let few = few_inversions (swap w c.args.first c.args.second) s.few in
    omega (arith, more c)

pub returns-then-left-right : goal.returns-then-left-right
returns-then-left-right c = more c

pub overflow_sub-result : goal.overflow_sub-result
overflow_sub-result c =
    let n = c.requires.count in
    let r = falling_count c.args.first c.args.second c.args.letters.now c.requires.order
    c.requires.inside c.requires.permutation.one_line.once c.if-left-right.false in
    omega arith

fewer : (c : goal.After-count_between-else-left-right) → c.args.count ≡ inversions
    (swap c.args.letters.now c.args.first c.args.second) + 1 + 2
    * c.count_between-else-left-right.result
fewer c =
    let n = c.requires.count in
    let k = c.count_between-else-left-right.ensures in
    let r = falling_count c.args.first c.args.second c.args.letters.now c.requires.order
    c.requires.inside c.requires.permutation.one_line.once c.if-left-right.false in
    omega arith

pub overflow_sub-result-else-left-right : goal.overflow_sub-result-else-left-right
overflow_sub-result-else-left-right c = omega (arith, fewer c)

pub returns-else-left-right : goal.returns-else-left-right
returns-else-left-right c = omega (arith, fewer c)
