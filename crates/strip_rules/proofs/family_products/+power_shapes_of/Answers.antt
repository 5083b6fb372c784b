use Rattle.std.proofs.Common.{◌-◌, length, get_or, take, drop, ap, arith, rules}
use Rattle.std.proofs.Math.Nat.{pow-le-pow_right}
use Rattle.sym_model.specs.Bases.{power_sum_of, product_over}
use Rattle.sym_model.specs.Partition.{size}
use Rattle.sym_model.proofs.Parts.{split_first}
use Rattle.sparse_polys.proofs.Coefficients.{if_answered}
use Rattle.strip_rules.proofs.BeadSums.{room_left}
use Rattle.strip_rules.proofs.HookMoves.{first_part}
use Rattle.strip_rules.proofs.family_products.+power_shapes_of.Goals as goal

pub with_hooks-requires-clause-within : goal.with_hooks-requires-clause-within
with_hooks-requires-clause-within t c =
    let k = get_or c.args.parts.now 0 0 in
    let rest = take (length c.args.parts.now - 1) (drop 1 c.args.parts.now) in
    let s = ap size (split_first c.args.parts.now c.in-len1-up.len_at_least) in
    let low = c.requires.low in
    room_left (size rest) k c.in_ok-others.others (omega arith) c.in_ok-others.ensures.value.within

pub with_hooks-requires-clause-mass : goal.with_hooks-requires-clause-mass
with_hooks-requires-clause-mass t c = search (rules, split_first, pow-le-pow_right)

pub returns-clause-value : goal.returns-clause-value
returns-clause-value t c =
    let k = get_or c.args.parts.now 0 0 in
    let rest = take (length c.args.parts.now - 1) (drop 1 c.args.parts.now) in
    let split = split_first c.args.parts.now c.in-len1-up.len_at_least in
    let s = ap size split in
    let low = c.requires.low in
    if_answered c.with_hooks.result
    (c.with_hooks.ensures.value (product_over power_sum_of rest) (size rest)
    c.in_ok-others.ensures.value (omega arith))
    (λ list are. first_part power_sum_of k rest c.args.parts.now list split are)
