use Rattle.std.proofs.Common.{◌-◌, length, get_or, take, arith, rules}
use Rattle.std.proofs.lemmas.List.{length-take-le}
use Rattle.std.proofs.Math.Nat.{pow-le-pow_right}
use Rattle.sym_model.specs.Bases.{product_over}
use Rattle.sym_model.specs.Partition.{size}
use Rattle.sparse_polys.proofs.Coefficients.{if_answered}
use Rattle.strip_rules.specs.FamilyShapes.{polynomial_by}
use Rattle.strip_rules.proofs.BeadSums.{room_left, more_parts, split_last, parts_sum}
use Rattle.strip_rules.proofs.family_products.+shapes_of.Goals as goal

pub shapes_of-requires : goal.shapes_of-requires
shapes_of-requires t c = search (rules, parts_sum, length-take-le)

pub with_strips-requires-clause-few : goal.with_strips-requires-clause-few
with_strips-requires-clause-few t c = search (rules, parts_sum)

pub with_strips-requires-clause-within : goal.with_strips-requires-clause-within
with_strips-requires-clause-within t c =
    let n = length c.args.parts.now - 1 in
    let s = parts_sum c.args.parts.now c.in-len1-up.len_at_least in
    let low = c.requires in
    room_left (size (take n c.args.parts.now)) (get_or c.args.parts.now n 0) c.in_ok-others.others (omega arith) c.in_ok-others.ensures.value.within

pub with_strips-requires-clause-mass : goal.with_strips-requires-clause-mass
with_strips-requires-clause-mass t c = search (rules, parts_sum, pow-le-pow_right)

pub returns-clause-value : goal.returns-clause-value
returns-clause-value t c =
    let n = length c.args.parts.now - 1 in
    let k = get_or c.args.parts.now n 0 in
    let rest = take n c.args.parts.now in
    let s = parts_sum c.args.parts.now c.in-len1-up.len_at_least in
    let many = c.in-len1-up.len_at_least in
    let split = split_last n c.args.parts.now (omega arith) in
    let low = c.requires in
    if_answered c.with_strips.result
    (c.with_strips.ensures.value (product_over (polynomial_by c.args.strip) rest) (size rest)
    c.in_ok-others.ensures.value (omega arith))
    (λ list are. more_parts (polynomial_by c.args.strip) k rest c.args.parts.now list split are)
