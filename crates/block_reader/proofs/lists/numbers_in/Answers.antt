use Rattle.std.proofs.Common.{◌≡◌, ◌<◌, ◌++◌, map, List, ℕ, ap, sym, ◌∙◌, subst, length, rules}
use Rattle.std.proofs.Common.{tests}
use Rattle.sym_model.specs.Kind.{after_one}
use Rattle.sym_model.specs.NumberText.{cut_at, split_at, decimal_value}
use Rattle.block_reader.proofs.Cuts.{after_one-cut}
use Rattle.block_reader.proofs.NumberLists.{numbers-past, numbers-more, numbers-last}
use Rattle.block_reader.proofs.lists.numbers_in.Goals as goal

pub returns-in_default : goal.returns-in_default
returns-in_default c =
    numbers-past c.args.text.now c.requires c.loop-number.numbers.items c.loop-number.rest.now
    c.loop-number.invariant
    c.cut.result.0.now c.cut.ensures.front c.in_default.ensures

pub returns-then-is_empty : goal.returns-then-is_empty
returns-then-is_empty c =
    let none : length c.cut.result.1.now ≡ 0 = search (rules, tests) in
    c.in_ok-push.ensures.items
    ∙ numbers-last c.args.text.now c.requires c.loop-number.numbers.items c.loop-number.rest.now
    c.loop-number.invariant
    c.cut.result.0.now c.cut.result.1.now c.in-Some.number c.cut.ensures.front c.cut.ensures.back
    c.in-Some.ensures.1 none

pub loop-number-smaller : goal.loop-number-smaller
loop-number-smaller c =
    let some : 0 < length c.cut.result.1.now = search (rules, tests) in
    let rest = c.loop-number.rest.now in
    let more : 0 < length (cut_at 44 rest).1 = subst (λ (t : List ℕ). 0 < length t)
    c.cut.ensures.back some in
    subst (λ (t : List ℕ). length t < length rest)
    (sym (c.after_first-rest.ensures ∙ ap after_one c.cut.ensures.back))
    (after_one-cut 44 rest more)

pub loop-number-preserved : goal.loop-number-preserved
loop-number-preserved c =
    let some : 0 < length c.cut.result.1.now = search (rules, tests) in
    ap (λ (ns : List ℕ). ns ++ map decimal_value (split_at 44 c.after_first-rest.result.now))
    c.in_ok-push.ensures.items
    ∙ numbers-more c.args.text.now c.requires c.loop-number.numbers.items c.loop-number.rest.now
    c.loop-number.invariant
    c.cut.result.0.now c.cut.result.1.now c.after_first-rest.result.now c.in-Some.number
    c.cut.ensures.front c.cut.ensures.back c.after_first-rest.ensures c.in-Some.ensures.1 some
