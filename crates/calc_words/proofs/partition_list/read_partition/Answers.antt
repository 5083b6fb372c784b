use Rattle.std.proofs.Common.{◌<◌, ◌≤◌, length, map, take, sym, ap, ◌∙◌, subst, arith, rules}
use Rattle.std.specs.Prelude.{string_bytes}
use Rattle.sym_model.specs.PrintedBlock.{decimal_value}
use Rattle.sym_model.specs.WordForms.{numbers}
use Rattle.sym_model.specs.Partition.{without_last_zeros}
use Rattle.partitions.specs.Limits.{IsWithinLimits}
use Rattle.calc_words.proofs.Judging.{number_at, counted, wide_first, kind_first, goes_on, ends}
use Rattle.calc_words.proofs.Judging.{all_parts}
use Rattle.calc_words.proofs.WrittenLists.{written, written_partition}
use Rattle.calc_words.proofs.partition_list.read_partition.Goals as goal

pub returns-in_default : goal.returns-in_default
returns-in_default c =
    let ws = c.args.words.now in
    let ns = numbers (map string_bytes ws) in
    let e = number_at string_bytes decimal_value ws c.loop-count.count c.index-words-count.result
    c.loop-count-test.true c.index-words-count.is in
    let h : c.loop-count.count < length ns = let x = counted string_bytes decimal_value ws in
    omega (arith, x) in
    wide_first c.args.at ns c.loop-count.count c.loop-count.cells _ c.loop-count.last
    c.loop-count.parts
    c.loop-count.invariant h (e ∙ ap decimal_value (sym c.as_bytes.ensures.value))
    (sym c.value_of.ensures ∙ c.in_default.is) c.offence.result c.offence.ensures

pub returns-in-Some-part_offence : goal.returns-in-Some-part_offence
returns-in-Some-part_offence c =
    let ws = c.args.words.now in
    let ns = numbers (map string_bytes ws) in
    let e = number_at string_bytes decimal_value ws c.loop-count.count c.index-words-count.result
    c.loop-count-test.true c.index-words-count.is in
    let h : c.loop-count.count < length ns = let x = counted string_bytes decimal_value ws in
    omega (arith, x) in
    kind_first c.args.at ns c.loop-count.count c.loop-count.cells _ c.in-Some.value
    c.loop-count.last c.loop-count.parts
    c.loop-count.invariant h (e ∙ ap decimal_value (sym c.as_bytes.ensures.value))
    (sym c.in-Some.is ∙ c.value_of.ensures)
    c.in-Some-part_offence.kind (sym c.in-Some-part_offence.is ∙ c.part_offence.ensures)
    c.offence-in-Some-part_offence.result c.offence-in-Some-part_offence.ensures

pub loop-count-preserved : goal.loop-count-preserved
loop-count-preserved c = search (rules, number_at, counted, goes_on)

pub partition_of-requires : goal.partition_of-requires
partition_of-requires c =
    let ws = c.args.words.now in
    let ns = numbers (map string_bytes ws) in
    let x = counted string_bytes decimal_value ws in
    let i = c.loop-count.count in
    let over : length ws ≤ i = c.loop-count-test.false in
    let most : i ≤ length ws = c.loop-count.auto.count-end in
    let j = c.loop-count.invariant in
    let parts = c.loop-count.parts in
    let first = ends c.args.at ns i c.loop-count.cells c.loop-count.last parts j
    (omega (arith, x, over)) in
    let all = all_parts c.args.at ns i c.loop-count.cells c.loop-count.last parts j
    (omega (arith, x, over)) (omega (arith, x, most)) in
    subst (λ xs. IsWithinLimits (without_last_zeros xs))
    (sym (ap (λ n. take n parts) (sym x) ∙ all))
    (written_partition (without_last_zeros ns) (written c.args.at ns first))
