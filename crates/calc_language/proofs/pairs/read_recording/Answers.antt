use Rattle.std.proofs.Common.{◌≡◌, ◌+◌, map, sym, ap, ◌∙◌, subst, suc, [], false, replicate, arith}
use Rattle.std.specs.Prelude.{string_bytes}
use Rattle.sym_model.specs.CommandOffence.{first_offence}
use Rattle.sym_model.specs.Partition.{size}
use Rattle.sym_model.specs.WordForms.{numbers}
use Rattle.word_laws.specs.WrittenRows.{rows_at, left_at}
use Rattle.word_laws.specs.JudgedRows.{recorded, earlier}
use Rattle.calc_words.specs.Reading.{IsJudged}
use Rattle.calc_language.specs.FoundOffences.{found_of}
use Rattle.calc_language.proofs.OnceJudged.{HasFlags, first_flags, recorded_judged}
use Rattle.calc_language.proofs.PairJudging.{recording_first}
use Rattle.calc_language.proofs.pairs.read_recording.Goals as goal

pub returns : goal.returns
returns c =
    let ws = map (λ r. map string_bytes r.now) c.args.rows.now in
    let rows = rows_at c.args.at ws in
    let cells = size c.args.lengths.now in
    let count : c.total.result + 1 ≡ suc cells = omega (arith, c.total.ensures) in
    let flags = c.as_mut_slice.ensures.value
    ∙ c.in_ok-taken.ensures.items_if_clones_equal (λ y same. same) ∙ ap (λ n. replicate n false) count
    in
    subst (λ o. IsJudged (λ v. map (λ r. r.items) v.items
    ≡ map (λ r. numbers (map string_bytes r.now)) c.args.rows.now) o c.read_rows.result)
    (ap (λ os. earlier (first_offence os) (found_of c.left_shape-left.result))
    (recorded_judged cells 0 [] [] c.as_mut_slice.result.now rows
    (subst (HasFlags cells []) (sym flags) (first_flags cells)))
    ∙ ap (earlier (first_offence (recorded cells 0 [] [] rows))) c.left_shape-left.ensures
    ∙ sym (recording_first cells rows (left_at c.args.at c.args.lengths.now ws)))
    c.read_rows.ensures
