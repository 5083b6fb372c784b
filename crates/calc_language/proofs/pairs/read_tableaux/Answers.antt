use Rattle.std.proofs.Common.{◌+◌, ◌<◌, [], length, map, sym, ap, ap₂, ◌∙◌, subst, arith}
use Rattle.std.specs.Prelude.{string_bytes}
use Rattle.std.proofs.lemmas.List.{length-map}
use Rattle.std.proofs.lemmas.Result.{err_from_is_err_and}
use Rattle.sym_model.specs.Command.{unrsk}
use Rattle.sym_model.specs.CommandOffence.{rows_in, first_offence}
use Rattle.sym_model.specs.Grammar.{insertion_offences}
use Rattle.sym_model.specs.WordForms.{numbers}
use Rattle.sym_model.specs.Partition.{size}
use Rattle.word_laws.specs.WrittenRows.{rows_at}
use Rattle.calc_words.proofs.Commands.{judged_on}
use Rattle.calc_words.specs.Reading.{IsFirst}
use Rattle.calc_language.specs.PairOffences.{pair_offences}
use Rattle.calc_language.proofs.FaultlessPairs.{written_pair}
use Rattle.calc_language.proofs.PairJudging.{first_of_pair, second_of_pair, read_lengths}
use Rattle.calc_language.proofs.PairJudging.{lengths_fit, place_of_second}
use Rattle.calc_language.proofs.pairs.read_tableaux.Goals as goal
use Rattle.std.proofs.lemmas.Simd.{map-map}

pub returns-in_err-insertion : goal.returns-in_err-insertion
returns-in_err-insertion c =
    let w1 = map (λ r. map string_bytes r.now) c.args.first.now in
    let w2 = map (λ r. map string_bytes r.now) c.args.second.now in
    let l1 = length-map c.args.first.now (λ r. map string_bytes r.now) in
    let n1 : 0 < length w1 = omega (arith, l1, c.requires.first.0) in
    let p = err_from_is_err_and c.from_residual.result c.from_residual.ensures.1 in
    rw (p.1, p.2)
    (judged_on (first_offence (insertion_offences (rows_at 1 w1)))
    (first_offence (pair_offences w1 w2)) _ (λ o h. first_of_pair w1 w2 o n1 h)
    c.in_err-insertion.ensures)

pub read_recording-requires-clause-few : goal.read_recording-requires-clause-few
read_recording-requires-clause-few c =
    let asked = ap size (c.as_slice-2.ensures.value ∙ c.in_ok-lengths.ensures
    ∙ ap (map (λ r. length r.items)) c.as_slice.ensures.value
    ∙ read_lengths (λ r. r.items) (λ r. map string_bytes r.now) c.in_ok-insertion.insertion.items
    c.args.first.now c.in_ok-insertion.ensures.0) in
    let fit = lengths_fit (map (λ r. map string_bytes r.now) c.args.first.now) in
    omega (arith, asked, fit, c.requires.room)

pub returns-in_err-recording : goal.returns-in_err-recording
returns-in_err-recording c =
    let w1 = map (λ r. map string_bytes r.now) c.args.first.now in
    let w2 = map (λ r. map string_bytes r.now) c.args.second.now in
    let l1 = length-map c.args.first.now (λ r. map string_bytes r.now) in
    let l2 = length-map c.args.second.now (λ r. map string_bytes r.now) in
    let n1 : 0 < length w1 = omega (arith, l1, c.requires.first.0) in
    let n2 : 0 < length w2 = omega (arith, l2, c.requires.second.0) in
    let asked = c.as_slice-2.ensures.value ∙ c.in_ok-lengths.ensures
    ∙ ap (map (λ r. length r.items)) c.as_slice.ensures.value
    ∙ read_lengths (λ r. r.items) (λ r. map string_bytes r.now) c.in_ok-insertion.insertion.items
    c.args.first.now c.in_ok-insertion.ensures.0 in
    let at = ap (λ n. 1 + n) c.text_length-at.ensures ∙ place_of_second w1 n1 in
    let p = err_from_is_err_and c.from_residual-in_err-recording.result
    c.from_residual-in_err-recording.ensures.1 in
    rw (p.1, p.2)
    (subst (λ o. IsFirst o c.in_err-recording.field-0.0)
    (second_of_pair w1 w2 (1 + c.text_length-at.result) c.as_slice-2.result.now n1 n2
    c.requires.second.1 at asked c.in_ok-insertion.ensures.1)
    c.in_err-recording.ensures)

pub tableaux_of-requires : goal.tableaux_of-requires
tableaux_of-requires c =
    let w1 = map (λ r. map string_bytes r.now) c.args.first.now in
    let w2 = map (λ r. map string_bytes r.now) c.args.second.now in
    let l1 = length-map c.args.first.now (λ r. map string_bytes r.now) in
    let l2 = length-map c.args.second.now (λ r. map string_bytes r.now) in
    let n1 : 0 < length w1 = omega (arith, l1, c.requires.first.0) in
    let n2 : 0 < length w2 = omega (arith, l2, c.requires.second.0) in
    let asked = c.as_slice-2.ensures.value ∙ c.in_ok-lengths.ensures
    ∙ ap (map (λ r. length r.items)) c.as_slice.ensures.value
    ∙ read_lengths (λ r. r.items) (λ r. map string_bytes r.now) c.in_ok-insertion.insertion.items
    c.args.first.now c.in_ok-insertion.ensures.0 in
    let at = ap (λ n. 1 + n) c.text_length-at.ensures ∙ place_of_second w1 n1 in
    let one = ap (map (λ r. r.items)) c.as_slice-3.ensures.value ∙ c.without_dot-insertion.ensures
    ∙ ap (rows_in []) (c.in_ok-insertion.ensures.0
    ∙ sym (map-map numbers (λ r. map string_bytes r.now) c.args.first.now)) in
    let two = ap (map (λ r. r.items)) c.as_slice-4.ensures.value ∙ c.without_dot-recording.ensures
    ∙ ap (rows_in []) (c.in_ok-recording.ensures.0
    ∙ sym (map-map numbers (λ r. map string_bytes r.now) c.args.second.now)) in
    rw (one, two)
    (written_pair (1 + c.text_length-at.result) w1 w2 c.as_slice-2.result.now n1 n2 asked
    c.in_ok-insertion.ensures.1 c.in_ok-recording.ensures.1)

pub returns : goal.returns
returns c =
    let w1 = map (λ r. map string_bytes r.now) c.args.first.now in
    let w2 = map (λ r. map string_bytes r.now) c.args.second.now in
    let l1 = length-map c.args.first.now (λ r. map string_bytes r.now) in
    let l2 = length-map c.args.second.now (λ r. map string_bytes r.now) in
    let n1 : 0 < length w1 = omega (arith, l1, c.requires.first.0) in
    let n2 : 0 < length w2 = omega (arith, l2, c.requires.second.0) in
    let asked = c.as_slice-2.ensures.value ∙ c.in_ok-lengths.ensures
    ∙ ap (map (λ r. length r.items)) c.as_slice.ensures.value
    ∙ read_lengths (λ r. r.items) (λ r. map string_bytes r.now) c.in_ok-insertion.insertion.items
    c.args.first.now c.in_ok-insertion.ensures.0 in
    let at = ap (λ n. 1 + n) c.text_length-at.ensures ∙ place_of_second w1 n1 in
    let one = c.in_ok-p.ensures.first ∙ ap (map (λ r. r.items)) c.as_slice-3.ensures.value
    ∙ c.without_dot-insertion.ensures ∙ ap (rows_in []) c.in_ok-insertion.ensures.0 in
    let two = c.in_ok-p.ensures.second ∙ ap (map (λ r. r.items)) c.as_slice-4.ensures.value
    ∙ c.without_dot-recording.ensures ∙ ap (rows_in []) c.in_ok-recording.ensures.0 in (
      (ap₂ unrsk one two, c.in_ok-p.ensures.pair),
      sym (second_of_pair w1 w2 (1 + c.text_length-at.result) c.as_slice-2.result.now n1 n2
          c.requires.second.1 at asked c.in_ok-insertion.ensures.1) ∙ c.in_ok-recording.ensures.1,
    )
