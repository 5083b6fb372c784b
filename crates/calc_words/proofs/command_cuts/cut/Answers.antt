use Rattle.std.proofs.Common.{◌-◌, length, map, refl, sym, ap, arith, rules}
use Rattle.std.specs.Prelude.{string_bytes, slice_index_or}
use Rattle.std.proofs.lemmas.List.{length-map}
use Rattle.calc_words.specs.Parts.{form_of}
use Rattle.calc_words.proofs.CutWords.{name_refused, parts_refused, left_within, cut_left, cut_done}
use Rattle.calc_words.proofs.command_cuts.cut.Goals as goal

pub returns-in_default-clause-wrong : goal.returns-in_default-clause-wrong
returns-in_default-clause-wrong c = search (rules, name_refused)

pub returns-then-at-words-clause-wrong : goal.returns-then-at-words-clause-wrong
returns-then-at-words-clause-wrong c =
    let words = map string_bytes c.args.words.now in
    let l = length-map c.args.words.now string_bytes in
    let at = slice_index_or c.in-Ok.places (length c.args.parts.now) 0 in
    λ e f.
    parts_refused e c.args.name.now c.args.parts.now words _ (length words - at) 0
    at c.syntax-then-at-words.result f c.in-Some.ensures
    (cut_left c.args.parts.now (length c.args.parts.now) at (length words - at) c.in-Ok.places words
    c.in-Ok.ensures.cut (omega arith) refl
    (omega (arith, l, c.if-at-words.true)))
    (omega (arith, l, c.if-at-words.true)) c.syntax-then-at-words.ensures

pub returns-else-at-words-clause-cut : goal.returns-else-at-words-clause-cut
returns-else-at-words-clause-cut c = search (rules, length-map, cut_done)

pub returns-in-Err-clause-wrong : goal.returns-in-Err-clause-wrong
returns-in-Err-clause-wrong c =
    λ e f.
    parts_refused e c.args.name.now c.args.parts.now (map string_bytes c.args.words.now) _
    c.in-Err.wrong.left c.in-Err.wrong.byte (length c.args.words.now - c.in-Err.wrong.left)
    c.syntax-in-Err.result f c.in-Some.ensures c.in-Err.ensures.wrong
    (ap (λ n. n - c.in-Err.wrong.left) (sym (length-map c.args.words.now string_bytes)))
    c.syntax-in-Err.ensures

pub overflow_sub-words : goal.overflow_sub-words
overflow_sub-words c = left_within string_bytes (form_of c.args.parts.now) c.args.words.now
    c.in-Err.wrong.left c.in-Err.wrong.byte c.in-Err.ensures.wrong
