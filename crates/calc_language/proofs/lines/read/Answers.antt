use Rattle.std.proofs.Common.{◌≡◌, nat_lt, false, map, length, sym, ap, ◌∙◌, subst, arith, Ok, Err}
use Rattle.std.specs.Prelude.{string_bytes}
use Rattle.std.proofs.lemmas.Bool.{le-ltb}
use Rattle.std.proofs.lemmas.Result.{err_from_is_err_and}
use Rattle.sym_model.specs.BatchLine.{most_bytes, words_of_line}
use Rattle.calc_words.specs.LineBytes.{seen, is_passed_over}
use Rattle.calc_words.specs.Reading.{IsRead}
use Rattle.sym_model.specs.Grammar.{line_entries}
use Rattle.calc_language.proofs.LineCommands.{line_read}
use Rattle.calc_language.proofs.lines.read.Goals as goal

pub returns : goal.returns
returns c =
    let line = c.args.line.now in
    let kept = map string_bytes c.line_words.new.words.items in
    let command = c.in_ok-command.command in
    let short : nat_lt most_bytes (length line) ≡ false = le-ltb most_bytes (length line)
    (omega (arith, c.if-line-gt-MOST_BYTES.false)) in
    let same = c.in_ok-line_words.ensures ∙ ap (λ l. map seen (words_of_line l)) c.without_return.ensures
    in
    let some : is_passed_over kept ≡ false =
    sym (ap (λ xs. is_passed_over (map string_bytes xs)) c.as_slice.ensures.value)
    ∙ sym c.are_passed_over.ensures ∙ c.if-are_passed_over.false in
    line_read line kept (Ok command) short same some
    (subst (λ xs. IsRead line_entries (map string_bytes xs) (Ok command))
    c.as_slice-2.ensures.value c.in_ok-command.ensures)

pub returns-in_err-command : goal.returns-in_err-command
returns-in_err-command c =
    let line = c.args.line.now in
    let kept = map string_bytes c.line_words.new.words.items in
    let fault = c.in_err-command.field-0.0 in
    let p = err_from_is_err_and c.from_residual-in_err-command.result
    c.from_residual-in_err-command.ensures.1 in
    let short : nat_lt most_bytes (length line) ≡ false = le-ltb most_bytes (length line)
    (omega (arith, c.if-line-gt-MOST_BYTES.false)) in
    let same = c.in_ok-line_words.ensures ∙ ap (λ l. map seen (words_of_line l)) c.without_return.ensures
    in
    let some : is_passed_over kept ≡ false =
    sym (ap (λ xs. is_passed_over (map string_bytes xs)) c.as_slice.ensures.value)
    ∙ sym c.are_passed_over.ensures ∙ c.if-are_passed_over.false in
    rw (p.1, p.2)
    (line_read line kept (Err fault) short same some
    (subst (λ xs. IsRead line_entries (map string_bytes xs) (Err fault)) c.as_slice-2.ensures.value
    c.in_err-command.ensures))
