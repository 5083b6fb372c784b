use Rattle.std.proofs.Common.{◌-◌, length, map, sym, ap, rules}
use Rattle.std.specs.Prelude.{string_bytes}
use Rattle.std.proofs.Math.ListN.{set}
use Rattle.std.proofs.lemmas.List.{length-map}
use Rattle.calc_words.specs.Parts.{form_of}
use Rattle.calc_words.proofs.CutWords.{name_refused, parts_refused, left_within, some_part, unread}
use Rattle.calc_words.proofs.command_cuts.cut_unread.Goals as goal

pub returns-in_default-clause-wrong : goal.returns-in_default-clause-wrong
returns-in_default-clause-wrong c = search (rules, name_refused)

pub returns-else-places-last-clause-cut : goal.returns-else-places-last-clause-cut
returns-else-places-last-clause-cut c = search (rules, length-map, set, unread)

pub overflow_sub-last : goal.overflow_sub-last
overflow_sub-last c = some_part c.args.parts.now c.requires.last

pub returns-in-Err-clause-wrong : goal.returns-in-Err-clause-wrong
returns-in-Err-clause-wrong c =
    λ e f.
    parts_refused e c.args.name.now c.args.parts.now (map string_bytes c.args.words.now) _
    c.in-Err.wrong.left c.in-Err.wrong.byte (length c.args.words.now - c.in-Err.wrong.left)
    c.syntax-in-Err.result f c.in-Some.ensures c.in-Err.ensures.wrong
    (ap (λ n. n - c.in-Err.wrong.left) (sym (length-map c.args.words.now string_bytes)))
    c.syntax-in-Err.ensures

pub overflow_sub-words : goal.overflow_sub-words
overflow_sub-words c = left_within string_bytes (form_of c.args.parts.now) c.args.words.now
    c.in-Err.wrong.left c.in-Err.wrong.byte c.in-Err.ensures.wrong
