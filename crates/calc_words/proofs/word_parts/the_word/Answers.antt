use Rattle.std.proofs.Common.{map, rules}
use Rattle.std.specs.Prelude.{string_bytes}
use Rattle.sym_model.specs.WordForms.{the}
use Rattle.word_laws.proofs.CutParts.{the_taken, the_wrong}
use Rattle.calc_words.proofs.CutWords.{counted}
use Rattle.calc_words.proofs.word_parts.the_word.Goals as goal

pub returns-in-Some-clause-ok : goal.returns-in-Some-clause-ok
returns-in-Some-clause-ok c = search (rules, the_taken)

pub returns-in-None-clause-wrong : goal.returns-in-None-clause-wrong
returns-in-None-clause-wrong c =
    counted string_bytes (the c.args.text.now) c.args.words.now (the_wrong c.args.text.now
    (map string_bytes c.args.words.now) c.in-None.ensures)
