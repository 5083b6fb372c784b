-- Words are read as those of the command whose name is their first word.
use Rattle.std.proofs.Common.{map, Err, ap, subst}
use Rattle.std.specs.Prelude.{string_bytes}
use Rattle.sym_model.specs.Grammar.{all_entries}
use Rattle.calc_words.specs.ReadParts.{entry_named}
use Rattle.calc_language.specs.Reading.{IsReadAs}
use Rattle.calc_words.proofs.CutWords.{empty_map}
use Rattle.calc_language.proofs.Entries.{read_named, no_words, commands_told}
use Rattle.calc_language.proofs.words.read.Goals as goal

pub returns-in_default : goal.returns-in_default
returns-in_default c =
    no_words (map string_bytes c.args.words.now) _ all_entries commands_told
    (empty_map string_bytes c.args.words.now c.in_default.ensures.cases)
    (ap Err c.syntax.ensures)

pub returns : goal.returns
returns c =
    read_named (string_bytes c.in-Some.first.now) (map string_bytes c.args.words.now)
    (map string_bytes c.in-Some.field-0-1.now) c.by_name.result
    (ap (map string_bytes) c.in-Some.ensures.cases.0)
    (subst (λ v. IsReadAs (entry_named v all_entries) (map string_bytes c.args.words.now)
    c.by_name.result) c.as_str.ensures.value c.by_name.ensures)
