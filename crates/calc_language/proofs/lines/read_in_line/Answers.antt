-- The words of a line of a batch are read as the words of the command whose name is their first word.
use Rattle.std.proofs.Common.{map, Err, ap, subst, ◌≡◌, ◌∙◌, ◌⊎◌}
use Rattle.std.specs.Prelude.{string_bytes, codes}
use Rattle.sym_model.specs.Grammar.{all_entries, line_entries}
use Rattle.calc_words.specs.ReadParts.{entry_named}
use Rattle.calc_language.specs.Reading.{IsReadAs}
use Rattle.calc_words.proofs.CutWords.{empty_map}
use Rattle.calc_language.proofs.Entries.{read_in_line, no_words, lines_told, elsewhere, runs_others}
use Rattle.calc_language.proofs.lines.read_in_line.Goals as goal

pub returns-in_default : goal.returns-in_default
returns-in_default c =
    no_words (map string_bytes c.args.words.now) _ line_entries lines_told
    (empty_map string_bytes c.args.words.now c.in_default.ensures.cases)
    (ap Err c.syntax.ensures)

pub returns-in_default-as_str : goal.returns-in_default-as_str
returns-in_default-as_str c =
    let is = c.as_str.ensures.value in
    read_in_line (string_bytes c.in-Some.first.now) (map string_bytes c.args.words.now)
    (map string_bytes c.in-Some.field-0-1.now) c.by_name.result
    (ap (map string_bytes) c.in-Some.ensures.cases.0)
    (λ h. c.in_default-as_str.not-batch (is ∙ h)) (λ h. c.in_default-as_str.not-work (is ∙ h))
    (subst (λ v. IsReadAs (entry_named v all_entries) (map string_bytes c.args.words.now)
    c.by_name.result) is c.by_name.ensures)

pub returns-in-batch : goal.returns-in-batch
returns-in-batch c =
    let first = string_bytes c.in-Some.first.now in
    let is : (first ≡ codes "batch") ⊎ (first ≡ codes "work") =
    subst (λ v. (v ≡ codes "batch") ⊎ (v ≡ codes "work")) c.as_str.ensures.value c.in-batch.is in
    elsewhere first (map string_bytes c.args.words.now) (map string_bytes c.in-Some.field-0-1.now) _
    (ap (map string_bytes) c.in-Some.ensures.cases.0) (runs_others first is)
    (ap Err c.syntax-in-batch.ensures)
