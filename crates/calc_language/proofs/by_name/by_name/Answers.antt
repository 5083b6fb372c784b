-- If a word is not one of the names of commands, `entry_named` finds no entry for it.
use Rattle.std.proofs.Common.{◌≡◌, map, None, Err, ap, sym, subst}
use Rattle.std.specs.Prelude.{string_bytes}
use Rattle.sym_model.specs.Grammar.{all_entries}
use Rattle.calc_words.specs.ReadParts.{entry_named}
use Rattle.calc_language.specs.Reading.{IsReadAs}
use Rattle.calc_language.proofs.Entries.{none_named}
use Rattle.calc_language.proofs.by_name.by_name.Goals as goal

pub returns-in_default : goal.returns-in_default
returns-in_default c =
    let none : entry_named c.args.name.now all_entries ≡ None = none_named c.args.name.now
    all_entries (search parts 64) in
    subst (λ o. IsReadAs o (map string_bytes c.args.words.now) (Err c.syntax.result)) (sym none)
    (ap Err c.syntax.ensures)
