use Rattle.std.proofs.Common.{[], ◌∷◌, map, refl}
use Rattle.std.specs.Prelude.{string_bytes}
use Rattle.sym_model.specs.Form.{word, number}
use Rattle.word_laws.proofs.CutParts.{number_taken, number_wrong}
use Rattle.calc_words.proofs.CutWords.{counted}
use Rattle.calc_words.proofs.word_parts.one_number.Goals as goal

pub returns-in-Some-clause-ok : goal.returns-in-Some-clause-ok
returns-in-Some-clause-ok c =
    let number = c.in-Some.ensures in
    (_ ∷ [], _, number_taken _ _ _ (map string_bytes c.args.words.now) number.1 refl number.0, refl)

pub returns-in-None-clause-wrong : goal.returns-in-None-clause-wrong
returns-in-None-clause-wrong c = counted string_bytes (word number) c.args.words.now
    (number_wrong (map string_bytes c.args.words.now) c.in-None.ensures)
