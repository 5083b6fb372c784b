use Rattle.std.proofs.Common.{[], ◌∷◌, map, refl}
use Rattle.std.specs.Prelude.{string_bytes}
use Rattle.sym_model.specs.Form.{word, target}
use Rattle.sym_model.specs.Grammar.{all_bases}
use Rattle.word_laws.proofs.CutParts.{letter_taken, letter_wrong}
use Rattle.calc_words.proofs.CutWords.{counted}
use Rattle.calc_words.proofs.word_parts.letter.Goals as goal

pub returns-in-Some-clause-ok : goal.returns-in-Some-clause-ok
returns-in-Some-clause-ok c = (
  _ ∷ [],
  _,
  letter_taken _ _ (map string_bytes c.args.words.now)
      c.in-Some.ensures,
  refl,
)

pub returns-in-None-clause-wrong : goal.returns-in-None-clause-wrong
returns-in-None-clause-wrong c =
    counted string_bytes (word (target all_bases)) c.args.words.now
    (letter_wrong (map string_bytes c.args.words.now) c.in-None.ensures)
