use Rattle.std.proofs.Common.{rules}
use Rattle.std.proofs.lemmas.List.{length-map}
use Rattle.word_laws.proofs.CutParts.{numbers_taken}
use Rattle.calc_words.proofs.word_parts.list.Goals as goal

pub returns : goal.returns
returns c = search (rules, numbers_taken, length-map)
