use Rattle.std.proofs.Common.{rules}
use Rattle.std.proofs.lemmas.List.{map-set, take-set, get_or-set_same, length-map, map-append, get_or-append_right}
use Rattle.calc_words.proofs.line.start_word.Goals as goal

pub returns-then-at-len-clause-front : goal.returns-then-at-len-clause-front
returns-then-at-len-clause-front c = search (rules, map-set, take-set)

pub returns-then-at-len-clause-empty : goal.returns-then-at-len-clause-empty
returns-then-at-len-clause-empty c = search (rules, map-set, get_or-set_same, length-map)

pub returns-clause-empty : goal.returns-clause-empty
returns-clause-empty c = search (rules, map-append, length-map, get_or-append_right)
