-- The lists of rows of a pair of tableaux.
use Rattle.std.specs.Prelude.{ℕ, List}
use Rattle.plain_programs.specs.Words.{words_of}
use Rattle.plain_programs.specs.declared.insertion.TableauPair.{TableauPair}

-- the rows of the insertion tableau and those of the recording tableau
abbrev pub tableaux_of : TableauPair → List (List ℕ) × List (List ℕ)
tableaux_of pair = (words_of pair.insertion.items, words_of pair.recording.items)
