-- The clauses of `grammar_law`: a word spells at most one phrase (a syntax tree with the digits and parentheses of the word) and at most one
-- expression (`Tree`).
use Rattle.std.proofs.Common.{◌≡◌, ℕ, List, sym, ap, ◌∙◌}
use Rattle.sym_model.specs.Expression.{Tree}
use Rattle.sym_model.specs.Phrase.{tree, SpellsTree}
use Rattle.expression_laws.proofs.PhraseRuns.{one_phrase}
use Rattle.expression_laws.proofs.grammar.grammar_law.Goals as goal

one_tree : (word : List ℕ) (e f : Tree) → SpellsTree word e → SpellsTree word f → e ≡ f
one_tree word e f h k = h.2 ∙ ap tree (one_phrase word h.0 k.0 h.1 k.1) ∙ sym k.2

pub returns-clause-one_phrase : goal.returns-clause-one_phrase
returns-clause-one_phrase c = one_phrase

pub returns-clause-one_expression : goal.returns-clause-one_expression
returns-clause-one_expression c = one_tree
