-- For each command there are words of its form; and if the words of a command `expand` have no error, the degree of its expression is at most the
-- greatest degree that its target basis allows.
use Rattle.std.proofs.Common.{◌≡◌, arith, None, ◌+◌, ◌≤◌, Bool, List, [], ◌∷◌, length, sym, subst, inl, inr}
use Rattle.sym_model.specs.Expansion.{Basis, monomials}
use Rattle.sym_model.specs.Expression.{Tree, number, degree}
use Rattle.sym_model.specs.ExpressionOffence.{degree_limit}
use Rattle.sym_model.specs.Form.{Written, words_of, EachOf, Has}
use Rattle.sym_model.specs.WordForms.{optional, form_words}
use Rattle.sym_model.specs.Command.{Command, expand}
use Rattle.sym_model.specs.CommandOffence.{first_offence}
use Rattle.sym_model.specs.Entry.{Entry, SpellsWithoutOffence}
use Rattle.sym_model.specs.Grammar.{all_entries, expand_entry}
use Rattle.word_laws.specs.Reading.{forms_of}
use Rattle.word_laws.proofs.LongestPrefixes.{CanBe, some_words}
use Rattle.word_laws.proofs.NoOffences.{within_degree}
use Rattle.word_laws.specs.Words.{Words}

each_has : (entries : List Entry) → CanBe (forms_of entries) → EachOf (λ (e : Entry). (words : Words) × Has e.form words) entries
each_has [] c = tt
each_has (e ∷ entries) c = (some_words e.form c.0, each_has entries c.1)

pub has_words : EachOf (λ (e : Entry). (words : Words) × Has e.form words) all_entries
has_words = let can : CanBe (forms_of all_entries) = search parts 64 in each_has all_entries can

-- the target basis of a command `expand`; the basis m for any other command
abbrev target_of : Command → Basis
target_of (expand target form e) = target
target_of _ = monomials

abbrev expression_of : Command → Tree
expression_of (expand target form e) = e
expression_of _ = number 0

-- let e be an entry of the list of commands. If words of its form have no error, the degree of the command's expression is at most the greatest
-- degree that its target basis allows (for a command without an expression, the degree is that of the number 0, and the basis is m)
abbrev Within : Entry → Type 0
Within e = (x : Written e.form) → first_offence (e.offends x) ≡ None → degree (expression_of (e.says x)) ≤ degree_limit (target_of (e.says x))

expand_within : Within expand_entry
expand_within x h =
    within_degree (2 + length (words_of (optional form_words) x.1.0)) (degree_limit x.1.1.0) x.1.1.1 h

no_expression : degree (number 0) ≤ degree_limit monomials
no_expression = omega arith

all_within : EachOf Within all_entries
all_within = let e = expand_within in let n = no_expression in search parts 64

some_within : (entries : List Entry) → EachOf Within entries → (words : Words) (c : Command) → SpellsWithoutOffence entries words c
    → degree (expression_of c) ≤ degree_limit (target_of c)
some_within [] k words c h = absurd h
some_within (e ∷ entries) k words c (inl h) =
    subst (λ c. degree (expression_of c) ≤ degree_limit (target_of c)) (sym h.says_it) (k.0 h.has.written h.no_offence)
some_within (e ∷ entries) k words c (inr h) = some_within entries k.1 words c h

pub expression_degree : (words : Words) (target : Basis) (one_line : Bool) (t : Tree)
    → SpellsWithoutOffence all_entries words (expand target one_line t) → degree t ≤ degree_limit target
expression_degree words target one_line t h = some_within all_entries all_within words (expand target one_line t) h
