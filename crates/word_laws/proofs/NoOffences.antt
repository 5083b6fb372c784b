-- Words of a command that have no error: lists of numbers, single numbers and expressions.
use Rattle.std.proofs.Common.{◌≡◌, ℕ, ◌+◌, ◌≤◌, nat_lt, cond, List, [], ◌∷◌, ◌++◌, map, refl, ap, None, rules}
use Rattle.std.proofs.lemmas.Bool.{ltb-false}
use Rattle.sym_model.specs.Expression.{degree}
use Rattle.sym_model.specs.Phrase.{Phrase, tree}
use Rattle.sym_model.specs.ExpressionOffence.{WordOffence, offences_within}
use Rattle.sym_model.specs.CommandOffence.{Offence, Rule, first_offence, judged_against, offences_after, offences_in_word}
use Rattle.word_laws.proofs.FirstOffences.{first_none}
use Rattle.sym_model.proofs.Lists.{none_chosen}

pub none_append : {A : Type 0} (xs ys : List A) → xs ++ ys ≡ [] → (xs ≡ []) × (ys ≡ [])
none_append [] ys h = (refl, h)
none_append (x ∷ xs) ys h = cc

pub none_map : {A B : Type 0} (f : A → B) (xs : List A) → map f xs ≡ [] → xs ≡ []
none_map f [] h = refl
none_map f (x ∷ xs) h = cc

pub none_judged : (xs ys : List Offence) → first_offence xs ≡ None → judged_against xs ys ≡ ys
none_judged xs ys h = ap (λ zs. judged_against zs ys) (first_none xs h)

pub none_first : (xs ys : List Offence) → first_offence (xs ++ ys) ≡ None → (first_offence xs ≡ None) × (first_offence ys ≡ None)
none_first xs ys h =
    let p = none_append xs ys (first_none (xs ++ ys) h) in (ap first_offence p.0, ap first_offence p.1)

-- if the list of numbers a ∷ ns has no error by a rule, a has none, and the numbers ns after it have none
pub none_next : (rule : Rule) (before : List ℕ) (k a : ℕ) (ns : List ℕ) → offences_after rule before k (a ∷ ns) ≡ []
    → (rule before a ≡ []) × (offences_after rule (a ∷ before) (k + 1) ns ≡ [])
none_next rule before k a ns h = search (rules, none_append, none_map)

pub not_past : {A : Type 0} (limit d : ℕ) (o : A) → cond (nat_lt limit d) (o ∷ []) [] ≡ [] → d ≤ limit
not_past limit d o h = ltb-false limit d (none_chosen (nat_lt limit d) o h)

pub within_limit : (limit : ℕ) (phrase : Phrase) → offences_within limit phrase ≡ [] → degree (tree phrase) ≤ limit
within_limit limit phrase h = search (rules, none_append, not_past)

pub none_in_word : (k : ℕ) (found : List WordOffence) → first_offence (offences_in_word k found) ≡ None → found ≡ []
none_in_word k found h = none_map (λ (o : WordOffence). (k, o.0, o.1)) found (first_none (offences_in_word k found) h)

-- if an expression is word k of a command and has no error, its degree is at most the limit
pub within_degree : (k limit : ℕ) (phrase : Phrase) → first_offence (offences_in_word k (offences_within limit phrase)) ≡ None
    → degree (tree phrase) ≤ limit
within_degree k limit phrase h = within_limit limit phrase (none_in_word k (offences_within limit phrase) h)
