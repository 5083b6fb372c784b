-- The first error of the two expressions of a `plethysm`.
use Rattle.std.proofs.Common.{◌≡◌, ℕ, ◌*◌, ◌≤◌, ◌<◌, nat_lt, Bool, true, false, cond, List, [], ◌∷◌, ◌++◌, append_assoc, length, refl, sym, ap, ◌∙◌, subst, arith, Some, None, option_map, Result, Ok, Err, inl, inr, ◌⊎◌, rules}
use Rattle.std.specs.Prelude.{codes}
use Rattle.sym_model.specs.Sum.{Among}
use Rattle.sym_model.proofs.Sums.{Among_from_append}
use Rattle.sym_model.specs.Expansion.{Basis}
use Rattle.sym_model.specs.Expression.{degree}
use Rattle.sym_model.specs.Phrase.{Phrase, expression, Is, SpellsPhrase, spelling, tree}
use Rattle.sym_model.specs.ExpressionOffence.{WordOffence, range, offences_within, inner_offences, plethysm_degree_limit}
use Rattle.sym_model.specs.CommandOffence.{Offence, first_offence, earlier_of, is_no_later, judged_against, offences_in_word, plethysm_offences}
use Rattle.sym_model.specs.Command.{plethysm}
use Rattle.sym_model.specs.Grammar.{plethysm_entry}
use Rattle.word_laws.specs.Words.{Words}
use Rattle.word_laws.proofs.EarlierOffences.{first_of_both}
use Rattle.word_laws.proofs.FirstOffences.{first_none}
use Rattle.calc_base.specs.declared.words.WordsFault.{WordsFault}
use Rattle.expression_reading.specs.declared.formula.Formula.{Formula}
use Rattle.expression_reading.specs.declared.reading.ExpressionFault.{ExpressionFault}
use Rattle.expression_reading.specs.declared.reading.ExpressionFault.TheVariants.{Range as Past}
use Rattle.expression_reading.specs.Reading.{IsReadBy}
use Rattle.expression_reading.specs.Trees.{tree_of}
use Rattle.expression_reading.proofs.SignJudging.{inner-ends_last}
use Rattle.calc_words.specs.Parts.{AreCut}
use Rattle.calc_words.specs.declared.word_parts.Part.{Part}
use Rattle.calc_words.specs.declared.word_parts.Part.TheVariants.{Target, Expression}
use Rattle.calc_words.specs.Reading.{IsRead, IsFirst, IsJudged}
use Rattle.calc_words.proofs.Commands.{read_standing, judged_err, judged_on}
use Rattle.calc_words.proofs.CutCommands.{has_of}
use Rattle.calc_words.proofs.FirstOffences.{AllBefore, none-append}
use Rattle.calc_words.specs.Commands.{StandsFor}
use Rattle.calc_words.specs.declared.command.Command.{Command}
use Rattle.calc_language.specs.Reading.{placed}
use Rattle.calc_language.proofs.ExpressionJudging.{at_word, first-placed, same_order, placed_first, none_placed, tree_read}
use Rattle.std.proofs.lemmas.Bool.{lt-ltb, le-ltb}

-- the errors of the outer expression f, which is word 2 of the command
abbrev outer_found : Phrase → List Offence
outer_found f = offences_in_word 2 (offences_within plethysm_degree_limit f)

abbrev inner_found : Phrase → List Offence
inner_found g = offences_in_word 3 (inner_offences g)

abbrev end_of : Phrase → Offence
end_of g = (3, length (spelling g), range)

abbrev too_high : Bool → Phrase → List Offence
too_high past g = cond past (end_of g ∷ []) []

abbrev is_past : Phrase → Phrase → Bool
is_past f g = nat_lt plethysm_degree_limit (degree (tree f) * degree (tree g))

in_word : (k : ℕ) (os : List WordOffence) (p : Offence) → Among p (offences_in_word k os) → p.0 ≡ k
in_word k [] p m = absurd m
in_word k (o ∷ os) p (inl h) = ap (λ (x : Offence). x.0) h
in_word k (o ∷ os) p (inr m) = in_word k os p m

in_judged : (xs : List Offence) (past : Bool) (g : Phrase) (p : Offence) → Among p (judged_against xs (too_high past g)) → p.0 ≡ 3
in_judged [] true g p (inl h) = ap (λ (x : Offence). x.0) h
in_judged [] true g p (inr m) = absurd m
in_judged [] false g p m = absurd m
in_judged (x ∷ xs) past g p m = absurd m

behind_outer : (f g : Phrase) → AllBefore (outer_found f) (inner_found g ++ judged_against (outer_found f) (too_high (is_past f g) g))
behind_outer f g p q m n =
    let a = in_word 2 (offences_within plethysm_degree_limit f) p m in
    let b = at_three (Among_from_append q (inner_found g) (judged_against (outer_found f) (too_high (is_past f g) g)) n) in
    omega (arith, a, b)
  where
    at_three : Among q (inner_found g) ⊎ Among q (judged_against (outer_found f) (too_high (is_past f g) g)) → q.0 ≡ 3
    at_three (inl k) = in_word 3 (inner_offences g) q k
    at_three (inr k) = in_judged (outer_found f) (is_past f g) g q k

pub outer_faulty : (w : List ℕ) (f g : Phrase) (e : ExpressionFault) → SpellsPhrase w f → IsReadBy (offences_within plethysm_degree_limit) w (Err e)
    → IsFirst (first_offence (plethysm_offences 2 f g)) (placed 2 e)
outer_faulty w f g e s h =
    let last = judged_against (outer_found f) (too_high (is_past f g) g) in
    subst (λ os. IsFirst (first_offence os) (placed 2 e)) (sym (append_assoc (outer_found f) (inner_found g) last))
    (judged_err (outer_found f) (inner_found g ++ last) (placed 2 e) (behind_outer f g)
    (placed_first 2 (offences_within plethysm_degree_limit) w f e s h))

rest_only : (f g : Phrase) → first_offence (outer_found f) ≡ None
    → first_offence (plethysm_offences 2 f g) ≡ first_offence (inner_found g ++ too_high (is_past f g) g)
rest_only f g n =
    ap (λ (os : List Offence). first_offence ((os ++ inner_found g) ++ judged_against os (too_high (is_past f g) g))) (first_none (outer_found f) n)

stays : (past : Bool) (g : Phrase) (o : Offence) → is_no_later o (end_of g) ≡ true → earlier_of o (first_offence (too_high past g)) ≡ Some o
stays true g o h = ap (λ b. cond b (Some o) (Some (end_of g))) h
stays false g o h = refl

inner_first : (past : Bool) (g : Phrase) → Is expression g → (o : Offence) → first_offence (inner_found g) ≡ Some o
    → first_offence (inner_found g ++ too_high past g) ≡ Some o
inner_first past g a o h = search (rules, first-placed, option_map, at_word, same_order, inner-ends_last, first_of_both, stays)

pub inner_faulty : (v w : List ℕ) (f g : Phrase) (x : Formula) (e : ExpressionFault) → SpellsPhrase v f → IsReadBy (offences_within plethysm_degree_limit) v (Ok x)
    → SpellsPhrase w g → IsReadBy inner_offences w (Err e) → IsFirst (first_offence (plethysm_offences 2 f g)) (placed 3 e)
inner_faulty v w f g x e r k s h =
    subst (λ o. IsFirst o (placed 3 e)) (sym (rest_only f g (none_placed 2 (offences_within plethysm_degree_limit) v f x r k)))
    (judged_on (first_offence (inner_found g)) (first_offence (inner_found g ++ too_high (is_past f g) g)) (placed 3 e)
    (inner_first (is_past f g) g s.allowed) (placed_first 3 inner_offences w g e s h))

both_judged : (v w : List ℕ) (f g : Phrase) (x y : Formula) → SpellsPhrase v f → IsReadBy (offences_within plethysm_degree_limit) v (Ok x)
    → SpellsPhrase w g → IsReadBy inner_offences w (Ok y) → first_offence (plethysm_offences 2 f g) ≡ first_offence (too_high (is_past f g) g)
both_judged v w f g x y r k s h =
    rest_only f g (none_placed 2 (offences_within plethysm_degree_limit) v f x r k)
    ∙ none-append (inner_found g) (too_high (is_past f g) g) (none_placed 3 inner_offences w g y s h)

degrees_read : (v w : List ℕ) (f g : Phrase) (x y : Formula) → SpellsPhrase v f → IsReadBy (offences_within plethysm_degree_limit) v (Ok x)
    → SpellsPhrase w g → IsReadBy inner_offences w (Ok y) → degree (tree_of x.tree) * degree (tree_of y.tree) ≡ degree (tree f) * degree (tree g)
degrees_read v w f g x y r k s h =
    ap (λ t. degree t * degree (tree_of y.tree)) (tree_read (offences_within plethysm_degree_limit) v f x r k)
    ∙ ap (λ t. degree (tree f) * degree t) (tree_read inner_offences w g y s h)

pub both_past : (v w : List ℕ) (f g : Phrase) (x y : Formula) → SpellsPhrase v f → IsReadBy (offences_within plethysm_degree_limit) v (Ok x)
    → SpellsPhrase w g → IsReadBy inner_offences w (Ok y) → plethysm_degree_limit < degree (tree_of x.tree) * degree (tree_of y.tree)
    → IsFirst (first_offence (plethysm_offences 2 f g)) (placed 3 (Past (length w)))
both_past v w f g x y r k s h past =
    let d = degrees_read v w f g x y r k s h in
    both_judged v w f g x y r k s h
    ∙ ap (λ b. first_offence (too_high b g)) (lt-ltb 10 (degree (tree f) * degree (tree g)) (subst (λ n. plethysm_degree_limit < n) d past))
    ∙ ap (λ n. Some (3, n, range)) (sym (ap length s.spelled))

pub both_fine : (v w : List ℕ) (f g : Phrase) (x y : Formula) → SpellsPhrase v f → IsReadBy (offences_within plethysm_degree_limit) v (Ok x)
    → SpellsPhrase w g → IsReadBy inner_offences w (Ok y) → degree (tree_of x.tree) * degree (tree_of y.tree) ≤ plethysm_degree_limit
    → first_offence (plethysm_offences 2 f g) ≡ None
both_fine v w f g x y r k s h few =
    let d = degrees_read v w f g x y r k s h in
    both_judged v w f g x y r k s h
    ∙ ap (λ b. first_offence (too_high b g)) (le-ltb 10 (degree (tree f) * degree (tree g)) (subst (λ n. n ≤ plethysm_degree_limit) d few))

pub trees_said : (v w : List ℕ) (f g : Phrase) (x y : Formula) (t : Basis) → SpellsPhrase v f → IsReadBy (offences_within plethysm_degree_limit) v (Ok x)
    → SpellsPhrase w g → IsReadBy inner_offences w (Ok y) → plethysm t (tree_of x.tree) (tree_of y.tree) ≡ plethysm t (tree f) (tree g)
trees_said v w f g x y t r k s h = search (rules, tree_read)

abbrev pub plethysm_parts : List Part
plethysm_parts = Target ∷ Expression ∷ Expression ∷ []

pub plethysm_read : (words : Words) (places : List ℕ) (k : AreCut (codes "plethysm") plethysm_parts places words) (t : Basis) (r : Result Command WordsFault)
    → t ≡ k.parts.0
    → IsJudged (StandsFor (plethysm t (tree k.parts.3.0) (tree k.parts.3.3.0))) (first_offence (plethysm_offences 2 k.parts.3.0 k.parts.3.3.0)) r
    → IsRead (plethysm_entry ∷ []) words r
plethysm_read words places k t r e h =
    read_standing plethysm_entry words (has_of (codes "plethysm") plethysm_parts places words k)
    (plethysm t (tree k.parts.3.0) (tree k.parts.3.3.0)) (ap (λ b. plethysm b (tree k.parts.3.0) (tree k.parts.3.3.0)) e) r h
