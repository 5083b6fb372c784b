-- If an expression has no error, no denominator in it is 0. If the inner expression of a plethysm has no error, it has no minus and no fraction.
use Rattle.std.proofs.Common.{◌≡◌, ℕ, zero, suc, ◌+◌, ◌<◌, [], ◌++◌, length, flat_map, sym, ◌∙◌, None, arith, rules}
use Rattle.std.proofs.lemmas.List.Concat.{flat_map-append}
use Rattle.sym_model.specs.Phrase.{plus, minus, times, Phrase, numeral, ratio, label, brackets, minus_first, operation, Operator, tree, spelling}
use Rattle.sym_model.specs.NumberText.{decimal_value}
use Rattle.sym_model.specs.CommandOffence.{first_offence, offences_in_word}
use Rattle.sym_model.specs.Expression as expressions
use Rattle.sym_model.specs.ExpressionOffence.{sign_offences, value, opening, denominator, marks, offences_at, offence_at}
use Rattle.sym_model.specs.ExpressionOffence.{offences_within, offences_of_whole_within, literal, range, shape}
use Rattle.monomial_laws.specs.ExpressionTerms.{HasDenominators}
use Rattle.monomial_laws.proofs.WeightBounds.{denominator-positive}
use Rattle.plethysm_laws.specs.PositiveExpression.{HasNoSigns}
use Rattle.word_laws.proofs.NoOffences.{none_append, none_in_word}

-- if the phrase e has no error for a minus or a fraction, its expression has no minus and no fraction
pub no_signs : (b : ℕ) (e : Phrase) → sign_offences b e ≡ [] → HasNoSigns (tree e)
no_signs b (numeral digits) h = tt
no_signs b (ratio num den) h = cc
no_signs b (label basis words) h = tt
no_signs b (brackets e) h = no_signs (b + 1) e h
no_signs b (minus_first e) h = cc
no_signs b (operation plus l r) h =
    let p = none_append (sign_offences b l ++ []) (sign_offences (b + length (spelling l) + 1) r) h in
    (no_signs b l (none_append (sign_offences b l) [] p.0).0, no_signs (b + length (spelling l) + 1) r p.1)
no_signs b (operation minus l r) h = search (rules, none_append)
no_signs b (operation times l r) h =
    let p = none_append (sign_offences b l ++ []) (sign_offences (b + length (spelling l) + 1) r) h in
    (no_signs b l (none_append (sign_offences b l) [] p.0).0, no_signs (b + length (spelling l) + 1) r p.1)

-- ---- denominators

some_denominator : (byte d : ℕ) → offences_at (byte, denominator d) ≡ [] → 0 < d
some_denominator byte zero h =
    let p = none_append (offence_at literal (byte, denominator 0)) (offence_at range (byte, denominator 0) ++ offence_at shape (byte, denominator 0)) h in
    let q = none_append (offence_at range (byte, denominator 0)) (offence_at shape (byte, denominator 0)) p.1 in
    absurd (let e = q.1 in cc)
some_denominator byte (suc d) h = omega arith

denominators_spelled : (depth byte : ℕ) (phrase : Phrase) → flat_map offences_at (marks depth byte phrase) ≡ []
    → HasDenominators (tree phrase)
denominators_spelled depth byte (numeral digits) h = tt
denominators_spelled depth byte (ratio num den) h =
    let at = byte + length num + 1 in
    let p = none_append (offences_at (byte, value (decimal_value num))) (offences_at (at, denominator (decimal_value den)) ++ []) h in
    some_denominator at (decimal_value den) (none_append (offences_at (at, denominator (decimal_value den))) [] p.1).0
denominators_spelled depth byte (label basis words) h = tt
denominators_spelled depth byte (brackets inner) h =
    denominators_spelled (depth + 1) (byte + 1) inner (none_append (offences_at (byte, opening (depth + 1))) _ h).1
denominators_spelled depth byte (minus_first inner) h = denominators_spelled depth (byte + 1) inner h
denominators_spelled depth byte (operation o left right) h =
    by o (denominators_spelled depth byte left both.0) (denominators_spelled depth (byte + length (spelling left) + 1) right both.1)
  where
    both : (flat_map offences_at (marks depth byte left) ≡ [])
        × (flat_map offences_at (marks depth (byte + length (spelling left) + 1) right) ≡ [])
    both =
        none_append _ _ (sym (flat_map-append offences_at (marks depth byte left) (marks depth (byte + length (spelling left) + 1) right)) ∙ h)

    by : (o : Operator) → HasDenominators (tree left) → HasDenominators (tree right) → HasDenominators (tree (operation o left right))
    by plus p q = (p, q)
    by minus p q = (p, q)
    by times p q = (p, q)

-- if an expression is word k of a command and has no error, its denominator is not 0
pub some_denominators : (k limit : ℕ) (phrase : Phrase) → first_offence (offences_in_word k (offences_within limit phrase)) ≡ None
    → 0 < expressions.denominator (tree phrase)
some_denominators k limit phrase h =
    denominator-positive (tree phrase) (denominators_spelled 0 0 phrase
    (none_append (flat_map offences_at (marks 0 0 phrase)) (offences_of_whole_within limit phrase)
    (none_in_word k (offences_within limit phrase) h)).0)
