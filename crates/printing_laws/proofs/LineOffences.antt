-- If a canonical list of terms (in the printed order, coefficients in lowest terms and not 0) has numbers of at most 128 bits, and no numerator is
-- -2^127, then no number in its one-line form exceeds 2^127 - 1. A *phrase* is the syntax tree of an expression.
use Rattle.std.proofs.Common.{◌≡◌, ℕ, ◌+◌, ◌^◌, ◌<◌, Bool, true, false, ◌&&◌, List, [], ◌∷◌, length, map, ℤ, pos, negsuc, nat_abs, neg_ℤ, Option, Some, None, inl, inr, refl, sym, ap, ◌∙◌, subst, decimal, arith, flat_map, rules}
use Rattle.std.proofs.lemmas.Bool.{lt-leb, ltb-true, and_parts}
use Rattle.sym_model.specs.Sum.{Among}
use Rattle.sym_model.specs.Partition.{size}
use Rattle.sym_model.specs.Expansion.{Basis, Fraction, Terms}
use Rattle.sym_model.specs.Canonical.{is_coefficient, each_term, fits_128_bits, is_printable}
use Rattle.sym_model.specs.LabelLimits.{is_label}
use Rattle.sym_model.specs.NumberText.{decimal_value}
use Rattle.sym_model.specs.Phrase.{Phrase, numeral, ratio, label, brackets, minus_first, operation, spelling}
use Rattle.sym_model.specs.ExpressionOffence.{literal, Mark, is_offence, entry_marks, marks, WordOffence, offences_at, offences_of_whole, offences}
use Rattle.sym_model.proofs.Sums.{Among_from_append, Among_from_each}
use Rattle.sym_model.proofs.Orders.{is_label-tells}
use Rattle.printing_laws.proofs.Decimals.{decimal_value-decimal}
use Rattle.printing_laws.specs.LineExpression.{LacksLowest}
use Rattle.printing_laws.proofs.LinePhrases.{atom_phrase, coefficient_phrase, term_phrase, joined, later_phrase, first_phrase, line_phrase}

-- ---- phrases all of whose numbers are below 2^127

abbrev AreNarrow : List ℕ → Type 0
AreNarrow [] = Unit {0}
AreNarrow (a ∷ numbers) = (a < 2 ^ 127) × AreNarrow numbers

-- each number of the phrase is below 2^127
abbrev IsNarrow : Phrase → Type 0
IsNarrow (numeral digits) = decimal_value digits < 2 ^ 127
IsNarrow (ratio num den) = (decimal_value num < 2 ^ 127) × (decimal_value den < 2 ^ 127)
IsNarrow (label basis words) = AreNarrow (map decimal_value words)
IsNarrow (brackets inner) = IsNarrow inner
IsNarrow (minus_first inner) = IsNarrow inner
IsNarrow (operation operator left right) = IsNarrow left × IsNarrow right

abbrev is_literal : ℕ × Mark → Bool
is_literal m = is_offence m.1 literal

entries-narrow : (byte count : ℕ) (before : Option ℕ) (words : List (List ℕ)) → AreNarrow (map decimal_value words)
    → (m : ℕ × Mark) → Among m (entry_marks byte count before words) → is_literal m ≡ false
entries-narrow byte count before [] h m a = absurd a
entries-narrow byte count before (word ∷ words) h m (inl e) = ap is_literal e ∙ lt-leb (2 ^ 127) (decimal_value word) h.0
entries-narrow byte count before (word ∷ words) h m (inr a) = entries-narrow (byte + length word + 1) (count + 1) (Some (decimal_value word)) words h.1 m a

marks-narrow : (depth byte : ℕ) (phrase : Phrase) → IsNarrow phrase → (m : ℕ × Mark) → Among m (marks depth byte phrase) → is_literal m ≡ false
marks-narrow depth byte (numeral digits) h m (inl e) = ap is_literal e ∙ lt-leb (2 ^ 127) (decimal_value digits) h
marks-narrow depth byte (numeral digits) h m (inr a) = absurd a
marks-narrow depth byte (ratio num den) h m (inl e) = ap is_literal e ∙ lt-leb (2 ^ 127) (decimal_value num) h.0
marks-narrow depth byte (ratio num den) h m (inr (inl e)) = ap is_literal e ∙ lt-leb (2 ^ 127) (decimal_value den) h.1
marks-narrow depth byte (ratio num den) h m (inr (inr a)) = absurd a
marks-narrow depth byte (label basis words) h m a = entries-narrow (byte + 2) 0 None words h m a
marks-narrow depth byte (brackets inner) h m (inl e) = ap is_literal e
marks-narrow depth byte (brackets inner) h m (inr a) = marks-narrow (depth + 1) (byte + 1) inner h m a
marks-narrow depth byte (minus_first inner) h m a = marks-narrow depth (byte + 1) inner h m a
marks-narrow depth byte (operation operator left right) h m a =
    elim (Among_from_append m (marks depth byte left) (marks depth (byte + length (spelling left) + 1) right) a)
    [ inl b ↦ marks-narrow depth byte left h.0 m b | inr b ↦ marks-narrow depth (byte + length (spelling left) + 1) right h.1 m b ]

at_mark : (m : ℕ × Mark) (o : WordOffence) → is_literal m ≡ false → Among o (offences_at m) → o.1 ≡ literal → ⊥
at_mark m o e a is = search rules

of_whole : (target : Basis) (phrase : Phrase) (o : WordOffence) → Among o (offences_of_whole target phrase) → o.1 ≡ literal → ⊥
of_whole target phrase o a is = search rules

none-literal : (target : Basis) (phrase : Phrase) → IsNarrow phrase → (o : WordOffence) → Among o (offences target phrase) → o.1 ≡ literal → ⊥
none-literal target phrase h o a is =
    elim (Among_from_append o (flat_map offences_at (marks 0 0 phrase)) (offences_of_whole target phrase) a)
    [ inl b ↦ at_marks b | inr b ↦ of_whole target phrase o b is ]
  where
    at_marks : Among o (flat_map offences_at (marks 0 0 phrase)) → ⊥
    at_marks b =
        let found = Among_from_each offences_at o (marks 0 0 phrase) b in
        at_mark found.0 o (marks-narrow 0 0 phrase h found.0 found.1) found.2 is

-- ---- the errors of a one-line form, and the numbers in it

narrow-decimal : (n : ℕ) → n < 2 ^ 127 → decimal_value (decimal n) < 2 ^ 127
narrow-decimal n h = subst (λ k. k < 2 ^ 127) (sym (decimal_value-decimal n (omega arith))) h

narrow-numbers : (numbers : List ℕ) → size numbers < 2 ^ 127 → AreNarrow (map decimal_value (map decimal numbers))
narrow-numbers [] h = tt
narrow-numbers (a ∷ numbers) h = (narrow-decimal a (omega arith), narrow-numbers numbers (omega arith))

record IsNarrowTerm (t : List ℕ × Fraction) : Type 0 where
  label : size t.0 < 2 ^ 127
  num : nat_abs t.1.0 < 2 ^ 127
  den : t.1.1 < 2 ^ 127

narrow-term : (basis : Basis) (t : List ℕ × Fraction) → IsNarrowTerm t → IsNarrow (term_phrase basis t)
narrow-term basis t h = search (rules, narrow-decimal, atom_phrase, coefficient_phrase, narrow-numbers)

abbrev AreNarrowTerms : Terms (List ℕ) → Type 0
AreNarrowTerms [] = Unit {0}
AreNarrowTerms (t ∷ terms) = IsNarrowTerm t × AreNarrowTerms terms

narrow-later : (basis : Basis) (left : Phrase) (terms : Terms (List ℕ)) → IsNarrow left → AreNarrowTerms terms → IsNarrow (later_phrase basis left terms)
narrow-later basis left [] h k = h
narrow-later basis left (t ∷ terms) h k = narrow-later basis (joined basis left t) terms (h, narrow-term basis t k.0) k.1

narrow-first : (basis : Basis) (t : List ℕ × Fraction) → IsNarrowTerm t → IsNarrow (first_phrase basis t)
narrow-first basis (numbers, (pos n, den)) h = narrow-term basis (numbers, (pos n, den)) h
narrow-first basis (numbers, (negsuc n, den)) h = narrow-term basis (numbers, (negsuc n, den)) h

narrow-line : (basis : Basis) (terms : Terms (List ℕ)) → AreNarrowTerms terms → IsNarrow (line_phrase basis terms)
narrow-line basis [] h = omega arith
narrow-line basis (t ∷ terms) h = narrow-later basis (first_phrase basis t) terms (narrow-first basis t h.0) h.1

below : (z : ℤ) → fits_128_bits z ≡ true → (z ≡ neg_ℤ (pos (2 ^ 127)) → ⊥) → nat_abs z < 2 ^ 127
below (pos n) h other = ltb-true n (2 ^ 127) h
below (negsuc n) h other = search rules

narrow-terms : (has_fractions : Bool) (terms : Terms (List ℕ))
    → each_term (λ (t : List ℕ × Fraction). is_coefficient has_fractions t.1 && is_label t.0) terms ≡ true → is_printable terms ≡ true → LacksLowest terms
    → AreNarrowTerms terms
narrow-terms has_fractions [] h k lacks = tt
narrow-terms has_fractions (t ∷ terms) h k lacks =
    let tests = and_parts _ _ h in
    let bits = and_parts _ _ k in
    let own = and_parts _ _ bits.0 in
    let cells = (is_label-tells t.0 (and_parts (is_coefficient has_fractions t.1) (is_label t.0) tests.0).1).size in
    (record { label = omega arith; num = below t.1.0 own.0 (lacks t (inl refl)); den = ltb-true t.1.1 (2 ^ 127) own.1 }, narrow-terms has_fractions terms tests.1 bits.1 (λ u a. lacks u (inr a)))

-- let each coefficient pass `is_coefficient`, each label be within the limits, the numbers have at most 128 bits, and no numerator be -2^127. Then no
-- number in the one-line form exceeds 2^127 - 1, so no error of this form is of the kind `literal`
pub line-no_literal : (has_fractions : Bool) (basis : Basis) (terms : Terms (List ℕ))
    → each_term (λ (t : List ℕ × Fraction). is_coefficient has_fractions t.1 && is_label t.0) terms ≡ true → is_printable terms ≡ true → LacksLowest terms
    → (target : Basis) (o : WordOffence) → Among o (offences target (line_phrase basis terms)) → o.1 ≡ literal → ⊥
line-no_literal has_fractions basis terms h k lacks target =
    none-literal target (line_phrase basis terms) (narrow-line basis terms (narrow-terms has_fractions terms h k lacks))
