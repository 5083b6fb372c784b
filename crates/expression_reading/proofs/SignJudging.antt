-- The correct result of reading a word as the inner expression of a plethysm: it follows from the result of reading the word as an outer expression,
-- and from the first minus or fraction in the word.
use Rattle.std.proofs.Common.{◌≡◌, ℕ, suc, ◌<◌, ◌≤◌, ◌==◌, nat_le, nat_lt, Bool, true, false, ◌&&◌, ◌||◌, cond, List, ◌∷◌, length, drop, get_or, drop-cons, refl, sym, ap, ◌∙◌, arith, Option, Some, None, option_map, Result, Ok, Err, ⊎_elim}
use Rattle.std.proofs.lemmas.Bool.Decides.{nat_tests}
use Rattle.std.proofs.Math.ListN.{drop_of_length-le}
use Rattle.sym_model.specs.Phrase.{Phrase, expression, Is, spelling, SpellsPhrase}
use Rattle.sym_model.specs.ExpressionOffence.{OffenceKind, literal, range, shape, WordOffence, rank, comes_first, earlier, first_of, offences_within, inner_offences, plethysm_degree_limit, sign_offences}
use Rattle.expression_laws.specs.Signs.{first_sign}
use Rattle.expression_laws.proofs.SignRuns.{word-signs, signs-below}
use Rattle.expression_reading.proofs.JudgeFacts.{before-end, first_is, ends-last}
use Rattle.expression_reading.specs.declared.formula.Formula.{Formula}
use Rattle.expression_reading.specs.declared.reading.ExpressionFault.{ExpressionFault}
use Rattle.expression_reading.specs.declared.reading.ExpressionFault.TheVariants.{Syntax, Literal, Range, Shape, NoMemory}
use Rattle.expression_reading.specs.Reading.{IsReadBy}
use Rattle.expression_reading.specs.Signs.{refused_by_sign}
use Rattle.expression_reading.proofs.FirstOffences.{first_of-append}

-- the errors of a phrase as the outer expression of a plethysm
abbrev outer_offences : Phrase → List WordOffence
outer_offences phrase = offences_within plethysm_degree_limit phrase

-- if the word spells a phrase, the first minus or fraction of the phrase is at the byte `sign`; for None, the phrase has neither
abbrev pub HasSign : List ℕ → Option ℕ → Type 0
HasSign word sign = (phrase : Phrase) → SpellsPhrase word phrase → option_map (λ byte. (byte, shape)) sign ≡ first_of (sign_offences 0 phrase)

found_at : (word : List ℕ) (i from byte : ℕ) → first_sign 0 0 word ≡ first_sign i from (drop i word) → i < length word → get_or word i 0 ≡ byte
    → first_sign 0 0 word ≡ first_sign i from (byte ∷ drop (suc i) word)
found_at word i from byte inv h e = inv ∙ ap (first_sign i from) (drop-cons word i 0 h ∙ ap (λ x. x ∷ drop (suc i) word) e)

pub minus-found : (word : List ℕ) (i from : ℕ) → first_sign 0 0 word ≡ first_sign i from (drop i word) → i < length word → get_or word i 0 ≡ 45
    → HasSign word (Some i)
minus-found word i from inv h e = λ phrase s. sym (found_at word i from 45 inv h e) ∙ word-signs word phrase s

pub slash-found : (word : List ℕ) (i from : ℕ) → first_sign 0 0 word ≡ first_sign i from (drop i word) → i < length word → get_or word i 0 ≡ 47
    → HasSign word (Some from)
slash-found word i from inv h e = λ phrase s. sym (found_at word i from 47 inv h e) ∙ word-signs word phrase s

pub none-found : (word : List ℕ) (i from : ℕ) → first_sign 0 0 word ≡ first_sign i from (drop i word) → length word ≤ i → HasSign word None
none-found word i from inv h = λ phrase s. sym (inv ∙ ap (first_sign i from) (drop_of_length-le word h)) ∙ word-signs word phrase s

with_signs : (word : List ℕ) (sign : Option ℕ) (phrase : Phrase) → HasSign word sign → SpellsPhrase word phrase
    → first_of (inner_offences phrase) ≡ earlier (first_of (outer_offences phrase)) (option_map (λ byte. (byte, shape)) sign)
with_signs word sign phrase s h =
    first_of-append (outer_offences phrase) (sign_offences 0 phrase) ∙ ap (earlier (first_of (outer_offences phrase))) (sym (s phrase h))

earlier-none : (a : Option WordOffence) → earlier a None ≡ a
earlier-none None = refl
earlier-none (Some o) = refl

without : (word : List ℕ) (phrase : Phrase) → HasSign word None → SpellsPhrase word phrase → first_of (inner_offences phrase) ≡ first_of (outer_offences phrase)
without word phrase s h = with_signs word None phrase s h ∙ earlier-none (first_of (outer_offences phrase))

pub no_sign-read : (word : List ℕ) (r : Result Formula ExpressionFault) → HasSign word None → IsReadBy outer_offences word r → IsReadBy inner_offences word r
no_sign-read word (Ok f) s h = (h.0, h.1, without word h.0 s h.1 ∙ h.2, h.3)
no_sign-read word (Err (Syntax byte)) s h = h
no_sign-read word (Err (Literal byte)) s h = (h.0, h.1, without word h.0 s h.1 ∙ h.2)
no_sign-read word (Err (Range byte)) s h = (h.0, h.1, without word h.0 s h.1 ∙ h.2)
no_sign-read word (Err (Shape byte)) s h = (h.0, h.1, without word h.0 s h.1 ∙ h.2)
no_sign-read word (Err NoMemory) s h = tt

-- if a word has no error as an outer expression, and its first minus or fraction is at the byte `sign`, then `Shape` at `sign` is its correct refusal
-- as an inner expression
pub sign-alone : (word : List ℕ) (f : Formula) (sign : ℕ) → HasSign word (Some sign) → IsReadBy outer_offences word (Ok f) → IsReadBy inner_offences word (Err (Shape sign))
sign-alone word f sign s h =
    (h.0, h.1, with_signs word (Some sign) h.0 s h.1 ∙ ap (λ o. earlier o (Some (sign, shape))) h.2)

-- ---- a word that has a minus or a fraction, and also another error: the other error comes first unless its byte is the higher one
kind-small : (k : OffenceKind) → nat_le (rank k) 2 ≡ true
kind-small literal = refl
kind-small range = refl
kind-small shape = refl

order : (byte sign : ℕ) (k : OffenceKind) → comes_first (byte, k) (sign, shape) ≡ cond (nat_lt sign byte) false true
order byte sign k = ap (λ b. nat_lt byte sign || ((byte == sign) && b)) (kind-small k) ∙ by byte sign
  where
    by : (b s : ℕ) → (nat_lt b s || ((b == s) && true)) ≡ cond (nat_lt s b) false true
    by b s = grind (arith, nat_tests)

first_with : (word : List ℕ) (sign byte : ℕ) (k : OffenceKind) (phrase : Phrase) (low : Bool) → nat_lt sign byte ≡ low → HasSign word (Some sign) → SpellsPhrase word phrase
    → first_of (outer_offences phrase) ≡ Some (byte, k) → first_of (inner_offences phrase) ≡ cond {A = Option WordOffence} low (Some (sign, shape)) (Some (byte, k))
first_with word sign byte k phrase low e s h f =
    with_signs word (Some sign) phrase s h
    ∙ ap (λ o. earlier o (Some (sign, shape))) f
    ∙ ap (λ c. cond {A = Option WordOffence} c (Some (byte, k)) (Some (sign, shape))) (order byte sign k ∙ ap (λ b. cond b false true) e)
    ∙ by low
  where
    by : (b : Bool) → cond {A = Option WordOffence} (cond b false true) (Some (byte, k)) (Some (sign, shape))
        ≡ cond {A = Option WordOffence} b (Some (sign, shape)) (Some (byte, k))
    by true = refl
    by false = refl

pub sign-refused : (word : List ℕ) (fault : ExpressionFault) (sign : ℕ) → HasSign word (Some sign) → IsReadBy outer_offences word (Err fault)
    → IsReadBy inner_offences word (Err (refused_by_sign sign fault))
sign-refused word (Syntax byte) sign s h = h
sign-refused word NoMemory sign s h = tt
sign-refused word (Literal byte) sign s h = by (nat_lt sign byte) refl
  where
    by : (b : Bool) → nat_lt sign byte ≡ b → IsReadBy inner_offences word (Err (cond b (Shape sign) (Literal byte)))
    by true e = (h.0, h.1, first_with word sign byte literal h.0 true e s h.1 h.2)
    by false e = (h.0, h.1, first_with word sign byte literal h.0 false e s h.1 h.2)
sign-refused word (Range byte) sign s h = by (nat_lt sign byte) refl
  where
    by : (b : Bool) → nat_lt sign byte ≡ b → IsReadBy inner_offences word (Err (cond b (Shape sign) (Range byte)))
    by true e = (h.0, h.1, first_with word sign byte range h.0 true e s h.1 h.2)
    by false e = (h.0, h.1, first_with word sign byte range h.0 false e s h.1 h.2)
sign-refused word (Shape byte) sign s h = by (nat_lt sign byte) refl
  where
    by : (b : Bool) → nat_lt sign byte ≡ b → IsReadBy inner_offences word (Err (cond b (Shape sign) (Shape byte)))
    by true e = (h.0, h.1, first_with word sign byte shape h.0 true e s h.1 h.2)
    by false e = (h.0, h.1, first_with word sign byte shape h.0 false e s h.1 h.2)

-- the first error o that an expression e has as an inner expression (`inner_offences`) comes, in the order of errors, no later than an error of the
-- kind `range` at the end of e
pub inner-ends_last : (e : Phrase) (o : WordOffence) → Is expression e → first_of (inner_offences e) ≡ Some o → comes_first o (length (spelling e), range) ≡ true
inner-ends_last e o a h =
    ⊎_elim
    (λ outer. ends-last plethysm_degree_limit e o a outer)
    (λ signed. before-end (length (spelling e)) o.0 o.1 (signs-below e o signed))
    (first_is (first_of (outer_offences e)) (first_of (sign_offences 0 e)) o (sym (first_of-append (outer_offences e) (sign_offences 0 e)) ∙ h))
