-- A class is a set of words that is allowed at a place of a command. The test `fits` passes exactly for the words of a class, and if the test
-- `has_words` passes for a class, then some word is of the class.
use Rattle.std.proofs.Common.{◌≡◌, ℕ, ◌<◌, nat_le, Bool, true, List, [], ◌∷◌, refl, sym, arith, inl, inr, rules}
use Rattle.std.specs.Prelude.{codes}
use Rattle.std.proofs.lemmas.Bool.{leb-true, le-leb, and_parts, and_from, or_cases, or_right}
use Rattle.sym_model.specs.Polynomial.{same}
use Rattle.sym_model.proofs.Exponents.{same_refl, same_true}
use Rattle.sym_model.specs.Expansion.{Basis}
use Rattle.sym_model.specs.NumberWord.{AreDigits, IsNumberWord}
use Rattle.sym_model.specs.Phrase.{numeral, letter, spelling}
use Rattle.sym_model.specs.Form.{Class, exact, number, target, formula, WrittenWord, word_of, SomeOf, MayBe, is_digit, are_digits, is_number_word, is_letter_of, fits, TellsExpressions, has_words}
use Rattle.expression_laws.proofs.PhrasePrefixes.{one_is_number}

digits_sound : (text : List ℕ) → are_digits text ≡ true → AreDigits text
digits_sound [] h = tt
digits_sound (byte ∷ text) h =
    let p = and_parts (is_digit byte) (are_digits text) h in
    let q = and_parts (nat_le 48 byte) (nat_le byte 57) p.0 in
    ((leb-true 48 byte q.0, leb-true byte 57 q.1), digits_sound text p.1)

digits_complete : (text : List ℕ) → AreDigits text → are_digits text ≡ true
digits_complete [] h = refl
digits_complete (byte ∷ text) h = search (rules, and_from, le-leb, (digits_complete text h.1))

pub number_sound : (text : List ℕ) → is_number_word text ≡ true → IsNumberWord text
number_sound [] h = cc
number_sound (byte ∷ text) h = record { nonempty = omega arith; digits = digits_sound (byte ∷ text) h }

pub number_complete : (text : List ℕ) → IsNumberWord text → is_number_word text ≡ true
number_complete [] h = let n : 0 < 0 = h.nonempty in absurd (omega (arith, n))
number_complete (byte ∷ text) h = digits_complete (byte ∷ text) h.digits

letter_sound : (bases : List Basis) (text : List ℕ) → is_letter_of bases text ≡ true
    → (basis : Basis) × SomeOf (λ b. basis ≡ b) bases × (text ≡ letter basis)
letter_sound [] text h = cc
letter_sound (b ∷ bases) text h = search (rules, or_cases, same_true, (letter_sound bases text))

pub letter_complete : (bases : List Basis) (basis : Basis) → SomeOf (λ b. basis ≡ b) bases → is_letter_of bases (letter basis) ≡ true
letter_complete [] basis h = absurd h
letter_complete (b ∷ bases) basis (inl e) = search rules
letter_complete (b ∷ bases) basis (inr h) =
    or_right (same (letter b) (letter basis)) (is_letter_of bases (letter basis)) (letter_complete bases basis h)

-- if `fits` passes for a class and `text`, then `text` is a word of the class
pub fits_sound : (reads : List ℕ → Bool) → TellsExpressions reads → (c : Class) (text : List ℕ) → fits reads c text ≡ true
    → (x : WrittenWord c) × MayBe c x × (text ≡ word_of c x)
fits_sound reads tells (exact w) text h = (tt, tt, sym (same_true w text h))
fits_sound reads tells number text h = (text, number_sound text h, refl)
fits_sound reads tells (target bases) text h = letter_sound bases text h
fits_sound reads tells formula text h = let p = tells.sound text h in (p.0, p.1.allowed, p.1.spelled)

-- if x denotes a word of the class, `fits` passes for this word
pub fits_complete : (reads : List ℕ → Bool) → TellsExpressions reads → (c : Class) (x : WrittenWord c) → MayBe c x
    → fits reads c (word_of c x) ≡ true
fits_complete reads tells (exact w) x h = same_refl w
fits_complete reads tells number x h = number_complete x h
fits_complete reads tells (target bases) x h = letter_complete bases x h
fits_complete reads tells formula x h = tells.complete (spelling x) x (record { allowed = h; spelled = refl })

-- if the test `has_words` passes for a class, some word is of the class
pub some_word : (c : Class) → has_words c ≡ true → (x : WrittenWord c) × MayBe c x
some_word (exact w) h = (tt, tt)
some_word number h = (codes "1", one_is_number)
some_word (target []) h = cc
some_word (target (b ∷ bases)) h = (b, inl refl)
some_word formula h = (numeral (codes "1"), one_is_number)
