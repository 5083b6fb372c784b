use Rattle.std.proofs.Common.{◌≡◌, ℕ, suc, ◌+◌, ◌==◌, ◌<◌, Bool, true, false, not, ◌&&◌, List, [], rules}
use Rattle.std.proofs.Common.{◌∷◌, length, drop, get_or, drop-cons, add-one, refl, sym, ap, ◌∙◌}
use Rattle.std.proofs.Math.Dec.{eqb-suc-zero}
use Rattle.std.proofs.Math.ListN.{drop_of_length-le}
use Rattle.sym_model.specs.Form.{is_digit, are_digits, is_number_word}
use Rattle.calc_words.proofs.numbers.is_number.Goals as goal

digits_from : (w : List ℕ) (i : ℕ) (b : Bool) → i < length w → is_digit (get_or w i 0) ≡ b →
    are_digits (drop i w) ≡ (b && are_digits (drop (i + 1) w))
digits_from w i b h e = rw (add-one, drop-cons w i 0) (ap (λ x. x && are_digits (drop (suc i) w)) e)

no_number : (w : List ℕ) → are_digits w ≡ false → false ≡ is_number_word w
no_number [] h = refl
no_number (b ∷ w) h = sym h

a_number : (w : List ℕ) → are_digits w ≡ true → not (length w == 0) ≡ is_number_word w
a_number [] h = refl
a_number (b ∷ w) h = ap not (eqb-suc-zero (length w)) ∙ sym h

pub loop-byte-preserved : goal.loop-byte-preserved
loop-byte-preserved c =
    c.loop-byte.invariant
    ∙ digits_from c.args.word.now c.loop-byte.byte-index true c.loop-byte-test.true
    (sym c.is_digit_byte.ensures ∙ c.if-not-is_digit_byte.false)

pub returns-then-not-is_digit_byte : goal.returns-then-not-is_digit_byte
returns-then-not-is_digit_byte c =
    no_number c.args.word.now
    (c.loop-byte.invariant
    ∙ digits_from c.args.word.now c.loop-byte.byte-index false c.loop-byte-test.true
    (sym c.is_digit_byte.ensures ∙ c.if-not-is_digit_byte.true))

pub returns : goal.returns
returns c = search (rules, a_number, drop_of_length-le)
