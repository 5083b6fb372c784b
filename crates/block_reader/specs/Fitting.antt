-- A *block* is a printed list of terms, with one line for each term. The coefficients and terms that a block can have, and the terms of a line: one
-- term, or no term if the coefficient is 0.
use Rattle.std.specs.Prelude.{ℤ, pos, ℕ, nat_lt, nat_abs, Bool, ◌&&◌, List, [], ◌∷◌, cond, Option}
use Rattle.std.specs.Prelude.{Some, None}
use Rattle.sym_model.specs.Expansion.{Fraction, Terms}
use Rattle.sym_model.specs.Canonical.{is_coefficient, each_term, fits_128_bits}
use Rattle.block_reader.specs.Parts.{denominator_after}

-- whether a fraction can be a coefficient in a block: not 0, in lowest terms, an integer unless `has_fractions`, and with a numerator and a
-- denominator that fit 128 bits with a sign
abbrev pub fits : Bool → Fraction → Bool
fits has_fractions c =
    is_coefficient has_fractions c && (fits_128_bits c.0 && fits_128_bits (pos c.1))

-- whether each coefficient of the terms can be one in a block (`fits`), and each label passes the test `is_label`
abbrev pub all_fit : {L : Type 0} → Bool → (L → Bool) → Terms L → Bool
all_fit has_fractions is_label terms = each_term (λ t. fits has_fractions t.1 && is_label t.0) terms

-- the list of the term that was found in a line; the empty list if no term was found
abbrev pub terms_found : {L R : Type 0} → (R → Fraction) → Option (L × R) → Terms L
terms_found value None = []
terms_found value (Some p) = (p.0, value p.1) ∷ []

-- the list whose only term has this label, the numerator num and the denominator in `text`, the text after the numerator; the empty list if num is 0
abbrev pub term_with : {L : Type 0} → ℤ → List ℕ → L → Terms L
term_with num text label =
    cond (nat_lt 0 (nat_abs num)) ((label, (num, denominator_after text)) ∷ []) []
