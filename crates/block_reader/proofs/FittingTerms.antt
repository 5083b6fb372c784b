-- A *block* is a printed list of terms, with one line for each term. The coefficients and labels that a block can have, and the terms of a line,
-- given by the parts of the line: one term, or no term if the coefficient is 0.
use Rattle.std.proofs.Common.{◌≡◌, ◌≢◌, ℕ, zero, suc, arith, ℤ, pos, negsuc, List, [], ◌∷◌, ◌++◌, ◌&&◌, Bool, true, false, FitsSigned, refl, sym, ◌∙◌, ap, ap₂}
use Rattle.std.specs.Prelude.{nat_lt, nat_abs}
use Rattle.std.specs.Int.{w128}
use Rattle.std.proofs.lemmas.Bool.{and_parts, and_from, lt-ltb, cond-true, false_from_ne_true}
use Rattle.sym_model.specs.Expansion.{Fraction, Terms}
use Rattle.sym_model.specs.Kind.{LabelRules}
use Rattle.sym_model.specs.Canonical.{is_coefficient, is_reduced, each_term, fits_128_bits}
use Rattle.sym_model.specs.NumberText.{cut_at, fraction_of, fraction_of_pieces, signed_value}
use Rattle.sym_model.specs.PrintedBlock.{term_of_line, term_of_parts}
use Rattle.fraction_laws.proofs.Whole.{fits_from_test}
use Rattle.block_reader.specs.Parts.{denominator_after}
use Rattle.block_reader.specs.Fitting.{fits, all_fit, term_with}
use Rattle.block_reader.proofs.Cuts.{pieces_after, split-cut}

-- ---- the terms of a line, from its numerator, its denominator and its label

fraction_of-cut : (text : List ℕ) → fraction_of text ≡ (signed_value (cut_at 47 text).0, denominator_after (cut_at 47 text).1)
fraction_of-cut text = ap fraction_of_pieces (split-cut 47 text) ∙ behind (cut_at 47 text).0 (cut_at 47 text).1
  where
    behind : (num tail : List ℕ) → fraction_of_pieces (num ∷ pieces_after 47 tail) ≡ (signed_value num, denominator_after tail)
    behind num [] = refl
    behind num (slash ∷ tail) = ap (λ ps. fraction_of_pieces (num ∷ ps)) (split-cut 47 tail)

-- the terms of a line are the list that `term_with` makes from the numerator, the denominator and the label that are cut out of the line
pub line-told : {L : Type 0} (rules : LabelRules L) (line coefficient name num den : List ℕ) → coefficient ≡ (cut_at 32 line).0 → name ≡ (cut_at 32 line).1
    → num ≡ (cut_at 47 coefficient).0 → den ≡ (cut_at 47 coefficient).1
    → term_of_line rules (cut_at 32 line) ≡ term_with (signed_value num) den (rules.spelled name)
line-told rules line coefficient name num den front back upper lower =
    ap₂ (λ c t. term_of_parts rules (fraction_of c) t) (sym front) (sym back)
    ∙ ap (λ c. term_of_parts rules c name) (fraction_of-cut coefficient)
    ∙ ap₂ (λ (n d : List ℕ). term_with (signed_value n) d (rules.spelled name)) (sym upper) (sym lower)

counts : (z : ℤ) → z ≢ pos 0 → nat_lt 0 (nat_abs z) ≡ true
counts (pos zero) other = absurd (other refl)
counts (pos (suc n)) other = lt-ltb 0 (suc n) (omega arith)
counts (negsuc n) other = lt-ltb 0 (suc n) (omega arith)

module _ {L : Type 0} (has_fractions : Bool) (is_label : L → Bool) where
  pub term-counts : (z : ℤ) (den : List ℕ) (label : L) → z ≢ pos 0 → term_with z den label ≡ (label, (z, denominator_after den)) ∷ []
  term-counts z den label other = cond-true (nat_lt 0 (nat_abs z)) ((label, (z, denominator_after den)) ∷ []) [] (counts z other)

  pub term-nothing : (z : ℤ) (den : List ℕ) (label : L) → z ≡ pos 0 → term_with z den label ≡ []
  term-nothing z den label e = ap (λ n. term_with n den label) e

  alone : (label : L) (c : Fraction) → (fits has_fractions c && is_label label) ≡ false → all_fit has_fractions is_label ((label, c) ∷ []) ≡ false
  alone label c h = ap (λ b. b && true) h

  pub term-unfit : (z : ℤ) (den : List ℕ) (label : L) → z ≢ pos 0 → fits has_fractions (z, denominator_after den) ≡ false
      → all_fit has_fractions is_label (term_with z den label) ≡ false
  term-unfit z den label other h =
      ap (all_fit has_fractions is_label) (term-counts z den label other) ∙ alone label (z, denominator_after den) (ap (λ b. b && is_label label) h)

  pub term-unlabelled : (z : ℤ) (den : List ℕ) (label : L) → z ≢ pos 0 → is_label label ≡ false
      → all_fit has_fractions is_label (term_with z den label) ≡ false
  term-unlabelled z den label other h =
      ap (all_fit has_fractions is_label) (term-counts z den label other)
      ∙ alone label (z, denominator_after den) (false_from_ne_true (fits has_fractions (z, denominator_after den) && is_label label)
      (λ k. let clash : true ≡ false = sym (and_parts (fits has_fractions (z, denominator_after den)) (is_label label) k).1 ∙ h in cc))

  pub term-large : (z : ℤ) (den : List ℕ) (label : L) → (FitsSigned w128 z → ⊥) → all_fit has_fractions is_label (term_with z den label) ≡ false
  term-large z den label large =
      term-unfit z den label (λ e. large (fits_from_test z (ap fits_128_bits e)))
      (false_from_ne_true (fits has_fractions (z, denominator_after den)) (λ k.
      large (fits_from_test z (and_parts (fits_128_bits z) (fits_128_bits (pos (denominator_after den))) (and_parts (is_coefficient has_fractions (z, denominator_after den)) _ k).1).0)))

  pub unfit-behind : (xs ys : Terms L) → all_fit has_fractions is_label ys ≡ false → all_fit has_fractions is_label (xs ++ ys) ≡ false
  unfit-behind [] ys h = h
  unfit-behind (x ∷ xs) ys h = false_from_ne_true (all_fit has_fractions is_label (x ∷ xs ++ ys))
      (λ k. let clash : true ≡ false = sym (and_parts (fits has_fractions x.1 && is_label x.0) (all_fit has_fractions is_label (xs ++ ys)) k).1 ∙ unfit-behind xs ys h in cc)

  pub unfit-front : (xs ys : Terms L) → all_fit has_fractions is_label xs ≡ false → all_fit has_fractions is_label (xs ++ ys) ≡ false
  unfit-front [] ys h = let clash : true ≡ false = h in cc
  unfit-front (x ∷ xs) ys h = false_from_ne_true (all_fit has_fractions is_label (x ∷ xs ++ ys)) (λ k.
      let p = and_parts (fits has_fractions x.1 && is_label x.0) (all_fit has_fractions is_label (xs ++ ys)) k in
      let rest = unfit-front xs ys (false_from_ne_true (all_fit has_fractions is_label xs) (λ m.
      let clash : true ≡ false = sym (and_from (fits has_fractions x.1 && is_label x.0) (all_fit has_fractions is_label xs) p.0 m) ∙ h in cc)) in
      let clash : true ≡ false = sym p.1 ∙ rest in cc)

  -- whether each term has a coefficient in lowest terms that is not 0, and a label of its type
  abbrev are_reduced : Terms L → Bool
  are_reduced terms = each_term (λ (t : L × Fraction). is_reduced t.1 && is_label t.0) terms

  pub fit-terms : (terms : Terms L) → all_fit has_fractions is_label terms ≡ true
      → are_reduced terms ≡ true
  fit-terms [] h = refl
  fit-terms (t ∷ terms) h =
      let p = and_parts (fits has_fractions t.1 && is_label t.0) (all_fit has_fractions is_label terms) h in
      let q = and_parts (fits has_fractions t.1) (is_label t.0) p.0 in
      let r = and_parts (is_coefficient has_fractions t.1) _ q.0 in
      and_from (is_reduced t.1 && is_label t.0) (are_reduced terms)
      (and_from (is_reduced t.1) (is_label t.0) (and_parts _ (is_reduced t.1) r.0).1 q.1)
      (fit-terms terms p.1)
