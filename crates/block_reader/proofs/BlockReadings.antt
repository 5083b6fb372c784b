-- The results of reading a text as the *block* of an answer, that is, as a printed list of terms with one line for each term.
use Rattle.std.proofs.Common.{◌≡◌, ◌≢◌, ℕ, arith, ℤ, pos, List, [], ◌∷◌, ◌++◌, ◌&&◌, ◌==◌, Bool, true, false, cond, Option, Some, None, FitsSigned, refl, sym, ◌∙◌, ap, subst, append-nil, nat_lt, nat_abs}
use Rattle.std.specs.Prelude.{Err}
use Rattle.std.specs.Int.{w128}
use Rattle.std.specs.Fmt.{signed_decimal}
use Rattle.std.proofs.lemmas.Bool.{and_parts, and_from, eqb-true, cond-true, cond-false, false_from_ne_true}
use Rattle.sym_model.specs.Polynomial.{same}
use Rattle.sym_model.specs.Expansion.{Fraction, Terms}
use Rattle.sym_model.specs.Answer.{Answer as PlainAnswer, answer, answer_text}
use Rattle.sym_model.specs.Kind.{Kind, Label, LabelRules, label_rules}
use Rattle.sym_model.specs.Kind as kinds
use Rattle.sym_model.specs.Canonical.{is_coefficient, is_reduced, is_ordered, each_term, fits_128_bits, is_canonical_by, is_printable}
use Rattle.sym_model.specs.NumberText.{cut_at, signed_value, fraction_text}
use Rattle.sym_model.specs.PrintedBlock.{terms_of, read_by, block_by}
use Rattle.fraction_laws.proofs.Whole.{fits_from_test, zero_fits_128_bits}
use Rattle.expansion_printer.specs.Answers.{number_terms}
use Rattle.printing_laws.proofs.Decimals.{signed_decimal-lacks, signed_value-signed_decimal}
use Rattle.printing_laws.proofs.Blocks.{read_by-tells, are_short-from_tests}
use Rattle.printing_laws.proofs.Pieces.{cut_at-front}
use Rattle.block_reader.specs.declared.fault.ReadBackFault.{ReadBackFault}
use Rattle.block_reader.specs.declared.fault.ReadBackFault.TheVariants.{NotPrinted, NoMemory}
use Rattle.block_reader.specs.Fitting.{fits, all_fit}
use Rattle.block_reader.specs.Readings.{IsReading}

-- ---- the terms that the lines of a text spell

-- whether the terms that the lines of the text spell are canonical, can be printed, and have the text as their block
abbrev passes : {L : Type 0} → LabelRules L → List ℕ → Bool
passes rules text = is_canonical_by rules (terms_of rules text) && is_printable (terms_of rules text) && same (block_by rules (terms_of rules text)) text

some_terms : {L : Type 0} (b : Bool) (found terms : Terms L) → cond b (Some found) None ≡ Some terms → found ≡ terms
some_terms true found terms e = cc
some_terms false found terms e = cc

pub read-terms : (kind : Kind) (text : List ℕ) (terms : Terms (Label kind)) → read_by (label_rules kind) text ≡ Some terms → terms_of (label_rules kind) text ≡ terms
read-terms kind text terms e = some_terms (passes (label_rules kind) text) (terms_of (label_rules kind) text) terms e

canonical-fit : {L : Type 0} (rules : LabelRules L) (terms : Terms L)
    → each_term (λ (t : L × Fraction). is_coefficient rules.has_fractions t.1 && rules.is_within_limits t.0) terms ≡ true → is_printable terms ≡ true
    → all_fit rules.has_fractions rules.is_within_limits terms ≡ true
canonical-fit rules [] h k = refl
canonical-fit {L} rules (t ∷ terms) h k =
    let p = and_parts (is_coefficient rules.has_fractions t.1 && rules.is_within_limits t.0) (each_term (λ (u : L × Fraction). is_coefficient rules.has_fractions u.1 && rules.is_within_limits u.0) terms) h in
    let q = and_parts (fits_128_bits t.1.0 && fits_128_bits (pos t.1.1)) (is_printable terms) k in
    let r = and_parts (is_coefficient rules.has_fractions t.1) (rules.is_within_limits t.0) p.0 in
    and_from (fits rules.has_fractions t.1 && rules.is_within_limits t.0) (all_fit rules.has_fractions rules.is_within_limits terms)
    (and_from (fits rules.has_fractions t.1) (rules.is_within_limits t.0) (and_from (is_coefficient rules.has_fractions t.1) (fits_128_bits t.1.0 && fits_128_bits (pos t.1.1)) r.0 q.0) r.1)
    (canonical-fit rules terms p.1 q.1)

-- if the terms that the lines of the text spell are not in order, or do not all fit into a block (`all_fit`), the text is not a block (`read_by` is
-- `None`)
refused-none : {L : Type 0} (rules : LabelRules L) (text : List ℕ)
    → (is_ordered rules.order (terms_of rules text) && all_fit rules.has_fractions rules.is_within_limits (terms_of rules text)) ≡ false → read_by rules text ≡ None
refused-none {L} rules text h =
    cond-false (passes rules text) (Some (terms_of rules text)) None (false_from_ne_true (passes rules text) (λ k.
    let terms = terms_of rules text in
    let p = and_parts (is_canonical_by rules terms) (is_printable terms) (and_parts (is_canonical_by rules terms && is_printable terms) (same (block_by rules terms) text) k).0 in
    let q = and_parts (is_ordered rules.order terms) (each_term (λ (t : L × Fraction). is_coefficient rules.has_fractions t.1 && rules.is_within_limits t.0) terms) p.0 in
    let clash : true ≡ false = sym (and_from (is_ordered rules.order terms) (all_fit rules.has_fractions rules.is_within_limits terms) q.0 (canonical-fit rules terms q.1 p.1)) ∙ h in cc))

pub reading-refused : (kind : Kind) (text : List ℕ) (fault : ReadBackFault)
    → (fault ≡ NotPrinted → (is_ordered (label_rules kind).order (terms_of (label_rules kind) text) && all_fit (label_rules kind).has_fractions (label_rules kind).is_within_limits (terms_of (label_rules kind) text)) ≡ false)
    → IsReading kind text (Err fault)
reading-refused kind text NotPrinted h = refused-none (label_rules kind) text (h refl)
reading-refused kind text NoMemory h = tt

-- ---- texts that are the block of a number

-- the first line of the text spells an integer of 128 bits, and `terms` are the terms of this integer
record IsOnLine (text : List ℕ) (terms : Terms (Label kinds.number)) : Type 0 where
  fits : FitsSigned w128 (signed_value (cut_at 10 text).0)
  told : number_terms (signed_value (cut_at 10 text).0) ≡ terms

number-block : (terms : Terms (Label kinds.number)) → is_canonical_by (label_rules kinds.number) terms ≡ true → is_printable terms ≡ true
    → IsOnLine (block_by (label_rules kinds.number) terms) terms
number-block [] h k = record { fits = zero_fits_128_bits; told = refl }
number-block (t ∷ []) h k =
    let c = (and_parts (is_coefficient false t.1) true (and_parts (is_coefficient false t.1 && true) true h).0).0 in
    let whole = and_parts (t.1.1 == 1) (is_reduced t.1) c in
    let counts = (and_parts (nat_lt 0 t.1.1) (nat_lt 0 (nat_abs t.1.0)) (and_parts (nat_lt 0 t.1.1 && nat_lt 0 (nat_abs t.1.0)) _ whole.1).0).1 in
    let short = (are_short-from_tests (label_rules kinds.number) (t ∷ []) h k).0.fraction.num in
    let den : t.1.1 ≡ 1 = eqb-true t.1.1 1 whole.0 in
    let bits = (and_parts (fits_128_bits t.1.0) (fits_128_bits (pos t.1.1)) (and_parts (fits_128_bits t.1.0 && fits_128_bits (pos t.1.1)) true k).0).0 in
    let text : block_by (label_rules kinds.number) (t ∷ []) ≡ signed_decimal t.1.0 ++ (10 ∷ []) =
    append-nil (fraction_text t.1 ++ (10 ∷ [])) ∙ ap (λ s. s ++ (10 ∷ [])) (cond-true (t.1.1 == 1) (signed_decimal t.1.0) _ whole.0) in
    let value : signed_value (cut_at 10 (block_by (label_rules kinds.number) (t ∷ []))).0 ≡ t.1.0 =
    ap (λ s. signed_value (cut_at 10 s).0) text
    ∙ ap (λ (p : List ℕ × List ℕ). signed_value p.0) (cut_at-front 10 (signed_decimal t.1.0) [] (signed_decimal-lacks 10 t.1.0 (omega arith) (λ e. omega arith) short))
    ∙ signed_value-signed_decimal t.1.0 short in
    record {
      fits = subst (FitsSigned w128) (sym value) (fits_from_test t.1.0 bits);
      told = ap number_terms value ∙ cond-true (nat_lt 0 (nat_abs t.1.0)) ((tt, (t.1.0, 1)) ∷ []) [] counts
          ∙ ap (λ d. (tt, (t.1.0, d)) ∷ []) (sym den);
    }
number-block (t ∷ u ∷ terms) h k = let clash : false ≡ true = h in cc

number-line : (text : List ℕ) (terms : Terms (Label kinds.number)) → read_by (label_rules kinds.number) text ≡ Some terms → IsOnLine text terms
number-line text terms e =
    let r = read_by-tells (label_rules kinds.number) text terms e in
    subst (λ (s : List ℕ). IsOnLine s terms) r.block (number-block terms r.canonical r.printable)

pub number-candidate : (text : List ℕ) (value : ℤ) → value ≡ signed_value (cut_at 10 text).0 → (terms : Terms (Label kinds.number)) → read_by (label_rules kinds.number) text ≡ Some terms
    → answer kinds.number (number_terms value) ≡ answer kinds.number terms
number-candidate text value is terms e = ap (λ z. answer kinds.number (number_terms z)) is ∙ ap (answer kinds.number) (number-line text terms e).told

pub none_else : {A : Type 0} (o : Option A) → ((x : A) → o ≡ Some x → ⊥) → o ≡ None
none_else None h = refl
none_else (Some x) h = absurd (h x refl)

pub number-refused : (text : List ℕ) → (FitsSigned w128 (signed_value (cut_at 10 text).0) → ⊥) → read_by (label_rules kinds.number) text ≡ None
number-refused text large = none_else (read_by (label_rules kinds.number) text) (λ terms e. large (number-line text terms e).fits)

-- if only the answer a can have `text` as its block, and the block of a is another text, then `text` is not a block (`read_by` is `None`)
pub not_printed : (kind : Kind) (text : List ℕ) (a : PlainAnswer)
    → ((terms : Terms (Label kind)) → read_by (label_rules kind) text ≡ Some terms → a ≡ answer kind terms) → answer_text a ≢ text
    → read_by (label_rules kind) text ≡ None
not_printed kind text a only other = none_else (read_by (label_rules kind) text)
    (λ terms e. other (ap answer_text (only terms e) ∙ (read_by-tells (label_rules kind) text terms e).block))
