-- A list of terms is *canonical* if its labels are within the limits, each once and in the printed order, and its coefficients are in lowest terms
-- and not 0. Its *block* is the text that has one line for each term. If the numbers of a canonical list have at most 128 bits, its block is read
-- back as this list, provided that each label is read back from its text (`IsLegible`).
use Rattle.std.proofs.Common.{◌≡◌, ℕ, ◌^◌, Bool, true, false, ◌&&◌, List, [], ◌∷◌, ◌++◌, cond, eqb, ltb, ℤ, pos, negsuc, nat_abs, Some, None, refl, ap, ◌∙◌, subst, append_assoc, arith}
use Rattle.std.proofs.lemmas.Bool.{ltb-true, cond-true, and_parts, and_from}
use Rattle.sym_model.specs.Polynomial.{same}
use Rattle.sym_model.specs.Expansion.{Fraction, Terms}
use Rattle.sym_model.specs.Canonical.{gcd, is_reduced, is_coefficient, each_term, fits_128_bits, is_canonical_by, is_printable}
use Rattle.sym_model.specs.NumberText.{fraction_text, cut_at}
use Rattle.sym_model.specs.Kind.{LabelRules, IsLegible}
use Rattle.sym_model.specs.PrintedBlock.{line_by, lines_by, block_by, term_of_parts, term_of_line, terms_of_lines, terms_of, accepted, read_by}
use Rattle.printing_laws.proofs.Decimals.{lacks-append, IsShort}
use Rattle.printing_laws.proofs.NumberTexts.{split_at-piece, cut_at-space, IsShortFraction, fraction_of-text, fraction_text-lacks}
use Rattle.sym_model.proofs.Exponents.{same_refl, same_true}
use Rattle.printing_laws.proofs.LegibleKinds.{legible}
use Rattle.sym_model.specs.Bounded.{Lacks}

-- the label is within its limits, the coefficient is not 0, and the absolute value of its numerator and its denominator are below 10^64
pub record IsShortTerm {Label : Type 0} (rules : LabelRules Label) (t : Label × Fraction) : Type 0 where
  pub label : rules.is_within_limits t.0 ≡ true
  pub fraction : IsShortFraction t.1
  pub counts : ltb 0 (nat_abs t.1.0) ≡ true

abbrev pub AreShortTerms : {Label : Type 0} → LabelRules Label → Terms Label → Type 0
AreShortTerms rules [] = Unit {0}
AreShortTerms rules (t ∷ terms) = IsShortTerm rules t × AreShortTerms rules terms

-- the line of a term in a block, without its LF
abbrev line_front : {Label : Type 0} → LabelRules Label → Label × Fraction → List ℕ
line_front rules t = fraction_text t.1 ++ rules.text t.0

line_by-front : {Label : Type 0} (rules : LabelRules Label) (t : Label × Fraction) (rest : List ℕ) → line_by rules t ++ rest ≡ line_front rules t ++ (10 ∷ rest)
line_by-front rules t rest = simp append_assoc

pub term_of-line : {Label : Type 0} (rules : LabelRules Label) → IsLegible rules → (t : Label × Fraction) → IsShortTerm rules t → term_of_line rules (cut_at 32 (line_front rules t)) ≡ t ∷ []
term_of-line rules legible t h =
    ap (term_of_line rules) (cut_at-space (fraction_text t.1) (rules.text t.0) (fraction_text-lacks 32 t.1 (omega arith) h.fraction) (legible.apart t.0 h.label))
    ∙ (ap (λ c. term_of_parts rules c (rules.text t.0)) (fraction_of-text t.1 h.fraction)
    ∙ (cond-true (ltb 0 (nat_abs t.1.0)) _ _ h.counts
    ∙ ap (λ label. (label, t.1) ∷ []) (legible.reads t.0 h.label)))

line_front-lacks : {Label : Type 0} (rules : LabelRules Label) → IsLegible rules → (t : Label × Fraction) → IsShortTerm rules t → Lacks 10 (line_front rules t)
line_front-lacks rules legible t h =
    lacks-append 10 (fraction_text t.1) _ (fraction_text-lacks 10 t.1 (omega arith) h.fraction) (legible.one_line t.0 h.label)

pub terms_of-lines : {Label : Type 0} (rules : LabelRules Label) → IsLegible rules → (terms : Terms Label) → AreShortTerms rules terms → terms_of rules (lines_by rules terms) ≡ terms
terms_of-lines rules legible [] h = refl
terms_of-lines rules legible (t ∷ terms) h =
    ap (terms_of rules) (line_by-front rules t (lines_by rules terms))
    ∙ (ap (terms_of_lines rules) (split_at-piece 10 (line_front rules t) (lines_by rules terms) (line_front-lacks rules legible t h.0))
    ∙ (ap (λ front. front ++ terms_of rules (lines_by rules terms)) (term_of-line rules legible t h.0)
    ∙ ap (λ ts. t ∷ ts) (terms_of-lines rules legible terms h.1)))

pub terms_of-block : {Label : Type 0} (rules : LabelRules Label) → IsLegible rules → (terms : Terms Label) → AreShortTerms rules terms → terms_of rules (block_by rules terms) ≡ terms
terms_of-block rules legible [] h = refl
terms_of-block rules legible (t ∷ terms) h = terms_of-lines rules legible (t ∷ terms) h

is_short-from_bits : (z : ℤ) → fits_128_bits z ≡ true → IsShort z
is_short-from_bits (pos n) h = let e = ltb-true n (2 ^ 127) h in omega arith
is_short-from_bits (negsuc n) h = let e = ltb-true n (2 ^ 127) h in omega arith

is_coefficient-counts : (has_fractions : Bool) (c : Fraction) → is_coefficient has_fractions c ≡ true → ltb 0 (nat_abs c.0) ≡ true
is_coefficient-counts has_fractions c h = (and_parts (ltb 0 c.1) _ (and_parts _ (eqb (gcd (nat_abs c.0) c.1) 1) (and_parts _ (is_reduced c) h).1).0).1

-- if each coefficient passes `is_coefficient`, each label is within the limits, and all numerators and denominators have at most 128 bits, then each
-- term satisfies `IsShortTerm`
pub are_short-from_tests : {Label : Type 0} (rules : LabelRules Label) (terms : Terms Label) → each_term (λ (t : Label × Fraction). is_coefficient rules.has_fractions t.1 && rules.is_within_limits t.0) terms ≡ true → is_printable terms ≡ true → AreShortTerms rules terms
are_short-from_tests rules [] h k = tt
are_short-from_tests rules (t ∷ terms) h k =
    let tests = and_parts _ _ (and_parts _ _ h).0 in
    let bits = and_parts _ _ (and_parts _ _ k).0 in
    let short : IsShortFraction t.1 = record { num = is_short-from_bits t.1.0 bits.0; den = is_short-from_bits (pos t.1.1) bits.1 } in
    (record { label = tests.1; fraction = short; counts = is_coefficient-counts rules.has_fractions t.1 tests.0 }, are_short-from_tests rules terms (and_parts _ _ h).1 (and_parts _ _ k).1)

-- whether the terms are canonical and printable (numbers of at most 128 bits), and `text` is their block
abbrev pub is_block_of : {Label : Type 0} → LabelRules Label → List ℕ → Terms Label → Bool
is_block_of rules text terms = is_canonical_by rules terms && is_printable terms && same (block_by rules terms) text

-- if labels are read back from their texts (`IsLegible`), and the terms are canonical and printable, their block is read as these terms
pub read_by-block : {Label : Type 0} (rules : LabelRules Label) → IsLegible rules → (terms : Terms Label) → is_canonical_by rules terms ≡ true → is_printable terms ≡ true → read_by rules (block_by rules terms) ≡ Some terms
read_by-block rules legible terms h k =
    let short = are_short-from_tests rules terms (and_parts _ _ h).1 k in
    let e = terms_of-block rules legible terms short in
    let passes = and_from _ _ (and_from _ _ h k) (same_refl (block_by rules terms)) in
    ap (accepted rules (block_by rules terms)) e ∙ cond-true (is_block_of rules (block_by rules terms) terms) _ _ passes

-- `text` is the block of the terms, which are canonical and printable
pub record Reads {Label : Type 0} (rules : LabelRules Label) (text : List ℕ) (terms : Terms Label) : Type 0 where
  pub canonical : is_canonical_by rules terms ≡ true
  pub printable : is_printable terms ≡ true
  pub block : block_by rules terms ≡ text

-- if the reader of blocks reads `text` as the list `terms`, then `text` is the block of these terms, which are canonical and printable
pub read_by-tells : {Label : Type 0} (rules : LabelRules Label) (text : List ℕ) (terms : Terms Label) → read_by rules text ≡ Some terms → Reads rules text terms
read_by-tells {Label = Label} rules text terms h = by (is_block_of rules text (terms_of rules text)) refl h
  where
    by : (b : Bool) → is_block_of rules text (terms_of rules text) ≡ b → cond b (Some (terms_of rules text)) None ≡ Some terms → Reads rules text terms
    by false e k = cc
    by true e k =
        let is : terms_of rules text ≡ terms = cc in
        let p = and_parts _ _ e in
        let q = and_parts _ _ p.0 in
        subst (Reads rules text) is (record { canonical = q.0; printable = q.1; block = same_true _ _ p.1 })
