-- The printed block of a list of terms, one line for each term, and the list of terms that such a text spells. A list
-- of terms is canonical if its labels are within limits and strictly increasing in the printed order, and its
-- coefficients are not 0, in lowest terms, and whole numbers unless fractions are allowed.
use Rattle.std.specs.Prelude.{ℕ, ◌&&◌, nat_lt, nat_abs, List, [], ◌∷◌, ◌++◌, cond, codes, Option}
use Rattle.std.specs.Prelude.{Some, None}
use Rattle.sym_model.specs.Polynomial.{same}
use Rattle.sym_model.specs.Expansion.{Fraction, Terms}
use Rattle.sym_model.specs.Kind.{LabelRules, label_rules, expansion}
use Rattle.sym_model.specs.Canonical.{is_canonical_by, is_printable}
use Rattle.sym_model.specs.NumberText.{cut_at, fraction_of}
pub use Rattle.sym_model.specs.NumberText.{fraction_text, numbers_text, label_text, split_at}
pub use Rattle.sym_model.specs.NumberText.{value_from, decimal_value}

-- the line of a term: its coefficient, the text of its label, and LF
abbrev pub line_by : {Label : Type 0} → LabelRules Label → Label × Fraction → List ℕ
line_by rules t = fraction_text t.1 ++ (rules.text t.0 ++ codes "\n")

-- the lines of the terms of a list, one after another
abbrev pub lines_by : {Label : Type 0} → LabelRules Label → Terms Label → List ℕ
lines_by rules [] = []
lines_by rules (t ∷ terms) = line_by rules t ++ lines_by rules terms

-- the printed block of a list of terms: a line for each term, or the line 0 if there is no term
abbrev pub block_by : {Label : Type 0} → LabelRules Label → Terms Label → List ℕ
block_by rules [] = codes "0\n"
block_by rules (t ∷ terms) = lines_by rules (t ∷ terms)

-- the list of one term, with the coefficient c and the label that `text` spells by `rules`; the empty list if c is 0
abbrev pub term_of_parts : {Label : Type 0} → LabelRules Label → Fraction → List ℕ → Terms Label
term_of_parts rules c text = cond (nat_lt 0 (nat_abs c.0)) ((rules.spelled text, c) ∷ []) []

-- the list of the term that a line spells; the empty list if the coefficient is 0. The line is given as two pieces, cut
-- in front of its first space (the byte 32): the coefficient, and the text of the label.
abbrev pub term_of_line : {Label : Type 0} → LabelRules Label → List ℕ × List ℕ → Terms Label
term_of_line rules cut = term_of_parts rules (fraction_of cut.0) cut.1

-- the terms that the lines spell, one for each line whose coefficient is not 0
abbrev pub terms_of_lines : {Label : Type 0} → LabelRules Label → List (List ℕ) → Terms Label
terms_of_lines rules [] = []
terms_of_lines rules (line ∷ lines) =
    term_of_line rules (cut_at 32 line) ++ terms_of_lines rules lines

-- the list of the terms that the lines of a text spell (LF is the byte 10)
abbrev pub terms_of : {Label : Type 0} → LabelRules Label → List ℕ → Terms Label
terms_of rules text = terms_of_lines rules (split_at 10 text)

-- `Some terms` if the list of terms is canonical by `rules` (labels in order, coefficients in lowest terms and not 0),
-- its numerators and denominators fit in 128 bits with a sign, and the text is its printed block; otherwise None
abbrev pub accepted : {Label : Type 0} → LabelRules Label → List ℕ → Terms Label
    → Option (Terms Label)
accepted rules text terms =
    cond (is_canonical_by rules terms && is_printable terms && same (block_by rules terms) text)
    (Some terms) None

-- the list of terms that is canonical by `rules`, has numerators and denominators of 128 bits with a sign, and has
-- this text as its printed block; None if there is no such list
abbrev pub read_by : {Label : Type 0} → LabelRules Label → List ℕ → Option (Terms Label)
read_by rules text = accepted rules text (terms_of rules text)

-- ---- blocks of expansions, whose labels are partitions and whose coefficients may be fractions

-- the printed line of a term whose label is a partition and whose coefficient may be a fraction
abbrev pub line_text : List ℕ × Fraction → List ℕ
line_text t = line_by (label_rules expansion) t

-- the printed lines of a list of terms whose labels are partitions and whose coefficients may be fractions
abbrev pub lines_text : Terms (List ℕ) → List ℕ
lines_text terms = lines_by (label_rules expansion) terms

-- the printed block of a list of terms whose labels are partitions and whose coefficients may be fractions
abbrev pub block : Terms (List ℕ) → List ℕ
block terms = block_by (label_rules expansion) terms

-- the list of terms in the printed order, with coefficients in lowest terms and not 0, whose printed block is this
-- text; the labels are partitions, and the numerators and denominators have 128 bits with a sign. None if there is no
-- such list
abbrev pub read : List ℕ → Option (Terms (List ℕ))
read text = read_by (label_rules expansion) text
