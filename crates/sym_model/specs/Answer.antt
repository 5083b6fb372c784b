-- Answers of commands: an answer is a kind (`Kind`: number, partitions, permutations, ..) and a list of terms whose
-- labels are of that kind.
use Rattle.std.specs.Prelude.{ℕ, ℤ, pos, List, [], ◌∷◌, IsTrue}
use Rattle.sym_model.specs.Expansion.{Terms}
use Rattle.sym_model.specs.Kind.{Kind, Label, number, label_rules}
use Rattle.sym_model.specs.Canonical.{IsCanonicalBy, is_printable}
use Rattle.sym_model.specs.PrintedBlock.{block_by}

-- an answer: its kind, and its list of terms, each a label of that kind with a coefficient
pub data Answer : Type 0 where
  answer : (kind : Kind) → Terms (Label kind) → Answer

-- the number that a list of the kind `number` denotes: the numerator of its first coefficient, or 0 if the list has no
-- term
abbrev pub number_in : Terms (Label number) → ℤ
number_in [] = pos 0
number_in (t ∷ terms) = t.1.0

-- the text of an answer: the printed block of its terms, one line for each term, or the line 0 if it has no term
abbrev pub answer_text : Answer → List ℕ
answer_text (answer kind terms) = block_by (label_rules kind) terms

-- the terms of the answer are a canonical list of its kind: the labels are in the printed order, and the coefficients
-- are in lowest terms and not 0 (`IsCanonicalBy`). Each numerator and denominator is at least -2^127 and less than
-- 2^127.
abbrev pub IsPrintable : Answer → Type 0
IsPrintable (answer kind terms) =
    IsCanonicalBy (label_rules kind) terms × IsTrue (is_printable terms)
