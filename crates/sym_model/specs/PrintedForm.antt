-- The printed form that a command asks for (a block or one line), the text of an answer in this form, and the list of
-- terms that such a text spells.
use Rattle.std.specs.Prelude.{ℕ, List, cond, Option}
use Rattle.sym_model.specs.Expansion.{Basis, schurs, Terms}
use Rattle.sym_model.specs.Kind.{Kind, Label, label_rules, expansion, product}
use Rattle.sym_model.specs.PrintedBlock.{block_by, read_by}
use Rattle.sym_model.specs.OneLine.{one_line, read_one_line}
use Rattle.sym_model.specs.Answer.{Answer, answer}
use Rattle.sym_model.specs.Command.{Command, mult, skew, expand}

-- the form in which an answer is printed: a block of lines, or one line in a basis, as s[2,1]+2*s[1,1,1]
pub data PrintedForm : Type 0 where
  as_block : PrintedForm
  as_line : Basis → PrintedForm

-- the form in which a command asks for its answer to be printed
abbrev pub printed_form : Command → PrintedForm
printed_form (mult variables one_line factors) = cond one_line (as_line schurs) as_block
printed_form (skew variables one_line outer inner) = cond one_line (as_line schurs) as_block
printed_form (expand target one_line e) = cond one_line (as_line target) as_block
printed_form _ = as_block

-- the text of a list of terms in a printed form; lists whose labels are not partitions are printed as blocks in any
-- form
abbrev pub text_in : PrintedForm → (kind : Kind) → Terms (Label kind) → List ℕ
text_in (as_line basis) expansion terms = one_line basis terms
text_in (as_line basis) product terms = one_line basis terms
text_in _ kind terms = block_by (label_rules kind) terms

-- the list of terms of a kind whose text in the printed form is the given text, and that is canonical: its labels are
-- within limits and strictly increasing in the printed order, its coefficients are not 0 and in lowest terms, and they
-- are whole numbers unless the kind allows fractions; None if there is no such list
abbrev pub read_in : PrintedForm → (kind : Kind) → List ℕ → Option (Terms (Label kind))
read_in (as_line basis) expansion text = read_one_line basis (label_rules expansion) text
read_in (as_line basis) product text = read_one_line basis (label_rules product) text
read_in _ kind text = read_by (label_rules kind) text

-- the text of an answer in a printed form
abbrev pub answer_text_in : PrintedForm → Answer → List ℕ
answer_text_in form (answer kind terms) = text_in form kind terms
