-- Correct results of reading a text as the block of an answer, which has one line for each term.
use Rattle.std.specs.Prelude.{◌≡◌, ℕ, List, Result, Ok, Err, Some, None}
use Rattle.sym_model.specs.Answer.{answer}
use Rattle.sym_model.specs.Expansion.{Terms}
use Rattle.sym_model.specs.Kind.{Kind, Label, label_rules}
use Rattle.sym_model.specs.PrintedBlock.{read_by}
use Rattle.expansion_printer.specs.declared.answer.Answer.{Answer}
use Rattle.expansion_printer.specs.Answers.{kind_of_answer, plain_answer}
use Rattle.block_reader.specs.declared.fault.ReadBackFault.{ReadBackFault}
use Rattle.block_reader.specs.declared.fault.ReadBackFault.TheVariants.{NotPrinted, NoMemory}

-- If the result is an answer, its kind is `kind`, and each answer of the kind `kind` that has the block `text` is equal to it. If the result is
-- `NotPrinted`, no answer of the kind `kind` has the block `text`. Nothing is required if memory runs out.
abbrev pub IsReading : Kind → List ℕ → Result Answer ReadBackFault → Type 0
IsReading kind text (Ok a) = (kind_of_answer a ≡ kind)
    × ((terms : Terms (Label kind)) → read_by (label_rules kind) text ≡ Some terms
    → plain_answer a ≡ answer kind terms)
IsReading kind text (Err NotPrinted) = read_by (label_rules kind) text ≡ None
IsReading kind text (Err NoMemory) = Unit {0}
