-- A *one-line form* of an answer, an expression such as 2*s[2,1] for a list of terms, is read in two steps: it is rewritten as the *block* of the
-- answer, which has one line for each term, and the block is read.
use Rattle.std.proofs.Common.{◌≡◌, ◌≢◌, ℕ, List, Some, None, Result, Ok, Err, IfOk, true, false, refl, sym, ap, ◌∙◌, subst}
use Rattle.std.proofs.lemmas.Bool.{and_parts}
use Rattle.std.proofs.lemmas.Option.{same_Some}
use Rattle.sym_model.specs.Expansion.{Basis, Terms}
use Rattle.sym_model.specs.Kind.{Kind, Label, label_rules, expansion, product}
use Rattle.sym_model.specs.Answer.{Answer as PlainAnswer, answer, answer_text, IsPrintable}
use Rattle.sym_model.specs.PrintedBlock.{block_by, read_by}
use Rattle.sym_model.specs.PrintedForm.{as_line, text_in, answer_text_in, read_in}
use Rattle.printing_laws.proofs.Blocks.{read_by-block}
use Rattle.printing_laws.proofs.LineExpressions.{is_expression}
use Rattle.printing_laws.proofs.LegibleKinds.{legible, is_label-short}
use Rattle.printing_laws.proofs.OneLines.{are_readable}
use Rattle.printing_laws.proofs.PrintedForms.{read_in-tells}
use Rattle.expansion_printer.specs.declared.answer.Answer.{Answer}
use Rattle.expansion_printer.specs.declared.answer.Answer.TheVariants.{Number, Expansion, Product, Pairs, Powers, Permutations, Polynomial, Shifts}
use Rattle.expansion_printer.specs.Answers.{kind_of_answer, plain_answer}
use Rattle.block_reader.specs.Lines.{HasAtoms, IsLineOfExpression, block_from}
use Rattle.block_reader.proofs.Blocks.{line-rewritten}
use Rattle.block_reader.proofs.BlockReadings.{none_else}

-- the kind of an answer, for an answer of the type `PlainAnswer`
abbrev pub plain_kind : PlainAnswer → Kind
plain_kind (answer kind terms) = kind

pub plain_kind-is : (a : Answer) → plain_kind (plain_answer a) ≡ kind_of_answer a
plain_kind-is (Number value) = refl
plain_kind-is (Expansion terms) = refl
plain_kind-is (Product terms) = refl
plain_kind-is (Pairs terms) = refl
plain_kind-is (Powers terms) = refl
plain_kind-is (Permutations terms) = refl
plain_kind-is (Polynomial terms) = refl
plain_kind-is (Shifts terms) = refl

reads-block : (basis : Basis) (kind : Kind) → HasAtoms kind → (text : List ℕ) (terms : Terms (Label kind))
    → read_in (as_line basis) kind text ≡ Some terms → read_by (label_rules kind) (block_from true text) ≡ Some terms
reads-block basis expansion atoms text terms h =
    let r = read_in-tells (as_line basis) expansion text terms h in
    let readable = are_readable (label_rules expansion) is_label-short terms (and_parts _ _ r.canonical).1 r.printable in
    subst (λ t. read_by (label_rules expansion) (block_from true t) ≡ Some terms) r.text_is
    (ap (read_by (label_rules expansion)) (line-rewritten true basis terms readable) ∙ read_by-block (label_rules expansion) (legible expansion) terms r.canonical r.printable)
reads-block basis product atoms text terms h =
    let r = read_in-tells (as_line basis) product text terms h in
    let readable = are_readable (label_rules product) is_label-short terms (and_parts _ _ r.canonical).1 r.printable in
    subst (λ t. read_by (label_rules product) (block_from true t) ≡ Some terms) r.text_is
    (ap (read_by (label_rules product)) (line-rewritten false basis terms readable) ∙ read_by-block (label_rules product) (legible product) terms r.canonical r.printable)
reads-block basis _ atoms text terms h = absurd atoms

-- let a text be rewritten as the text `block`: if `block` is not the block of a list of terms, the first text is not a one-line form
pub refused_line : (basis : Basis) (kind : Kind) → HasAtoms kind → (text block : List ℕ) → block ≡ block_from true text → read_by (label_rules kind) block ≡ None
    → read_in (as_line basis) kind text ≡ None
refused_line basis kind atoms text block is none =
    none_else (read_in (as_line basis) kind text) (λ terms h.
    let clash : None ≡ Some terms = sym none ∙ ap (read_by (label_rules kind)) is ∙ reads-block basis kind atoms text terms h in cc)

same_line : (basis : Basis) (kind : Kind) → HasAtoms kind → (text : List ℕ) (terms : Terms (Label kind)) → read_in (as_line basis) kind text ≡ Some terms
    → (found : Terms (Label kind)) → IsPrintable (answer kind found) → block_by (label_rules kind) found ≡ block_from true text → text_in (as_line basis) kind found ≡ text
same_line basis kind atoms text terms h found printable same =
    let e : Some found ≡ Some terms =
    sym (read_by-block (label_rules kind) (legible kind) found printable.0 printable.1)
    ∙ ap (read_by (label_rules kind)) same ∙ reads-block basis kind atoms text terms h in
    ap (text_in (as_line basis) kind) (same_Some found terms e) ∙ (read_in-tells (as_line basis) kind text terms h).text_is

-- let `text` be rewritten as the block of the answer a: if the one-line form of a is not `text`, then `text` is not a one-line form
pub not_line : (basis : Basis) (kind : Kind) → HasAtoms kind → (text : List ℕ) (a : PlainAnswer) → plain_kind a ≡ kind → IsPrintable a → answer_text a ≡ block_from true text
    → answer_text_in (as_line basis) a ≢ text → read_in (as_line basis) kind text ≡ None
not_line basis kind atoms text (answer k found) e printable same other =
    none_else (read_in (as_line basis) kind text) (λ terms h.
    other (subst (λ j. (ts : Terms (Label j)) → IsPrintable (answer j ts) → block_by (label_rules j) ts ≡ block_from true text → text_in (as_line basis) j ts ≡ text) (sym e)
    (same_line basis kind atoms text terms h) found printable same))

line_expression : (basis : Basis) (a : PlainAnswer) → HasAtoms (plain_kind a) → IsPrintable a → IsLineOfExpression basis a
line_expression basis (answer expansion terms) atoms p = is_expression true basis terms p.0 p.1
line_expression basis (answer product terms) atoms p = is_expression false basis terms p.0 p.1
line_expression basis (answer _ terms) atoms p = absurd atoms

-- the one-line form of an answer that is returned is an expression that denotes the terms of the answer
pub answered_expression : {E : Type 0} (basis : Basis) (result : Result Answer E) (found : Answer) → HasAtoms (kind_of_answer found)
    → IfOk result (λ a. a ≡ found) → IfOk result (λ a. IsPrintable (plain_answer a)) → IfOk result (λ a. IsLineOfExpression basis (plain_answer a))
answered_expression basis (Ok a) found atoms is printable =
    line_expression basis (plain_answer a) (subst HasAtoms (sym (plain_kind-is a ∙ ap kind_of_answer is)) atoms) printable
answered_expression basis (Err fault) found atoms is printable = tt
