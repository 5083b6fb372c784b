use Rattle.std.proofs.Common.{◌≡◌, ℕ, List, Some, sym, subst}
use Rattle.sym_model.specs.PrintedForm.{printed_form, read_in, answer_text_in}
use Rattle.sym_model.specs.Answer.{Answer, answer, IsPrintable}
use Rattle.sym_model.specs.Command.{Command}
use Rattle.sym_model.specs.Target.{Meets}
use Rattle.sym_model.specs.Outcome.{PrintsAnswer}
use Rattle.sym_model.specs.Headline.{ReadsBack}
use Rattle.printing_laws.proofs.PrintedForms.{read_in-text, read_in-tells}
use Rattle.printing_laws.proofs.headline.headline_law.Goals as goal

reads_back : (command : Command) (text : List ℕ) (a : Answer) → IsPrintable a → Meets command a →
    text ≡ answer_text_in (printed_form command) a → ReadsBack command text
reads_back command text (answer kind terms) printable meets printed = record {
  kind = kind;
  terms = terms;
  reads = subst (λ t. read_in (printed_form command) kind t ≡ Some terms) (sym printed)
      (read_in-text (printed_form command) kind terms printable.0 printable.1);
  canonical = printable.0;
  meets = meets;
}

prints_answer : (command : Command) (text : List ℕ) → ReadsBack command text →
    PrintsAnswer command text
prints_answer command text back =
    let tells = read_in-tells (printed_form command) back.kind text back.terms back.reads in
    record {
      answer = answer back.kind back.terms;
      printable = (tells.canonical, tells.printable);
      meets = back.meets;
      printed = sym tells.text_is;
    }

pub returns : goal.returns
returns c command text = (
  (λ prints. reads_back command text prints.answer prints.printable prints.meets prints.printed),
  prints_answer command text,
)
