use Rattle.std.proofs.Common.{sym, rules}
use Rattle.printing_laws.proofs.PrintedForms.{read_in-text, read_in-tells}
use Rattle.printing_laws.proofs.lines.printed_form_law.Goals as goal

pub returns-clause-reads : goal.returns-clause-reads
returns-clause-reads c form kind terms canonical printable = search (rules, read_in-text)

pub returns-clause-is_text : goal.returns-clause-is_text
returns-clause-is_text c form kind text terms reads =
    sym (read_in-tells form kind text terms reads).text_is

pub returns-clause-canonical : goal.returns-clause-canonical
returns-clause-canonical c form kind text terms reads =
    (read_in-tells form kind text terms reads).canonical

pub returns-clause-printable : goal.returns-clause-printable
returns-clause-printable c form kind text terms reads =
    (read_in-tells form kind text terms reads).printable
