-- The text of a product whose terms are written one after another, as the outcome of its command.
use Rattle.std.proofs.Common.{◌≡◌, ℕ, ◌<◌, true, false, Bool, ◌&&◌, List, [], ◌∷◌, ◌++◌, length, sym, ◌∙◌, ap, subst, append_assoc, append-nil, inl, ℤ, FitsSigned, pos, arith}
use Rattle.std.specs.Prelude.{Option, Some, None, Ok, IfSome}
use Rattle.std.specs.Int.{w128}
use Rattle.std.specs.Option.{option_to_list}
use Rattle.calc_base.specs.Growing.{Growing}
use Rattle.fraction_laws.specs.Fractions.{whole}
use Rattle.fraction_laws.proofs.Whole.{test_from_fits}
use Rattle.sym_model.specs.Answer.{answer}
use Rattle.sym_model.specs.Canonical.{is_printable, is_label, fits_128_bits}
use Rattle.sym_model.specs.Command.{mult}
use Rattle.sym_model.specs.Kind.{label_rules, product}
use Rattle.sym_model.specs.PrintedBlock.{line_by, lines_by, block_by}
use Rattle.sym_model.specs.PrintedOrder.{printed_order}
use Rattle.sym_model.specs.WholeTerms.{WholeTerms, as_fractions}
use Rattle.schur_products.specs.ListedTerms.{ListsProductOf}
use Rattle.expansion_printer.proofs.PrintableTerms.{whole-canonical}
use Rattle.expansion_printer.proofs.CollectedLines.{block_of-lines}
use Rattle.expansion_printer.specs.Blocks.{block_of}
use Rattle.calc_replies.specs.Computed.{IsReplyTo}
use Rattle.calc_replies.specs.declared.outcome.Outcome.{Outcome}
use Rattle.calc_replies.specs.declared.outcome.Outcome.TheVariants.{Written, Large}

-- the lines of a list of terms, printed as those of a product
abbrev pub lines_of_terms : WholeTerms → List ℕ
lines_of_terms terms = lines_by (label_rules product) (as_fractions terms)

pub listed_at : (factors : List (List ℕ)) (o : Option WholeTerms) (terms : WholeTerms) → IfSome o (ListsProductOf factors) → o ≡ Some terms → ListsProductOf factors terms
listed_at factors o terms l e = subst (λ (p : Option WholeTerms). IfSome p (ListsProductOf factors)) e l

pub written_reply : (factors : List (List ℕ)) (terms : WholeTerms) (text : Growing) → ListsProductOf factors terms
    → text.bytes ≡ block_by (label_rules product) (as_fractions terms) → is_printable (as_fractions terms) ≡ true
    → IsReplyTo (mult None false factors) (Ok (Written text))
written_reply factors terms text l e p = (
  l.fits p,
  record {
    answer = answer product (as_fractions terms);
    printable = (whole-canonical printed_order is_label terms l.canonical, p);
    meets = l.meets p;
    printed = e;
  },
)

pub large_reply : (factors : List (List ℕ)) (terms : WholeTerms) → ListsProductOf factors terms → is_printable (as_fractions terms) ≡ false
    → IsReplyTo (mult None false factors) (Ok Large)
large_reply factors terms l p = inl (l.past p)

pub asked_reply : (variables : Option ℕ) (one_line : Bool) (factors : List (List ℕ)) (outcome : Outcome) → variables ≡ None → one_line ≡ false
    → IsReplyTo (mult None false factors) (Ok outcome) → IsReplyTo (mult variables one_line factors) (Ok outcome)
asked_reply None false factors outcome e f reply = reply
asked_reply None true factors outcome e f reply = absurd (cc)
asked_reply (Some k) one_line factors outcome e f reply = absurd (cc)

pub pushed_lines : (before after : List ℕ) (old new : WholeTerms) (o : Option (List ℕ × ℤ)) (t : List ℕ × ℤ) → old ≡ option_to_list o ++ new → o ≡ Some t
    → after ≡ before ++ line_by (label_rules product) (t.0, whole t.1) → before ++ lines_of_terms old ≡ after ++ lines_of_terms new
pushed_lines before after old new o t e is pushed =
    ap (λ (ts : WholeTerms). before ++ lines_of_terms ts) (e ∙ ap (λ (p : Option (List ℕ × ℤ)). option_to_list p ++ new) is)
    ∙ sym (append_assoc before (line_by (label_rules product) (t.0, whole t.1)) (lines_of_terms new))
    ∙ ap (λ b. b ++ lines_of_terms new) (sym pushed)

pub pushed_fits : (old new : WholeTerms) (o : Option (List ℕ × ℤ)) (t : List ℕ × ℤ) → old ≡ option_to_list o ++ new → o ≡ Some t → FitsSigned w128 t.1
    → is_printable (as_fractions old) ≡ is_printable (as_fractions new)
pushed_fits old new o t e is fits =
    ap (λ (ts : WholeTerms). is_printable (as_fractions ts)) (e ∙ ap (λ (p : Option (List ℕ × ℤ)). option_to_list p ++ new) is)
    ∙ ap (λ b. (b && fits_128_bits (pos 1)) && is_printable (as_fractions new)) (test_from_fits t.1 fits)

pub pushed_less : (old new : WholeTerms) (o : Option (List ℕ × ℤ)) (t : List ℕ × ℤ) → old ≡ option_to_list o ++ new → o ≡ Some t → length new < length old
pushed_less old new o t e is =
    let l : length old ≡ length (t ∷ new) = ap length (e ∙ ap (λ (p : Option (List ℕ × ℤ)). option_to_list p ++ new) is) in omega arith

pub all_lines : (text : List ℕ) (last all : WholeTerms) (bytes : List ℕ) → text ++ lines_of_terms last ≡ lines_of_terms all → last ≡ [] → bytes ≡ block_of text
    → bytes ≡ block_by (label_rules product) (as_fractions all)
all_lines text last all bytes e none is =
    is
    ∙ ap block_of (sym (append-nil text) ∙ ap (λ (ts : WholeTerms). text ++ lines_of_terms ts) (sym none) ∙ e)
    ∙ block_of-lines (label_rules product) (as_fractions all)
