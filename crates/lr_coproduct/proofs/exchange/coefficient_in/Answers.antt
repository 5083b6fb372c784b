use Rattle.std.proofs.Common.{◌≡◌, ℕ, ℤ, List, rules, of_calls, sym, ap, ◌∙◌, subst, pos}
use Rattle.std.proofs.lemmas.Fn.{always_returns_same}
use Rattle.fraction_laws.specs.Fractions.{whole}
use Rattle.sym_model.specs.Polynomial.{coefficient}
use Rattle.sym_model.specs.LabelLimits.{is_label}
use Rattle.sym_model.specs.PrintedOrder.{printed_order}
use Rattle.sym_model.specs.WholeTerms.{WholeTerms}
use Rattle.linear_combinations.specs.Entries.{IsCanonicalList}
use Rattle.lr_coproduct.proofs.Lookups.{to_label, found, not_found}
use Rattle.lr_coproduct.proofs.exchange.coefficient_in.Goals as goal

pub returns-in-Ok-clause-value : goal.returns-in-Ok-clause-value
returns-in-Ok-clause-value c =
    let xs = c.as_slice-terms.result.now in
    let label = c.args.label.now in
    let x = c.index-terms-at.result in
    let e : xs ≡ c.args.list.now = c.as_slice-terms.ensures.value ∙ c.iter-terms.ensures.rest in
    let equal = c.in-Ok.ensures.position (to_label label) (always_returns_same _ _ _
    (λ a r f k. search (rules, of_calls))) x in
    sym (ap (λ (y : List ℕ × ℤ). y.1) c.index-terms-at.is)
    ∙ sym (subst (λ (l : WholeTerms). coefficient l label ≡ x.1) e
    (found xs label c.in-Ok.at x (subst (IsCanonicalList printed_order is_label whole)
    (sym e) c.iter-terms.ensures.canonical) c.requires
    c.in-Ok.ensures.bound c.index-terms-at.is (ap (to_label label) c.index-terms-at.is ∙ equal)))

pub returns-in-Err-clause-value : goal.returns-in-Err-clause-value
returns-in-Err-clause-value c =
    let xs = c.as_slice-terms.result.now in
    let label = c.args.label.now in
    let e : xs ≡ c.args.list.now = c.as_slice-terms.ensures.value ∙ c.iter-terms.ensures.rest in
    c.new.ensures
    ∙ sym (subst (λ (l : WholeTerms). coefficient l label ≡ pos 0) e
    (not_found xs label c.in-Err.field-0 (subst (IsCanonicalList printed_order is_label whole)
    (sym e) c.iter-terms.ensures.canonical)
    (c.in-Err.ensures.position (to_label label) (always_returns_same _ _ _
    (λ a r f k. search (rules, of_calls))))))
