use Rattle.std.proofs.Common.{◌≡◌, List, ℕ, [], ◌∷◌, ℤ, sym, ap, ◌∙◌, subst}
use Rattle.std.specs.Cmp.Lexicographic.{pointwise, nat_list_eq_equiv}
use Rattle.std.specs.Prelude.{nat_eq}
use Rattle.sym_model.specs.DividedDifference.{raised}
use Rattle.sym_model.specs.WholeTerms.{WholeTerms}
use Rattle.sym_model.proofs.Ring.{product-one}
use Rattle.linear_combinations.specs.Gains.{Gains, Overflows, scaled}
use Rattle.linear_combinations.proofs.Labels.{same_partition}
use Rattle.linear_combinations.proofs.Gains.{gains_term, overflows_term}
use Rattle.transition_laws.specs.Acted.{raised_terms}
use Rattle.schubert_transition.proofs.polynomial.TimesVarRuleMonomialMonomial.add_image.Goals as goal
use Rattle.std.proofs.lemmas.Result.{on_ok_weaker}

one_term : (r : ℕ) (e x : List ℕ) (k : ℤ) → x ≡ raised r e → (x, k) ∷ [] ≡ scaled k
    (raised_terms r e)
one_term r e x k is = ap (λ y. (y, k) ∷ []) is ∙ ap (λ z. (raised r e, z) ∷ [])
    (sym (product-one k))

pub returns-clause-gains : goal.returns-clause-gains
returns-clause-gains c =
    on_ok_weaker c.add_term.result (λ more. subst (λ (l : WholeTerms). Gains c.args.sum.now l c.add_term.new.self)
    (one_term c.args.self.now.r c.args.monomial.now c.in_ok-times_var.field-0 c.args.c
    c.in_ok-times_var.ensures)
    (gains_term nat_list_eq_equiv same_partition c.args.sum.now c.add_term.new.self
    c.add_term.ensures.tables.before.combination c.add_term.ensures.tables.after.combination c.in_ok-times_var.field-0 c.args.c
    more)) c.add_term.ensures.ok

pub returns-clause-large : goal.returns-clause-large
returns-clause-large c err =
    subst (Overflows (pointwise nat_eq) c.args.sum.now)
    (one_term c.args.self.now.r c.args.monomial.now c.in_ok-times_var.field-0 c.args.c
    c.in_ok-times_var.ensures)
    (overflows_term nat_list_eq_equiv same_partition c.args.sum.now c.add_term.ensures.tables.before.combination.distinct
    c.in_ok-times_var.field-0 c.args.c (c.add_term.ensures.large.0 err).refused)
