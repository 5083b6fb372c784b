use Rattle.std.proofs.Common.{◌≡◌, ◌++◌, ◌∷◌, [], map, sym, ◌∙◌, ap, subst, refl, Err}
use Rattle.std.specs.Map.Iter.{deref_pair}
use Rattle.std.proofs.lemmas.List.{map-append}
use Rattle.fraction_laws.specs.Fractions.{lowest_terms}
use Rattle.sym_model.specs.Expansion.{Fraction}
use Rattle.sym_model.specs.LabelLimits.{is_label}
use Rattle.sparse_polys.specs.Combination.{HasMoreAt}
use Rattle.sparse_polys.proofs.Steps.{all_done, error_is, IsCombination-empty}
use Rattle.linear_combinations.proofs.Gains.{all_pairs, so_far_next}
use Rattle.sparse_polys.specs.Tables.{equal, found, IsFractionTable}
use Rattle.sparse_polys.proofs.Quotients.{Quotients, Quotients-none, Quotients-next}
use Rattle.sparse_polys.proofs.Quotients.{coefficient-before, not_refused_quotient}
use Rattle.sparse_polys.proofs.division.divided.Goals as goal

pub loop-label-init : goal.loop-label-init
loop-label-init c = record {
  quotients = subst (λ terms. Quotients c.args.den terms []) (sym c.new-list.ensures)
      (Quotients-none c.args.den c.requires.0);
  table = subst IsFractionTable (sym c.new-list.ensures) (IsCombination-empty equal is_label);
  so_far = refl;
}

pub loop-label-preserved : goal.loop-label-preserved
loop-label-preserved c =
    let done = map deref_pair c.loop-label.yielded in
    let rest = c.next.new.self in
    let k = c.in-Some.label.now in
    let v = c.in-Some.c.now in
    let old = c.loop-label.list in
    let new = c.add_term.new.self in
    let pushed : done ++ (k, v) ∷ [] ≡ map deref_pair (c.loop-label.yielded ++ (
      c.in-Some.label,
      c.in-Some.c,
    ) ∷ []) =
    sym (map-append deref_pair c.loop-label.yielded ((c.in-Some.label, c.in-Some.c) ∷ [])) in
    let more : HasMoreAt equal old k (lowest_terms v c.args.den) new =
    subst (λ (r : Fraction). HasMoreAt equal old k r new) c.quotient_of.ensures
    (subst (λ l. HasMoreAt equal old l c.quotient_of.result new) c.in_ok-copy.ensures.ok
    c.in_ok-add_term.ensures.ok) in
    record {
      quotients = subst (Quotients c.args.den new) pushed (Quotients-next c.args.den old new done k
          v c.requires.0 c.loop-label.invariant.quotients more);
      table = c.in_ok-add_term.ensures.tables.after.combination;
      so_far = so_far_next done rest c.loop-label.label-iterator _ _ (k, v) pushed
          c.in-Some.ensures.steps c.loop-label.invariant.so_far;
    }

pub returns-in_err-add_term-clause-small : goal.returns-in_err-add_term-clause-small
returns-in_err-add_term-clause-small c = λ large.
    let done = map deref_pair c.loop-label.yielded in
    let rest = c.next.new.self in
    let k = c.in-Some.label.now in
    let v = c.in-Some.c.now in
    let all =
    all_pairs done rest c.loop-label.label-iterator _ _ c.args.terms.now (k, v)
    c.in-Some.ensures.steps c.loop-label.invariant.so_far
    c.into_iter-label-iterator.ensures.into_iter_gives c.iter-label-items.ensures.rest in
    let refused = c.in_err-add_term.ensures.large.0
    (ap Err (error_is _ _ _ c.from_residual-in_err-add_term.ensures.1 large)) in
    not_refused_quotient c.args.den (found c.loop-label.list c.in_ok-copy.field-0)
    c.quotient_of.result _ c.requires.0
    (coefficient-before c.args.terms.now c.iter-label-items.ensures.combination done rest k v all)
    (ap (found c.loop-label.list) c.in_ok-copy.ensures.ok ∙ c.loop-label.invariant.quotients k)
    refused

pub returns-clause-value : goal.returns-clause-value
returns-clause-value c =
    let entries = all_done (map deref_pair c.loop-label.yielded) c.loop-label.label-iterator _ _
    c.in-None.ensures.steps.0 c.loop-label.invariant.so_far
    c.into_iter-label-iterator.ensures.into_iter_gives in
    subst (Quotients c.args.den c.loop-label.list) (entries ∙ c.iter-label-items.ensures.rest)
    c.loop-label.invariant.quotients
