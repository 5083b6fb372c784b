use Rattle.std.proofs.Common.{◌≡◌, ◌∷◌, ◌++◌, [], map, sym, ◌∙◌, ap, subst, refl, pos, Err}
use Rattle.std.specs.Map.Iter.{deref_pair}
use Rattle.std.proofs.lemmas.List.{map-append}
use Rattle.fraction_laws.specs.Fractions.{whole}
use Rattle.sym_model.specs.LabelLimits.{is_label}
use Rattle.sym_model.specs.Polynomial.{Same}
use Rattle.sym_model.specs.WholeTerms.{WholeTerms}
use Rattle.linear_combinations.specs.Entries.{coefficient}
use Rattle.linear_combinations.proofs.Gains.{all_pairs, so_far_next}
use Rattle.linear_combinations.proofs.Steps.{all_done, error_is, IsCombination-empty}
use Rattle.sparse_polys.specs.Tables.{equal, IsWholeTable}
use Rattle.sparse_polys.proofs.WholeLists.{Finds, Finds-next, more_as, not_refused}
use Rattle.sparse_polys.proofs.WholeLists.{Once-labels, Same-from_look_ups}
use Rattle.plethysm.proofs.NumeratorLists.{mapped, mapped-push, none_before}
use Rattle.plethysm.proofs.QuotientLists.{divided_by, list-divided}
use Rattle.plethysm.proofs.quotients.quotients.Goals as goal

pub loop-label-init : goal.loop-label-init
loop-label-init c = record {
  finds = subst (λ terms. Finds terms []) (sym c.new-quotients.ensures) (λ label. refl);
  table = subst IsWholeTable (sym c.new-quotients.ensures) (IsCombination-empty equal is_label whole);
  so_far = refl;
}

pub loop-label-preserved : goal.loop-label-preserved
loop-label-preserved c =
    let done = map deref_pair c.loop-label.yielded in
    let k = c.in-Some.label.now in
    let v = c.in-Some.c.now in
    let old = c.loop-label.quotients in
    let new = c.add_term.new.self in
    let pushed : done ++ (k, v) ∷ [] ≡ map deref_pair (c.loop-label.yielded ++ (
      c.in-Some.label,
      c.in-Some.c,
    ) ∷ []) =
    sym (map-append deref_pair c.loop-label.yielded ((c.in-Some.label, c.in-Some.c) ∷ [])) in
    let more = more_as old old new c.in_ok-copy.field-0 k c.quotient.result (divided_by c.args.k v) refl
    c.in_ok-copy.ensures.ok c.quotient.ensures c.in_ok-add_term.ensures.ok in
    record {
      finds =
          subst (λ (es : WholeTerms). Finds new (mapped (divided_by c.args.k) es)) pushed
          (subst (Finds new) (sym (mapped-push (divided_by c.args.k) done (k, v)))
          (Finds-next old new (mapped (divided_by c.args.k) done) k (divided_by c.args.k v)
          c.loop-label.invariant.finds more));
      table = c.in_ok-add_term.ensures.tables.after.combination;
      so_far = so_far_next done c.next.new.self c.loop-label.label-iterator _ _ (k, v) pushed
          c.in-Some.ensures.steps c.loop-label.invariant.so_far;
    }

pub returns-in_err-add_term-clause-small : goal.returns-in_err-add_term-clause-small
returns-in_err-add_term-clause-small c = λ large.
    let done = map deref_pair c.loop-label.yielded in
    let rest = c.next.new.self in
    let k = c.in-Some.label.now in
    let v = c.in-Some.c.now in
    let all =
    all_pairs done rest c.loop-label.label-iterator _ _ c.args.list.now (k, v)
    c.in-Some.ensures.steps c.loop-label.invariant.so_far
    c.into_iter-label-iterator.ensures.into_iter_gives c.iter-label-items.ensures.rest in
    not_refused _ c.quotient.result
    (ap (coefficient equal (pos 0) c.loop-label.quotients) c.in_ok-copy.ensures.ok
    ∙ c.loop-label.invariant.finds k
    ∙ none_before (divided_by c.args.k) c.args.list.now done rest (k, v)
    (Once-labels c.args.list.now c.iter-label-items.ensures.combination) all)
    (c.in_err-add_term.ensures.large.0
    (ap Err (error_is _ _ _ c.from_residual-in_err-add_term.ensures.1 large)))

pub returns-clause-value : goal.returns-clause-value
returns-clause-value c f h =
    let done = map deref_pair c.loop-label.yielded in
    let entries = all_done done c.loop-label.label-iterator _ _ c.in-None.ensures.steps.0
    c.loop-label.invariant.so_far c.into_iter-label-iterator.ensures.into_iter_gives in
    list-divided c.args.k c.args.list.now c.loop-label.quotients f c.requires.0
    c.iter-label-items.ensures.combination
    (subst (λ (es : WholeTerms). Same c.loop-label.quotients (mapped (divided_by c.args.k) es))
    (entries ∙ c.iter-label-items.ensures.rest)
    (Same-from_look_ups c.loop-label.quotients (mapped (divided_by c.args.k) done)
    c.loop-label.invariant.table c.loop-label.invariant.finds))
    h
