use Rattle.std.proofs.Common.{◌≡◌, ◌∷◌, ◌++◌, [], ◌*◌, ◌≤◌, map, sym, ◌∙◌, ap, subst, refl}
use Rattle.std.proofs.Common.{arith, pos, Err}
use Rattle.std.specs.Map.Iter.{deref_pair}
use Rattle.std.proofs.lemmas.List.{map-append}
use Rattle.sym_model.specs.Plethysm.{multiplied}
use Rattle.sym_model.specs.Polynomial.{Same}
use Rattle.sym_model.specs.Partition.{size}
use Rattle.sym_model.specs.WholeTerms.{WholeTerms}
use Rattle.fraction_laws.specs.Fractions.{whole}
use Rattle.sym_model.specs.LabelLimits.{is_label}
use Rattle.partitions.specs.Limits.{IsWithinLimits}
use Rattle.linear_combinations.specs.Entries.{coefficient as found}
use Rattle.linear_combinations.proofs.Gains.{all_pairs, so_far_next}
use Rattle.linear_combinations.proofs.Steps.{all_done, error_is, IsCombination-empty}
use Rattle.sparse_polys.specs.Tables.{equal, IsWholeTable}
use Rattle.sparse_polys.proofs.Quotients.{coefficient-before}
use Rattle.sparse_polys.proofs.WholeLists.{Finds, Finds-next, more_as, not_refused}
use Rattle.sparse_polys.proofs.WholeLists.{Same-from_look_ups}
use Rattle.plethysm_laws.specs.PowerSumPlethysm.{dilated}
use Rattle.plethysm_laws.proofs.Dilations.{coefficient-dilated}
use Rattle.plethysm.proofs.FactorLists.{IsWithinLimits-multiplied, next_label, dilated-push}
use Rattle.plethysm.proofs.factors.dilated.Goals as goal
use native.Mathlib.Nat.{mul-le-mul_left}

pub loop-label-init : goal.loop-label-init
loop-label-init c = record {
  finds = subst (λ terms. Finds terms []) (sym c.new-list.ensures) (λ label. refl);
  table = subst IsWholeTable (sym c.new-list.ensures) (IsCombination-empty equal is_label whole);
  so_far = refl;
}

pub multiplied-requires : goal.multiplied-requires
multiplied-requires c =
    let k = c.in-Some.label.now in
    let v = c.in-Some.c.now in
    let done = map deref_pair c.loop-label.yielded in
    let l = next_label c.args.inner.now done c.next.new.self k v
    c.iter-label-items.ensures.combination
    (all_pairs done c.next.new.self c.loop-label.label-iterator _ _ c.args.inner.now (k, v)
    c.in-Some.ensures.steps c.loop-label.invariant.so_far
    c.into_iter-label-iterator.ensures.into_iter_gives c.iter-label-items.ensures.rest) in
    let m = mul-le-mul_left c.args.k l.1 in
    subst (λ p. c.args.k * size p ≤ 512) (sym c.parts.ensures.value) (omega (arith, c.requires.low))

pub from_valid_parts-requires : goal.from_valid_parts-requires
from_valid_parts-requires c =
    let k = c.in-Some.label.now in
    let v = c.in-Some.c.now in
    let done = map deref_pair c.loop-label.yielded in
    let l = next_label c.args.inner.now done c.next.new.self k v
    c.iter-label-items.ensures.combination
    (all_pairs done c.next.new.self c.loop-label.label-iterator _ _ c.args.inner.now (k, v)
    c.in-Some.ensures.steps c.loop-label.invariant.so_far
    c.into_iter-label-iterator.ensures.into_iter_gives c.iter-label-items.ensures.rest) in
    let m = mul-le-mul_left c.args.k l.1 in
    subst IsWithinLimits (sym (c.deref.ensures.value ∙ c.in_ok-parts.ensures
    ∙ ap (multiplied c.args.k) c.parts.ensures.value))
    (IsWithinLimits-multiplied c.args.k k c.requires.positive l.0 (omega (arith, c.requires.low)))

pub loop-label-preserved : goal.loop-label-preserved
loop-label-preserved c =
    let done = map deref_pair c.loop-label.yielded in
    let k = c.in-Some.label.now in
    let v = c.in-Some.c.now in
    let old = c.loop-label.list in
    let new = c.add_term.new.self in
    let label = c.in_ok-from_valid_parts.ensures.ok ∙ c.deref.ensures.value ∙ c.in_ok-parts.ensures
    ∙ ap (multiplied c.args.k) c.parts.ensures.value in
    let more = more_as old old new c.in_ok-from_valid_parts.field-0 (multiplied c.args.k k) v v refl
    label refl c.in_ok-add_term.ensures.ok in
    let pushed : done ++ (k, v) ∷ [] ≡ map deref_pair (c.loop-label.yielded ++ (
      c.in-Some.label,
      c.in-Some.c,
    ) ∷ []) =
    sym (map-append deref_pair c.loop-label.yielded ((c.in-Some.label, c.in-Some.c) ∷ [])) in
    record {
      finds =
          subst (λ (es : WholeTerms). Finds new (dilated c.args.k es)) pushed
          (subst (Finds new) (sym (dilated-push c.args.k done (k, v)))
          (Finds-next old new (dilated c.args.k done) (multiplied c.args.k k) v
          c.loop-label.invariant.finds more));
      table = c.in_ok-add_term.ensures.tables.after.combination;
      so_far = so_far_next done c.next.new.self c.loop-label.label-iterator _ _ (k, v) pushed
          c.in-Some.ensures.steps c.loop-label.invariant.so_far;
    }

pub returns-in_err-add_term-clause-small : goal.returns-in_err-add_term-clause-small
returns-in_err-add_term-clause-small c = λ large.
    let done = map deref_pair c.loop-label.yielded in
    let rest = c.next.new.self in
    let k = c.in-Some.label.now in
    let v = c.in-Some.c.now in
    let all =
    all_pairs done rest c.loop-label.label-iterator _ _ c.args.inner.now (k, v)
    c.in-Some.ensures.steps c.loop-label.invariant.so_far
    c.into_iter-label-iterator.ensures.into_iter_gives c.iter-label-items.ensures.rest in
    let label = c.in_ok-from_valid_parts.ensures.ok ∙ c.deref.ensures.value ∙ c.in_ok-parts.ensures
    ∙ ap (multiplied c.args.k) c.parts.ensures.value in
    not_refused _ v
    (ap (found equal (pos 0) c.loop-label.list) label
    ∙ c.loop-label.invariant.finds (multiplied c.args.k k)
    ∙ coefficient-dilated c.args.k done k c.requires.positive
    ∙ coefficient-before c.args.inner.now c.iter-label-items.ensures.combination done rest k v all)
    (c.in_err-add_term.ensures.large.0
    (ap Err (error_is _ _ _ c.from_residual-in_err-add_term.ensures.1 large)))

pub returns-clause-value : goal.returns-clause-value
returns-clause-value c =
    let done = map deref_pair c.loop-label.yielded in
    let entries = all_done done c.loop-label.label-iterator _ _ c.in-None.ensures.steps.0
    c.loop-label.invariant.so_far c.into_iter-label-iterator.ensures.into_iter_gives in
    subst (λ (es : WholeTerms). Same c.loop-label.list (dilated c.args.k es))
    (entries ∙ c.iter-label-items.ensures.rest)
    (Same-from_look_ups c.loop-label.list (dilated c.args.k done)
    c.loop-label.invariant.table c.loop-label.invariant.finds)
