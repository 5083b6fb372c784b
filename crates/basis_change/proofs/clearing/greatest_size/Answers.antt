use Rattle.std.proofs.Common.{◌≡◌, ◌++◌, ◌∷◌, [], ℕ, List, map, sym, ◌∙◌, ap, subst, append_assoc, rules}
use Rattle.std.proofs.Common.{arith}
use Rattle.std.specs.Map.Iter.{deref_pair}
use Rattle.std.proofs.lemmas.List.{map-append}
use Rattle.sym_model.specs.Partition.{size}
use Rattle.sym_model.specs.Expansion.{Terms}
use Rattle.sym_model.specs.Sum.{Among}
use Rattle.linear_combinations.proofs.Gains.{all_pairs, next_among}
use Rattle.linear_combinations.proofs.Steps.{all_done}
use Rattle.sparse_polys.specs.LabelSizes.{AreWithin}
use Rattle.basis_change.proofs.Bounds.{AreWithin-push}
use Rattle.basis_change.proofs.clearing.greatest_size.Goals as goal

pub loop-label-preserved-then-size-greatest : goal.loop-label-preserved-then-size-greatest
loop-label-preserved-then-size-greatest c =
    let done = map deref_pair c.loop-label.yielded in
    let rest = c.next.new.self in
    let k = c.in-Some.label.now in
    let v = c.in-Some.field-0-1.now in
    let pushed : done ++ (k, v) ∷ [] ≡ map deref_pair (c.loop-label.yielded ++ (
      c.in-Some.label,
      c.in-Some.field-0-1,
    ) ∷ []) =
    sym (map-append deref_pair c.loop-label.yielded ((c.in-Some.label, c.in-Some.field-0-1) ∷ []))
    in
    let whole =
    all_pairs done rest c.loop-label.label-iterator _ _ c.args.list.now (k, v)
    c.in-Some.ensures.steps c.loop-label.invariant.so_far
    c.into_iter-label-iterator.ensures.into_iter_gives c.iter-label-items.ensures.rest in
    let here = subst (λ (es : Terms (List ℕ)). Among (k, v) es) whole (next_among done (k, v) rest)
    in
    let s : c.size-size.result ≡ size c.in-Some.label.now = c.size-size.ensures.value in
    let g = c.if-size-greatest.true in
    record {
      within = subst (λ (es : Terms (List ℕ)). AreWithin c.size-size.result es) pushed
          (AreWithin-push c.loop-label.greatest c.size-size.result
          (map deref_pair c.loop-label.yielded) c.in-Some.label.now c.in-Some.field-0-1.now
          c.loop-label.invariant.within (omega arith) (omega arith));
      least = λ d h. let l = h (c.in-Some.label.now, c.in-Some.field-0-1.now) here in omega arith;
      so_far =
          ap (λ es. es ++ rest) (sym pushed) ∙ append_assoc done ((k, v) ∷ []) rest
          ∙ ap (λ es. done ++ es) (sym c.in-Some.ensures.steps) ∙ c.loop-label.invariant.so_far;
    }

pub loop-label-preserved : goal.loop-label-preserved
loop-label-preserved c =
    let done = map deref_pair c.loop-label.yielded in
    let rest = c.next.new.self in
    let k = c.in-Some.label.now in
    let v = c.in-Some.field-0-1.now in
    let pushed : done ++ (k, v) ∷ [] ≡ map deref_pair (c.loop-label.yielded ++ (
      c.in-Some.label,
      c.in-Some.field-0-1,
    ) ∷ []) =
    sym (map-append deref_pair c.loop-label.yielded ((c.in-Some.label, c.in-Some.field-0-1) ∷ []))
    in
    let s : c.size-size.result ≡ size c.in-Some.label.now = c.size-size.ensures.value in
    let g = c.if-size-greatest.false in
    record {
      within = subst (λ (es : Terms (List ℕ)). AreWithin c.loop-label.greatest es) pushed
          (AreWithin-push c.loop-label.greatest c.loop-label.greatest
          (map deref_pair c.loop-label.yielded) c.in-Some.label.now c.in-Some.field-0-1.now
          c.loop-label.invariant.within (omega arith) (omega arith));
      least = c.loop-label.invariant.least;
      so_far =
          ap (λ es. es ++ rest) (sym pushed) ∙ append_assoc done ((k, v) ∷ []) rest
          ∙ ap (λ es. done ++ es) (sym c.in-Some.ensures.steps) ∙ c.loop-label.invariant.so_far;
    }

pub returns-clause-within : goal.returns-clause-within
returns-clause-within c = search (rules, all_done)

pub returns-clause-table : goal.returns-clause-table
returns-clause-table c = c.iter-label-items.ensures.combination
