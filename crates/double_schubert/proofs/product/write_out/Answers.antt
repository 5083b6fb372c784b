use Rattle.std.proofs.Common.{◌≡◌, [], ◌∷◌, ◌++◌, refl, sym, ap, ◌∙◌, arith, ◌+ℤ◌}
use Rattle.std.specs.Cmp.Lexicographic.{nat_list_eq_equiv}
use Rattle.std.specs.Vec.Iter.{into_iter_items}
use Rattle.std.proofs.lemmas.Grind.{common_steps}
use Rattle.linear_combinations.specs.Gains.{over}
use Rattle.linear_combinations.proofs.Labels.{same_partition}
use Rattle.linear_combinations.proofs.Gains.{so_far_next}
use Rattle.linear_combinations.proofs.Masses.{over_same}
use Rattle.linear_combinations.proofs.Steps.{all_done}
use Rattle.double_schubert.specs.ByPermutations.{at_general}
use Rattle.double_schubert.proofs.FactorProducts.{appended_next}
use Rattle.double_schubert.proofs.product.write_out.Goals as goal

pub loop-e-preserved : goal.loop-e-preserved
loop-e-preserved c = record {
  appended = λ φ. appended_next φ c.args.pairs.now.items c.loop-e.pairs.items c.push.new.self.items
      c.loop-e.yielded c.args.term.perm c.in-Some.e c.in_ok-copy.copy c.in_ok-y.y c.in-Some.k
      (c.loop-e.invariant.appended φ) c.in_ok-push.ensures.items c.in_ok-copy.ensures.ok
      c.in_ok-y.ensures;
  so_far = so_far_next c.loop-e.yielded (into_iter_items c.next.new.self) _ _
      (c.loop-e.yielded ++ (c.in-Some.e, c.in-Some.k) ∷ []) (c.in-Some.e, c.in-Some.k) refl
      c.in-Some.ensures.steps.0 c.loop-e.invariant.so_far;
}

pub returns : goal.returns
returns c φ =
    let none : into_iter_items c.loop-e.e-iterator ≡ [] = grind (arith, common_steps) in
    let all : c.loop-e.yielded ≡ c.in_ok-items.items =
    all_done c.loop-e.yielded (into_iter_items c.loop-e.e-iterator) _ c.in_ok-items.items none
    c.loop-e.invariant.so_far c.into_iter-e-iterator.ensures.into_iter_gives in
    c.loop-e.invariant.appended φ
    ∙ ap (λ z. over φ c.args.pairs.now.items +ℤ z)
    (ap (over (at_general φ c.args.term.perm)) all
    ∙ sym (over_same nat_list_eq_equiv same_partition c.args.term.factor c.in_ok-items.items
    c.in_ok-items.ensures.was c.in_ok-items.ensures.combination c.in_ok-items.ensures.same
    (at_general φ c.args.term.perm)))
