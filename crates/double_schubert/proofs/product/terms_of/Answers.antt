use Rattle.std.proofs.Common.{◌≡◌, ℕ, List, [], ◌∷◌, ◌++◌, refl, sym, ◌∙◌, subst, arith}
use Rattle.std.specs.Prelude.{Option, Some, None, IfSome}
use Rattle.std.specs.Option.{SomeIff}
use Rattle.std.specs.List.Sorted.{IsPermutation}
use Rattle.std.specs.Vec.Iter.{into_iter_items}
use Rattle.std.proofs.lemmas.Grind.{common_steps}
use Rattle.linear_combinations.specs.Gains.{over}
use Rattle.linear_combinations.proofs.Gains.{so_far_next}
use Rattle.linear_combinations.proofs.Steps.{all_done}
use Rattle.transition_walk.specs.Waiting.{WithList}
use Rattle.double_schubert.specs.ByPermutations.{at_general}
use Rattle.double_schubert.proofs.FactorProducts.{written_next}
use Rattle.double_schubert.proofs.Permuted.{total_permuted}
use Rattle.double_schubert.proofs.product.terms_of.Goals as goal

pub loop-term-preserved : goal.loop-term-preserved
loop-term-preserved c = record {
  written = λ φ. written_next φ c.loop-term.pairs.items c.write_out.new.pairs.items
      c.loop-term.yielded c.in-Some.term (c.loop-term.invariant.written φ)
      (c.in_ok-write_out.ensures φ);
  so_far = so_far_next c.loop-term.yielded (into_iter_items c.next.new.self) _ _
      (c.loop-term.yielded ++ c.in-Some.term ∷ []) c.in-Some.term refl
      c.in-Some.ensures.steps.0 c.loop-term.invariant.so_far;
}

shown : {T : Type 0} (o : Option T) (P : Type 0) (v : T) (Q : T → Type 0) → SomeIff o P v → Q v → IfSome o Q
shown None P v Q n q = tt
shown (Some y) P v Q n q = subst Q (sym n.1) q

pub returns : goal.returns
returns c =
    let none : into_iter_items c.loop-term.term-iterator ≡ [] = grind (arith, common_steps) in
    let all : c.loop-term.yielded ≡ c.sort_unstable_by.new.self.items =
    all_done c.loop-term.yielded (into_iter_items c.loop-term.term-iterator) _
    c.sort_unstable_by.new.self.items none c.loop-term.invariant.so_far
    c.into_iter-term-iterator.ensures.into_iter_gives.0 in
    shown c.from_pairs.result _ c.loop-term.pairs.items _ c.from_pairs.ensures
    (λ φ.
    c.loop-term.invariant.written φ
    ∙ total_permuted (λ (x : WithList (List ℕ)). over (at_general φ x.perm) x.factor)
    c.args.sum.items c.loop-term.yielded
    (subst (IsPermutation c.args.sum.items) (sym all) c.sort_unstable_by.ensures.permutation))
