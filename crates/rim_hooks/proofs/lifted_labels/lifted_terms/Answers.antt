use Rattle.std.proofs.Common.{◌≡◌, ℕ, List, [], ◌∷◌, ◌++◌, map, sym, subst, ℤ, arith, rules}
use Rattle.std.specs.Prelude.{IfSome}
use Rattle.std.proofs.lemmas.List.{map-append}
use Rattle.linear_combinations.specs.Gains.{Gains}
use Rattle.linear_combinations.proofs.Gains.{pairs_gain, so_far_next}
use Rattle.rotation_laws.specs.Lifting.{lifted_label, all_lifted}
use Rattle.rim_hooks.proofs.RotatedTerms.{lifted_append, lifted_sorted, lifted_steps, shape_collected}
use Rattle.sym_model.proofs.Lists.{all_read}
use Rattle.rim_hooks.proofs.lifted_labels.lifted_terms.Goals as goal

pub loop-label-preserved : goal.loop-label-preserved
loop-label-preserved c =
    let done = map (λ item. item.now) c.loop-label.yielded in
    let p : (ℕ × List ℕ) × ℤ = c.in-Some.field-0.now in
    let rest = c.next.new.self.rest.now in
    let pushed : done ++ p ∷ [] ≡ map (λ item. item.now) (c.loop-label.yielded ++ c.in-Some.field-0 ∷ []) =
    sym (map-append (λ item. item.now) c.loop-label.yielded (c.in-Some.field-0 ∷ [])) in
    let k = c.args.k in
    let n = c.args.n in
    let l = c.in-Some-2.partition in
    let is : l ≡ lifted_label k n p.0 = subst (λ o. IfSome o (λ m. m ≡ lifted_label k n p.0)) c.in-Some-2.is c.in_ok-partition.ensures in
    let one : Gains c.loop-label.sums (all_lifted k n (p ∷ [])) c.add_owned.new.self =
    subst (λ m. Gains c.loop-label.sums ((m, p.1) ∷ []) c.add_owned.new.self) is c.in_ok-add_owned.ensures.gains in
    record {
      gains = pairs_gain (all_lifted k n) (lifted_append k n) done p [] c.loop-label.sums c.loop-label.invariant.gains _ c.add_owned.new.self pushed one;
      so_far = so_far_next done rest c.loop-label.label-iterator.rest.now _ _ p pushed
          c.in-Some.ensures.steps c.loop-label.invariant.so_far;
    }

pub returns : goal.returns
returns c = λ factors l p steps.
    let k = c.args.k in
    let n = c.args.n in
    let list = c.in_ok-sorted.field-0 in
    let all : map (λ item. item.now) c.loop-label.yielded ≡ c.args.terms.now = search (rules, all_read) in
    let gains = subst (λ xs. Gains [] (all_lifted k n xs) c.loop-label.sums) all c.loop-label.invariant.gains in
    let wide = c.requires.limits.1 in
    lifted_steps k n factors c.args.terms.now list (omega arith) (omega arith) l p steps (shape_collected list c.in_ok-sorted.ensures.table)
    (lifted_sorted k n c.args.terms.now c.loop-label.sums list gains c.in_ok-sorted.ensures.gains)
