use Rattle.std.proofs.Common.{◌≡◌, ◌+◌, ℕ, List, [], ◌∷◌, ◌++◌, map, sym, subst, ℤ, arith, pos, rules}
use Rattle.std.specs.Prelude.{IfSome}
use Rattle.std.proofs.lemmas.List.{map-append}
use Rattle.sym_model.specs.ReductionSteps.{with_power}
use Rattle.sym_model.proofs.Lists.{all_read}
use Rattle.linear_combinations.proofs.Gains.{so_far_next}
use Rattle.rotation_laws.specs.Rotation.{turned, all_turned}
use Rattle.rotation_laws.proofs.Rotations.{Alike}
use Rattle.rotation_laws.proofs.RotatedSteps.{turned_steps}
use Rattle.rim_hooks.proofs.RotatedTerms.{power_collected, turned_next, turned_sorted}
use Rattle.rim_hooks.proofs.TurnedFactors.{turned_length}
use Rattle.rim_hooks.proofs.rotated_labels.rotated_terms.Goals as goal

pub loop-label-preserved : goal.loop-label-preserved
loop-label-preserved c =
    let done = map (λ item. item.now) c.loop-label.yielded in
    let p : (ℕ × List ℕ) × ℤ = c.in-Some.field-0.now in
    let rest = c.next.new.self.rest.now in
    let pushed : done ++ p ∷ [] ≡ map (λ item. item.now) (c.loop-label.yielded ++ c.in-Some.field-0 ∷ []) =
    sym (map-append (λ item. item.now) c.loop-label.yielded (c.in-Some.field-0 ∷ [])) in
    let k = c.args.k in
    let n = c.args.n in
    let d = c.args.bases.now.power in
    let r = c.args.bases.now.turns in
    let l = c.in-Some-2.rotated in
    let is : (d + l.0, l.1) ≡ turned k n r p.0 = subst (λ o. IfSome o (λ m. (d + m.0, m.1) ≡ turned k n r p.0)) c.in-Some-2.is c.in_ok-rotated.ensures in
    record {
      alike = turned_next k n r d done _ p c.loop-label.sums c.add_owned.new.self l pushed is c.in_ok-add_owned.ensures.gains c.loop-label.invariant.alike;
      so_far = so_far_next done rest c.loop-label.label-iterator.rest.now _ _ p pushed
          c.in-Some.ensures.steps c.loop-label.invariant.so_far;
    }

pub returns : goal.returns
returns c = λ factors l is steps.
    let k = c.args.k in
    let n = c.args.n in
    let d = c.args.bases.now.power in
    let r = c.args.bases.now.turns in
    let bases = c.args.bases.now.factors in
    let list = c.in_ok-sorted.field-0 in
    let all : map (λ item. item.now) c.loop-label.yielded ≡ c.args.terms.now = search (rules, all_read) in
    let alike = subst (λ xs. Alike (with_power d (pos 1) c.loop-label.sums) (all_turned k n r xs)) all c.loop-label.invariant.alike in
    let wide = c.requires.limits.1 in
    let e = turned_length k n factors bases r d is in
    turned_steps k n factors bases r d c.args.terms.now list (omega arith) l (omega arith) is steps (power_collected list c.in_ok-sorted.ensures.table)
    (turned_sorted d c.loop-label.sums list (all_turned k n r c.args.terms.now) c.in_ok-sorted.ensures.gains alike)
