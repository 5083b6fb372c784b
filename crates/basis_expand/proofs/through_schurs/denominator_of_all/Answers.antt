use Rattle.std.proofs.Common.{◌≡◌, ◌++◌, ◌∷◌, [], List, ℕ, map, sym, ◌∙◌, ap, subst, refl, arith, rules}
use Rattle.std.specs.Map.Iter.{deref_pair}
use Rattle.std.proofs.lemmas.List.{map-append}
use Rattle.sym_model.specs.Expansion.{Terms}
use Rattle.sym_model.specs.Expression.{lcm}
use Rattle.linear_combinations.specs.Cleared.{IsCommonDenominator}
use Rattle.linear_combinations.proofs.Gains.{so_far_next}
use Rattle.sparse_polys.proofs.Steps.{all_done}
use Rattle.basis_expand.proofs.InMonomials.{common-none, common-next}
use Rattle.basis_expand.proofs.through_schurs.denominator_of_all.Goals as goal

pub loop-c-init : goal.loop-c-init
loop-c-init c = record { low = omega arith; common = common-none [] refl; so_far = refl }

pub loop-c-preserved : goal.loop-c-preserved
loop-c-preserved c =
    let done = map deref_pair c.loop-c.yielded in
    let rest = c.next.new.self in
    let k = c.in-Some.field-0-0.now in
    let v = c.in-Some.c.now in
    let pushed : done ++ (k, v) ∷ [] ≡ map deref_pair (c.loop-c.yielded ++ (
      c.in-Some.field-0-0,
      c.in-Some.c,
    ) ∷ []) =
    sym (map-append deref_pair c.loop-c.yielded ((c.in-Some.field-0-0, c.in-Some.c) ∷ [])) in
    let next = c.in_ok-common.ensures.ok in
    record {
      low = next.1;
      common =
          subst (λ (es : Terms (List ℕ)).
          IsCommonDenominator c.in_ok-common.common.den es) pushed
          (common-next c.loop-c.den c.in_ok-common.common.den done k v
          c.denominator_of.ensures.positive
          (next.0 ∙ ap (lcm c.loop-c.den) c.denominator_of.ensures.value)
          c.loop-c.invariant.common);
      so_far = so_far_next done rest c.loop-c.c-iterator _ _ (k, v) pushed
          c.in-Some.ensures.steps c.loop-c.invariant.so_far;
    }

pub returns : goal.returns
returns c = search (rules, all_done)
