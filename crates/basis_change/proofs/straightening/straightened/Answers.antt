use Rattle.std.proofs.Common.{◌≡◌, ◌++◌, ◌∷◌, [], ℕ, ℤ, List, map, sym, ap, subst, arith, Err, rules}
use Rattle.std.specs.Map.Iter.{deref_pair}
use Rattle.std.proofs.lemmas.List.{map-append, append-nil}
use Rattle.sym_model.specs.Partition.{size}
use Rattle.sym_model.specs.Sum.{Among}
use Rattle.sym_model.specs.WholeTerms.{WholeTerms}
use Rattle.linear_combinations.specs.Gains.{Gains, Overflows}
use Rattle.linear_combinations.proofs.Gains.{all_pairs, gains_none, next_among, pairs_gain}
use Rattle.linear_combinations.proofs.Gains.{pairs_overflow, so_far_next}
use Rattle.linear_combinations.proofs.Steps.{all_done, error_is, IsCombination-empty}
use Rattle.sparse_polys.specs.Tables.{equal}
use Rattle.beta_sets.specs.BetaSets.{shapes}
use Rattle.basis_change.specs.Arranging.{straight_terms}
use Rattle.basis_change.specs.Straightening.{straightened_list}
use Rattle.basis_change.proofs.StraightTerms.{straightened_list-append}
use Rattle.basis_change.proofs.straightening.straightened.Goals as goal

pub loop-label-init : goal.loop-label-init
loop-label-init c = search (rules, gains_none, IsCombination-empty)

pub add_straightened-requires-clause-low : goal.add_straightened-requires-clause-low
add_straightened-requires-clause-low c =
    let done = map deref_pair c.loop-label.yielded in
    let rest = c.next.new.self in
    let x : List ℕ × ℤ = (c.in-Some.label.now, c.in-Some.c.now) in
    let all =
    all_pairs done rest c.loop-label.label-iterator _ _ c.args.list.now x c.in-Some.ensures.steps
    c.loop-label.invariant.so_far c.into_iter-label-iterator.ensures.into_iter_gives
    c.iter-label-items.ensures.rest in
    let s = c.requires.sizes x
    (subst (λ (es : WholeTerms). Among x es) all (next_among done x rest)) in
    let v = ap size c.parts.ensures.value in
    let p = c.requires.low in
    omega arith

pub loop-label-preserved : goal.loop-label-preserved
loop-label-preserved c =
    let inv = c.loop-label.invariant in
    let done = map deref_pair c.loop-label.yielded in
    let rest = c.next.new.self in
    let k = c.in-Some.label.now in
    let x : List ℕ × ℤ = (c.in-Some.label.now, c.in-Some.c.now) in
    let pushed : done ++ (c.in-Some.label.now, c.in-Some.c.now) ∷ [] ≡ map deref_pair
    (c.loop-label.yielded ++ (c.in-Some.label, c.in-Some.c) ∷ []) =
    sym (map-append deref_pair c.loop-label.yielded ((c.in-Some.label, c.in-Some.c) ∷ [])) in
    let all =
    all_pairs done rest c.loop-label.label-iterator _ _ c.args.list.now x c.in-Some.ensures.steps
    inv.so_far c.into_iter-label-iterator.ensures.into_iter_gives c.iter-label-items.ensures.rest in
    let low = c.requires.sizes x
    (subst (λ (es : WholeTerms). Among x es) all (next_among done x rest)) in
    let here : Gains (shapes c.loop-label.sum) (straightened_list c.args.size
    ((c.in-Some.label.now, c.in-Some.c.now) ∷ [])) (shapes c.add_straightened.new.sum) =
    subst (λ l. Gains (shapes c.loop-label.sum) l (shapes c.add_straightened.new.sum))
    (sym (append-nil (straight_terms x.1 k c.args.size)))
    (subst (λ (p : List ℕ). Gains (shapes c.loop-label.sum) (straight_terms x.1 p c.args.size)
    (shapes c.add_straightened.new.sum)) c.parts.ensures.value
    (c.in_ok-add_straightened.ensures.gains c.args.size
    (let v = ap size c.parts.ensures.value in omega arith))) in
    record {
      kept = c.in_ok-add_straightened.ensures.kept;
      gains = pairs_gain (straightened_list c.args.size)
          (straightened_list-append c.args.size) done x [] (shapes c.loop-label.sum) inv.gains _
          (shapes c.add_straightened.new.sum) pushed here;
      table = c.in_ok-add_straightened.ensures.table;
      within = c.in_ok-add_straightened.ensures.within;
      so_far = so_far_next done rest c.loop-label.label-iterator _ _ x pushed
          c.in-Some.ensures.steps inv.so_far;
    }

pub returns-in_err-add_straightened-clause-large : goal.returns-in_err-add_straightened-clause-large
returns-in_err-add_straightened-clause-large c err =
    let inv = c.loop-label.invariant in
    let done = map deref_pair c.loop-label.yielded in
    let rest = c.next.new.self in
    let k = c.in-Some.label.now in
    let x : List ℕ × ℤ = (c.in-Some.label.now, c.in-Some.c.now) in
    let all =
    all_pairs done rest c.loop-label.label-iterator _ _ c.args.list.now x c.in-Some.ensures.steps
    inv.so_far c.into_iter-label-iterator.ensures.into_iter_gives c.iter-label-items.ensures.rest in
    let low = c.requires.sizes x
    (subst (λ (es : WholeTerms). Among x es) all (next_among done x rest)) in
    let here : Overflows equal (shapes c.loop-label.sum) (straightened_list c.args.size (x ∷ [])) =
    subst (Overflows equal (shapes c.loop-label.sum))
    (sym (append-nil (straight_terms x.1 k c.args.size)))
    (subst (λ (p : List ℕ). Overflows equal (shapes c.loop-label.sum) (straight_terms x.1 p c.args.size))
    c.parts.ensures.value
    (c.in_err-add_straightened.ensures.large
    (ap Err (error_is _ _ _ c.from_residual.ensures.1 err)) c.args.size
    (let v = ap size c.parts.ensures.value in omega arith))) in
    pairs_overflow (straightened_list c.args.size)
    (straightened_list-append c.args.size) done x [] (shapes c.loop-label.sum) inv.gains
    equal rest c.args.list.now all here

pub returns-clause-gains : goal.returns-clause-gains
returns-clause-gains c = search (rules, all_done)
