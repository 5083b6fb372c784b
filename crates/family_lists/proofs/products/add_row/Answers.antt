use Rattle.std.proofs.Common.{◌≡◌, ◌*ℤ◌, ℕ, ℤ, List, [], ◌∷◌, ◌++◌, map, refl, sym, ap, subst, ◌∙◌}
use Rattle.std.proofs.Common.{arith}
use Rattle.std.specs.Prelude.{Err}
use Rattle.std.specs.Map.Iter.{deref_pair}
use Rattle.std.proofs.lemmas.List.{map-append}
use Rattle.sym_model.specs.Sum.{Among}
use Rattle.sym_model.specs.WholeTerms.{WholeTerms}
use Rattle.linear_combinations.specs.Gains.{Gains}
use Rattle.linear_combinations.proofs.Gains.{all_pairs, gains_none, next_among, pairs_gain}
use Rattle.linear_combinations.proofs.Gains.{pairs_overflow, so_far_next}
use Rattle.linear_combinations.proofs.Steps.{all_done, error_is}
use Rattle.sparse_polys.proofs.Rows.{greatest_size-among}
use Rattle.sparse_polys.specs.Tables.{equal}
use Rattle.basis_change_laws.specs.JoinedLists.{merged, row}
use Rattle.family_lists.proofs.products.add_row.Goals as goal

row-append : (k : List ℕ) (z : ℤ) (xs ys : WholeTerms) → row k z (xs ++ ys) ≡ row k z xs ++ row k z
    ys
row-append k z xs ys = map-append (λ (t : List ℕ × ℤ). let term : List ℕ × ℤ =
    (merged k t.0, z *ℤ t.1) in term) xs ys

pub loop-label-init : goal.loop-label-init
loop-label-init c = record { gains = gains_none c.args.sum.now; so_far = refl }

pub add_joined-requires : goal.add_joined-requires
add_joined-requires c =
    let done = map deref_pair c.loop-label.yielded in
    let rest = c.next.new.self in
    let all = all_pairs done rest c.loop-label.label-iterator _ _ c.args.right.now
    (c.in-Some.label.now, c.in-Some.c.now) c.in-Some.ensures.steps c.loop-label.invariant.so_far
    c.into_iter-label-iterator.ensures.into_iter_gives c.iter-label-items.ensures.rest in
    let low = greatest_size-among c.args.right.now (c.in-Some.label.now, c.in-Some.c.now)
    (subst (Among (c.in-Some.label.now, c.in-Some.c.now)) all
    (next_among done (c.in-Some.label.now, c.in-Some.c.now) rest)) in
    omega (arith, c.requires)

pub loop-label-preserved : goal.loop-label-preserved
loop-label-preserved c =
    let inv = c.loop-label.invariant in
    let k = c.args.left.now in
    let z = c.args.z in
    let done = map deref_pair c.loop-label.yielded in
    let rest = c.next.new.self in
    let pushed : done ++ (c.in-Some.label.now, c.in-Some.c.now) ∷ [] ≡ map deref_pair
    (c.loop-label.yielded ++ (c.in-Some.label, c.in-Some.c) ∷ []) =
    sym (map-append deref_pair c.loop-label.yielded ((c.in-Some.label, c.in-Some.c) ∷ [])) in
    record {
      gains = pairs_gain (row k z) (row-append k z) done (c.in-Some.label.now, c.in-Some.c.now)
          c.args.sum.now c.loop-label.sum inv.gains _ c.add_joined.new.sum pushed
          c.in_ok-add_joined.ensures.gains;
      so_far = so_far_next done rest c.loop-label.label-iterator _ _ (
        c.in-Some.label.now,
        c.in-Some.c.now,
      ) pushed c.in-Some.ensures.steps inv.so_far;
    }

pub returns-in_err-add_joined-clause-large : goal.returns-in_err-add_joined-clause-large
returns-in_err-add_joined-clause-large c err =
    let inv = c.loop-label.invariant in
    let k = c.args.left.now in
    let z = c.args.z in
    let done = map deref_pair c.loop-label.yielded in
    let rest = c.next.new.self in
    let all = all_pairs done rest c.loop-label.label-iterator _ _ c.args.right.now
    (c.in-Some.label.now, c.in-Some.c.now) c.in-Some.ensures.steps inv.so_far
    c.into_iter-label-iterator.ensures.into_iter_gives c.iter-label-items.ensures.rest in
    pairs_overflow (row k z) (row-append k z) done (c.in-Some.label.now, c.in-Some.c.now)
    c.args.sum.now c.loop-label.sum inv.gains equal rest c.args.right.now all
    (c.in_err-add_joined.ensures.large
    (ap Err (error_is _ _ _ c.from_residual-in_err-add_joined.ensures.1 err)))

pub returns-clause-gains : goal.returns-clause-gains
returns-clause-gains c =
    subst (λ l. Gains c.args.sum.now (row c.args.left.now c.args.z l) c.loop-label.sum)
    (all_done (map deref_pair c.loop-label.yielded) c.loop-label.label-iterator _ _
    c.in-None.ensures.steps.0 c.loop-label.invariant.so_far
    (c.into_iter-label-iterator.ensures.into_iter_gives ∙ c.iter-label-items.ensures.rest))
    c.loop-label.invariant.gains
