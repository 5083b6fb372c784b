use Rattle.std.proofs.Common.{◌≡◌, ◌+◌, [], ◌∷◌, ◌++◌, map, sym, ◌∙◌, subst, arith, ◌*ℤ◌}
use Rattle.std.specs.Map.Iter.{deref_pair}
use Rattle.std.proofs.lemmas.List.{map-append}
use Rattle.fraction_laws.proofs.Whole.{whole_fitted}
use Rattle.sym_model.specs.Sum.{Among}
use Rattle.linear_combinations.specs.Gains.{Gains, replaced}
use Rattle.linear_combinations.proofs.Gains.{pairs_gain, replaced_append, all_pairs, so_far_next}
use Rattle.linear_combinations.proofs.Gains.{next_among}
use Rattle.linear_combinations.proofs.Steps.{all_done}
use Rattle.monk_product.proofs.ElementaryProducts.{label_short, label_there, label_few}
use Rattle.monk_product.proofs.ElementaryProducts.{elementary_terms, elementary_product}
use Rattle.monk_product.proofs.ElementaryProducts.{product_step}
use Rattle.monk_product.proofs.chains.add_elementary_product.Goals as goal

pub overflow_add-n : goal.overflow_add-n
overflow_add-n c =
    let inv = c.loop-w.invariant in
    let done = map deref_pair c.loop-w.yielded in
    let all = all_pairs done c.next.new.self c.loop-w.w-iterator _ _ c.args.list.now
    (c.in-Some.w.now, c.in-Some.a.now) c.in-Some.ensures.steps inv.so_far
    c.into_iter-w-iterator.ensures.into_iter_gives c.iter-w-items.ensures.rest in
    let label = label_there c.args.list.now c.iter-w-items.ensures.combination
    (c.in-Some.w.now, c.in-Some.a.now)
    (subst (Among (c.in-Some.w.now, c.in-Some.a.now)) all
    (next_among done (c.in-Some.w.now, c.in-Some.a.now) c.next.new.self)) in
    let few = label_few c.in-Some.w.now label in
    let k = c.if-k-ge-MOST_LETTERS.false in
    let len = c.len.ensures in
    let most = c.max-n.ensures in
    omega arith

pub add_chains-requires-clause-short : goal.add_chains-requires-clause-short
add_chains-requires-clause-short c =
    let inv = c.loop-w.invariant in
    let done = map deref_pair c.loop-w.yielded in
    let all = all_pairs done c.next.new.self c.loop-w.w-iterator _ _ c.args.list.now
    (c.in-Some.w.now, c.in-Some.a.now) c.in-Some.ensures.steps inv.so_far
    c.into_iter-w-iterator.ensures.into_iter_gives c.iter-w-items.ensures.rest in
    let label = label_there c.args.list.now c.iter-w-items.ensures.combination
    (c.in-Some.w.now, c.in-Some.a.now)
    (subst (Among (c.in-Some.w.now, c.in-Some.a.now)) all
    (next_among done (c.in-Some.w.now, c.in-Some.a.now) c.next.new.self)) in
    let len = c.len.ensures in
    let most = c.max-n.ensures in
    label_short _ c.in-Some.w.now label (omega arith)

pub loop-w-preserved : goal.loop-w-preserved
loop-w-preserved c =
    let inv = c.loop-w.invariant in
    let done = map deref_pair c.loop-w.yielded in
    let rest = c.next.new.self in
    let len = c.len.ensures in
    let most = c.max-n.ensures in
    let pushed : done ++ (c.in-Some.w.now, c.in-Some.a.now) ∷ [] ≡ map deref_pair
    (c.loop-w.yielded ++ (c.in-Some.w, c.in-Some.a) ∷ []) =
    sym (map-append deref_pair c.loop-w.yielded ((c.in-Some.w, c.in-Some.a) ∷ [])) in
    let times : c.in_ok-c.c ≡ c.args.z *ℤ c.in-Some.a.now =
    whole_fitted (c.args.z *ℤ c.in-Some.a.now) c.in_ok-c.c
    (sym c.mul.ensures.product ∙ c.in_ok-c.ensures.ok_part) in
    record {
      gains = pairs_gain (replaced (elementary_terms c.args.d c.args.k c.args.z))
          (replaced_append (elementary_terms c.args.d c.args.k c.args.z)) done
          (c.in-Some.w.now, c.in-Some.a.now) c.args.sum.now c.loop-w.sum inv.gains _
          c.add_chains.new.sum pushed
          (product_step c.args.d c.args.k c.args.z c.in-Some.a.now c.in_ok-c.c
          (c.max-n.result + 1) c.in-Some.w.now c.loop-w.sum c.add_chains.new.sum times
          (omega arith) c.in_ok-add_chains.ensures);
      so_far = so_far_next done rest c.loop-w.w-iterator _ _
          (c.in-Some.w.now, c.in-Some.a.now) pushed c.in-Some.ensures.steps inv.so_far;
    }

pub returns : goal.returns
returns c =
    λ m φ. elementary_product c.args.d c.args.k c.args.z m φ c.args.list.now c.args.sum.now
    c.loop-w.sum c.iter-w-items.ensures.combination
    (subst (λ l. Gains c.args.sum.now
    (replaced (elementary_terms c.args.d c.args.k c.args.z) l) c.loop-w.sum)
    (all_done (map deref_pair c.loop-w.yielded) c.loop-w.w-iterator _ _
    c.in-None.ensures.steps.0 c.loop-w.invariant.so_far
    (c.into_iter-w-iterator.ensures.into_iter_gives ∙ c.iter-w-items.ensures.rest))
    c.loop-w.invariant.gains)
