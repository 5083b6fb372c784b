use Rattle.std.proofs.Common.{◌≡◌, ◌++◌, [], ◌∷◌, map, refl, sym, subst, arith, ℤ, List, ℕ}
use Rattle.std.specs.Map.Iter.{deref_pair}
use Rattle.std.proofs.lemmas.Int.{ints}
use Rattle.std.proofs.lemmas.List.{map-append}
use Rattle.sym_model.specs.PlaceOrders.{minus_one_to}
use Rattle.sym_model.specs.Sum.{Among}
use Rattle.linear_combinations.proofs.Gains.{all_pairs, next_among, so_far_next}
use Rattle.monk_product.specs.RowProducts.{sum_over}
use Rattle.monk_product.specs.declared.row_summands.Summand.{Summand}
use Rattle.monk_product.proofs.RowSums.{ascent_at, summand_more, summand_less}
use lib.IntN.{*ℤ-zero}
use Rattle.monk_product.proofs.row_summands.Row.add_summands.Goals as goal

pub loop-w-init : goal.loop-w-init
loop-w-init c = record {
  sums = λ f z. let none = *ℤ-zero (minus_one_to c.args.degree) in omega (arith, ints);
  so_far = refl;
}

pub loop-w-preserved-in_ok-push : goal.loop-w-preserved-in_ok-push
loop-w-preserved-in_ok-push c =
    let inv = c.loop-w.invariant in
    let done = map deref_pair c.loop-w.yielded in
    let rest = c.next.new.self in
    let p : List ℕ × ℤ = (c.in-Some.w.now, c.in-Some.c.now) in
    let pushed : done ++ p ∷ [] ≡ map deref_pair (c.loop-w.yielded ++ (c.in-Some.w, c.in-Some.c)
    ∷ []) =
    sym (map-append deref_pair c.loop-w.yielded ((c.in-Some.w, c.in-Some.c) ∷ [])) in
    let x : Summand = record {
      perm = c.in_ok-copy.field-0;
      degree = c.args.degree;
      coefficient = c.in_ok-with_sign.field-0;
    } in
    record {
      sums = λ f z.
          summand_more f c.args.degree (sum_over f c.args.summands.now.items)
          c.loop-w.summands.items done p _ pushed (inv.sums f z) x c.push.new.self.items refl
          c.in_ok-copy.ensures.ok c.in_ok-with_sign.ensures c.in_ok-push.ensures.items;
      so_far = so_far_next done rest c.loop-w.w-iterator _ _ p pushed c.in-Some.ensures.steps
          inv.so_far;
    }

pub loop-w-preserved : goal.loop-w-preserved
loop-w-preserved c =
    let inv = c.loop-w.invariant in
    let done = map deref_pair c.loop-w.yielded in
    let rest = c.next.new.self in
    let n = c.args.self.now.letters in
    let m = c.args.self.now.letter in
    let w = c.in-Some.w.now in
    let p : List ℕ × ℤ = (c.in-Some.w.now, c.in-Some.c.now) in
    let all = all_pairs done rest c.loop-w.w-iterator _ _ c.args.terms.now p
    c.in-Some.ensures.steps inv.so_far c.into_iter-w-iterator.ensures.into_iter_gives
    c.iter-w-items.ensures.rest in
    let short = c.requires.short p (subst (Among p) all (next_among done p rest)) in
    let pushed : done ++ p ∷ [] ≡ map deref_pair (c.loop-w.yielded ++ (c.in-Some.w, c.in-Some.c)
    ∷ []) =
    sym (map-append deref_pair c.loop-w.yielded ((c.in-Some.w, c.in-Some.c) ∷ [])) in
    record {
      sums = λ f z.
          summand_less f c.args.degree (sum_over f c.args.summands.now.items)
          c.loop-w.summands.items done p _ pushed (inv.sums f z)
          (z w short (ascent_at m n w short c.requires.last c.requires.few
          (c.has_left_ascent.ensures.0 c.if-not-has_left_ascent.false)));
      so_far = so_far_next done rest c.loop-w.w-iterator _ _ p pushed c.in-Some.ensures.steps
          inv.so_far;
    }
