use Rattle.std.proofs.Common.{◌≡◌, ◌+◌, ◌-◌, ◌++◌, [], ◌∷◌, map, refl, sym, ap, ◌∙◌, subst, ℤ, List, ℕ}
use Rattle.std.specs.Prelude.{neg_ℤ}
use Rattle.std.specs.Map.Iter.{deref_pair}
use Rattle.std.proofs.lemmas.List.{map-append}
use Rattle.fraction_laws.proofs.Whole.{whole_fitted}
use Rattle.sym_model.specs.Permutation.{covers_down}
use Rattle.sym_model.specs.Sum.{Among}
use Rattle.linear_combinations.specs.Gains.{each_with}
use Rattle.linear_combinations.proofs.Gains.{all_pairs, next_among, so_far_next}
use Rattle.monk_product.specs.RowProducts.{GainsExcept, covers_to, signed_covers}
use Rattle.monk_product.proofs.RowSums.{except_both, except_none, place_at, signed_scaled, term_more}
use Rattle.monk_product.proofs.row_summands.Row.covers.Goals as goal

pub loop-w-init : goal.loop-w-init
loop-w-init c = record {
  gains = subst (λ ts. GainsExcept c.args.self.now.letters (c.args.self.now.letter - 1) [] [] ts)
      (sym c.new-sum.ensures) (except_none c.args.self.now.letters (c.args.self.now.letter - 1) [] (λ t m. absurd m));
  so_far = refl;
}

pub add_covers_before-requires-clause-short : goal.add_covers_before-requires-clause-short
add_covers_before-requires-clause-short c =
    let inv = c.loop-w.invariant in
    let done = map deref_pair c.loop-w.yielded in
    let rest = c.next.new.self in
    let p : List ℕ × ℤ = (c.in-Some.w.now, c.in-Some.c.now) in
    let all = all_pairs done rest c.loop-w.w-iterator _ _ c.args.terms.now p
    c.in-Some.ensures.steps inv.so_far c.into_iter-w-iterator.ensures.into_iter_gives
    c.iter-w-items.ensures.rest in
    c.requires.was p (subst (Among p) all (next_among done p rest))

pub add_covers_before-requires-clause-place : goal.add_covers_before-requires-clause-place
add_covers_before-requires-clause-place c =
    let inv = c.loop-w.invariant in
    let done = map deref_pair c.loop-w.yielded in
    let rest = c.next.new.self in
    let p : List ℕ × ℤ = (c.in-Some.w.now, c.in-Some.c.now) in
    let all = all_pairs done rest c.loop-w.w-iterator _ _ c.args.terms.now p
    c.in-Some.ensures.steps inv.so_far c.into_iter-w-iterator.ensures.into_iter_gives
    c.iter-w-items.ensures.rest in
    (place_at c.args.self.now.letters c.args.self.now.letter c.place-place.result c.in-Some.w.now
    (c.requires.was p (subst (Among p) all (next_among done p rest))) c.requires.first
    c.requires.last c.requires.few c.place-place.ensures.place).1

pub add_covers_after-requires-clause-short : goal.add_covers_after-requires-clause-short
add_covers_after-requires-clause-short c =
    let inv = c.loop-w.invariant in
    let done = map deref_pair c.loop-w.yielded in
    let rest = c.next.new.self in
    let p : List ℕ × ℤ = (c.in-Some.w.now, c.in-Some.c.now) in
    let all = all_pairs done rest c.loop-w.w-iterator _ _ c.args.terms.now p
    c.in-Some.ensures.steps inv.so_far c.into_iter-w-iterator.ensures.into_iter_gives
    c.iter-w-items.ensures.rest in
    c.requires.was p (subst (Among p) all (next_among done p rest))

pub add_covers_after-requires-clause-place : goal.add_covers_after-requires-clause-place
add_covers_after-requires-clause-place c =
    let inv = c.loop-w.invariant in
    let done = map deref_pair c.loop-w.yielded in
    let rest = c.next.new.self in
    let p : List ℕ × ℤ = (c.in-Some.w.now, c.in-Some.c.now) in
    let all = all_pairs done rest c.loop-w.w-iterator _ _ c.args.terms.now p
    c.in-Some.ensures.steps inv.so_far c.into_iter-w-iterator.ensures.into_iter_gives
    c.iter-w-items.ensures.rest in
    (place_at c.args.self.now.letters c.args.self.now.letter c.place-place.result c.in-Some.w.now
    (c.requires.was p (subst (Among p) all (next_among done p rest))) c.requires.first
    c.requires.last c.requires.few c.place-place.ensures.place).1

pub loop-w-preserved : goal.loop-w-preserved
loop-w-preserved c =
    let inv = c.loop-w.invariant in
    let done = map deref_pair c.loop-w.yielded in
    let rest = c.next.new.self in
    let n = c.args.self.now.letters in
    let m = c.args.self.now.letter in
    let w = c.in-Some.w.now in
    let p : List ℕ × ℤ = (c.in-Some.w.now, c.in-Some.c.now) in
    let all = all_pairs done rest c.loop-w.w-iterator _ _ c.args.terms.now p
    c.in-Some.ensures.steps inv.so_far c.into_iter-w-iterator.ensures.into_iter_gives
    c.iter-w-items.ensures.rest in
    let short = c.requires.was p (subst (Among p) all (next_among done p rest)) in
    let place = place_at n m c.place-place.result w short c.requires.first c.requires.last c.requires.few
    c.place-place.ensures.place in
    let r = c.place-place.result + 1 in
    let pushed : done ++ p ∷ [] ≡ map deref_pair (c.loop-w.yielded ++ (c.in-Some.w, c.in-Some.c)
    ∷ []) =
    sym (map-append deref_pair c.loop-w.yielded ((c.in-Some.w, c.in-Some.c) ∷ [])) in
    let minus : c.in_ok-minus.minus ≡ neg_ℤ c.in-Some.c.now = whole_fitted (neg_ℤ c.in-Some.c.now)
    c.in_ok-minus.minus (sym c.neg.ensures.negation ∙ c.in_ok-minus.ensures.ok_part) in
    record {
      gains = term_more n (m - 1) (signed_covers n m) done p _ [] c.loop-w.sum
          c.add_covers_after.new.sum pushed inv.gains
          (subst (λ l. GainsExcept n (m - 1) c.loop-w.sum l c.add_covers_after.new.sum)
          (ap (λ z. each_with p.1 (covers_down r w) ++ each_with z (covers_to n r w)) minus
          ∙ signed_scaled n m p.1 w r (ap (λ x. x + 1) place.0))
          (except_both n (m - 1) c.loop-w.sum (each_with p.1 (covers_down r w))
          c.add_covers_before.new.sum (each_with c.in_ok-minus.minus (covers_to n r w))
          c.add_covers_after.new.sum c.in_ok-add_covers_before.ensures
          c.in_ok-add_covers_after.ensures));
      so_far = so_far_next done rest c.loop-w.w-iterator _ _ p pushed c.in-Some.ensures.steps
          inv.so_far;
    }
