use Rattle.std.proofs.Common.{◌≡◌, ℕ, ◌+◌, ◌-◌, ◌*◌, ◌<◌, ◌≤◌, ◌==◌, suc, cond, max, min, nat_lt, true, rules}
use Rattle.std.proofs.Common.{List, ◌++◌, length, take, drop, get_or, sym, ap, ◌∙◌, subst}
use Rattle.std.proofs.Common.{arith}
use Rattle.sym_model.specs.GoodTableau.{is_falling}
use Rattle.sym_model.specs.Partition.{size}
use Rattle.lr_product.specs.Capped.{Agree}
use Rattle.lr_product.specs.WeighedSum.{weighed}
use Rattle.lr_product.specs.Extension.{mark}
use Rattle.lr_product.specs.RowExtension.{added, filled}
use Rattle.lr_product.proofs.Raising.{index-size}
use Rattle.lr_product.proofs.LetterSums.{agree_step, agree_end}
use Rattle.lr_product.proofs.Agreeing.{agree_then, agree_same}
use Rattle.lr_product.proofs.RowFilling.{size-put, falls-put, width_put, length_put}
use Rattle.lr_product.proofs.RowFilling.{bounded_low, may_put, most_within}
use Rattle.lr_product.proofs.RowPruning.{bounded_end}
use Rattle.lr_product.proofs.row_extension.+fill.Goals as goal

pub put_letters-requires-clause-room : goal.put_letters-requires-clause-room
put_letters-requires-clause-room t c =
    let n = c.args.row.now.letters in
    let at = c.args.up_to - 1 in
    let below = index-size n at c.args.state.now.items
    (omega (arith, c.requires.letters, c.if-up_to-eq0.false)) in
    let out : c.args.row.now.outside ≤ c.least_left-low.result = omega (arith, c.least_left-low.ensures)
    in
    subst (λ s. get_or s at 0 + (c.args.placed - c.loop-left.left) < 65536)
    (sym c.loop-left.invariant.same)
    (omega (arith, c.requires.size, c.loop-left.invariant.low))

pub fill-requires : goal.fill-requires
fill-requires t c =
    let n = c.args.row.now.letters in
    let at = c.args.up_to - 1 in
    let x = c.loop-left.left in
    let k = c.args.placed in
    let s = c.args.state.now.items in
    let kept = c.args.row.now.is_kept in
    let within : at < n = omega (arith, c.requires.letters, c.if-up_to-eq0.false) in
    let low : c.least_left-low.result ≡ max (max c.args.row.now.outside (cond (at == 0) 0
    (k - (get_or s (at - 1) 0 - get_or s at 0)))) (cond (nat_lt at (length c.args.bound.now))
    (k - (get_or c.args.bound.now at 0 - get_or s at 0)) 0) =
    c.least_left-low.ensures
    ∙ ap (λ (d : List ℕ). max (max c.args.row.now.outside (cond (at == 0) 0
    (k - (get_or d (at - 1) 0 - get_or d at 0)))) (cond (nat_lt at (length c.args.bound.now))
    (k - (get_or c.args.bound.now at 0 - get_or d at 0)) 0)) c.deref-2.ensures.value in
    let out : c.args.row.now.outside ≤ c.least_left-low.result = omega (arith, c.least_left-low.ensures)
    in
    let placed : c.args.row.now.outside ≤ x = omega (arith, c.loop-left.invariant.low) in
    let most = most_within c.args.row.now.outside at k c.args.above.now c.requires.placed in
    let few : x ≤ k = omega (arith, c.most_left-most.ensures, c.min-end.ensures, c.loop-left-test.true) in
    let state : c.put_letters.new.state.items ≡ added at (k - x) s ++ mark kept x =
    c.in_ok-len.ensures.state ∙ ap (λ v. added at (k - x) v ++ mark kept x)
    c.loop-left.invariant.same in
    let long = length_put kept at (k - x) x s in
    let more = size-put n at (k - x) s (mark kept x) c.requires.long in (
      omega (arith, c.if-up_to-eq0.false),
      (
        c.requires.ways,
        (
          omega (arith, c.requires.letters),
          (
            c.requires.bound,
            (
              subst (λ v. n ≤ length v) (sym state) (omega (arith, c.requires.long)),
              (
                placed,
                (
                  subst (λ v. length v + cond kept at 0 ≡ c.loop-left.table.width) (sym state)
                      (width_put kept at (k - x) x s c.args.up_to c.loop-left.table.width
                      (omega (arith, c.if-up_to-eq0.false))
                      (c.requires.width ∙ sym c.loop-left.invariant.width)),
                  (
                    subst (λ v. is_falling (take n v) ≡ true) (sym state)
                        (falls-put n at (k - x) s (mark kept x) within c.requires.long
                        c.requires.falls
                        (may_put n c.args.row.now.outside at k x c.least_left-low.result s _ low
                        c.loop-left.invariant.low within c.requires.falls)),
                    (
                      subst (λ v. size (take n v) + (x - c.args.row.now.outside) ≤ 4096) (sym state)
                          (omega (arith, c.requires.size)),
                      omega (arith, c.requires.cells),
                    ),
                  ),
                ),
              ),
            ),
          ),
        ),
      ),
    )

pub take_letters-requires : goal.take_letters-requires
take_letters-requires t c = search (rules, length_put)

pub loop-left-preserved : goal.loop-left-preserved
loop-left-preserved t c =
    let n = c.args.row.now.letters in
    let at = c.args.up_to - 1 in
    let x = c.loop-left.left in
    let k = c.args.placed in
    let s = c.args.state.now.items in
    let kept = c.args.row.now.is_kept in
    let out = c.args.row.now.outside in
    let same = c.loop-left.invariant.same in
    let outside : out ≤ c.least_left-low.result = omega (arith, c.least_left-low.ensures) in
    let most = most_within out at k c.args.above.now c.requires.placed in
    let few : x ≤ k = omega (arith, c.most_left-most.ensures, c.min-end.ensures, c.loop-left-test.true) in
    let placed : c.put_letters.new.state.items ≡ added at (k - x) s ++ mark kept x =
    c.in_ok-len.ensures.state ∙ ap (λ v. added at (k - x) v ++ mark kept x) same in
    let len : length s ≡ c.in_ok-len.len = sym (c.in_ok-len.ensures.length ∙ ap length same) in
    let more = size-put n at (k - x) s (mark kept x) c.requires.long in
    record {
      same = c.take_letters.ensures s (mark kept x) (c.in_ok-fill.ensures.same ∙ placed) len
          (omega (arith, c.requires.long, c.requires.letters, c.if-up_to-eq0.false));
      width = c.in_ok-fill.ensures.width ∙ c.loop-left.invariant.width;
      adds = λ f v b.
          agree_step (weighed n f c.loop-left.table.entries)
          (weighed n f c.fill.new.table.entries) _ c.args.row.now.ways
          (λ y. filled kept n out at y (drop 1 c.args.above.now) f
          (added at (k - y) s ++ mark kept y))
          x c.min-end.result c.loop-left-test.true (c.loop-left.invariant.adds f v b)
          (subst (λ (r : List ℕ). Agree (weighed n f c.fill.new.table.entries)
          (weighed n f c.loop-left.table.entries + c.args.row.now.ways * filled kept n out at x r f
          (added at (k - x) s ++ mark kept x)))
          c.rest_of.ensures
          (subst (λ w. Agree (weighed n f c.fill.new.table.entries)
          (weighed n f c.loop-left.table.entries + c.args.row.now.ways * filled kept n out at x
          c.rest_of.result.now f w)) placed
          (c.in_ok-fill.ensures.adds f v b)));
      reached = λ m h z.
          c.in_ok-fill.ensures.reached m
          (subst (λ v. size (take n v) + (x - out) ≤ m) (sym placed)
          (omega (arith, c.loop-left.invariant.low)))
          (c.loop-left.invariant.reached m h z);
      low = omega (arith, c.loop-left.invariant.low);
    }

pub returns-clause-adds : goal.returns-clause-adds
returns-clause-adds t c f v b =
    let n = c.args.row.now.letters in
    let at = c.args.up_to - 1 in
    let k = c.args.placed in
    let s = c.args.state.now.items in
    let kept = c.args.row.now.is_kept in
    let out = c.args.row.now.outside in
    let within : at < n = omega (arith, c.requires.letters, c.if-up_to-eq0.false) in
    let X : ℕ → ℕ = λ y. filled kept n out at y (drop 1 c.args.above.now) f
    (added at (k - y) s ++ mark kept y) in
    let low : c.least_left-low.result ≡ max (max out (cond (at == 0) 0
    (k - (get_or s (at - 1) 0 - get_or s at 0)))) (cond (nat_lt at (length c.args.bound.now))
    (k - (get_or c.args.bound.now at 0 - get_or s at 0)) 0) =
    c.least_left-low.ensures
    ∙ ap (λ (d : List ℕ). max (max out (cond (at == 0) 0
    (k - (get_or d (at - 1) 0 - get_or d at 0)))) (cond (nat_lt at (length c.args.bound.now))
    (k - (get_or c.args.bound.now at 0 - get_or d at 0)) 0)) c.deref-2.ensures.value in
    let end : c.min-end.result ≡ min (cond (nat_lt at (length c.args.bound.now)) ((k + 1)
    - ((get_or c.args.bound.now at 0 - get_or s at 0) - c.args.row.now.later)) (k + 1))
    (c.most_left-most.result + 1) =
    c.min-end.ensures ∙ ap (λ y. min y (c.most_left-most.result + 1))
    (c.end_by_bound.ensures
    ∙ ap (λ (d : List ℕ). cond (nat_lt at (length c.args.bound.now)) ((k + 1)
    - ((get_or c.args.bound.now at 0 - get_or d at 0) - c.args.row.now.later)) (k + 1))
    c.deref-3.ensures.value) in
    let one : suc at ≡ c.args.up_to = omega (arith, c.if-up_to-eq0.false) in
    agree_then _ _ _
    (agree_end (weighed n f c.loop-left.table.entries) _ c.args.row.now.ways X c.loop-left.left
    c.min-end.result c.loop-left-test.false (c.loop-left.invariant.adds f v b))
    (agree_same _ _ (ap (λ y. weighed n f c.args.table.now.entries + c.args.row.now.ways * y)
    (bounded_end kept n out at k c.args.row.now.later c.args.above.now c.args.bound.now f s
    c.least_left-low.result c.most_left-most.result c.min-end.result b c.requires.placed within
    c.requires.long c.most_left-most.ensures end
    ∙ bounded_low kept n out at k c.args.above.now c.args.bound.now f s c.least_left-low.result v
    within c.requires.long low
    ∙ ap (λ u. filled kept n out u k c.args.above.now f s) one)))
