use Rattle.std.proofs.Common.{◌≡◌, ℕ, suc, ◌+◌, ◌-◌, ◌==◌, max, min, true, List, [], ◌∷◌, ◌++◌, length, length-append, take, drop, get_or, set, sym, ap, ap₂, ◌∙◌, arith}
use Rattle.std.proofs.Math.Seq.{set-set, set-get_or}
use Rattle.std.proofs.lemmas.List.{get_or-set_other, get_or-take, get_or_append_left, length-take-le}
use Rattle.lr_product.specs.RowExtension.{added, filled}
use Rattle.lattice_rows.specs.LatticeRows.{least_end, greatest_end, row_room, AgreeBelow}
use Rattle.lattice_rows.proofs.LatticeFilling.{state_put, put_end, before_end, outside_within, sum_passed, sum_finished, within_bounds}
use Rattle.lattice_rows.proofs.lattice_row.+fill.Goals as goal

pub fill-requires : goal.fill-requires
fill-requires t c =
    let n = c.args.row.now.letters in
    let at = c.args.up_to - 1 in
    let one : suc at ≡ c.args.up_to = omega (arith, c.if-up_to-eq0.false) in
    let least = c.requires.bounds.least_is at (omega (arith, c.requires.up_to)) in
    let out = outside_within c.args.row.now.outside (take n c.args.row.now.content) c.args.row.now.start.content at in (
      omega arith,
      (
        c.requires.letters,
        (
          omega (arith, c.requires.up_to),
          (
            c.requires.bounds,
            (
              c.requires.below,
              (
                record {
                  agree = λ j h.
                      ap (λ v. get_or v j 0) (c.loop-left.invariant.content _)
                      ∙ get_or-set_other c.args.reached.now.content at j _ 0 (λ e. absurd (omega arith))
                      ∙ c.requires.agree.agree j (omega arith);
                },
                (
                  omega (arith, c.loop-left.auto.left, c.max-low.ensures),
                  (
                    omega (arith, c.min-end.ensures, c.loop-left-test.true, c.requires.short),
                    c.requires.entry,
                  ),
                ),
              ),
            ),
          ),
        ),
      ),
    )

pub loop-left-preserved : goal.loop-left-preserved
loop-left-preserved t c =
    let n = c.args.row.now.letters in
    let at = c.args.up_to - 1 in
    let u = n - c.args.up_to in
    let x = c.loop-left.left in
    let k = c.args.placed in
    let out = c.args.row.now.outside in
    let U = take n c.args.row.now.start.ends in
    let old = c.args.reached.now.content in
    let s = take n old ++ take u c.args.reached.now.ends in
    let one : c.args.up_to ≡ suc at = omega (arith, c.if-up_to-eq0.false) in
    let same = c.requires.agree.agree at (omega arith) in
    let room : set c.loop-left.reached.content at (get_or c.args.row.now.start.content at 0 + (k - x)) ≡ set old at (get_or old at 0 + (k - x)) =
    c.loop-left.invariant.content _ ∙ ap (λ v. set old at (v + (k - x))) (sym same) in
    let ends : take (n - at) (set c.loop-left.reached.ends u x) ≡ take u c.args.reached.now.ends ++ x ∷ [] =
    put_end n at c.args.up_to x c.loop-left.reached.ends c.args.reached.now.ends one (omega (arith, c.requires.up_to)) (omega (arith, c.requires.letters)) c.loop-left.invariant.ends in
    let put = ap₂ (λ (v w : List ℕ). take n v ++ w) room ends ∙ state_put n at (k - x) x old (take u c.args.reached.now.ends) (omega (arith, c.requires.up_to)) (omega (arith, c.requires.letters)) in
    record {
      content = λ y. ap (λ v. set v at y) (c.in_ok-fill.ensures.content ∙ c.loop-left.invariant.content _) ∙ set-set old at _ y;
      ends =
          before_end n at c.args.up_to x c.loop-left.reached.ends c.fill.new.reached.ends one c.in_ok-fill.ensures.ends ∙ c.loop-left.invariant.ends;
      steps = λ before. c.in_ok-fill.ensures.steps (c.loop-left.invariant.steps before);
      adds = λ a f e r.
          sum_passed (c.args.entry == a) _ _ _ (λ y. filled true n out at y (drop ((n + 1) - at) U) f (added at (k - y) s ++ y ∷ [])) x (c.min-end.result + 1) _
          (omega (arith, c.loop-left-test.true)) (c.loop-left.invariant.adds a f e r) (c.in_ok-fill.ensures.adds a f e r)
          (ap (λ v. filled true n out at x (drop ((n + 1) - at) U) f v) put);
    }

pub returns-clause-adds : goal.returns-clause-adds
returns-clause-adds t c a f e r =
    let n = c.args.row.now.letters in
    let at = c.args.up_to - 1 in
    let k = c.args.placed in
    let out = c.args.row.now.outside in
    let μ = take n c.args.row.now.content in
    let start = c.args.row.now.start.content in
    let U = take n c.args.row.now.start.ends in
    let s = take n c.args.reached.now.content ++ take (n - c.args.up_to) c.args.reached.now.ends in
    let one : suc at ≡ c.args.up_to = omega (arith, c.if-up_to-eq0.false) in
    let least = c.requires.bounds.least_is at (omega (arith, c.requires.up_to)) in
    let greatest = c.requires.bounds.greatest_is at (omega (arith, c.requires.up_to)) in
    let room = c.requires.bounds.room_is at (omega (arith, c.requires.up_to)) in
    let low : c.max-low.result ≡ max (least_end out μ start at) (k - row_room μ start at) = omega (arith, c.max-low.ensures, c.saturating_sub.ensures) in
    let end : c.min-end.result + 1 ≡ min (greatest_end n out μ start U at) k + 1 = omega (arith, c.min-end.ensures) in
    let long : length U ≡ n = length-take-le n c.args.row.now.start.ends (omega (arith, c.requires.letters)) in
    let full : length μ ≡ n = length-take-le n c.args.row.now.content (omega (arith, c.requires.letters)) in
    let width : length s + suc at ≡ n + n =
    let v = length-append (take n c.args.reached.now.content) (take (n - c.args.up_to) c.args.reached.now.ends) in
    let w : length (take n c.args.reached.now.content) ≡ n = length-take-le n c.args.reached.now.content (omega (arith, c.requires.letters)) in
    let z : length (take (n - c.args.up_to) c.args.reached.now.ends) ≡ n - c.args.up_to = length-take-le (n - c.args.up_to) c.args.reached.now.ends (omega (arith, c.requires.letters)) in
    omega (arith, c.requires.up_to) in
    let agree : AgreeBelow (suc at) s start =
    record {
      agree = λ j h.
          get_or_append_left (take n c.args.reached.now.content) (take (n - c.args.up_to) c.args.reached.now.ends) 0 j
          (let w : length (take n c.args.reached.now.content) ≡ n = length-take-le n c.args.reached.now.content (omega (arith, c.requires.letters)) in omega (arith, c.requires.up_to))
          ∙ get_or-take n c.args.reached.now.content j 0 (omega (arith, c.requires.up_to))
          ∙ c.requires.agree.agree j (omega arith);
    } in
    sum_finished (c.args.entry == a) _ _ _ (λ y. filled true n out at y (drop ((n + 1) - at) U) f (added at (k - y) s ++ y ∷ [])) c.loop-left.left (c.min-end.result + 1) c.max-low.result
    c.loop-left-test.false (c.loop-left.invariant.adds a f e r)
    (within_bounds n c.args.row.now.is_last μ f e out at k c.max-low.result (c.min-end.result + 1) U s start full long (omega (arith, c.requires.up_to)) width agree c.requires.placed low end
    ∙ ap (λ u. filled true n out u k (drop ((n + 1) - u) U) f s) one)

pub returns-clause-content : goal.returns-clause-content
returns-clause-content t c =
    let at = c.args.up_to - 1 in
    let same = c.requires.agree.agree at (omega (arith, c.if-up_to-eq0.false)) in
    c.loop-left.invariant.content _ ∙ ap (set c.args.reached.now.content at) (sym same) ∙ set-get_or c.args.reached.now.content at 0
