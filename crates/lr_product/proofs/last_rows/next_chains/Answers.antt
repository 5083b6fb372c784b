use Rattle.std.proofs.Common.{◌+◌, ◌-◌, drop, refl, ◌∙◌, arith}
use Rattle.lr_product.specs.LastRows.{chains}
use Rattle.lr_product.proofs.Windows.{length-sums_of, map-next, next-chain}
use Rattle.lr_product.proofs.last_rows.next_chains.Goals as goal

pub window_sum-requires-clause-end : goal.window_sum-requires-clause-end
window_sum-requires-clause-end c =
    let rows = c.args.rows in
    let long = length-sums_of
    (λ k. chains rows.upper_outside rows.lower_outside c.args.content.now c.args.numbers.now c.args.at k
    (drop 1 c.args.above.now))
    rows.upper_outside (rows.upper_end + 1 - rows.upper_outside) c.args.sums.now c.requires.sums in
    omega (arith, c.past_ends-past.ensures, c.loop-end-test.true, c.requires.upper)

pub loop-end-preserved : goal.loop-end-preserved
loop-end-preserved c =
    let rows = c.args.rows in
    let end = c.loop-end.end in
    let content = c.args.content.now in
    let numbers = c.args.numbers.now in
    let above = c.args.above.now in
    record {
      end = refl;
      counts = c.in_ok-push.ensures.items
          ∙ map-next (λ k. chains rows.upper_outside rows.lower_outside content numbers
          (c.args.at + 1) k above)
          rows.upper_outside end c.window_sum.result c.loop-end.counts.items c.loop-end.auto.end
          c.loop-end.invariant.counts
          (next-chain rows.upper_outside rows.lower_outside content numbers above c.args.at end
          c.args.needed c.least_end-low.result c.past_ends-past.result c.window_sum.result
          c.requires.needed c.least_end-low.ensures c.past_ends-past.ensures
          (c.window_sum.ensures
          (λ k. chains rows.upper_outside rows.lower_outside content numbers c.args.at k
          (drop 1 above))
          (rows.upper_end + 1 - rows.upper_outside) c.requires.sums));
    }
