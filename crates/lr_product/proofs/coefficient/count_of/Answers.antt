use Rattle.std.proofs.Common.{◌≡◌, ◌+◌, true, false, length, take, drop, sym, ◌∙◌}
use Rattle.std.specs.Prelude.{nat_eq}
use Rattle.std.specs.Cmp.Lexicographic.{pointwise}
use Rattle.lr_product.specs.WeighedSum.{at_state, weighed, comes_to}
use Rattle.lr_product.proofs.Steps.{weighed-drop}
use Rattle.lr_product.proofs.Sums.{comes-begins, agree_skipped, agree_counted}
use Rattle.lr_product.proofs.coefficient.count_of.Goals as goal

pub loop-at-preserved-then-not-begins_with : goal.loop-at-preserved-then-not-begins_with
loop-at-preserved-then-not-begins_with c =
    let parts = c.args.parts.now in
    let n = length parts in
    let es = c.args.table.now.entries in
    let key = c.entry-ways.result.0.now in
    let came : c.begins_with.result ≡ pointwise nat_eq (take n key) parts = c.begins_with.ensures in
    let x = comes-begins parts key false c.requires (let f : c.begins_with.result ≡ false = cc in
    sym f ∙ came) in (
      c.loop-at.invariant.0,
      c.loop-at.invariant.1,
      agree_skipped c.loop-at.count (weighed n (comes_to parts) (drop c.loop-at.at es))
          (weighed n (comes_to parts) es) (weighed n (comes_to parts) (drop (c.loop-at.at + 1) es))
          c.entry-ways.result.1 (at_state n (comes_to parts) key) c.loop-at.invariant.2
          (weighed-drop n (comes_to parts) es c.loop-at.at (key, c.entry-ways.result.1)
          c.entry-ways.ensures) x,
    )

pub loop-at-preserved : goal.loop-at-preserved
loop-at-preserved c =
    let parts = c.args.parts.now in
    let n = length parts in
    let es = c.args.table.now.entries in
    let key = c.entry-ways.result.0.now in
    let came : c.begins_with.result ≡ pointwise nat_eq (take n key) parts = c.begins_with.ensures in
    let x = comes-begins parts key true c.requires (let f : c.begins_with.result ≡ true = cc in
    sym f ∙ came) in (
      c.loop-at.invariant.0,
      c.capped-count.ensures.within,
      agree_counted c.loop-at.count (weighed n (comes_to parts) (drop c.loop-at.at es))
          (weighed n (comes_to parts) es) (weighed n (comes_to parts) (drop (c.loop-at.at + 1) es))
          c.entry-ways.result.1 (at_state n (comes_to parts) key) c.saturating_add.result
          c.capped-count.result c.loop-at.invariant.2
          (weighed-drop n (comes_to parts) es c.loop-at.at (key, c.entry-ways.result.1)
          c.entry-ways.ensures) x
          c.saturating_add.ensures c.capped-count.ensures.capped,
    )
