use Rattle.std.proofs.Common.{◌≡◌, ◌==◌, Bool, true, false, cond, refl, ◌∙◌}
use Rattle.std.specs.Int.{from_bool}
use Rattle.lr_product.proofs.Windows.{map-next}
use Rattle.lr_product.proofs.last_rows.start_chains.Goals as goal

one_or_none : (b : Bool) → from_bool b ≡ cond b 1 0
one_or_none true = refl
one_or_none false = refl

pub loop-end-preserved : goal.loop-end-preserved
loop-end-preserved c = record {
  end = refl;
  counts = c.in_ok-push.ensures.items
      ∙ map-next (λ k. cond (k == c.args.first) 1 0) c.args.first c.loop-end.end c.from.result
      c.loop-end.counts.items c.loop-end.auto.end c.loop-end.invariant.counts
      (c.from.ensures ∙ one_or_none (c.loop-end.end == c.args.first));
}
