use Rattle.std.proofs.Common.{ℕ, ap, ◌∙◌, arith}
use Rattle.std.specs.List.{sum_by}
use Rattle.lr_product.specs.Places.{count_at}
use Rattle.lr_product.proofs.Placed.{sums_next}
use Rattle.lr_product.proofs.sorted_pairs.places_of.Goals as goal

pub loop-at-preserved : goal.loop-at-preserved
loop-at-preserved c =
    let es = c.args.table.now.entries in
    record {
      end = c.loop-at.invariant.end;
      sums = λ n f.
          ap (sum_by (λ (place : ℕ × ℕ). count_at n es f place.1)) c.in_ok-push.ensures.items
          ∙ sums_next n es f c.loop-at.at c.key_of.result c.loop-at.places.items
          (omega (arith, c.loop-at.invariant.end, c.loop-at-test.true)) (c.loop-at.invariant.sums n f);
    }
