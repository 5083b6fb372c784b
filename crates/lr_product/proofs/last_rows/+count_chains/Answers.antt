use Rattle.std.proofs.Common.{◌+◌, ◌-◌, map, sym, ap, ◌∙◌}
use Rattle.lr_product.specs.Extension.{numbers_from}
use Rattle.lr_product.specs.LastRows.{chains}
use Rattle.lr_product.proofs.last_rows.+count_chains.Goals as goal

pub returns-then-up_to-eq0 : goal.returns-then-up_to-eq0
returns-then-up_to-eq0 t c =
    let rows = c.args.rows in
    record {
      chains = λ e.
          c.in_ok-start_chains.ensures rows.lower_outside c.args.content.now c.args.numbers.now
          c.args.above.now
          ∙ ap (λ i. map (λ k. chains rows.upper_outside rows.lower_outside c.args.content.now
          c.args.numbers.now i k c.args.above.now)
          (numbers_from rows.upper_outside (rows.upper_end + 1 - rows.upper_outside)))
          (sym c.if-up_to-eq0.true);
    }
