use Rattle.std.proofs.Common.{sym, ◌∙◌}
use Rattle.batch_lines.proofs.Blocks.{terms_some}
use Rattle.batch_lines.proofs.sums.terms.Goals as goal

pub returns-clause-terms : goal.returns-clause-terms
returns-clause-terms c = terms_some c.args.block.now c.feeds.result
    (sym c.eq.ensures ∙ c.if-eq.false) c.feeds.ensures.feeds
