use Rattle.std.proofs.Common.{ap, sym, ◌∙◌}
use Rattle.tableau_iter.specs.Listings.{Listed}
use Rattle.tableau_iter.proofs.FittingWords.{no_content}
use Rattle.tableau_iter.proofs.Starts.{content-list}
use Rattle.tableau_iter.proofs.fillings.Fillings.with_content.Goals as goal

pub returns-then-total-from-clause-rest : goal.returns-then-total-from-clause-rest
returns-then-total-from-clause-rest c =
    ap (λ (l : Listed). l.rest) c.at.ensures
    ∙ sym (no_content c.args.content.now c.args.shape.now.0 c.args.shape.now.1
    (λ e. c.if-total-from.true (c.total.ensures.value ∙ e
    ∙ sym (c.from.ensures ∙ c.cells-cells.ensures.value))))

pub returns-clause-rest : goal.returns-clause-rest
returns-clause-rest c =
    let told = c.in_ok-board.ensures in
    ap (λ (l : Listed). l.rest) c.at-2.ensures
    ∙ content-list c.args.content.now c.args.shape.now.0 c.args.shape.now.1 c.in_ok-board.board told
    (sym c.total.ensures.value ∙ c.if-total-from.false ∙ c.from.ensures
    ∙ c.cells-cells.ensures.value)
