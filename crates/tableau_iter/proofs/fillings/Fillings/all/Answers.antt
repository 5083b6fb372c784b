use Rattle.std.proofs.Common.{ap, ◌∙◌, arith}
use Rattle.tableau_iter.specs.Listings.{Listed}
use Rattle.tableau_iter.proofs.Starts.{tableau-list}
use Rattle.tableau_iter.proofs.fillings.Fillings.all.Goals as goal

pub new-requires-clause-small : goal.new-requires-clause-small
new-requires-clause-small c = λ p. absurd (omega (arith, p))

pub returns-clause-rest : goal.returns-clause-rest
returns-clause-rest c =
    ap (λ (l : Listed). l.rest) c.at.ensures
    ∙ tableau-list _ _ c.args.n c.args.shape.now.0 c.args.shape.now.1 c.in_ok-board.board
    c.in_ok-board.ensures
