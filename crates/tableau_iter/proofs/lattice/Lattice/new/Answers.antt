use Rattle.std.proofs.Common.{◌≤◌, List, ℕ, length, ap, sym, ◌∙◌, subst}
use Rattle.sym_model.specs.GoodTableau.{good_readings}
use Rattle.sym_model.specs.Partition.{Falls}
use Rattle.tableau_iter.specs.Listings.{Listed}
use Rattle.tableau_iter.proofs.Starts.{good-list}
use Rattle.tableau_iter.proofs.lattice.Lattice.new.Goals as goal

pub returns-clause-rest : goal.returns-clause-rest
returns-clause-rest c =
    let told = c.in_ok-board.ensures in
    ap (λ (l : Listed). l.rest) c.at.ensures
    ∙ good-list _ _ c.args.rows c.args.shape.now.0 c.args.shape.now.1 c.in_ok-board.board told
    (subst Falls (sym c.parts.ensures.value) c.parts.ensures.limits.partition.falls)
    (subst (λ (s : List ℕ). length s ≤ c.args.rows) (sym c.parts.ensures.value) c.requires.start)
    ∙ ap (λ s. good_readings c.args.rows s c.args.shape.now.0 c.args.shape.now.1)
    c.parts.ensures.value
