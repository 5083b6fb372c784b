use Rattle.std.proofs.Common.{◌≡◌, ℕ, List, ◌∙◌, ap, ap₂, sym, subst}
use Rattle.sym_model.specs.Insertion.{insertion_pair}
use Rattle.perm_codes.specs.Limits.{IsWithinLimits}
use Rattle.growth_diagrams.proofs.GrowthPairs.{perm_from, first_of_grid, second_of_grid, exchanged}
use Rattle.growth_diagrams.proofs.grid.Grid.pair_of.Goals as goal

pub returns-clause-last_line : goal.returns-clause-last_line
returns-clause-last_line c =
    let w = c.args.self.now in
    let limits : IsWithinLimits w = subst IsWithinLimits c.self.view_is c.self.invariant.limits in
    ap (λ t. t.rows) c.in_ok-p.ensures ∙ first_of_grid w (perm_from w limits.kept.one_line)

pub returns-clause-last_column : goal.returns-clause-last_column
returns-clause-last_column c =
    let w = c.args.self.now in
    let limits : IsWithinLimits w = subst IsWithinLimits c.self.view_is c.self.invariant.limits in
    ap (λ t. t.rows) c.in_ok-q.ensures ∙ second_of_grid w (perm_from w limits.kept.one_line)

pub returns-clause-inverse : goal.returns-clause-inverse
returns-clause-inverse c = λ v one inverse.
    let w = c.args.self.now in
    let limits : IsWithinLimits w = subst IsWithinLimits c.self.view_is c.self.invariant.limits in
    let e = exchanged v w (perm_from v one) (perm_from w limits.kept.one_line) inverse in
    let p : c.in_ok-p.p.rows ≡ (insertion_pair w).0 = ap (λ t. t.rows) c.in_ok-p.ensures in
    let q : c.in_ok-q.q.rows ≡ (insertion_pair w).1 = ap (λ t. t.rows) c.in_ok-q.ensures in
    ap₂ (λ (p q : List (List ℕ)). (p, q)) (q ∙ sym e.0) (p ∙ sym e.1)
