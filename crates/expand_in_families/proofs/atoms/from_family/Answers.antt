use Rattle.std.proofs.Common.{rules, tests, ◌≡◌, sym, subst}
use Rattle.sym_model.specs.Expression.{atom}
use Rattle.sparse_polys.specs.declared.family.Family.{Family}
use Rattle.sparse_polys.specs.Families.{basis_in, polynomial_of}
use Rattle.expand_in_families.specs.Nodes.{IsConverted}
use Rattle.expand_in_families.proofs.atoms.from_family.Goals as goal

pub returns-then-eq : goal.returns-then-eq
returns-then-eq c =
    let is : c.args.family ≡ c.args.target = search (rules, tests) in
    subst (λ (f : Family). IsConverted (polynomial_of c.args.target)
    (atom (basis_in f) c.args.label.now) c.itself.result) (sym is)
    (c.itself.ensures c.args.target)
