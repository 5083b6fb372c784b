use Rattle.std.proofs.Common.{subst, List, ℕ}
use Rattle.std.specs.Prelude.{nat_eq}
use Rattle.std.specs.Cmp.Lexicographic.{pointwise}
use Rattle.sym_model.specs.Expansion.{Terms}
use Rattle.sparse_polys.specs.Combination.{HasMoreAt}
use Rattle.basis_expand.proofs.schur_atoms.single.Goals as goal

pub returns : goal.returns
returns c = (
  c.in_ok-add_term.ensures.tables.after.combination,
  subst (λ (old : Terms (List ℕ)). HasMoreAt (pointwise nat_eq) old c.args.parts.now c.args.c
      c.add_term.new.self) c.new-list.ensures
      (subst (λ (l : List ℕ). HasMoreAt (pointwise nat_eq) c.new-list.result l c.args.c
      c.add_term.new.self) c.in_ok-from_valid_parts.ensures.ok c.in_ok-add_term.ensures.ok),
)
