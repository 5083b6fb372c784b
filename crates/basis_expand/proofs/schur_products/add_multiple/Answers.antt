use Rattle.std.proofs.Common.{sym, subst, List, ℕ, pos, ◌*ℤ◌}
use Rattle.std.specs.Prelude.{nat_eq}
use Rattle.std.specs.Cmp.Lexicographic.{pointwise}
use Rattle.std.proofs.lemmas.Result.{on_ok_weaker}
use Rattle.fraction_laws.specs.Fractions.{scaled}
use Rattle.sym_model.proofs.Ring.{product-one}
use Rattle.sparse_polys.specs.Combination.{HasMoreAt}
use Rattle.sparse_polys.proofs.ClearedSums.{Gains-term}
use Rattle.basis_expand.proofs.schur_products.add_multiple.Goals as goal

pub returns : goal.returns
returns c =
    on_ok_weaker c.add_term.result
    (λ more q den cleared.
    Gains-term q c.args.sum.now c.add_term.new.self c.args.label.now c.args.c
    c.add_term.ensures.tables.before.combination c.add_term.ensures.tables.after.combination c.requires den.positive den.multiple
    cleared
    (subst (λ (l : List ℕ). HasMoreAt (pointwise nat_eq) c.args.sum.now l c.args.c
    c.add_term.new.self) c.in_ok-copy.ensures.ok more)
    (scaled q c.args.c *ℤ pos 1) (sym (product-one (scaled q c.args.c))))
    c.add_term.ensures.ok
