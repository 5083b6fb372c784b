use Rattle.std.proofs.Common.{subst, arith}
use Rattle.linear_combinations.specs.Gains.{Gains, Overflows}
use Rattle.sparse_polys.specs.Tables.{equal}
use Rattle.sparse_polys.proofs.Rows.{greatest_size-among}
use Rattle.family_lists.proofs.RowSteps.{products-gained}
use Rattle.family_lists.proofs.products.add_products.Goals as goal
use Rattle.std.proofs.lemmas.Result.{on_ok_weaker}

pub add_by-requires : goal.add_by-requires
add_by-requires c t m =
    let a = greatest_size-among c.args.left.now t m in
    omega (arith, c.requires)

pub returns-clause-gains : goal.returns-clause-gains
returns-clause-gains c =
    on_ok_weaker c.add_by.result (λ more. subst (λ l. Gains c.args.sum.now l c.add_by.new.self)
    (products-gained c.args.c c.args.left.now c.args.right.now) more) c.add_by.ensures.gains

pub returns-clause-large : goal.returns-clause-large
returns-clause-large c err =
    subst (λ l. Overflows equal c.args.sum.now l)
    (products-gained c.args.c c.args.left.now c.args.right.now)
    (c.add_by.ensures.large err)
