use Rattle.std.proofs.Common.{[], ◌∷◌, ap₂, sym, subst, ℕ, ℤ, List}
use Rattle.sym_model.proofs.Ring.{product-one}
use Rattle.linear_combinations.specs.Gains.{Gains, Overflows}
use Rattle.sparse_polys.specs.Tables.{equal}
use Rattle.beta_sets.proofs.beta_set.AsPartitionRuleBetaSetPartition.add_image.Goals as goal
use Rattle.std.proofs.lemmas.Result.{on_ok_weaker}

pub returns-clause-gains : goal.returns-clause-gains
returns-clause-gains c =
    on_ok_weaker c.add_owned.result (subst (λ l. Gains c.args.sum.now l c.add_owned.new.self)
    (ap₂ (λ (x : List ℕ) (z : ℤ). (x, z) ∷ []) c.in_ok-partition.ensures
    (sym (product-one c.args.c)))) c.add_owned.ensures.gains

pub returns-clause-large : goal.returns-clause-large
returns-clause-large c err =
    subst (Overflows equal c.args.sum.now)
    (ap₂ (λ (x : List ℕ) (z : ℤ). (x, z) ∷ []) c.in_ok-partition.ensures
    (sym (product-one c.args.c))) (c.add_owned.ensures.large err)
