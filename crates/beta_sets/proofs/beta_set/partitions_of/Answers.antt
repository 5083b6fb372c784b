use Rattle.std.proofs.Common.{[], ◌∷◌, pos, Err, ap, subst}
use Rattle.linear_combinations.specs.Gains.{Gains, Overflows, replaced}
use Rattle.linear_combinations.proofs.Steps.{error_is}
use Rattle.sparse_polys.specs.Tables.{equal}
use Rattle.beta_sets.specs.BetaSets.{shape}
use Rattle.beta_sets.proofs.ShapeSums.{written_out}
use Rattle.beta_sets.proofs.beta_set.partitions_of.Goals as goal

pub add_by-requires : goal.add_by-requires
add_by-requires c t m = c.requires t m

pub returns-clause-gains : goal.returns-clause-gains
returns-clause-gains c =
    subst (λ l. Gains [] l c.add_by.new.self) (written_out c.args.list.now)
    (subst (λ old. Gains old (replaced (λ s. (shape s, pos 1) ∷ []) c.args.list.now)
    c.add_by.new.self) c.new-terms.ensures
    c.in_ok-add_by.ensures.gains)

pub returns-in_err-add_by-clause-large : goal.returns-in_err-add_by-clause-large
returns-in_err-add_by-clause-large c err =
    subst (Overflows equal []) (written_out c.args.list.now)
    (subst (λ old. Overflows equal old
    (replaced (λ s. (shape s, pos 1) ∷ []) c.args.list.now)) c.new-terms.ensures
    (c.in_err-add_by.ensures.large (ap Err (error_is _ _ _ c.from_residual.ensures.1 err))))
