use Rattle.std.proofs.Common.{List, ℕ, [], ◌∷◌, subst}
use Rattle.linear_combinations.specs.Gains.{Gains, Overflows}
use Rattle.transition_laws.specs.Shifts.{equal}
use Rattle.double_schubert.proofs.factor.add_one.Goals as goal
use Rattle.std.proofs.lemmas.Result.{on_ok_weaker}

pub returns-clause-gains : goal.returns-clause-gains
returns-clause-gains c =
    on_ok_weaker c.add_owned.result (λ gains. subst (λ (p : List ℕ). Gains c.args.sum.now (((p, c.args.y), c.args.k) ∷ [])
    c.add_owned.new.self) c.in_ok-perm.ensures.ok gains) c.add_owned.ensures.gains

pub returns-clause-large : goal.returns-clause-large
returns-clause-large c err = subst (λ (p : List ℕ). Overflows equal c.args.sum.now
    (((p, c.args.y), c.args.k) ∷ [])) c.in_ok-perm.ensures.ok (c.add_owned.ensures.large err)
