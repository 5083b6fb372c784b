use Rattle.std.proofs.Common.{List, ℕ, subst}
use Rattle.std.specs.Prelude.{neg_ℤ}
use Rattle.linear_combinations.specs.Gains.{Gains, each_with}
use Rattle.double_schubert.proofs.FactorLists.{difference_none, difference_both}
use Rattle.double_schubert.proofs.by_permutations.DifferenceRuleShortMonomialShortMonomial.add_image.Goals as goal
use Rattle.std.proofs.lemmas.Result.{on_ok_weaker}

pub returns-then-self-clause-gains : goal.returns-then-self-clause-gains
returns-then-self-clause-gains c =
    difference_none c.args.self.now.a c.args.self.now.c c.args.e.now c.args.k c.args.sum.now
    c.if-self.true

pub returns-clause-gains : goal.returns-clause-gains
returns-clause-gains c =
    on_ok_weaker c.subtract_each.result (λ second.
    difference_both c.args.self.now.a c.args.self.now.c c.args.e.now c.times_var.result
    c.times_var-2.result c.args.k c.args.sum.now c.add_owned.new.self c.subtract_each.new.self
    c.times_var.ensures c.times_var-2.ensures c.in_ok-add_owned.ensures.gains
    (subst (λ (l : List (List ℕ)). Gains c.add_owned.new.self (each_with (neg_ℤ c.args.k) l)
    c.subtract_each.new.self) c.as_slice.ensures second)) c.subtract_each.ensures.gains
