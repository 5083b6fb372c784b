use Rattle.std.proofs.Common.{List, ℕ, [], ◌∷◌, refl, subst, replicate}
use Rattle.linear_combinations.specs.Gains.{Gains}
use Rattle.double_schubert.proofs.FactorProducts.{single_value, single_weight, single_bounds}
use Rattle.double_schubert.proofs.product.single.Goals as goal

pub returns-clause-value : goal.returns-clause-value
returns-clause-value c =
    single_value c.args.perm.now c.in_ok-copy.field-0 (replicate 32 0) c.one-2.result
    c.new-factor.result c.add_owned.new.self c.new-sum.result.items c.push.new.self.items
    c.in_ok-copy.ensures.ok c.new-factor.ensures
    (subst (λ (e : List ℕ). Gains c.new-factor.result ((e, c.one-2.result) ∷ [])
    c.add_owned.new.self) c.one.ensures c.in_ok-add_owned.ensures.gains)
    c.one-2.ensures.one c.new-sum.ensures.items c.in_ok-push.ensures.items

pub returns-clause-weight : goal.returns-clause-weight
returns-clause-weight c =
    single_weight c.args.perm.now c.in_ok-copy.field-0 (replicate 32 0) c.one-2.result
    c.new-factor.result c.add_owned.new.self c.new-sum.result.items c.push.new.self.items
    c.in_ok-copy.ensures.ok c.new-factor.ensures
    (subst (λ (e : List ℕ). Gains c.new-factor.result ((e, c.one-2.result) ∷ [])
    c.add_owned.new.self) c.one.ensures c.in_ok-add_owned.ensures.gains)
    c.one-2.ensures.one c.new-sum.ensures.items c.in_ok-push.ensures.items
    c.in_ok-add_owned.ensures.table

pub returns-clause-bounds : goal.returns-clause-bounds
returns-clause-bounds c n few =
    single_bounds c.args.perm.now c.in_ok-copy.field-0 (replicate 32 0) c.one-2.result
    c.new-factor.result c.add_owned.new.self c.new-sum.result.items c.push.new.self.items
    c.in_ok-copy.ensures.ok c.new-factor.ensures
    (subst (λ (e : List ℕ). Gains c.new-factor.result ((e, c.one-2.result) ∷ [])
    c.add_owned.new.self) c.one.ensures c.in_ok-add_owned.ensures.gains)
    c.one-2.ensures.one c.new-sum.ensures.items c.in_ok-push.ensures.items
    c.in_ok-add_owned.ensures.table n few refl
