use Rattle.std.proofs.Common.{◌≡◌, ℕ, ℤ, List, ◌++◌, ap, ap₂, ◌∙◌, subst}
use Rattle.std.specs.Prelude.{Err, nat_eq, neg_ℤ}
use Rattle.std.specs.Cmp.Lexicographic.{pointwise}
use Rattle.sym_model.specs.Permutation.{covers_up, covers_down}
use Rattle.linear_combinations.proofs.Steps.{error_is}
use Rattle.linear_combinations.specs.Gains.{Gains, Overflows, scaled, each_with}
use Rattle.linear_combinations.proofs.Gains.{gains_both, overflows_both, overflows_more}
use Rattle.monk_product.specs.Monk.{monk_terms}
use Rattle.monk_product.proofs.MonkGains.{monk_scaled}
use Rattle.monk_product.proofs.monk.TimesVarRulePermPerm.add_image.Goals as goal
use Rattle.std.proofs.lemmas.Result.{on_ok_weaker}

added : (c : ℤ) (r : ℕ) (w : List ℕ) (up down : List (List ℕ)) → up ≡ covers_up r w →
    down ≡ covers_down r w
    → each_with c up ++ each_with (neg_ℤ c) down ≡ scaled c (monk_terms r w)
added c r w up down e f = ap₂ (λ x y. each_with c x ++ each_with (neg_ℤ c) y) e f ∙ monk_scaled c r
    w

pub returns-clause-gains : goal.returns-clause-gains
returns-clause-gains c =
    on_ok_weaker c.subtract_each.result (λ more.
    subst (λ l. Gains c.args.sum.now l c.subtract_each.new.self)
    (added c.args.c c.args.self.now.r c.args.w.now c.up.result.now c.down.result.now
    (c.up.ensures ∙ c.in_ok-covers.ensures.up) (c.down.ensures ∙ c.in_ok-covers.ensures.down))
    (gains_both c.args.sum.now (each_with c.args.c c.up.result.now) c.add_each.new.self
    (each_with (neg_ℤ c.args.c) c.down.result.now) c.subtract_each.new.self
    c.in_ok-add_each.ensures.gains more)) c.subtract_each.ensures.gains

pub returns-clause-large : goal.returns-clause-large
returns-clause-large c err =
    subst (Overflows (pointwise nat_eq) c.args.sum.now)
    (added c.args.c c.args.self.now.r c.args.w.now c.up.result.now c.down.result.now
    (c.up.ensures ∙ c.in_ok-covers.ensures.up) (c.down.ensures ∙ c.in_ok-covers.ensures.down))
    (overflows_both (pointwise nat_eq) c.args.sum.now (each_with c.args.c c.up.result.now)
    c.add_each.new.self (each_with (neg_ℤ c.args.c) c.down.result.now)
    c.in_ok-add_each.ensures.gains (c.subtract_each.ensures.large err))

pub returns-in_err-add_each-clause-large : goal.returns-in_err-add_each-clause-large
returns-in_err-add_each-clause-large c err =
    subst (Overflows (pointwise nat_eq) c.args.sum.now)
    (ap (λ x. each_with c.args.c x ++ each_with (neg_ℤ c.args.c)
    (covers_down c.args.self.now.r c.args.w.now)) (c.up.ensures ∙ c.in_ok-covers.ensures.up)
    ∙ monk_scaled c.args.c c.args.self.now.r c.args.w.now)
    (overflows_more (pointwise nat_eq) c.args.sum.now (each_with c.args.c c.up.result.now)
    (each_with (neg_ℤ c.args.c) (covers_down c.args.self.now.r c.args.w.now))
    (c.in_err-add_each.ensures.large
    (ap Err (error_is _ _ _ c.from_residual-in_err-add_each.ensures.1 err))))
