use Rattle.std.proofs.Common.{◌≡◌, ℕ, ℤ, List, ◌+◌, ◌-◌, ◌++◌, ap, ◌∙◌, subst}
use Rattle.std.specs.Prelude.{Err, nat_eq, neg_ℤ}
use Rattle.std.specs.Cmp.Lexicographic.{pointwise}
use Rattle.sym_model.specs.Permutation.{covers_up, covers_down}
use Rattle.linear_combinations.proofs.Steps.{error_is}
use Rattle.linear_combinations.specs.Gains.{Gains, Overflows, scaled, each_with}
use Rattle.linear_combinations.proofs.Gains.{gains_both, overflows_both, overflows_more}
use Rattle.monk_product.specs.Monk.{monk_terms}
use Rattle.monk_product.proofs.MonkGains.{monk_scaled}
use Rattle.monk_product.proofs.short_monk.TimesVarRuleShortPermShortPerm.add_image.Goals as goal
use Rattle.std.proofs.lemmas.Result.{on_ok_weaker}
use Rattle.sym_model.proofs.Numbers.{one_before}

added : (c : ℤ) (p r : ℕ) (w : List ℕ) → p ≡ r
    → each_with c (covers_up p w) ++ each_with (neg_ℤ c) (covers_down p w)
    ≡ scaled c (monk_terms r w)
added c p r w e =
    ap (λ q. each_with c (covers_up q w) ++ each_with (neg_ℤ c) (covers_down q w)) e
    ∙ monk_scaled c r w

pub returns-clause-gains : goal.returns-clause-gains
returns-clause-gains c =
    let w = c.args.w.now in
    let p = c.from-place.result - 1 + 1 in
    on_ok_weaker c.subtract_covers_down.result (λ more.
    subst (λ l. Gains c.args.sum.now l c.subtract_covers_down.new.sum)
    (added c.args.c p c.args.self.now.r w (one_before _ _ c.from-place.ensures c.requires.0))
    (gains_both c.args.sum.now (each_with c.args.c (covers_up p w)) c.add_covers_up.new.sum
    (each_with (neg_ℤ c.args.c) (covers_down p w)) c.subtract_covers_down.new.sum
    c.in_ok-add_covers_up.ensures.gains more)) c.subtract_covers_down.ensures.gains

pub returns-clause-large : goal.returns-clause-large
returns-clause-large c err =
    let w = c.args.w.now in
    let p = c.from-place.result - 1 + 1 in
    subst (Overflows (pointwise nat_eq) c.args.sum.now)
    (added c.args.c p c.args.self.now.r w (one_before _ _ c.from-place.ensures c.requires.0))
    (overflows_both (pointwise nat_eq) c.args.sum.now (each_with c.args.c (covers_up p w))
    c.add_covers_up.new.sum (each_with (neg_ℤ c.args.c) (covers_down p w))
    c.in_ok-add_covers_up.ensures.gains (c.subtract_covers_down.ensures.large err))

pub returns-in_err-add_covers_up-clause-large : goal.returns-in_err-add_covers_up-clause-large
returns-in_err-add_covers_up-clause-large c err =
    let w = c.args.w.now in
    let p = c.from-place.result - 1 + 1 in
    subst (Overflows (pointwise nat_eq) c.args.sum.now)
    (added c.args.c p c.args.self.now.r w (one_before _ _ c.from-place.ensures c.requires.0))
    (overflows_more (pointwise nat_eq) c.args.sum.now (each_with c.args.c (covers_up p w))
    (each_with (neg_ℤ c.args.c) (covers_down p w))
    (c.in_err-add_covers_up.ensures.large
    (ap Err (error_is _ _ _ c.from_residual.ensures.1 err))))
