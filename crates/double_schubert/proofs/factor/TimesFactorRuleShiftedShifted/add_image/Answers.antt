use Rattle.std.proofs.Common.{◌≡◌, ℕ, List, refl, sym, ap, ◌∙◌, subst, arith, ℤ}
use Rattle.std.specs.Prelude.{Err, neg_ℤ}
use Rattle.coeff_rings.proofs.Sizes.{refused_size}
use Rattle.sym_model.specs.Permutation.{covers_up, covers_down, letter}
use Rattle.sym_model.specs.DividedDifference.{raised}
use Rattle.schubert_laws.proofs.Ranks.{letter_counts}
use Rattle.double_schubert_laws.proofs.DoubleFromOne.{letter_small}
use Rattle.linear_combinations.proofs.Steps.{error_is}
use Rattle.linear_combinations.specs.Gains.{Gains, Overflows, scaled}
use Rattle.fraction_laws.proofs.Whole.{whole_fitted}
use Rattle.transition_laws.specs.Shifts.{IsWithin, equal, factor_terms}
use Rattle.double_schubert.proofs.FactorGains.{added, factor_scaled, added_gains, overflow_first}
use Rattle.double_schubert.proofs.FactorGains.{overflow_second, overflow_third, overflow_last}
use Rattle.double_schubert.proofs.FactorGains.{overflow_negative}
use Rattle.double_schubert.proofs.factor.TimesFactorRuleShiftedShifted.add_image.Goals as goal
use Rattle.std.proofs.lemmas.Result.{on_ok_weaker}

parts : (k minus : ℤ) (r c letter_is : ℕ) (p e : List ℕ) (label : List ℕ × List ℕ)
    (up down : List (List ℕ)) (more less : List ℕ) → (p, e) ≡ label → minus ≡ neg_ℤ k → letter_is
    ≡ letter p r
    → up ≡ covers_up r p → down ≡ covers_down r p → more ≡ raised letter_is e → less ≡ raised c e →
    added k minus (p, e) up down more less ≡ scaled k (factor_terms r c label)
parts k minus r c letter_is p e label up down more less same m l u d a b =
    factor_scaled k minus r c letter_is (p, e) up down more less m l u d a b
    ∙ ap (λ (x : List ℕ × List ℕ). scaled k (factor_terms r c x)) same

pub covers_at-requires-clause-letters : goal.covers_at-requires-clause-letters
covers_at-requires-clause-letters c = let s = subst (IsWithin 254 32384) (sym c.label.view_is)
    c.requires.1 in s.short

pub times_var-requires-clause-first : goal.times_var-requires-clause-first
times_var-requires-clause-first c =
    let a = letter_counts _ c.args.self.now.r c.letter-letter.ensures.limits.kept.one_line
    c.requires.0.first in
    let b = c.letter-letter.ensures.value in
    omega arith

pub times_var-requires-clause-last : goal.times_var-requires-clause-last
times_var-requires-clause-last c =
    let a = letter_small _ c.args.self.now.r c.letter-letter.ensures.limits.kept.one_line
    c.requires.0.first in
    let b = c.letter-letter.ensures.value in
    let s = subst (IsWithin 254 32384) (sym c.label.view_is) c.requires.1 in
    let d = s.short in
    let e = c.requires.0.last in
    omega arith

pub times_var-requires-clause-room : goal.times_var-requires-clause-room
times_var-requires-clause-room c = let s = subst (IsWithin 254 32384) (sym c.label.view_is)
    c.requires.1 in let a = s.small in omega arith

pub times_var-requires-2-clause-room : goal.times_var-requires-2-clause-room
times_var-requires-2-clause-room c = let s = subst (IsWithin 254 32384) (sym c.label.view_is)
    c.requires.1 in let a = s.small in omega arith

pub times_var-requires-2-clause-last : goal.times_var-requires-2-clause-last
times_var-requires-2-clause-last c = let e = c.requires.0.last_column in omega arith

pub returns-clause-gains : goal.returns-clause-gains
returns-clause-gains c =
    let minus : c.in_ok-minus.minus ≡ neg_ℤ c.args.k = whole_fitted (neg_ℤ c.args.k)
    c.in_ok-minus.minus (sym c.neg.ensures.negation ∙ c.in_ok-minus.ensures.ok_part) in
    on_ok_weaker c.add_one-2.result (λ last.
    subst (λ l. Gains c.args.sum.now l c.add_one-2.new.sum)
    (parts c.args.k c.in_ok-minus.minus c.args.self.now.r c.args.self.now.c c.letter-letter.result _
    _ c.args.label.now c.up.result.now c.down.result.now c.in_ok-more.more c.in_ok-less.less
    c.label.view_is minus c.letter-letter.ensures.value
    (c.up.ensures ∙ c.in_ok-covers.ensures.up) (c.down.ensures ∙ c.in_ok-covers.ensures.down)
    c.in_ok-more.ensures c.in_ok-less.ensures)
    (added_gains c.args.k c.in_ok-minus.minus (_, _) c.up.result.now c.down.result.now
    c.in_ok-more.more c.in_ok-less.less c.args.sum.now c.add_beside.new.sum
    c.add_beside-2.new.sum c.add_one.new.sum c.add_one-2.new.sum
    c.in_ok-add_beside.ensures.gains c.in_ok-add_beside-2.ensures.gains
    c.in_ok-add_one.ensures.gains last)) c.add_one-2.ensures.gains

pub returns-in_err-minus-clause-large : goal.returns-in_err-minus-clause-large
returns-in_err-minus-clause-large c err =
    overflow_negative c.args.sum.now c.args.k c.args.self.now.r c.args.self.now.c c.args.label.now
    (refused_size (neg_ℤ c.args.k) (sym c.neg.ensures.negation
    ∙ c.in_err-minus.ensures.ok_part))

pub returns-in_err-add_beside-clause-large : goal.returns-in_err-add_beside-clause-large
returns-in_err-add_beside-clause-large c err =
    let minus : c.in_ok-minus.minus ≡ neg_ℤ c.args.k = whole_fitted (neg_ℤ c.args.k)
    c.in_ok-minus.minus (sym c.neg.ensures.negation ∙ c.in_ok-minus.ensures.ok_part) in
    subst (Overflows equal c.args.sum.now)
    (parts c.args.k c.in_ok-minus.minus c.args.self.now.r c.args.self.now.c c.letter-letter.result _
    _ c.args.label.now c.up.result.now _ c.in_ok-more.more c.in_ok-less.less c.label.view_is
    minus c.letter-letter.ensures.value
    (c.up.ensures ∙ c.in_ok-covers.ensures.up) refl c.in_ok-more.ensures c.in_ok-less.ensures)
    (overflow_first c.args.k c.in_ok-minus.minus (_, _) c.up.result.now _ c.in_ok-more.more
    c.in_ok-less.less c.args.sum.now c.args.sum.now c.args.sum.now c.args.sum.now
    (c.in_err-add_beside.ensures.large
    (ap Err (error_is _ _ _ c.from_residual-in_err-add_beside.ensures.1 err))))

pub returns-in_err-add_beside-2-clause-large : goal.returns-in_err-add_beside-2-clause-large
returns-in_err-add_beside-2-clause-large c err =
    let minus : c.in_ok-minus.minus ≡ neg_ℤ c.args.k = whole_fitted (neg_ℤ c.args.k)
    c.in_ok-minus.minus (sym c.neg.ensures.negation ∙ c.in_ok-minus.ensures.ok_part) in
    subst (Overflows equal c.args.sum.now)
    (parts c.args.k c.in_ok-minus.minus c.args.self.now.r c.args.self.now.c c.letter-letter.result _
    _ c.args.label.now c.up.result.now c.down.result.now c.in_ok-more.more c.in_ok-less.less
    c.label.view_is minus c.letter-letter.ensures.value
    (c.up.ensures ∙ c.in_ok-covers.ensures.up) (c.down.ensures ∙ c.in_ok-covers.ensures.down)
    c.in_ok-more.ensures c.in_ok-less.ensures)
    (overflow_second c.args.k c.in_ok-minus.minus (_, _) c.up.result.now c.down.result.now
    c.in_ok-more.more c.in_ok-less.less c.args.sum.now c.add_beside.new.sum c.args.sum.now
    c.args.sum.now c.in_ok-add_beside.ensures.gains
    (c.in_err-add_beside-2.ensures.large
    (ap Err (error_is _ _ _ c.from_residual-in_err-add_beside-2.ensures.1 err))))

pub returns-in_err-add_one-clause-large : goal.returns-in_err-add_one-clause-large
returns-in_err-add_one-clause-large c err =
    let minus : c.in_ok-minus.minus ≡ neg_ℤ c.args.k = whole_fitted (neg_ℤ c.args.k)
    c.in_ok-minus.minus (sym c.neg.ensures.negation ∙ c.in_ok-minus.ensures.ok_part) in
    subst (Overflows equal c.args.sum.now)
    (parts c.args.k c.in_ok-minus.minus c.args.self.now.r c.args.self.now.c c.letter-letter.result _
    _ c.args.label.now c.up.result.now c.down.result.now c.in_ok-more.more c.in_ok-less.less
    c.label.view_is minus c.letter-letter.ensures.value
    (c.up.ensures ∙ c.in_ok-covers.ensures.up) (c.down.ensures ∙ c.in_ok-covers.ensures.down)
    c.in_ok-more.ensures c.in_ok-less.ensures)
    (overflow_third c.args.k c.in_ok-minus.minus (_, _) c.up.result.now c.down.result.now
    c.in_ok-more.more c.in_ok-less.less c.args.sum.now c.add_beside.new.sum
    c.add_beside-2.new.sum c.args.sum.now
    c.in_ok-add_beside.ensures.gains c.in_ok-add_beside-2.ensures.gains
    (c.in_err-add_one.ensures.large (ap Err (error_is _ _ _ c.from_residual-in_err-add_one.ensures.1
    err))))

pub returns-clause-large : goal.returns-clause-large
returns-clause-large c err =
    let minus : c.in_ok-minus.minus ≡ neg_ℤ c.args.k = whole_fitted (neg_ℤ c.args.k)
    c.in_ok-minus.minus (sym c.neg.ensures.negation ∙ c.in_ok-minus.ensures.ok_part) in
    subst (Overflows equal c.args.sum.now)
    (parts c.args.k c.in_ok-minus.minus c.args.self.now.r c.args.self.now.c c.letter-letter.result _
    _ c.args.label.now c.up.result.now c.down.result.now c.in_ok-more.more c.in_ok-less.less
    c.label.view_is minus c.letter-letter.ensures.value
    (c.up.ensures ∙ c.in_ok-covers.ensures.up) (c.down.ensures ∙ c.in_ok-covers.ensures.down)
    c.in_ok-more.ensures c.in_ok-less.ensures)
    (overflow_last c.args.k c.in_ok-minus.minus (_, _) c.up.result.now c.down.result.now
    c.in_ok-more.more c.in_ok-less.less c.args.sum.now c.add_beside.new.sum
    c.add_beside-2.new.sum c.add_one.new.sum
    c.in_ok-add_beside.ensures.gains c.in_ok-add_beside-2.ensures.gains
    c.in_ok-add_one.ensures.gains (c.add_one-2.ensures.large err))
