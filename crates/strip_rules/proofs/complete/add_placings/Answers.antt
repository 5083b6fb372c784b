use Rattle.std.proofs.Common.{◌≡◌, ◌∷◌, [], List, ℕ, ℤ, pos, ◌*ℤ◌, refl, ap, rules}
use Rattle.std.proofs.Common.{subst, arith}
use Rattle.std.specs.Prelude.{Err, nat_eq}
use Rattle.std.specs.Cmp.Lexicographic.{pointwise, nat_list_eq_equiv}
use Rattle.sym_model.proofs.Sums.{Among-get_or}
use Rattle.strip_rules.specs.StripProduct.{placings}
use Rattle.linear_combinations.specs.Gains.{Gains, Overflows, scaled}
use Rattle.linear_combinations.proofs.Labels.{same_partition}
use Rattle.linear_combinations.proofs.Counted.{scaled_each_by-append}
use Rattle.linear_combinations.proofs.Gains.{gains_none, overflows_alone, places_gain}
use Rattle.linear_combinations.proofs.Gains.{places_overflow}
use Rattle.linear_combinations.proofs.Steps.{error_is}
use Rattle.strip_rules.specs.Rows.{with_placings}
use Rattle.std.proofs.lemmas.List.{take_all}
use Rattle.strip_rules.proofs.complete.add_placings.Goals as goal

term : (μ ν inner shape : List ℕ) (c z : ℤ) → inner ≡ μ → shape ≡ ν →
    z ≡ c *ℤ pos (placings inner shape) → z ≡ c *ℤ pos (placings μ ν)
term μ ν inner shape c z e f h = search rules

pub loop-shape-init : goal.loop-shape-init
loop-shape-init c = gains_none c.args.sum.now

pub times_placings-requires-clause-contained : goal.times_placings-requires-clause-contained
times_placings-requires-clause-contained c = search (rules, Among-get_or)

pub returns-in_err-product-clause-large : goal.returns-in_err-product-clause-large
returns-in_err-product-clause-large c = λ large.
    let shape = c.shape-item.result in
    let number : ℤ = c.args.c *ℤ pos (placings c.parts.result.now c.parts-in-loop-shape.result.now)
    in
    let is = term c.args.label.now shape c.parts.result.now c.parts-in-loop-shape.result.now
    c.args.c number c.parts.ensures.value c.parts-in-loop-shape.ensures.value refl in
    places_overflow
    (λ (shapes : List (List ℕ)). scaled c.args.c (with_placings c.args.label.now shapes))
    (scaled_each_by-append (λ ν. pos (placings c.args.label.now ν)) c.args.c) c.args.shapes.now
    c.loop-shape.shape-index shape (omega arith) c.shape-item.is c.args.sum.now c.loop-shape.sum
    c.loop-shape.invariant (pointwise nat_eq)
    (subst (λ (z : ℤ). Overflows (pointwise nat_eq) c.loop-shape.sum ((shape, z) ∷ [])) is
    (overflows_alone nat_list_eq_equiv same_partition c.loop-shape.sum shape number
    c.in_err-product.ensures))

pub returns-in_err-add_at_label-clause-large : goal.returns-in_err-add_at_label-clause-large
returns-in_err-add_at_label-clause-large c = λ large.
    let shape = c.shape-item.result in
    let is = term c.args.label.now shape c.parts.result.now c.parts-in-loop-shape.result.now
    c.args.c c.in_ok-product.product c.parts.ensures.value c.parts-in-loop-shape.ensures.value
    c.in_ok-product.ensures in
    places_overflow
    (λ (shapes : List (List ℕ)). scaled c.args.c (with_placings c.args.label.now shapes))
    (scaled_each_by-append (λ ν. pos (placings c.args.label.now ν)) c.args.c) c.args.shapes.now
    c.loop-shape.shape-index shape (omega arith) c.shape-item.is c.args.sum.now c.loop-shape.sum
    c.loop-shape.invariant (pointwise nat_eq)
    (subst (λ (z : ℤ). Overflows (pointwise nat_eq) c.loop-shape.sum ((shape, z) ∷ [])) is
    (c.in_err-add_at_label.ensures.large (ap Err (error_is _ _ _ c.from_residual-in_err-add_at_label.ensures.1 large))))

pub loop-shape-preserved : goal.loop-shape-preserved
loop-shape-preserved c =
    let shape = c.shape-item.result in
    let is = term c.args.label.now shape c.parts.result.now c.parts-in-loop-shape.result.now
    c.args.c c.in_ok-product.product c.parts.ensures.value c.parts-in-loop-shape.ensures.value
    c.in_ok-product.ensures in
    places_gain
    (λ (shapes : List (List ℕ)). scaled c.args.c (with_placings c.args.label.now shapes))
    (scaled_each_by-append (λ ν. pos (placings c.args.label.now ν)) c.args.c) c.args.shapes.now
    c.loop-shape.shape-index shape (omega arith) c.shape-item.is c.args.sum.now c.loop-shape.sum
    c.loop-shape.invariant c.add_at_label.new.self
    (subst (λ (z : ℤ). Gains c.loop-shape.sum ((shape, z) ∷ []) c.add_at_label.new.self) is
    c.in_ok-add_at_label.ensures.gains)

pub returns-clause-gains : goal.returns-clause-gains
returns-clause-gains c = search (rules, take_all)
