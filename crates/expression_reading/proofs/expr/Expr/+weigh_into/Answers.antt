use Rattle.std.proofs.Common.{inl, inr, ap}
use Rattle.std.specs.Prelude.{option_map}
use Rattle.expression_reading.proofs.WeightFacts.{none-product_left, none-product_right}
use Rattle.expression_reading.proofs.WeightFacts.{none-joined_left, none-joined_right, some-joined}
use Rattle.expression_reading.proofs.WeightFacts.{given-positive}
use Rattle.expression_reading.proofs.expr.Expr.+weigh_into.Goals as goal

pub returns-in_err-weigh_into-in-Product : goal.returns-in_err-weigh_into-in-Product
returns-in_err-weigh_into-in-Product t c =
    rw c.in-Product.is
    (none-product_left _ c.in-Product.left.value c.in-Product.right.value
    (rw c.in-Product.is at c.requires) (ap (option_map (λ _. _)) c.from_residual.ensures)
    (rw c.deref-in-Product.ensures at c.in_err-weigh_into-in-Product.ensures))

pub returns-in_err-weigh_into-in-Product-2 : goal.returns-in_err-weigh_into-in-Product-2
returns-in_err-weigh_into-in-Product-2 t c =
    rw c.in-Product.is
    (none-product_right _ c.in-Product.left.value c.in-Product.right.value
    (rw c.in-Product.is at c.requires)
    (ap (option_map (λ _. _)) c.from_residual-in_err-weigh_into-in-Product-2.ensures)
    (rw c.deref-in-Product-2.ensures at c.in_err-weigh_into-in-Product-2.ensures))

pub returns-in_err-weigh_into-in-Sum : goal.returns-in_err-weigh_into-in-Sum
returns-in_err-weigh_into-in-Sum t c =
    let none = none-joined_left _ c.in-Sum.left.value c.in-Sum.right.value in
    let wide = rw c.deref-in-Sum.ensures at c.in_err-weigh_into-in-Sum.ensures in
    elim c.in-Sum.is [
      | inl e ↦ rw e (none (rw e at c.requires)
          (ap (option_map (λ _. _)) c.from_residual-in_err-weigh_into-in-Sum.ensures) wide)
      | inr e ↦ rw e (none (rw e at c.requires)
          (ap (option_map (λ _. _)) c.from_residual-in_err-weigh_into-in-Sum.ensures) wide)
    ]

pub returns-in_err-weigh_into-in-Sum-2 : goal.returns-in_err-weigh_into-in-Sum-2
returns-in_err-weigh_into-in-Sum-2 t c =
    let none = none-joined_right _ c.in-Sum.left.value c.in-Sum.right.value in
    let wide = rw c.deref-in-Sum-2.ensures at c.in_err-weigh_into-in-Sum-2.ensures in
    elim c.in-Sum.is [
      | inl e ↦ rw e (none (rw e at c.requires)
          (ap (option_map (λ _. _)) c.from_residual-in_err-weigh_into-in-Sum-2.ensures) wide)
      | inr e ↦ rw e (none (rw e at c.requires)
          (ap (option_map (λ _. _)) c.from_residual-in_err-weigh_into-in-Sum-2.ensures) wide)
    ]

pub add_to-requires : goal.add_to-requires
add_to-requires t c =
    let positive = given-positive c.in-Sum.left.value c.in-Sum.right.value
    c.weigh_into-in-Sum.new.weight in
    let left = rw c.deref-in-Sum.ensures at c.in_ok-weigh_into-in-Sum.ensures in
    elim c.in-Sum.is [
      | inl e ↦ positive (rw e at c.requires) left
      | inr e ↦ positive
          (rw e at c.requires) left
    ]

pub returns-in_ok-weigh_into-in-Sum-2 : goal.returns-in_ok-weigh_into-in-Sum-2
returns-in_ok-weigh_into-in-Sum-2 t c =
    let some = some-joined _ c.in-Sum.left.value c.in-Sum.right.value c.weigh_into-in-Sum.new.weight
    c.weigh_into-in-Sum-2.new.weight in
    let left = rw c.deref-in-Sum.ensures at c.in_ok-weigh_into-in-Sum.ensures in
    let right = rw c.deref-in-Sum-2.ensures at c.in_ok-weigh_into-in-Sum-2.ensures in
    elim c.in-Sum.is [
      | inl e ↦ rw e (some (rw e at c.requires) left right c.add_to.ensures)
      | inr e ↦ rw e (some (rw e at c.requires) left right c.add_to.ensures)
    ]
