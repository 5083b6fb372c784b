-- The values of two scalars for which an operation of a ring returns None.
use Rattle.std.specs.Prelude.{◌≡◌, Option, None}
use Rattle.sym_model.specs.Expansion.{Fraction}

-- for some two scalars that satisfy `is_held` and have the values a and b, the operation `checked` returns None
pub record IsRefused {R : Type 0} (is_held : R → Type 0) (value : R → Fraction)
    (checked : R → R → Option R) (a b : Fraction) : Type 0 where
  pub left : R
  pub right : R
  pub left_held : is_held left
  pub right_held : is_held right
  pub left_value : value left ≡ a
  pub right_value : value right ≡ b
  pub refused : checked left right ≡ None
