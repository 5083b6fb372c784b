-- The first minus sign or fraction in an expression, found byte by byte from the left.
use Rattle.std.specs.Prelude.{ℕ, ◌+◌, ◌==◌, cond, List, [], ◌∷◌, Option, Some, None}
use Rattle.sym_model.specs.ExpressionOffence.{WordOffence, shape}
use Rattle.sym_model.specs.Form.{is_digit}

-- The first error at a minus (the byte 45) or at a fraction (with the slash, the byte 47), in the bytes of a word from its byte `at` on. The error of
-- a fraction is at its first digit; if the bytes before `at` end with digits of a number, its first digit is the byte `start`.
abbrev pub first_sign : ℕ → ℕ → List ℕ → Option WordOffence
first_sign at start [] = None
first_sign at start (byte ∷ bytes) =
    cond (is_digit byte) (first_sign (at + 1) start bytes)
    (cond (byte == 45) (Some (at, shape))
    (cond (byte == 47) (Some (start, shape)) (first_sign (at + 1) (at + 1) bytes)))
