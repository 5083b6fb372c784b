-- A number times a fraction over/under, computed from the quotient and the remainder of the number by `under`.
use Rattle.std.proofs.Common.{◌≡◌, ℕ, ◌+◌, ◌*◌, ◌/◌, ◌%◌, ◌<◌, sym, ◌∙◌, ap, arith}
use native.Mathlib.Nat.{div-add-mod', mul-add-div_right, mul-div_cancel}

regroup : (d r n u : ℕ) → d * n * u + r * n ≡ (d * u + r) * n
regroup d r n u = omega arith

pub in_parts : (count over under q : ℕ) → 0 < under → q * under ≡ count * over
    → count / under * over + count % under * over / under ≡ q
in_parts count over under q some whole =
    sym (mul-add-div_right some (count / under * over) (count % under * over))
    ∙ ap (λ n. n / under)
    (regroup (count / under) (count % under) over under
    ∙ ap (λ n. n * over) (div-add-mod' count under) ∙ sym whole)
    ∙ mul-div_cancel q some
