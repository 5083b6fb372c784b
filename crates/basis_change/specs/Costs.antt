-- The cost of a label: a bound for the sum of the absolute values of the coefficients in the list into which its augmented monomial is converted.
use Rattle.std.specs.Prelude.{ℕ, zero, suc, ◌-◌, ◌*◌, ◌^◌, length}
use Rattle.sym_model.specs.Partition.{size}
use Rattle.sym_model.specs.Weight.{factorial}
use Rattle.basis_change.specs.AugmentedProducts.{MixedLabel}

-- 2^s - 1, and 1 for s = 0: a bound for the sum of the absolute values of the coefficients of p_λ in h or in e, for λ of size s
abbrev pub doubled : ℕ → ℕ
doubled zero = 1
doubled (suc s) = 2 ^ suc s - 1

-- for a label whose augmented monomial has l parts and the size s: l!·`doubled` s
abbrev pub cost : MixedLabel → ℕ
cost l = factorial (length l.1) * doubled (size l.1)
