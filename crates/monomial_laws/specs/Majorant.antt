-- Bounds for all coefficients of a polynomial at once. A polynomial F is a majorant of f (Cauchy) if each coefficient of F is at least the absolute
-- value of the same coefficient of f. Here the majorants are sums of powers of x_1 + .. + x_n. The coefficient of x^α in (x_1 + .. + x_n)^d is the
-- multinomial d!/Π α_i! if α has the sum d, and 0 otherwise. A sum of majorants is a majorant of the sum, and a product of majorants is a majorant
-- of the product. A sum of powers is given by the list of its exponents: for the sum of two such majorants the lists are appended, for the product
-- each exponent of one list is added to each exponent of the other.
use Rattle.std.specs.Prelude.{ℕ, ◌≤◌, pos, nat_abs, ◌≤ℤ◌, List, length, replicate, flat_map}
use Rattle.sym_model.specs.Sum.{Among}
use Rattle.sym_model.specs.Polynomial.{Poly, coefficient}
use Rattle.sym_model.specs.Bases.{power_sum}

-- F is a majorant of f: for all exponents α, the coefficient of x^α in f is at most that in F, in absolute value
abbrev pub IsMajorant : Poly → Poly → Type 0
IsMajorant majorant f = (α : List ℕ) → pos (nat_abs (coefficient f α)) ≤ℤ coefficient majorant α

-- (x_1 + .. + x_n)^d
abbrev pub power : ℕ → ℕ → Poly
power d n = power_sum (replicate d 1) n

-- the sum of (x_1 + .. + x_n)^d over the exponents d of a list
abbrev pub powers : List ℕ → ℕ → Poly
powers exponents n = flat_map (λ d. power d n) exponents

-- f is bounded by N at the degree d: it has a majorant in n variables that is a sum of at most N powers of x_1 + .. + x_n, with exponents up to d
pub record IsBounded (N d n : ℕ) (f : Poly) : Type 0 where
  pub exponents : List ℕ
  pub few : length exponents ≤ N
  pub low : (k : ℕ) → Among k exponents → k ≤ d
  pub majorant : IsMajorant (powers exponents n) f
