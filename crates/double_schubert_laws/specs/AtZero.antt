-- Polynomials in variables x and y at x = 0.
use Rattle.std.specs.Prelude.{ℕ, map, filter, take, drop}
use Rattle.sym_model.specs.Polynomial.{Term, Poly, all_zero}

-- the polynomial f in m variables x, followed by variables y, with each x_i set to 0; the result is in the variables y
abbrev pub at_x_zero : ℕ → Poly → Poly
at_x_zero m f =
    map (λ (t : Term). (drop m t.0, t.1)) (filter (λ (t : Term). all_zero (take m t.0)) f)
