-- Polynomials in variables x and y with the two alphabets exchanged.
use Rattle.std.specs.Prelude.{ℕ, ◌++◌, map, take, drop}
use Rattle.sym_model.specs.Polynomial.{Term, Poly}

-- the polynomial f(y_1, .., y_m; x_1, .., x_m), for f in m variables x and m variables y
abbrev pub exchange_alphabets : ℕ → Poly → Poly
exchange_alphabets m f = map (λ (t : Term). (drop m t.0 ++ take m t.0, t.1)) f
