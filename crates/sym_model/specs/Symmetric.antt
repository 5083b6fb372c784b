-- Symmetric polynomials (Macdonald, I.2).
use Rattle.std.specs.Prelude.{◌≡◌, ℕ, List, ◌∷◌, ◌++◌}
use Rattle.sym_model.specs.Polynomial.{Poly, coefficient}

-- the polynomial f is symmetric: exchanging two neighbouring exponents changes no coefficient
abbrev pub Symmetric : Poly → Type 0
Symmetric f =
    (left : List ℕ) (a b : ℕ) (right : List ℕ)
    → coefficient f (left ++ (a ∷ b ∷ right)) ≡ coefficient f (left ++ (b ∷ a ∷ right))
