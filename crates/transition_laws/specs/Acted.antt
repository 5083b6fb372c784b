-- The sum of c·φ(α), for a function φ, over the terms c·x^α of the product of a monomial and a Schubert polynomial; and
-- the product of a monomial and a variable.
use Rattle.std.specs.Prelude.{ℕ, ℤ, pos, List, [], ◌∷◌}
use Rattle.sym_model.specs.DividedDifference.{raised}
use Rattle.sym_model.specs.Polynomial.{join, pair}
use Rattle.sym_model.specs.Schubert.{schubert_in}
use Rattle.sym_model.specs.WholeTerms.{WholeTerms}
use Rattle.sym_model.proofs.PolynomialLaws.{restricted_test}

-- the sum of c·φ(α) over the terms c·x^α of x^exponents·S_w in n variables
abbrev pub acted : ℕ → (List ℕ → ℤ) → List ℕ → List ℕ → ℤ
acted n φ w exponents =
    restricted_test n (λ α. pair (schubert_in w n) (λ β. φ (join α β))) exponents

-- `raised_terms r exponents`: the list whose only term is the monomial x_r·x^exponents
abbrev pub raised_terms : ℕ → List ℕ → WholeTerms
raised_terms r exponents = (raised r exponents, pos 1) ∷ []
