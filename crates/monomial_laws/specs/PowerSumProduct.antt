-- The product of a power sum p_a and a monomial symmetric polynomial m_λ: its partitions and their coefficients (after Macdonald, I.6).
use Rattle.std.specs.Prelude.{ℕ, ◌+◌, pos, List, ◌∷◌, map}
use Rattle.sym_model.specs.RaisedPart.{raise, distinct}
use Rattle.sym_model.specs.Schur.{times_in}
use Rattle.sym_model.specs.WholeTerms.{WholeTerms}

-- p_a·m_λ in the monomial basis: for each different part b of λ, and for b = 0, the partition μ in which one b of λ is replaced by a + b; its
-- coefficient is the multiplicity of a + b in μ
abbrev pub raised_terms : ℕ → List ℕ → WholeTerms
raised_terms a parts =
    map (λ (b : ℕ). (raise a b parts, pos (times_in (a + b) (raise a b parts))))
    (distinct (0 ∷ parts))
