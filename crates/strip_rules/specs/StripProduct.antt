-- The products of a monomial symmetric polynomial with e_k = m_(1^k), and with h_k, the sum of all m_λ with λ of size k (Macdonald, I.2).
use Rattle.std.specs.Prelude.{ℕ, List, length, replicate, filter}
use Rattle.sym_model.specs.Polynomial.{same}
use Rattle.sym_model.specs.Partition.{sorted_parts}
use Rattle.monomial_laws.specs.MonomialProduct.{splits}

-- (1^k): a column of k cells
abbrev pub column : ℕ → List ℕ
column k = replicate k 1

-- the number of ways to give each part of ν a part of μ or 0, at most as great as the part of ν, such that each part of μ is used once
abbrev pub placings : List ℕ → List ℕ → ℕ
placings μ ν = length (filter (λ (s : List ℕ × List ℕ). same (sorted_parts s.0) μ) (splits ν))
