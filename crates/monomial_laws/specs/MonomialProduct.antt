-- The product of two monomial symmetric polynomials: the coefficient of each partition (Macdonald, I.2).
use Rattle.std.specs.Prelude.{ℕ, ◌-◌, ◌&&◌, ℤ, ◌*ℤ◌, List, [], ◌∷◌, map, length, filter, flat_map}
use Rattle.sym_model.specs.Sum.{total}
use Rattle.sym_model.specs.Polynomial.{same, coefficient}
use Rattle.sym_model.specs.Partition.{sorted_parts}
use Rattle.sym_model.specs.Bases.{down_from}
use Rattle.sym_model.specs.WholeTerms.{WholeTerms}

-- all pairs (β, γ) of lists of the length of ν with β + γ = ν, place by place
abbrev pub splits : List ℕ → List (List ℕ × List ℕ)
splits [] = ([], []) ∷ []
splits (c ∷ ν) =
    flat_map (λ (b : ℕ). map (λ (s : List ℕ × List ℕ). (b ∷ s.0, (c - b) ∷ s.1)) (splits ν))
    (down_from c)

-- for the partitions λ = `left` and μ = `right`, the number of ways to write ν as β + γ, place by place, with β the parts of λ and zeros in some
-- order, and γ the parts of μ and zeros in some order: the coefficient of m_ν in m_λ·m_μ
abbrev pub arrangements : List ℕ → List ℕ → List ℕ → ℕ
arrangements left right ν =
    length (filter (λ (s : List ℕ × List ℕ). same (sorted_parts s.0) left
    && same (sorted_parts s.1) right) (splits ν))

-- the coefficient of m_ν in the product of the lists `left` and `right` in m: the sum, over all pairs (β, γ) of lists with β + γ = ν, of the
-- coefficient of `left` at the sorted β times that of `right` at the sorted γ
abbrev pub product_coefficient : WholeTerms → WholeTerms → List ℕ → ℤ
product_coefficient left right ν =
    total (λ (s : List ℕ × List ℕ). coefficient left (sorted_parts s.0)
    *ℤ coefficient right (sorted_parts s.1)) (splits ν)
