-- The product of m_μ and e_k or h_k as a list of partitions, each listed once, with its coefficient in the product.
--     coefficient-shapes     the coefficients of this list, if it has all partitions whose coefficient is not 0
--     column-shapes          m_μ·e_k, over the ν for which ν/μ is a vertical strip
--     row-shapes             m_μ·h_k, over the partitions that contain μ
use Rattle.std.proofs.Common.{◌≡◌, ℕ, ◌+◌, ◌<◌, List, map, pos, rules}
use Rattle.std.specs.Prelude.{◌↔◌}
use Rattle.std.proofs.lemmas.Bool.{cases_lt}
use Rattle.sym_model.specs.Sum.{Among, Once}
use Rattle.sym_model.specs.Polynomial.{coefficient}
use Rattle.sym_model.specs.Partition.{IsPartition, Holds, size}
use Rattle.sym_model.specs.Strip.{IsVerticalStrip}
use Rattle.sym_model.proofs.Sums.{total_map, total_none, total_only}
use Rattle.sym_model.proofs.Exponents.{same_from, same_apart, among_or_not}
use Rattle.monomial_laws.specs.MonomialProduct.{arrangements}
use Rattle.strip_rules.specs.StripProduct.{column, placings}
use Rattle.strip_rules.proofs.ColumnArrangements.{column-strips}
use Rattle.strip_rules.proofs.Placings.{placings-hold}

coefficient-shapes : (count : List ℕ → ℕ) (shapes : List (List ℕ)) (ν : List ℕ) → Once shapes
    → (0 < count ν → Among ν shapes)
    → coefficient (map (λ ρ. (ρ, pos (count ρ))) shapes) ν ≡ pos (count ν)
coefficient-shapes count shapes ν once all = search (rules, total_map, among_or_not, total_only, same_apart, same_from, total_none, cases_lt)

pub column-shapes : (k : ℕ) (μ : List ℕ) (shapes : List (List ℕ)) → IsPartition μ → Once shapes
    → ((ν : List ℕ)
    → Among ν shapes ↔ (IsPartition ν × (size ν ≡ size μ + k) × IsVerticalStrip ν μ))
    → (ν : List ℕ) → IsPartition ν
    → coefficient (map (λ ρ. (ρ, pos (arrangements μ (column k) ρ))) shapes) ν
    ≡ pos (arrangements μ (column k) ν)
column-shapes k μ shapes p once members ν q =
    coefficient-shapes (λ ρ. arrangements μ (column k) ρ) shapes ν once
    (λ l. let s = column-strips k μ ν p q l in (members ν).1 (q, s.1, s.0))

pub row-shapes : (k : ℕ) (μ : List ℕ) (shapes : List (List ℕ)) → IsPartition μ → Once shapes
    → ((ν : List ℕ) → Among ν shapes ↔ (IsPartition ν × (size ν ≡ size μ + k) × Holds ν μ))
    → (ν : List ℕ) → IsPartition ν → size ν ≡ size μ + k
    → coefficient (map (λ ρ. (ρ, pos (placings μ ρ))) shapes) ν ≡ pos (placings μ ν)
row-shapes k μ shapes p once members ν q e =
    coefficient-shapes (λ ρ. placings μ ρ) shapes ν once
    (λ l. (members ν).1 (q, e, placings-hold μ ν p q l))
