-- The count `product_count` of good tableaux, which is the coefficient of a partition in the product of two Schur polynomials, does not change if the
-- two factors are exchanged.
use Rattle.std.proofs.Common.{◌≡◌, ℕ, ◌≤◌, List, sym, ◌∙◌, arith, pos, rules}
use Rattle.std.proofs.lemmas.Int.{ints}
use Rattle.sym_model.specs.Partition.{IsPartition, rows}
use Rattle.sym_model.specs.Polynomial.{join, times}
use Rattle.sym_model.specs.Schur.{schur}
use Rattle.sym_model.specs.GoodTableau.{product_count}
use Rattle.sym_model.specs.Alternant.{alternant, staircase}
use Rattle.sym_model.specs.WholeTerms.{WholeTerms}
use Rattle.sym_model.proofs.Polynomials.{Same_refl, times_respects}
use Rattle.sym_model.proofs.PolynomialLaws.{times_comm}
use Rattle.alternant_laws.proofs.CountedTerms.{product_coefficients}
use Rattle.lr_product.specs.Counts.{HasCounts, IsPastSomewhere}

pub exchanged : (n : ℕ) (λ' μ ν : List ℕ) → IsPartition λ' → IsPartition μ → IsPartition ν → rows ν ≤ n → product_count n λ' μ ν ≡ product_count n μ λ' ν
exchanged n λ' μ ν p q r few =
    let e : pos (product_count n λ' μ ν) ≡ pos (product_count n μ λ' ν) =
    sym (product_coefficients n λ' μ ν p q r few)
    ∙ times_respects (alternant (staircase n)) (alternant (staircase n)) (times (schur λ' n) (schur μ n)) (times (schur μ n) (schur λ' n))
    (Same_refl (alternant (staircase n))) (times_comm (schur λ' n) (schur μ n)) (join ν (staircase n))
    ∙ product_coefficients n μ λ' ν q p r few in
    omega (arith, ints)

pub counts_exchanged : (n : ℕ) (λ' μ : List ℕ) (terms : WholeTerms) → IsPartition λ' → IsPartition μ → HasCounts n (product_count n λ' μ) terms → HasCounts n (product_count n μ λ') terms
counts_exchanged n λ' μ terms p q h = search (rules, exchanged)

pub past_exchanged : (n : ℕ) (λ' μ : List ℕ) → IsPartition λ' → IsPartition μ → IsPastSomewhere n (product_count n λ' μ) → IsPastSomewhere n (product_count n μ λ')
past_exchanged n λ' μ p q h = search (rules, exchanged)
