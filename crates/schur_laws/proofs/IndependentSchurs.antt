-- The Schur polynomials of partitions with at most k rows are linearly independent in k variables, and so are their
-- products in two sets of variables.
use Rattle.std.proofs.Common.{◌≡◌, ℕ, zero, suc, Bool, true, false, ◌&&◌, cond, List, [], ◌∷◌, ◌++◌, length, take}
use Rattle.std.proofs.Common.{drop, refl, sym, ap, ap₂, ◌∙◌, arith, ℤ, pos, ◌*ℤ◌}
use Rattle.std.proofs.lemmas.Int.{ints}
use lib.IntN.{*ℤ_comm}
use Rattle.sym_model.specs.Polynomial.{Poly, pair, same, join, times}
use Rattle.sym_model.specs.Alternant.{alternant, staircase, schur_coefficient}
use Rattle.sym_model.specs.Schur.{schur}
use Rattle.sym_model.specs.Expansion.{pair_polynomial}
use Rattle.sym_model.specs.WholeTerms.{same_pair}
use Rattle.sym_model.proofs.Polynomials.{at_only, coefficient_pair, pair_times, pair_exchange, pair_beside, pair_in}
use Rattle.sym_model.proofs.Polynomials.{pair_ext, pair_factor}
use Rattle.monomial_laws.proofs.SchurMajorants.{In-schur}
use Rattle.alternant_laws.proofs.CountedTerms.{schur_coefficient_of_schur}
use Rattle.independence_laws.specs.Independence.{AreIndependent, HasRows}
use Rattle.independence_laws.proofs.DualFunctions.{independent_by_duals}
use Rattle.schur_laws.specs.IndependentLabels.{HavePairRows}
use Rattle.std.proofs.lemmas.List.{take_at, drop_at}

-- the function on exponents that gives the Schur coefficient at ν
abbrev pub schur_dual : ℕ → List ℕ → List ℕ → ℤ
schur_dual k ν α = pair (alternant (staircase k)) (λ β. at_only (join ν (staircase k)) (join β α))

pub dual-schur_coefficient : (k : ℕ) (ν : List ℕ) (f : Poly) → schur_coefficient k ν f ≡ pair f (schur_dual k ν)
dual-schur_coefficient k ν f =
    coefficient_pair (times (alternant (staircase k)) f) (join ν (staircase k))
    ∙ pair_times (alternant (staircase k)) f (at_only (join ν (staircase k)))
    ∙ pair_exchange (alternant (staircase k)) f (λ β α. at_only (join ν (staircase k)) (join β α))

pub schur-dual : (k : ℕ) (parts ν : List ℕ) → HasRows k parts → HasRows k ν
    → pair (schur parts k) (schur_dual k ν) ≡ cond (same parts ν) (pos 1) (pos 0)
schur-dual k parts ν p q =
    sym (dual-schur_coefficient k ν (schur parts k)) ∙ schur_coefficient_of_schur k parts ν p.0 q.0 q.1

pub schurs-independent : (k : ℕ) → AreIndependent same (HasRows k) (λ parts. schur parts k)
schurs-independent k = independent_by_duals same (HasRows k) (λ parts. schur parts k) (schur_dual k) (schur-dual k)

-- ---- pairs

abbrev pub pair_dual : ℕ → ℕ → List ℕ × List ℕ → List ℕ → ℤ
pair_dual n k label γ = schur_dual n label.0 (take n γ) *ℤ schur_dual k label.1 (drop n γ)

both_tests : (a b : Bool) → cond b (pos 1) (pos 0) *ℤ cond a (pos 1) (pos 0) ≡ cond (a && b) (pos 1) (pos 0)
both_tests true b = omega (arith, ints)
both_tests false b = omega (arith, ints)

pub pair-dual : (n k : ℕ) (x label : List ℕ × List ℕ) → HavePairRows n k x → HavePairRows n k label
    → pair (pair_polynomial n k x) (pair_dual n k label) ≡ cond (same_pair x label) (pos 1) (pos 0)
pair-dual n k x label p q =
    pair_beside (schur x.0 n) (schur x.1 k) (pair_dual n k label)
    ∙ pair_in n (schur x.0 n) (λ α. pair (schur x.1 k) (λ β. pair_dual n k label (α ++ β))) (λ α. C *ℤ schur_dual n label.0 α) (In-schur x.0 n) inner
    ∙ pair_factor C (schur x.0 n) (schur_dual n label.0)
    ∙ ap₂ (λ a b. a *ℤ b) (schur-dual k x.1 label.1 p.1 q.1) (schur-dual n x.0 label.0 p.0 q.0)
    ∙ both_tests (same x.0 label.0) (same x.1 label.1)
  where
    C : ℤ
    C = pair (schur x.1 k) (schur_dual k label.1)

    inner : (α : List ℕ) → length α ≡ n
        → pair (schur x.1 k) (λ β. pair_dual n k label (α ++ β)) ≡ C *ℤ schur_dual n label.0 α
    inner α l =
        pair_ext (schur x.1 k) (λ β. pair_dual n k label (α ++ β)) (λ β. schur_dual n label.0 α *ℤ schur_dual k label.1 β)
        (λ β. ap₂ (λ a b. schur_dual n label.0 a *ℤ schur_dual k label.1 b) (take_at α β n l) (drop_at α β n l))
        ∙ pair_factor (schur_dual n label.0 α) (schur x.1 k) (schur_dual k label.1)
        ∙ *ℤ_comm (schur_dual n label.0 α) C

pub pairs-independent : (n k : ℕ) → AreIndependent same_pair (HavePairRows n k) (pair_polynomial n k)
pairs-independent n k =
    independent_by_duals same_pair (HavePairRows n k) (pair_polynomial n k) (pair_dual n k) (pair-dual n k)
