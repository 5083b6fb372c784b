-- The lists of p_1, p_2 and so on in one of the bases e, h and p, which is given as a `Family`: the lists that `power_sums` returns, without the one
-- at index 0.
use Rattle.std.proofs.Common.{◌≡◌, ℕ, suc, ◌+◌, ◌-◌, ◌^◌, ◌<◌, List, [], ◌∷◌, length, ◌∙◌, ap, subst, arith, rules}
use Rattle.std.specs.Prelude.{drop}
use Rattle.sym_model.specs.Polynomial.{pair}
use Rattle.sym_model.specs.Bases.{power_sum_of}
use Rattle.sym_model.specs.WholeTerms.{WholeTerms}
use Rattle.basis_change_laws.specs.JoinedLists.{Stands}
use Rattle.sparse_polys.specs.declared.family.Family.{Family}
use Rattle.sparse_polys.specs.Families.{polynomial_of}
use Rattle.family_lists.specs.FactorLists.{list_at, ArePowers}
use Rattle.basis_change.specs.AugmentedProducts.{IsSmall, AreSmall}
use Rattle.basis_change.specs.Factors.{IsPowerSum, ArePowerSums}
use Rattle.sym_model.proofs.Ring.{one-product}

small : (family : Family) (k : ℕ) (terms : WholeTerms) → Stands (polynomial_of family) 1 (2 ^ k - 1) k (λ n. power_sum_of k n) terms → IsSmall k terms
small family k terms s = search rules

value : (family : Family) (k : ℕ) (terms : WholeTerms) → Stands (polynomial_of family) 1 (2 ^ k - 1) k (λ n. power_sum_of k n) terms → IsPowerSum family k terms
value family k terms s n φ = s.value n φ ∙ one-product (pair (power_sum_of k n) φ)

behind : (family : Family) (d : ℕ) (m : WholeTerms) (lists : List WholeTerms) → length lists ≡ d → ArePowers (polynomial_of family) (d + 1) (m ∷ lists)
    → (i : ℕ) → i < length lists → Stands (polynomial_of family) 1 (2 ^ (i + 1) - 1) (i + 1) (λ n. power_sum_of (i + 1) n) (list_at lists i)
behind family d m lists l are i h =
    let e : i + 1 ≡ suc i = omega arith in
    subst (λ (x : WholeTerms). Stands (polynomial_of family) 1 (2 ^ (i + 1) - 1) (i + 1) (λ n. power_sum_of (i + 1) n) x) (ap (list_at (m ∷ lists)) e)
    (are (i + 1) (omega arith) (omega arith))

pub behind-first : (lists : List WholeTerms) (d : ℕ) → length lists ≡ d + 1 → length (drop 1 lists) ≡ d
behind-first [] d h = absurd (omega arith)
behind-first (m ∷ lists) d h = omega arith

pub are-small : (family : Family) (d : ℕ) (lists : List WholeTerms) → length lists ≡ d + 1 → ArePowers (polynomial_of family) (d + 1) lists → AreSmall (drop 1 lists)
are-small family d [] l are i h = absurd (omega arith)
are-small family d (m ∷ lists) l are i h = small family (i + 1) (list_at lists i) (behind family d m lists (omega arith) are i h)

pub are-power_sums : (family : Family) (d : ℕ) (lists : List WholeTerms) → length lists ≡ d + 1 → ArePowers (polynomial_of family) (d + 1) lists → ArePowerSums family (drop 1 lists)
are-power_sums family d [] l are i h = absurd (omega arith)
are-power_sums family d (m ∷ lists) l are i h = value family (i + 1) (list_at lists i) (behind family d m lists (omega arith) are i h)
