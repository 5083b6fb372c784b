-- The expansions of p_k, k!·e_k and k!·h_k in a target basis e, h or p, as lists of terms (specs/FactorLists).
--     factor-loose                    the absolute values of the coefficients add up to at most 2^k for p_k, k!·2^k for k!·e_k and k!·h_k
--     own-stands                      the expansion of a multiple of e_k, h_k or p_k in its own basis has one term
--     factorial-below                 d! is below 2^127 if d is at most 20
use Rattle.std.proofs.Common.{◌≡◌, ℕ, ◌-◌, ◌*◌, ◌<◌, ◌≤◌, ◌^◌, [], ◌∷◌, arith, pos, pow-suc, zero, suc, lit<}
use Rattle.sym_model.specs.Polynomial.{Poly, Same}
use Rattle.sym_model.specs.Weight.{factorial}
use Rattle.sym_model.specs.WholeTerms.{WholeTerms}
use Rattle.sym_model.proofs.Numbers.{power-positive, times-more}
use Rattle.monomial_laws.proofs.Growths.{factorial-mono}
use Rattle.basis_change_laws.specs.JoinedLists.{Stands}
use Rattle.basis_change_laws.proofs.JoinedLists.{stands-weaken}
use Rattle.sparse_polys.specs.Tables.{IsWholeTable}
use Rattle.sparse_polys.specs.declared.family.Family.{Family}
use Rattle.sparse_polys.specs.declared.family.Family.TheVariants.{Elementary, Complete, PowerSum}
use Rattle.sparse_polys.specs.Families.{polynomial_of}
use Rattle.sparse_polys.proofs.Families.{In-family}
use Rattle.family_lists.specs.FactorLists.{IsFactor, most_in, over_number}
use Rattle.family_lists.proofs.PartLists.{stands-number}

pub factorial-below : (n d : ℕ) → n ≡ factorial d → d ≤ 20 → n < 2 ^ 127
factorial-below n d e h =
    let m = factorial-mono d 20 h in
    let top : factorial 20 < 2 ^ 127 = lit< tt in
    omega arith

loose : (family : Family) (k : ℕ) → most_in family k ≤ over_number family k * 2 ^ k
loose Elementary k = omega arith
loose Complete k = omega arith
loose PowerSum k = omega arith

pub factor-loose : (P : ℕ → ℕ → Poly) (family : Family) (k : ℕ) (terms : WholeTerms)
    → IsFactor P family k terms
    → Stands P (over_number family k) (over_number family k * 2 ^ k) k
    (λ n. polynomial_of family k n) terms
factor-loose P family k terms h =
    stands-weaken P (over_number family k) (most_in family k) (over_number family k * 2 ^ k) k k
    (λ n. polynomial_of family k n) terms h (loose family k) (omega arith)

own-few : (family : Family) (k : ℕ) → 0 < k → over_number family k ≤ most_in family k
own-few Elementary k h = times-more (factorial k) (2 ^ k) (power-positive 2 k (omega arith))
own-few Complete k h = times-more (factorial k) (2 ^ k) (power-positive 2 k (omega arith))
own-few PowerSum k h = by k h
  where
    by : (k : ℕ) → 0 < k → 1 ≤ 2 ^ k - 1
    by zero h = absurd (omega arith)
    by (suc k) h =
        let p = power-positive 2 k (omega arith) in
        let e = pow-suc 2 k in
        omega arith

pub own-stands : (family : Family) (k : ℕ) (terms : WholeTerms) → 0 < k → IsWholeTable terms
    → Same terms ((k ∷ [], pos (over_number family k)) ∷ [])
    → IsFactor (polynomial_of family) family k terms
own-stands family k terms h is s =
    stands-number (polynomial_of family) (In-family family) k (over_number family k)
    (most_in family k) terms h (own-few family k h) is s
