-- Lists of terms that are q times a given polynomial if each label is read as the product of the polynomials P_k over its parts k (`Stands`). A table
-- is a list of terms in which each label occurs only once and no coefficient is 0.
--     `stands-itself`, `stands-number`    a table with one term
--     `parts-none`, `parts-next`          the list for a product of factors: without any factor, and after one more factor is multiplied
--     `parts-large`                       if multiplying by one more factor overflows, then d!·(2d)^d is 2^127 or more; here d is the degree of the
--                                         product
use Rattle.std.proofs.Common.{◌≡◌, ℕ, ◌+◌, ◌*◌, ◌^◌, ◌<◌, ◌≤◌, List, [], ◌∷◌, sym, ap, subst, inl, inr, arith, ℤ, pos, ◌*ℤ◌}
use Rattle.std.specs.Prelude.{nat_abs}
use Rattle.sym_model.specs.Polynomial.{Poly, Same, In, one, pair, scale, times}
use Rattle.sym_model.specs.Partition.{IsPartition, columns, size}
use Rattle.sym_model.specs.Bases.{product_over}
use Rattle.sym_model.specs.Weight.{factorial}
use Rattle.sym_model.specs.WholeTerms.{WholeTerms, absolute_total}
use Rattle.linear_combinations.specs.Gains.{HaveLabels, Gains, Overflows}
use Rattle.linear_combinations.proofs.Found.{gains_same}
use Rattle.sparse_polys.specs.Tables.{equal, IsWholeTable}
use Rattle.basis_change_laws.specs.JoinedLists.{joined, IsLow, Stands}
use Rattle.sym_model.proofs.PolynomialLaws.{times-one}
use Rattle.basis_change_laws.proofs.JoinedLists.{stands-product, stands-same, stands-weaken}
use Rattle.basis_change_laws.proofs.GrowthBounds.{grown, grown-joined}
use Rattle.family_lists.proofs.RowSteps.{large-products}
use Rattle.family_lists.proofs.TableLists.{table-stands}
use native.Mathlib.Nat.{mul-le-mul_left, mul-le-mul_right}
use lib.IntN.{+ℤ_idr}
use Rattle.std.proofs.Math.Nat.{mul_assoc}

pub one_label : (P : List ℕ → Type 0) (label : List ℕ) (c : ℤ) → P label → HaveLabels P ((label, c) ∷ [])
one_label P label c here t (inl e) = subst (λ (u : List ℕ × ℤ). P u.0) (sym e) here
one_label P label c here t (inr m) = absurd m

pub parts-none : (P F : ℕ → ℕ → Poly) (terms : WholeTerms) → IsWholeTable terms → Same terms (([], pos 1) ∷ []) → Stands P 1 1 0 (product_over F []) terms
parts-none P F terms is h =
    table-stands terms (([], pos 1) ∷ []) is h P 1 1 0 (product_over F [])
    (record {
      value = λ n φ. +ℤ_idr (pos 1 *ℤ pair (one n) φ);
      few = omega arith;
      labels = one_label (IsLow 0) [] (pos 1) (record { partition = record { falls = tt; positive = tt }; low = omega arith });
    })

pub columns-tail : (k : ℕ) (rest : List ℕ) → IsPartition (k ∷ rest) → columns rest ≤ k
columns-tail k [] p = omega arith
columns-tail k (b ∷ rest) p = p.falls.0

pub parts-next : (P F : ℕ → ℕ → Poly) → ((n k : ℕ) → In n (P k n)) → (k c o : ℕ) (rest : List ℕ) (W V terms : WholeTerms) → c * (o * factorial (size rest)) ≡ factorial (k + size rest)
    → Stands P o (o * 2 ^ k) k (λ n. F k n) W → Stands P (factorial (size rest)) (grown (size rest)) (size rest) (product_over F rest) V
    → IsWholeTable terms → Gains [] (joined (scale (pos c) W) V) terms
    → Stands P (factorial (k + size rest)) (grown (k + size rest)) (k + size rest) (product_over F (k ∷ rest)) terms
parts-next P F places k c o rest W V terms e w v is h =
    table-stands terms (joined (scale (pos c) W) V) is (gains_same [] (joined (scale (pos c) W) V) terms h) P (factorial (k + size rest)) (grown (k + size rest)) (k + size rest) (product_over F (k ∷ rest))
    (stands-product P places o (o * 2 ^ k) k (factorial (size rest)) (grown (size rest)) (size rest) (factorial (k + size rest)) (grown (k + size rest)) c
    (λ n. F k n) (product_over F rest) W V w v e (grown-joined k (size rest) c o e))

pub parts-large : (P F : ℕ → ℕ → Poly) (k c o : ℕ) (rest : List ℕ) (W V : WholeTerms) (z : ℤ) → z ≡ pos c → c * (o * factorial (size rest)) ≡ factorial (k + size rest)
    → Stands P o (o * 2 ^ k) k (λ n. F k n) W → Stands P (factorial (size rest)) (grown (size rest)) (size rest) (product_over F rest) V
    → Overflows equal [] (joined (scale z W) V) → 2 ^ 127 ≤ grown (k + size rest)
parts-large P F k c o rest W V z zi e w v large =
    let l = large-products [] z W V (grown (size rest)) large v.few in
    let b = grown-joined k (size rest) c o e in
    let u = ap nat_abs zi in
    let t = mul-le-mul_left c w.few in
    let r = mul-le-mul_right (grown (size rest)) t in
    let n : nat_abs z * absolute_total W * grown (size rest) ≡ c * absolute_total W * grown (size rest) = ap (λ p. p * absolute_total W * grown (size rest)) u in
    let g = mul_assoc c (o * 2 ^ k) (grown (size rest)) in
    omega arith

-- a table with the one term q at the label `parts` is q times the product of the polynomials P over these parts
pub stands-itself : (P : ℕ → ℕ → Poly) (parts : List ℕ) (q A : ℕ) (terms : WholeTerms) → IsPartition parts → q ≤ A → IsWholeTable terms → Same terms ((parts, pos q) ∷ [])
    → Stands P q A (size parts) (product_over P parts) terms
stands-itself P parts q A terms p few is h =
    table-stands terms ((parts, pos q) ∷ []) is h P q A (size parts) (product_over P parts)
    (record {
      value = λ n φ. +ℤ_idr (pos q *ℤ pair (product_over P parts n) φ);
      few = omega arith;
      labels = one_label (IsLow (size parts)) parts (pos q) (record { partition = p; low = omega arith });
    })

-- a table with the one term q at the label (k) is q times the polynomial P_k
pub stands-number : (P : ℕ → ℕ → Poly) → ((n k : ℕ) → In n (P k n)) → (k q A : ℕ) (terms : WholeTerms)
    → 0 < k → q ≤ A → IsWholeTable terms → Same terms ((k ∷ [], pos q) ∷ [])
    → Stands P q A k (λ n. P k n) terms
stands-number P places k q A terms h few is s =
    stands-same P q A k (λ n. times (P k n) (one n)) (λ n. P k n) terms
    (λ n. times-one n (P k n) (places n k))
    (stands-weaken P q A A (k + 0) k (λ n. times (P k n) (one n)) terms
    (stands-itself P (k ∷ []) q A terms (record { falls = tt; positive = (h, tt) }) few is s)
    (omega arith) (omega arith))
