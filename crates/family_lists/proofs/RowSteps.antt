-- Products of two lists of terms: the product of two labels is the label that has the parts of both. Lemmas on such products, and on the case that
-- adding a multiple of such a product to a list overflows: at some label, |old coefficient| + Σ|added coefficients| is 2^127 or more.
use Rattle.std.proofs.Common.{◌≡◌, ℕ, zero, suc, ◌+◌, ◌*◌, ◌^◌, ◌≤◌, cond, List, [], ◌∷◌, ◌++◌, length, sym, ◌∙◌, ap, ap₂, refl, inl, arith, ℤ, pos, negsuc, ◌*ℤ◌}
use Rattle.std.specs.Prelude.{nat_abs}
use Rattle.std.proofs.lemmas.Int.{unsigned_abs-mul}
use Rattle.std.proofs.lemmas.Nat.{mul-le}
use Rattle.sym_model.specs.Partition.{IsPartition, size}
use Rattle.sym_model.specs.Polynomial.{scale}
use Rattle.sym_model.specs.WholeTerms.{WholeTerms, absolute_total}
use Rattle.sym_model.proofs.Ring.{product_assoc}
use Rattle.sym_model.proofs.SortedParts.{rows_within_size}
use Rattle.partitions.specs.Limits.{IsWithinLimits}
use Rattle.linear_combinations.specs.Gains.{Overflows, scaled, replaced}
use Rattle.linear_combinations.proofs.Masses.{overflow_mass}
use Rattle.sparse_polys.specs.Tables.{equal, IsWholeTable}
use Rattle.sparse_polys.proofs.WholeLists.{not_zero}
use Rattle.basis_change_laws.specs.JoinedLists.{merged, row, joined}
use Rattle.basis_change_laws.proofs.MergedParts.{IsPartition-merged, size-merged}
use Rattle.basis_change_laws.proofs.JoinedLists.{absolute-scale, absolute-joined}
use lib.IntN.{*ℤ_comm}
use Rattle.linear_combinations.proofs.LabelTests.{equal_from}

pub limits-merged : (left right : List ℕ) → IsPartition left → IsPartition right → size left + size right ≤ 512 → IsWithinLimits (merged left right)
limits-merged left right p q h =
    let m = IsPartition-merged left right q in
    let r = rows_within_size (merged left right) m.positive in
    let s = size-merged left right in
    record { partition = m; few = omega arith; small = omega arith }

-- ---- the product of a label and a list, and of two lists, as lists of terms

scaled-row : (k : List ℕ) (x c : ℤ) (V : WholeTerms) → scaled x (row k c V) ≡ row k (c *ℤ x) V
scaled-row k x c [] = refl
scaled-row k x c (t ∷ V) =
    ap₂ (λ (y : ℤ) (l : WholeTerms). (merged k t.0, y) ∷ l) (sym (product_assoc x c t.1) ∙ ap (λ y. y *ℤ t.1) (*ℤ_comm x c)) (scaled-row k x c V)

pub row-gained : (k : List ℕ) (x c : ℤ) (V : WholeTerms) → row k (x *ℤ c) V ≡ scaled x (row k c V)
row-gained k x c V = ap (λ z. row k z V) (*ℤ_comm x c) ∙ sym (scaled-row k x c V)

-- let V and W be lists of terms. If each label k of W is replaced by the product of V and the term with the label k and the coefficient c, then the
-- result is the product of c·W and V
pub products-gained : (c : ℤ) (W V : WholeTerms) → replaced (λ k. row k c V) W ≡ joined (scale c W) V
products-gained c [] V = refl
products-gained c (t ∷ W) V = ap₂ (λ (a b : WholeTerms). a ++ b) (scaled-row t.0 t.1 c V) (products-gained c W V)

-- let V be a list of terms that is not empty, and let |x·c| be at least 2^127. Multiply V by the term with the label k and the coefficient c, and
-- then by the number x. Adding the result to the list `old` overflows
pub large-row : (old : WholeTerms) (k : List ℕ) (x c : ℤ) (V : WholeTerms) → IsWholeTable V → (length V ≡ 0 → ⊥) → 2 ^ 127 ≤ nat_abs (x *ℤ c) → Overflows equal old (scaled x (row k c V))
large-row old k x c [] is some h = absurd (some refl)
large-row old k x c (t ∷ V) is some h =
    let label = merged k t.0 in
    let a = ap (λ b. cond b (nat_abs (x *ℤ (c *ℤ t.1))) 0) (equal_from label label refl) in
    let b = ap nat_abs (sym (product_assoc x c t.1)) ∙ unsigned_abs-mul (x *ℤ c) t.1 in
    let one : 1 ≤ nat_abs t.1 = positive (nat_abs t.1) (λ e. not_zero (t ∷ V) is t (inl refl) (none t.1 e)) in
    let m : nat_abs (x *ℤ c) * 1 ≤ nat_abs (x *ℤ c) * nat_abs t.1 = mul-le (nat_abs (x *ℤ c)) 1 (nat_abs (x *ℤ c)) (nat_abs t.1) (omega arith) one in
    (label, omega arith)
  where
    none : (z : ℤ) → nat_abs z ≡ 0 → z ≡ pos 0
    none (pos n) e = ap pos e
    none (negsuc n) e = absurd (omega arith)

    positive : (n : ℕ) → (n ≡ 0 → ⊥) → 1 ≤ n
    positive zero h = absurd (h refl)
    positive (suc n) h = omega arith

pub large-products : (old : WholeTerms) (c : ℤ) (W V : WholeTerms) (m : ℕ) → Overflows equal old (joined (scale c W) V) → absolute_total V ≤ m
    → 2 ^ 127 ≤ absolute_total old + nat_abs c * absolute_total W * m
large-products old c W V m large few =
    let a = overflow_mass equal old (joined (scale c W) V) large in
    let b = absolute-joined (scale c W) V in
    let d = absolute-scale c W in
    let f : absolute_total (scale c W) * absolute_total V ≤ nat_abs c * absolute_total W * m =
    mul-le (absolute_total (scale c W)) (absolute_total V) (nat_abs c * absolute_total W) m (omega arith) few in
    omega arith
