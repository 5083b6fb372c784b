-- Partitions whose product has the same coefficient as another.
use Rattle.std.proofs.Common.{◌≡◌, ◌+◌, ◌≤◌, ℕ, List, sym, ◌∙◌, ap, subst, arith, ℤ, pos, Result, Ok, Err}
use Rattle.std.specs.Prelude.{OnOk}
use Rattle.sym_model.specs.Partition.{IsPartition, rows, columns}
use Rattle.sym_model.specs.GoodTableau.{product_count}
use Rattle.sym_model.specs.PastLimit.{HasPast}
use Rattle.sym_model.specs.Products.{IsProductCoefficientOf}
use Rattle.alternant_laws.proofs.CountedTerms.{product_coefficients, product_counts_stable, coef_meets}
use Rattle.product_laws.proofs.Straightened.{IsShape}
use Rattle.complement_laws.specs.Complement.{complement}
use Rattle.complement_laws.proofs.Complements.{product-complement}
use Rattle.complement_laws.proofs.Flipped.{shape-complement}
use Rattle.lr_coefficient.specs.SameCoefficient.{HasSameCoefficient}

pub same-complements : (k n m : ℕ) (outer left right : List ℕ) → IsPartition outer → IsPartition left → IsPartition right
    → rows outer ≤ k → rows left ≤ k → rows right ≤ k → columns left ≤ n → columns right ≤ m → columns outer ≤ n + m
    → HasSameCoefficient k outer left right (complement k (n + m) outer) (complement k n left) (complement k m right)
same-complements k n m outer left right p q r f g h a b d =
    let o : IsShape k outer = record { partition = p; few = f } in
    let l : IsShape k left = record { partition = q; few = g } in
    let s : IsShape k right = record { partition = r; few = h } in
    let c = shape-complement k (n + m) outer o in
    record {
      partitions = (p, q, r);
      outer_partition = c.partition;
      left_partition = (shape-complement k n left l).partition;
      right_partition = (shape-complement k m right s).partition;
      few = c.few;
      count = product-complement k n m left right outer l s o a b d;
    }

pub same-twice : (k : ℕ) (outer left right o l r p s t : List ℕ) → HasSameCoefficient k outer left right o l r → HasSameCoefficient k o l r p s t
    → HasSameCoefficient k outer left right p s t
same-twice k outer left right o l r p s t a b =
    record {
      partitions = a.partitions;
      outer_partition = b.outer_partition;
      left_partition = b.left_partition;
      right_partition = b.right_partition;
      few = b.few;
      count = b.count ∙ a.count;
    }

-- the coefficient, in as many variables as the other partition has rows
pub same_count : (outer left right o l r : List ℕ) → HasSameCoefficient (rows outer) outer left right o l r
    → product_count (rows o) l r o ≡ product_count (rows outer) left right outer
same_count outer left right o l r h =
    sym (product_counts_stable (rows o) (rows outer) l r o h.few h.left_partition h.right_partition h.outer_partition (omega arith)) ∙ h.count

-- an integer is one coefficient if and only if it is the other
pub same_meets : (outer left right o l r : List ℕ) (c : ℤ) → HasSameCoefficient (rows outer) outer left right o l r
    → IsProductCoefficientOf o l r c → IsProductCoefficientOf outer left right c
same_meets outer left right o l r c h e =
    coef_meets outer left right c h.partitions.0 h.partitions.1 h.partitions.2
    (e ∙ product_coefficients (rows o) l r o h.left_partition h.right_partition h.outer_partition (omega arith) ∙ ap pos (same_count outer left right o l r h))

meets_same : (outer left right o l r : List ℕ) (c : ℤ) → HasSameCoefficient (rows outer) outer left right o l r
    → IsProductCoefficientOf outer left right c → IsProductCoefficientOf o l r c
meets_same outer left right o l r c h e =
    coef_meets o l r c h.outer_partition h.left_partition h.right_partition
    (e ∙ product_coefficients (rows outer) left right outer h.partitions.1 h.partitions.2 h.partitions.0 (omega arith) ∙ sym (ap pos (same_count outer left right o l r h)))

pub same_past : (outer left right o l r : List ℕ) → HasSameCoefficient (rows outer) outer left right o l r
    → HasPast (IsProductCoefficientOf o l r) → HasPast (IsProductCoefficientOf outer left right)
same_past outer left right o l r h e = (e.0, same_meets outer left right o l r e.0 h e.1, e.2)

pub past_same : (outer left right o l r : List ℕ) → HasSameCoefficient (rows outer) outer left right o l r
    → HasPast (IsProductCoefficientOf outer left right) → HasPast (IsProductCoefficientOf o l r)
past_same outer left right o l r h e = (e.0, meets_same outer left right o l r e.0 h e.1, e.2)

-- three partitions that are equal to the complements
pub same_made : (k n m width : ℕ) (outer left right o l r : List ℕ) → IsPartition outer → IsPartition left → IsPartition right
    → rows outer ≤ k → rows left ≤ k → rows right ≤ k → columns left ≡ n → columns right ≡ m → width ≡ n + m → columns outer ≤ width
    → o ≡ complement k width outer → l ≡ complement k n left → r ≡ complement k m right
    → HasSameCoefficient k outer left right o l r
same_made k n m width outer left right o l r p q s f g h a b w d x y z =
    let c = same-complements k n m outer left right p q s f g h (omega arith) (omega arith) (omega arith) in
    let e = x ∙ ap (λ i. complement k i outer) w in
    subst (λ v. HasSameCoefficient k outer left right v l r) (sym e)
    (subst (λ v. HasSameCoefficient k outer left right (complement k (n + m) outer) v r) (sym y)
    (subst (λ v. HasSameCoefficient k outer left right (complement k (n + m) outer) (complement k n left) v) (sym z) c))

-- ---- results

pub on_ok : {T E : Type 0} {P Q : Type 0} (r : Result T E) → OnOk r P → (P → Q) → OnOk r Q
on_ok (Ok x) h f = f h
on_ok (Err e) h f = tt
