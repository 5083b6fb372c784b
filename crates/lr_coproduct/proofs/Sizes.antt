-- The sizes of the partitions in a list in the printed order (the order in which terms are printed): they are weakly decreasing.
use Rattle.std.proofs.Common.{◌≡◌, ℕ, zero, suc, ◌==◌, ◌*◌, ◌+◌, ◌<◌, ◌≤◌, ◌⊎◌, min, Bool, true, false, cond, List, [], ◌∷◌, length, get_or, sym, ap, ◌∙◌, subst, inl, inr, arith}
use Rattle.std.specs.Prelude.{nat_lt}
use Rattle.std.specs.List.Sorted.{IsPartitionedBy, IsPartitionPoint}
use Rattle.std.specs.Ordering.{ordering_then}
use Rattle.std.specs.declared.cmp.Ordering.TheVariants.{Less, Equal, Greater}
use Rattle.std.proofs.lemmas.Bool.{cases_lt, lt-ltb, ltb-true, ltb-false, le-ltb, ne_eqb}
use Rattle.std.proofs.lemmas.List.{get_or_default}
use Rattle.sym_model.specs.Partition.{size}
use Rattle.sym_model.specs.PrintedOrder.{printed_order, falling_lexicographic}
use Rattle.lr_coproduct.specs.InnerShapeList.{IsInPrintedOrder, IsAt, IsCountAbove}
use Rattle.lr_coproduct.proofs.Lookups.{member_at}

printed_size : (x y : List ℕ) → printed_order x y ≡ Less → size y ≤ size x
printed_size x y h = by (cases_lt (size x) (size y))
  where
    by : (size x < size y) ⊎ (size y ≤ size x) → size y ≤ size x
    by (inr l) = l
    by (inl l) =
        let greater : printed_order x y ≡ Greater =
        ap (λ (b : Bool). ordering_then (cond b Less (cond (size y == size x) Equal Greater)) (falling_lexicographic x y)) (le-ltb (size y) (size x) (omega arith))
        ∙ ap (λ (b : Bool). ordering_then (cond b Equal Greater) (falling_lexicographic x y)) (ne_eqb (size y) (size x) (λ e. absurd (omega arith))) in
        cc

sizes_fall : (xs : List (List ℕ)) → IsInPrintedOrder xs → (i j : ℕ) (d : List ℕ) → i ≤ j → j < length xs → size (get_or xs j d) ≤ size (get_or xs i d)
sizes_fall [] h i j d l k = absurd (omega arith)
sizes_fall (x ∷ xs) h zero zero d l k = omega arith
sizes_fall (x ∷ xs) h zero (suc j) d l k = printed_size x (get_or xs j d) (h.0 (get_or xs j d) (member_at xs j d (omega arith)))
sizes_fall (x ∷ xs) h (suc i) zero d l k = absurd (omega arith)
sizes_fall (x ∷ xs) h (suc i) (suc j) d l k = sizes_fall xs h.1 i j d (omega arith) (omega arith)

later_size : (xs : List (List ℕ)) (i j : ℕ) (x y : List ℕ) → IsInPrintedOrder xs → IsAt xs i x → IsAt xs j y → i ≤ j → size y ≤ size x
later_size xs i j x y h at_x at_y l =
    let s = sizes_fall xs h i j y l at_y.within in
    let a = ap size at_y.is in
    let b = ap size (at_x.is ∙ get_or_default xs i x y at_x.within) in
    omega arith

-- ---- the partitions with more than a given number of cells come first

pub parted : (xs : List (List ℕ)) (cells : ℕ) → IsInPrintedOrder xs → IsPartitionedBy (λ (x : List ℕ). nat_lt cells (size x)) xs
parted xs cells h i j d l k e =
    let s = sizes_fall xs h i j d l k in
    let b = ltb-true cells (size (get_or xs j d)) e in
    lt-ltb cells (size (get_or xs i d)) (omega arith)

pub counted_above : (xs : List (List ℕ)) (cells count : ℕ) → count ≤ length xs
    → IsPartitionPoint (λ (x : List ℕ). nat_lt cells (size x) ≡ true) (λ (x : List ℕ). nat_lt cells (size x) ≡ false) xs count → IsCountAbove xs cells count
counted_above xs cells count bound p = record {
  bound = bound;
  before = λ i x at l. ltb-true cells (size x) (subst (λ (y : List ℕ). nat_lt cells (size y) ≡ true) (sym at.is) (p.0 i x (omega arith) l));
  after = λ i x at l. ltb-false cells (size x) (subst (λ (y : List ℕ). nat_lt cells (size y) ≡ false) (sym at.is) (p.1 i x l at.within));
}

-- if inner is at the index m of a list in the printed order and 2·|inner| < cells, no partition x from the index m on has |inner| + |x| = cells
pub behind_small : (cells : ℕ) (xs : List (List ℕ)) (m : ℕ) (inner : List ℕ) → IsInPrintedOrder xs → IsAt xs m inner → 2 * size inner < cells
    → (i : ℕ) (x : List ℕ) → IsAt xs i x → m ≤ i → size inner + size x ≡ cells → ⊥
behind_small cells xs m inner h at small i x here l e = let s = later_size xs m i inner x h at here l in omega arith

-- let inner be at the index m of a list in the printed order, with 2·|inner| < cells: if the first `count` partitions are those with more than `less`
-- cells, and |inner| + less < cells, no partition x from the index min(count, m) on has |inner| + |x| = cells
pub behind_range : (cells : ℕ) (xs : List (List ℕ)) (m : ℕ) (inner : List ℕ) (less count at : ℕ) → IsInPrintedOrder xs → IsAt xs m inner → 2 * size inner < cells
    → IsCountAbove xs less count → size inner + less < cells → min count m ≤ at
    → (i : ℕ) (x : List ℕ) → IsAt xs i x → at ≤ i → size inner + size x ≡ cells → ⊥
behind_range cells xs m inner less count at h here small above l b i x there k e = by (cases_lt i count)
  where
    by : (i < count) ⊎ (count ≤ i) → ⊥
    by (inr q) = let s = above.after i x there q in omega arith
    by (inl q) = behind_small cells xs m inner h here small i x there (omega arith) e
