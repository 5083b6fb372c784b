-- The printed order of partitions (greater sizes first, then decreasing lexicographic order), computed by comparing sizes and lists of parts.
use Rattle.std.proofs.Common.{◌≡◌, ℕ, ◌<◌, List, [], ◌∷◌, refl, sym, ap}
use Rattle.std.specs.Ordering.{nat_cmp, ordering_then}
use Rattle.std.specs.Cmp.{nat_cmp_is}
use Rattle.std.specs.Cmp.Lexicographic.{slice_cmp}
use Rattle.std.specs.declared.cmp.Ordering.TheVariants.{Less, Greater}
use Rattle.sym_model.specs.Partition.{ArePositive, size}
use Rattle.sym_model.specs.PrintedOrder.{falling_lexicographic, printed_order}

nat_cmp-zero : (b : ℕ) → 0 < b → nat_cmp b 0 ≡ Greater
nat_cmp-zero b h = sym (nat_cmp_is b 0 Greater h)

zero-nat_cmp : (b : ℕ) → 0 < b → nat_cmp 0 b ≡ Less
zero-nat_cmp b h = sym (nat_cmp_is 0 b Less h)

-- for lists xs and ys of positive numbers, comparing xs with ys in decreasing lexicographic order, with 0 for missing numbers, has the same result as
-- comparing ys with xs in increasing lexicographic order, in which a proper prefix is less than the list
pub falling_lexicographic-slice_cmp :
    (xs ys : List ℕ) → ArePositive xs → ArePositive ys → falling_lexicographic xs ys ≡ slice_cmp nat_cmp ys xs
falling_lexicographic-slice_cmp [] [] p q = refl
falling_lexicographic-slice_cmp [] (y ∷ ys) p q =
    ap (λ o. ordering_then o (falling_lexicographic [] ys)) (nat_cmp-zero y q.0)
falling_lexicographic-slice_cmp (x ∷ xs) [] p q =
    ap (λ o. ordering_then o (falling_lexicographic xs [])) (zero-nat_cmp x p.0)
falling_lexicographic-slice_cmp (x ∷ xs) (y ∷ ys) p q =
    ap (ordering_then (nat_cmp y x)) (falling_lexicographic-slice_cmp xs ys p.1 q.1)

-- for lists xs and ys of positive numbers: comparing size ys with size xs and, if these are equal, ys with xs in lexicographic order, has the result
-- of the printed order for xs and ys
pub printed_order-slice_cmp :
    (xs ys : List ℕ) → ArePositive xs → ArePositive ys
    → ordering_then (nat_cmp (size ys) (size xs)) (slice_cmp nat_cmp ys xs) ≡ printed_order xs ys
printed_order-slice_cmp xs ys p q =
    ap (ordering_then (nat_cmp (size ys) (size xs))) (sym (falling_lexicographic-slice_cmp xs ys p q))
