-- The number of ways to add rows to a sum of n numbers depends on the values of f at the sums of n numbers alone.
use Rattle.std.proofs.Common.{◌≡◌, ℕ, zero, suc, ◌+◌, ◌-◌, nat_le, nat_lt, nat_eq, Bool, cond, List, [], ◌∷◌, ◌++◌, length, take, drop, sym, ap, ◌∙◌}
use Rattle.std.specs.Cmp.Lexicographic.{pointwise}
use Rattle.sym_model.specs.Partition.{part, ArePositive, without_last_zeros}
use Rattle.sym_model.specs.Polynomial.{same}
use Rattle.sym_model.proofs.NumberSums.{sum_by-ext}
use Rattle.tableau_laws.specs.Grid.{may_precede}
use Rattle.lr_product.specs.WeighedSum.{at_state, comes_to}
use Rattle.lr_product.specs.Extension.{numbers_from, mark}
use Rattle.lr_product.specs.RowExtension.{added, filled, over_rows, least_left, most_left}
use Rattle.lattice_rows.specs.LatticeRows.{fills}
use Rattle.lr_product.proofs.Sums.{begins}

module _ (n : ℕ) where
  filled-same : (kept : Bool) (out t k : ℕ) (above : List ℕ) (f g : List ℕ → List ℕ → ℕ) (s : List ℕ) → ((v : List ℕ) → at_state n f v ≡ at_state n g v)
      → filled kept n out t k above f s ≡ filled kept n out t k above g s
  filled-same kept out zero k above f g s e = e s
  filled-same kept out (suc t) k above f g s e =
      sum_by-ext (λ left. filled kept n out t left (drop 1 above) f (added t (k - left) s ++ mark kept left)) (λ left. filled kept n out t left (drop 1 above) g (added t (k - left) s ++ mark kept left))
      (λ left. filled-same kept out t left (drop 1 above) f g (added t (k - left) s ++ mark kept left) e)
      (numbers_from (least_left out t k s) (most_left out t k above + 1 - least_left out t k s))

  over-same : (label inner : List ℕ) (f g : List ℕ → List ℕ → ℕ) (s above : List ℕ) → ((v r : List ℕ) → f (take n v) r ≡ g (take n v) r)
      → over_rows n label inner f (take n s) above ≡ over_rows n label inner g (take n s) above
  over-same [] inner f g s above e = e s above
  over-same (a ∷ label) inner f g s above e =
      ap (λ x. cond (may_precede nat_le a above) x 0)
      (filled-same (nat_lt 0 (length label)) (part inner 1) n a (drop 1 above) (over_rows n label (drop 1 inner) f) (over_rows n label (drop 1 inner) g) (take n s)
      (λ v. over-same label (drop 1 inner) f g v (drop n v) e))

-- sums of n numbers that are μ, a partition of n parts
pub ways-come : (n : ℕ) (label inner μ s above : List ℕ) → length μ ≡ n → ArePositive μ
    → over_rows n label inner (fills μ) (take n s) above ≡ over_rows n label inner (comes_to μ) (take n s) above
ways-come n label inner μ s above full positive =
    over-same n label inner (fills μ) (comes_to μ) s above
    (λ v r. ap (λ t. cond t 1 0) (ap (λ k. pointwise nat_eq (take k v) μ) (sym full) ∙ begins v μ positive ∙ ap (λ k. same (without_last_zeros (take k v)) μ) full))
