-- The expansions of e_k, h_k and p_k in another of the bases e, h and p, with the coefficients of specs/OnePartLists, as `one_part_list_law` states
-- them.
use Rattle.std.proofs.Common.{◌≡◌, ℕ, ◌-◌, ◌*◌, ◌^◌, ◌<◌, ◌≤◌, List, [], ◌∷◌, map, length, refl, sym, ap, ap₂, ◌∙◌, subst, arith, ℤ, pos, ◌+ℤ◌, ◌*ℤ◌, rules}
use Rattle.std.specs.Prelude.{nat_abs}
use Rattle.std.proofs.lemmas.Int.{ints, unsigned_abs-mul}
use Rattle.sym_model.specs.Sum.{total}
use Rattle.sym_model.specs.Polynomial.{Poly, pair}
use Rattle.sym_model.specs.Partition.{size}
use Rattle.sym_model.specs.PartitionList.{partitions_of}
use Rattle.sym_model.specs.PlaceOrders.{minus_one_to}
use Rattle.sym_model.specs.Bases.{product_over, elementary_of, complete_of, power_sum_of}
use Rattle.sym_model.specs.Weight.{factorial}
use Rattle.sym_model.specs.WholeTerms.{absolute_total}
use Rattle.sym_model.proofs.Ring.{one-product}
use Rattle.sym_model.proofs.Sums.{total_ext, total_map, Among_from_map}
use Rattle.sym_model.proofs.PartitionLists.{partitions_of-tells}
use Rattle.basis_change_laws.specs.JoinedLists.{IsLow, Stands}
use Rattle.family_list_laws.specs.OnePartLists.{orders_of_parts, sized_orders, cycle_type_count, parity_sign, signed_orders, list_over}
use Rattle.family_list_laws.proofs.ListSteps.{IsSumOver}
use Rattle.family_list_laws.proofs.ListSizes.{compositions, compositions-few, total-orders, total-sized, total-cycles}
use Rattle.family_list_laws.proofs.OnePartValues.{elementary-in-complete, complete-in-elementary, power-in-complete, power-in-elementary, elementary-in-power, complete-in-power}
use Rattle.sym_model.proofs.Integers.{sign_size}

absolute-map : (c : List ℕ → ℤ) (x : List ℕ → ℕ) → ((μ : List ℕ) → nat_abs (c μ) ≡ x μ)
    → (labels : List (List ℕ))
    → pos (absolute_total (map (λ μ. (μ, c μ)) labels)) ≡ total (λ (μ : List ℕ). pos (x μ)) labels
absolute-map c x h [] = refl
absolute-map c x h (μ ∷ labels) = ap₂ (λ n z. pos n +ℤ z) (h μ) (absolute-map c x h labels)

listed : (P : ℕ → ℕ → Poly) (q most k : ℕ) (f : ℕ → Poly) (c : List ℕ → ℤ) (x : List ℕ → ℕ) (m : ℕ)
    → ((n : ℕ) → IsSumOver P n k c q (f n)) → ((μ : List ℕ) → nat_abs (c μ) ≡ x μ)
    → total (λ (μ : List ℕ). pos (x μ)) (partitions_of k) ≡ pos m → m ≤ most
    → Stands P q most k f (list_over c k)
listed P q most k f c x m is abs sum few = record {
  value = λ n φ. total_map (λ (t : List ℕ × ℤ). t.1 *ℤ pair (product_over P t.0 n) φ)
      (λ (μ : List ℕ). (μ, c μ)) (partitions_of k) ∙ is n φ;
  few = let e = absolute-map c x abs (partitions_of k) ∙ sum in omega (arith, ints);
  labels = λ t m.
      let r = Among_from_map (λ (μ : List ℕ). (μ, c μ)) t (partitions_of k) m in
      let s = partitions_of-tells k r.0 r.1 in
      subst (λ (u : List ℕ × ℤ). IsLow k u.0) (sym r.2)
      (record { partition = s.0; low = omega (arith, s.1) });
}

signed : (a x : ℕ) → nat_abs (minus_one_to a *ℤ pos x) ≡ x
signed a x = search (rules, unsigned_abs-mul, sign_size)

pub elementary-list : (k : ℕ)
    → Stands complete_of 1 (2 ^ k) k (λ n. elementary_of k n) (list_over signed_orders k)
elementary-list k = listed complete_of 1 (2 ^ k) k
    (λ n. elementary_of k n) signed_orders orders_of_parts (compositions k)
    (elementary-in-complete k) (λ μ. signed (size μ - length μ) (orders_of_parts μ))
    (total-orders k k (omega arith)) (compositions-few k)

pub complete-list : (k : ℕ)
    → Stands elementary_of 1 (2 ^ k) k (λ n. complete_of k n) (list_over signed_orders k)
complete-list k = listed elementary_of 1 (2 ^ k) k
    (λ n. complete_of k n) signed_orders orders_of_parts (compositions k) (complete-in-elementary k)
    (λ μ. signed (size μ - length μ) (orders_of_parts μ)) (total-orders k k (omega arith))
    (compositions-few k)

pub power-complete-list : (k : ℕ) → 0 < k
    → Stands complete_of 1 (2 ^ k - 1) k (λ n. power_sum_of k n)
    (list_over (λ μ. minus_one_to (length μ - 1) *ℤ pos (sized_orders μ)) k)
power-complete-list k h = listed complete_of 1 (2 ^ k - 1) k (λ n. power_sum_of k n)
    (λ μ. minus_one_to (length μ - 1) *ℤ pos (sized_orders μ)) sized_orders (2 ^ k - 1)
    (λ n. power-in-complete k n h) (λ μ. signed (length μ - 1) (sized_orders μ)) (total-sized k h)
    (omega arith)

pub power-elementary-list : (k : ℕ) → 0 < k
    → Stands elementary_of 1 (2 ^ k - 1) k (λ n. power_sum_of k n)
    (list_over (λ μ. parity_sign μ *ℤ pos (sized_orders μ)) k)
power-elementary-list k h = listed elementary_of 1 (2 ^ k - 1) k (λ n. power_sum_of k n)
    (λ μ. parity_sign μ *ℤ pos (sized_orders μ)) sized_orders (2 ^ k - 1)
    (λ n. power-in-elementary k n h) (λ μ. signed (size μ - length μ) (sized_orders μ))
    (total-sized k h) (omega arith)

pub elementary-power-list : (k : ℕ)
    → Stands power_sum_of (factorial k) (factorial k) k (λ n. elementary_of k n)
    (list_over (λ μ. parity_sign μ *ℤ pos (cycle_type_count μ)) k)
elementary-power-list k = listed power_sum_of (factorial k) (factorial k) k (λ n. elementary_of k n)
    (λ μ. parity_sign μ *ℤ pos (cycle_type_count μ)) cycle_type_count (factorial k)
    (elementary-in-power k) (λ μ. signed (size μ - length μ) (cycle_type_count μ))
    (total-cycles k k (omega arith)) (omega arith)

pub complete-power-list : (k : ℕ)
    → Stands power_sum_of (factorial k) (factorial k) k (λ n. complete_of k n)
    (list_over (λ μ. pos (cycle_type_count μ)) k)
complete-power-list k = listed power_sum_of (factorial k) (factorial k) k (λ n. complete_of k n)
    (λ μ. pos (cycle_type_count μ)) cycle_type_count (factorial k)
    (λ n φ. total_ext
    (λ (μ : List ℕ). pos (cycle_type_count μ) *ℤ pair (product_over power_sum_of μ n) φ)
    (λ (μ : List ℕ). (pos 1 *ℤ pos (cycle_type_count μ)) *ℤ pair (product_over power_sum_of μ n) φ)
    (λ μ. ap (λ z. z *ℤ pair (product_over power_sum_of μ n) φ)
    (sym (one-product (pos (cycle_type_count μ))))) (partitions_of k) ∙ complete-in-power k n φ)
    (λ μ. refl) (total-cycles k k (omega arith)) (omega arith)
