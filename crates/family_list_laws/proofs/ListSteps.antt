-- Let P_1, P_2, .. be polynomials, and let P_μ be the product of the P_a over the parts a of a partition μ. An expansion of a polynomial f is an
-- equation of q·f with the sum of c(μ)·P_μ over the partitions μ of k; the number q and the coefficients c(μ) are integers. Expansions over the
-- partitions of k are computed from expansions over the partitions of smaller numbers.
--     total-taken     if 1 ≤ i ≤ k, then the sum of a function g over the partitions of k - i is the sum of g(μ without one i) over the partitions μ
--                     of k with a part i
--     sum-step        let g_i be polynomials, and s_i and q_i integers. If q·f is the sum of s_i·q_i·g_i·P_i over i = 1, .., k, and each q_i·g_i has
--                     an expansion over the partitions of k - i (`IsSumOver`), then q·f has an expansion over the partitions of k
use Rattle.std.proofs.Common.{◌≡◌, ℕ, ◌-◌, ◌<◌, ◌≤◌, Bool, true, false, cond, List, refl, sym, ap, ◌∙◌, arith, ℤ, pos, ◌*ℤ◌, filter}
use Rattle.sym_model.specs.Sum.{total}
use Rattle.sym_model.specs.Polynomial.{Poly, pair, join, times}
use Rattle.sym_model.specs.Partition.{IsPartition, after, size, insert_part}
use Rattle.sym_model.specs.PartitionList.{partitions_of}
use Rattle.sym_model.specs.RaisedPart.{without_one}
use Rattle.sym_model.specs.Bases.{has, product_over}
use Rattle.sym_model.proofs.Ring.{product_assoc}
use Rattle.sym_model.proofs.Sums.{total_ext, total_among, total_select, total_scale, total_exchange, total_bijection, Once-select, Among-select, Among_from_select}
use Rattle.sym_model.proofs.Polynomials.{pair_times, pair_determined}
use Rattle.sym_model.proofs.PolynomialLaws.{times_comm}
use Rattle.sym_model.proofs.AfterLists.{after_among}
use Rattle.sym_model.proofs.PartitionLists.{partitions_of-tells, Among-partitions_of, Once-partitions_of}
use Rattle.sym_model.proofs.SortedParts.{IsPartition-insert_part, IsPartition-without_one, size-insert_part, size-without_one, has-insert_part, insert_part-without_one, without_one-insert_part}
use Rattle.basis_change_laws.proofs.MergedParts.{product_over-insert_part}
use lib.IntN.{*ℤ_comm, zero-*ℤ}

pub total-taken : (k i : ℕ) (g : List ℕ → ℤ) → 0 < i → i ≤ k
    → total (λ (μ : List ℕ). cond (has i μ) (g (without_one i μ)) (pos 0)) (partitions_of k)
    ≡ total g (partitions_of (k - i))
total-taken k i g p l =
    sym (total_select (λ (μ : List ℕ). g (without_one i μ)) (has i) (partitions_of k))
    ∙ total_bijection g (without_one i) (insert_part i) (filter (has i) (partitions_of k))
    (partitions_of (k - i))
    (Once-select (has i) (partitions_of k) (Once-partitions_of k)) (Once-partitions_of (k - i))
    (λ μ m.
    let s = Among_from_select (has i) μ (partitions_of k) m in
    let t = partitions_of-tells k μ s.0 in
    Among-partitions_of (k - i) (without_one i μ) (IsPartition-without_one i μ t.0)
    (omega (arith, size-without_one i μ s.1, t.1)))
    (λ ρ m.
    let t = partitions_of-tells (k - i) ρ m in
    Among-select (has i) (insert_part i ρ) (partitions_of k)
    (Among-partitions_of k (insert_part i ρ) (IsPartition-insert_part i ρ t.0)
    (omega (arith, size-insert_part i ρ, t.1)))
    (has-insert_part i ρ p))
    (λ μ m.
    let s = Among_from_select (has i) μ (partitions_of k) m in
    insert_part-without_one i μ p (partitions_of-tells k μ s.0).0.falls s.1)
    (λ ρ m. without_one-insert_part i ρ p)

-- `IsSumOver P n k c q f`: in n variables, q·f is the sum, over the partitions μ of k, of c(μ) times the product of the P_a over the parts a of μ
abbrev pub IsSumOver : (ℕ → ℕ → Poly) → ℕ → ℕ → (List ℕ → ℤ) → ℕ → Poly → Type 0
IsSumOver P n k c q f =
    (φ : List ℕ → ℤ)
    → total (λ (μ : List ℕ). c μ *ℤ pair (product_over P μ n) φ) (partitions_of k)
    ≡ pos q *ℤ pair f φ

module _ (P : ℕ → ℕ → Poly) (n : ℕ) where
  pub sum-step : (k q : ℕ) (c before : List ℕ → ℤ) (f : Poly) (s : ℕ → ℤ) (q' : ℕ → ℕ)
      (g : ℕ → Poly)
      → ((i : ℕ) → 0 < i → i ≤ k → IsSumOver P n (k - i) before (q' i) (g i))
      → ((φ : List ℕ → ℤ) → pos q *ℤ pair f φ
      ≡ total (λ (i : ℕ). s i *ℤ (pos (q' i) *ℤ pair (times (g i) (P i n)) φ)) (after 0 k))
      → ((μ : List ℕ) → IsPartition μ → size μ ≡ k → c μ
      ≡ total (λ (i : ℕ). cond (has i μ) (s i *ℤ before (without_one i μ)) (pos 0)) (after 0 k))
      → IsSumOver P n k c q f
  sum-step k q c before f s q' g lists sum closed φ =
      total_among (λ (μ : List ℕ). c μ *ℤ value μ)
      (λ (μ : List ℕ). total (λ (i : ℕ). part i μ *ℤ value μ) (after 0 k)) (partitions_of k)
      (λ μ m.
      let t = partitions_of-tells k μ m in
      ap (λ z. z *ℤ value μ) (closed μ t.0 t.1)
      ∙ *ℤ_comm (total (λ (i : ℕ). part i μ) (after 0 k)) (value μ)
      ∙ sym (total_scale (value μ) (λ (i : ℕ). part i μ) (after 0 k))
      ∙ total_ext (λ (i : ℕ). value μ *ℤ part i μ) (λ (i : ℕ). part i μ *ℤ value μ)
      (λ i. *ℤ_comm (value μ) (part i μ)) (after 0 k))
      ∙ total_exchange (λ (μ : List ℕ) (i : ℕ). part i μ *ℤ value μ) (partitions_of k) (after 0 k)
      ∙ total_among (λ (i : ℕ). total (λ (μ : List ℕ). part i μ *ℤ value μ) (partitions_of k))
      (λ (i : ℕ). s i *ℤ (pos (q' i) *ℤ pair (times (g i) (P i n)) φ)) (after 0 k)
      (λ i m. let r = after_among 0 k i m in one i r.0 (let l = r.1 in omega arith))
      ∙ sym (sum φ)
    where
      value : List ℕ → ℤ
      value μ = pair (product_over P μ n) φ

      part : ℕ → List ℕ → ℤ
      part i μ = cond (has i μ) (s i *ℤ before (without_one i μ)) (pos 0)

      more : ℕ → List ℕ → ℤ
      more i α = pair (P i n) (λ β. φ (join α β))

      taken : ℕ → List ℕ → ℤ
      taken i ρ = s i *ℤ (before ρ *ℤ value (insert_part i ρ))

      inserted : (i : ℕ) (ρ : List ℕ) → 0 < i → value (insert_part i ρ)
          ≡ pair (product_over P ρ n) (more i)
      inserted i ρ p =
          pair_determined (product_over P (insert_part i ρ) n)
          (times (P i n) (product_over P ρ n)) φ (product_over-insert_part P n i ρ p)
          ∙ pair_determined (times (P i n) (product_over P ρ n))
          (times (product_over P ρ n) (P i n)) φ (times_comm (P i n) (product_over P ρ n))
          ∙ pair_times (product_over P ρ n) (P i n) φ

      one : (i : ℕ) → 0 < i → i ≤ k → total (λ (μ : List ℕ). part i μ *ℤ value μ) (partitions_of k)
          ≡ s i *ℤ (pos (q' i) *ℤ pair (times (g i) (P i n)) φ)
      one i p l =
          total_among (λ (μ : List ℕ). part i μ *ℤ value μ)
          (λ (μ : List ℕ). cond (has i μ) (taken i (without_one i μ)) (pos 0)) (partitions_of k)
          (λ μ m. by μ (partitions_of-tells k μ m).0 (has i μ) refl)
          ∙ total-taken k i (taken i) p l
          ∙ total_scale (s i) (λ (ρ : List ℕ). before ρ *ℤ value (insert_part i ρ))
          (partitions_of (k - i))
          ∙ ap (λ z. s i *ℤ z)
          (total_ext (λ (ρ : List ℕ). before ρ *ℤ value (insert_part i ρ))
          (λ (ρ : List ℕ). before ρ *ℤ pair (product_over P ρ n) (more i))
          (λ ρ. ap (λ z. before ρ *ℤ z) (inserted i ρ p)) (partitions_of (k - i))
          ∙ lists i p l (more i)
          ∙ ap (λ z. pos (q' i) *ℤ z) (sym (pair_times (g i) (P i n) φ)))
        where
          by : (μ : List ℕ) → IsPartition μ → (b : Bool) → has i μ ≡ b
              → cond b (s i *ℤ before (without_one i μ)) (pos 0) *ℤ value μ
              ≡ cond b (taken i (without_one i μ)) (pos 0)
          by μ t true e =
              product_assoc (s i) (before (without_one i μ)) (value μ)
              ∙ ap (λ ν. s i *ℤ (before (without_one i μ) *ℤ value ν))
              (sym (insert_part-without_one i μ p t.falls e))
          by μ t false e = zero-*ℤ (value μ)
