-- The sums, over the partitions of a number, of the absolute values of the coefficients that specs/OnePartLists gives in closed form. Here l is the
-- number of parts of a partition, and m_i is the number of its parts i.
--     total-orders      the sum of l!/Π m_i! over the partitions of k + 1 is 2^k
--     total-sized       the sum of k·(l - 1)!/Π m_i! over the partitions of k is 2^k - 1
--     total-cycles      the sum of k!/z_μ over the partitions μ of k is k!
use Rattle.std.proofs.Common.{◌≡◌, ℕ, zero, suc, ◌+◌, ◌-◌, ◌*◌, ◌^◌, ◌<◌, ◌≤◌, cond, List, [], length, refl, sym, ap, ap₂, ◌∙◌, arith, ℤ, pos, ◌+ℤ◌, ◌*ℤ◌, pow-suc}
use Rattle.sym_model.specs.Sum.{total}
use Rattle.sym_model.specs.Partition.{IsPartition, after, size}
use Rattle.sym_model.specs.PartitionList.{partitions_of, partitions_within}
use Rattle.sym_model.specs.RaisedPart.{without_one}
use Rattle.sym_model.specs.Bases.{has}
use Rattle.sym_model.specs.Weight.{factorial}
use Rattle.sym_model.proofs.Ring.{distributes_right}
use Rattle.sym_model.proofs.Sums.{total_ext, total_among, total_add, total_scale, total_exchange, total_constant}
use Rattle.sym_model.proofs.AfterLists.{after_among, length_after}
use Rattle.sym_model.proofs.PartitionLists.{partitions_of-tells}
use Rattle.basis_change_laws.proofs.FactorialQuotients.{rise-is}
use Rattle.family_list_laws.specs.OnePartLists.{orders_of_parts, sized_orders, cycle_type_count}
use Rattle.family_list_laws.proofs.ListSteps.{total-taken}
use Rattle.family_list_laws.proofs.PartQuotients.{orders-sum, sized-orders, cycles-sum, rise}
use Rattle.family_list_laws.proofs.OnePartValues.{some_part}
use Rattle.std.proofs.Math.Nat.{mul_comm}
use Rattle.sym_model.proofs.Numbers.{power-positive}
use Rattle.sym_model.proofs.Integers.{sum_left_comm}

-- the sum of x(μ) over the partitions μ of k
abbrev pub sum_over : (List ℕ → ℕ) → ℕ → ℤ
sum_over x k = total (λ (μ : List ℕ). pos (x μ)) (partitions_of k)

sum-over-step : (k : ℕ) (x before : List ℕ → ℕ) (z : ℕ → ℕ)
    → ((μ : List ℕ) → IsPartition μ → size μ ≡ k → pos (x μ)
    ≡ total (λ (i : ℕ). cond (has i μ) (pos (z i * before (without_one i μ))) (pos 0)) (after 0 k))
    → sum_over x k ≡ total (λ (i : ℕ). pos (z i) *ℤ sum_over before (k - i)) (after 0 k)
sum-over-step k x before z closed =
    total_among (λ (μ : List ℕ). pos (x μ))
    (λ (μ : List ℕ). total
    (λ (i : ℕ). cond (has i μ) (pos (z i * before (without_one i μ))) (pos 0)) (after 0 k))
    (partitions_of k)
    (λ μ m. let t = partitions_of-tells k μ m in closed μ t.0 t.1)
    ∙ total_exchange
    (λ (μ : List ℕ) (i : ℕ). cond (has i μ) (pos (z i * before (without_one i μ))) (pos 0))
    (partitions_of k) (after 0 k)
    ∙ total_among
    (λ (i : ℕ). total
    (λ (μ : List ℕ). cond (has i μ) (pos (z i * before (without_one i μ))) (pos 0))
    (partitions_of k)) (λ (i : ℕ). pos (z i) *ℤ sum_over before (k - i)) (after 0 k)
    (λ i m.
    let r = after_among 0 k i m in
    total-taken k i (λ ρ. pos (z i * before ρ)) r.0 (let l = r.1 in omega arith)
    ∙ total_scale (pos (z i)) (λ (ρ : List ℕ). pos (before ρ)) (partitions_of (k - i)))

total-shifted : (g : ℕ → ℤ) (a m : ℕ) → total g (after (a + 1) m)
    ≡ total (λ (i : ℕ). g (i + 1)) (after a m)
total-shifted g a zero = refl
total-shifted g a (suc m) = ap (λ z. g (a + 1 + 1) +ℤ z) (total-shifted g (a + 1) m)

back_sum : (z f : ℕ → ℤ) (m : ℕ) → total (λ (i : ℕ). z i *ℤ f (suc m - i)) (after 0 (suc m))
    ≡ z 1 *ℤ f m +ℤ total (λ (i : ℕ). z (i + 1) *ℤ f (m - i)) (after 0 m)
back_sum z f m =
    let a : 0 + 1 ≡ 1 = refl in
    let b : suc m - 1 ≡ m = omega arith in
    ap₂ ◌+ℤ◌ (ap (λ n. z 1 *ℤ f n) b)
    (total-shifted (λ (i : ℕ). z i *ℤ f (suc m - i)) 0 m
    ∙ total_ext (λ (i : ℕ). z (i + 1) *ℤ f (suc m - (i + 1))) (λ (i : ℕ). z (i + 1) *ℤ f (m - i))
    (λ i. ap (λ n. z (i + 1) *ℤ f n) (let e : suc m - (i + 1) ≡ m - i = omega arith in e))
    (after 0 m))

-- the number of lists of positive numbers with the sum k: 1 for k = 0, and 2^(k - 1) for k ≥ 1
abbrev pub compositions : ℕ → ℕ
compositions zero = 1
compositions (suc k) = 2 ^ k

pub compositions-few : (k : ℕ) → compositions k ≤ 2 ^ k
compositions-few zero = omega arith
compositions-few (suc k) = omega (arith, pow-suc 2 k)

all-compositions : (m : ℕ)
    → total (λ (i : ℕ). pos 1 *ℤ pos (compositions (suc m - i))) (after 0 (suc m)) ≡ pos (2 ^ m)
all-compositions zero = refl
all-compositions (suc m) =
    let r = all-compositions m in
    let p = pow-suc 2 m in
    back_sum (λ i. pos 1) (λ n. pos (compositions n)) (suc m)
    ∙ ap (λ z. pos 1 *ℤ pos (2 ^ m) +ℤ z) r
    ∙ ap pos (let e : 1 * 2 ^ m + 2 ^ m ≡ 2 ^ suc m = omega arith in e)

sized-compositions : (m : ℕ) → total (λ (i : ℕ). pos i *ℤ pos (compositions (m - i))) (after 0 m)
    ≡ pos (2 ^ m - 1)
sized-compositions zero = refl
sized-compositions (suc m) =
    back_sum (λ i. pos i) (λ n. pos (compositions n)) m
    ∙ ap (λ z. pos 1 *ℤ pos (compositions m) +ℤ z)
    (total_ext (λ (i : ℕ). pos (i + 1) *ℤ pos (compositions (m - i)))
    (λ (i : ℕ). pos i *ℤ pos (compositions (m - i)) +ℤ pos 1 *ℤ pos (compositions (m - i)))
    (λ i. distributes_right (pos i) (pos 1) (pos (compositions (m - i)))) (after 0 m)
    ∙ total_add (λ (i : ℕ). pos i *ℤ pos (compositions (m - i)))
    (λ (i : ℕ). pos 1 *ℤ pos (compositions (m - i))) (after 0 m)
    ∙ ap (λ z. z +ℤ total (λ (i : ℕ). pos 1 *ℤ pos (compositions (m - i))) (after 0 m))
    (sized-compositions m))
    ∙ sum_left_comm (pos 1 *ℤ pos (compositions m)) (pos (2 ^ m - 1)) (total (λ (i : ℕ). pos 1 *ℤ pos (compositions (m - i))) (after 0 m))
    ∙ ap (λ z. pos (2 ^ m - 1) +ℤ z)
    (sym (back_sum (λ i. pos 1) (λ n. pos (compositions n)) m) ∙ all-compositions m)
    ∙ ap pos (let p = pow-suc 2 m in let q = power-positive 2 m (omega arith) in let e : 2 ^ m - 1 + 2 ^ m
    ≡ 2 ^ suc m - 1 = omega arith in e)

nothing-summed : (x : List ℕ → ℕ) → x [] ≡ 1 → sum_over x 0 ≡ pos 1
unfolding partitions_within
nothing-summed x e = ap (λ n. pos n +ℤ pos 0) e

pub total-orders : (d k : ℕ) → k ≤ d → sum_over orders_of_parts k ≡ pos (compositions k)
total-orders d zero h = nothing-summed orders_of_parts refl
total-orders zero (suc k) h = absurd (omega arith)
total-orders (suc d) (suc k) h =
    sum-over-step (suc k) orders_of_parts orders_of_parts (λ i. 1)
    (λ μ p e.
    sym (orders-sum (length μ - 1) μ p (sym (some_part (suc k) μ (omega arith) e)))
    ∙ ap (λ n. total (λ (i : ℕ). cond (has i μ) (pos (orders_of_parts (without_one i μ))) (pos 0))
    (after 0 n)) e
    ∙ total_ext (λ (i : ℕ). cond (has i μ) (pos (orders_of_parts (without_one i μ))) (pos 0))
    (λ (i : ℕ). cond (has i μ) (pos (1 * orders_of_parts (without_one i μ))) (pos 0))
    (λ i. ap (λ n. cond (has i μ) (pos n) (pos 0))
    (let f : orders_of_parts (without_one i μ)
    ≡ 1 * orders_of_parts (without_one i μ) = omega arith in f)) (after 0 (suc k)))
    ∙ total_among (λ (i : ℕ). pos 1 *ℤ sum_over orders_of_parts (suc k - i))
    (λ (i : ℕ). pos 1 *ℤ pos (compositions (suc k - i))) (after 0 (suc k))
    (λ i m. let l = (after_among 0 (suc k) i m).0 in ap (λ z. pos 1 *ℤ z)
    (total-orders d (suc k - i) (omega arith)))
    ∙ all-compositions k

pub total-sized : (k : ℕ) → 0 < k → sum_over sized_orders k ≡ pos (2 ^ k - 1)
total-sized k h =
    sum-over-step k sized_orders orders_of_parts (λ i. i)
    (λ μ p e.
    sym (sized-orders (length μ - 1) μ p (sym (some_part k μ h e))).0
    ∙ ap (λ n. total
    (λ (i : ℕ). cond (has i μ) (pos (i * orders_of_parts (without_one i μ))) (pos 0))
    (after 0 n)) e)
    ∙ total_ext (λ (i : ℕ). pos i *ℤ sum_over orders_of_parts (k - i))
    (λ (i : ℕ). pos i *ℤ pos (compositions (k - i)))
    (λ i. ap (λ z. pos i *ℤ z) (total-orders (k - i) (k - i) (omega arith))) (after 0 k)
    ∙ sized-compositions k

pub total-cycles : (d k : ℕ) → k ≤ d → sum_over cycle_type_count k ≡ pos (factorial k)
total-cycles d zero h = nothing-summed cycle_type_count refl
total-cycles zero (suc k) h = absurd (omega arith)
total-cycles (suc d) (suc k) h =
    sum-over-step (suc k) cycle_type_count cycle_type_count (rise (suc k))
    (λ μ p e.
    sym (cycles-sum (length μ - 1) μ p (sym (some_part (suc k) μ (omega arith) e)))
    ∙ ap (λ n. total
    (λ (i : ℕ). cond (has i μ) (pos (rise n i * cycle_type_count (without_one i μ))) (pos 0))
    (after 0 n)) e)
    ∙ total_among (λ (i : ℕ). pos (rise (suc k) i) *ℤ sum_over cycle_type_count (suc k - i))
    (λ (i : ℕ). pos (factorial k)) (after 0 (suc k))
    (λ i m.
    let b = after_among 0 (suc k) i m in
    let l = b.0 in
    let u = b.1 in
    let e : suc k - 1 ≡ k = omega arith in
    ap (λ z. pos (rise (suc k) i) *ℤ z) (total-cycles d (suc k - i) (omega arith))
    ∙ ap pos (rise-is (suc k - i) (suc k - 1) (omega arith) ∙ ap factorial e))
    ∙ total_constant (pos (factorial k)) (after 0 (suc k))
    ∙ ap (λ n. pos (factorial k * n)) (length_after 0 (suc k))
    ∙ ap pos (mul_comm (factorial k) (suc k))
