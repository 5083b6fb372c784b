-- The expansions of e_k, h_k and p_k in another of the bases e, h and p, with the coefficients of specs/OnePartLists, proved by induction on k in n
-- variables. The pairing of a function φ of exponent lists with a polynomial f (`pair f φ`) is the sum of c·φ(α) over the terms c·x^α of f.
use Rattle.std.proofs.Common.{◌≡◌, ℕ, zero, suc, ◌+◌, ◌-◌, ◌*◌, ◌<◌, ◌≤◌, true, cond, List, [], ◌∷◌, length, refl, sym, ap, ap₂, ◌∙◌, arith, ℤ, pos, neg_ℤ, ◌*ℤ◌, flat_map, rules}
use Rattle.std.proofs.lemmas.Int.{ints}
use Rattle.sym_model.specs.Sum.{total}
use Rattle.sym_model.specs.Polynomial.{Poly, Same, pair, scale, times, one}
use Rattle.sym_model.specs.Partition.{IsPartition, after, size}
use Rattle.sym_model.specs.PartitionList.{partitions_within}
use Rattle.sym_model.specs.PlaceOrders.{minus_one_to}
use Rattle.sym_model.specs.RaisedPart.{without_one}
use Rattle.sym_model.specs.Bases.{has, elementary_of, complete_of, power_sum_of}
use Rattle.sym_model.specs.Weight.{factorial}
use Rattle.sym_model.proofs.Ring.{ring, one-product, product_assoc, product-one}
use Rattle.sym_model.proofs.Signs.{minus_one_to_add}
use Rattle.sym_model.proofs.Sums.{total_ext, total_among, total_scale}
use Rattle.sym_model.proofs.AfterLists.{after_among}
use Rattle.sym_model.proofs.Polynomials.{pair_each, pair_scale, pair_determined}
use Rattle.sym_model.proofs.PolynomialLaws.{times_comm}
use Rattle.sym_model.proofs.SortedParts.{rows_within_size, size-without_one, IsPartition-without_one}
use Rattle.basis_change_laws.proofs.NewtonLists.{IsNewton, newton-elementary, newton-complete}
use Rattle.basis_change_laws.proofs.FactorialQuotients.{rise-is}
use Rattle.family_list_laws.specs.OnePartLists.{orders_of_parts, sized_orders, cycle_type_count, parity_sign, signed_orders}
use Rattle.family_list_laws.proofs.ListSteps.{IsSumOver, sum-step}
use Rattle.family_list_laws.proofs.PartQuotients.{part-positive, taken-length, orders-sum, sized-orders, cycles-sum, rise, signed-sum}
use Rattle.family_list_laws.proofs.OnePartSums.{scaled_products, pair-products, elementary-sum, complete-sum, power-complete-sum, power-elementary-sum}
use lib.IntN.{+ℤ_idr}
use Rattle.std.proofs.Math.Nat.{mul_comm}

sign-taken : (i : ℕ) (μ : List ℕ) → IsPartition μ → has i μ ≡ true
    → minus_one_to (i - 1) *ℤ parity_sign (without_one i μ) ≡ parity_sign μ
sign-taken i μ p e =
    let l = taken-length i μ e in
    let s = size-without_one i μ e in
    let h = part-positive i μ p e in
    let r = rows_within_size (without_one i μ) (IsPartition-without_one i μ p).positive in
    sym (minus_one_to_add (i - 1) (size (without_one i μ) - length (without_one i μ)))
    ∙ ap minus_one_to
    (let d : i - 1 + (size (without_one i μ) - length (without_one i μ))
    ≡ size μ - length μ = omega arith in d)

sign-square : (a : ℕ) → minus_one_to a *ℤ minus_one_to a ≡ pos 1
sign-square zero = refl
sign-square (suc a) = search (rules, neg_ℤ, ring, ints, (sign-square a))

sign-left : (i : ℕ) (μ : List ℕ) → IsPartition μ → has i μ ≡ true
    → minus_one_to (size μ - i) *ℤ parity_sign (without_one i μ) ≡ minus_one_to (length μ - 1)
sign-left i μ p e =
    let l = taken-length i μ e in
    let s = size-without_one i μ e in
    let r = rows_within_size (without_one i μ) (IsPartition-without_one i μ p).positive in
    let a = size (without_one i μ) - length (without_one i μ) in
    ap (λ n. minus_one_to n *ℤ parity_sign (without_one i μ))
    (let d : size μ - i
    ≡ length μ - 1 + (size (without_one i μ) - length (without_one i μ)) = omega arith in d)
    ∙ ap (λ z. z *ℤ parity_sign (without_one i μ))
    (minus_one_to_add (length μ - 1) (size (without_one i μ) - length (without_one i μ)))
    ∙ product_assoc (minus_one_to (length μ - 1)) (parity_sign (without_one i μ)) (parity_sign (without_one i μ))
    ∙ ap (λ z. minus_one_to (length μ - 1) *ℤ z)
    (sign-square (size (without_one i μ) - length (without_one i μ)))
    ∙ product-one (minus_one_to (length μ - 1))

pub some_part : (k : ℕ) (μ : List ℕ) → 0 < k → size μ ≡ k → suc (length μ - 1) ≡ length μ
some_part k [] h e = absurd (omega arith)
some_part k (a ∷ μ) h e = omega arith

up_to : (k : ℕ) (μ : List ℕ) (f : ℕ → ℤ) → size μ ≡ k → total f (after 0 (size μ))
    ≡ total f (after 0 k)
up_to k μ f e = ap (λ n. total f (after 0 n)) e

four : (a b c d : ℤ) → (a *ℤ b) *ℤ (c *ℤ d) ≡ (a *ℤ c) *ℤ (b *ℤ d)
four a b c d = simp ring (omega (arith, ints))

orders-closed : (k : ℕ) (μ : List ℕ) → 0 < k → IsPartition μ → size μ ≡ k
    → signed_orders μ
    ≡ total (λ (i : ℕ). cond (has i μ) (minus_one_to (i - 1) *ℤ signed_orders (without_one i μ))
    (pos 0)) (after 0 k)
orders-closed k μ h p e =
    signed-sum μ (parity_sign μ) (λ i. minus_one_to (i - 1)) signed_orders
    (λ i. orders_of_parts (without_one i μ)) (orders_of_parts μ)
    (λ i f. sym (product_assoc (minus_one_to (i - 1)) (parity_sign (without_one i μ))
    (pos (orders_of_parts (without_one i μ))))
    ∙ ap (λ z. z *ℤ pos (orders_of_parts (without_one i μ))) (sign-taken i μ p f))
    (orders-sum (length μ - 1) μ p (sym (some_part k μ h e)))
    ∙ up_to k μ (λ (i : ℕ). cond (has i μ) (minus_one_to (i - 1) *ℤ signed_orders (without_one i μ))
    (pos 0)) e

power-complete-closed : (k : ℕ) (μ : List ℕ) → 0 < k → IsPartition μ → size μ ≡ k
    → minus_one_to (length μ - 1) *ℤ pos (sized_orders μ)
    ≡ total (λ (i : ℕ). cond (has i μ)
    ((minus_one_to (k - i) *ℤ pos i) *ℤ signed_orders (without_one i μ)) (pos 0)) (after 0 k)
power-complete-closed k μ h p e =
    signed-sum μ (minus_one_to (length μ - 1)) (λ i. minus_one_to (k - i) *ℤ pos i) signed_orders
    (λ i. i * orders_of_parts (without_one i μ)) (sized_orders μ)
    (λ i f.
    four (minus_one_to (k - i)) (pos i) (parity_sign (without_one i μ))
    (pos (orders_of_parts (without_one i μ)))
    ∙ ap (λ z. z *ℤ pos (i * orders_of_parts (without_one i μ)))
    (ap (λ n. minus_one_to (n - i) *ℤ parity_sign (without_one i μ)) (sym e) ∙ sign-left i μ p f))
    (sized-orders (length μ - 1) μ p (sym (some_part k μ h e))).0
    ∙ up_to k μ (λ (i : ℕ). cond (has i μ)
    ((minus_one_to (k - i) *ℤ pos i) *ℤ signed_orders (without_one i μ)) (pos 0)) e

power-elementary-closed : (k : ℕ) (μ : List ℕ) → 0 < k → IsPartition μ → size μ ≡ k
    → parity_sign μ *ℤ pos (sized_orders μ)
    ≡ total (λ (i : ℕ). cond (has i μ)
    ((minus_one_to (i - 1) *ℤ pos i) *ℤ signed_orders (without_one i μ)) (pos 0)) (after 0 k)
power-elementary-closed k μ h p e =
    signed-sum μ (parity_sign μ) (λ i. minus_one_to (i - 1) *ℤ pos i) signed_orders
    (λ i. i * orders_of_parts (without_one i μ)) (sized_orders μ)
    (λ i f.
    four (minus_one_to (i - 1)) (pos i) (parity_sign (without_one i μ))
    (pos (orders_of_parts (without_one i μ)))
    ∙ ap (λ z. z *ℤ pos (i * orders_of_parts (without_one i μ))) (sign-taken i μ p f))
    (sized-orders (length μ - 1) μ p (sym (some_part k μ h e))).0
    ∙ up_to k μ (λ (i : ℕ). cond (has i μ)
    ((minus_one_to (i - 1) *ℤ pos i) *ℤ signed_orders (without_one i μ)) (pos 0)) e

cycles-closed : (σ : ℕ → ℤ) (τ : List ℕ → ℤ)
    → ((i : ℕ) (μ : List ℕ) → IsPartition μ → has i μ ≡ true → σ i *ℤ τ (without_one i μ) ≡ τ μ)
    → (k : ℕ) (μ : List ℕ) → 0 < k → IsPartition μ → size μ ≡ k
    → τ μ *ℤ pos (cycle_type_count μ)
    ≡ total (λ (i : ℕ). cond (has i μ)
    ((σ i *ℤ pos (rise k i)) *ℤ
    (τ (without_one i μ) *ℤ pos (cycle_type_count (without_one i μ)))) (pos 0)) (after 0 k)
cycles-closed σ τ turn k μ h p e =
    signed-sum μ (τ μ) (λ i. σ i *ℤ pos (rise k i)) (λ ρ. τ ρ *ℤ pos (cycle_type_count ρ))
    (λ i. rise (size μ) i * cycle_type_count (without_one i μ)) (cycle_type_count μ)
    (λ i f.
    four (σ i) (pos (rise k i)) (τ (without_one i μ)) (pos (cycle_type_count (without_one i μ)))
    ∙ ap₂ (λ z n. z *ℤ pos (rise n i * cycle_type_count (without_one i μ))) (turn i μ p f) (sym e))
    (cycles-sum (length μ - 1) μ p (sym (some_part k μ h e)))
    ∙ up_to k μ (λ (i : ℕ). cond (has i μ)
    ((σ i *ℤ pos (rise k i)) *ℤ (τ (without_one i μ) *ℤ pos (cycle_type_count (without_one i μ))))
    (pos 0)) e

-- ---- expansions with coefficients in closed form, by induction on k

nothing-left : (P : ℕ → ℕ → Poly) (n : ℕ) (c : List ℕ → ℤ) (f : Poly) → c [] ≡ pos 1
    → Same f (one n) → IsSumOver P n 0 c 1 f
unfolding partitions_within
nothing-left P n c f e h φ = +ℤ_idr (c [] *ℤ pair (one n) φ)
    ∙ ap₂ ◌*ℤ◌ e (sym (pair_determined f (one n) φ h))

whole-sum : (v : ℕ → ℤ) (G P : ℕ → ℕ → Poly) (k n : ℕ) (f : Poly)
    → Same f (scaled_products v G P k n) → (φ : List ℕ → ℤ)
    → pos 1 *ℤ pair f φ
    ≡ total (λ (i : ℕ). v i *ℤ (pos 1 *ℤ pair (times (G (k - i) n) (P i n)) φ)) (after 0 k)
whole-sum v G P k n f e φ =
    one-product (pair f φ)
    ∙ pair-products v G P k n f e φ
    ∙ total_ext (λ (i : ℕ). v i *ℤ pair (times (G (k - i) n) (P i n)) φ)
    (λ (i : ℕ). v i *ℤ (pos 1 *ℤ pair (times (G (k - i) n) (P i n)) φ))
    (λ i. ap (λ z. v i *ℤ z) (sym (one-product (pair (times (G (k - i) n) (P i n)) φ)))) (after 0 k)

family-list : (G P : ℕ → ℕ → Poly) (n : ℕ) → Same (G 0 n) (one n)
    → ((k : ℕ) → 0 < k → Same (G k n) (scaled_products (λ i. minus_one_to (i - 1)) G P k n))
    → (d k : ℕ) → k ≤ d → IsSumOver P n k signed_orders 1 (G k n)
family-list G P n first sums d zero h = nothing-left P n signed_orders (G 0 n) refl first
family-list G P n first sums zero (suc k) h = absurd (omega arith)
family-list G P n first sums (suc d) (suc k) h =
    sum-step P n (suc k) 1 signed_orders signed_orders (G (suc k) n) (λ i. minus_one_to (i - 1))
    (λ i. 1) (λ i. G (suc k - i) n)
    (λ i p l. family-list G P n first sums d (suc k - i) (omega arith))
    (whole-sum (λ i. minus_one_to (i - 1)) G P (suc k) n (G (suc k) n) (sums (suc k) (omega arith)))
    (λ μ p e. orders-closed (suc k) μ (omega arith) p e)

pub elementary-in-complete : (k n : ℕ)
    → IsSumOver complete_of n k signed_orders 1 (elementary_of k n)
elementary-in-complete k n =
    family-list elementary_of complete_of n (newton-elementary.first n)
    (λ j h. elementary-sum j n h) k k (omega arith)

pub complete-in-elementary : (k n : ℕ)
    → IsSumOver elementary_of n k signed_orders 1 (complete_of k n)
complete-in-elementary k n =
    family-list complete_of elementary_of n (newton-complete.first n)
    (λ j h. complete-sum j n h) k k (omega arith)

pub power-in-complete : (k n : ℕ) → 0 < k
    → IsSumOver complete_of n k (λ μ. minus_one_to (length μ - 1) *ℤ pos (sized_orders μ)) 1
    (power_sum_of k n)
power-in-complete k n h =
    sum-step complete_of n k 1
    (λ μ. minus_one_to (length μ - 1) *ℤ pos (sized_orders μ)) signed_orders (power_sum_of k n)
    (λ i. minus_one_to (k - i) *ℤ pos i) (λ i. 1) (λ i. elementary_of (k - i) n)
    (λ i p l. elementary-in-complete (k - i) n)
    (whole-sum (λ i. minus_one_to (k - i) *ℤ pos i) elementary_of complete_of k n (power_sum_of k n)
    (power-complete-sum k n h))
    (λ μ p e. power-complete-closed k μ h p e)

pub power-in-elementary : (k n : ℕ) → 0 < k
    → IsSumOver elementary_of n k (λ μ. parity_sign μ *ℤ pos (sized_orders μ)) 1 (power_sum_of k n)
power-in-elementary k n h =
    sum-step elementary_of n k 1 (λ μ. parity_sign μ *ℤ pos (sized_orders μ)) signed_orders
    (power_sum_of k n) (λ i. minus_one_to (i - 1) *ℤ pos i) (λ i. 1)
    (λ i. complete_of (k - i) n)
    (λ i p l. complete-in-elementary (k - i) n)
    (whole-sum (λ i. minus_one_to (i - 1) *ℤ pos i) complete_of elementary_of k n (power_sum_of k n)
    (power-elementary-sum k n h))
    (λ μ p e. power-elementary-closed k μ h p e)

-- ---- the expansions of k!·e_k and k!·h_k in power sums

newton-sum : (G : ℕ → ℕ → Poly) (σ : ℕ → ℤ) → IsNewton G σ → (k n : ℕ) → 0 < k → (φ : List ℕ → ℤ)
    → pos (factorial k) *ℤ pair (G k n) φ
    ≡ total (λ (i : ℕ). (σ i *ℤ pos (rise k i)) *ℤ
    (pos (factorial (k - i)) *ℤ pair (times (G (k - i) n) (power_sum_of i n)) φ)) (after 0 k)
newton-sum G σ is zero n h φ = absurd (omega arith)
newton-sum G σ is (suc k) n h φ =
    ap (λ m. pos m *ℤ pair (G (suc k) n) φ) (mul_comm (suc k) (factorial k))
    ∙ product_assoc (pos (factorial k)) (pos (suc k)) (pair (G (suc k) n) φ)
    ∙ ap (λ z. pos (factorial k) *ℤ z)
    (sym (pair_scale (pos (suc k)) (G (suc k) n) φ)
    ∙ pair_determined (scale (pos (suc k)) (G (suc k) n))
    (flat_map (λ i. scale (σ i) (times (power_sum_of i n) (G (suc k - i) n))) (after 0 (suc k))) φ
    (is.sums (suc k) n)
    ∙ pair_each (λ (i : ℕ). scale (σ i) (times (power_sum_of i n) (G (suc k - i) n)))
    (after 0 (suc k)) φ)
    ∙ sym (total_scale (pos (factorial k))
    (λ (i : ℕ). pair (scale (σ i) (times (power_sum_of i n) (G (suc k - i) n))) φ)
    (after 0 (suc k)))
    ∙ total_among
    (λ (i : ℕ). pos (factorial k) *ℤ pair
    (scale (σ i) (times (power_sum_of i n) (G (suc k - i) n))) φ)
    (λ (i : ℕ). (σ i *ℤ pos (rise (suc k) i)) *ℤ
    (pos (factorial (suc k - i)) *ℤ pair (times (G (suc k - i) n) (power_sum_of i n)) φ))
    (after 0 (suc k))
    (λ i m.
    let b = after_among 0 (suc k) i m in
    let l = b.0 in
    let u = b.1 in
    let d : suc k - 1 ≡ k = omega arith in
    let r = rise-is (suc k - i) (suc k - 1) (omega arith) in
    ap (λ z. pos (factorial k) *ℤ z)
    (pair_scale (σ i) (times (power_sum_of i n) (G (suc k - i) n)) φ
    ∙ ap (λ z. σ i *ℤ z)
    (pair_determined (times (power_sum_of i n) (G (suc k - i) n))
    (times (G (suc k - i) n) (power_sum_of i n)) φ
    (times_comm (power_sum_of i n) (G (suc k - i) n))))
    ∙ ap (λ j. pos j *ℤ (σ i *ℤ pair (times (G (suc k - i) n) (power_sum_of i n)) φ))
    (ap factorial (sym d) ∙ sym r)
    ∙ regroup (pos (rise (suc k) i)) (pos (factorial (suc k - i))) (σ i)
    (pair (times (G (suc k - i) n) (power_sum_of i n)) φ))
  where
    regroup : (r f s x : ℤ) → (r *ℤ f) *ℤ (s *ℤ x) ≡ (s *ℤ r) *ℤ (f *ℤ x)
    regroup r f s x = simp ring (omega (arith, ints))

newton-list : (G : ℕ → ℕ → Poly) (σ : ℕ → ℤ) (τ : List ℕ → ℤ) → IsNewton G σ → τ [] ≡ pos 1
    → ((i : ℕ) (μ : List ℕ) → IsPartition μ → has i μ ≡ true → σ i *ℤ τ (without_one i μ) ≡ τ μ)
    → (n d k : ℕ) → k ≤ d
    → IsSumOver power_sum_of n k (λ μ. τ μ *ℤ pos (cycle_type_count μ)) (factorial k) (G k n)
newton-list G σ τ is first turn n d zero h = search (rules, nothing-left)
newton-list G σ τ is first turn n zero (suc k) h = absurd (omega arith)
newton-list G σ τ is first turn n (suc d) (suc k) h =
    sum-step power_sum_of n (suc k) (factorial (suc k)) (λ μ. τ μ *ℤ pos (cycle_type_count μ))
    (λ μ. τ μ *ℤ pos (cycle_type_count μ)) (G (suc k) n)
    (λ i. σ i *ℤ pos (rise (suc k) i)) (λ i. factorial (suc k - i)) (λ i. G (suc k - i) n)
    (λ i p l. newton-list G σ τ is first turn n d (suc k - i) (omega arith))
    (newton-sum G σ is (suc k) n (omega arith))
    (λ μ p e. cycles-closed σ τ turn (suc k) μ (omega arith) p e)

pub elementary-in-power : (k n : ℕ)
    → IsSumOver power_sum_of n k (λ μ. parity_sign μ *ℤ pos (cycle_type_count μ)) (factorial k)
    (elementary_of k n)
elementary-in-power k n = newton-list elementary_of
    (λ i. minus_one_to (i - 1)) parity_sign newton-elementary refl sign-taken n k k (omega arith)

pub complete-in-power : (k n : ℕ)
    → IsSumOver power_sum_of n k (λ μ. pos 1 *ℤ pos (cycle_type_count μ)) (factorial k)
    (complete_of k n)
complete-in-power k n = newton-list complete_of (λ i. pos 1) (λ μ. pos 1) newton-complete refl
    (λ i μ p e. refl) n k k (omega arith)
