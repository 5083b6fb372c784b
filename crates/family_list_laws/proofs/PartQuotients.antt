-- The coefficients of specs/OnePartLists at a partition μ, computed from the coefficients at the partitions that arise from μ by removing one part.
-- Here m_i is the number of parts i of μ.
use Rattle.std.proofs.Common.{◌≡◌, ◌⊎◌, ℕ, zero, suc, ◌+◌, ◌-◌, ◌*◌, ◌/◌, ◌<◌, ◌≤◌, Bool, true, false, cond, eqb, List, [], ◌∷◌, map, length, refl, sym, ap, ap₂, ◌∙◌, inl, inr, arith, ℤ, pos, ◌+ℤ◌, ◌*ℤ◌, rules}
use Rattle.std.proofs.lemmas.Bool.{cases_eq, cases_lt, eq-eqb, ne_eqb, both_ways, true≢false}
use Rattle.std.proofs.lemmas.Int.{ints}
use Rattle.sym_model.specs.Sum.{total, Among}
use Rattle.sym_model.specs.Partition.{IsPartition, ArePositive, after, size, insert_part}
use Rattle.sym_model.specs.RaisedPart.{without_one, distinct}
use Rattle.sym_model.specs.Bases.{has}
use Rattle.sym_model.specs.Schur.{times_in}
use Rattle.sym_model.specs.Weight.{factorial}
use Rattle.sym_model.proofs.Ring.{counted-product}
use Rattle.sym_model.proofs.Sums.{total_ext, total_add, total_none, total_scale, total_only, total_constant}
use Rattle.sym_model.proofs.AfterLists.{once_after, among_after}
use Rattle.sym_model.proofs.SortedParts.{has_from-times_in, insert_part-without_one, size-without_one, IsPartition-without_one, has-zero, has_past, without_one_here, without_one_past, rows_within_size}
use Rattle.basis_change_laws.specs.AugmentedMonomial.{multiplicity_factorials}
use Rattle.basis_change_laws.proofs.AugmentedMonomials.{multiplicity_factorials-insert}
use Rattle.monomial_laws.proofs.Powers.{factorials-positive}
use Rattle.basis_change_laws.proofs.FactorialQuotients.{quotient-is, rise-is}
use Rattle.family_list_laws.specs.OnePartLists.{orders_of_parts, sized_orders, product_of_parts, centralizer, cycle_type_count}
use lib.IntN.{zero-*ℤ, *ℤ-zero}
use native.Mathlib.Nat.{eq_of_mul-eq-mul_right, mul-pos}
use Rattle.std.proofs.Math.Nat.{mul_assoc, mul_comm, mul_left_comm}
use Rattle.sym_model.proofs.Integers.{pos-cond}
use Rattle.monomial_laws.proofs.Growths.{factorial-step}

-- ---- sums over the parts of a partition, and over its different parts with their multiplicities

pub total-parts : (y : ℕ → ℤ) (k : ℕ) (μ : List ℕ) → ((j : ℕ) → Among j μ → (0 < j) × (j ≤ k))
    → total (λ (i : ℕ). pos (times_in i μ) *ℤ y i) (after 0 k) ≡ total y μ
total-parts y k [] h = total_none (λ (i : ℕ). pos 0 *ℤ y i) (after 0 k) (λ i m. zero-*ℤ (y i))
total-parts y k (j ∷ μ) h =
    total_ext (λ (i : ℕ). pos (times_in i (j ∷ μ)) *ℤ y i)
    (λ (i : ℕ). cond (eqb j i) (y i) (pos 0) +ℤ pos (times_in i μ) *ℤ y i)
    (λ i. counted-product (eqb j i) (times_in i μ) (y i)) (after 0 k)
    ∙ total_add (λ (i : ℕ). cond (eqb j i) (y i) (pos 0)) (λ (i : ℕ). pos (times_in i μ) *ℤ y i)
    (after 0 k)
    ∙ ap₂ ◌+ℤ◌
    (let b = h j (inl refl) in
    total_only (λ (i : ℕ). cond (eqb j i) (y i) (pos 0)) j (after 0 k) (once_after 0 k)
    (among_after 0 k j b.0 (let l = b.1 in omega arith))
    (λ i m d. ap (λ (t : Bool). cond t (y i) (pos 0)) (ne_eqb j i (λ e. d (sym e))))
    ∙ ap (λ (t : Bool). cond t (y j) (pos 0)) (eq-eqb j j refl))
    (total-parts y k μ (λ i m. h i (inr m)))

pub parts-within : (μ : List ℕ) → ArePositive μ → (j : ℕ) → Among j μ → (0 < j) × (j ≤ size μ)
parts-within [] p j m = absurd m
parts-within (a ∷ μ) p j (inl e) = let q = p.0 in (omega arith, omega arith)
parts-within (a ∷ μ) p j (inr m) = search (rules, (parts-within μ p.1 j m))

add_up : (ℕ → ℕ) → List ℕ → ℕ
add_up f [] = 0
add_up f (i ∷ numbers) = f i + add_up f numbers

total-add_up : (f : ℕ → ℕ) (numbers : List ℕ) → total (λ (i : ℕ). pos (f i)) numbers
    ≡ pos (add_up f numbers)
unfolding add_up
total-add_up f [] = refl
total-add_up f (i ∷ numbers) = let e = total-add_up f numbers in omega (arith, ints)

-- let μ be a partition with the multiplicities m_i of its parts i. If x(i)·M = m_i·y(i) for each part i, and N is the sum of y over all parts of μ
-- (counted with multiplicity), then M divides N, and N/M is the sum of x(i) over the different parts i
pub quotient-parts : (M N : ℕ) (x y : ℕ → ℕ) (μ : List ℕ) → 0 < M → IsPartition μ
    → ((i : ℕ) → has i μ ≡ true → x i * M ≡ times_in i μ * y i) → pos N
    ≡ total (λ (j : ℕ). pos (y j)) μ
    → (total (λ (i : ℕ). cond (has i μ) (pos (x i)) (pos 0)) (after 0 (size μ))
    ≡ pos (N / M)) × (N / M * M ≡ N)
quotient-parts M N x y μ some p each sum = (
  total_ext (λ (i : ℕ). cond (has i μ) (pos (x i)) (pos 0))
      (λ (i : ℕ). pos (cond (has i μ) (x i) 0)) (λ i. sym (pos-cond (has i μ) (x i))) (after 0 (size μ))
      ∙ total-add_up (λ (i : ℕ). cond (has i μ) (x i) 0) (after 0 (size μ))
      ∙ ap pos (eq_of_mul-eq-mul_right M some all (N / M) (whole ∙ sym exact)),
  exact,
)
  where
    all : ℕ
    all = add_up (λ (i : ℕ). cond (has i μ) (x i) 0) (after 0 (size μ))

    one : (i : ℕ) (b : Bool) → has i μ ≡ b → M * cond b (x i) 0 ≡ times_in i μ * y i
    one i true e = mul_comm M (x i) ∙ each i e
    one i false e = by (cases_lt 0 (times_in i μ))
      where
        by : (0 < times_in i μ) ⊎ (times_in i μ ≤ 0) → M * 0 ≡ times_in i μ * y i
        by (inl l) = absurd (both_ways (has i μ) e (has_from-times_in i μ l))
        by (inr l) = let z : times_in i μ ≡ 0 = omega arith in let r : M * 0
            ≡ 0 * y i = omega arith in r ∙ ap (λ n. n * y i) (sym z)

    whole : all * M ≡ N
    whole =
        let e : pos (M * all) ≡ pos N =
        ap (λ z. pos M *ℤ z)
        (sym (total-add_up (λ (i : ℕ). cond (has i μ) (x i) 0) (after 0 (size μ))))
        ∙ sym (total_scale (pos M) (λ (i : ℕ). pos (cond (has i μ) (x i) 0)) (after 0 (size μ)))
        ∙ total_ext (λ (i : ℕ). pos M *ℤ pos (cond (has i μ) (x i) 0))
        (λ (i : ℕ). pos (times_in i μ) *ℤ pos (y i)) (λ i. ap pos (one i (has i μ) refl))
        (after 0 (size μ))
        ∙ total-parts (λ i. pos (y i)) (size μ) μ (parts-within μ p.positive)
        ∙ sym sum in
        mul_comm all M ∙ omega (arith, ints)

    exact : N / M * M ≡ N
    exact = quotient-is all M N whole

-- ---- a partition μ without one part i: multiplicities, number of parts, product of the parts

module _ (i : ℕ) (μ : List ℕ) (p : IsPartition μ) (e : has i μ ≡ true) where
  pub part-positive : 0 < i
  part-positive = search (rules, both_ways, has-zero)

  back : insert_part i (without_one i μ) ≡ μ
  back = insert_part-without_one i μ part-positive p.falls e

  pub multiplicities-taken : multiplicity_factorials μ
      ≡ times_in i μ * multiplicity_factorials (without_one i μ)
  multiplicities-taken = search (rules, back, multiplicity_factorials-insert, part-positive)

pub taken-length : (i : ℕ) (μ : List ℕ) → has i μ ≡ true → suc (length (without_one i μ)) ≡ length μ
taken-length i [] e = absurd (true≢false (sym e))
taken-length i (a ∷ μ) e = search (rules, cases_eq, without_one_here, without_one_past, has_past, (taken-length i μ))

pub taken-product : (i : ℕ) (μ : List ℕ) → has i μ ≡ true → product_of_parts μ
    ≡ i * product_of_parts (without_one i μ)
taken-product i [] e = absurd (true≢false (sym e))
taken-product i (a ∷ μ) e = search (rules, cases_eq, without_one_here, has_past, mul_left_comm, without_one_past, (taken-product i μ))

pub multiplicities-positive : (μ : List ℕ) → 0 < multiplicity_factorials μ
multiplicities-positive μ = factorials-positive (map (λ b. times_in b μ) (distinct μ))

product-positive : (μ : List ℕ) → ArePositive μ → 0 < product_of_parts μ
product-positive [] p = omega arith
product-positive (a ∷ μ) p = mul-pos p.0 (product-positive μ p.1)

pub centralizer-positive : (μ : List ℕ) → IsPartition μ → 0 < centralizer μ
centralizer-positive μ p = mul-pos (product-positive μ p.positive) (multiplicities-positive μ)

-- `orders_of_parts`, `sized_orders` and `cycle_type_count` of a partition as sums over its different parts

scaled-sizes : (c : ℕ) (μ : List ℕ) → total (λ (j : ℕ). pos (j * c)) μ ≡ pos (size μ * c)
scaled-sizes c [] = ap pos (let e : 0 ≡ 0 * c = omega arith in e)
scaled-sizes c (j ∷ μ) = search (rules, (scaled-sizes c μ))

-- for a partition μ of l + 1 parts, `orders_of_parts` μ, which is (l + 1)!/Π m_i!, is the sum, over the different parts i of μ, of `orders_of_parts`
-- of μ without one part i
module _ (l : ℕ) (μ : List ℕ) (p : IsPartition μ) (long : length μ ≡ suc l)
    (before : (ρ : List ℕ) → IsPartition ρ → length ρ ≡ l
    → orders_of_parts ρ * multiplicity_factorials ρ ≡ factorial l) where
  orders-taken : (i : ℕ) → has i μ ≡ true
      → orders_of_parts (without_one i μ) * multiplicity_factorials μ ≡ times_in i μ * factorial l
  orders-taken i e =
      let t = taken-length i μ e in
      ap (λ n. orders_of_parts (without_one i μ) * n) (multiplicities-taken i μ p e)
      ∙ mul_left_comm (orders_of_parts (without_one i μ)) (times_in i μ)
      (multiplicity_factorials (without_one i μ))
      ∙ ap (λ n. times_in i μ * n)
      (before (without_one i μ) (IsPartition-without_one i μ p) (omega arith))

  orders-both : (total (λ (i : ℕ). cond (has i μ) (pos (orders_of_parts (without_one i μ))) (pos 0))
      (after 0 (size μ)) ≡ pos (orders_of_parts μ))
      × (orders_of_parts μ * multiplicity_factorials μ ≡ factorial (length μ))
  orders-both =
      quotient-parts (multiplicity_factorials μ) (factorial (length μ))
      (λ i. orders_of_parts (without_one i μ)) (λ j. factorial l) μ
      (multiplicities-positive μ) p orders-taken
      (ap (λ n. pos (factorial n)) long ∙ ap pos (mul_comm (suc l) (factorial l))
      ∙ ap (λ n. pos (factorial l * n)) (sym long) ∙ sym (total_constant (pos (factorial l)) μ))

pub orders-exact : (l : ℕ) (μ : List ℕ) → IsPartition μ → length μ ≡ l
    → orders_of_parts μ * multiplicity_factorials μ ≡ factorial l
orders-exact zero [] p e = refl
orders-exact zero (a ∷ μ) p e = absurd (omega arith)
orders-exact (suc l) μ p e = (orders-both l μ p e (orders-exact l)).1 ∙ ap factorial e

pub orders-sum : (l : ℕ) (μ : List ℕ) → IsPartition μ → length μ ≡ suc l
    → total (λ (i : ℕ). cond (has i μ) (pos (orders_of_parts (without_one i μ))) (pos 0))
    (after 0 (size μ)) ≡ pos (orders_of_parts μ)
orders-sum l μ p e = (orders-both l μ p e (orders-exact l)).0

-- for a partition μ with at least one part, `sized_orders` μ is the sum, over the different parts i of μ, of i times `orders_of_parts` of μ without
-- one i; and `sized_orders` μ times the product of the factorials of the multiplicities is |μ|·(l - 1)!, l being the number of parts
pub sized-orders : (l : ℕ) (μ : List ℕ) → IsPartition μ → length μ ≡ suc l
    → (total (λ (i : ℕ). cond (has i μ) (pos (i * orders_of_parts (without_one i μ))) (pos 0))
    (after 0 (size μ)) ≡ pos (sized_orders μ))
    × (sized_orders μ * multiplicity_factorials μ ≡ size μ * factorial (length μ - 1))
sized-orders l μ p e =
    quotient-parts (multiplicity_factorials μ) (size μ * factorial (length μ - 1))
    (λ i. i * orders_of_parts (without_one i μ)) (λ j. j * factorial l) μ
    (multiplicities-positive μ) p
    (λ i h.
    mul_assoc i (orders_of_parts (without_one i μ)) (multiplicity_factorials μ)
    ∙ ap (λ n. i * n) (orders-taken l μ p e (orders-exact l) i h)
    ∙ mul_left_comm i (times_in i μ) (factorial l))
    ((let d : length μ - 1 ≡ l = omega arith in ap (λ n. pos (size μ * factorial n)) d)
    ∙ sym (scaled-sizes (factorial l) μ))

-- `rise k i`: (k - 1)!/(k - i)!
abbrev pub rise : ℕ → ℕ → ℕ
rise k i = factorial (k - 1) / factorial (k - i)

-- let μ be a partition of k with at least one part. Then `cycle_type_count` μ, which is k!/z_μ, is the sum, over the different parts i of μ, of the
-- numbers (k - 1)!/(k - i)! times `cycle_type_count` of μ without one part i
module _ (l : ℕ) (μ : List ℕ) (p : IsPartition μ) (long : length μ ≡ suc l)
    (before : (ρ : List ℕ) → IsPartition ρ → length ρ ≡ l → cycle_type_count ρ * centralizer ρ
    ≡ factorial (size ρ)) where
  cycles-taken : (i : ℕ) → has i μ ≡ true
      → rise (size μ) i * cycle_type_count (without_one i μ) * centralizer μ
      ≡ times_in i μ * (i * factorial (size μ - 1))
  cycles-taken i e =
      let t = taken-length i μ e in
      let u = size-without_one i μ e in
      let v = part-positive i μ p e in
      let w : size (without_one i μ) ≡ size μ - i = omega arith in
      let r = rise-is (size μ - i) (size μ - 1) (omega arith) in
      ap₂ (λ m n. rise (size μ) i * cycle_type_count (without_one i μ) * (m * n))
      (taken-product i μ e) (multiplicities-taken i μ p e)
      ∙ grouped (rise (size μ) i) (cycle_type_count (without_one i μ)) i
      (product_of_parts (without_one i μ)) (times_in i μ)
      (multiplicity_factorials (without_one i μ))
      ∙ ap (λ n. times_in i μ * (i * (rise (size μ) i * n)))
      (before (without_one i μ) (IsPartition-without_one i μ p) (omega arith) ∙ ap factorial w)
      ∙ ap (λ n. times_in i μ * (i * n)) r
    where
      grouped : (r c i q t m : ℕ) → r * c * (i * q * (t * m)) ≡ t * (i * (r * (c * (q * m))))
      grouped r c i q t m = omega arith

  cycles-both : (total
      (λ (i : ℕ). cond (has i μ) (pos (rise (size μ) i * cycle_type_count (without_one i μ)))
      (pos 0)) (after 0 (size μ)) ≡ pos (cycle_type_count μ))
      × (cycle_type_count μ * centralizer μ ≡ factorial (size μ))
  cycles-both =
      quotient-parts (centralizer μ) (factorial (size μ))
      (λ i. rise (size μ) i * cycle_type_count (without_one i μ))
      (λ j. j * factorial (size μ - 1)) μ
      (centralizer-positive μ p) p cycles-taken
      (ap pos (factorial-step (size μ) some) ∙ sym (scaled-sizes (factorial (size μ - 1)) μ))
    where
      some : 0 < size μ
      some = omega (arith, rows_within_size μ p.positive)

pub cycles-exact : (l : ℕ) (μ : List ℕ) → IsPartition μ → length μ ≡ l
    → cycle_type_count μ * centralizer μ ≡ factorial (size μ)
cycles-exact zero [] p e = refl
cycles-exact zero (a ∷ μ) p e = absurd (omega arith)
cycles-exact (suc l) μ p e = (cycles-both l μ p e (cycles-exact l)).1

pub cycles-sum : (l : ℕ) (μ : List ℕ) → IsPartition μ → length μ ≡ suc l
    → total (λ (i : ℕ). cond (has i μ) (pos (rise (size μ) i * cycle_type_count (without_one i μ)))
    (pos 0)) (after 0 (size μ)) ≡ pos (cycle_type_count μ)
cycles-sum l μ p e = (cycles-both l μ p e (cycles-exact l)).0

pub signed-sum : (μ : List ℕ) (σ : ℤ) (s : ℕ → ℤ) (before : List ℕ → ℤ) (x : ℕ → ℕ) (X : ℕ)
    → ((i : ℕ) → has i μ ≡ true → s i *ℤ before (without_one i μ) ≡ σ *ℤ pos (x i))
    → total (λ (i : ℕ). cond (has i μ) (pos (x i)) (pos 0)) (after 0 (size μ)) ≡ pos X
    → σ *ℤ pos X ≡ total (λ (i : ℕ). cond (has i μ) (s i *ℤ before (without_one i μ)) (pos 0))
    (after 0 (size μ))
signed-sum μ σ s before x X h e =
    ap (λ z. σ *ℤ z) (sym e)
    ∙ sym (total_scale σ (λ (i : ℕ). cond (has i μ) (pos (x i)) (pos 0)) (after 0 (size μ)))
    ∙ total_ext (λ (i : ℕ). σ *ℤ cond (has i μ) (pos (x i)) (pos 0))
    (λ (i : ℕ). cond (has i μ) (s i *ℤ before (without_one i μ)) (pos 0)) (λ i. by i (has i μ) refl)
    (after 0 (size μ))
  where
    by : (i : ℕ) (b : Bool) → has i μ ≡ b → σ *ℤ cond b (pos (x i)) (pos 0)
        ≡ cond b (s i *ℤ before (without_one i μ)) (pos 0)
    by i true f = sym (h i f)
    by i false f = *ℤ-zero σ

pub orders-whole : (μ : List ℕ) → IsPartition μ → orders_of_parts μ * multiplicity_factorials μ
    ≡ factorial (length μ)
orders-whole μ p = orders-exact (length μ) μ p refl

pub sized-whole : (μ : List ℕ) → IsPartition μ → 0 < length μ
    → sized_orders μ * multiplicity_factorials μ ≡ size μ * factorial (length μ - 1)
sized-whole μ p h = (sized-orders (length μ - 1) μ p (omega arith)).1

pub cycles-whole : (μ : List ℕ) → IsPartition μ → cycle_type_count μ * centralizer μ
    ≡ factorial (size μ)
cycles-whole μ p = cycles-exact (length μ) μ p refl
