-- e_k, h_k and p_k as sums of multiples of the products e_i·h_(k-i).
use Rattle.std.proofs.Common.{◌≡◌, ◌⊎◌, ℕ, zero, suc, ◌+◌, ◌-◌, ◌<◌, ◌≤◌, Bool, true, false, ◌&&◌, cond, ◌==◌, leb, List, length, refl, sym, ap, ap₂, ◌∙◌, inl, inr, arith, ℤ, pos, negsuc, neg_ℤ, ◌+ℤ◌, ◌*ℤ◌, flat_map, rules}
use Rattle.std.proofs.lemmas.Bool.{cases_eq, cases_lt, eq-eqb, ne_eqb, le-leb, lt-leb, eqb-true}
use Rattle.std.proofs.lemmas.Int.{ints}
use Rattle.sym_model.specs.Sum.{total, Among}
use Rattle.sym_model.specs.Polynomial.{Poly, Same, In, coefficient, pair, scale, times}
use Rattle.sym_model.specs.Partition.{after, size}
use Rattle.sym_model.specs.PlaceOrders.{minus_one_to}
use Rattle.sym_model.specs.Bases.{has, at_most_one, elementary_of, complete_of, power_sum_of, monomials}
use Rattle.sym_model.proofs.Ring.{product-one, negation-product}
use Rattle.sym_model.proofs.Sums.{total_ext, total_among, total_each, total_scale, total_exchange, total_none, total_only, total_cond}
use Rattle.sym_model.proofs.AfterLists.{after_among, among_after, once_after}
use Rattle.sym_model.proofs.Polynomials.{coefficient_scale, pair_each, pair_scale, pair_determined, same_in, In_each, In_scale, In_times}
use Rattle.sym_model.proofs.PolynomialLaws.{times_comm}
use Rattle.sym_model.proofs.Monomials.{coefficient-monomials, In-monomials}
use Rattle.monomial_laws.specs.MonomialProduct.{splits}
use Rattle.monomial_laws.proofs.Splits.{coefficient_times, length-splits}
use Rattle.monomial_laws.proofs.Arrangements.{sizes-splits}
use Rattle.family_list_laws.proofs.AlternatingSums.{low_total, low_total-ext, low_total-add, low_total-scale, at_zero, signs, rest_signs, rests_none, firsts_none, signed_rests, signed_firsts}
use lib.IntN.{*ℤ-zero, +ℤ_idr}
use Rattle.sym_model.proofs.Integers.{nothing_either, tests_exchanged}

-- ---- the coefficients of the product e_a·h_b

-- 1 if p = a and q = b, and 0 otherwise
abbrev at_sizes : ℕ → ℕ → ℕ → ℕ → ℤ
at_sizes a b p q = cond (p == a) (cond (q == b) (pos 1) (pos 0)) (pos 0)

product-sizes : (n a b : ℕ) (α : List ℕ) → length α ≡ n
    → coefficient (times (elementary_of a n) (complete_of b n)) α ≡ low_total (at_sizes a b) α
product-sizes n a b α long =
    coefficient_times n (elementary_of a n) (complete_of b n) α (In-monomials at_most_one n a)
    (In-monomials (λ β. true) n b) long
    ∙ total_among
    (λ (s : List ℕ × List ℕ). coefficient (elementary_of a n) s.0 *ℤ coefficient
    (complete_of b n) s.1)
    (λ (s : List ℕ × List ℕ). cond (at_most_one s.0) (at_sizes a b (size s.0) (size s.1)) (pos 0))
    (splits α)
    (λ s m.
    let l = length-splits α s m in
    ap₂ ◌*ℤ◌ (coefficient-monomials at_most_one n a s.0) (coefficient-monomials (λ β. true) n b s.1)
    ∙ ap₂ (λ (t u : Bool). cond (t && (size s.0 == a)) (cond (at_most_one s.0) (pos 1) (pos 0))
    (pos 0) *ℤ cond (u && (size s.1 == b)) (pos 1) (pos 0))
    (eq-eqb (length s.0) n (l.0 ∙ long)) (eq-eqb (length s.1) n (l.1 ∙ long))
    ∙ by (at_most_one s.0) (size s.0 == a) (size s.1 == b))
  where
    by : (t u v : Bool)
        → cond (true && u) (cond t (pos 1) (pos 0)) (pos 0) *ℤ cond (true && v) (pos 1) (pos 0)
        ≡ cond t (cond u (cond v (pos 1) (pos 0)) (pos 0)) (pos 0)
    by true true true = refl
    by true true false = refl
    by true false true = refl
    by true false false = refl
    by false true true = refl
    by false true false = refl
    by false false true = refl
    by false false false = refl

weighted : (n k : ℕ) (x y : ℕ → ℕ) (v : ℕ → ℤ) (W : ℕ → ℕ → ℤ) (α : List ℕ) → length α ≡ n
    → ((p q : ℕ) → p + q ≡ size α → total (λ (i : ℕ). v i *ℤ at_sizes (x i) (y i) p q) (after 0 k)
    ≡ cond (size α == k) (W p q) (pos 0))
    → total (λ (i : ℕ). v i *ℤ coefficient (times (elementary_of (x i) n) (complete_of (y i) n)) α)
    (after 0 k) ≡ cond (size α == k) (low_total W α) (pos 0)
weighted n k x y v W α long pick =
    total_ext (λ (i : ℕ). v i *ℤ coefficient
    (times (elementary_of (x i) n) (complete_of (y i) n)) α)
    (λ (i : ℕ). total
    (λ (s : List ℕ × List ℕ). v i *ℤ cond (at_most_one s.0)
    (at_sizes (x i) (y i) (size s.0) (size s.1)) (pos 0)) (splits α))
    (λ i. ap (λ z. v i *ℤ z) (product-sizes n (x i) (y i) α long)
    ∙ sym (total_scale (v i)
    (λ (s : List ℕ × List ℕ). cond (at_most_one s.0) (at_sizes (x i) (y i) (size s.0) (size s.1))
    (pos 0)) (splits α)))
    (after 0 k)
    ∙ total_exchange
    (λ (i : ℕ) (s : List ℕ × List ℕ). v i *ℤ cond (at_most_one s.0)
    (at_sizes (x i) (y i) (size s.0) (size s.1)) (pos 0)) (after 0 k) (splits α)
    ∙ total_among
    (λ (s : List ℕ × List ℕ). total
    (λ (i : ℕ). v i *ℤ cond (at_most_one s.0) (at_sizes (x i) (y i) (size s.0) (size s.1)) (pos 0))
    (after 0 k))
    (λ (s : List ℕ × List ℕ). cond (size α == k)
    (cond (at_most_one s.0) (W (size s.0) (size s.1)) (pos 0)) (pos 0))
    (splits α)
    (λ s m. by s (at_most_one s.0) (pick (size s.0) (size s.1) (sizes-splits α s m)))
    ∙ total_cond (size α == k)
    (λ (s : List ℕ × List ℕ). cond (at_most_one s.0) (W (size s.0) (size s.1)) (pos 0)) (splits α)
  where
    by : (s : List ℕ × List ℕ) (t : Bool)
        → total (λ (i : ℕ). v i *ℤ at_sizes (x i) (y i) (size s.0) (size s.1)) (after 0 k)
        ≡ cond (size α == k) (W (size s.0) (size s.1)) (pos 0)
        → total (λ (i : ℕ). v i *ℤ cond t (at_sizes (x i) (y i) (size s.0) (size s.1)) (pos 0))
        (after 0 k) ≡ cond (size α == k) (cond t (W (size s.0) (size s.1)) (pos 0)) (pos 0)
    by s true e = e
    by s false e = total_none (λ (i : ℕ). v i *ℤ pos 0) (after 0 k) (λ i m. *ℤ-zero (v i))
        ∙ sym (nothing_either (size α == k))

-- sums over i from 1 to k in which at most one summand is not 0
module _ (k : ℕ) (v : ℕ → ℤ) where
  picked : (m i₀ : ℕ) (f : ℕ → ℤ) → m ≡ k
      → ((i : ℕ) → Among i (after 0 k) → (i ≡ i₀ → ⊥) → f i ≡ pos 0)
      → (0 < i₀ → i₀ ≤ k → f i₀ ≡ v i₀) → i₀ ≤ k
      → total f (after 0 k) ≡ cond (m == k) (cond (leb 1 i₀) (v i₀) (pos 0)) (pos 0)
  picked m i₀ f e others here low = by (cases_lt 0 i₀)
      ∙ ap (λ (t : Bool). cond t (cond (leb 1 i₀) (v i₀) (pos 0)) (pos 0)) (sym (eq-eqb m k e))
    where
      by : (0 < i₀) ⊎ (i₀ ≤ 0) → total f (after 0 k) ≡ cond (leb 1 i₀) (v i₀) (pos 0)
      by (inl l) = total_only f i₀ (after 0 k) (once_after 0 k)
          (among_after 0 k i₀ l (omega arith)) others ∙ here l low
          ∙ ap (λ (t : Bool). cond t (v i₀) (pos 0)) (sym (le-leb 1 i₀ l))
      by (inr l) =
          total_none f (after 0 k)
          (λ i m. others i m (λ d. let r = (after_among 0 k i m).0 in absurd (omega arith)))
          ∙ ap (λ (t : Bool). cond t (v i₀) (pos 0)) (sym (lt-leb 1 i₀ (omega arith)))

  pick-second : (m p q : ℕ) → p + q ≡ m
      → total (λ (i : ℕ). v i *ℤ at_sizes (k - i) i p q) (after 0 k)
      ≡ cond (m == k) (cond (leb 1 q) (v q) (pos 0)) (pos 0)
  pick-second m p q s = by (cases_eq m k)
    where
      far : (i : ℕ) → ((p ≡ k - i) → (q ≡ i) → ⊥) → v i *ℤ at_sizes (k - i) i p q ≡ pos 0
      far i n = tried (cases_eq p (k - i)) (cases_eq q i)
        where
          tried : (p ≡ k - i) ⊎ (p ≡ k - i → ⊥) → (q ≡ i) ⊎ (q ≡ i → ⊥)
              → v i *ℤ at_sizes (k - i) i p q ≡ pos 0
          tried (inl d) (inl e) = absurd (n d e)
          tried (inl d) (inr e) = ap (λ z. v i *ℤ z)
              (ap₂ (λ (t u : Bool). cond t (cond u (pos 1) (pos 0)) (pos 0)) (eq-eqb p (k - i) d)
              (ne_eqb q i e)) ∙ *ℤ-zero (v i)
          tried (inr d) e = ap (λ z. v i *ℤ z)
              (ap (λ (t : Bool). cond t (cond (q == i) (pos 1) (pos 0)) (pos 0))
              (ne_eqb p (k - i) d)) ∙ *ℤ-zero (v i)

      by : (m ≡ k) ⊎ (m ≡ k → ⊥) → total (λ (i : ℕ). v i *ℤ at_sizes (k - i) i p q) (after 0 k)
          ≡ cond (m == k) (cond (leb 1 q) (v q) (pos 0)) (pos 0)
      by (inl e) =
          picked m q (λ (i : ℕ). v i *ℤ at_sizes (k - i) i p q) e
          (λ i r d. far i (λ x y. d (sym y)))
          (λ l h. ap (λ z. v q *ℤ z)
          (ap₂ (λ (t u : Bool). cond t (cond u (pos 1) (pos 0)) (pos 0))
          (eq-eqb p (k - q) (omega arith)) (eq-eqb q q refl)) ∙ product-one (v q))
          (omega arith)
      by (inr n) =
          total_none (λ (i : ℕ). v i *ℤ at_sizes (k - i) i p q) (after 0 k)
          (λ i r. let l = (after_among 0 k i r).1 in far i (λ x y. n (omega arith)))
          ∙ ap (λ (t : Bool). cond t (cond (leb 1 q) (v q) (pos 0)) (pos 0)) (sym (ne_eqb m k n))

  pick-first : (m p q : ℕ) → p + q ≡ m
      → total (λ (i : ℕ). v i *ℤ at_sizes i (k - i) p q) (after 0 k)
      ≡ cond (m == k) (cond (leb 1 p) (v p) (pos 0)) (pos 0)
  pick-first m p q s =
      total_ext (λ (i : ℕ). v i *ℤ at_sizes i (k - i) p q)
      (λ (i : ℕ). v i *ℤ at_sizes (k - i) i q p)
      (λ i. ap (λ z. v i *ℤ z) (tests_exchanged (p == i) (q == (k - i)) (pos 1))) (after 0 k)
      ∙ pick-second m q p (omega arith)

-- the sum of v(i)·G_(k-i)·P_i over i = 1, .., k, in n variables
abbrev pub scaled_products : (ℕ → ℤ) → (ℕ → ℕ → Poly) → (ℕ → ℕ → Poly) → ℕ → ℕ → Poly
scaled_products v G P k n = flat_map (λ i. scale (v i) (times (G (k - i) n) (P i n))) (after 0 k)

coefficient-products : (v : ℕ → ℤ) (G P : ℕ → ℕ → Poly) (k n : ℕ) (α : List ℕ)
    → coefficient (scaled_products v G P k n) α
    ≡ total (λ (i : ℕ). v i *ℤ coefficient (times (G (k - i) n) (P i n)) α) (after 0 k)
coefficient-products v G P k n α = search (rules, total_each, total_ext, coefficient_scale)

In-products : (v : ℕ → ℤ) (G P : ℕ → ℕ → Poly) (k n : ℕ) → ((i : ℕ) → In n (G i n))
    → ((i : ℕ) → In n (P i n)) → In n (scaled_products v G P k n)
In-products v G P k n g p =
    In_each n (λ (i : ℕ). scale (v i) (times (G (k - i) n) (P i n))) (after 0 k)
    (λ i m. In_scale n (v i) (times (G (k - i) n) (P i n))
    (In_times n (G (k - i) n) (P i n) (g (k - i)) (p i)))

low : (n i : ℕ) → In n (elementary_of i n)
low n i = In-monomials at_most_one n i

all : (n i : ℕ) → In n (complete_of i n)
all n i = In-monomials (λ β. true) n i

module _ (k n : ℕ) (some : 0 < k) where
  summed : (test : List ℕ → Bool) (x y : ℕ → ℕ) (v : ℕ → ℤ) (W : ℕ → ℕ → ℤ) (α : List ℕ) → length α
      ≡ n
      → ((m p q : ℕ) → p + q ≡ m → total (λ (i : ℕ). v i *ℤ at_sizes (x i) (y i) p q) (after 0 k)
      ≡ cond (m == k) (W p q) (pos 0))
      → (size α ≡ k → low_total W α ≡ cond (test α) (pos 1) (pos 0))
      → coefficient (monomials test n k) α
      ≡ total (λ (i : ℕ). v i *ℤ coefficient
      (times (elementary_of (x i) n) (complete_of (y i) n)) α) (after 0 k)
  summed test x y v W α long pick value =
      coefficient-monomials test n k α
      ∙ ap (λ (t : Bool). cond (t && (size α == k)) (cond (test α) (pos 1) (pos 0)) (pos 0))
      (eq-eqb (length α) n long)
      ∙ by (size α == k) refl
      ∙ sym (weighted n k x y v W α long (λ p q s. pick (size α) p q s))
    where
      by : (t : Bool) → (size α == k) ≡ t → cond t (cond (test α) (pos 1) (pos 0)) (pos 0)
          ≡ cond t (low_total W α) (pos 0)
      by true e = sym (value (eqb-true (size α) k e))
      by false e = refl

  turned : (i : ℕ) → cond (leb 1 i) (minus_one_to (i - 1)) (pos 0)
      ≡ at_zero i +ℤ negsuc 0 *ℤ minus_one_to i
  turned zero = refl
  turned (suc i) = search rules

  apart : (α : List ℕ) → size α ≡ k → at_zero (size α) ≡ pos 0
  apart α e = search rules

  without_last : (x : ℤ) → x +ℤ negsuc 0 *ℤ pos 0 ≡ x
  without_last x = +ℤ_idr x

  pub elementary-sum : Same (elementary_of k n)
      (scaled_products (λ i. minus_one_to (i - 1)) elementary_of complete_of k n)
  elementary-sum =
      same_in n (elementary_of k n)
      (scaled_products (λ i. minus_one_to (i - 1)) elementary_of complete_of k n)
      (low n k) (In-products (λ i. minus_one_to (i - 1)) elementary_of complete_of k n (low n)
      (all n))
      (λ α long.
      summed at_most_one (λ i. k - i) (λ i. i) (λ i. minus_one_to (i - 1))
      (λ p q. cond (leb 1 q) (minus_one_to (q - 1)) (pos 0)) α long
      (pick-second k (λ i. minus_one_to (i - 1)))
      (λ e.
      low_total-ext (λ p q. cond (leb 1 q) (minus_one_to (q - 1)) (pos 0))
      (λ p q. at_zero q +ℤ negsuc 0 *ℤ minus_one_to q) α (λ p q. turned q)
      ∙ low_total-add (λ p q. at_zero q) (λ p q. negsuc 0 *ℤ minus_one_to q) α
      ∙ ap₂ ◌+ℤ◌ (rests_none α)
      (low_total-scale (negsuc 0) (λ p q. minus_one_to q) α
      ∙ ap (λ z. negsuc 0 *ℤ z) (rest_signs α ∙ apart α e))
      ∙ without_last (cond (at_most_one α) (pos 1) (pos 0)))
      ∙ sym (coefficient-products (λ i. minus_one_to (i - 1)) elementary_of complete_of k n α))

  exchanged : (v : ℕ → ℤ) (α : List ℕ)
      → total (λ (i : ℕ). v i *ℤ coefficient (times (elementary_of i n) (complete_of (k - i) n)) α)
      (after 0 k) ≡ coefficient (scaled_products v complete_of elementary_of k n) α
  exchanged v α = search (rules, total_ext, times_comm, coefficient-products)

  pub complete-sum : Same (complete_of k n)
      (scaled_products (λ i. minus_one_to (i - 1)) complete_of elementary_of k n)
  complete-sum =
      same_in n (complete_of k n)
      (scaled_products (λ i. minus_one_to (i - 1)) complete_of elementary_of k n)
      (all n k) (In-products (λ i. minus_one_to (i - 1)) complete_of elementary_of k n (all n)
      (low n))
      (λ α long.
      summed (λ β. true) (λ i. i) (λ i. k - i) (λ i. minus_one_to (i - 1))
      (λ p q. cond (leb 1 p) (minus_one_to (p - 1)) (pos 0)) α long
      (pick-first k (λ i. minus_one_to (i - 1)))
      (λ e.
      low_total-ext (λ p q. cond (leb 1 p) (minus_one_to (p - 1)) (pos 0))
      (λ p q. at_zero p +ℤ negsuc 0 *ℤ minus_one_to p) α (λ p q. turned p)
      ∙ low_total-add (λ p q. at_zero p) (λ p q. negsuc 0 *ℤ minus_one_to p) α
      ∙ ap₂ ◌+ℤ◌ (firsts_none α)
      (low_total-scale (negsuc 0) (λ p q. minus_one_to p) α
      ∙ ap (λ z. negsuc 0 *ℤ z) (signs α ∙ apart α e))
      ∙ without_last (pos 1))
      ∙ exchanged (λ i. minus_one_to (i - 1)) α)

  pub power-complete-sum : Same (power_sum_of k n)
      (scaled_products (λ i. minus_one_to (k - i) *ℤ pos i) elementary_of complete_of k n)
  power-complete-sum =
      same_in n (power_sum_of k n)
      (scaled_products (λ i. minus_one_to (k - i) *ℤ pos i) elementary_of complete_of k n)
      (In-monomials (has k) n k)
      (In-products (λ i. minus_one_to (k - i) *ℤ pos i) elementary_of complete_of k n (low n)
      (all n))
      (λ α long.
      summed (has k) (λ i. k - i) (λ i. i) (λ i. minus_one_to (k - i) *ℤ pos i)
      (λ p q. minus_one_to p *ℤ pos q) α long
      (λ m p q s. pick-second k (λ i. minus_one_to (k - i) *ℤ pos i) m p q s
      ∙ same_weight m p q s (m == k) refl)
      (λ e. signed_rests α (omega arith) ∙ ap (λ j. cond (has j α) (pos 1) (pos 0)) e)
      ∙ sym (coefficient-products
      (λ i. minus_one_to (k - i) *ℤ pos i) elementary_of complete_of k n α))
    where
      same_weight : (m p q : ℕ) → p + q ≡ m → (t : Bool) → (m == k) ≡ t
          → cond t (cond (leb 1 q) (minus_one_to (k - q) *ℤ pos q) (pos 0)) (pos 0)
          ≡ cond t (minus_one_to p *ℤ pos q) (pos 0)
      same_weight m p q s false e = refl
      same_weight m p zero s true e = sym (*ℤ-zero (minus_one_to p))
      same_weight m p (suc q) s true e =
          let f = eqb-true m k e in
          let d : k - suc q ≡ p = omega arith in
          ap₂ (λ (t : Bool) (j : ℕ). cond t (minus_one_to j *ℤ pos (suc q)) (pos 0))
          (le-leb 1 (suc q) (omega arith)) d

  pub power-elementary-sum : Same (power_sum_of k n)
      (scaled_products (λ i. minus_one_to (i - 1) *ℤ pos i) complete_of elementary_of k n)
  power-elementary-sum =
      same_in n (power_sum_of k n)
      (scaled_products (λ i. minus_one_to (i - 1) *ℤ pos i) complete_of elementary_of k n)
      (In-monomials (has k) n k)
      (In-products (λ i. minus_one_to (i - 1) *ℤ pos i) complete_of elementary_of k n (all n)
      (low n))
      (λ α long.
      summed (has k) (λ i. i) (λ i. k - i) (λ i. minus_one_to (i - 1) *ℤ pos i)
      (λ p q. cond (leb 1 p) (minus_one_to (p - 1) *ℤ pos p) (pos 0)) α long
      (pick-first k (λ i. minus_one_to (i - 1) *ℤ pos i))
      (λ e.
      low_total-ext (λ p q. cond (leb 1 p) (minus_one_to (p - 1) *ℤ pos p) (pos 0))
      (λ p q. negsuc 0 *ℤ (minus_one_to p *ℤ pos p)) α (λ p q. same_weight p)
      ∙ low_total-scale (negsuc 0) (λ p q. minus_one_to p *ℤ pos p) α
      ∙ ap (λ z. negsuc 0 *ℤ z)
      (signed_firsts α (omega arith) ∙ ap (λ j. neg_ℤ (cond (has j α) (pos 1) (pos 0))) e)
      ∙ again (cond (has k α) (pos 1) (pos 0)))
      ∙ exchanged (λ i. minus_one_to (i - 1) *ℤ pos i) α)
    where
      again : (z : ℤ) → negsuc 0 *ℤ neg_ℤ z ≡ z
      again z = omega (arith, ints)

      same_weight : (p : ℕ) → cond (leb 1 p) (minus_one_to (p - 1) *ℤ pos p) (pos 0)
          ≡ negsuc 0 *ℤ (minus_one_to p *ℤ pos p)
      same_weight zero = refl
      same_weight (suc p) =
          let e : suc p - 1 ≡ p = omega arith in
          ap₂ (λ (t : Bool) (m : ℕ). cond t (minus_one_to m *ℤ pos (suc p)) (pos 0))
          (le-leb 1 (suc p) (omega arith)) e
          ∙ sym (ap (λ z. negsuc 0 *ℤ z) (negation-product (minus_one_to p) (pos (suc p)))
          ∙ again (minus_one_to p *ℤ pos (suc p)))

pub pair-products : (v : ℕ → ℤ) (G P : ℕ → ℕ → Poly) (k n : ℕ) (f : Poly)
    → Same f (scaled_products v G P k n) → (φ : List ℕ → ℤ)
    → pair f φ ≡ total (λ (i : ℕ). v i *ℤ pair (times (G (k - i) n) (P i n)) φ) (after 0 k)
pair-products v G P k n f e φ =
    pair_determined f (scaled_products v G P k n) φ e
    ∙ pair_each (λ (i : ℕ). scale (v i) (times (G (k - i) n) (P i n))) (after 0 k) φ
    ∙ total_ext (λ (i : ℕ). pair (scale (v i) (times (G (k - i) n) (P i n))) φ)
    (λ (i : ℕ). v i *ℤ pair (times (G (k - i) n) (P i n)) φ)
    (λ i. pair_scale (v i) (times (G (k - i) n) (P i n)) φ) (after 0 k)
