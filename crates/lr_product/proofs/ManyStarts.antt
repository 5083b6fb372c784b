-- The product of a list of terms and one more factor `next`, computed with one table: the columns of `next` are added to each partition that is the
-- label of a term (a *start*), and the ways to do so are counted |c| times if c is the coefficient of the term. The counts of the table are the
-- coefficients of the product.
use Rattle.std.proofs.Common.{◌≡◌, ℕ, ◌+◌, ◌*◌, ◌^◌, ◌<◌, ◌≤◌, inl, inr, min, nat_abs, List, [], ◌∷◌, ◌++◌, refl, sym, ap, ap₂, ◌∙◌, subst, arith, ℤ, pos, negsuc, ◌+ℤ◌, ◌*ℤ◌, rules}
use Rattle.std.specs.Prelude.{◌≤ℤ◌, Result, IfOk, OnOk}
use Rattle.std.proofs.lemmas.Bool.{cases_lt, cases_Bool, both_ways}
use Rattle.std.proofs.lemmas.Int.{ints}
use Rattle.sym_model.specs.Sum.{Among}
use Rattle.sym_model.specs.Partition.{IsPartition, rows, size}
use Rattle.sym_model.specs.Polynomial.{Term, Same, coefficient, resize, scale}
use Rattle.sym_model.specs.GoodTableau.{product_count}
use Rattle.sym_model.specs.Products.{classical_product}
use Rattle.sym_model.specs.WholeTerms.{WholeTerms}
use Rattle.sym_model.proofs.Orders.{is_partition-tells, is_partition-from}
use Rattle.sym_model.proofs.Polynomials.{coefficient_plus, coefficient_scale}
use Rattle.sym_model.proofs.Sums.{Among_from_each, Among_from_map}
use Rattle.tableau_laws.specs.ColumnFold.{column_lines}
use Rattle.alternant_laws.proofs.ClassicalProducts.{classical_product-coefficient, classical_product-term}
use Rattle.product_laws.specs.FactorSteps.{multiplied}
use Rattle.product_laws.specs.CountedProducts.{Reaches}
use Rattle.linear_combinations.proofs.Steps.{if_answered}
use Rattle.lr_product.specs.Capped.{Agree}
use Rattle.lr_product.specs.Counts.{good_count, HasCounts, IsPastSomewhere}
use Rattle.lr_product.specs.ProductOfFactors.{AreSmallCounts, AllMayMeet}
use Rattle.lr_product.specs.WeighedSum.{weighed, started, over_states, comes_to, unreached}
use Rattle.lr_product.proofs.GoodCounts.{SameCounts, same_product, product_counts, counts_agree, fits_agree, past_agree, lists_in, fits_in, past_in}
use Rattle.sym_model.specs.Sum.{sum_by}
use Rattle.sym_model.proofs.NumberSums.{sum_by-append}
use Rattle.sym_model.proofs.NumberSums.{sum_by-among, sum_by-none}
use Rattle.lr_product.proofs.Rounds.{start_within}
use Rattle.std.proofs.lemmas.Result.{on_ok_weaker}
use Rattle.product_laws.proofs.CountLists.{no_label}

pub started-push : (n : ℕ) (f : List ℕ → List ℕ → ℕ) (done : WholeTerms) (t : Term)
    → started n f done + nat_abs t.1 * f (resize n t.0) [] ≡ started n f (done ++ t ∷ [])
started-push n f done t = search (rules, sum_by-append)

module _ (n k : ℕ) (next : List ℕ) (product : WholeTerms) (q : IsPartition next) (may : AllMayMeet k next product) (most : n ≤ k)
    (enough : (t : Term) → Among t product → (rows t.0 ≤ n) × (min k (rows t.0 + rows next) ≤ n)) where
  pub starts_within : (m : ℕ) → m + size next ≤ 4096 → 4096 ≤ m + size next → started n (unreached n m) product ≡ 0
  starts_within m l g =
      sum_by-none (λ (t : List ℕ × ℤ). nat_abs t.1 * unreached n m (resize n t.0) []) product
      (λ t a.
      let h = may t a in
      let c = h.cells in
      let z = start_within n m t.0 [] h.partition (omega arith) in
      ap (λ x. nat_abs t.1 * x) z ∙ (let o : nat_abs t.1 * 0 ≡ 0 = omega arith in o))

  -- the sum, over the terms c·λ of the list `product`, of |c| times the number of ways to add the columns of the shape `next` to λ such that the sum
  -- reached is ν
  abbrev pub good_sum : List ℕ → ℕ
  good_sum ν = started n (over_states n (column_lines next []) (comes_to ν)) product

  abbrev pub count_sum : List ℕ → ℕ
  count_sum ν = sum_by (λ (t : List ℕ × ℤ). nat_abs t.1 * product_count k t.0 next ν) product

  at_label : (t : Term) → Among t product → SameCounts n k (good_count n t.0 next []) (product_count k t.0 next)
  at_label t a = let e = enough t a in same_product n k t.0 next most e.1 (may t a).partition q e.0

  pub sums_same : SameCounts n k good_sum count_sum
  sums_same = record {
    fewer = most;
    same_within = λ ν p l.
        sum_by-among (λ (t : List ℕ × ℤ). nat_abs t.1 * product_count k t.0 next ν) (λ (t : List ℕ × ℤ). nat_abs t.1 * good_count n t.0 next [] ν) product
        (λ t a. ap (λ x. nat_abs t.1 * x) ((at_label t a).same_within ν p l));
    none_past = λ ν p l g.
        sum_by-none (λ (t : List ℕ × ℤ). nat_abs t.1 * product_count k t.0 next ν) product
        (λ t a. ap (λ x. nat_abs t.1 * x) ((at_label t a).none_past ν p l g) ∙ (let o : nat_abs t.1 * 0 ≡ 0 = omega arith in o));
  }

multiplied-counted : (k : ℕ) (next : List ℕ) (product : WholeTerms) → IsPartition next → AllMayMeet k next product → (ν : List ℕ) → IsPartition ν → rows ν ≤ k
    → coefficient (multiplied k next product) ν ≡ pos (sum_by (λ (t : List ℕ × ℤ). nat_abs t.1 * product_count k t.0 next ν) product)
multiplied-counted k next [] q may ν p l = refl
multiplied-counted k next (t ∷ product) q may ν p l =
    let first = may t (inl refl) in
    let here : coefficient (classical_product k (t.0 ∷ next ∷ [])) ν ≡ pos (product_count k t.0 next ν) =
    classical_product-coefficient k (t.0 ∷ next ∷ []) ν p l ∙ product_counts k t.0 next first.partition q ν p l in
    coefficient_plus (scale t.1 (classical_product k (t.0 ∷ next ∷ []))) (multiplied k next product) ν
    ∙ ap₂ ◌+ℤ◌ (coefficient_scale t.1 (classical_product k (t.0 ∷ next ∷ [])) ν ∙ ap (λ z. t.1 *ℤ z) here ∙ positive t.1 first.positive (product_count k t.0 next ν))
    (multiplied-counted k next product q (λ u m. may u (inr m)) ν p l)
  where
    positive : (z : ℤ) → pos 1 ≤ℤ z → (c : ℕ) → z *ℤ pos c ≡ pos (nat_abs z * c)
    positive (pos a) h c = refl
    positive (negsuc a) h c = absurd (omega (arith, ints))

multiplied-outside : (k : ℕ) (next : List ℕ) (product : WholeTerms) (ν : List ℕ) → (IsPartition ν → rows ν ≤ k → ⊥) → coefficient (multiplied k next product) ν ≡ pos 0
multiplied-outside k next product ν out =
    no_label (multiplied k next product) ν (λ t m e.
    let from = Among_from_each (λ (t : List ℕ × ℤ). scale t.1 (classical_product k (t.0 ∷ next ∷ []))) t product m in
    let u = Among_from_map (λ (v : Term). let term : Term = (v.0, from.0.1 *ℤ v.1) in term) t (classical_product k (from.0.0 ∷ next ∷ [])) from.2 in
    let c = classical_product-term k (from.0.0 ∷ next ∷ []) u.0 u.1 in
    let label : u.0.0 ≡ ν = sym (ap (λ (v : Term). v.0) u.2) ∙ e in
    out (subst IsPartition label c.partition) (subst (λ l. rows l ≤ k) label c.few))

module _ (k : ℕ) (next : List ℕ) (product : WholeTerms) (q : IsPartition next) (may : AllMayMeet k next product) where
  counts : List ℕ → ℕ
  counts ν = sum_by (λ (t : List ℕ × ℤ). nat_abs t.1 * product_count k t.0 next ν) product

  by_label : (P : List ℕ → Type 0) → ((ν : List ℕ) → IsPartition ν → rows ν ≤ k → P ν) → ((ν : List ℕ) → (IsPartition ν → rows ν ≤ k → ⊥) → P ν) → (ν : List ℕ) → P ν
  by_label P inside outside ν = search (rules, cases_Bool, cases_lt, is_partition-tells, both_ways, is_partition-from)

  pub is_multiplied : (terms : WholeTerms)
      → HasCounts k (λ ν. sum_by (λ (t : List ℕ × ℤ). nat_abs t.1 * product_count k t.0 next ν) product) terms → Same terms (multiplied k next product)
  is_multiplied terms c =
      by_label (λ ν. coefficient terms ν ≡ coefficient (multiplied k next product) ν)
      (λ ν p l. c.counts ν p l ∙ sym (multiplied-counted k next product q may ν p l))
      (λ ν out.
      no_label terms ν (λ t m e. let h = c.labels t m in out (subst IsPartition e h.0) (subst (λ l. rows l ≤ k) e h.1))
      ∙ sym (multiplied-outside k next product ν out))

  pub multiplied-small : ((ν : List ℕ) → IsPartition ν → rows ν ≤ k → sum_by (λ (t : List ℕ × ℤ). nat_abs t.1 * product_count k t.0 next ν) product < 2 ^ 127)
      → AreSmallCounts (multiplied k next product)
  multiplied-small fits = search (rules, by_label, multiplied-counted, ints, multiplied-outside)

  pub multiplied-past : IsPastSomewhere k (λ ν. sum_by (λ (t : List ℕ × ℤ). nat_abs t.1 * product_count k t.0 next ν) product)
      → Reaches k (2 ^ 127) (multiplied k next product)
  multiplied-past past = search (rules, multiplied-counted, ints)

module _ (n k : ℕ) (next : List ℕ) (product : WholeTerms) (es : List (List ℕ × ℕ)) (q : IsPartition next) (may : AllMayMeet k next product) (most : n ≤ k)
    (enough : (t : Term) → Among t product → (rows t.0 ≤ n) × (min k (rows t.0 + rows next) ≤ n))
    (agree : (ν : List ℕ) → Agree (weighed n (comes_to ν) es) (started n (over_states n (column_lines next []) (comes_to ν)) product)) where
  same : SameCounts n k (good_sum n k next product q may most enough) (count_sum n k next product q may most enough)
  same = sums_same n k next product q may most enough

  module _ {E : Type 0} (r : Result WholeTerms E) (fits : OnOk r ((ν : List ℕ) → weighed n (comes_to ν) es < 2 ^ 127)) where
    pub is_product : IfOk r (HasCounts n (λ ν. weighed n (comes_to ν) es)) → IfOk r (λ terms. Same terms (multiplied k next product))
    is_product counts =
        if_answered r (counts_agree n (λ ν. weighed n (comes_to ν) es) (good_sum n k next product q may most enough) r agree counts fits)
        (λ terms l. is_multiplied k next product q may terms (lists_in n k _ _ terms same l))

    pub product_small : OnOk r (AreSmallCounts (multiplied k next product))
    product_small =
        on_ok_weaker r (λ small. multiplied-small k next product q may (fits_in n k _ _ same small)) (fits_agree (λ ν. weighed n (comes_to ν) es) (good_sum n k next product q may most enough) r agree fits)

  pub product_past : IsPastSomewhere n (λ ν. weighed n (comes_to ν) es) → Reaches k (2 ^ 127) (multiplied k next product)
  product_past past = search (rules, multiplied-past, past_in, same, past_agree)
