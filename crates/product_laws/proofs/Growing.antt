-- Classical products with one more factor: no coefficient is negative, no label has more rows than all factors together, and if the product of the
-- earlier factors has a coefficient of at least c, so has the product with one more factor. The *classical product* of some partitions in k variables
-- is the list of terms that expands the product of their Schur polynomials; its labels are partitions with at most k rows.
use Rattle.std.proofs.Common.{◌≡◌, ℕ, ◌+◌, ◌≤◌, ◌<◌, ◌⊎◌, inl, inr, Bool, true, false, cond, List, [], ◌∷◌, ◌++◌, append_assoc, append-nil, map, refl, sym, ◌∙◌, ap, subst, arith, ℤ, pos, ◌*ℤ◌, filter, rules}
use Rattle.std.specs.Prelude.{◌≤ℤ◌, nat_abs, nat_le, nat_lt}
use Rattle.std.proofs.lemmas.Bool.{cases_lt}
use Rattle.std.proofs.lemmas.Int.{ints}
use Rattle.sym_model.specs.Sum.{Among}
use Rattle.sym_model.specs.Polynomial.{Term, same, coefficient, scale}
use Rattle.sym_model.specs.Partition.{IsPartition, size, rows, ArePartitions}
use Rattle.sym_model.specs.Alternant.{schur_coefficient}
use Rattle.sym_model.specs.PartitionList.{partitions_of}
use Rattle.sym_model.specs.WholeTerms.{WholeTerms}
use Rattle.sym_model.specs.Products.{schur_product, classical_product}
use Rattle.sym_model.proofs.Sums.{Among_from_map, Among_from_each, Among_from_select}
use Rattle.sym_model.proofs.PartitionLists.{partitions_of-tells}
use Rattle.sym_model.proofs.Exponents.{same_true}
use Rattle.sym_model.proofs.SortedParts.{IsPartition-none}
use Rattle.sym_model.proofs.Polynomials.{coefficient_scale, at_only-nonnegative}
use Rattle.sym_model.proofs.Integers.{product-at_least, at_least_one}
use Rattle.tableau_laws.proofs.ColumnCounts.{contains_nothing}
use Rattle.alternant_laws.proofs.ClassicalProducts.{classical_product-coefficient, classical_product-term, classical_product-once, IsClassicalTerm}
use Rattle.alternant_laws.proofs.CountedTerms.{schur_coefficient_of_schur, product_coefficients, coefficient_counts, no_long_labels}
use Rattle.product_laws.specs.FactorSteps.{multiplied}
use Rattle.product_laws.proofs.ManyFactors.{classical_step, are_more}
use Rattle.product_laws.specs.CountedProducts.{Reaches}
use Rattle.sym_model.specs.WholeTerms.{AreCounts}
use Rattle.product_laws.proofs.CountLists.{counts-coefficient, counts-scale, counts-each, coefficient-each, some_term, coefficient_of_once}
use Rattle.product_laws.proofs.SomeLabel.{some_label}
use Rattle.sym_model.proofs.Parts.{size-map_push}

-- the coefficient c of each term c·s_ν of the classical product is the Schur coefficient at ν of the product of the factors
pub term_is : (k : ℕ) (factors : List (List ℕ)) (t : Term) → Among t (classical_product k factors) → t.1 ≡ schur_coefficient k t.0 (schur_product factors k)
term_is k factors t m = search (rules, classical_product-term, coefficient_of_once, classical_product-once, classical_product-coefficient)

pub label_size : (k : ℕ) (factors : List (List ℕ)) (t : Term) → Among t (classical_product k factors) → size t.0 ≡ size (map size factors)
label_size k factors t m =
    let few : List (List ℕ) = filter (λ (parts : List ℕ). nat_le (rows parts) k) (partitions_of (size (map size factors))) in
    let a = Among_from_select (λ (u : Term). nat_lt 0 (nat_abs u.1)) t (map (λ (parts : List ℕ). let term : Term = (parts, schur_coefficient k parts (schur_product factors k)) in term) few) m in
    let b = Among_from_map (λ (parts : List ℕ). let term : Term = (parts, schur_coefficient k parts (schur_product factors k)) in term) t few a.0 in
    let c = Among_from_select (λ (parts : List ℕ). nat_le (rows parts) k) b.0 (partitions_of (size (map size factors))) b.1 in
    ap (λ (u : Term). size u.0) b.2 ∙ (partitions_of-tells (size (map size factors)) b.0 c.0).1

pub two_counts : (k : ℕ) (left right : List ℕ) → IsPartition left → IsPartition right → AreCounts (classical_product k (left ∷ right ∷ []))
two_counts k left right p q t m =
    let c = classical_product-term k (left ∷ right ∷ []) t m in
    let e = term_is k (left ∷ right ∷ []) t m ∙ product_coefficients k left right t.0 p q c.partition c.few in
    omega (arith, ints)

pub two_rows : (k : ℕ) (left right : List ℕ) → IsPartition left → IsPartition right → rows left ≤ k
    → (t : Term) → Among t (classical_product k (left ∷ right ∷ [])) → rows t.0 ≤ rows left + rows right
two_rows k left right p q h t m = by (cases_lt (rows left + rows right) (rows t.0))
  where
    c : IsClassicalTerm k t
    c = classical_product-term k (left ∷ right ∷ []) t m

    by : (rows left + rows right < rows t.0) ⊎ (rows t.0 ≤ rows left + rows right) → rows t.0 ≤ rows left + rows right
    by (inr l) = l
    by (inl l) = absurd (c.counts
        (term_is k (left ∷ right ∷ []) t m
        ∙ coefficient_counts k k left right [] t.0 (omega arith) p q IsPartition-none c.partition c.few
        ∙ no_long_labels k left right [] t.0 p q IsPartition-none (contains_nothing right) h l))

-- no coefficient of the classical product of the factors is negative, and no label has more rows than all factors together
pub record IsCounted (k : ℕ) (factors : List (List ℕ)) : Type 0 where
  pub counts : AreCounts (classical_product k factors)
  pub row_bound : (t : Term) → Among t (classical_product k factors) → rows t.0 ≤ size (map rows factors)

pub counted-one : (k : ℕ) (parts : List ℕ) → IsPartition parts → IsCounted k (parts ∷ [])
counted-one k parts p = record {
  counts = λ t m.
      let c = classical_product-term k (parts ∷ []) t m in
      subst (λ (z : ℤ). pos 0 ≤ℤ z) (sym (is t m)) (at_only-nonnegative t.0 parts);
  row_bound = λ t m.
      let c = classical_product-term k (parts ∷ []) t m in
      only t (same parts t.0) refl (λ e. c.counts (is t m ∙ ap (λ b. cond b (pos 1) (pos 0)) e));
}
  where
    is : (t : Term) → Among t (classical_product k (parts ∷ [])) → t.1 ≡ cond (same parts t.0) (pos 1) (pos 0)
    is t m =
        let c = classical_product-term k (parts ∷ []) t m in
        term_is k (parts ∷ []) t m ∙ schur_coefficient_of_schur k parts t.0 p c.partition c.few

    only : (t : Term) (b : Bool) → same parts t.0 ≡ b → (b ≡ false → ⊥) → rows t.0 ≤ size (map rows (parts ∷ []))
    only t true e h = let d = ap rows (same_true parts t.0 e) in omega arith
    only t false e h = absurd (h refl)

pub multiplied_counts : (k : ℕ) (next : List ℕ) (terms : WholeTerms) → ((t : Term) → Among t terms → IsPartition t.0) → IsPartition next → AreCounts terms
    → AreCounts (multiplied k next terms)
multiplied_counts k next terms is q c = search (rules, counts-each, counts-scale, two_counts)

labels_are : (k : ℕ) (front : List (List ℕ)) (t : Term) → Among t (classical_product k front) → IsPartition t.0
labels_are k front t m = let c = classical_product-term k front t m in c.partition

-- some term of `terms` has a label λ such that `label` is a label of the classical product of λ and `next` in k variables
record ComesFrom (k : ℕ) (next : List ℕ) (terms : WholeTerms) (label : List ℕ) : Type 0 where
  from : Term
  among : Among from terms
  term : Term
  made : Among term (classical_product k (from.0 ∷ next ∷ []))
  is : term.0 ≡ label

comes_from : (k : ℕ) (next : List ℕ) (terms : WholeTerms) (label : List ℕ) → (coefficient (multiplied k next terms) label ≡ pos 0 → ⊥) → ComesFrom k next terms label
comes_from k next terms label h =
    let u = some_term (multiplied k next terms) label h in
    let s = Among_from_each (λ (t : Term). scale t.1 (classical_product k (t.0 ∷ next ∷ []))) u.0 terms u.1 in
    let w = Among_from_map (λ (v : Term). let scaled : Term = (v.0, s.0.1 *ℤ v.1) in scaled) u.0 (classical_product k (s.0.0 ∷ next ∷ [])) s.2 in
    record { from = s.0; among = s.1; term = w.0; made = w.1; is = sym (ap (λ (v : Term). v.0) w.2) ∙ u.2 }

step_coefficient : (k : ℕ) (front : List (List ℕ)) (next : List ℕ) → ArePartitions front → IsPartition next → (t : Term)
    → Among t (classical_product k (front ++ (next ∷ []))) → t.1 ≡ coefficient (multiplied k next (classical_product k front)) t.0
step_coefficient k front next p q t m = search (rules, coefficient_of_once, classical_product-once, classical_step)

pub counted-push : (k : ℕ) (front : List (List ℕ)) (next : List ℕ) → ArePartitions front → IsPartition next → IsCounted k front → IsCounted k (front ++ (next ∷ []))
counted-push k front next p q h = record {
  counts = λ t m.
      subst (λ (z : ℤ). pos 0 ≤ℤ z) (sym (step_coefficient k front next p q t m))
      (counts-coefficient (multiplied k next (classical_product k front)) t.0 (multiplied_counts k next (classical_product k front) (labels_are k front) q h.counts));
  row_bound = λ t m.
      let c = classical_product-term k (front ++ (next ∷ [])) t m in
      let f = comes_from k next (classical_product k front) t.0 (λ z. c.counts (step_coefficient k front next p q t m ∙ z)) in
      let d = classical_product-term k front f.from f.among in
      let a = two_rows k f.from.0 next d.partition q d.few f.term f.made in
      let b = h.row_bound f.from f.among in
      let e = ap rows f.is in
      let r = size-map_push rows front next in
      omega arith;
}

-- if the classical product of `front` has a coefficient of at least c at some partition with at most k rows, so has the classical product of `front`
-- and one more factor `next`, provided that `next` has at most k rows and c is at least 1

step_reaches : (k c : ℕ) (front : List (List ℕ)) (next : List ℕ) → ArePartitions front → IsPartition next → rows next ≤ k → 1 ≤ c → IsCounted k front
    → Reaches k c (classical_product k front) → Reaches k c (classical_product k (front ++ (next ∷ [])))
step_reaches k c front next p q few one h r =
    let terms = classical_product k front in
    let found = some_term terms r.parts (λ z. let g = r.reaches in absurd (omega (arith, ints))) in
    let t = found.0 in
    let old = classical_product-term k front t found.1 in
    let t_is : coefficient terms r.parts ≡ t.1 = ap (coefficient terms) (sym found.2) ∙ coefficient_of_once terms (classical_product-once k front) t found.1 in
    let label = some_label k t.0 next old.partition q old.few few in
    let u = label.0 in
    let pair = t.0 ∷ next ∷ [] in
    let new = classical_product-term k pair u label.1 in
    let u_is : coefficient (classical_product k pair) u.0 ≡ u.1 = coefficient_of_once (classical_product k pair) (classical_product-once k pair) u label.1 in
    let u_counts = two_counts k t.0 next old.partition q u label.1 in
    let u_positive : pos 1 ≤ℤ u.1 = at_least_one u.1 u_counts new.counts in
    let t_counts = h.counts t found.1 in
    let grows = product-at_least t.1 u.1 t_counts u_positive in
    let scaled : coefficient (scale t.1 (classical_product k pair)) u.0 ≡ t.1 *ℤ u.1 = coefficient_scale t.1 (classical_product k pair) u.0 ∙ ap (λ z. t.1 *ℤ z) u_is in
    let within = coefficient-each (λ (v : Term). scale v.1 (classical_product k (v.0 ∷ next ∷ []))) terms t u.0
    (λ v m. counts-scale v.1 (classical_product k (v.0 ∷ next ∷ [])) (h.counts v m) (two_counts k v.0 next (labels_are k front v m) q)) found.1 in
    let step = classical_step k front next p q u.0 in
    record {
      parts = u.0;
      partition = new.partition;
      within = new.few;
      reaches = chain (pos c) (coefficient terms r.parts) t.1 (t.1 *ℤ u.1) (coefficient (scale t.1 (classical_product k pair)) u.0)
          (coefficient (multiplied k next terms) u.0) (coefficient (classical_product k (front ++ (next ∷ []))) u.0) r.reaches t_is grows scaled within step;
    }
  where
    chain : (a b c d e f g : ℤ) → a ≤ℤ b → b ≡ c → c ≤ℤ d → e ≡ d → e ≤ℤ f → g ≡ f → a ≤ℤ g
    chain a b c d e f g h i j k l m = omega (arith, ints)

-- ---- classical products with any number of further factors

pub counted-append : (k : ℕ) (front rest : List (List ℕ)) → ArePartitions front → ArePartitions rest → IsCounted k front → IsCounted k (front ++ rest)
counted-append k front [] p q h = subst (λ factors. IsCounted k factors) (sym (append-nil front)) h
counted-append k front (next ∷ rest) p q h =
    subst (λ factors. IsCounted k factors) (append_assoc front (next ∷ []) rest)
    (counted-append k (front ++ (next ∷ [])) rest (are_more front next p (q next (inl refl))) (λ x m. q x (inr m)) (counted-push k front next p (q next (inl refl)) h))

pub counted-all : (k : ℕ) (first : List ℕ) (rest : List (List ℕ)) → ArePartitions (first ∷ rest) → IsCounted k (first ∷ rest)
counted-all k first rest p =
    counted-append k (first ∷ []) rest (λ x m. p x (only x m)) (λ x m. p x (inr m)) (counted-one k first (p first (inl refl)))
  where
    only : (x : List ℕ) → Among x (first ∷ []) → Among x (first ∷ rest)
    only x (inl e) = inl e
    only x (inr m) = absurd m

reaches-append : (k c : ℕ) (front rest : List (List ℕ)) → ArePartitions front → ArePartitions rest → ((parts : List ℕ) → Among parts rest → rows parts ≤ k) → 1 ≤ c → IsCounted k front
    → Reaches k c (classical_product k front) → Reaches k c (classical_product k (front ++ rest))
reaches-append k c front [] p q few one h r = subst (λ factors. Reaches k c (classical_product k factors)) (sym (append-nil front)) r
reaches-append k c front (next ∷ rest) p q few one h r =
    subst (λ factors. Reaches k c (classical_product k factors)) (append_assoc front (next ∷ []) rest)
    (reaches-append k c (front ++ (next ∷ [])) rest (are_more front next p (q next (inl refl))) (λ x m. q x (inr m)) (λ x m. few x (inr m)) one
    (counted-push k front next p (q next (inl refl)) h) (step_reaches k c front next p (q next (inl refl)) (few next (inl refl)) one h r))

pub reaches_more : (k c : ℕ) (first : List ℕ) (front rest : List (List ℕ)) → ArePartitions (first ∷ front) → ArePartitions rest → ((parts : List ℕ) → Among parts rest → rows parts ≤ k) → 1 ≤ c
    → Reaches k c (classical_product k (first ∷ front)) → Reaches k c (classical_product k ((first ∷ front) ++ rest))
reaches_more k c first front rest p q few one r = reaches-append k c (first ∷ front) rest p q few one (counted-all k first front p) r
