-- A product of Schur polynomials has a Schur coefficient that exceeds 2^127 - 1 if and only if its list of terms `classical_product` has such a
-- coefficient.
use Rattle.std.proofs.Common.{◌≡◌, ◌≤◌, ◌<◌, ◌^◌, ◌⊎◌, inl, inr, ℕ, max, List, [], ◌∷◌, map, refl, sym, ◌∙◌, ap, subst, arith, ℤ, pos, negsuc, Option, Some, None, rules}
use Rattle.std.specs.Prelude.{◌<ℤ◌, IsTrue}
use Rattle.std.specs.Option.{unwrap_or}
use Rattle.std.proofs.lemmas.Bool.{cases_lt}
use Rattle.std.proofs.lemmas.Int.{ints}
use Rattle.sym_model.specs.Partition.{IsPartition, size, rows, ArePartitions}
use Rattle.sym_model.specs.Polynomial.{coefficient, times}
use Rattle.sym_model.specs.GoodTableau.{product_count}
use Rattle.sym_model.specs.Schur.{schur}
use Rattle.sym_model.specs.Alternant.{schur_coefficient}
use Rattle.sym_model.specs.Products.{schur_product, classical_product}
use Rattle.sym_model.specs.PastLimit.{IsSchurCoefficientOf, is_past}
use Rattle.sym_model.proofs.Integers.{is_past-tells, is_past-from}
use Rattle.sym_model.specs.PastLimit.{HasPast, IsCoefficientOfProduct}
use Rattle.alternant_laws.proofs.ClassicalProducts.{classical_product-coefficient, classical_product-term}
use Rattle.product_laws.specs.CountedProducts.{Reaches}
use Rattle.product_laws.proofs.CountLists.{counts-coefficient, some_term}
use Rattle.product_laws.proofs.Growing.{counted-all}
use Rattle.product_laws.proofs.SomeLabel.{are_two}
use Rattle.partitions.specs.FactorList.{AreFactors}
use Rattle.lr_product.specs.ProductOfFactors.{AreSmallCounts}
use Rattle.lr_product.specs.Counts.{IsPastSomewhere}
use Rattle.lr_product.proofs.GoodCounts.{product_counts, has_past, has_none_past}
use Rattle.std.proofs.lemmas.List.{nil_from_length}

-- there is a Schur coefficient of the product of the factors in k variables that exceeds 2^127 - 1
abbrev pub IsPastIn : ℕ → List (List ℕ) → Type 0
IsPastIn k factors = (c : ℤ) × IsSchurCoefficientOf (schur_product factors k) k c × IsTrue (is_past c)

pub past_reaches : (k : ℕ) (factors : List (List ℕ)) → IsPastIn k factors → Reaches k (2 ^ 127) (classical_product k factors)
past_reaches k factors h = search (rules, classical_product-coefficient, is_past-tells)

pub reaches_past : (k : ℕ) (factors : List (List ℕ)) → Reaches k (2 ^ 127) (classical_product k factors) → IsPastIn k factors
reaches_past k factors r = search (rules, is_past-from, classical_product-coefficient)

pub small_not_past : (k : ℕ) (factors : List (List ℕ)) → AreSmallCounts (classical_product k factors) → IsPastIn k factors → ⊥
small_not_past k factors small h =
    let r = past_reaches k factors h in
    let s = (small r.parts).1 in
    let g = r.reaches in
    omega (arith, ints)

pub not_past_small : (k : ℕ) (first : List ℕ) (rest : List (List ℕ)) → ArePartitions (first ∷ rest) → (IsPastIn k (first ∷ rest) → ⊥) → AreSmallCounts (classical_product k (first ∷ rest))
not_past_small k first rest p h parts =
    (counts-coefficient (classical_product k (first ∷ rest)) parts (counted-all k first rest p).counts, below (coefficient (classical_product k (first ∷ rest)) parts) refl)
  where
    large : (n : ℕ) → coefficient (classical_product k (first ∷ rest)) parts ≡ pos n → 2 ^ 127 ≤ n → ⊥
    large n e l =
        let found = some_term (classical_product k (first ∷ rest)) parts (λ z. omega (arith, ints)) in
        let c = classical_product-term k (first ∷ rest) found.0 found.1 in
        h (reaches_past k (first ∷ rest) (record {
          parts = parts;
          partition = subst IsPartition found.2 c.partition;
          within = subst (λ label. rows label ≤ k) found.2 c.few;
          reaches = omega (arith, ints);
        }))

    by : (n : ℕ) → coefficient (classical_product k (first ∷ rest)) parts ≡ pos n → (n < 2 ^ 127) ⊎ (2 ^ 127 ≤ n) → pos n <ℤ pos (2 ^ 127)
    by n e (inl l) = omega (arith, ints)
    by n e (inr l) = absurd (large n e l)

    below : (z : ℤ) → coefficient (classical_product k (first ∷ rest)) parts ≡ z → coefficient (classical_product k (first ∷ rest)) parts <ℤ pos (2 ^ 127)
    below (pos n) e = subst (λ (z : ℤ). z <ℤ pos (2 ^ 127)) (sym e) (by n e (cases_lt n (2 ^ 127)))
    below (negsuc n) e = omega (arith, ints)

pub counts_reach : (k : ℕ) (left right : List ℕ) → IsPartition left → IsPartition right → IsPastSomewhere k (product_count k left right)
    → Reaches k (2 ^ 127) (classical_product k (left ∷ right ∷ []))
counts_reach k left right p q past =
    past_reaches k (left ∷ right ∷ []) (has_past k (schur_product (left ∷ right ∷ []) k) (product_count k left right) (product_counts k left right p q) past)

pub counts_small : (k : ℕ) (left right : List ℕ) → IsPartition left → IsPartition right
    → ((parts : List ℕ) → IsPartition parts → rows parts ≤ k → product_count k left right parts < 2 ^ 127) → AreSmallCounts (classical_product k (left ∷ right ∷ []))
counts_small k left right p q fits =
    not_past_small k left (right ∷ []) (are_two left right p q)
    (has_none_past k (schur_product (left ∷ right ∷ []) k) (product_count k left right) (product_counts k left right p q) fits)

-- ---- the product of factors that are all empty is 1

one_in_none : (factors : List (List ℕ)) → size (map rows factors) ≡ 0 → schur_product factors 0 ≡ ([], pos 1) ∷ []
one_in_none [] e = refl
one_in_none ([] ∷ []) e = refl
one_in_none ([] ∷ next ∷ factors) e = ap (λ f. times (schur [] 0) f) (one_in_none (next ∷ factors) (omega arith))
one_in_none ((a ∷ parts) ∷ factors) e = absurd (omega arith)

one_in_one : (factors : List (List ℕ)) → size (map rows factors) ≡ 0 → schur_product factors 1 ≡ ((0 ∷ []), pos 1) ∷ []
one_in_one [] e = refl
one_in_one ([] ∷ []) e = refl
one_in_one ([] ∷ next ∷ factors) e = ap (λ f. times (schur [] 1) f) (one_in_one (next ∷ factors) (omega arith))
one_in_one ((a ∷ parts) ∷ factors) e = absurd (omega arith)

none_past : (factors : List (List ℕ)) → size (map rows factors) ≡ 0 → IsPastIn 0 factors → ⊥
none_past factors e h = search (rules, nil_from_length, one_in_none, is_past-tells, ints)

none_reached : (first : List ℕ) (rest : List (List ℕ)) → ArePartitions (first ∷ rest) → size (map rows (first ∷ rest)) ≡ 0 → Reaches 1 (2 ^ 127) (classical_product 1 (first ∷ rest)) → ⊥
none_reached first rest p e r =
    let terms = classical_product 1 (first ∷ rest) in
    let g = r.reaches in
    let found = some_term terms r.parts (λ z. omega (arith, ints)) in
    let few = (counted-all 1 first rest p).row_bound found.0 found.1 in
    let none : r.parts ≡ [] = sym found.2 ∙ nil_from_length found.0.0 (omega arith) in
    let value : coefficient terms r.parts ≡ pos 1 =
    classical_product-coefficient 1 (first ∷ rest) r.parts r.partition r.within
    ∙ ap (λ parts. schur_coefficient 1 parts (schur_product (first ∷ rest) 1)) none
    ∙ ap (λ f. schur_coefficient 1 [] f) (one_in_one (first ∷ rest) e) in
    omega (arith, ints)

-- ---- a coefficient over 2^127 - 1 in k variables, as a coefficient of the product in the given number of variables, or in every number

pub past_answer : (given : Option ℕ) (k : ℕ) (first : List ℕ) (rest : List (List ℕ)) → ArePartitions (first ∷ rest)
    → k ≡ unwrap_or given (max (size (map rows (first ∷ rest))) 1) → Reaches k (2 ^ 127) (classical_product k (first ∷ rest)) → HasPast (IsCoefficientOfProduct given (first ∷ rest))
past_answer (Some n) k first rest p e r = subst (λ n. IsPastIn n (first ∷ rest)) e (reaches_past k (first ∷ rest) r)
past_answer None k first rest p e r = by (cases_lt 0 (size (map rows (first ∷ rest))))
  where
    by : (0 < size (map rows (first ∷ rest))) ⊎ (size (map rows (first ∷ rest)) ≤ 0) → HasPast (IsCoefficientOfProduct None (first ∷ rest))
    by (inl l) = let n : k ≡ size (map rows (first ∷ rest)) = omega arith in subst (λ n. IsPastIn n (first ∷ rest)) n (reaches_past k (first ∷ rest) r)
    by (inr l) = let n : k ≡ 1 = omega arith in absurd (none_reached first rest p (omega arith) (subst (λ n. Reaches n (2 ^ 127) (classical_product n (first ∷ rest))) n r))

pub small_answer : (given : Option ℕ) (k : ℕ) (first : List ℕ) (rest : List (List ℕ))
    → k ≡ unwrap_or given (max (size (map rows (first ∷ rest))) 1) → AreSmallCounts (classical_product k (first ∷ rest)) → HasPast (IsCoefficientOfProduct given (first ∷ rest)) → ⊥
small_answer (Some n) k first rest e small h = small_not_past k (first ∷ rest) small (subst (λ n. IsPastIn n (first ∷ rest)) (sym e) h)
small_answer None k first rest e small h = by (cases_lt 0 (size (map rows (first ∷ rest))))
  where
    by : (0 < size (map rows (first ∷ rest))) ⊎ (size (map rows (first ∷ rest)) ≤ 0) → ⊥
    by (inl l) = let n : size (map rows (first ∷ rest)) ≡ k = omega arith in small_not_past k (first ∷ rest) small (subst (λ n. IsPastIn n (first ∷ rest)) n h)
    by (inr l) = let n : size (map rows (first ∷ rest)) ≡ 0 = omega arith in none_past (first ∷ rest) n (subst (λ n. IsPastIn n (first ∷ rest)) n h)

pub past_factors : (given : Option ℕ) (k : ℕ) (factors : List (List ℕ)) → AreFactors factors → k ≡ unwrap_or given (max (size (map rows factors)) 1)
    → Reaches k (2 ^ 127) (classical_product k factors) → HasPast (IsCoefficientOfProduct given factors)
past_factors given k [] f e r = let l = f.least in absurd (omega arith)
past_factors given k (first ∷ rest) f e r = past_answer given k first rest f.small.partitions e r

pub small_factors : (given : Option ℕ) (k : ℕ) (factors : List (List ℕ)) → AreFactors factors → k ≡ unwrap_or given (max (size (map rows factors)) 1)
    → AreSmallCounts (classical_product k factors) → HasPast (IsCoefficientOfProduct given factors) → ⊥
small_factors given k [] f e small h = let l = f.least in absurd (omega arith)
small_factors given k (first ∷ rest) f e small h = small_answer given k first rest e small h
