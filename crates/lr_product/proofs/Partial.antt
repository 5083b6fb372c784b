-- The *list for* some factors is the expansion of the product of their Schur polynomials in Schur polynomials, as a list of terms (`IsPartial`). The
-- *classical product* of the factors in k variables (`classical_product`) is the list of the partitions with at most k rows and a coefficient other
-- than 0 in this product. Here are the list for the first i factors, and the step to the list for the first i + 1 factors.
use Rattle.std.proofs.Common.{◌≡◌, ◌≤◌, ◌+◌, ◌^◌, inl, inr, ℕ, zero, suc, List, [], ◌∷◌, ◌++◌, append-nil, map, take, drop, refl, sym, ◌∙◌, ap, subst, arith, ℤ, pos, ◌*ℤ◌, Option, Some, None, rules}
use Rattle.std.specs.Prelude.{◌≤ℤ◌, slice_get, nat_eq}
use Rattle.std.specs.Cmp.Lexicographic.{pointwise}
use Rattle.std.proofs.lemmas.Bool.{and_parts}
use Rattle.std.proofs.lemmas.Int.{ints}
use Rattle.std.proofs.lemmas.List.{take-append-drop}
use Rattle.fraction_laws.specs.Fractions.{whole}
use Rattle.sym_model.specs.Sum.{Among}
use Rattle.sym_model.specs.Polynomial.{Poly, Term, Same, coefficient, scale, pair}
use Rattle.sym_model.specs.Partition.{IsPartition, size, rows, ArePartitions}
use Rattle.sym_model.specs.Schur.{schur}
use Rattle.sym_model.specs.Canonical.{is_label}
use Rattle.sym_model.specs.Expansion.{Fraction}
use Rattle.sym_model.specs.WholeTerms.{WholeTerms, as_fractions}
use Rattle.sym_model.specs.Products.{schur_product, ExpandsInSchurs, classical_product}
use Rattle.sym_model.proofs.Sums.{total_ext, Among-append_left, Among-append_right}
use Rattle.sym_model.proofs.Polynomials.{pair_each, pair_scale, pair_determined, same_from_pair, Same_sym, Same_trans}
use Rattle.sym_model.proofs.WholeTerms.{represents-whole}
use Rattle.linear_combinations.specs.Entries.{IsCombination}
use Rattle.linear_combinations.proofs.Found.{coefficient_of_term}
use Rattle.linear_combinations.proofs.LowestTerms.{not_zero-is_reduced}
use Rattle.linear_combinations.proofs.Totals.{term-among}
use Rattle.alternant_laws.proofs.ClassicalProducts.{classical_product-term}
use Rattle.product_laws.specs.FactorSteps.{multiplied}
use Rattle.product_laws.proofs.ManyFactors.{classical_step, are_more}
use Rattle.product_laws.specs.CountedProducts.{IsShownIn, Reaches}
use Rattle.product_laws.proofs.CountLists.{counts-coefficient, some_term}
use Rattle.product_laws.proofs.SomeLabel.{are_two}
use Rattle.product_laws.proofs.Growing.{counted-all, label_size, reaches_more}
use Rattle.product_laws.proofs.Expanding.{expands_whole}
use Rattle.partitions.specs.FactorList.{AreFactors}
use Rattle.lr_product.specs.ProductOfFactors.{AreSmallCounts, AllMayMeet}
use Rattle.sym_model.proofs.Integers.{at_least_one}
use Rattle.product_laws.proofs.FusionSteps.{scale_one}
use Rattle.sym_model.proofs.Parts.{size-map_push}

-- ---- lists with the same coefficients

small_same : (xs ys : WholeTerms) → Same xs ys → AreSmallCounts xs → AreSmallCounts ys
small_same xs ys e small parts = let s = small parts in let x = e parts in (omega (arith, ints, s.0), omega (arith, ints, s.1))

Reaches-same : (k c : ℕ) (xs ys : WholeTerms) → Same xs ys → Reaches k c xs → Reaches k c ys
Reaches-same k c xs ys e r = record { parts = r.parts; partition = r.partition; within = r.within; reaches = let x = e r.parts in let g = r.reaches in omega (arith, ints) }

-- the list has the coefficients of the classical product of the factors `front` in k variables, and these coefficients are from 0 to 2^127 - 1. The
-- list expands the product of the factors in k variables, and in every number of variables if k is at least the total number of rows of the factors
pub record IsPartial (k : ℕ) (front : List (List ℕ)) (product : WholeTerms) : Type 0 where
  pub table : IsCombination (pointwise nat_eq) is_label whole product
  pub classical : Same product (classical_product k front)
  pub small : AreSmallCounts (classical_product k front)
  pub expands : (given : Option ℕ) → IsShownIn given (size (map rows front)) k → ExpandsInSchurs given (schur_product front) (as_fractions product)

-- the properties of a term t of the classical product of the factors `front` in k variables: its coefficient is positive, and its label is a
-- partition that has at most k rows and no more rows than all factors together, and whose size is the sum of the sizes of the factors
pub record IsTermOf (k : ℕ) (front : List (List ℕ)) (t : Term) : Type 0 where
  pub partition : IsPartition t.0
  pub few : rows t.0 ≤ k
  pub row_bound : rows t.0 ≤ size (map rows front)
  pub cells : size t.0 ≡ size (map size front)
  pub positive : pos 1 ≤ℤ t.1

pub term_of : (k : ℕ) (first : List ℕ) (rest : List (List ℕ)) (product : WholeTerms) → ArePartitions (first ∷ rest) → IsCombination (pointwise nat_eq) is_label whole product
    → Same product (classical_product k (first ∷ rest)) → (t : Term) → Among t product → IsTermOf k (first ∷ rest) t
term_of k first rest product p is e t m =
    let terms = classical_product k (first ∷ rest) in
    let counted = counted-all k first rest p in
    let here : t.1 ≡ coefficient terms t.0 = sym (coefficient_of_term product is.distinct t m) ∙ e t.0 in
    let natural = counts-coefficient terms t.0 counted.counts in
    let found = some_term terms t.0 (λ z. not_zero t m (here ∙ z)) in
    let old = classical_product-term k (first ∷ rest) found.0 found.1 in
    record {
      partition = subst IsPartition found.2 old.partition;
      few = subst (λ label. rows label ≤ k) found.2 old.few;
      row_bound = subst (λ label. rows label ≤ size (map rows (first ∷ rest))) found.2 (counted.row_bound found.0 found.1);
      cells = subst (λ label. size label ≡ size (map size (first ∷ rest))) found.2 (label_size k (first ∷ rest) found.0 found.1);
      positive = at_least_one t.1 (subst (λ (z : ℤ). pos 0 ≤ℤ z) (sym here) natural) (not_zero t m);
    }
  where
    not_zero : (u : Term) → Among u product → u.1 ≡ pos 0 → ⊥
    not_zero u n z = not_zero-is_reduced (whole u.1) (and_parts _ (is_label u.0) (term-among is_label whole product is.proper u n)).0 (ap whole z)

-- ---- the product of the factors `front` and one more factor

pub may_meet : (k : ℕ) (first : List ℕ) (rest : List (List ℕ)) (next : List ℕ) (product : WholeTerms) → ArePartitions (first ∷ rest) → IsPartial k (first ∷ rest) product
    → size (map size (first ∷ rest)) + size next ≤ 4096 → AllMayMeet k next product
may_meet k first rest next product p h cells t m =
    let is = term_of k first rest product p h.table h.classical t m in
    record {
      partition = is.partition;
      few = is.few;
      cells = let e = is.cells in omega arith;
      positive = is.positive;
    }

multiplied_respects : (k : ℕ) (next : List ℕ) (xs ys : WholeTerms) → Same xs ys → Same (multiplied k next xs) (multiplied k next ys)
multiplied_respects k next xs ys e =
    same_from_pair (multiplied k next xs) (multiplied k next ys) (λ φ.
    value xs φ ∙ pair_determined xs ys (λ label. pair (classical_product k (label ∷ next ∷ [])) φ) e ∙ sym (value ys φ))
  where
    value : (terms : WholeTerms) (φ : List ℕ → ℤ) → pair (multiplied k next terms) φ ≡ pair terms (λ label. pair (classical_product k (label ∷ next ∷ [])) φ)
    value terms φ =
        pair_each (λ (t : Term). scale t.1 (classical_product k (t.0 ∷ next ∷ []))) terms φ
        ∙ total_ext (λ (t : Term). pair (scale t.1 (classical_product k (t.0 ∷ next ∷ []))) φ) (λ (t : Term). t.1 *ℤ pair (classical_product k (t.0 ∷ next ∷ [])) φ)
        (λ t. pair_scale t.1 (classical_product k (t.0 ∷ next ∷ [])) φ) terms

-- if `product` is the list for the factors `front` (`IsPartial`), the product of its terms and `next` has the coefficients of the classical product
-- of `front` and `next`
pub step_same : (k : ℕ) (front : List (List ℕ)) (next : List ℕ) (product : WholeTerms) → ArePartitions front → IsPartition next → IsPartial k front product
    → Same (multiplied k next product) (classical_product k (front ++ next ∷ []))
step_same k front next product p q h = search (rules, multiplied_respects, classical_step)

shown_before : (given : Option ℕ) (a b k : ℕ) → a ≤ b → IsShownIn given b k → IsShownIn given a k
shown_before None a b k h s = omega arith
shown_before (Some n) a b k h s = s

shown_at : (given : Option ℕ) (a b c k : ℕ) → a ≤ b → IsShownIn given (b + c) k → IsShownIn given (a + c) k
shown_at None a b c k h s = omega arith
shown_at (Some n) a b c k h s = s

pub partial_next : (k : ℕ) (first : List ℕ) (rest : List (List ℕ)) (next : List ℕ) (product after : WholeTerms) → ArePartitions (first ∷ rest) → IsPartition next → IsPartial k (first ∷ rest) product
    → IsCombination (pointwise nat_eq) is_label whole after → Same after (multiplied k next product) → AreSmallCounts (multiplied k next product)
    → IsPartial k ((first ∷ rest) ++ next ∷ []) after
partial_next k first rest next product after p q h is e small = record {
  table = is;
  classical = classical;
  small = small_same (multiplied k next product) (classical_product k ((first ∷ rest) ++ next ∷ [])) (step_same k (first ∷ rest) next product p q h) small;
  expands = λ given shown.
      let wide : IsShownIn given (size (map rows (first ∷ rest)) + rows next) k = subst (λ (n : ℕ). IsShownIn given n k) (size-map_push rows (first ∷ rest) next) shown in
      expands_whole given k (first ∷ rest) next product after q
      (λ t m. let u = term_of k first rest product p h.table h.classical t m in (u.partition, u.few, shown_at given (rows t.0) (size (map rows (first ∷ rest))) (rows next) k u.row_bound wide))
      (λ t m. (term_of k first (rest ++ next ∷ []) after (are_more (first ∷ rest) next p q) is classical t m).few)
      (h.expands given (shown_before given (size (map rows (first ∷ rest))) (size (map rows (first ∷ rest)) + rows next) k (omega arith) wide))
      e wide;
}
  where
    classical : Same after (classical_product k ((first ∷ rest) ++ next ∷ []))
    classical =
        Same_trans after (multiplied k next product) (classical_product k ((first ∷ rest) ++ next ∷ [])) e
        (step_same k (first ∷ rest) next product p q h)

once_itself : (f : Poly) → Same (scale (pos 1) f ++ []) f
once_itself f α = ap (λ (l : Poly). coefficient l α) (append-nil (scale (pos 1) f) ∙ scale_one f)

expands_one : (given : Option ℕ) (k : ℕ) (parts : List ℕ) → rows parts ≤ k → IsShownIn given (rows parts) k → ExpandsInSchurs given (schur_product (parts ∷ [])) ((parts, (pos 1, 1)) ∷ [])
expands_one None k parts h s = λ n. represents-whole (λ label. schur label n) ((parts, (pos 1, 1)) ∷ []) (schur parts n) (refl, tt) (once_itself (schur parts n))
expands_one (Some n) k parts h s = (
  represents-whole (λ label. schur label n) ((parts, (pos 1, 1)) ∷ []) (schur parts n) (refl, tt) (once_itself (schur parts n)),
  λ t m. only t m,
)
  where
    only : (t : List ℕ × Fraction) → Among t ((parts, (pos 1, 1)) ∷ []) → rows t.0 ≤ n
    only t (inl e) = let d = ap (λ (u : List ℕ × Fraction). rows u.0) e in omega (arith, s)
    only t (inr m) = absurd m

pub partial_two : (k : ℕ) (left right : List ℕ) (product : WholeTerms) → IsPartition left → IsPartition right → rows left ≤ k
    → IsCombination (pointwise nat_eq) is_label whole product → Same product (classical_product k (left ∷ right ∷ []))
    → AreSmallCounts (classical_product k (left ∷ right ∷ [])) → IsPartial k (left ∷ right ∷ []) product
partial_two k left right product p q h is e small = record {
  table = is;
  classical = e;
  small = small;
  expands = λ given shown.
      let wide : IsShownIn given (rows left + rows right) k = subst (λ (n : ℕ). IsShownIn given n k) (sum_of (rows left) (rows right)) shown in
      expands_whole given k (left ∷ []) right ((left, pos 1) ∷ []) product q
      (λ t m. label t m given wide)
      (λ t m. (term_of k left (right ∷ []) product (are_two left right p q) is e t m).few)
      (expands_one given k left h (shown_before given (rows left) (rows left + rows right) k (omega arith) wide))
      (Same_trans product (classical_product k (left ∷ right ∷ [])) (multiplied k right ((left, pos 1) ∷ [])) e
      (Same_sym (multiplied k right ((left, pos 1) ∷ [])) (classical_product k (left ∷ right ∷ [])) (once_itself (classical_product k (left ∷ right ∷ [])))))
      (subst (λ (n : ℕ). IsShownIn given n k) (one_of (rows left) (rows right)) wide);
}
  where
    sum_of : (a b : ℕ) → a + (b + 0) ≡ a + b
    sum_of a b = omega arith

    one_of : (a b : ℕ) → a + b ≡ (a + 0) + b
    one_of a b = omega arith

    label : (t : Term) → Among t ((left, pos 1) ∷ []) → (given : Option ℕ) → IsShownIn given (rows left + rows right) k → IsPartition t.0 × (rows t.0 ≤ k) × IsShownIn given (rows t.0 + rows right) k
    label t (inl d) given s =
        let is : t.0 ≡ left = ap (λ (u : Term). u.0) d in
        (subst IsPartition (sym is) p, subst (λ l. rows l ≤ k) (sym is) h, subst (λ (l : List ℕ). IsShownIn given (rows l + rows right) k) (sym is) s)
    label t (inr m) given s = absurd m

-- ---- the list of the factors by index: its first i and its first i + 1 factors

pub take_next : (xs : List (List ℕ)) (i : ℕ) (x : List ℕ) → slice_get xs i ≡ Some x → take (i + 1) xs ≡ take i xs ++ x ∷ []
take_next [] i x h = cc
take_next (y ∷ ys) zero x h = let e : y ≡ x = cc in ap (λ z. z ∷ []) e ∙ refl
take_next (y ∷ ys) (suc i) x h = search (rules, (take_next ys i x h))

pub among_at : (xs : List (List ℕ)) (i : ℕ) (x : List ℕ) → slice_get xs i ≡ Some x → Among x xs
among_at [] i x h = cc
among_at (y ∷ ys) zero x h = let e : y ≡ x = cc in inl (sym e)
among_at (y ∷ ys) (suc i) x h = inr (among_at ys i x h)

pub among_taken : {A : Type 0} (i : ℕ) (xs : List A) (x : A) → Among x (take i xs) → Among x xs
among_taken i xs x m = subst (λ l. Among x l) (take-append-drop i xs) (Among-append_left x (take i xs) (drop i xs) m)

among_dropped : (i : ℕ) (xs : List (List ℕ)) (x : List ℕ) → Among x (drop i xs) → Among x xs
among_dropped i xs x m = subst (λ l. Among x l) (take-append-drop i xs) (Among-append_right x (take i xs) (drop i xs) m)

cells_within : (xs ys : List (List ℕ)) → size (map size xs) ≤ size (map size (xs ++ ys))
cells_within [] ys = omega arith
cells_within (x ∷ xs) ys = let h = cells_within xs ys in omega arith

some_before : (j : ℕ) (ys : List (List ℕ)) (y : List ℕ) → 1 ≤ j → slice_get ys j ≡ Some y → take j ys ≡ [] → ⊥
some_before zero ys y l s d = omega arith
some_before (suc j) [] y l s d = cc
some_before (suc j) (z ∷ ys) y l s d = cc

-- if `next` is the factor at the index i, each term of the list for the first i factors can be multiplied by `next` (`MayMeet`)
pub may_meet_at : (k i : ℕ) (factors : List (List ℕ)) (next : List ℕ) (product : WholeTerms) → AreFactors factors → 1 ≤ i → slice_get factors i ≡ Some next
    → IsPartial k (take i factors) product → AllMayMeet k next product
may_meet_at k i factors next product f one at h = by (take i factors) refl h
  where
    within : (xs : List (List ℕ)) → take i factors ≡ xs → size (map size xs) + size next ≤ 4096
    within xs e =
        let all : factors ≡ (xs ++ next ∷ []) ++ drop (i + 1) factors =
        sym (take-append-drop (i + 1) factors) ∙ ap (λ l. l ++ drop (i + 1) factors) (take_next factors i next at ∙ ap (λ l. l ++ next ∷ []) e) in
        let a = cells_within (xs ++ next ∷ []) (drop (i + 1) factors) in
        let c = size-map_push size xs next in
        let g : size (map size ((xs ++ next ∷ []) ++ drop (i + 1) factors)) ≤ 4096 = subst (λ l. size (map size l) ≤ 4096) all f.small.cells in
        omega arith

    by : (xs : List (List ℕ)) → take i factors ≡ xs → IsPartial k xs product → AllMayMeet k next product
    by [] e g = absurd (some_before i factors next one at e)
    by (first ∷ rest) e g =
        may_meet k first rest next product (λ x m. f.small.partitions x (among_taken i factors x (subst (λ l. Among x l) (sym e) m))) g (within (first ∷ rest) e)

-- if `product` is the list for the first i factors (`IsPartial`), and `after` has the coefficients of its product with the next factor, all from 0 to
-- 2^127 - 1, then `after` is the list for the first i + 1 factors
pub partial_at : (k i : ℕ) (factors : List (List ℕ)) (next : List ℕ) (product after : WholeTerms) → AreFactors factors → 1 ≤ i → slice_get factors i ≡ Some next
    → IsPartial k (take i factors) product → IsCombination (pointwise nat_eq) is_label whole after
    → Same after (multiplied k next product) → AreSmallCounts (multiplied k next product) → IsPartial k (take (i + 1) factors) after
partial_at k i factors next product after f one at h is e small = by (take i factors) refl h
  where
    by : (xs : List (List ℕ)) → take i factors ≡ xs → IsPartial k xs product → IsPartial k (take (i + 1) factors) after
    by [] d g = absurd (some_before i factors next one at d)
    by (first ∷ rest) d g =
        subst (λ l. IsPartial k l after) (sym (take_next factors i next at ∙ ap (λ l. l ++ next ∷ []) d))
        (partial_next k first rest next product after (λ x m. f.small.partitions x (among_taken i factors x (subst (λ l. Among x l) (sym d) m)))
        (f.small.partitions next (among_at factors i next at)) g is e small)

-- if each factor has at most k rows, and the product of the first i + 1 factors has a coefficient of 2^127 or more, so has the product of all factors
pub large_at : (k i : ℕ) (factors : List (List ℕ)) (next : List ℕ) (product : WholeTerms) → AreFactors factors → 1 ≤ i → slice_get factors i ≡ Some next
    → ((parts : List ℕ) → Among parts factors → rows parts ≤ k) → IsPartial k (take i factors) product
    → Reaches k (2 ^ 127) (multiplied k next product) → Reaches k (2 ^ 127) (classical_product k factors)
large_at k i factors next product f one at few h r = by (take i factors) refl h
  where
    are : (j : ℕ) → ArePartitions (take j factors)
    are j x m = f.small.partitions x (among_taken j factors x m)

    by : (xs : List (List ℕ)) → take i factors ≡ xs → IsPartial k xs product → Reaches k (2 ^ 127) (classical_product k factors)
    by [] d g = absurd (some_before i factors next one at d)
    by (first ∷ rest) d g =
        let are_front : ArePartitions (first ∷ rest) = subst (λ l. ArePartitions l) d (are i) in
        let q = f.small.partitions next (among_at factors i next at) in
        let here = Reaches-same k (2 ^ 127) (multiplied k next product) (classical_product k ((first ∷ rest) ++ next ∷ [])) (step_same k (first ∷ rest) next product are_front q g) r in
        let all : (first ∷ (rest ++ next ∷ [])) ++ drop (i + 1) factors ≡ factors =
        ap (λ l. l ++ drop (i + 1) factors) (sym (take_next factors i next at ∙ ap (λ l. l ++ next ∷ []) d)) ∙ take-append-drop (i + 1) factors in
        subst (λ l. Reaches k (2 ^ 127) (classical_product k l)) all
        (reaches_more k (2 ^ 127) first (rest ++ next ∷ []) (drop (i + 1) factors) (are_more (first ∷ rest) next are_front q)
        (λ x m. f.small.partitions x (among_dropped (i + 1) factors x m)) (λ x m. few x (among_dropped (i + 1) factors x m)) (omega arith) here)

pub record BeginWith (factors : List (List ℕ)) (left right : List ℕ) : Type 0 where
  pub taken : take 2 factors ≡ left ∷ right ∷ []
  pub sizes : size left + size right ≤ 4096
  pub left_among : Among left factors
  pub right_among : Among right factors

pub begin_with : (factors : List (List ℕ)) (left right : List ℕ) → AreFactors factors → slice_get factors 0 ≡ Some left → slice_get factors 1 ≡ Some right → BeginWith factors left right
begin_with [] left right f a b = cc
begin_with (x ∷ []) left right f a b = cc
begin_with (x ∷ y ∷ factors) left right f a b = search rules

-- if each factor has at most k rows, and the product of the first two factors has a coefficient of 2^127 or more, so has the product of all factors
pub large_first : (k : ℕ) (factors : List (List ℕ)) (left right : List ℕ) → AreFactors factors → BeginWith factors left right → ((parts : List ℕ) → Among parts factors → rows parts ≤ k)
    → Reaches k (2 ^ 127) (classical_product k (left ∷ right ∷ [])) → Reaches k (2 ^ 127) (classical_product k factors)
large_first k factors left right f b few r =
    let all : (left ∷ (right ∷ [])) ++ drop 2 factors ≡ factors = ap (λ l. l ++ drop 2 factors) (sym b.taken) ∙ take-append-drop 2 factors in
    subst (λ l. Reaches k (2 ^ 127) (classical_product k l)) all
    (reaches_more k (2 ^ 127) left (right ∷ []) (drop 2 factors) (are_two left right (f.small.partitions left b.left_among) (f.small.partitions right b.right_among))
    (λ x m. f.small.partitions x (among_dropped 2 factors x m)) (λ x m. few x (among_dropped 2 factors x m)) (omega arith) r)

-- if each factor has at most k rows, and a table of terms has the coefficients of the classical product of the first two factors, all at most 2^127 -
-- 1, it satisfies `IsPartial` for these factors
pub partial_first : (k : ℕ) (factors : List (List ℕ)) (left right : List ℕ) (product : WholeTerms) → AreFactors factors → BeginWith factors left right
    → ((parts : List ℕ) → Among parts factors → rows parts ≤ k) → IsCombination (pointwise nat_eq) is_label whole product
    → Same product (classical_product k (left ∷ right ∷ [])) → AreSmallCounts (classical_product k (left ∷ right ∷ [])) → IsPartial k (take 2 factors) product
partial_first k factors left right product f b few is e small =
    subst (λ l. IsPartial k l product) (sym b.taken)
    (partial_two k left right product (f.small.partitions left b.left_among) (f.small.partitions right b.right_among) (few left b.left_among) is e small)
