-- If a list of terms c·s_λ expands a product of Schur polynomials, then the product with one more factor s_ν is expanded by the sum of c times the
-- classical product of λ and ν. Here the *classical product* of some partitions in k variables is the list of terms that expands the product of their
-- Schur polynomials.
use Rattle.std.proofs.Common.{◌≡◌, ℕ, ◌+◌, ◌≤◌, ◌<◌, inl, inr, List, [], ◌∷◌, ◌++◌, map, flat_map, rules}
use Rattle.std.proofs.Common.{Option, Some, None, pos, refl, sym, ◌∙◌, ap, ap₂, subst, arith}
use Rattle.sym_model.specs.Sum.{Among}
use Rattle.sym_model.specs.Polynomial.{Poly, Term, Same, nothing, times}
use Rattle.sym_model.specs.Partition.{IsPartition, rows, size}
use Rattle.sym_model.specs.Schur.{schur}
use Rattle.sym_model.specs.GoodTableau.{product_count}
use Rattle.sym_model.specs.Expansion.{Fraction, Terms}
use Rattle.sym_model.specs.WholeTerms.{WholeTerms, AreWhole, as_fractions, numerators}
use Rattle.sym_model.specs.Products.{schur_product, ExpandsInSchurs, classical_product}
use Rattle.sym_model.proofs.Sums.{Among_from_map}
use Rattle.sym_model.proofs.Polynomials.{pair_times, pair_zero, same_from_pair, Same_refl, Same_trans, times_respects}
use Rattle.alternant_laws.specs.GoodSums.{ListsCounts}
use Rattle.alternant_laws.proofs.ClassicalProducts.{classical_product-coefficient, classical_product-term}
use Rattle.alternant_laws.proofs.CountedTerms.{product_coefficients, product_counts_stable, mult_meets}
use Rattle.alternant_laws.proofs.SchurProducts.{schur_few_variables}
use Rattle.alternant_laws.proofs.WholeLists.{numerators-as_fractions, AreWhole-as_fractions}
use Rattle.alternant_laws.proofs.WholeLists.{whole_counts}
use Rattle.product_laws.specs.FactorSteps.{multiplied, products_of}
use Rattle.product_laws.proofs.Expansions.{every_step, limited_step}
use Rattle.product_laws.specs.CountedProducts.{IsShownIn}
use Rattle.product_laws.proofs.Growing.{two_rows}

pub two_listed : (k m : ℕ) (left right : List ℕ) → IsPartition left → IsPartition right → m ≤ k
    → ((t : Term) → Among t (classical_product k (left ∷ right ∷ [])) → rows t.0 ≤ m)
    → ListsCounts m (product_count m left right) (as_fractions (classical_product k (left ∷ right ∷ [])))
two_listed k m left right p q h few =
    whole_counts m (product_count m left right) (classical_product k (left ∷ right ∷ []))
    (λ t n. let c = classical_product-term k (left ∷ right ∷ []) t n in (c.partition, few t n))
    (λ parts r l.
    classical_product-coefficient k (left ∷ right ∷ []) parts r (omega arith)
    ∙ product_coefficients k left right parts p q r (omega arith)
    ∙ ap pos (product_counts_stable m k left right parts h p q r l))

two_expand : (variables : Option ℕ) (k : ℕ) (left right : List ℕ) → IsPartition left → IsPartition right → rows left ≤ k → IsShownIn variables (rows left + rows right) k
    → ExpandsInSchurs variables (schur_product (left ∷ right ∷ [])) (as_fractions (classical_product k (left ∷ right ∷ [])))
two_expand None k left right p q h shown =
    mult_meets None left right (as_fractions (classical_product k (left ∷ right ∷ []))) p q
    (two_listed k (rows left + rows right) left right p q shown (two_rows k left right p q h))
two_expand (Some given) k left right p q h shown =
    mult_meets (Some given) left right (as_fractions (classical_product k (left ∷ right ∷ []))) p q
    (two_listed k given left right p q (omega (arith, shown)) (λ t m. let c = classical_product-term k (left ∷ right ∷ []) t m in let f = c.few in omega (arith, shown)))

-- ---- an expansion of a product of factors, multiplied term by term with one more factor

each_same : {A : Type 0} (f g : A → WholeTerms) (xs : List A) → ((x : A) → f x ≡ g x)
    → flat_map f xs ≡ flat_map g xs
each_same f g [] e = refl
each_same f g (x ∷ xs) e = ap₂ ◌++◌ (e x) (each_same f g xs e)

by_products : (k : ℕ) (next : List ℕ) (terms : WholeTerms) → products_of (λ label. as_fractions (classical_product k (label ∷ next ∷ []))) terms ≡ multiplied k next terms
by_products k next terms = search (rules, each_same, numerators-as_fractions)

-- if a number of variables is given, no label of the terms has more rows than this number
abbrev HasFewRows : Option ℕ → Terms (List ℕ) → Type 0
HasFewRows None terms = Unit {0}
HasFewRows (Some given) terms = (t : List ℕ × Fraction) → Among t terms → rows t.0 ≤ given

expands_next : (variables : Option ℕ) (k : ℕ) (front : List (List ℕ)) (next : List ℕ)
    (terms after : Terms (List ℕ)) → AreWhole terms → AreWhole after → IsPartition next
    → ((t : Term) → Among t (numerators terms) → IsPartition t.0 × (rows t.0 ≤ k) × IsShownIn variables (rows t.0 + rows next) k)
    → HasFewRows variables after
    → ExpandsInSchurs variables (schur_product front) terms
    → Same (numerators after) (multiplied k next (numerators terms))
    → ExpandsInSchurs variables (schur_product (front ++ (next ∷ []))) after
expands_next None k front next terms after w v q labels few e is =
    every_step front next (λ label. as_fractions (classical_product k (label ∷ next ∷ []))) terms after w v
    (λ t m. let l = labels t m in (AreWhole-as_fractions (classical_product k (t.0 ∷ next ∷ [])), two_expand None k t.0 next l.0 q l.1 l.2))
    e (subst (λ (l : WholeTerms). Same (numerators after) l) (sym (by_products k next (numerators terms))) is)
expands_next (Some given) k front next terms after w v q labels few e is =
    limited_step given front next (λ label. as_fractions (classical_product k (label ∷ next ∷ []))) terms after w v
    (λ t m. let l = labels t m in (AreWhole-as_fractions (classical_product k (t.0 ∷ next ∷ [])), two_expand (Some given) k t.0 next l.0 q l.1 l.2))
    e (subst (λ (l : WholeTerms). Same (numerators after) l) (sym (by_products k next (numerators terms))) is)
    few

-- let the list `product` expand the product of the factors `front`, let its labels be partitions with at most k rows, and let k be large enough for
-- the product with `next` (`IsShownIn`). If the labels of `after` have at most k rows, and `after` has the coefficients of `multiplied k next
-- product`, then `after` expands the product of `front` and `next`
pub expands_whole : (given : Option ℕ) (k : ℕ) (front : List (List ℕ)) (next : List ℕ)
    (product after : WholeTerms) → IsPartition next
    → ((t : Term) → Among t product
    → IsPartition t.0 × (rows t.0 ≤ k) × IsShownIn given (rows t.0 + rows next) k)
    → ((t : Term) → Among t after → rows t.0 ≤ k)
    → ExpandsInSchurs given (schur_product front) (as_fractions product)
    → Same after (multiplied k next product)
    → IsShownIn given (size (map rows front) + rows next) k
    → ExpandsInSchurs given (schur_product (front ++ (next ∷ []))) (as_fractions after)
expands_whole given k front next product after q labels few e is shown =
    expands_next given k front next (as_fractions product) (as_fractions after)
    (AreWhole-as_fractions product) (AreWhole-as_fractions after) q
    (λ t m. labels t (subst (λ (l : WholeTerms). Among t l) (numerators-as_fractions product) m))
    (few_rows given shown) e
    (subst (λ (l : WholeTerms). Same l (multiplied k next (numerators (as_fractions product))))
    (sym (numerators-as_fractions after))
    (subst (λ (l : WholeTerms). Same after (multiplied k next l))
    (sym (numerators-as_fractions product)) is))
  where
    few_rows : (given : Option ℕ) → IsShownIn given (size (map rows front) + rows next) k
        → HasFewRows given (as_fractions after)
    few_rows None s = tt
    few_rows (Some n) s = λ t m.
        let written : Term → List ℕ × Fraction = λ v. (v.0, (v.1, 1)) in
        let u = Among_from_map written t after m in
        let f = few u.0 u.1 in
        let d = ap (λ (v : List ℕ × Fraction). rows v.0) u.2 in
        omega (arith, s)

times-nothing_left : (f g : Poly) → Same f nothing → Same (times f g) nothing
times-nothing_left f g e = times_respects f nothing g g e (Same_refl g)

times-nothing_right : (f g : Poly) → Same g nothing → Same (times f g) nothing
times-nothing_right f g e =
    Same_trans (times f g) (times f nothing) nothing (times_respects f f g nothing (Same_refl f) e)
    (same_from_pair (times f nothing) nothing (λ φ. pair_times f nothing φ ∙ pair_zero f))

pub product_nothing : (n : ℕ) (factors : List (List ℕ)) (parts : List ℕ) → Among parts factors → IsPartition parts → n < rows parts → Same (schur_product factors n) nothing
product_nothing n [] parts m p h = absurd m
product_nothing n (first ∷ []) parts (inl e) p h = subst (λ shape. Same (schur shape n) nothing) e (schur_few_variables n parts p h)
product_nothing n (first ∷ []) parts (inr m) p h = absurd m
product_nothing n (first ∷ second ∷ factors) parts (inl e) p h =
    times-nothing_left (schur first n) (schur_product (second ∷ factors) n) (subst (λ shape. Same (schur shape n) nothing) e (schur_few_variables n parts p h))
product_nothing n (first ∷ second ∷ factors) parts (inr m) p h =
    times-nothing_right (schur first n) (schur_product (second ∷ factors) n) (product_nothing n (second ∷ factors) parts m p h)
