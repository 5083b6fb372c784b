-- Tables of terms in the basis m of monomial symmetric polynomials, described by their coefficients (specs/Products). A *table* is a list in which
-- each label occurs once, with a coefficient that is not 0.
--     coefficient-over      the coefficients of q times a table
--     expansion_product     a table with the coefficients of the product of two expansions is the product, in every number of variables
use Rattle.std.proofs.Common.{◌≡◌, ℕ, ◌+◌, ◌*◌, ◌/◌, ◌<◌, Bool, true, false, cond, List, [], ◌∷◌, length, sym, ◌∙◌, ap, ap₂, subst, refl, inl, inr, arith, ℤ, pos, ◌*ℤ◌}
use Rattle.std.specs.Prelude.{nat_eq, nat_abs, Some, None}
use Rattle.std.specs.Option.{unwrap_or}
use Rattle.std.specs.Int.{◌∣◌}
use Rattle.std.specs.Map.{lookup, keys_of}
use Rattle.std.specs.Cmp.Lexicographic.{pointwise, nat_list_eq_equiv}
use Rattle.std.proofs.lemmas.Bool.{and_parts}
use Rattle.std.proofs.lemmas.Map.{lookup-none}
use Rattle.std.proofs.lemmas.Map.Keys.{IsDistinct-tail}
use Rattle.std.proofs.lemmas.Map.Entries.{none_past_head}
use Rattle.std.proofs.lemmas.Slice.Eq.{bytes_eq-Decides}
use Rattle.std.proofs.Math.Nat.{div-mul_cancel}
use Rattle.sym_model.specs.Sum.{Among, Once}
use Rattle.sym_model.specs.Polynomial.{Poly, coefficient, scale, times}
use Rattle.sym_model.specs.Partition.{IsPartition, size}
use Rattle.sym_model.specs.Expansion.{Basis, Fraction, Terms, denominators, value, IsExpansionOf}
use Rattle.sym_model.specs.Canonical.{is_label}
use Rattle.sym_model.proofs.Ring.{product_assoc, one-product}
use Rattle.sym_model.proofs.Sums.{Among-map, Among_from_map}
use Rattle.sym_model.specs.Expression.{lcm}
use Rattle.sym_model.specs.ListWeight.{common_denominator}
use Rattle.sym_model.specs.WholeTerms.{WholeTerms}
use Rattle.monomial_laws.proofs.WeightBounds.{lcm-left, lcm-right, lcm-positive}
use Rattle.std.proofs.lemmas.Nat.Gcd.{dvd_trans}
use Rattle.sym_model.proofs.Orders.{is_reduced-tells, is_label-tells}
use Rattle.fraction_laws.specs.Fractions.{whole, scaled}
use Rattle.sparse_polys.specs.Combination.{terms_of, IsPartitionTable}
use Rattle.linear_combinations.proofs.Labels.{same_partition}
use Rattle.monomial_laws.specs.MonomialProduct.{product_coefficient}
use Rattle.monomial_laws.specs.ExpressionTerms.{IsList, over}
use Rattle.monomial_laws.proofs.ExpressionTerms.{list-product}
use Rattle.monomial_laws.proofs.DividedTerms.{labels_of, over-missing, over-there, divides-denominators, cleared-over, expansion_divided}
use Rattle.linear_combinations.specs.Gains.{over as sum_over, only}
use Rattle.linear_combinations.proofs.Masses.{labels_gained}
use Rattle.sparse_polys.specs.MonomialProducts.{AreSums, products}
use Rattle.sparse_polys.proofs.Tables.{table_gained, term-tests}
use Rattle.sparse_polys.proofs.ValueLists.{among_values}
use Rattle.sparse_polys.proofs.ClearedSums.{found_over, table_over}
use Rattle.linear_combinations.proofs.Found.{coefficient_over as coefficient_of_over}
use Rattle.sparse_polys.proofs.ProductLists.{products_coefficient, products_sizes}
use Rattle.linear_combinations.specs.Cleared.{IsCommonDenominator, GainsCleared}
use Rattle.sparse_polys.specs.Products.{coefficient_at}
use native.Mathlib.Nat.{mul-pos, dvd-mul_left}
use lib.IntN.{+ℤ_idl, *ℤ_comm}

table_tail : (t : List ℕ × Fraction) (terms : Terms (List ℕ)) → IsPartitionTable (t ∷ terms) → IsPartitionTable terms
table_tail t terms is = record { distinct = IsDistinct-tail (pointwise nat_eq) t.0 (keys_of terms) is.distinct; proper = (and_parts _ _ is.proper).1 }

not_here : (t : List ℕ × Fraction) (terms : Terms (List ℕ)) → IsPartitionTable (t ∷ terms) → (ν : List ℕ) → pointwise nat_eq ν t.0 ≡ true → lookup (pointwise nat_eq ν) terms ≡ None
not_here t terms is ν e = lookup-none (pointwise nat_eq ν) terms (none_past_head nat_list_eq_equiv ν t terms is.distinct e)

pub coefficient-over : (q : ℕ) (terms : Terms (List ℕ)) → IsPartitionTable terms → (ν : List ℕ) → coefficient (over q terms) ν ≡ scaled q (coefficient_at terms ν)
coefficient-over q terms is ν = coefficient_of_over (over q terms) ν ∙ found_over q terms is ν

absent : (k : List ℕ) (terms : Terms (List ℕ)) → lookup (pointwise nat_eq k) terms ≡ None → Among k (labels_of terms) → ⊥
absent k [] e m = m
absent k (u ∷ terms) e m = by (pointwise nat_eq k u.0) refl e (absent k terms) m
  where
    by : (b : Bool) → pointwise nat_eq k u.0 ≡ b → cond b (Some u.1) (lookup (pointwise nat_eq k) terms) ≡ None
        → (lookup (pointwise nat_eq k) terms ≡ None → Among k (labels_of terms) → ⊥) → Among k (labels_of (u ∷ terms)) → ⊥
    by true p none rest n = cc
    by false p none rest (inl i) = let t : pointwise nat_eq k u.0 ≡ true = (bytes_eq-Decides k u.0).1 i in cc
    by false p none rest (inr n) = rest none n

pub found_at : (terms : Terms (List ℕ)) → IsPartitionTable terms → (t : List ℕ × Fraction) → Among t terms → coefficient_at terms t.0 ≡ t.1
found_at [] is t m = absurd m
found_at (u ∷ terms) is t m = by (pointwise nat_eq t.0 u.0) refl (found_at terms (table_tail u terms is) t) m
  where
    by : (b : Bool) → pointwise nat_eq t.0 u.0 ≡ b → (Among t terms → coefficient_at terms t.0 ≡ t.1) → Among t (u ∷ terms)
        → unwrap_or (cond b (Some u.1) (lookup (pointwise nat_eq t.0) terms)) (pos 0, 1) ≡ t.1
    by true p rest (inl e) = ap (λ (v : List ℕ × Fraction). v.1) (sym e)
    by true p rest (inr n) = absurd (absent t.0 terms (not_here u terms is t.0 p) (Among-map (λ (v : List ℕ × Fraction). v.0) t terms n))
    by false p rest (inl e) = let i : pointwise nat_eq t.0 u.0 ≡ true = (bytes_eq-Decides t.0 u.0).1 (ap (λ (v : List ℕ × Fraction). v.0) e) in cc
    by false p rest (inr n) = rest n

pub once_labels : (terms : Terms (List ℕ)) → IsPartitionTable terms → Once (labels_of terms)
once_labels [] is = tt
once_labels (t ∷ terms) is =
    (absent t.0 terms (not_here t terms is t.0 ((bytes_eq-Decides t.0 t.0).1 refl)), once_labels terms (table_tail t terms is))

-- ---- common denominators of tables

reduced_at : (terms : Terms (List ℕ)) → IsPartitionTable terms → (t : List ℕ × Fraction) → Among t terms → (0 < t.1.1) × (0 < nat_abs t.1.0)
reduced_at terms is t m = let r = is_reduced-tells t.1 (term-tests terms is t m).0 in (r.denominator, r.nonzero)

pub denominators-positive : (terms : Terms (List ℕ)) → ((t : List ℕ × Fraction) → Among t terms → 0 < t.1.1) → 0 < denominators terms
denominators-positive [] h = omega arith
denominators-positive (t ∷ terms) h = mul-pos (h t (inl refl)) (denominators-positive terms (λ u m. h u (inr m)))

pub common-denominators : (terms : Terms (List ℕ)) → IsPartitionTable terms → IsCommonDenominator (denominators terms) terms
common-denominators terms is = record {
  positive = denominators-positive terms (λ t m. (reduced_at terms is t m).0);
  multiple = divides-denominators terms;
}

partition_at : (terms : Terms (List ℕ)) → IsPartitionTable terms → (t : List ℕ × Fraction) → Among t terms → IsPartition t.0
partition_at terms is t m = (is_label-tells t.0 (term-tests terms is t m).1).partition

pub divides_terms : (q : ℕ) (product : Terms (List ℕ)) → IsPartitionTable product → ((ν : List ℕ) → IsPartition ν → (coefficient_at product ν).1 ∣ q)
    → (t : List ℕ × Fraction) → Among t product → t.1.1 ∣ q
divides_terms q product ip h t m =
    subst (λ (c : Fraction). c.1 ∣ q) (found_at product ip t m)
    (h t.0 (partition_at product ip t m))

-- ---- the product of two expansions in m

value-list : (terms : Terms (List ℕ)) → IsList (over (denominators terms) terms) (λ n. value Basis.monomials terms n)
value-list terms n α = ap (λ (f : Poly). coefficient f α) (sym (cleared-over (denominators terms) n terms))

cancel : (num : ℤ) (D den r : ℕ) → r * den ≡ D → num *ℤ pos D ≡ num *ℤ pos r *ℤ pos den
cancel num D den r e = ap (λ n. num *ℤ pos n) (sym e) ∙ sym (product_assoc num (pos r) (pos den))

-- for all common denominators d of `left` and e of `right`, d·e·`product` is the product of the lists d·`left` and e·`right`, as expansions in m
abbrev pub IsClearedProduct : Terms (List ℕ) → Terms (List ℕ) → Terms (List ℕ) → Type 0
IsClearedProduct left right product =
    (d e : ℕ) → IsCommonDenominator d left → IsCommonDenominator e right
    → GainsCleared (pointwise nat_eq) is_label (d * e) [] (products (over d left) (over e right))
    product

table_from : (q : ℕ) (g : WholeTerms) (product : Terms (List ℕ))
    → GainsCleared (pointwise nat_eq) is_label q [] g product → IsPartitionTable product
table_from q g product a = table_gained q g product a

sums_from : (q : ℕ) (f g : WholeTerms) (product : Terms (List ℕ))
    → GainsCleared (pointwise nat_eq) is_label q [] (products f g) product
    → (ν : List ℕ) → IsPartition ν → scaled q (coefficient_at product ν) ≡ product_coefficient f g ν
sums_from q f g product a ν p =
    sym (found_over q product (table_from q (products f g) product a) ν) ∙ a.gains.sums (only (pointwise nat_eq) ν)
    ∙ +ℤ_idl (sum_over (only (pointwise nat_eq) ν) (products f g)) ∙ products_coefficient f g ν p

pub expansion_product : (left right product : Terms (List ℕ)) → IsPartitionTable left → IsPartitionTable right → IsClearedProduct left right product → (n : ℕ)
    → IsExpansionOf Basis.monomials product n (times (value Basis.monomials left n) (value Basis.monomials right n)) (denominators left * denominators right)
expansion_product left right product il ir cleared =
    let D = denominators left * denominators right in
    let f = over (denominators left) left in
    let g = over (denominators right) right in
    let adds : GainsCleared (pointwise nat_eq) is_label D [] (products f g) product = cleared
    (denominators left) (denominators right) (common-denominators left il)
    (common-denominators right ir) in
    let ip : IsPartitionTable product = table_from D (products f g) product adds in
    expansion_divided D (over D product) product (λ n. times (value Basis.monomials left n) (value Basis.monomials right n))
    (record {
      once = once_labels product ip;
      positive = denominators-positive product (λ t m. (reduced_at product ip t m).0);
      there =
          λ t m.
          cancel t.1.0 D t.1.1 (D / t.1.1) (div-mul_cancel t.1.1 (divides_terms D product ip (λ ν p. adds.cleared ν) t m))
          ∙ ap (λ z. z *ℤ pos t.1.1) (sym (over-there D product (once_labels product ip) t m));
      missing = λ label none. over-missing D product label none;
    })
    (list-product f g (over D product)
    (λ n. value Basis.monomials left n) (λ n. value Basis.monomials right n) (value-list left) (value-list right)
    (λ ν p. coefficient-over D product ip ν ∙ sums_from D f g product adds ν p))

pub times_nothing : (f : Poly) → times f [] ≡ []
times_nothing [] = refl
times_nothing (s ∷ f) = times_nothing f

pub expansion_nothing : (left right product : Terms (List ℕ)) (n d : ℕ) → product ≡ [] → length right ≡ 0
    → IsExpansionOf Basis.monomials product n (times (value Basis.monomials left n) (value Basis.monomials right n)) d
expansion_nothing left (t ∷ right) product n d e h = absurd (omega arith)
expansion_nothing left [] product n d e h =
    let f = value Basis.monomials left n in
    let none : IsExpansionOf Basis.monomials [] n (times f []) d =
    record { positive = omega arith; equal = λ α. sym (ap (λ g. coefficient (scale (pos 1) g) α) (times_nothing f)) } in
    subst (λ (l : Terms (List ℕ)). IsExpansionOf Basis.monomials l n (times f []) d) (sym e) none

-- if d·e·`product` is the product of d·`left` and e·`right`, the size of each label of `product` is the sum of the sizes of a label of `left` and of
-- a label of `right`
pub sums_of_sizes : (d e : ℕ) (left right product : Terms (List ℕ)) → 0 < d * e
    → GainsCleared (pointwise nat_eq) is_label (d * e) [] (products (over d left) (over e right))
    product → AreSums left right product
sums_of_sizes d e left right product some adds t m =
    let q = d * e in
    let ip : IsPartitionTable product = table_from q (products (over d left) (over e right)) product adds in
    labels_gained nat_list_eq_equiv same_partition [] (products (over d left) (over e right)) (over q product)
    (table_over q product ip some (divides_terms q product ip (λ ν p. adds.cleared ν))) adds.gains
    (λ ν. (l r : List ℕ × Fraction) × Among l left × Among r right × (size l.0 + size r.0 ≡ size ν)) (λ u n. absurd n) (products_sizes d e left right)
    (t.0, scaled q t.1) (Among-map (λ (u : List ℕ × Fraction). (u.0, scaled q u.1)) t product m)

pub least-positive : (terms : Terms (List ℕ)) → ((t : List ℕ × Fraction) → Among t terms → 0 < t.1.1) → 0 < common_denominator terms
least-positive [] h = omega arith
least-positive (t ∷ terms) h = lcm-positive t.1.1 (common_denominator terms) (h t (inl refl)) (least-positive terms (λ u m. h u (inr m)))

pub least-multiple : (terms : Terms (List ℕ)) → ((t : List ℕ × Fraction) → Among t terms → 0 < t.1.1) → (t : List ℕ × Fraction) → Among t terms → t.1.1 ∣ common_denominator terms
least-multiple [] h t m = absurd m
least-multiple (u ∷ terms) h t (inl e) =
    let l = lcm u.1.1 (common_denominator terms) in
    subst (λ (v : List ℕ × Fraction). v.1.1 ∣ l) (sym e) (subst (λ n. u.1.1 ∣ n) (lcm-left u.1.1 (common_denominator terms) (h u (inl refl))) (dvd-mul_left u.1.1 (l / u.1.1)))
least-multiple (u ∷ terms) h t (inr m) =
    let l = lcm u.1.1 (common_denominator terms) in
    dvd_trans t.1.1 (least-multiple terms (λ v n. h v (inr n)) t m)
    (subst (λ n. common_denominator terms ∣ n) (lcm-right u.1.1 (common_denominator terms)) (dvd-mul_left (common_denominator terms) (l / common_denominator terms)))

pub least-denominators : (terms : Terms (List ℕ)) → IsPartitionTable terms → IsCommonDenominator (common_denominator terms) terms
least-denominators terms is = record {
  positive = least-positive terms (λ t m. (reduced_at terms is t m).0);
  multiple = least-multiple terms (λ t m. (reduced_at terms is t m).0);
}

pub whole-denominators : (terms : WholeTerms) → IsCommonDenominator 1 (terms_of whole terms)
whole-denominators terms = record { positive = omega arith; multiple = divides terms }
  where
    divides : (terms : WholeTerms) (t : List ℕ × Fraction) → Among t (terms_of whole terms) → t.1.1 ∣ 1
    divides [] t m = absurd m
    divides (u ∷ terms) t (inl e) = subst (λ n. n ∣ 1) (sym (ap (λ (v : List ℕ × Fraction). v.1.1) e)) (dvd-mul_left 1 1)
    divides (u ∷ terms) t (inr m) = divides terms t m

pub over-one : (terms : WholeTerms) → over 1 (terms_of whole terms) ≡ terms
over-one [] = refl
over-one (t ∷ terms) = ap₂ (λ (z : ℤ) (l : WholeTerms). (t.0, z) ∷ l) (*ℤ_comm t.1 (pos 1) ∙ one-product t.1) (over-one terms)

pub whole_product : (left right product : WholeTerms)
    → GainsCleared (pointwise nat_eq) is_label 1 []
    (products (over 1 (terms_of whole left)) (over 1 (terms_of whole right)))
    (terms_of whole product)
    → (ν : List ℕ) → IsPartition ν → coefficient product ν ≡ product_coefficient left right ν
whole_product left right product adds ν p =
    let f = over 1 (terms_of whole left) in
    let g = over 1 (terms_of whole right) in
    ap (λ (l : WholeTerms). coefficient l ν) (sym (over-one product))
    ∙ coefficient-over 1 (terms_of whole product) (table_from 1 (products f g) (terms_of whole product) adds) ν
    ∙ sums_from 1 f g (terms_of whole product) adds ν p
    ∙ ap₂ (λ (l r : WholeTerms). product_coefficient l r ν) (over-one left) (over-one right)

label_among : {R : Type 0} (value : R → Fraction) (entries : List (List ℕ × R)) (u : List ℕ × Fraction)
    → Among u (terms_of value entries) → (t : List ℕ × R) × Among t entries × (size t.0 ≡ size u.0)
label_among {R = R} value entries u m =
    let v = Among_from_map (λ (p : List ℕ × R). (p.0, value p.1)) u entries m in
    (v.0, v.1, ap (λ (w : List ℕ × Fraction). size w.0) (sym v.2))

-- `AreSums` holds for three lists of labels with scalars if it holds for these lists with each scalar replaced by its value
pub sums_values : {R : Type 0} (value : R → Fraction) (left right product : List (List ℕ × R))
    → AreSums (terms_of value left) (terms_of value right) (terms_of value product)
    → AreSums left right product
sums_values value left right product h t m =
    let s = h (t.0, value t.1) (among_values value t product m) in
    let l = label_among value left s.0 s.2 in
    let r = label_among value right s.1 s.3 in
    (l.0, r.0, l.1, r.1, ap₂ (λ a b. a + b) l.2 r.2 ∙ s.4)
