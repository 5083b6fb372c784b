-- The product of two expansions in m as one list (specs/MonomialProducts).
--     counted_gains, counted_overflows        adding the partitions that the search for m_λ·m_μ lists, with their counts as coefficients, is adding
--                                             m_λ·m_μ, also if the addition overflows
--     products_coefficient, products_large    the coefficients of the product of two lists
--     products_sizes                          the sizes of the labels of the product
use Rattle.std.proofs.Common.{◌≡◌, ◌⊎◌, ℕ, ◌+◌, ◌^◌, List, [], ◌∷◌, ◌++◌, map, refl, sym, ap, ◌∙◌, subst, inl, inr, arith, ℤ, pos, rules}
use Rattle.std.specs.Prelude.{nat_eq, ◌≤ℤ◌}
use Rattle.std.specs.Cmp.Lexicographic.{pointwise}
use Rattle.std.proofs.lemmas.Bool.{cases_eq}
use Rattle.std.proofs.lemmas.Int.{ints}
use Rattle.std.proofs.lemmas.List.{map-append}
use Rattle.sym_model.specs.Canonical.{is_label}
use Rattle.sym_model.specs.Sum.{Among}
use Rattle.sym_model.specs.Partition.{IsPartition, size}
use Rattle.sym_model.specs.PartitionList.{partitions_of}
use Rattle.sym_model.specs.Polynomial.{coefficient, pair}
use Rattle.sym_model.specs.Expansion.{Fraction, Terms}
use Rattle.sym_model.specs.WholeTerms.{WholeTerms}
use Rattle.sym_model.proofs.Exponents.{same_from, same_apart}
use Rattle.sym_model.proofs.PartitionLists.{partitions_of-tells, Among-partitions_of, Once-FallsLexicographically, FallsLexicographically-partitions_within}
use Rattle.sym_model.proofs.Polynomials.{pair_ext, pair_determined}
use Rattle.sym_model.proofs.Sums.{Among_from_map, total_map, total_none, total_only}
use Rattle.fraction_laws.specs.Fractions.{scaled as numerator}
use Rattle.monomial_laws.specs.MonomialProduct.{arrangements, product_coefficient}
use Rattle.monomial_laws.specs.ExpressionTerms.{over, absolute}
use Rattle.monomial_laws.proofs.Arrangements.{arrangements-sizes}
use Rattle.monomial_laws.proofs.Splits.{product_coefficient-arrangements}
use Rattle.linear_combinations.specs.Gains.{over as sum_over, only, mass_at, scaled, replaced, HaveLabels, Overflows}
use Rattle.linear_combinations.proofs.Found.{counts_at, coefficient_over}
use Rattle.linear_combinations.proofs.Gains.{mass_at_append, overflows_as, replaced_over, scaled_append, scaled_over}
use Rattle.linear_combinations.proofs.Masses.{mass_at_scaled, labels_replaced}
use Rattle.sparse_polys.specs.declared.search.Counted.{Counted}
use Rattle.sparse_polys.specs.Search.{count_at, AreCounted}
use Rattle.sparse_polys.specs.MonomialProducts.{product_terms, products}
use Rattle.linear_combinations.specs.Cleared.{GainsCleared, OverflowsCleared}
use Rattle.linear_combinations.proofs.Cleared.{Gains-as}
use Rattle.sparse_polys.proofs.ExactCounts.{all_among}

label_or_none : (P : List ℕ → Type 0) (g : WholeTerms) → HaveLabels P g → (ν : List ℕ) → (P ν) ⊎ (mass_at (pointwise nat_eq) ν g ≡ 0)
label_or_none P [] h ν = inr refl
label_or_none P (t ∷ g) h ν = search (rules, (label_or_none P g))

module _ (l r : List ℕ) where
  pub terms_labels : HaveLabels (λ ν. IsPartition ν × (size ν ≡ size l + size r)) (product_terms l r)
  terms_labels t m =
      let u = Among_from_map (λ (ν : List ℕ). (ν, pos (arrangements l r ν))) t (partitions_of (size l + size r)) m in
      subst (λ (v : List ℕ × ℤ). IsPartition v.0 × (size v.0 ≡ size l + size r)) (sym u.2) (partitions_of-tells (size l + size r) u.0 u.1)

  terms_counts : (t : List ℕ × ℤ) → Among t (product_terms l r) → pos 0 ≤ℤ t.1
  terms_counts t m =
      let u = Among_from_map (λ (ν : List ℕ). (ν, pos (arrangements l r ν))) t (partitions_of (size l + size r)) m in
      subst (λ (v : List ℕ × ℤ). pos 0 ≤ℤ v.1) (sym u.2) (omega (arith, ints))

  terms_coefficient : (ν : List ℕ) → IsPartition ν → coefficient (product_terms l r) ν ≡ pos (arrangements l r ν)
  terms_coefficient ν p =
      search (rules, total_map, cases_eq, total_only, Once-FallsLexicographically, FallsLexicographically-partitions_within, Among-partitions_of, same_apart, same_from, total_none, partitions_of-tells, arrangements-sizes)

  pub terms_mass : (ν : List ℕ) → IsPartition ν → pos (mass_at (pointwise nat_eq) ν (product_terms l r)) ≡ pos (arrangements l r ν)
  terms_mass ν p = sym (counts_at (pointwise nat_eq) ν (product_terms l r) terms_counts) ∙ sym (coefficient_over (product_terms l r) ν) ∙ terms_coefficient ν p

-- ---- the counts of a search as a list of terms

abbrev pub counted_terms : List Counted → WholeTerms
counted_terms counted = map (λ (t : Counted). (t.parts.items, pos t.count)) counted

counted_coefficient : (counted : List Counted) (ν : List ℕ) → coefficient (counted_terms counted) ν ≡ pos (count_at counted ν)
counted_coefficient [] ν = refl
counted_coefficient (t ∷ counted) ν = search (rules, (counted_coefficient counted ν))

module _ (l r : List ℕ) (counted : List Counted) (labels : AreCounted (size l + size r) counted) (counts : (ν : List ℕ) → IsPartition ν → count_at counted ν ≡ arrangements l r ν) where
  counted_labels : HaveLabels IsPartition (counted_terms counted)
  counted_labels t m =
      let u = Among_from_map (λ (t : Counted). (t.parts.items, pos t.count)) t counted m in
      subst (λ (v : List ℕ × ℤ). IsPartition v.0) (sym u.2)
      (all_among (λ (u : Counted). IsPartition u.parts.items × (size u.parts.items ≡ size l + size r)) counted u.0 labels u.1).0

  mass_is : (ν : List ℕ) → coefficient (counted_terms counted) ν ≡ pos (mass_at (pointwise nat_eq) ν (counted_terms counted))
  mass_is ν =
      coefficient_over (counted_terms counted) ν
      ∙ counts_at (pointwise nat_eq) ν (counted_terms counted)
      (λ t m.
      let u = Among_from_map (λ (t : Counted). (t.parts.items, pos t.count)) t counted m in
      subst (λ (v : List ℕ × ℤ). pos 0 ≤ℤ v.1) (sym u.2) (omega (arith, ints)))

  counted_mass : (ν : List ℕ) → mass_at (pointwise nat_eq) ν (counted_terms counted) ≡ mass_at (pointwise nat_eq) ν (product_terms l r)
  counted_mass ν = by (label_or_none IsPartition (counted_terms counted) counted_labels ν) (label_or_none IsPartition (product_terms l r) (λ t m. (terms_labels l r t m).0) ν)
    where
      here : IsPartition ν → mass_at (pointwise nat_eq) ν (counted_terms counted) ≡ mass_at (pointwise nat_eq) ν (product_terms l r)
      here p =
          let a = sym (mass_is ν) ∙ counted_coefficient counted ν in
          let b = terms_mass l r ν p in
          let c = counts ν p in
          omega (arith, ints)

      by : (IsPartition ν) ⊎ (mass_at (pointwise nat_eq) ν (counted_terms counted) ≡ 0) → (IsPartition ν) ⊎ (mass_at (pointwise nat_eq) ν (product_terms l r) ≡ 0)
          → mass_at (pointwise nat_eq) ν (counted_terms counted) ≡ mass_at (pointwise nat_eq) ν (product_terms l r)
      by (inl p) b = here p
      by (inr a) (inl p) = here p
      by (inr a) (inr b) = a ∙ sym b

  counted_same : (φ : List ℕ → ℤ) → sum_over φ (counted_terms counted) ≡ sum_over φ (product_terms l r)
  counted_same φ = search (rules, pair_determined, mass_is, counted_mass, counts_at, terms_counts, coefficient_over)

  pub counted_gains : (z : ℤ) (q : ℕ) (old new : Terms (List ℕ))
      → GainsCleared (pointwise nat_eq) is_label q old (scaled z (counted_terms counted)) new
      → GainsCleared (pointwise nat_eq) is_label q old (scaled z (product_terms l r)) new
  counted_gains z q old new = search (rules, Gains-as, scaled_over, counted_same)

  pub counted_overflows : (z : ℤ) (q : ℕ) (old : Terms (List ℕ))
      → OverflowsCleared (pointwise nat_eq) q old (scaled z (counted_terms counted))
      → OverflowsCleared (pointwise nat_eq) q old (scaled z (product_terms l r))
  counted_overflows z q old = search (rules, overflows_as, mass_at_scaled, counted_mass)

pub counted_pieces : (z : ℤ) (xs ys : List Counted) → scaled z (counted_terms (xs ++ ys)) ≡ scaled z (counted_terms xs) ++ scaled z (counted_terms ys)
counted_pieces z xs ys = ap (scaled z) (map-append (λ (t : Counted). (t.parts.items, pos t.count)) xs ys) ∙ scaled_append z (counted_terms xs) (counted_terms ys)

-- ---- the product of two lists in the monomial basis m

replaced_mass : (image : List ℕ → WholeTerms) (ν : List ℕ) (terms : WholeTerms)
    → pos (mass_at (pointwise nat_eq) ν (replaced image terms)) ≡ pair (absolute terms) (λ k. pos (mass_at (pointwise nat_eq) ν (image k)))
replaced_mass image ν [] = refl
replaced_mass image ν (t ∷ terms) = search (rules, mass_at_append, mass_at_scaled, (replaced_mass image ν terms))

module _ (f g : WholeTerms) (ν : List ℕ) (p : IsPartition ν) where
  pub products_coefficient : sum_over (only (pointwise nat_eq) ν) (products f g) ≡ product_coefficient f g ν
  products_coefficient =
      let φ = only (pointwise nat_eq) ν in
      replaced_over (λ l. replaced (product_terms l) g) φ f
      ∙ pair_ext f (λ l. sum_over φ (replaced (product_terms l) g)) (λ l. pair g (λ r. pos (arrangements l r ν)))
      (λ l.
      replaced_over (product_terms l) φ g
      ∙ pair_ext g (λ r. sum_over φ (product_terms l r)) (λ r. pos (arrangements l r ν)) (λ r. sym (coefficient_over (product_terms l r) ν) ∙ terms_coefficient l r ν p))
      ∙ sym (product_coefficient-arrangements f g ν)

  products_mass : pos (mass_at (pointwise nat_eq) ν (products f g)) ≡ product_coefficient (absolute f) (absolute g) ν
  products_mass = search (rules, replaced_mass, pair_ext, terms_mass, product_coefficient-arrangements)

products_labels : (P : List ℕ → Type 0) (f g : WholeTerms) → ((s t : List ℕ × ℤ) → Among s f → Among t g → HaveLabels P (product_terms s.0 t.0)) → HaveLabels P (products f g)
products_labels P f g h = labels_replaced (λ l. replaced (product_terms l) g) P f (λ s m. labels_replaced (product_terms s.0) P g (λ t n. h s t m n))

-- if adding up the product of f and g term by term overflows, the product of |f| and |g|, the lists with absolute values as coefficients, has a
-- coefficient of 2^127 or more at some partition
pub products_large : (f g : WholeTerms) → Overflows (pointwise nat_eq) [] (products f g) → (ν : List ℕ) × IsPartition ν × (pos (2 ^ 127) ≤ℤ product_coefficient (absolute f) (absolute g) ν)
products_large f g o = by (label_or_none IsPartition (products f g) (products_labels IsPartition f g (λ s t m n u k. (terms_labels s.0 t.0 u k).0)) o.0)
  where
    by : (IsPartition o.0) ⊎ (mass_at (pointwise nat_eq) o.0 (products f g) ≡ 0) → (ν : List ℕ) × IsPartition ν × (pos (2 ^ 127) ≤ℤ product_coefficient (absolute f) (absolute g) ν)
    by (inl p) = let l = o.1 in (o.0, p, subst (λ z. pos (2 ^ 127) ≤ℤ z) (products_mass f g o.0 p) (omega (arith, ints)))
    by (inr z) = let l = o.1 in absurd (omega arith)

-- the size of each label of the product of `left` and `right` is the sum of the sizes of a label of `left` and of a label of `right`
pub products_sizes : (d e : ℕ) (left right : Terms (List ℕ))
    → HaveLabels (λ ν. (l r : List ℕ × Fraction) × Among l left × Among r right × (size l.0 + size r.0 ≡ size ν)) (products (over d left) (over e right))
products_sizes d e left right =
    products_labels (λ ν. (l r : List ℕ × Fraction) × Among l left × Among r right × (size l.0 + size r.0 ≡ size ν)) (over d left) (over e right)
    (λ s t m n u k.
    let l = Among_from_map (λ (t : List ℕ × Fraction). (t.0, numerator d t.1)) s left m in
    let r = Among_from_map (λ (t : List ℕ × Fraction). (t.0, numerator e t.1)) t right n in
    let a = ap (λ (v : List ℕ × ℤ). size v.0) l.2 in
    let b = ap (λ (v : List ℕ × ℤ). size v.0) r.2 in
    let z = (terms_labels s.0 t.0 u k).1 in
    (l.0, r.0, l.1, r.1, omega arith))
