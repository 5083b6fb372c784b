-- The terms that a walk over the rule for a product lists are a canonical list: their labels have the same size, and are in decreasing lexicographic
-- order.
use Rattle.std.proofs.Common.{◌≡◌, ◌⊎◌, inl, inr, ℕ, ◌+◌, ◌-◌, ◌^◌, ◌<◌, ◌≤◌, true, false, ◌&&◌, List, [], ◌∷◌, take, drop, get_or, replicate, refl, sym, ap, ◌∙◌, subst, arith, pos}
use Rattle.std.specs.Ordering.{is_lt, nat_cmp, ordering_then}
use Rattle.std.specs.declared.cmp.Ordering.TheVariants.{Less, Equal}
use Rattle.std.proofs.lemmas.Bool.{and_from, and_parts, cases_eq, ltb-true, cases_lt, lt-ltb}
use Rattle.std.proofs.lemmas.Cmp.{nat_cmp_total, tied_itself}
use Rattle.fraction_laws.specs.Fractions.{whole}
use Rattle.fraction_laws.proofs.Fractions.{InLowestTerms-whole}
use Rattle.sym_model.specs.Canonical.{is_printable, is_reduced, fits_128_bits}
use Rattle.sym_model.specs.Expansion.{Fraction}
use Rattle.sym_model.specs.GoodTableau.{product_count}
use Rattle.sym_model.specs.LabelLimits.{is_label}
use Rattle.sym_model.specs.Partition.{IsPartition, ArePositive, part, rows, size, without_last_zeros}
use Rattle.sym_model.specs.PartitionList.{FallsLexicographically}
use Rattle.sym_model.specs.PrintedOrder.{falling_lexicographic, printed_order}
use Rattle.sym_model.specs.Sum.{Among}
use Rattle.sym_model.specs.WholeTerms.{as_fractions}
use Rattle.sym_model.proofs.Orders.{is_label-from}
use Rattle.partitions.specs.Limits.{IsWithinLimits}
use Rattle.alternant_laws.proofs.CountedTerms.{product_counts_stable}
use Rattle.linear_combinations.specs.Entries.{IsCanonicalList, is_ordered, are_terms, is_term}
use Rattle.linear_combinations.proofs.LowestTerms.{is_reduced-lowest}
use Rattle.prefix_walk.specs.Terms.{terms_below}
use Rattle.prefix_walk.specs.Levels.{at_most_cap}
use Rattle.lr_product.specs.WeighedSum.{comes_to}
use Rattle.lr_product.specs.RowExtension.{over_rows}
use Rattle.lr_product.proofs.GoodCounts.{product_count-other_size}
use Rattle.lattice_rows.specs.LatticeRows.{row_ways}
use Rattle.lattice_rows.specs.ListedProduct.{ListsProduct}
use Rattle.lattice_rows.specs.ProductRule.{IsRule, labelled, AreLimited, AreSmall, HasLarge}
use Rattle.lattice_rows.proofs.LabelOrder.{labels_of, labels_fall, falling-without_last_zeros}
use Rattle.lattice_rows.proofs.ListedTerms.{AreCounted, term_tells, limited_terms, past_terms, fits_terms, counts_terms}
use Rattle.lattice_rows.proofs.RuleWays.{rule_counts}

-- ---- canonical lists

-- the label without the zeros at its end is a partition of m within the limits, and the count is positive
record IsProper (m : ℕ) (t : List ℕ × ℕ) : Type 0 where
  limits : IsWithinLimits (without_last_zeros t.0)
  sized : size (without_last_zeros t.0) ≡ m
  some : 0 < t.1

before : (m : ℕ) (x y : List ℕ) → size (without_last_zeros x) ≡ m → size (without_last_zeros y) ≡ m → falling_lexicographic x y ≡ Less
    → is_lt (printed_order (without_last_zeros x) (without_last_zeros y)) ≡ true
before m x y p q h =
    let e : size (without_last_zeros y) ≡ size (without_last_zeros x) = q ∙ sym p in
    let tied : nat_cmp (size (without_last_zeros y)) (size (without_last_zeros x)) ≡ Equal = ap (λ n. nat_cmp n (size (without_last_zeros x))) e ∙ tied_itself nat_cmp_total (size (without_last_zeros x)) in
    ap (λ o. is_lt (ordering_then o (falling_lexicographic (without_last_zeros x) (without_last_zeros y)))) tied
    ∙ ap is_lt (falling-without_last_zeros x y ∙ h)

ordered : (m : ℕ) (ts : List (List ℕ × ℕ)) → FallsLexicographically (labels_of ts) → ((t : List ℕ × ℕ) → Among t ts → IsProper m t)
    → is_ordered printed_order (labelled ts) ≡ true
ordered m [] f p = refl
ordered m (t ∷ []) f p = refl
ordered m (t ∷ u ∷ ts) f p =
    and_from (is_lt (printed_order (without_last_zeros t.0) (without_last_zeros u.0))) (is_ordered printed_order (labelled (u ∷ ts)))
    (before m t.0 u.0 (p t (inl refl)).sized (p u (inr (inl refl))).sized (f.0 u.0 (inl refl)))
    (ordered m (u ∷ ts) f.1 (λ s k. p s (inr k)))

proper : (m : ℕ) (ts : List (List ℕ × ℕ)) → ((t : List ℕ × ℕ) → Among t ts → IsProper m t) → are_terms whole is_label (labelled ts) ≡ true
proper m [] p = refl
proper m (t ∷ ts) p =
    let h = p t (inl refl) in
    let s = h.some in
    let zero_not : whole (pos t.1) ≡ whole (pos 0) → ⊥ = λ e. let z : pos t.1 ≡ pos 0 = ap (λ (r : Fraction). r.0) e in none t.1 s z in
    and_from (is_term whole is_label (without_last_zeros t.0, pos t.1)) (are_terms whole is_label (labelled ts))
    (and_from (is_reduced (whole (pos t.1))) (is_label (without_last_zeros t.0)) (is_reduced-lowest (whole (pos t.1)) (InLowestTerms-whole (pos t.1)) zero_not)
    (is_label-from (without_last_zeros t.0) (record { partition = h.limits.partition; rows = h.limits.few; size = h.limits.small })))
    (proper m ts (λ u k. p u (inr k)))
  where
    none : (n : ℕ) → 0 < n → pos n ≡ pos 0 → ⊥
    none n l e = let z : n ≡ 0 = cc in absurd (omega arith)

canonical_from : (m : ℕ) (ts : List (List ℕ × ℕ)) → FallsLexicographically (labels_of ts) → ((t : List ℕ × ℕ) → Among t ts → IsProper m t)
    → IsCanonicalList printed_order is_label whole (labelled ts)
canonical_from m ts f p =
    and_from (is_ordered printed_order (labelled ts)) (are_terms whole is_label (labelled ts)) (ordered m ts f p) (proper m ts p)

-- ---- coefficients less than 2^127

small_from : (ts : List (List ℕ × ℕ)) → is_printable (as_fractions (labelled ts)) ≡ true → AreSmall ts
small_from [] h = tt
small_from (t ∷ ts) h =
    let p = and_parts (fits_128_bits (pos t.1) && fits_128_bits (pos 1)) (is_printable (as_fractions (labelled ts))) h in
    let q = and_parts (fits_128_bits (pos t.1)) (fits_128_bits (pos 1)) p.0 in
    (ltb-true t.1 (2 ^ 127) q.0, small_from ts p.1)

large_from : (ts : List (List ℕ × ℕ)) → is_printable (as_fractions (labelled ts)) ≡ false → HasLarge ts
large_from [] h = absurd (cc)
large_from (t ∷ ts) h = by (cases_lt t.1 (2 ^ 127)) (large_from ts)
  where
    by : (t.1 < 2 ^ 127) ⊎ (2 ^ 127 ≤ t.1) → (is_printable (as_fractions (labelled ts)) ≡ false → HasLarge ts) → HasLarge (t ∷ ts)
    by (inr l) rec = (t, inl refl, l)
    by (inl l) rec =
        let fits : (fits_128_bits (pos t.1) && fits_128_bits (pos 1)) ≡ true = and_from (fits_128_bits (pos t.1)) (fits_128_bits (pos 1)) (lt-ltb t.1 (2 ^ 127) l) refl in
        let r = rec (sym (ap (λ b. b && is_printable (as_fractions (labelled ts))) fits) ∙ h) in
        (r.0, inr r.1, r.2)

-- ---- the terms of a product

sized : (N : ℕ) (left right ν : List ℕ) → IsPartition left → IsPartition right → IsPartition ν → rows ν ≤ N → (product_count N left right ν ≡ 0 → ⊥)
    → size ν ≡ size left + size right
sized N left right ν p q r l some = by (cases_eq (size left + size right) (size ν))
  where
    by : (size left + size right ≡ size ν) ⊎ (size left + size right ≡ size ν → ⊥) → size ν ≡ size left + size right
    by (inl e) = sym e
    by (inr other) =
        absurd (some (product_counts_stable (rows ν) N left right ν l p q r (omega arith) ∙ product_count-other_size ν left right r p q other))

module _ (N : ℕ) (f : List ℕ → ℕ) (left right : List ℕ) (c : AreCounted N f (product_count N left right)) (p : IsPartition left) (q : IsPartition right) where
  abbrev listing : List (List ℕ × ℕ)
  listing = terms_below 256 N (λ label. at_most_cap (f label))

  limits_at : (ts : List (List ℕ × ℕ)) (t : List ℕ × ℕ) → AreLimited ts → Among t ts → IsWithinLimits (without_last_zeros t.0)
  limits_at [] t a m = absurd m
  limits_at (u ∷ ts) t a (inl e) = subst (λ (x : List ℕ × ℕ). IsWithinLimits (without_last_zeros x.0)) (sym e) a.0
  limits_at (u ∷ ts) t a (inr m) = limits_at ts t a.1 m

  is_proper : (t : List ℕ × ℕ) → Among t listing → IsProper (size left + size right) t
  is_proper t m =
      let r = term_tells N f (product_count N left right) c t m in
      let s = r.some in
      let v = r.value in
      record {
        limits = limits_at listing t (limited_terms N f (product_count N left right) c) m;
        sized = sized N left right (without_last_zeros t.0) p q r.partition r.short (λ z. absurd (omega arith));
        some = s;
      }

  pub canonical : IsCanonicalList printed_order is_label whole (labelled listing)
  canonical = canonical_from (size left + size right) listing (labels_fall 256 N (λ label. at_most_cap (f label))) is_proper

  pub lists : ListsProduct N left right (labelled listing)
  lists = record {
    canonical = canonical;
    counts = λ h. counts_terms N f (product_count N left right) c (small_from listing h) (labelled listing) refl canonical;
    fits = λ h. fits_terms N f (product_count N left right) c (small_from listing h);
    past = λ h. past_terms N f (product_count N left right) c (large_from listing h);
  }

pub rule_lists : (left right : List ℕ) (n N k : ℕ) (padded outside content ends : List ℕ) (rest : List (List ℕ × ℕ)) → IsRule left right n N padded outside → k ≡ rows left + rows right
    → rows left + rows right ≤ 512 → size left + size right ≤ 4096
    → ((a : ℕ) (label : List ℕ) → 2 ≤ n → n ≤ 8 → ArePositive (take n padded) → part outside 1 + get_or (take n padded) 0 0 ≤ 255
    → row_ways n padded outside (a ∷ label) content ends ≡ over_rows n (a ∷ label) outside (comes_to (take n padded)) (replicate n 0) [])
    → rest ≡ terms_below 256 k (λ label. at_most_cap (row_ways n padded (drop (N - k) outside) label content ends))
    → ListsProduct (rows left + rows right) left right (labelled rest)
rule_lists left right n N k padded outside content ends rest rule all few small ways e =
    let f : List ℕ → ℕ = λ label. row_ways n padded (drop (N - k) outside) label content ends in
    let same : k ≡ N = all ∙ sym rule.rows_are in
    subst (λ (m : ℕ). ListsProduct m left right (labelled rest)) rule.rows_are
    (subst (λ (ts : List (List ℕ × ℕ)). ListsProduct N left right (labelled ts)) (sym (e ∙ ap (λ i. terms_below 256 i (λ label. at_most_cap (f label))) same))
    (lists N f left right (rule_counts left right n N k padded outside content ends rule same ways (subst (λ m. m ≤ 512) (sym rule.rows_are) few) small)
    rule.inner_partition rule.content_partition))
