-- The terms that a walk lists, as an expansion: the labels without the zeros at their ends, with their counts as coefficients.
use Rattle.std.proofs.Common.{◌≡◌, ◌⊎◌, inl, inr, ℕ, ◌^◌, ◌<◌, ◌≤◌, List, [], ◌∷◌, ◌++◌, length, refl, sym, ap, ◌∙◌, subst, arith, ℤ, pos}
use Rattle.std.specs.Prelude.{Option, Some}
use Rattle.std.specs.Option.{option_to_list}
use Rattle.std.proofs.lemmas.Bool.{cases_lt}
use Rattle.std.proofs.lemmas.Int.{ints}
use Rattle.fraction_laws.specs.Fractions.{whole}
use Rattle.sym_model.specs.Sum.{Among}
use Rattle.sym_model.specs.Bounded.{AreBelow}
use Rattle.sym_model.specs.Partition.{IsPartition, rows, size, without_last_zeros}
use Rattle.sym_model.specs.Polynomial.{coefficient, resize}
use Rattle.sym_model.specs.LabelLimits.{is_label}
use Rattle.sym_model.specs.PrintedOrder.{printed_order}
use Rattle.sym_model.specs.WholeTerms.{WholeTerms}
use Rattle.sym_model.proofs.Exponents.{length-resize}
use Rattle.sym_model.proofs.Parts.{length-without_last_zeros}
use Rattle.alternant_laws.proofs.FallingAlternants.{without_last_zeros-resize}
use Rattle.product_laws.proofs.CountLists.{no_label}
use Rattle.partitions.specs.Limits.{IsWithinLimits}
use Rattle.linear_combinations.specs.Entries.{IsCanonicalList}
use Rattle.linear_combinations.proofs.Found.{coefficient_of_term}
use Rattle.prefix_walk.specs.Terms.{terms_below}
use Rattle.prefix_walk.specs.Levels.{at_most_cap}
use Rattle.lr_product.specs.Counts.{HasCounts, IsPastSomewhere}
use Rattle.lr_product.proofs.Placed.{table_of}
use Rattle.lattice_rows.specs.ProductRule.{labelled, AreLimited, AreSmall, HasLarge}
use Rattle.lattice_rows.proofs.LabelWays.{IsPadded}
use Rattle.lattice_rows.proofs.Listed.{listed_tells, all_listed}

-- ---- lists of terms

pub large_here : (rest next : List (List ℕ × ℕ)) (item : Option (List ℕ × ℕ)) (label : List ℕ) (count : ℕ) → rest ≡ option_to_list item ++ next → item ≡ Some (label, count) → 2 ^ 127 ≤ count → HasLarge rest
large_here rest next item label count e i h = subst HasLarge (sym (e ∙ ap (λ (o : Option (List ℕ × ℕ)). option_to_list o ++ next) i)) ((label, count), inl refl, h)

limited_from : (ts : List (List ℕ × ℕ)) → ((t : List ℕ × ℕ) → Among t ts → IsWithinLimits (without_last_zeros t.0)) → AreLimited ts
limited_from [] h = tt
limited_from (t ∷ ts) h = (h t (inl refl), limited_from ts (λ s m. h s (inr m)))

small_at : (t : List ℕ × ℕ) (ts : List (List ℕ × ℕ)) → AreSmall ts → Among t ts → t.1 < 2 ^ 127
small_at t [] s m = absurd m
small_at t (u ∷ ts) s (inl e) = let a = ap (λ (x : List ℕ × ℕ). x.1) e in let l = s.0 in omega arith
small_at t (u ∷ ts) s (inr m) = small_at t ts s.1 m

labelled_among : (t : List ℕ × ℕ) (ts : List (List ℕ × ℕ)) → Among t ts → Among {A = List ℕ × ℤ} (without_last_zeros t.0, pos t.1) (labelled ts)
labelled_among t [] m = absurd m
labelled_among t (u ∷ ts) (inl e) = inl (ap (λ (x : List ℕ × ℕ). (without_last_zeros x.0, pos x.1)) e)
labelled_among t (u ∷ ts) (inr m) = inr (labelled_among t ts m)

-- a term of the expansion comes from a term of the list
abbrev IsFrom : List ℕ × ℤ → List (List ℕ × ℕ) → Type 0
IsFrom x ts = (t : List ℕ × ℕ) × Among t ts × (x ≡ (without_last_zeros t.0, pos t.1))

among_labelled : (x : List ℕ × ℤ) (ts : List (List ℕ × ℕ)) → Among x (labelled ts) → IsFrom x ts
among_labelled x [] m = absurd m
among_labelled x (t ∷ ts) (inl e) = (t, inl refl, e)
among_labelled x (t ∷ ts) (inr m) = let r = among_labelled x ts m in (r.0, inr r.1, r.2)

-- ---- the terms that have given counts

-- f counts the labels of N numbers, and `count` the partitions with at most N rows: a label with a positive count is a partition of at most 4,096
-- cells with zeros at its end, with entries less than 256
pub record AreCounted (N : ℕ) (f count : List ℕ → ℕ) : Type 0 where
  pub padded : (label : List ℕ) → length label ≡ N → (f label ≡ 0 → ⊥) → IsPadded label
  pub below : (label : List ℕ) → length label ≡ N → (f label ≡ 0 → ⊥) → AreBelow 256 label
  pub ways : (ν : List ℕ) → IsPartition ν → rows ν ≤ N → f (resize N ν) ≡ count ν
  pub few : N ≤ 512
  pub limited : (ν : List ℕ) → IsPartition ν → rows ν ≤ N → (count ν ≡ 0 → ⊥) → size ν ≤ 4096

module _ (N : ℕ) (f count : List ℕ → ℕ) (c : AreCounted N f count) where
  abbrev pub listing : List (List ℕ × ℕ)
  listing = terms_below 256 N (λ label. at_most_cap (f label))

  -- what a listed term is
  pub record IsTerm (t : List ℕ × ℕ) : Type 0 where
    pub partition : IsPartition (without_last_zeros t.0)
    pub short : rows (without_last_zeros t.0) ≤ N
    pub padded : t.0 ≡ resize N (without_last_zeros t.0)
    pub value : t.1 ≡ at_most_cap (count (without_last_zeros t.0))
    pub some : 0 < t.1

  pub term_tells : (t : List ℕ × ℕ) → Among t listing → IsTerm t
  term_tells t m =
      let l = listed_tells 256 N (λ label. at_most_cap (f label)) t m in
      let s = l.some in
      let v = l.count in
      let p = c.padded t.0 l.long (λ z. absurd (omega arith)) in
      let e : t.0 ≡ resize N (without_last_zeros t.0) = sym (ap (λ k. resize k (without_last_zeros t.0)) (sym l.long) ∙ p.is) in
      let r : rows (without_last_zeros t.0) ≤ N = let a = length-without_last_zeros t.0 in let b = l.long in omega arith in
      record {
        partition = p.partition;
        short = r;
        padded = e;
        value = v ∙ ap at_most_cap (ap f e ∙ c.ways (without_last_zeros t.0) p.partition r);
        some = s;
      }

  pub limited_terms : AreLimited listing
  limited_terms = limited_from listing (λ t m.
      let r = term_tells t m in
      let s = r.some in
      let v = r.value in
      record { partition = r.partition; few = let a = r.short in let b = c.few in omega arith; small = c.limited (without_last_zeros t.0) r.partition r.short (λ z. absurd (omega arith)) })

  pub past_terms : HasLarge listing → IsPastSomewhere N count
  past_terms (t, m, h) =
      let r = term_tells t m in
      let v = r.value in
      record { parts = without_last_zeros t.0; partition = r.partition; within = r.short; past = omega arith }

  -- a partition with a positive count is listed
  counted_term : (ν : List ℕ) → IsPartition ν → rows ν ≤ N → 0 < count ν → Among {A = List ℕ × ℤ} (ν, pos (at_most_cap (count ν))) (labelled listing)
  counted_term ν p l h =
      let w = c.ways ν p l in
      let b = c.below (resize N ν) (length-resize N ν) (λ z. absurd (omega arith)) in
      let m = labelled_among (resize N ν, at_most_cap (f (resize N ν))) listing (all_listed 256 N (λ label. at_most_cap (f label)) (resize N ν) (length-resize N ν) b (omega arith)) in
      subst (λ (x : List ℕ × ℤ). Among x (labelled listing))
      (ap (λ (k : List ℕ). (k, pos (at_most_cap (f (resize N ν))))) (without_last_zeros-resize N ν p.positive l) ∙ ap (λ (k : ℕ). (ν, pos (at_most_cap k))) w) m

  pub fits_terms : AreSmall listing → (ν : List ℕ) → IsPartition ν → rows ν ≤ N → count ν < 2 ^ 127
  fits_terms small ν p l = by (cases_lt (count ν) (2 ^ 127))
    where
      by : (count ν < 2 ^ 127) ⊎ (2 ^ 127 ≤ count ν) → count ν < 2 ^ 127
      by (inl h) = h
      by (inr h) =
          let m = among_labelled (ν, pos (at_most_cap (count ν))) listing (counted_term ν p l (omega arith)) in
          let s = small_at m.0 listing small m.1 in
          let e : pos (at_most_cap (count ν)) ≡ pos m.0.1 = ap (λ (x : List ℕ × ℤ). x.1) m.2 in
          absurd (omega (arith, ints))

  pub counts_terms : AreSmall listing → (terms : WholeTerms) → terms ≡ labelled listing → IsCanonicalList printed_order is_label whole terms → HasCounts N count terms
  counts_terms small terms e canonical = record {
    table = table_of terms canonical;
    labels = λ t m. labels t (among_labelled t listing (subst (λ (l : WholeTerms). Among t l) e m));
    counts = λ ν p l. by ν p l (cases_lt 0 (count ν));
  }
    where
      labels : (t : List ℕ × ℤ) → IsFrom t listing → IsPartition t.0 × (rows t.0 ≤ N)
      labels t (u, m, q) = let r = term_tells u m in subst (λ (k : List ℕ). IsPartition k × (rows k ≤ N)) (sym (ap (λ (x : List ℕ × ℤ). x.0) q)) (r.partition, r.short)

      none : (ν : List ℕ) → count ν ≤ 0 → (t : List ℕ × ℤ) → Among t terms → t.0 ≡ ν → ⊥
      none ν z t m q =
          let u = among_labelled t listing (subst (λ (l : WholeTerms). Among t l) e m) in
          let r = term_tells u.0 u.1 in
          let s = r.some in
          let v = r.value in
          let same : count (without_last_zeros u.0.0) ≡ count ν = ap count (sym (ap (λ (x : List ℕ × ℤ). x.0) u.2) ∙ q) in
          absurd (omega arith)

      by : (ν : List ℕ) → IsPartition ν → rows ν ≤ N → (0 < count ν) ⊎ (count ν ≤ 0) → coefficient terms ν ≡ pos (count ν)
      by ν p l (inl h) =
          let m = subst (λ (k : WholeTerms). Among {A = List ℕ × ℤ} (ν, pos (at_most_cap (count ν))) k) (sym e) (counted_term ν p l h) in
          let s = fits_terms small ν p l in
          let cap : at_most_cap (count ν) ≡ count ν = omega arith in
          coefficient_of_term terms (table_of terms canonical).distinct (ν, pos (at_most_cap (count ν))) m ∙ ap pos cap
      by ν p l (inr h) = let z : 0 ≡ count ν = omega arith in no_label terms ν (none ν h) ∙ ap pos z
