-- Lists of pairs in strict order of the labels: if each label comes before the next one, it comes before all later ones; and two such lists joined.
use Rattle.std.proofs.Common.{◌≡◌, Bool, true, false, List, [], ◌∷◌, ◌++◌, refl, ap, ◌∙◌, inl, inr}
use Rattle.std.specs.Cmp.{IsTotalOrder}
use Rattle.std.specs.List.{IsDistinct, AllByRecursion}
use Rattle.std.specs.Map.{keys_of}
use Rattle.std.specs.Ordering.{is_lt}
use Rattle.std.specs.declared.cmp.Ordering.{Ordering}
use Rattle.std.specs.declared.cmp.Ordering.TheVariants.{Less}
use Rattle.std.proofs.lemmas.Bool.{and_parts, and_from}
use Rattle.std.proofs.lemmas.Cmp.{tied_itself}
use Rattle.std.proofs.lemmas.Map.Keys.{IsDistinct-cons}
use Rattle.sym_model.specs.Expansion.{Fraction}
use Rattle.sym_model.specs.Sum.{Among}
use Rattle.sym_model.proofs.CanonicalLists.{is_lt-tells, IsTransitive}
use Rattle.linear_combinations.specs.Entries.{is_ordered, is_term, are_terms, IsCanonicalList}

module _ {L R : Type 0} (order : L → L → Ordering) where
  -- the label comes strictly before the label of each pair of the list
  abbrev pub StandsBefore : L → List (L × R) → Type 0
  StandsBefore label [] = Unit {0}
  StandsBefore label (t ∷ entries) = (order label t.0 ≡ Less) × StandsBefore label entries

  -- the label of each pair comes strictly before the labels of all later pairs
  abbrev pub IsOrdered : List (L × R) → Type 0
  IsOrdered [] = Unit {0}
  IsOrdered (t ∷ entries) = StandsBefore t.0 entries × IsOrdered entries

  pub stands_before-among : (label : L) (entries : List (L × R)) (t : L × R) → StandsBefore label entries → Among t entries → order label t.0 ≡ Less
  stands_before-among label [] t h m = absurd m
  stands_before-among label (u ∷ entries) t h (inl e) = ap (λ (v : L × R). order label v.0) e ∙ h.0
  stands_before-among label (u ∷ entries) t h (inr m) = stands_before-among label entries t h.1 m

  pub is_ordered-from : (entries : List (L × R)) → IsOrdered entries → is_ordered order entries ≡ true
  is_ordered-from [] h = refl
  is_ordered-from (t ∷ []) h = refl
  is_ordered-from (t ∷ u ∷ entries) h = and_from _ _ (ap is_lt h.0.0) (is_ordered-from (u ∷ entries) h.1)

  pub ordered-append : (xs ys : List (L × R)) → IsOrdered xs → IsOrdered ys → ((x y : L × R) → Among x xs → Among y ys → order x.0 y.0 ≡ Less) → IsOrdered (xs ++ ys)
  ordered-append [] ys p q apart = q
  ordered-append (x ∷ xs) ys p q apart = (before xs p.0, ordered-append xs ys p.1 q (λ a b m n. apart a b (inr m) n))
    where
      after : (zs : List (L × R)) → ((z : L × R) → Among z zs → Among z ys) → StandsBefore x.0 zs
      after [] m = tt
      after (z ∷ zs) m = (apart x z (inl refl) (m z (inl refl)), after zs (λ w k. m w (inr k)))

      before : (zs : List (L × R)) → StandsBefore x.0 zs → StandsBefore x.0 (zs ++ ys)
      before [] k = after ys (λ z m. m)
      before (z ∷ zs) k = (k.0, before zs k.1)

  module _ (trans : IsTransitive order) where
    stands_before-weaker : (x y : L) (entries : List (L × R)) → order x y ≡ Less → StandsBefore y entries → StandsBefore x entries
    stands_before-weaker x y [] h k = tt
    stands_before-weaker x y (t ∷ entries) h k = (trans x y t.0 h k.0, stands_before-weaker x y entries h k.1)

    pub is_ordered-tells : (entries : List (L × R)) → is_ordered order entries ≡ true → IsOrdered entries
    is_ordered-tells [] h = tt
    is_ordered-tells (t ∷ []) h = (tt, tt)
    is_ordered-tells (t ∷ u ∷ entries) h =
        let p = and_parts _ _ h in
        let e = is_lt-tells (order t.0 u.0) p.0 in
        let rest = is_ordered-tells (u ∷ entries) p.1 in
        ((e, stands_before-weaker t.0 u.0 entries e rest.0), rest)

  -- in a strictly ordered list no label occurs twice
  module _ (total : IsTotalOrder order) {eq : L → L → Bool} (same : (x y : L) → eq x y ≡ true → x ≡ y) where
    pub distinct-ordered : (entries : List (L × R)) → IsOrdered entries → IsDistinct eq (keys_of entries)
    unfolding IsDistinct
    distinct-ordered [] h = tt
    distinct-ordered (t ∷ entries) h = IsDistinct-cons eq t.0 (keys_of entries) (others entries h.0) (distinct-ordered entries h.1)
      where
        apart : (y : L) → order t.0 y ≡ Less → (b : Bool) → eq t.0 y ≡ b → eq t.0 y ≡ false
        apart y less false e = e
        apart y less true e =
            let itself = tied_itself total t.0 in
            let less_itself : order t.0 t.0 ≡ Less = ap (order t.0) (same t.0 y e) ∙ less in
            cc

        others : (rest : List (L × R)) → StandsBefore t.0 rest → AllByRecursion (λ y. eq t.0 y ≡ false) (keys_of rest)
        others [] k = tt
        others (u ∷ rest) k = (apart u.0 k.0 (eq t.0 u.0) refl, others rest k.1)

module _ {L R : Type 0} (order : L → L → Ordering) (is_label : L → Bool) (value : R → Fraction) where
  are_terms-append : (xs ys : List (L × R)) → are_terms value is_label xs ≡ true → are_terms value is_label ys ≡ true → are_terms value is_label (xs ++ ys) ≡ true
  are_terms-append [] ys p q = q
  are_terms-append (x ∷ xs) ys p q = let r = and_parts (is_term value is_label x) _ p in and_from _ _ r.0 (are_terms-append xs ys r.1 q)

  module _ (trans : IsTransitive order) where
    pub canonical-ordered : (entries : List (L × R)) → IsCanonicalList order is_label value entries → IsOrdered order entries
    canonical-ordered entries c = is_ordered-tells order trans entries (and_parts (is_ordered order entries) _ c).0

    pub canonical-append : (xs ys : List (L × R)) → IsCanonicalList order is_label value xs → IsCanonicalList order is_label value ys
        → ((x y : L × R) → Among x xs → Among y ys → order x.0 y.0 ≡ Less) → IsCanonicalList order is_label value (xs ++ ys)
    canonical-append xs ys p q apart =
        and_from _ _
        (is_ordered-from order (xs ++ ys) (ordered-append order xs ys (canonical-ordered xs p) (canonical-ordered ys q) apart))
        (are_terms-append xs ys (and_parts (is_ordered order xs) _ p).1 (and_parts (is_ordered order ys) _ q).1)
