-- Products that are reduced after each factor, for any reduction. A *step* multiplies a list of terms by one more factor and reduces each partition
-- of the product. Its *weight* is the sum of |c|·W over the terms (label, c) of the list; W is the sum of the absolute values of the coefficients of
-- the classical product of the partition of the label and the factor.
--     mass_multiplied     the absolute values of the coefficients of the next list add up to at most the weight of the step
--     gains_classical     the list of a classical product may be replaced by any list with the same coefficients
--     overflow_taken, overflow_list    overflows when the reduced product of a label and a factor is added
--     heavy_step          if a step has an overflow, it has a weight of 2^127 or more
--     room_next           the cells of each label of the next list, with those of the factors that remain, are at most 4096
use Rattle.std.proofs.Common.{◌≡◌, ℕ, zero, suc, ◌+◌, ◌*◌, ◌^◌, ◌≤◌, Bool, true, cond, List, [], ◌∷◌, ◌++◌, append-nil, length, map, refl, sym, ◌∙◌, ap, subst, inl, inr, arith, ℤ, pos, Some, rules}
use Rattle.std.specs.Prelude.{nat_abs, slice_get}
use Rattle.std.specs.Cmp.{IsEquivalence}
use Rattle.std.proofs.lemmas.Bool.{and_parts}
use Rattle.fraction_laws.specs.Fractions.{whole}
use Rattle.sym_model.specs.Canonical.{is_reduced, is_label}
use Rattle.sym_model.specs.PrintedOrder.{printed_order}
use Rattle.sym_model.proofs.Orders.{is_reduced-tells, is_label-tells}
use Rattle.sym_model.specs.Sum.{Among}
use Rattle.sym_model.specs.Partition.{IsPartition, size, rows}
use Rattle.sym_model.specs.Polynomial.{Same}
use Rattle.sym_model.specs.Expansion.{Fraction}
use Rattle.sym_model.specs.WholeTerms.{WholeTerms, as_fractions}
use Rattle.sym_model.proofs.Sums.{Among-map}
use Rattle.sym_model.specs.Products.{classical_product}
use Rattle.sym_model.specs.ReductionSteps.{LeadsTo, classical_weight, step_weight}
use Rattle.alternant_laws.proofs.ClassicalProducts.{classical_product-term}
use Rattle.product_laws.proofs.Growing.{label_size}
use Rattle.product_laws.proofs.LeadingSteps.{last_changed}
use Rattle.linear_combinations.specs.Entries.{IsCombination, IsCanonicalList, is_ordered, are_terms}
use Rattle.linear_combinations.specs.Gains.{WholeTermsOf, HaveLabels, Gains, Overflows, mass, replaced, scaled}
use Rattle.linear_combinations.proofs.Gains.{gains_as, overflows_alone, overflows_both, replaced_append, replaced_over, scaled_append, scaled_over}
use Rattle.linear_combinations.proofs.Masses.{labels_gained, labels_replaced, mass_append, mass_replaced, mass_scaled, overflow_mass}
use Rattle.linear_combinations.proofs.Totals.{term-among}
use Rattle.rim_hooks.specs.FactorRows.{AreFew}
use Rattle.reduction_laws.specs.Reductions.{products, multiplied, HaveRoom, OverflowsWithin}
use Rattle.rim_hooks.proofs.ClassicalLists.{mass_total}
use native.Mathlib.Nat.{mul-le-mul_left}
use Rattle.sym_model.proofs.Polynomials.{pair_determined}

pub counted : {L : Type 0} (eq : L → L → Bool) (is_label : L → Bool) (terms : WholeTermsOf L) → IsCombination eq is_label whole terms → (t : L × ℤ) → Among t terms → 1 ≤ nat_abs t.1
counted eq is_label terms c t m =
    let r = is_reduced-tells (whole t.1) (and_parts (is_reduced (whole t.1)) _ (term-among is_label whole terms c.proper t m)).0 in
    let n = r.nonzero in
    omega arith

pub weight-append : {L : Type 0} (shape : L → List ℕ) (k : ℕ) (factor : List ℕ) (xs ys : WholeTermsOf L)
    → step_weight shape k factor (xs ++ ys) ≡ step_weight shape k factor xs + step_weight shape k factor ys
weight-append shape k factor [] ys = omega arith
weight-append shape k factor (x ∷ xs) ys = let e = weight-append shape k factor xs ys in omega arith

module _ {L : Type 0} (k : ℕ) (shape : L → List ℕ) (reduced : L → List ℕ → WholeTermsOf L) (light : (l : L) (μ : List ℕ) → mass (reduced l μ) ≤ 1) where
  mass_list : (l : L) (terms : WholeTerms) → mass (replaced (reduced l) terms) ≤ mass terms
  mass_list l terms = let m = mass_replaced (reduced l) 1 terms (λ t n. light l t.0) in omega arith

  mass_product : (factor : List ℕ) (l : L) → mass (products k shape reduced factor l) ≤ classical_weight k (shape l ∷ factor ∷ [])
  mass_product factor l = search (rules, mass_list, mass_total)

  pub mass_multiplied : (factor : List ℕ) (terms : WholeTermsOf L) → mass (multiplied k shape reduced factor terms) ≤ step_weight shape k factor terms
  mass_multiplied factor [] = omega arith
  mass_multiplied factor (t ∷ terms) =
      let a = mass_append (scaled t.1 (products k shape reduced factor t.0)) (multiplied k shape reduced factor terms) in
      let b = mass_scaled t.1 (products k shape reduced factor t.0) in
      let c = mul-le-mul_left (nat_abs t.1) (mass_product factor t.0) in
      let d = mass_multiplied factor terms in
      omega arith

  pub overflow_list : (eq : L → L → Bool) (old : WholeTermsOf L) (l : L) (c : ℤ) (list : WholeTerms) (w : ℕ) → mass list ≤ w
      → Overflows eq old (scaled c (replaced (reduced l) list)) → OverflowsWithin eq old (nat_abs c * w)
  overflow_list eq old l c list w h o =
      let a = mass_scaled c (replaced (reduced l) list) in
      let b : mass (replaced (reduced l) list) ≤ w = let m = mass_list l list in omega arith in
      let d = mul-le-mul_left (nat_abs c) b in
      (scaled c (replaced (reduced l) list), omega arith, o)

  pub gains_classical : (old new : WholeTermsOf L) (l : L) (c : ℤ) (factor : List ℕ) (list : WholeTerms) → Same list (classical_product k (shape l ∷ factor ∷ []))
      → Gains old (scaled c (replaced (reduced l) list)) new → Gains old (scaled c (products k shape reduced factor l)) new
  gains_classical old new l c factor list s = search (rules, gains_as, scaled_over, replaced_over, pair_determined)

  pub heavy_step : (eq : L → L → Bool) (factor : List ℕ) (done : WholeTermsOf L) (p : L × ℤ) (rest terms cur : WholeTermsOf L) → done ++ p ∷ rest ≡ terms
      → Gains [] (multiplied k shape reduced factor done) cur → OverflowsWithin eq cur (nat_abs p.1 * classical_weight k (shape p.0 ∷ factor ∷ []))
      → 2 ^ 127 ≤ step_weight shape k factor terms
  heavy_step eq factor done p rest terms cur all gains o =
      let both = overflow_mass eq [] (multiplied k shape reduced factor done ++ o.0) (overflows_both eq [] (multiplied k shape reduced factor done) cur o.0 gains o.2) in
      let a = mass_append (multiplied k shape reduced factor done) o.0 in
      let b = mass_multiplied factor done in
      let w = weight-append shape k factor done (p ∷ rest) in
      let e = ap (λ l. step_weight shape k factor l) all in
      let m = o.1 in
      omega arith

  -- suppose that, for each label l and each partition μ with at most k rows, each label m of the list `reduced l μ` has at most k rows and cells(m) +
  -- |shape l| ≤ cells(l) + |μ|. If cells(l) + |factor| + more ≤ 4096, then each label m of the reduced product of l and the factor has at most k rows
  -- and cells(m) + more ≤ 4096
  module _ (cells : L → ℕ)
      (room : (l : L) (μ : List ℕ) → IsPartition μ → rows μ ≤ k → HaveLabels (λ m. (rows (shape m) ≤ k) × (cells m + size (shape l) ≤ cells l + size μ)) (reduced l μ)) where
    fits : (factor : List ℕ) (more : ℕ) (l : L) → cells l + (size factor + more) ≤ 4096 → HaveLabels (λ m. (rows (shape m) ≤ k) × (cells m + more ≤ 4096)) (products k shape reduced factor l)
    fits factor more l h =
        labels_replaced (reduced l) (λ m. (rows (shape m) ≤ k) × (cells m + more ≤ 4096)) (classical_product k (shape l ∷ factor ∷ []))
        (λ t n u q.
        let c = classical_product-term k (shape l ∷ factor ∷ []) t n in
        let s : size t.0 ≡ size (map size (shape l ∷ factor ∷ [])) = label_size k (shape l ∷ factor ∷ []) t n in
        let r = room l t.0 c.partition c.few u q in
        let a = r.1 in
        (r.0, omega arith))

    module _ {eq : L → L → Bool} (laws : IsEquivalence eq) (same : (x y : L) → eq x y ≡ true → x ≡ y) where
      pub room_gained : {is_label : L → Bool} (factor : List ℕ) (more : ℕ) (g next : WholeTermsOf L) → HaveLabels (λ m. (rows (shape m) ≤ k) × (cells m + more ≤ 4096)) g → Gains [] g next → IsCombination eq is_label whole next
          → HaveRoom k shape cells more next
      room_gained factor more g next h gains is =
          labels_gained laws same [] g next is gains (λ m. (rows (shape m) ≤ k) × (cells m + more ≤ 4096)) (λ t n. absurd n) h

      pub room_next : {is_label : L → Bool} (factor : List ℕ) (more : ℕ) (terms next : WholeTermsOf L) → HaveRoom k shape cells (size factor + more) terms
          → Gains [] (multiplied k shape reduced factor terms) next → IsCombination eq is_label whole next → HaveRoom k shape cells more next
      room_next factor more terms next h gains is =
          room_gained factor more (multiplied k shape reduced factor terms) next
          (labels_replaced (products k shape reduced factor) (λ m. (rows (shape m) ≤ k) × (cells m + more ≤ 4096)) terms (λ t n. let r = h t n in fits factor more t.0 r.1))
          gains is

-- if w ≥ 2^127 and a ≥ 1, there is a list of terms for which the absolute values of the coefficients add up to at most a·w, and which overflows when
-- it is added to `old` (`OverflowsWithin`)
pub overflow_taken : {L : Type 0} {eq : L → L → Bool} (laws : IsEquivalence eq) (same : (x y : L) → eq x y ≡ true → x ≡ y) (old : WholeTermsOf L) (l : L) (a w : ℕ)
    → 1 ≤ a → 2 ^ 127 ≤ w → OverflowsWithin eq old (a * w)
overflow_taken laws same old l a w some large =
    let p : w * 1 ≤ w * a = mul-le-mul_left w some in
    ((l, pos (2 ^ 127)) ∷ [], omega arith, overflows_alone laws same old l (pos (2 ^ 127)) (omega arith))

pub overflow_one : {L : Type 0} (eq : L → L → Bool) (old : WholeTermsOf L) (l : L) (c : ℤ) → eq l l ≡ true → 2 ^ 127 ≤ nat_abs c → Overflows eq old ((l, c) ∷ [])
overflow_one eq old l c e large = let h = ap (λ b. cond b (nat_abs c) 0) e in (l, omega arith)

-- ---- lists of terms with each label replaced by its image

pub reductions_append : {K L : Type 0} (c : ℤ) (image : K → WholeTermsOf L) (xs ys : WholeTermsOf K) → scaled c (replaced image (xs ++ ys)) ≡ scaled c (replaced image xs) ++ scaled c (replaced image ys)
reductions_append c image xs ys = ap (scaled c) (replaced_append image xs ys) ∙ scaled_append c (replaced image xs) (replaced image ys)

pub rows_listed : (k : ℕ) (list : WholeTerms) → ((t : List ℕ × Fraction) → Among t (as_fractions list) → rows t.0 ≤ k) → HaveLabels (λ μ. rows μ ≤ k) list
rows_listed k list h t m = h (t.0, (t.1, 1)) (Among-map (λ (u : List ℕ × ℤ). let term : List ℕ × Fraction = (u.0, (u.1, 1)) in term) t list m)

pub seen : (P : ℕ → List ℕ → Type 0) (k m : ℕ) (x y : List ℕ) → k ≡ m → x ≡ y → P k x → P m y
seen P k m x y e d h = subst (λ z. P m z) d (subst (λ n. P n x) e h)

pub few_at : (k : ℕ) (factors : List (List ℕ)) (at : ℕ) (x : List ℕ) → slice_get factors at ≡ Some x → AreFew k factors → rows x ≤ k
few_at k [] at x e f = cc
few_at k (y ∷ factors) zero x e f = let same : y ≡ x = cc in subst (λ z. rows z ≤ k) same (f y (inl refl))
few_at k (y ∷ factors) (suc at) x e f = few_at k factors at x e (λ parts m. f parts (inr m))

-- the step with the factor `second` from the list that has only the term l, with the coefficient 1: the result of the step is the reduced product of
-- l and `second`, and if the step overflows, its weight is 2^127 or more
module _ {L : Type 0} (k : ℕ) (shape : L → List ℕ) (reduced : L → List ℕ → WholeTermsOf L) (l : L) (second : List ℕ) (one : ℤ) (is : one ≡ pos 1) where
  pub gains_first : (new : WholeTermsOf L) → Gains [] (scaled one (products k shape reduced second l)) new → Gains [] (multiplied k shape reduced second ((l, pos 1) ∷ [])) new
  gains_first new a = subst (λ z. Gains [] z new) (ap (λ z. scaled z (products k shape reduced second l)) is ∙ sym (append-nil (scaled (pos 1) (products k shape reduced second l)))) a

  pub heavy_first : (eq : L → L → Bool) → OverflowsWithin eq [] (nat_abs one * classical_weight k (shape l ∷ second ∷ [])) → 2 ^ 127 ≤ step_weight shape k second ((l, pos 1) ∷ [])
  heavy_first eq o =
      let m = overflow_mass eq [] o.0 o.2 in
      let a = o.1 in
      let b : nat_abs one * classical_weight k (shape l ∷ second ∷ []) ≡ 1 * classical_weight k (shape l ∷ second ∷ []) = ap (λ z. nat_abs z * classical_weight k (shape l ∷ second ∷ [])) is in
      omega arith

-- if there are at least two factors, the steps through them lead to `last`, and each step to `last` is also a step to `other`, then the steps through
-- the factors also lead to `other`
pub leads_sorted : {L : Type 0} (step : List ℕ → WholeTermsOf L → WholeTermsOf L → Type 0) (start : List ℕ → L) (factors : List (List ℕ)) (last other : WholeTermsOf L) → 2 ≤ length factors
    → ((factor : List ℕ) (terms : WholeTermsOf L) → step factor terms last → step factor terms other) → LeadsTo step start factors last → LeadsTo step start factors other
leads_sorted step start [] last other l e s = absurd (omega arith)
leads_sorted step start (first ∷ []) last other l e s = absurd (omega arith)
leads_sorted step start (first ∷ second ∷ factors) last other l e s = last_changed step last other e factors second ((start first, pos 1) ∷ []) s

pub label_small : (terms : WholeTerms) → IsCanonicalList printed_order is_label whole terms → (t : List ℕ × ℤ) → Among t terms → size t.0 ≤ 4096
label_small terms c t m =
    (is_label-tells t.0 (and_parts (is_reduced (whole t.1)) (is_label t.0) (term-among is_label whole terms (and_parts (is_ordered printed_order terms) (are_terms whole is_label terms) c).1 t m)).1).size
