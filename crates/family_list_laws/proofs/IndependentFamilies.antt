-- Families that are triangular over the power sums: a multiple of e_λ or h_λ is a sum of p_λ, with a coefficient that
-- is not 0, and p_ν with more rows. So the e_λ are
-- linearly independent, and so are the h_λ.
use Rattle.std.proofs.Common.{◌≡◌, ◌⊎◌, ℕ, zero, suc, ◌+◌, ◌-◌, ◌*◌, ◌<◌, ◌≤◌, cond, List, [], ◌∷◌, ◌++◌, length}
use Rattle.std.proofs.Common.{refl, sym, ap, ap₂, ◌∙◌, subst, inl, inr, arith, ℤ, pos, negsuc, ◌*ℤ◌, ◌+ℤ◌, neg_ℤ}
use Rattle.std.proofs.Common.{unsigned_abs}
use Rattle.std.proofs.lemmas.Int.{ints, unsigned_abs-mul}
use native.Mathlib.Nat.{mul-pos}
use lib.IntN.{*ℤ-zero, zero-*ℤ, *ℤ_comm}
use Rattle.sym_model.specs.Sum.{Among, total}
use Rattle.sym_model.specs.Polynomial.{Poly, Same, coefficient, nothing, pair, same, scale}
use Rattle.sym_model.specs.Partition.{IsPartition, ArePositive, rows, size, insert_part}
use Rattle.sym_model.specs.PartitionList.{partitions_of}
use Rattle.sym_model.specs.PlaceOrders.{minus_one_to}
use Rattle.sym_model.specs.Weight.{factorial}
use Rattle.sym_model.specs.Bases.{has, product_over, power_sum, power_sum_of, elementary, elementary_of, complete}
use Rattle.sym_model.specs.Bases.{complete_of}
use Rattle.sym_model.specs.WholeTerms.{WholeTerms, combined, HaveLabels}
use Rattle.sym_model.proofs.Ring.{ring, one-product, product_assoc, distributes_left, distributes_right}
use Rattle.sym_model.proofs.Sums.{total_append, total_map, total_among, total_none, total_only, Among_from_map}
use Rattle.sym_model.proofs.Sums.{Among_from_each}
use Rattle.sym_model.proofs.Exponents.{same_refl, same_apart, same_or_not}
use Rattle.sym_model.proofs.Polynomials.{at_only, coefficient_pair, pair_factor, pair_determined, same_from_pair}
use Rattle.sym_model.proofs.Monomials.{In-monomials}
use Rattle.sym_model.proofs.PartitionLists.{partitions_of-tells, Among-partitions_of, Once-partitions_of}
use Rattle.sym_model.proofs.SortedParts.{IsPartition-none, IsPartition_tail, insert_part-front, length-insert_part}
use Rattle.sym_model.proofs.SortedParts.{rows_within_size}
use Rattle.sym_model.proofs.WholeTerms.{pair_of_combined, labels_append, labels_scaled}
use Rattle.monomial_laws.proofs.Growths.{factorial-positive}
use Rattle.basis_change_laws.specs.JoinedLists.{merged, row, joined, IsLow, Stands}
use Rattle.basis_change_laws.proofs.JoinedLists.{pair-joined, stands-product}
use Rattle.family_list_laws.specs.OnePartLists.{list_over, cycle_type_count, centralizer, parity_sign}
use Rattle.family_list_laws.proofs.PartQuotients.{cycles-whole}
use Rattle.family_list_laws.proofs.OnePartLists.{elementary-power-list, complete-power-list}
use Rattle.independence_laws.proofs.LeastLabels.{independent_by_kills}
use Rattle.family_list_laws.proofs.IndependentPowerSums.{HasFewer, rows_total, power_sums-independent}
use Rattle.independence_laws.specs.Independence.{AreIndependent, HasRows}
use Rattle.independence_laws.proofs.ScaledLists.{total_of_scaled, coefficient_of_scaled}
use Rattle.independence_laws.proofs.Entries.{same-decides}
use Rattle.family_list_laws.specs.SmallPartitions.{IsSmall}
use Rattle.sym_model.proofs.Integers.{zero_or_not}
use Rattle.sym_model.specs.ListWeight.{factorials}
use Rattle.monomial_laws.proofs.Powers.{factorials-positive}

-- ---- integers that are not 0

size_of_nonzero : (x : ℤ) → (x ≡ pos 0 → ⊥) → 0 < unsigned_abs x
size_of_nonzero (pos zero) h = absurd (h refl)
size_of_nonzero (pos (suc n)) h = omega arith
size_of_nonzero (negsuc n) h = omega arith

nonzero_product : (x y : ℤ) → (x ≡ pos 0 → ⊥) → (y ≡ pos 0 → ⊥) → x *ℤ y ≡ pos 0 → ⊥
nonzero_product x y h k e =
    let p = mul-pos (size_of_nonzero x h) (size_of_nonzero y k) in
    let z : unsigned_abs x * unsigned_abs y ≡ 0 = sym (unsigned_abs-mul x y) ∙ ap unsigned_abs e in
    absurd (omega arith)

-- ---- products of lists

abbrev pub product_list : (ℕ → WholeTerms) → List ℕ → WholeTerms
product_list W [] = ([], pos 1) ∷ []
product_list W (a ∷ parts) = joined (scale (pos 1) (W a)) (product_list W parts)

-- each label is x or has more rows than x, and the coefficient of x is not 0
pub record IsTriangular (x : List ℕ) (V : WholeTerms) : Type 0 where
  pub labels : (t : List ℕ × ℤ) → Among t V → (t.0 ≡ x) ⊎ (rows x < rows t.0)
  pub nonzero : coefficient V x ≡ pos 0 → ⊥

length-merged : (l r : List ℕ) → ArePositive l → length (merged l r) ≡ length l + length r
length-merged [] r p = omega arith
length-merged (zero ∷ l) r p = absurd (let z = p.0 in omega arith)
length-merged (suc a ∷ l) r p =
    let e = length-insert_part a r in let i = length-merged l (insert_part (suc a) r) p.1 in omega arith

one_row : (k : ℕ) (μ : List ℕ) → 0 < k → size μ ≡ k → (μ ≡ k ∷ []) ⊎ (1 < rows μ)
one_row k [] h e = absurd (omega arith)
one_row k (b ∷ []) h e = inl (ap (λ n. n ∷ []) (omega arith))
one_row k (b ∷ d ∷ rest) h e = inr (omega arith)

module _ (G : ℕ → ℕ → Poly) (c : List ℕ → ℤ) (stands : (k : ℕ) → Stands power_sum_of (factorial k) (factorial k) k (λ n. G k n) (list_over c k))
    (c-nonzero : (k : ℕ) → 0 < k → c (k ∷ []) ≡ pos 0 → ⊥) where
  product-stands : (x : List ℕ)
      → Stands power_sum_of (factorials x) (factorials x) (size x) (λ n. product_over G x n) (product_list (list_over c) x)
  product-stands [] = record {
    value = λ n φ. omega (arith, ints);
    few = omega arith;
    labels =
        λ t m. elim m [ inl e ↦ subst (IsLow 0) (sym (ap (λ (u : List ℕ × ℤ). u.0) e)) (record { partition = IsPartition-none; low = omega arith }) | inr i ↦ absurd i ];
  }
  product-stands (a ∷ x) =
      stands-product power_sum_of (λ n k. In-monomials (has k) n k) (factorial a) (factorial a) a (factorials x) (factorials x) (size x) (factorials (a ∷ x)) (factorials (a ∷ x)) 1
      (G a) (λ n. product_over G x n) (list_over c a) (product_list (list_over c) x) (stands a) (product-stands x) (omega arith) (omega arith)

  one_part : (k : ℕ) → 0 < k → IsTriangular (k ∷ []) (list_over c k)
  one_part k h = record { labels = labels; nonzero = λ e. c-nonzero k h (sym is ∙ e) }
    where
      labels : (t : List ℕ × ℤ) → Among t (list_over c k) → (t.0 ≡ k ∷ []) ⊎ (1 < rows t.0)
      labels t m =
          let r = Among_from_map (λ μ. (μ, c μ)) t (partitions_of k) m in
          subst (λ (u : List ℕ × ℤ). (u.0 ≡ k ∷ []) ⊎ (1 < rows u.0)) (sym r.2) (one_row k r.0 h (partitions_of-tells k r.0 r.1).1)

      is : coefficient (list_over c k) (k ∷ []) ≡ c (k ∷ [])
      is =
          total_map (λ (t : List ℕ × ℤ). cond (same t.0 (k ∷ [])) t.1 (pos 0)) (λ μ. (μ, c μ)) (partitions_of k)
          ∙ total_only (λ μ. cond (same μ (k ∷ [])) (c μ) (pos 0)) (k ∷ []) (partitions_of k) (Once-partitions_of k)
          (Among-partitions_of k (k ∷ []) (record { falls = tt; positive = (h, tt) }) (omega arith))
          (λ μ m d. ap (λ b. cond b (c μ) (pos 0)) (same_apart μ (k ∷ []) d))
          ∙ ap (λ b. cond b (c (k ∷ [])) (pos 0)) (same_refl (k ∷ []))

  triangular : (x : List ℕ) → IsPartition x → IsTriangular x (product_list (list_over c) x)
  triangular [] p = record { labels = λ t m. elim m [ inl e ↦ inl (ap (λ (u : List ℕ × ℤ). u.0) e) | inr i ↦ absurd i ]; nonzero = λ e. cc }
  triangular (a ∷ x) p = by (one_part a p.positive.0) (triangular x (IsPartition_tail a x p))
    where
      A : WholeTerms
      A = list_over c a

      V : WholeTerms
      V = product_list (list_over c) x

      by : IsTriangular (a ∷ []) A → IsTriangular x V → IsTriangular (a ∷ x) (joined (scale (pos 1) A) V)
      by u v = record { labels = labels; nonzero = λ e. nonzero_product (coefficient V x) (coefficient A (a ∷ [])) v.nonzero u.nonzero (sym is ∙ e) }
        where
          joins : (l r : List ℕ) → ArePositive l → (l ≡ a ∷ []) ⊎ (1 < rows l) → (r ≡ x) ⊎ (rows x < rows r)
              → (merged l r ≡ a ∷ x) ⊎ (suc (rows x) < rows (merged l r))
          joins l r q (inl e) (inl f) = inl (ap₂ merged e f ∙ insert_part-front a x p.positive.0 p.falls)
          joins l r q (inl e) (inr f) = let m = length-merged l r q in let k = ap length e in inr (omega arith)
          joins l r q (inr e) (inl f) = let m = length-merged l r q in let k = ap length f in inr (omega arith)
          joins l r q (inr e) (inr f) = let m = length-merged l r q in inr (omega arith)

          positive : (t : List ℕ × ℤ) → Among t A → ArePositive t.0
          positive t m = ((stands a).labels t m).partition.positive

          labels : (t : List ℕ × ℤ) → Among t (joined (scale (pos 1) A) V) → (t.0 ≡ a ∷ x) ⊎ (suc (rows x) < rows t.0)
          labels t m =
              let s = Among_from_each (λ (s : List ℕ × ℤ). row s.0 s.1 V) t (scale (pos 1) A) m in
              let o = Among_from_map (λ (w : List ℕ × ℤ). (w.0, pos 1 *ℤ w.1)) s.0 A s.1 in
              let r = Among_from_map (λ (w : List ℕ × ℤ). (merged s.0.0 w.0, s.0.1 *ℤ w.1)) t V s.2 in
              let first : s.0.0 ≡ o.0.0 = ap (λ (w : List ℕ × ℤ). w.0) o.2 in
              subst (λ (w : List ℕ × ℤ). (w.0 ≡ a ∷ x) ⊎ (suc (rows x) < rows w.0)) (sym r.2)
              (joins s.0.0 r.0.0 (subst ArePositive (sym first) (positive o.0 o.1)) (subst (λ l. (l ≡ a ∷ []) ⊎ (1 < rows l)) (sym first) (u.labels o.0 o.1)) (v.labels r.0 r.1))

          only : (l r : List ℕ) → ArePositive l → (l ≡ a ∷ []) ⊎ (1 < rows l) → (r ≡ x) ⊎ (rows x < rows r)
              → at_only (a ∷ x) (merged l r) ≡ at_only (a ∷ []) l *ℤ at_only x r
          only l r q (inl e) (inl f) =
              ap (at_only (a ∷ x)) (ap₂ merged e f ∙ insert_part-front a x p.positive.0 p.falls)
              ∙ ap (λ b. cond b (pos 1) (pos 0)) (same_refl (a ∷ x))
              ∙ sym (ap₂ (λ b d. cond b (pos 1) (pos 0) *ℤ cond d (pos 1) (pos 0)) (ap (λ y. same y (a ∷ [])) e ∙ same_refl (a ∷ [])) (ap (λ y. same y x) f ∙ same_refl x))
          only l r q (inl e) (inr f) =
              let m = length-merged l r q in
              let k = ap length e in
              ap (λ b. cond b (pos 1) (pos 0)) (same_apart (merged l r) (a ∷ x) (λ d. let z = ap length d in absurd (omega arith)))
              ∙ sym (ap (λ b. at_only (a ∷ []) l *ℤ cond b (pos 1) (pos 0)) (same_apart r x (λ d. let z = ap length d in absurd (omega arith))) ∙ *ℤ-zero (at_only (a ∷ []) l))
          only l r q (inr e) f =
              let m = length-merged l r q in
              ap (λ b. cond b (pos 1) (pos 0)) (same_apart (merged l r) (a ∷ x) (λ d. let z = ap length d in long f z))
              ∙ sym (ap (λ b. cond b (pos 1) (pos 0) *ℤ at_only x r) (same_apart l (a ∷ []) (λ d. let z = ap length d in absurd (omega arith))) ∙ zero-*ℤ (at_only x r))
            where
              long : (r ≡ x) ⊎ (rows x < rows r) → length (merged l r) ≡ suc (length x) → ⊥
              long (inl f) z = let m = length-merged l r q in let k = ap length f in absurd (omega arith)
              long (inr f) z = let m = length-merged l r q in absurd (omega arith)

          is : coefficient (joined (scale (pos 1) A) V) (a ∷ x) ≡ coefficient V x *ℤ coefficient A (a ∷ [])
          is =
              coefficient_pair (joined (scale (pos 1) A) V) (a ∷ x)
              ∙ pair-joined (scale (pos 1) A) V (at_only (a ∷ x))
              ∙ total_of_scaled (λ l. pair V (λ r. at_only (a ∷ x) (merged l r))) (pos 1) A
              ∙ one-product (total (λ (t : List ℕ × ℤ). t.1 *ℤ pair V (λ r. at_only (a ∷ x) (merged t.0 r))) A)
              ∙ total_among (λ (t : List ℕ × ℤ). t.1 *ℤ pair V (λ r. at_only (a ∷ x) (merged t.0 r))) (λ (t : List ℕ × ℤ). t.1 *ℤ (coefficient V x *ℤ at_only (a ∷ []) t.0)) A
              (λ t m. ap (λ z. t.1 *ℤ z) (inner t m))
              ∙ pair_factor (coefficient V x) A (at_only (a ∷ []))
              ∙ ap (λ z. coefficient V x *ℤ z) (sym (coefficient_pair A (a ∷ [])))
            where
              inner : (t : List ℕ × ℤ) → Among t A
                  → pair V (λ r. at_only (a ∷ x) (merged t.0 r)) ≡ coefficient V x *ℤ at_only (a ∷ []) t.0
              inner t m =
                  total_among (λ (s : List ℕ × ℤ). s.1 *ℤ at_only (a ∷ x) (merged t.0 s.0)) (λ (s : List ℕ × ℤ). s.1 *ℤ (at_only (a ∷ []) t.0 *ℤ at_only x s.0)) V
                  (λ s i. ap (λ z. s.1 *ℤ z) (only t.0 s.0 (positive t m) (u.labels t m) (v.labels s i)))
                  ∙ pair_factor (at_only (a ∷ []) t.0) V (at_only x)
                  ∙ ap (λ z. at_only (a ∷ []) t.0 *ℤ z) (sym (coefficient_pair V x))
                  ∙ *ℤ_comm (at_only (a ∷ []) t.0) (coefficient V x)

  -- ---- sums of the family as sums of power sums

  all_den : WholeTerms → ℕ
  all_den [] = 1
  all_den (t ∷ terms) = factorials t.0 * all_den terms

  all_den-positive : (terms : WholeTerms) → 0 < all_den terms
  unfolding all_den
  all_den-positive [] = omega arith
  all_den-positive (t ∷ terms) = mul-pos (factorials-positive t.0) (all_den-positive terms)

  expand : WholeTerms → WholeTerms
  unfolding all_den
  expand [] = []
  expand (t ∷ terms) =
      scale (t.1 *ℤ pos (all_den terms)) (product_list (list_over c) t.0) ++ scale (pos (factorials t.0)) (expand terms)

  expand-value : (n : ℕ) (φ : List ℕ → ℤ) (terms : WholeTerms)
      → pair (expand terms) (λ l. pair (power_sum l n) φ) ≡ pos (all_den terms) *ℤ total (λ (t : List ℕ × ℤ). t.1 *ℤ pair (product_over G t.0 n) φ) terms
  unfolding all_den expand
  expand-value n φ [] = sym (*ℤ-zero (pos 1))
  expand-value n φ (t ∷ terms) =
      total_append F (scale (t.1 *ℤ pos (all_den terms)) (product_list (list_over c) t.0)) (scale (pos (factorials t.0)) (expand terms))
      ∙ ap₂ (λ x y. x +ℤ y)
      (total_of_scaled g (t.1 *ℤ pos (all_den terms)) (product_list (list_over c) t.0) ∙ ap (λ z. (t.1 *ℤ pos (all_den terms)) *ℤ z) ((product-stands t.0).value n φ))
      (total_of_scaled g (pos (factorials t.0)) (expand terms) ∙ ap (λ z. pos (factorials t.0) *ℤ z) (expand-value n φ terms))
      ∙ regroup t.1 (pos (all_den terms)) (pos (factorials t.0)) (pair (product_over G t.0 n) φ) (total (λ (t : List ℕ × ℤ). t.1 *ℤ pair (product_over G t.0 n) φ) terms)
    where
      g : List ℕ → ℤ
      g l = pair (power_sum l n) φ

      F : List ℕ × ℤ → ℤ
      F s = s.1 *ℤ pair (power_sum s.0 n) φ

      regroup : (a D d f s : ℤ) → (a *ℤ D) *ℤ (d *ℤ f) +ℤ d *ℤ (D *ℤ s) ≡ (d *ℤ D) *ℤ (a *ℤ f +ℤ s)
      regroup a D d f s = simp ring (omega (arith, ints))

  expand-coefficient : (μ : List ℕ) (terms : WholeTerms)
      → ((t : List ℕ × ℤ) → Among t terms → IsPartition t.0 × (rows μ ≤ rows t.0))
      → coefficient (expand terms) μ *ℤ pos (factorials μ) ≡ (pos (all_den terms) *ℤ coefficient (product_list (list_over c) μ) μ) *ℤ coefficient terms μ
  unfolding all_den expand
  expand-coefficient μ [] h =
      zero-*ℤ (pos (factorials μ)) ∙ sym (*ℤ-zero (pos 1 *ℤ coefficient (product_list (list_over c) μ) μ))
  expand-coefficient μ (t ∷ terms) h =
      ap (λ z. z *ℤ pos (factorials μ))
      (total_append (λ (s : List ℕ × ℤ). cond (same s.0 μ) s.1 (pos 0)) (scale (t.1 *ℤ pos (all_den terms)) (product_list (list_over c) t.0)) (scale (pos (factorials t.0)) (expand terms))
      ∙ ap₂ (λ x y. x +ℤ y) (coefficient_of_scaled same (t.1 *ℤ pos (all_den terms)) (product_list (list_over c) t.0) μ) (coefficient_of_scaled same (pos (factorials t.0)) (expand terms) μ))
      ∙ by (same_or_not t.0 μ) (expand-coefficient μ terms (λ s m. h s (inr m)))
    where
      w : ℤ
      w = coefficient (product_list (list_over c) μ) μ

      moved : (d D w f : ℤ) → d *ℤ ((D *ℤ w) *ℤ f) ≡ ((d *ℤ D) *ℤ w) *ℤ f
      moved d D w f = simp ring refl

      regroup : (a D d w E m f : ℤ) → E *ℤ m ≡ (D *ℤ w) *ℤ f → m ≡ d
          → ((a *ℤ D) *ℤ w +ℤ d *ℤ E) *ℤ m ≡ ((d *ℤ D) *ℤ w) *ℤ (a +ℤ f)
      regroup a D d w E m f h k =
          let one : ((a *ℤ D) *ℤ w) *ℤ m ≡ ((d *ℤ D) *ℤ w) *ℤ a = ap (λ z. ((a *ℤ D) *ℤ w) *ℤ z) k ∙ turned a D d w in
          let two : (d *ℤ E) *ℤ m ≡ ((d *ℤ D) *ℤ w) *ℤ f = product_assoc d E m ∙ (ap (λ z. d *ℤ z) h ∙ moved d D w f) in
          distributes_right ((a *ℤ D) *ℤ w) (d *ℤ E) m
          ∙ (ap₂ (λ x y. x +ℤ y) one two ∙ sym (distributes_left ((d *ℤ D) *ℤ w) a f))
        where
          turned : (a D d w : ℤ) → ((a *ℤ D) *ℤ w) *ℤ d ≡ ((d *ℤ D) *ℤ w) *ℤ a
          turned a D d w = simp ring refl

      regroup_zero : (a D d w E m f : ℤ) → E *ℤ m ≡ (D *ℤ w) *ℤ f
          → ((a *ℤ D) *ℤ pos 0 +ℤ d *ℤ E) *ℤ m ≡ ((d *ℤ D) *ℤ w) *ℤ (pos 0 +ℤ f)
      regroup_zero a D d w E m f h =
          let none : (a *ℤ D) *ℤ pos 0 ≡ pos 0 = *ℤ-zero (a *ℤ D) in
          ap (λ z. (z +ℤ d *ℤ E) *ℤ m) none
          ∙ (ap (λ z. z *ℤ m) (plain (d *ℤ E)) ∙ (product_assoc d E m ∙ (ap (λ z. d *ℤ z) h ∙ (moved d D w f ∙ ap (λ z. ((d *ℤ D) *ℤ w) *ℤ z) (sym (plain f))))))
        where
          plain : (z : ℤ) → pos 0 +ℤ z ≡ z
          plain z = omega (arith, ints)

      by : (t.0 ≡ μ) ⊎ (t.0 ≡ μ → ⊥)
          → coefficient (expand terms) μ *ℤ pos (factorials μ) ≡ (pos (all_den terms) *ℤ w) *ℤ coefficient terms μ
          → ((t.1 *ℤ pos (all_den terms)) *ℤ coefficient (product_list (list_over c) t.0) μ +ℤ pos (factorials t.0) *ℤ coefficient (expand terms) μ) *ℤ pos (factorials μ)
          ≡ (pos (factorials t.0 * all_den terms) *ℤ w) *ℤ (cond (same t.0 μ) t.1 (pos 0) +ℤ coefficient terms μ)
      by (inl e) later =
          ap (λ z. ((t.1 *ℤ pos (all_den terms)) *ℤ z +ℤ pos (factorials t.0) *ℤ coefficient (expand terms) μ) *ℤ pos (factorials μ)) (ap (λ x. coefficient (product_list (list_over c) x) μ) e)
          ∙ regroup t.1 (pos (all_den terms)) (pos (factorials t.0)) w (coefficient (expand terms) μ) (pos (factorials μ)) (coefficient terms μ) later (ap (λ x. pos (factorials x)) (sym e))
          ∙ ap (λ b. (pos (factorials t.0 * all_den terms) *ℤ w) *ℤ (cond b t.1 (pos 0) +ℤ coefficient terms μ)) (sym (ap (λ x. same x μ) e ∙ same_refl μ))
      by (inr d) later =
          ap (λ z. ((t.1 *ℤ pos (all_den terms)) *ℤ z +ℤ pos (factorials t.0) *ℤ coefficient (expand terms) μ) *ℤ pos (factorials μ)) none
          ∙ regroup_zero t.1 (pos (all_den terms)) (pos (factorials t.0)) w (coefficient (expand terms) μ) (pos (factorials μ)) (coefficient terms μ) later
          ∙ ap (λ b. (pos (factorials t.0 * all_den terms) *ℤ w) *ℤ (cond b t.1 (pos 0) +ℤ coefficient terms μ)) (sym (same_apart t.0 μ d))
        where
          none : coefficient (product_list (list_over c) t.0) μ ≡ pos 0
          none = total_none (λ (s : List ℕ × ℤ). cond (same s.0 μ) s.1 (pos 0)) (product_list (list_over c) t.0)
              (λ s m. ap (λ b. cond b s.1 (pos 0)) (same_apart s.0 μ (λ e. elim ((triangular t.0 (h t (inl refl)).0).labels s m) [
                | inl f ↦ d (sym f ∙ e)
                | inr f ↦ let k = ap length e in let l = (h t (inl refl)).1 in absurd (omega arith)
              ])))

  family-kills : (n : ℕ) (μ : List ℕ) → IsSmall n μ → (terms : WholeTerms) → HaveLabels (IsSmall n) terms
      → Same (combined (λ x. product_over G x n) terms) nothing
      → ((u : List ℕ × ℤ) → Among u terms → HasFewer u.0 μ) → coefficient terms μ ≡ pos 0
  unfolding all_den expand
  family-kills n μ q terms h z low = by (zero_or_not (coefficient terms μ))
    where
      sums : Same (combined (λ x. power_sum x n) (expand terms)) nothing
      sums = same_from_pair (combined (λ x. power_sum x n) (expand terms)) nothing (λ φ.
          pair_of_combined (λ x. power_sum x n) (expand terms) φ
          ∙ expand-value n φ terms
          ∙ ap (λ x. pos (all_den terms) *ℤ x) (sym (pair_of_combined (λ x. product_over G x n) terms φ) ∙ pair_determined (combined (λ x. product_over G x n) terms) nothing φ z)
          ∙ *ℤ-zero (pos (all_den terms)))

      expand-labels : (terms : WholeTerms) → HaveLabels (IsSmall n) terms → HaveLabels (HasRows n) (expand terms)
      expand-labels [] k t m = absurd m
      expand-labels (s ∷ terms) k t m =
          labels_append (HasRows n) (scale (s.1 *ℤ pos (all_den terms)) (product_list (list_over c) s.0)) (scale (pos (factorials s.0)) (expand terms))
          (labels_scaled (HasRows n) (s.1 *ℤ pos (all_den terms)) (product_list (list_over c) s.0) (λ u i.
          let l = (product-stands s.0).labels u i in
          let r = rows_within_size u.0 l.partition.positive in
          let a = l.low in
          let b = (k s (inl refl)).1 in
          (l.partition, omega arith)))
          (labels_scaled (HasRows n) (pos (factorials s.0)) (expand terms) (expand-labels terms (λ u i. k u (inr i)))) t m

      fits : HasRows n μ
      fits = let r = rows_within_size μ q.0.positive in let b = q.1 in (q.0, omega arith)

      zero_at : coefficient (expand terms) μ ≡ pos 0
      zero_at = (power_sums-independent n).zero (expand terms) (expand-labels terms h) sums μ fits

      product_zero : (pos (all_den terms) *ℤ coefficient (product_list (list_over c) μ) μ) *ℤ coefficient terms μ ≡ pos 0
      product_zero =
          sym (expand-coefficient μ terms (λ t m. ((h t m).0, low t m)))
          ∙ (ap (λ x. x *ℤ pos (factorials μ)) zero_at ∙ zero-*ℤ (pos (factorials μ)))

      by : (coefficient terms μ ≡ pos 0) ⊎ (coefficient terms μ ≡ pos 0 → ⊥) → coefficient terms μ ≡ pos 0
      by (inl e) = e
      by (inr d) =
          absurd (nonzero_product (pos (all_den terms) *ℤ coefficient (product_list (list_over c) μ) μ) (coefficient terms μ)
          (nonzero_product (pos (all_den terms)) (coefficient (product_list (list_over c) μ) μ) (λ e. let p = all_den-positive terms in let f = ap unsigned_abs e in absurd (omega arith)) (triangular μ q.0).nonzero)
          d product_zero)

  family-independent : (n : ℕ) → AreIndependent same (IsSmall n) (λ x. product_over G x n)
  family-independent n =
      independent_by_kills same same-decides (IsSmall n) (λ x y. HasFewer y x) (λ x y. rows_total y x) (λ x y z h k. omega arith) (λ x. product_over G x n)
      (λ μ q terms h z low. family-kills n μ q terms h z low)

count-positive : (k : ℕ) → 0 < k → 0 < cycle_type_count (k ∷ [])
count-positive k h = by (cycle_type_count (k ∷ [])) refl
  where
    by : (m : ℕ) → cycle_type_count (k ∷ []) ≡ m → 0 < cycle_type_count (k ∷ [])
    by zero e =
        let w = cycles-whole (k ∷ []) (record { falls = tt; positive = (h, tt) }) in
        let f = factorial-positive (size (k ∷ [])) in
        let z = ap (λ x. x * centralizer (k ∷ [])) e in
        absurd (omega arith)
    by (suc m) e = omega arith

pub completes-independent : (n : ℕ) → AreIndependent same (IsSmall n) (λ x. complete x n)
completes-independent n =
    family-independent complete_of (λ μ. pos (cycle_type_count μ)) complete-power-list (λ k h e. let p = count-positive k h in let f = ap unsigned_abs e in absurd (omega arith)) n

sign-nonzero : (k : ℕ) → minus_one_to k ≡ pos 0 → ⊥
sign-nonzero zero e = cc
sign-nonzero (suc k) e = sign-nonzero k (back (minus_one_to k) e)
  where
    back : (z : ℤ) → neg_ℤ z ≡ pos 0 → z ≡ pos 0
    back z h = omega (arith, ints)

pub elementaries-independent : (n : ℕ) → AreIndependent same (IsSmall n) (λ x. elementary x n)
elementaries-independent n =
    family-independent elementary_of (λ μ. parity_sign μ *ℤ pos (cycle_type_count μ)) elementary-power-list
    (λ k h. nonzero_product (parity_sign (k ∷ [])) (pos (cycle_type_count (k ∷ []))) (sign-nonzero (size (k ∷ []) - length (k ∷ []))) (λ e. let p = count-positive k h in let f = ap unsigned_abs e in absurd (omega arith))) n
