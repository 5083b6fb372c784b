-- The fusion product of some partitions is their quantum product with each label q^p·ν read as a partition (`lifted_label`).
--     lifted_reduction     the reduction of a partition into the alcove, given by its reduction by rim hooks
--     fusion_lifted        the classical product of some partitions, reflected into the alcove, given by its reduction by rim hooks
use Rattle.std.proofs.Common.{◌≡◌, ◌⊎◌, inl, inr, ℕ, zero, suc, ◌+◌, ◌-◌, ◌*◌, ◌%◌, ◌<◌, ◌≤◌, ◌==◌, ◌||◌, nat_lt, nat_le, Bool, true, false, cond, List, [], ◌∷◌, ◌++◌, map, length, refl, sym, ◌∙◌, ap, ap₂, subst, arith, ℤ, Option, Some, None, append-nil}
use Rattle.std.proofs.lemmas.Bool.{cases_eq, cases_lt, eq-eqb, ne_eqb, or_parts, both_ways, le-leb}
use Rattle.std.proofs.lemmas.Bool.Decides.{nat_tests}
use Rattle.std.proofs.lemmas.List.{length-map, length-append}
use Rattle.std.proofs.Math.Nat.{mul-mod_left, mul-le-mul_right}
use Rattle.sym_model.specs.Partition.{Falls, IsPartition, part, columns, size, rows}
use Rattle.sym_model.specs.Bounded.{AreBelow}
use Rattle.sym_model.specs.Bases.{has}
use Rattle.sym_model.specs.Alternant.{staircase}
use Rattle.sym_model.specs.PlaceOrders.{minus_one_to, smaller}
use Rattle.sym_model.specs.BetaList.{beta, from_beta, greater, has_equal_entries, put_falling, sorted_falling, rising_pairs, sorting_sign}
use Rattle.sym_model.specs.AlcoveReduction.{reflected_into_alcove, as_partition, alcove_reduction}
use Rattle.sym_model.specs.WholeTerms.{WholeTerms, HaveLabels}
use Rattle.sym_model.specs.Reductions.{Reduction, reduced_terms, reflected_term, reflected_terms}
use Rattle.beta_list_laws.specs.StrictFall.{FallsStrictly}
use Rattle.beta_list_laws.specs.AlcoveEnd.{remainders, past, up}
use Rattle.beta_list_laws.specs.LowestList.{alike, lowest, end_of, end_sign, power_of, reduction_by_remainders}
use Rattle.beta_list_laws.specs.ReductionLists.{reductions_of}
use Rattle.beta_list_laws.proofs.NeighbourExchanges.{KeptByExchanges, sort_reach, sort_back, sorted_falls, sorted-falling, size-sorted, length-sorted, same_sign}
use Rattle.beta_list_laws.proofs.SortedLists.{sorted_strict}
use Rattle.beta_list_laws.proofs.BetaLists.{length-beta, beta_strict, beta-from_beta, part-from_beta, size-from_beta, size-beta}
use Rattle.beta_list_laws.proofs.Lowest.{strict_falls}
use Rattle.beta_list_laws.proofs.Ends.{goes_to_end, goes_cells, narrow, wide}
use Rattle.beta_list_laws.proofs.Windows.{LieIn, sorted-map-sorted, window_back, has_alike, lacks_alike}
use Rattle.beta_list_laws.proofs.AlcoveEnds.{ups_of_remainders, ups_lie, ups_differ, Reduced, alcove_reduced, alcove_none, alcove_found}
use Rattle.sym_model.specs.Products.{classical_product}
use Rattle.product_laws.specs.FactorSteps.{reduced_product}
use Rattle.product_laws.proofs.RimHookSteps.{classical_labels}
use Rattle.product_laws.proofs.Straightened.{IsShape}
use Rattle.product_laws.proofs.Quantum.{length-lowest}
use Rattle.rotation_laws.specs.Lifting.{last_entry, first_entries, lifted_once, lifted, lifted_label, all_lifted}
use Rattle.rotation_laws.proofs.Rotated.{AreAbove, greater_above, greater_past, sorted_moved, size_append, narrow_columns, same_multiple, remainders_small}

-- ---- lists with one entry greater or less than all others

put_last : (t : ℕ) (m : List ℕ) → AreAbove t m → put_falling t m ≡ m ++ (t ∷ [])
put_last t [] p = refl
put_last t (x ∷ m) p =
    let h = p.0 in
    let e : nat_le x t ≡ false = grind (arith, nat_tests) in
    ap (λ v. cond v (t ∷ x ∷ m) (x ∷ put_falling t m)) e ∙ ap (λ l. x ∷ l) (put_last t m p.1)

put_front : (t : ℕ) (m : List ℕ) → AreBelow t m → put_falling t m ≡ t ∷ m
put_front t [] p = refl
put_front t (x ∷ m) p =
    let h : x < t = p.0 in
    let e : nat_le x t ≡ true = grind (arith, nat_tests) in
    ap (λ v. cond v (t ∷ x ∷ m) (x ∷ put_falling t m)) e

pub lifted-last : (n t : ℕ) (m : List ℕ) → lifted_once n (m ++ (t ∷ [])) ≡ (t + n) ∷ m
lifted-last n t [] = refl
lifted-last n t (x ∷ m) = ap₂ (λ (a : ℕ) (l : List ℕ). (a + n) ∷ l) (last_is x m) (front_is x m)
  where
    last_is : (x : ℕ) (m : List ℕ) → last_entry x (m ++ (t ∷ [])) ≡ t
    last_is x [] = refl
    last_is x (y ∷ m) = last_is y m

    front_is : (x : ℕ) (m : List ℕ) → first_entries x (m ++ (t ∷ [])) ≡ x ∷ m
    front_is x [] = refl
    front_is x (y ∷ m) = ap (λ l. x ∷ l) (front_is y m)

above_kept : (t : ℕ) → KeptByExchanges (AreAbove t)
above_kept t [] a b r h = (h.1.0, (h.0, h.1.1))
above_kept t (c ∷ l) a b r h = (h.0, above_kept t l a b r h.1)

below_kept : (t : ℕ) → KeptByExchanges (AreBelow t)
below_kept t [] a b r h = (h.1.0, (h.0, h.1.1))
below_kept t (c ∷ l) a b r h = (h.0, below_kept t l a b r h.1)

sorted_with_least : (t : ℕ) (l r : List ℕ) → AreAbove t (l ++ r) → sorted_falling (l ++ (t ∷ r)) ≡ sorted_falling (l ++ r) ++ (t ∷ [])
sorted_with_least t l r p =
    sym (sorted_moved t l r) ∙ put_last t (sorted_falling (l ++ r)) (sort_reach (AreAbove t) (l ++ r) (above_kept t) p)

sorted_with_greatest : (t : ℕ) (l r : List ℕ) → AreBelow t (l ++ r) → sorted_falling (l ++ (t ∷ r)) ≡ t ∷ sorted_falling (l ++ r)
sorted_with_greatest t l r p =
    sym (sorted_moved t l r) ∙ put_front t (sorted_falling (l ++ r)) (sort_reach (AreBelow t) (l ++ r) (below_kept t) p)

greater_with : (c x : ℕ) (l r : List ℕ) → greater c (l ++ (x ∷ r)) ≡ greater c (l ++ r) + cond {A = ℕ} (nat_lt c x) 1 0
greater_with c x [] r = omega arith
greater_with c x (d ∷ l) r = let e = greater_with c x l r in omega arith

pub pairs_with : (x : ℕ) (l r : List ℕ) → rising_pairs (l ++ (x ∷ r)) ≡ rising_pairs (l ++ r) + (smaller x l + greater x r)
pairs_with x [] r = omega arith
pairs_with x (c ∷ l) r = let e = pairs_with x l r in let g = greater_with c x l r in omega arith

smaller_none : (x : ℕ) (l : List ℕ) → AreAbove x l → smaller x l ≡ 0
smaller_none x [] p = refl
smaller_none x (y ∷ l) p =
    let h = p.0 in
    let e : nat_lt y x ≡ false = grind (arith, nat_tests) in
    let c = ap (λ v. cond {A = ℕ} v 1 0) e in
    let r = smaller_none x l p.1 in
    omega arith

smaller_all : (x : ℕ) (l : List ℕ) → AreBelow x l → smaller x l ≡ length l
smaller_all x [] p = refl
smaller_all x (y ∷ l) p =
    let h : y < x = p.0 in
    let e : nat_lt y x ≡ true = grind (arith, nat_tests) in
    let c = ap (λ v. cond {A = ℕ} v 1 0) e in
    let r = smaller_all x l p.1 in
    omega arith

above_parts : (t : ℕ) (l r : List ℕ) → AreAbove t (l ++ r) → AreAbove t l × AreAbove t r
above_parts t [] r p = (tt, p)
above_parts t (x ∷ l) r p = let q = above_parts t l r p.1 in ((p.0, q.0), q.1)

below_both : (t : ℕ) (l r : List ℕ) → AreBelow t (l ++ r) → AreBelow t l × AreBelow t r
below_both t [] r p = (tt, p)
below_both t (x ∷ l) r p = let q = below_both t l r p.1 in ((p.0, q.0), q.1)

-- ---- moving the window [t, t + n) by one: at most one entry of the list is t; it becomes t + n

-- no entry of the list is t
abbrev pub Avoids : ℕ → List ℕ → Type 0
Avoids t [] = Unit {0}
Avoids t (x ∷ u) = (x ≡ t → ⊥) × Avoids t u

past_itself : (n t : ℕ) (u : List ℕ) → Avoids t u → map (past n t) u ≡ u
past_itself n t [] p = refl
past_itself n t (x ∷ u) p = ap₂ ◌∷◌ (ap (λ v. cond v (t + n) x) (ne_eqb x t p.0)) (past_itself n t u p.1)

absent_avoids : (t : ℕ) (u : List ℕ) → has t u ≡ false → Avoids t u
absent_avoids t [] e = tt
absent_avoids t (x ∷ u) e =
    let p = or_parts (x == t) (has t u) e in
    ((λ i. both_ways (x == t) p.0 (eq-eqb x t i)), absent_avoids t u p.1)

-- the list is l ++ (t ∷ r), and t is not in l or r
record Split (t : ℕ) (u : List ℕ) : Type 0 where
  left : List ℕ
  right : List ℕ
  is : u ≡ left ++ (t ∷ right)
  before : Avoids t left
  later : Avoids t right

split_at : (t : ℕ) (u : List ℕ) → has_equal_entries u ≡ false → Avoids t u ⊎ Split t u
split_at t [] d = inl tt
split_at t (x ∷ u) d =
    by (cases_eq x t) (or_parts (has x u) (has_equal_entries u) d).0 (split_at t u (or_parts (has x u) (has_equal_entries u) d).1)
  where
    by : (x ≡ t) ⊎ (x ≡ t → ⊥) → has x u ≡ false → Avoids t u ⊎ Split t u → Avoids t (x ∷ u) ⊎ Split t (x ∷ u)
    by (inl e) h rest =
        inr (record {
          left = [];
          right = u;
          is = ap (λ y. y ∷ u) e;
          before = tt;
          later = absent_avoids t u (ap (λ y. has y u) (sym e) ∙ h);
        })
    by (inr n) h (inl a) = inl (n, a)
    by (inr n) h (inr s) = inr (record { left = x ∷ s.left; right = s.right; is = ap (λ l. x ∷ l) s.is; before = (n, s.before); later = s.later })

-- the entries of a list in the window [t, t + n) that avoids t
avoids_within : (n t : ℕ) (l r : List ℕ) → LieIn n t (l ++ (t ∷ r)) → Avoids t l → Avoids t r → AreAbove t (l ++ r) × AreBelow (t + n) (l ++ r)
avoids_within n t [] r w a b = outer r w.2 b
  where
    outer : (r : List ℕ) → LieIn n t r → Avoids t r → AreAbove t r × AreBelow (t + n) r
    outer [] w b = (tt, tt)
    outer (x ∷ r) w b =
        let rest = outer r w.2 b.1 in
        let low : t ≤ x = w.0 in
        let apart : t < x = elim (cases_lt t x) [ inl h ↦ h | inr h ↦ let e : x ≡ t = omega arith in absurd (b.0 e) ] in
        ((apart, rest.0), (w.1, rest.1))
avoids_within n t (x ∷ l) r w a b =
    let rest = avoids_within n t l r w.2 a.1 b in
    let low : t ≤ x = w.0 in
    let apart : t < x = elim (cases_lt t x) [ inl h ↦ h | inr h ↦ let e : x ≡ t = omega arith in absurd (a.0 e) ] in
    ((apart, rest.0), (w.1, rest.1))

-- the list u, with n added to its entry t: it is sorted by moving this entry to the front
record IsMoved (n : ℕ) (u v : List ℕ) : Type 0 where
  sorts : sorted_falling v ≡ lifted_once n (sorted_falling u)
  sum : size v ≡ size u + n
  parity : (rising_pairs v + (rising_pairs u + (length u + 1))) % 2 ≡ 0

double_even : (m : ℕ) → (m * 2) % 2 ≡ 0
double_even m = mul-mod_left m 2

moved_on : (n t : ℕ) (l r : List ℕ) → AreAbove t (l ++ r) → AreBelow (t + n) (l ++ r) → IsMoved n (l ++ (t ∷ r)) (l ++ ((t + n) ∷ r))
moved_on n t l r above below = record {
  sorts =
      sorted_with_greatest (t + n) l r below
      ∙ sym (lifted-last n t (sorted_falling (l ++ r)))
      ∙ ap (lifted_once n) (sym (sorted_with_least t l r above));
  sum =
      let a = size_append l ((t + n) ∷ r) in
      let b = size_append l (t ∷ r) in
      omega arith;
  parity =
      let a = pairs_with (t + n) l r in
      let b = pairs_with t l r in
      let p = above_parts t l r above in
      let q = below_both (t + n) l r below in
      let c = smaller_all (t + n) l q.0 in
      let d = greater_past (t + n) r [] q.1 ∙ refl in
      let none : greater (t + n) r ≡ 0 = ap (greater (t + n)) (sym (append-nil r)) ∙ d in
      let e = smaller_none t l p.0 in
      let f = greater_above t r p.1 in
      let g = length-append l (t ∷ r) in
      let is : rising_pairs (l ++ ((t + n) ∷ r)) + (rising_pairs (l ++ (t ∷ r)) + (length (l ++ (t ∷ r)) + 1)) ≡ (rising_pairs (l ++ r) + length l + length r + 1) * 2 = omega arith in
      ap (λ m. m % 2) is ∙ double_even (rising_pairs (l ++ r) + length l + length r + 1);
}

map_split : (n t : ℕ) (l r : List ℕ) → Avoids t l → Avoids t r → map (past n t) (l ++ (t ∷ r)) ≡ l ++ ((t + n) ∷ r)
map_split n t [] r a b = ap₂ ◌∷◌ (ap (λ v. cond v (t + n) t) (eq-eqb t t refl)) (past_itself n t r b)
map_split n t (x ∷ l) r a b = ap₂ ◌∷◌ (ap (λ v. cond v (t + n) x) (ne_eqb x t a.0)) (map_split n t l r a.1 b)

step_on : (n t : ℕ) (u : List ℕ) → LieIn n t u → has_equal_entries u ≡ false → (map (past n t) u ≡ u) ⊎ IsMoved n u (map (past n t) u)
step_on n t u w d = elim (split_at t u d) [
  | inl a ↦ inl (past_itself n t u a)
  | inr s ↦
      let p = avoids_within n t s.left s.right (subst (LieIn n t) s.is w) s.before s.later in
      inr (subst (λ l. IsMoved n l (map (past n t) l)) (sym s.is)
      (subst (IsMoved n (s.left ++ (t ∷ s.right))) (sym (map_split n t s.left s.right s.before s.later)) (moved_on n t s.left s.right p.0 p.1)))
]

-- the numbers of the window [t, t + n) with the remainders of b: they are sorted by lifting the sorted remainders
record IsLifted (k n : ℕ) (b u : List ℕ) : Type 0 where
  power : ℕ
  sorts : sorted_falling u ≡ lifted n power (sorted_falling (remainders n b))
  sum : size u ≡ size (remainders n b) + power * n
  parity : (rising_pairs u + (rising_pairs (remainders n b) + power * (k + 1))) % 2 ≡ 0

even_sum : (a b c d e : ℕ) → (a + (b + d)) % 2 ≡ 0 → (b + (c + e)) % 2 ≡ 0 → (a + (c + (d + e))) % 2 ≡ 0
even_sum a b c d e h g = omega arith

windows_lifted : (k n t : ℕ) (b : List ℕ) → 1 ≤ n → length b ≡ k → has_equal_entries (remainders n b) ≡ false → IsLifted k n b (map (up n t) b)
windows_lifted k n zero b h l d = record {
  power = 0;
  sorts = refl;
  sum = omega arith;
  parity =
      let is : rising_pairs (remainders n b) + (rising_pairs (remainders n b) + 0 * (k + 1)) ≡ rising_pairs (remainders n b) * 2 = omega arith in
      ap (λ m. m % 2) is ∙ double_even (rising_pairs (remainders n b));
}
windows_lifted k n (suc t) b h l d = by (windows_lifted k n t b h l d) (step_on n t (map (up n t) b) (ups_lie n t b h) (ups_differ n t b h d))
  where
    again : (c : List ℕ) → map (up n (suc t)) c ≡ map (past n t) (map (up n t) c)
    again [] = refl
    again (x ∷ c) = ap (λ m. past n t (up n t x) ∷ m) (again c)

    by : IsLifted k n b (map (up n t) b) → (map (past n t) (map (up n t) b) ≡ map (up n t) b) ⊎ IsMoved n (map (up n t) b) (map (past n t) (map (up n t) b)) → IsLifted k n b (map (up n (suc t)) b)
    by w (inl e) = subst (IsLifted k n b) (sym (again b ∙ e)) w
    by w (inr m) =
        subst (IsLifted k n b) (sym (again b))
        (record {
          power = suc w.power;
          sorts = m.sorts ∙ ap (lifted_once n) w.sorts;
          sum = let a = m.sum in let c = w.sum in omega arith;
          parity =
              let long : length (map (up n t) b) ≡ k = length-map b (up n t) ∙ l in
              let one = m.parity in
              let is : length (map (up n t) b) + 1 + w.power * (k + 1) ≡ suc w.power * (k + 1) = omega arith in
              ap (λ z. (rising_pairs (map (past n t) (map (up n t) b)) + (rising_pairs (remainders n b) + z)) % 2) (sym is)
              ∙ even_sum (rising_pairs (map (past n t) (map (up n t) b))) (rising_pairs (map (up n t) b)) (rising_pairs (remainders n b)) (length (map (up n t) b) + 1) (w.power * (k + 1)) one w.parity;
        })

-- ---- the reductions of one partition

lowest_distinct : (n : ℕ) (b : List ℕ) → has_equal_entries (remainders n b) ≡ false → lowest n b ≡ remainders n b
lowest_distinct n [] d = refl
lowest_distinct n (x ∷ b) d =
    let p = or_parts (has (x % n) (remainders n b)) (has_equal_entries (remainders n b)) d in
    let none : alike n x b ≡ 0 = elim (cases_lt 0 (alike n x b)) [ inl h ↦ absurd (both_ways (has (x % n) (remainders n b)) p.0 (has_alike n x b h)) | inr h ↦ omega arith ] in
    let e = ap (λ a. x % n + a * n) none in
    ap₂ ◌∷◌ (e ∙ omega arith) (lowest_distinct n b p.1)

low_distinct : (n : ℕ) (b : List ℕ) → 1 ≤ n → AreBelow n (lowest n b) → has_equal_entries (remainders n b) ≡ false
low_distinct n [] h u = refl
low_distinct n (x ∷ b) h u =
    let low : x % n + alike n x b * n < n = u.0 in
    let none : alike n x b ≡ 0 = elim (cases_lt 0 (alike n x b)) [
      | inl g ↦ let m : 1 * n ≤ alike n x b * n = mul-le-mul_right n g in absurd (omega arith)
      | inr g ↦ omega arith
    ] in
    or_from (has (x % n) (remainders n b)) (has_equal_entries (remainders n b)) (lacks_alike n x b none) (low_distinct n b h u.1)
  where
    or_from : (p q : Bool) → p ≡ false → q ≡ false → (p || q) ≡ false
    or_from false false e f = refl
    or_from true q e f = absurd (cc)
    or_from false true e f = absurd (cc)

falls_below : (n a : ℕ) (l : List ℕ) → Falls (a ∷ l) → a < n → AreBelow n (a ∷ l)
falls_below n a [] f h = (h, tt)
falls_below n a (c ∷ l) f h = let g : c ≤ a = f.0 in (h, falls_below n c l f.1 (omega arith))

narrow_below : (k n : ℕ) (l : List ℕ) → length l ≡ k → Falls l → k + columns (from_beta l) ≤ n → AreBelow n l
narrow_below k n [] e f h = tt
narrow_below k n (a ∷ l) e f h =
    let p : part (from_beta (a ∷ l)) 1 ≡ a - length l = part-from_beta (a ∷ l) 1 in
    falls_below n a l f (omega arith)

-- the reduction of the partition by rim hooks, with its label lifted
abbrev lifted_result : ℕ → ℕ → Reduction → Option (List ℕ × ℤ)
lifted_result k n None = None
lifted_result k n (Some r) = Some (lifted_label k n (r.2, r.0), r.1)

pub lifted_reduction : (k n : ℕ) (parts : List ℕ) → 1 ≤ n → k ≤ n → IsShape k parts → alcove_reduction k n parts ≡ lifted_result k n (reduction_by_remainders k n parts)
lifted_reduction k n parts h g p =
    ap (λ v. cond {A = Option (List ℕ × ℤ)} v (as_partition (reflected_into_alcove n (beta k parts))) None) (le-leb (rows parts) k p.few)
    ∙ by (has_equal_entries (remainders n (beta k parts))) refl
  where
    b : List ℕ
    b = beta k parts

    f : FallsStrictly (beta k parts)
    f = beta_strict k parts p.partition.falls

    long : length (beta k parts) ≡ k
    long = length-beta k parts

    by : (v : Bool) → has_equal_entries (remainders n (beta k parts)) ≡ v → as_partition (reflected_into_alcove n (beta k parts)) ≡ lifted_result k n (reduction_by_remainders k n parts)
    by true e = ap as_partition (alcove_none n b h f e) ∙ sym (ap (lifted_result k n) (wide k n parts far))
      where
        far : n < k + columns (end_of k n parts)
        far = elim (cases_lt n (k + columns (end_of k n parts))) [
          | inl l ↦ l
          | inr l ↦
              absurd (both_ways (has_equal_entries (remainders n (beta k parts)))
              (low_distinct n (beta k parts) h
              (sort_back (AreBelow n) (lowest n (beta k parts)) (below_kept n)
              (narrow_below k n (sorted_falling (lowest n (beta k parts))) (length-sorted (lowest n (beta k parts)) ∙ length-lowest n (beta k parts) ∙ long) (sorted_falls (lowest n (beta k parts))) l))) e)
        ]
    by false d = found (reflected_into_alcove n (beta k parts)) refl (alcove_reduced n (beta k parts) h f)
      where
        r : List ℕ
        r = remainders n (beta k parts)

        low : lowest n (beta k parts) ≡ remainders n (beta k parts)
        low = lowest_distinct n (beta k parts) d

        strict : FallsStrictly (sorted_falling (remainders n (beta k parts)))
        strict = sorted_strict (remainders n (beta k parts)) d

        short : length (sorted_falling (remainders n (beta k parts))) ≡ k
        short = length-sorted (remainders n (beta k parts)) ∙ length-map (beta k parts) (λ x. x % n) ∙ long

        end : end_of k n parts ≡ from_beta (sorted_falling (remainders n (beta k parts)))
        end = ap (λ l. from_beta (sorted_falling l)) low

        few : k + columns (end_of k n parts) ≤ n
        few =
            subst (λ l. k + columns l ≤ n) (sym end)
            (narrow_columns k n (sorted_falling (remainders n (beta k parts))) g short strict (sort_reach (AreBelow n) (remainders n (beta k parts)) (below_kept n) (remainders_small n (beta k parts) h)))

        found : (answer : Option (List ℕ × ℤ)) → reflected_into_alcove n (beta k parts) ≡ answer → Reduced n (beta k parts) answer → as_partition (reflected_into_alcove n (beta k parts)) ≡ lifted_result k n (reduction_by_remainders k n parts)
        found None is e = absurd (both_ways (has_equal_entries (remainders n (beta k parts))) d e)
        found (Some a) is (distinct, ends, t, lies, sign) =
            ap as_partition (alcove_found n t b h f d sum)
            ∙ ap₂ (λ (l : List ℕ) (z : ℤ). let term : List ℕ × ℤ = (l, z) in Some term) label sign_is
            ∙ ap (λ m. Some (lifted_label k n (m, end_of k n parts), end_sign k n parts)) powers
            ∙ sym (ap (lifted_result k n) (narrow k n parts few))
          where
            u : List ℕ
            u = map (up n t) (beta k parts)

            sorts : sorted_falling (map (up n t) (beta k parts)) ≡ a.0
            sorts =
                ap sorted_falling (sym (ups_of_remainders n t (beta k parts) h))
                ∙ sym (sorted-map-sorted (up n t) (remainders n (beta k parts)))
                ∙ ap (λ l. sorted_falling (map (up n t) l)) (sym ends.alike)
                ∙ sorted-map-sorted (up n t) (remainders n a.0)
                ∙ ap sorted_falling (window_back n t a.0 h lies)
                ∙ sorted-falling a.0 (strict_falls a.0 ends.strict)

            sum : size (map (up n t) (beta k parts)) ≡ size (beta k parts)
            sum = sym (size-sorted (map (up n t) (beta k parts))) ∙ ap size sorts ∙ ends.sum

            w : IsLifted k n (beta k parts) (map (up n t) (beta k parts))
            w = windows_lifted k n t (beta k parts) h long d

            powers : w.power ≡ power_of k n parts
            powers =
                let cells = goes_cells k n parts (end_of k n parts) (end_sign k n parts) (power_of k n parts) (goes_to_end k n parts h p.partition p.few) in
                let own = size-beta k parts p.partition p.few in
                let ends_size : size (end_of k n parts) ≡ size (from_beta (sorted_falling (remainders n (beta k parts)))) = ap size end in
                let last = size-from_beta (sorted_falling (remainders n (beta k parts))) strict in
                let rho : size (staircase (length (sorted_falling (remainders n (beta k parts))))) ≡ size (staircase k) = ap (λ m. size (staircase m)) short in
                let same_size = size-sorted (remainders n (beta k parts)) in
                let lift = w.sum in
                let kept_sum = sum in
                same_multiple n w.power (power_of k n parts) h (omega arith)

            label : from_beta (sorted_falling (map (up n t) (beta k parts))) ≡ lifted_label k n (w.power, end_of k n parts)
            label =
                ap from_beta w.sorts
                ∙ ap (λ l. from_beta (lifted n w.power l)) (sym (ap (λ m. beta m (from_beta (sorted_falling (remainders n (beta k parts))))) (sym short) ∙ beta-from_beta (sorted_falling (remainders n (beta k parts))) strict))
                ∙ ap (λ l. from_beta (lifted n w.power (beta k l))) (sym end)

            sign_is : sorting_sign (map (up n t) (beta k parts)) ≡ end_sign k n parts
            sign_is =
                let swap : w.power * (k + 1) + rising_pairs (remainders n (beta k parts)) ≡ rising_pairs (remainders n (beta k parts)) + w.power * (k + 1) = omega arith in
                same_sign (rising_pairs (map (up n t) (beta k parts))) (rising_pairs (remainders n (beta k parts)) + w.power * (k + 1)) w.parity
                ∙ ap minus_one_to (sym swap)
                ∙ ap₂ (λ m l. minus_one_to (m * (k + 1) + rising_pairs l)) powers (sym low)

-- ---- the fusion product of some partitions

lifted_terms : (k n : ℕ) (terms : WholeTerms) → 1 ≤ n → k ≤ n → HaveLabels (λ shape. IsPartition shape × (rows shape ≤ k)) terms
    → reflected_terms k n terms ≡ all_lifted k n (reduced_terms terms (reductions_of k n terms))
lifted_terms k n [] h g p = refl
lifted_terms k n (t ∷ terms) h g p =
    let q = p t (inl refl) in
    ap₂ ◌++◌ (ap (reflected_term t.1) (lifted_reduction k n t.0 h g (record { partition = q.0; few = q.1 }))) (lifted_terms k n terms h g (λ u m. p u (inr m)))
    ∙ by (reduction_by_remainders k n t.0)
  where
    by : (r : Reduction) → reflected_term t.1 (lifted_result k n r) ++ all_lifted k n (reduced_terms terms (reductions_of k n terms)) ≡ all_lifted k n (reduced_terms (t ∷ terms) (r ∷ reductions_of k n terms))
    by None = refl
    by (Some a) = refl

-- the law `fusion_lifting_law`
pub fusion_lifted : (k n : ℕ) (factors : List (List ℕ)) → 1 ≤ n → k ≤ n → reflected_terms k n (classical_product k factors) ≡ all_lifted k n (reduced_product k n factors)
fusion_lifted k n factors h g = lifted_terms k n (classical_product k factors) h g (classical_labels k factors)
