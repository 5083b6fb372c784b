-- A list of beta sets with coefficients c denotes the sum of c·s_λ, for λ the partition of the set. Moves of beads, that is, of numbers of the sets,
-- multiply this sum by h_k or e_k (specs/FamilyShapes).
--     strips_over, strips_within     the product of the Schur polynomial of one set and h_k or e_k
--     list_times                     the product of a list and g, from the products of g and the Schur polynomials of the sets of the list
--     shapes_of_one                  the list of the empty partition, whose polynomial is 1
--     shapes_expansion               if the list denotes f (`AreShapesOf`), the partitions of its sets, with the coefficients, expand f in s
use Rattle.std.proofs.Common.{◌≡◌, ℕ, zero, suc, true, ◌+◌, ◌-◌, ◌*◌, ◌^◌, ◌<◌, ◌≤◌, ◌++◌, List, [], ◌∷◌, map, length, take, get_or, refl, sym, ap, ap₂, ◌∙◌, subst, arith, ℤ, pos, ◌+ℤ◌, ◌*ℤ◌, flat_map, rules}
use Rattle.std.specs.Prelude.{nat_eq, nat_abs}
use Rattle.std.proofs.lemmas.Int.{ints}
use Rattle.sym_model.specs.Sum.{Among, Once}
use Rattle.sym_model.specs.Partition.{IsPartition, part, size}
use Rattle.sym_model.specs.Polynomial.{Poly, Same, join, pair, times, one, coefficient}
use Rattle.sym_model.specs.Schur.{schur}
use Rattle.sym_model.specs.Bases.{product_over}
use Rattle.std.proofs.Math.Nat.{mul-le-mul_right}
use Rattle.std.proofs.lemmas.Nat.{pow-add}
use Rattle.sym_model.proofs.PolynomialLaws.{times_assoc, times_comm}
use Rattle.linear_combinations.proofs.Weighed.{gains_mass}
use Rattle.sym_model.proofs.Parts.{size-append, get_or-le-size}
use Rattle.sym_model.specs.BetaList.{from_beta, less_the_rest}
use Rattle.sym_model.specs.Expansion.{Basis, Terms, denominators, value_by, IsExpansionOf}
use Rattle.sym_model.specs.WholeTerms.{WholeTermsOf, combined}
use Rattle.sym_model.proofs.Sums.{total_ext, total_among, total_map, Among-map, Among_from_map, Once-map}
use Rattle.sym_model.proofs.Polynomials.{pair_ext, pair_determined, pair_times, times_respects, pair_total, pair_factor, at_only, coefficient_pair, coefficient_scale}
use Rattle.sym_model.proofs.WholeTerms.{pair_of_combined}
use Rattle.sym_model.proofs.SortedParts.{rows_within_size}
use Rattle.beta_list_laws.specs.StrictFall.{FallsStrictly}
use Rattle.beta_list_laws.proofs.BetaLists.{from_beta_partition, part-from_beta}
use Rattle.monomial_laws.proofs.DividedTerms.{value-divided}
use Rattle.product_laws.specs.StripLists.{ListsEach}
use Rattle.product_laws.proofs.Pieri.{horizontal, vertical}
use Rattle.linear_combinations.specs.Gains.{Gains, Overflows, over, mass, each_by, replaced, HaveLabels}
use Rattle.linear_combinations.proofs.Gains.{replaced_over}
use Rattle.linear_combinations.proofs.Masses.{labels_gained, labels_replaced, mass_replaced, overflow_mass}
use Rattle.linear_combinations.specs.Entries.{IsCombination}
use Rattle.fraction_laws.specs.Fractions.{whole}
use Rattle.std.specs.Cmp.{nat_eq_equiv}
use Rattle.beta_sets.specs.BetaSets.{numbers, places, shape, shapes, set_of, IsInRows}
use Rattle.linear_combinations.proofs.Labels.{same_number}
use Rattle.beta_sets.proofs.SetNumbers.{set_of-numbers, beads_of}
use Rattle.beta_sets.proofs.GreatestPlaces.{places_strict}
use Rattle.beta_sets.proofs.ShapeSums.{over-shapes, one_label}
use Rattle.sparse_polys.specs.Tables.{IsFractionTable}
use Rattle.sparse_polys.proofs.Quotients.{Quotients, IsDivided-quotients}
use Rattle.strip_rules.specs.declared.bead_strips.Strip.{Strip}
use Rattle.strip_rules.specs.declared.bead_strips.Strip.TheVariants.{Horizontal, Vertical}
use Rattle.strip_rules.specs.BeadMoves.{first_bound, strips}
use Rattle.strip_rules.specs.FamilyShapes.{polynomial_by, AreShapesOf}
use Rattle.strip_rules.proofs.BeadLists.{AreMoved, FallsBelow, falls_wider, less_than_first, length-moved, moved_falls, numbers-set_of, set_of-less}
use Rattle.strip_rules.proofs.CellMoves.{IsMadeOf, all_inside, among-cells, cells-tell, few_cells, forget_bound, low_falls, once_cells}
use Rattle.strip_rules.proofs.BeadShapes.{AddsStrip, strip_lists}
use Rattle.strip_rules.proofs.TermProducts.{strips_value}
use lib.IntN.{+ℤ_idl}
use Rattle.sym_model.proofs.Contents.{map-zeros}

-- ---- the product of the Schur polynomial of one set and h_k or e_k

pub shape_partition : (set : ℕ) → IsPartition (shape set)
shape_partition set = from_beta_partition (numbers set) (places_strict 64 set)

-- if a beta set has n numbers, and its partition has at most d cells, then its code, the sum of 2^b over its numbers b, is below 2^(n + d)
pub rows_low : (n d set : ℕ) → IsInRows n d set → set < 2 ^ (n + d)
rows_low n d set r = subst (λ s. s < 2 ^ (n + d)) (set_of-numbers set r.word) (set_of-less (n + d) (numbers set) (by (numbers set) refl (places_strict 64 set)))
  where
    by : (l : List ℕ) → numbers set ≡ l → FallsStrictly l → FallsBelow (n + d) l
    by [] e f = tt
    by (b ∷ rest) e f =
        let long = ap length e in
        let rows = r.rows in
        let cells = r.cells in
        let first = part-from_beta (numbers set) 1 ∙ ap (λ m. part (less_the_rest m) 1) e in
        let within = get_or-le-size (shape set) (1 - 1) in
        (omega arith, less_than_first b rest f)

module _ (strip : Strip) (k set : ℕ) (low : k ≤ 20) (within : IsInRows 20 (20 - k) set) where
  set_low : set < 2 ^ (40 - k)
  set_low = let l = rows_low 20 (20 - k) set within in subst (λ m. set < 2 ^ m) (let e : 20 + (20 - k) ≡ 40 - k = omega arith in e) l

  abbrev lists : List (List ℕ)
  lists = map numbers (strips strip k set)

  tells : (new : ℕ) → Among new (strips strip k set) → IsMadeOf strip (first_bound strip) k set new
  tells new i = cells-tell strip k (first_bound strip) (40 - k) set new (omega arith) set_low i

  list_tells : (m : List ℕ) → Among m lists → AreMoved strip 64 (numbers set) m × (size m ≡ size (numbers set) + k)
  list_tells m i =
      let f = Among_from_map numbers m (strips strip k set) i in
      let t = tells f.0 f.1 in
      subst (λ (l : List ℕ). AreMoved strip 64 (numbers set) l × (size l ≡ size (numbers set) + k)) (sym f.2)
      (forget_bound strip (first_bound strip) 64 (numbers set) (numbers f.0) t.moved, t.more)

  list_made : (m : List ℕ) → AreMoved strip 64 (numbers set) m → size m ≡ size (numbers set) + k → Among m lists
  list_made m a e =
      let falls = falls_wider (40 - k) 63 (numbers set) (omega arith) (low_falls (40 - k) set (omega arith) set_low) in
      let i = among-cells strip k (first_bound strip) (40 - k) set m (omega arith) set_low (all_inside strip 64 (numbers set) m falls a) e in
      subst (λ (l : List ℕ). Among l lists) (numbers-set_of m (moved_falls strip 64 (numbers set) m a)) (Among-map numbers (set_of m) (strips strip k set) i)

  once_lists : Once lists
  once_lists =
      Once-map numbers (strips strip k set)
      (λ x y i j e. sym (set_of-numbers x (tells x i).word) ∙ ap set_of e ∙ set_of-numbers y (tells y j).word)
      (once_cells strip k (first_bound strip) (40 - k) set (omega arith) set_low)

  each : ListsEach (AddsStrip strip k (shape set)) (map from_beta lists)
  each =
      let p = shape_partition set in
      let c = within.cells in
      let r = rows_within_size (shape set) p.positive in
      let e = beads_of 20 set within.rows in
      strip_lists 20 k 64 (shape set) p (omega arith) (omega arith) strip lists once_lists
      (λ m i. subst (λ (b : List ℕ). AreMoved strip 64 b m × (size m ≡ size b + k)) (sym e) (list_tells m i))
      (λ m a s. list_made m (subst (λ (b : List ℕ). AreMoved strip 64 b m) e a) (s ∙ ap (λ (b : List ℕ). size b + k) e))

  same_poly : (s : Strip) (n : ℕ) (list : List (List ℕ)) → ListsEach (AddsStrip s k (shape set)) list → Same (times (polynomial_by s k n) (schur (shape set) n)) (flat_map (λ ν. schur ν n) list)
  same_poly Horizontal n list l = horizontal n k (shape set) list (shape_partition set) l
  same_poly Vertical n list l = vertical n k (shape set) list (shape_partition set) l

  pub strips_over : (n : ℕ) (φ : List ℕ → ℤ) → over (λ s. pair (schur (shape s) n) φ) (each_by (λ s. pos 1) (strips strip k set)) ≡ pair (times (polynomial_by strip k n) (schur (shape set) n)) φ
  strips_over n φ =
      total_map (λ (t : ℕ × ℤ). t.1 *ℤ pair (schur (shape t.0) n) φ) (λ (s : ℕ). (s, pos 1)) (strips strip k set)
      ∙ sym (total_map (λ (m : List ℕ). pos 1 *ℤ pair (schur (from_beta m) n) φ) numbers (strips strip k set))
      ∙ sym (total_map (λ (ν : List ℕ). pos 1 *ℤ pair (schur ν n) φ) from_beta lists)
      ∙ strips_value (polynomial_by strip k n) n (shape set) (map from_beta lists) φ (same_poly strip n (map from_beta lists) each)

  cells_of : (s : Strip) (ν : List ℕ) → AddsStrip s k (shape set) ν → size ν ≡ size (shape set) + k
  cells_of Horizontal ν a = a.1
  cells_of Vertical ν a = a.1

  pub strips_within : (d : ℕ) → size (shape set) ≤ d → HaveLabels (IsInRows 20 (d + k)) (each_by (λ s. pos 1) (strips strip k set))
  strips_within d h t i =
      let a = Among_from_map (λ (s : ℕ). (s, pos 1)) t (strips strip k set) i in
      let told = tells a.0 a.1 in
      let is : t.0 ≡ a.0 = ap (λ (u : ℕ × ℤ). u.0) a.2 in
      let long = length-moved strip 64 (numbers set) (numbers a.0) (forget_bound strip (first_bound strip) 64 (numbers set) (numbers a.0) told.moved) in
      let cells = cells_of strip (shape a.0) ((each.members (shape a.0)).0 (Among-map from_beta (numbers a.0) lists (Among-map numbers a.0 (strips strip k set) a.1))) in
      subst (IsInRows 20 (d + k)) (sym is)
      (record {
        word = told.word;
        rows = long ∙ within.rows;
        cells = omega arith;
      })

  pub strips_few : mass (each_by (λ s. pos 1) (strips strip k set)) ≤ 20 ^ k
  strips_few =
      let f = few_cells strip k (first_bound strip) (40 - k) set (omega arith) set_low within.rows in
      let e = mass_ones (strips strip k set) in
      omega arith
    where
      mass_ones : (xs : List ℕ) → mass (each_by (λ (s : ℕ). pos 1) xs) ≡ length xs
      mass_ones [] = refl
      mass_ones (x ∷ xs) = let r = mass_ones xs in omega arith

-- ---- the product of a list and a polynomial g, from the products of g and the Schur polynomials of the sets

module _ (g : ℕ → Poly) (f : ℕ → Poly) (image : ℕ → WholeTermsOf ℕ) (list sum : WholeTermsOf ℕ) (gains : Gains [] (replaced image list) sum)
    (here : (n : ℕ) (φ : List ℕ → ℤ) → over (λ s. pair (schur (shape s) n) φ) list ≡ pair (f n) φ)
    (each : (t : ℕ × ℤ) → Among t list → (n : ℕ) (φ : List ℕ → ℤ) → over (λ s. pair (schur (shape s) n) φ) (image t.0) ≡ pair (times (g n) (schur (shape t.0) n)) φ) where
  pub list_times : (n : ℕ) (φ : List ℕ → ℤ) → over (λ s. pair (schur (shape s) n) φ) sum ≡ pair (times (g n) (f n)) φ
  list_times n φ =
      gains.sums (λ s. pair (schur (shape s) n) φ)
      ∙ +ℤ_idl (over (λ s. pair (schur (shape s) n) φ) (replaced image list))
      ∙ replaced_over image (λ s. pair (schur (shape s) n) φ) list
      ∙ total_among (λ (t : ℕ × ℤ). t.1 *ℤ over (λ s. pair (schur (shape s) n) φ) (image t.0)) (λ (t : ℕ × ℤ). t.1 *ℤ pair (times (g n) (schur (shape t.0) n)) φ) list
      (λ t m. ap (λ z. t.1 *ℤ z) (each t m n φ))
      ∙ total_ext (λ (t : ℕ × ℤ). t.1 *ℤ pair (times (g n) (schur (shape t.0) n)) φ) (λ (t : ℕ × ℤ). pair (g n) (λ α. t.1 *ℤ pair (schur (shape t.0) n) (λ β. φ (join α β))))
      (λ t.
      ap (λ z. t.1 *ℤ z) (pair_times (g n) (schur (shape t.0) n) φ)
      ∙ sym (pair_factor t.1 (g n) (λ α. pair (schur (shape t.0) n) (λ β. φ (join α β))))) list
      ∙ sym (pair_total (g n) (λ (t : ℕ × ℤ) (α : List ℕ). t.1 *ℤ pair (schur (shape t.0) n) (λ β. φ (join α β))) list)
      ∙ pair_ext (g n) (λ α. over (λ s. pair (schur (shape s) n) (λ β. φ (join α β))) list) (λ α. pair (f n) (λ β. φ (join α β))) (λ α. here n (λ β. φ (join α β)))
      ∙ sym (pair_times (g n) (f n) φ)

pub schur-nothing : (n : ℕ) → schur [] n ≡ one n
schur-nothing n = ap (λ (l : List ℕ). (l, pos 1) ∷ []) (map-zeros 0 n)

in_twenty_rows : (length (numbers (2 ^ 20 - 1)) ≡ 20) × (shape (2 ^ 20 - 1) ≡ [])
unfolding places
in_twenty_rows = (refl, refl)

pub shapes_of_one : (set : ℕ) (c : ℤ) (sum : WholeTermsOf ℕ) → set + 1 ≡ 2 ^ 20 → c ≡ pos 1 → IsCombination nat_eq (λ s. true) whole sum → Gains [] ((set, c) ∷ []) sum → AreShapesOf one 0 sum
shapes_of_one set c sum e f is gains = record {
  value = λ n φ.
      gains.sums (λ s. pair (schur (shape s) n) φ)
      ∙ ap₂ (λ (s : ℕ) (z : ℤ). pos 0 +ℤ (z *ℤ pair (schur (shape s) n) φ +ℤ pos 0)) here f
      ∙ alone (pair (schur (shape (2 ^ 20 - 1)) n) φ)
      ∙ ap (λ g. pair g φ) (ap (λ l. schur l n) in_twenty_rows.1 ∙ schur-nothing n);
  within =
      labels_gained nat_eq_equiv same_number [] ((set, c) ∷ []) sum is gains (IsInRows 20 0) (λ t m. absurd m)
      (one_label (IsInRows 20 0) set c
      (subst (IsInRows 20 0) (sym here)
      (record { word = omega arith; rows = in_twenty_rows.0; cells = let z = ap size in_twenty_rows.1 in omega arith })));
  few =
      let m = gains_mass same_number nat_eq_equiv [] ((set, c) ∷ []) sum is gains in
      let a = ap nat_abs f in
      let p : 20 ^ 0 ≡ 1 = omega arith in
      omega arith;
}
  where
    here : set ≡ 2 ^ 20 - 1
    here = omega arith

    alone : (x : ℤ) → pos 0 +ℤ (pos 1 *ℤ x +ℤ pos 0) ≡ x
    alone x = omega (arith, ints)

pub shapes_expansion : (f : ℕ → Poly) (d : ℕ) (list : WholeTermsOf ℕ) (answer : Terms (List ℕ)) → AreShapesOf f d list → IsFractionTable answer → Quotients 1 answer (shapes list)
    → (n : ℕ) → IsExpansionOf Basis.schurs answer n (f n) 1
shapes_expansion f d list answer are is quotients n =
    let D = IsDivided-quotients 1 (shapes list) answer (omega arith) is quotients in
    record {
      positive = D.positive;
      equal = λ α.
          coefficient_scale (pos 1) (value_by (λ label. schur label n) answer) α
          ∙ value-divided (λ label. schur label n) 1 (shapes list) answer D α
          ∙ ap (λ z. pos (denominators answer) *ℤ z) (same α)
          ∙ sym (coefficient_scale (pos (denominators answer)) (f n) α);
    }
  where
    same : (α : List ℕ) → coefficient (combined (λ label. schur label n) (shapes list)) α ≡ coefficient (f n) α
    same α =
        coefficient_pair (combined (λ label. schur label n) (shapes list)) α
        ∙ pair_of_combined (λ label. schur label n) (shapes list) (at_only α)
        ∙ over-shapes (λ label. pair (schur label n) (at_only α)) list
        ∙ are.value n (at_only α)
        ∙ sym (coefficient_pair (f n) α)

-- ---- the product of a list and h_k or e_k never overflows

pub strips_mass : (strip : Strip) (k : ℕ) (list : WholeTermsOf ℕ) → k ≤ 20 → HaveLabels (IsInRows 20 (20 - k)) list → mass (replaced (λ set. each_by (λ s. pos 1) (strips strip k set)) list) ≤ mass list * 20 ^ k
strips_mass strip k list low within =
    mass_replaced (λ set. each_by (λ s. pos 1) (strips strip k set)) (20 ^ k) list (λ t m. strips_few strip k t.0 low (within t m))

-- let k ≤ 20, let the sets of a list have 20 numbers and partitions of at most 20 - k cells, and let the absolute values of its coefficients add up
-- to at most 20^(20 - k). Then adding strips of k cells to the sets never overflows
pub strips_fit : (strip : Strip) (k : ℕ) (list : WholeTermsOf ℕ) → k ≤ 20 → HaveLabels (IsInRows 20 (20 - k)) list → mass list ≤ 20 ^ (20 - k) → Overflows nat_eq [] (replaced (λ set. each_by (λ s. pos 1) (strips strip k set)) list) → ⊥
strips_fit strip k list low within few o =
    let l = overflow_mass nat_eq [] (replaced (λ set. each_by (λ s. pos 1) (strips strip k set)) list) o in
    let r = strips_mass strip k list low within in
    let f = mul-le-mul_right (20 ^ k) few in
    let p = sym (pow-add 20 (20 - k) k) ∙ ap (λ n. 20 ^ n) (let e : 20 - k + k ≡ 20 = omega arith in e) in
    omega arith

pub strip_times : (strip : Strip) (k d : ℕ) (f : ℕ → Poly) (list sum : WholeTermsOf ℕ) → d + k ≤ 20 → AreShapesOf f d list → HaveLabels (IsInRows 20 (20 - k)) list
    → IsCombination nat_eq (λ s. true) whole sum → Gains [] (replaced (λ set. each_by (λ s. pos 1) (strips strip k set)) list) sum
    → AreShapesOf (λ n. times (polynomial_by strip k n) (f n)) (d + k) sum
strip_times strip k d f list sum low are within is gains = record {
  value = list_times (polynomial_by strip k) f (λ set. each_by (λ s. pos 1) (strips strip k set)) list sum gains are.value (λ t m n φ. strips_over strip k t.0 (omega arith) (within t m) n φ);
  within =
      labels_gained nat_eq_equiv same_number [] (replaced (λ set. each_by (λ s. pos 1) (strips strip k set)) list) sum is gains (IsInRows 20 (d + k)) (λ t m. absurd m)
      (labels_replaced (λ set. each_by (λ s. pos 1) (strips strip k set)) (IsInRows 20 (d + k)) list
      (λ t m. strips_within strip k t.0 (omega arith) (within t m) d (are.within t m).cells));
  few =
      let m = gains_mass same_number nat_eq_equiv [] (replaced (λ set. each_by (λ s. pos 1) (strips strip k set)) list) sum is gains in
      let r = strips_mass strip k list (omega arith) within in
      let f = mul-le-mul_right (20 ^ k) are.few in
      let p = sym (pow-add 20 d k) in
      omega arith;
}

pub room_left : (d k : ℕ) (list : WholeTermsOf ℕ) → d + k ≤ 20 → HaveLabels (IsInRows 20 d) list → HaveLabels (IsInRows 20 (20 - k)) list
room_left d k list l w t m = let is = w t m in let c = is.cells in record { word = is.word; rows = is.rows; cells = omega arith }

pub product_last : (P : ℕ → ℕ → Poly) (k : ℕ) (rest : List ℕ) (n : ℕ) (φ : List ℕ → ℤ) → pair (times (P k n) (product_over P rest n)) φ ≡ pair (product_over P (rest ++ k ∷ []) n) φ
product_last P k [] n φ = refl
product_last P k (a ∷ rest) n φ =
    let f = P k n in
    let g = P a n in
    let r = product_over P rest n in
    sym (pair_determined (times (times f g) r) (times f (times g r)) φ (times_assoc f g r))
    ∙ pair_determined (times (times f g) r) (times (times g f) r) φ (times_respects (times f g) (times g f) r r (times_comm f g) (λ α. refl))
    ∙ pair_determined (times (times g f) r) (times g (times f r)) φ (times_assoc g f r)
    ∙ pair_times g (times f r) φ
    ∙ pair_ext g (λ α. pair (times f r) (λ β. φ (join α β))) (λ α. pair (product_over P (rest ++ k ∷ []) n) (λ β. φ (join α β))) (λ α. product_last P k rest n (λ β. φ (join α β)))
    ∙ sym (pair_times g (product_over P (rest ++ k ∷ []) n) φ)

pub more_parts : (P : ℕ → ℕ → Poly) (k : ℕ) (rest parts : List ℕ) (list : WholeTermsOf ℕ) → rest ++ k ∷ [] ≡ parts → AreShapesOf (λ n. times (P k n) (product_over P rest n)) (size rest + k) list → AreShapesOf (product_over P parts) (size parts) list
more_parts P k rest parts list split are = search (rules, product_last, size-append)

pub in_twenty : (d : ℕ) (list : WholeTermsOf ℕ) → d ≤ 20 → HaveLabels (IsInRows 20 d) list → HaveLabels (IsInRows 20 20) list
in_twenty d list l w t m = let is = w t m in let c = is.cells in record { word = is.word; rows = is.rows; cells = omega arith }

pub split_last : (n : ℕ) (parts : List ℕ) → length parts ≡ suc n → take n parts ++ get_or parts n 0 ∷ [] ≡ parts
split_last n [] e = absurd (omega arith)
split_last zero (k ∷ []) e = refl
split_last zero (k ∷ l ∷ parts) e = absurd (omega arith)
split_last (suc n) (k ∷ parts) e = ap (λ (l : List ℕ). k ∷ l) (split_last n parts (omega arith))

pub parts_sum : (parts : List ℕ) → 1 ≤ length parts → size (take (length parts - 1) parts) + get_or parts (length parts - 1) 0 ≡ size parts
parts_sum parts h =
    let s = ap size (split_last (length parts - 1) parts (omega arith)) in
    let e = size-append (take (length parts - 1) parts) (get_or parts (length parts - 1) 0 ∷ []) in
    omega arith
