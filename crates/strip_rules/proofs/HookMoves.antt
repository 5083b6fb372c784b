-- The beta sets that result from adding rim hooks of k cells (specs/HookMoves). There is a bead at the place b for each number b of a set, and a rim
-- hook is added by moving a bead up by k places. A list of beta sets with coefficients c denotes the sum of c·s_λ, for λ the partition of the set.
--     hooks_over, hooks_within     the product of the Schur polynomial of one set and p_k
--     hook_times                   the product of a list and p_k
use Rattle.std.proofs.Common.{◌≡◌, ◌⊎◌, ℕ, zero, suc, ◌+◌, ◌-◌, ◌*◌, ◌^◌, ◌<◌, ◌≤◌, true, false, ◌||◌, cond, List, [], ◌∷◌, ◌++◌, map, length, refl, sym, ap, ap₂, ◌∙◌, subst, inl, inr, arith, append_assoc, length-append, ℤ, ◌*ℤ◌, rules}
use Rattle.std.specs.Prelude.{nat_eq, nat_abs, not}
use Rattle.std.specs.Cmp.{nat_eq_equiv}
use Rattle.std.proofs.Math.Nat.{mul-le-mul_right, pow-le-pow_right}
use Rattle.std.proofs.lemmas.Bool.{cases_lt, lt-ltb, ne_eqb, not-true}
use Rattle.std.proofs.lemmas.Bool.Decides.{nat_tests}
use Rattle.std.proofs.lemmas.Nat.{pow-add}
use Rattle.fraction_laws.specs.Fractions.{whole}
use Rattle.sym_model.specs.Sum.{Among}
use Rattle.sym_model.specs.Bases.{has, power_sum_of, product_over}
use Rattle.sym_model.specs.BetaList.{beta, from_beta, greater}
use Rattle.sym_model.specs.Partition.{IsPartition, size}
use Rattle.sym_model.specs.PlaceOrders.{minus_one_to}
use Rattle.sym_model.specs.Polynomial.{Poly, pair, times}
use Rattle.sym_model.specs.RimHookReduction.{IsRemoval}
use Rattle.sym_model.specs.Schur.{schur}
use Rattle.sym_model.specs.Strip.{height}
use Rattle.sym_model.specs.WholeTerms.{WholeTermsOf}
use Rattle.sym_model.proofs.Sums.{total_among, total_map, Among-map, Among_from_map, Among-append_right, Among-select, Among_from_select, Once-map, Once-select}
use Rattle.sym_model.proofs.SortedParts.{rows_within_size}
use Rattle.beta_list_laws.specs.StrictFall.{FallsStrictly}
use Rattle.beta_list_laws.proofs.BetaRemovals.{before, lowered, shown_removal, shown_height}
use Rattle.beta_list_laws.proofs.BetaLowerings.{removal_as_lowered}
use Rattle.beta_list_laws.proofs.BetaLists.{beta_strict, from_beta-beta}
use Rattle.product_laws.specs.StripLists.{ListsEach, AddsRimHook}
use Rattle.linear_combinations.specs.Entries.{IsCombination}
use Rattle.linear_combinations.specs.Gains.{Gains, Overflows, over, mass, scaled, replaced, HaveLabels}
use Rattle.linear_combinations.proofs.Masses.{labels_gained, labels_replaced, mass_replaced, overflow_mass}
use Rattle.std.proofs.lemmas.List.{map-append}
use Rattle.linear_combinations.proofs.Gains.{gains_both, scaled_append, overflows_alone, overflows_both, overflows_more}
use Rattle.linear_combinations.proofs.Weighed.{gains_mass}
use Rattle.sym_model.proofs.Integers.{nat_abs-product, sign_size}
use lib.IntN.{*ℤ_comm}
use Rattle.beta_sets.specs.BetaSets.{numbers, shape, free, set_of, IsInRows, IsSplit}
use Rattle.linear_combinations.proofs.Labels.{same_number}
use Rattle.beta_sets.proofs.SetNumbers.{set_of-numbers, same_shape, beads_of}
use Rattle.strip_rules.specs.FamilyShapes.{AreShapesOf}
use Rattle.strip_rules.specs.HookMoves.{passed, hook_from, hooks}
use Rattle.strip_rules.proofs.BeadLists.{FallsBelow, falls_below, falls_wider, falls_strictly, set_of-less, numbers-set_of}
use Rattle.strip_rules.proofs.CellMoves.{among_sum, past_all, low_falls, place_low, power_within, member_below, once_falls}
use Rattle.strip_rules.proofs.BeadSums.{rows_low, shape_partition, list_times}
use Rattle.strip_rules.proofs.ShapeLists.{IsAround, rows_around}
use Rattle.strip_rules.proofs.TermProducts.{hooks_value}
use Rattle.sym_model.proofs.Lists.{length-filter-within}
use native.Mathlib.Nat.{eq_of_mul-eq-mul_right}

greater_none : (a limit : ℕ) (beads : List ℕ) → FallsBelow limit beads → limit ≤ a + 1 → greater a beads ≡ 0
greater_none a limit [] f l = refl
greater_none a limit (x ∷ beads) f l = search (rules, nat_tests, (greater_none a x beads f.1 (omega arith)))

greater_more : (a x : ℕ) (beads : List ℕ) → a < x → greater a (x ∷ beads) ≡ 1 + greater a beads
greater_more a x beads l = ap (λ t. cond {A = ℕ} t 1 0 + greater a beads) (lt-ltb a x l)

-- the strictly decreasing list of beads is split at its bead b: `middle` are the beads above b, and `back` those below b
record IsCut (limit b : ℕ) (beads : List ℕ) : Type 0 where
  middle : List ℕ
  back : List ℕ
  is : beads ≡ middle ++ b ∷ back
  falls : FallsBelow limit (middle ++ back)
  count : length middle ≡ greater b beads

cut : (limit b : ℕ) (beads : List ℕ) → FallsBelow limit beads → Among b beads → IsCut limit b beads
cut limit b [] f m = absurd m
cut limit b (x ∷ beads) f (inl e) = record {
  middle = [];
  back = beads;
  is = ap (λ y. y ∷ beads) (sym e);
  falls = falls_wider x limit beads (let l = f.0 in omega arith) f.1;
  count = sym (greater_none b (x + 1) (x ∷ beads) (omega arith, f.1) (omega arith));
}
cut limit b (x ∷ beads) f (inr m) =
    let r = cut x b beads f.1 m in
    let l = member_below x b beads f.1 m in
    record {
      middle = x ∷ r.middle;
      back = r.back;
      is = ap (λ (xs : List ℕ). x ∷ xs) r.is;
      falls = (f.0, r.falls);
      count = ap suc r.count ∙ (let e : suc (greater b beads) ≡ 1 + greater b beads = omega arith in e) ∙ sym (greater_more b x beads l);
    }

-- the strictly decreasing list of beads is split at its bead b and at a place c above b: `front` are the beads above c, `middle` those between c and
-- b, and `back` those below b
record IsDivided (limit b c : ℕ) (beads : List ℕ) : Type 0 where
  front : List ℕ
  middle : List ℕ
  back : List ℕ
  is : beads ≡ lowered b front middle back
  falls : FallsBelow limit (front ++ (c ∷ (middle ++ back)))
  count : length middle + greater c beads ≡ greater b beads

has_later : (a x : ℕ) (beads : List ℕ) → has a (x ∷ beads) ≡ false → (has a beads ≡ false) × (x ≡ a → ⊥)
has_later a x beads e = search rules

divide : (limit b c : ℕ) (beads : List ℕ) → FallsBelow limit beads → Among b beads → has c beads ≡ false → b < c → c < limit → IsDivided limit b c beads
divide limit b c [] f m h l k = absurd m
divide limit b c (x ∷ beads) f m h l k = by (has_later c x beads h) (λ i n g. divide x b c beads f.1 i n l g) (cases_lt c x) m
  where
    below : x < c → IsDivided limit b c (x ∷ beads)
    below g =
        let r = cut c b (x ∷ beads) (g, f.1) m in
        record {
          front = [];
          middle = r.middle;
          back = r.back;
          is = r.is;
          falls = (k, r.falls);
          count = (let z = greater_none c (x + 1) (x ∷ beads) (omega arith, f.1) (omega arith) in let e : length r.middle + greater c (x ∷ beads) ≡ length r.middle = omega arith in e) ∙ r.count;
        }

    above : c < x → IsDivided x b c beads → IsDivided limit b c (x ∷ beads)
    above g r = record {
      front = x ∷ r.front;
      middle = r.middle;
      back = r.back;
      is = ap (λ (xs : List ℕ). x ∷ xs) r.is;
      falls = (f.0, r.falls);
      count = let s = r.count in let p = greater_more c x beads g in let q = greater_more b x beads (omega arith) in omega arith;
    }

    by : (has c beads ≡ false) × (x ≡ c → ⊥) → (Among b beads → has c beads ≡ false → c < x → IsDivided x b c beads) → (c < x) ⊎ (x ≤ c) → Among b (x ∷ beads) → IsDivided limit b c (x ∷ beads)
    by n later (inl g) (inl e) = absurd (omega arith)
    by n later (inl g) (inr i) = above g (later i n.0 g)
    by n later (inr g) i = below (strict n.1 g (cases_lt x c))
      where
        strict : (x ≡ c → ⊥) → x ≤ c → (x < c) ⊎ (c ≤ x) → x < c
        strict n g (inl o) = o
        strict n g (inr o) = absurd (n (omega (arith, g, o)))

set_of-append : (xs ys : List ℕ) → set_of (xs ++ ys) ≡ set_of xs + set_of ys
unfolding set_of
set_of-append [] ys = omega arith
set_of-append (x ∷ xs) ys = let r = set_of-append xs ys in omega arith

set_of-front : (c : ℕ) (l : List ℕ) → set_of (c ∷ l) ≡ 2 ^ c + set_of l
unfolding set_of
set_of-front c l = refl

moved_sum : (k y set : ℕ) (front middle back : List ℕ) → set_of (lowered y front middle back) ≡ set → set_of (before k y front middle back) ≡ set - 2 ^ y + 2 ^ (y + k)
moved_sum k y set front middle back e = search (rules, set_of-append, set_of-front)

low_list : (l : List ℕ) → FallsStrictly l → set_of l < 2 ^ 64 → FallsBelow 64 l
low_list l f h = falls_below 64 l f (λ c m. by c (among_sum c l m) (cases_lt c 64))
  where
    by : (c : ℕ) → 2 ^ c ≤ set_of l → (c < 64) ⊎ (64 ≤ c) → c < 64
    by c g (inl k) = k
    by c g (inr k) = let p = power_within 64 c k in absurd (omega arith)

-- ---- lists in which a bead b has moved to a free place c above b

falls_suffix : (limit : ℕ) (front rest : List ℕ) → FallsBelow limit (front ++ rest) → (most : ℕ) × FallsBelow most rest
falls_suffix limit [] rest f = (limit, f)
falls_suffix limit (x ∷ front) rest f = falls_suffix x front rest f.1

below_both : (c limit y : ℕ) (middle back : List ℕ) → FallsBelow c (middle ++ back) → FallsBelow limit (middle ++ y ∷ back) → y < c → FallsBelow c (middle ++ y ∷ back)
below_both c limit y [] back f g l = (l, g.1)
below_both c limit y (m ∷ middle) back f g l = (f.0, g.1)

absent_front : (c limit : ℕ) (front rest l : List ℕ) → FallsBelow limit (front ++ c ∷ rest) → has c l ≡ false → has c (front ++ l) ≡ false
absent_front c limit [] rest l f h = h
absent_front c limit (x ∷ front) rest l f h =
    let k = member_below x c (front ++ c ∷ rest) f.1 (Among-append_right c front (c ∷ rest) (inl refl)) in
    ap (λ t. t || has c (front ++ l)) (ne_eqb x c (λ e. omega (arith, e, k))) ∙ absent_front c x front rest l f.1 h

free_place : (c limit most y : ℕ) (front middle back : List ℕ) → FallsBelow limit (front ++ c ∷ (middle ++ back)) → FallsBelow most (lowered y front middle back) → y < c → has c (lowered y front middle back) ≡ false
free_place c limit most y front middle back f g l = search (rules, falls_suffix, absent_front, past_all, below_both)

module _ (k set : ℕ) (one : 1 ≤ k) (low : k ≤ 20) (within : IsInRows 20 (20 - k) set) where
  set_low : set < 2 ^ (40 - k)
  set_low = let l = rows_low 20 (20 - k) set within in subst (λ m. set < 2 ^ m) (let e : 20 + (20 - k) ≡ 40 - k = omega arith in e) l

  beads_low : FallsBelow (40 - k) (numbers set)
  beads_low = low_falls (40 - k) set (omega arith) set_low

  partition : IsPartition (shape set)
  partition = shape_partition set

  free_tells : (b : ℕ) → Among b (free k (numbers set)) → Among b (numbers set) × (has (b + k) (numbers set) ≡ false)
  free_tells b i = let s = Among_from_select (λ x. not (has (x + k) (numbers set))) b (numbers set) i in (s.0, not-true (has (b + k) (numbers set)) s.1)

  module _ (b : ℕ) (i : Among b (free k (numbers set))) where
    there : Among b (numbers set)
    there = (free_tells b i).0

    place : (b < 40 - k) × (2 ^ b ≤ set)
    place = place_low (40 - k) set b (omega arith) set_low there

    divided : IsDivided 40 b (b + k) (numbers set)
    divided = let p = place.0 in divide 40 b (b + k) (numbers set) (falls_wider (40 - k) 40 (numbers set) (omega arith) beads_low) there (free_tells b i).1 (omega arith) (omega arith)

    abbrev new_list : List ℕ
    new_list = before k b divided.front divided.middle divided.back

    new_sum : set_of new_list ≡ set - 2 ^ b + 2 ^ (b + k)
    new_sum = moved_sum k b set divided.front divided.middle divided.back (sym (ap set_of divided.is) ∙ set_of-numbers set within.word)

    new_numbers : numbers (set - 2 ^ b + 2 ^ (b + k)) ≡ new_list
    new_numbers = ap numbers (sym new_sum) ∙ numbers-set_of new_list (falls_wider 40 64 new_list (omega arith) divided.falls)

    new_word : set - 2 ^ b + 2 ^ (b + k) < 2 ^ 64
    new_word = let l = set_of-less 40 new_list divided.falls in let p = power_within 40 64 (omega arith) in let e = new_sum in omega arith

    old_strict : FallsStrictly (lowered b divided.front divided.middle divided.back)
    old_strict = subst FallsStrictly divided.is (falls_strictly (40 - k) (numbers set) beads_low)

    new_strict : FallsStrictly new_list
    new_strict = falls_strictly 40 new_list divided.falls

    new_shape : shape (set - 2 ^ b + 2 ^ (b + k)) ≡ from_beta new_list
    new_shape = ap from_beta new_numbers

    removal : IsRemoval k (shape (set - 2 ^ b + 2 ^ (b + k))) (shape set)
    removal =
        let d = divided in
        subst (λ μ. IsRemoval k (shape (set - 2 ^ b + 2 ^ (b + k))) μ) (sym (ap from_beta d.is))
        (subst (λ ν. IsRemoval k ν (from_beta (lowered b d.front d.middle d.back))) (sym new_shape)
        (shown_removal k b d.front d.middle d.back one new_strict old_strict))

    heights : height (shape (set - 2 ^ b + 2 ^ (b + k))) (shape set) ≡ passed k set b + 1
    heights = search (rules, divided, new_shape, shown_height, new_strict, old_strict)

    adds : AddsRimHook k (shape set) (shape (set - 2 ^ b + 2 ^ (b + k)))
    adds = (shape_partition (set - 2 ^ b + 2 ^ (b + k)), removal.cells, removal.hook)

    new_rows : IsInRows 20 20 (set - 2 ^ b + 2 ^ (b + k))
    new_rows = record {
      word = new_word;
      rows =
          let d = divided in
          let e = ap length new_numbers in
          let f = ap length d.is in
          let g = length-append d.front ((b + k) ∷ (d.middle ++ d.back)) in
          let h = length-append d.front (d.middle ++ b ∷ d.back) in
          let p = length-append d.middle d.back in
          let q = length-append d.middle (b ∷ d.back) in
          let r = within.rows in
          omega arith;
      cells = let c = removal.cells in let w = within.cells in omega arith;
    }

  abbrev shapes_of : List (List ℕ)
  shapes_of = map (λ b. shape (set - 2 ^ b + 2 ^ (b + k))) (free k (numbers set))

  same_place : (b d : ℕ) → Among b (free k (numbers set)) → Among d (free k (numbers set)) → shape (set - 2 ^ b + 2 ^ (b + k)) ≡ shape (set - 2 ^ d + 2 ^ (d + k)) → b ≡ d
  same_place b d i j e =
      let s = same_shape 20 20 (set - 2 ^ b + 2 ^ (b + k)) (set - 2 ^ d + 2 ^ (d + k)) (new_rows b i) (new_rows d j) e in
      let p = (place b i).1 in
      let q = (place d j).1 in
      let u = pow-add 2 b k in
      let v = pow-add 2 d k in
      let w = power_within 1 k one in
      by (eq_of_mul-eq-mul_right (2 ^ k - 1) (omega arith) (2 ^ b) (2 ^ d) (spread (2 ^ b) (2 ^ d) (2 ^ k) (omega arith) (omega arith))) (cases_lt b d) (cases_lt d b)
    where
      spread : (x y z : ℕ) → 1 ≤ z → x * z + y ≡ y * z + x → x * (z - 1) ≡ y * (z - 1)
      spread x y z l e =
          let a : x * z ≡ x * (z - 1) + x = part x z l in
          let c : y * z ≡ y * (z - 1) + y = part y z l in
          omega arith
        where
          part : (x z : ℕ) → 1 ≤ z → x * z ≡ x * (z - 1) + x
          part x zero l = absurd (omega arith)
          part x (suc z) l = ap (λ a. x * a) (let e : suc z ≡ (suc z - 1) + 1 = omega arith in e) ∙ (let e : x * ((suc z - 1) + 1) ≡ x * (suc z - 1) + x = omega arith in e)

      by : 2 ^ b ≡ 2 ^ d → (b < d) ⊎ (d ≤ b) → (d < b) ⊎ (b ≤ d) → b ≡ d
      by e (inl l) o = let p = power_within (suc b) d l in let q : 2 ^ suc b ≡ 2 * 2 ^ b = omega arith in let r = power_within 0 b (omega arith) in absurd (omega arith)
      by e (inr l) (inl o) = let p = power_within (suc d) b o in let q : 2 ^ suc d ≡ 2 * 2 ^ d = omega arith in let r = power_within 0 d (omega arith) in absurd (omega arith)
      by e (inr l) (inr o) = omega arith

  made : (ν : List ℕ) → AddsRimHook k (shape set) ν → Among ν shapes_of
  made ν a =
      let around : IsAround k (shape set) ν = record { partition = a.0; cells = a.1; holds = a.2.holds } in
      let rows_fit = rows_around k (shape set) ν partition around in
      let old = rows_within_size (shape set) partition.positive in
      let c = within.cells in
      let removed : IsRemoval k ν (shape set) = record { partition = partition; hook = a.2; cells = a.1 } in
      let r = removal_as_lowered 20 k ν (shape set) a.0 (omega arith) removed in
      found r.0 r.1 r.2 r.3 (from_beta-beta 20 ν a.0 (omega arith)) r.4 (sym (beads_of 20 set within.rows) ∙ r.5)
    where
      found : (y : ℕ) (front middle back : List ℕ) → from_beta (beta 20 ν) ≡ ν → beta 20 ν ≡ before k y front middle back → numbers set ≡ lowered y front middle back → Among ν shapes_of
      found y front middle back back_again from is =
          let there = subst (Among y) (sym is) (Among-append_right y front (middle ++ y ∷ back) (Among-append_right y middle (y ∷ back) (inl refl))) in
          let strict : FallsStrictly (before k y front middle back) = subst FallsStrictly from (beta_strict 20 ν a.0.falls) in
          let sum = moved_sum k y set front middle back (sym (ap set_of is) ∙ set_of-numbers set within.word) in
          let low = (place_low (40 - k) set y (omega arith) set_low there) in
          let less = low.0 in
          let least = low.1 in
          let p = power_within (y + k) 40 (omega arith) in
          let q = power_within (40 - k) 40 (omega arith) in
          let falls = low_list (before k y front middle back) strict (let h = set_low in omega arith) in
          let is_free = ap (has (y + k)) is ∙ free_place (y + k) 64 (40 - k) y front middle back falls (subst (FallsBelow (40 - k)) is beads_low) (omega arith) in
          let i = Among-select (λ x. not (has (x + k) (numbers set))) y (numbers set) there (ap not is_free) in
          subst (λ (l : List ℕ). Among l shapes_of)
          (ap from_beta (ap numbers (sym sum) ∙ numbers-set_of (before k y front middle back) falls) ∙ ap from_beta (sym from) ∙ back_again)
          (Among-map (λ b. shape (set - 2 ^ b + 2 ^ (b + k))) y (free k (numbers set)) i)

  each : ListsEach (AddsRimHook k (shape set)) shapes_of
  each = record {
    once = Once-map (λ b. shape (set - 2 ^ b + 2 ^ (b + k))) (free k (numbers set)) same_place (Once-select (λ x. not (has (x + k) (numbers set))) (numbers set) (once_falls (40 - k) (numbers set) beads_low));
    members = λ ν. (
      (λ m. let f = Among_from_map (λ b. shape (set - 2 ^ b + 2 ^ (b + k))) ν (free k (numbers set)) m in subst (AddsRimHook k (shape set)) (sym f.2) (adds f.0 f.1)),
      made ν,
    );
  }

  pub hooks_over : (n : ℕ) (φ : List ℕ → ℤ) → over (λ s. pair (schur (shape s) n) φ) (hooks k set) ≡ pair (times (power_sum_of k n) (schur (shape set) n)) φ
  hooks_over n φ =
      total_map (λ (t : ℕ × ℤ). t.1 *ℤ pair (schur (shape t.0) n) φ) (hook_from k set) (free k (numbers set))
      ∙ total_among (λ b. minus_one_to (passed k set b) *ℤ pair (schur (shape (set - 2 ^ b + 2 ^ (b + k))) n) φ) (λ b. minus_one_to (height (shape (set - 2 ^ b + 2 ^ (b + k))) (shape set) - 1) *ℤ pair (schur (shape (set - 2 ^ b + 2 ^ (b + k))) n) φ) (free k (numbers set))
      (λ b i. ap (λ h. minus_one_to h *ℤ pair (schur (shape (set - 2 ^ b + 2 ^ (b + k))) n) φ) (let h = heights b i in let e : passed k set b ≡ height (shape (set - 2 ^ b + 2 ^ (b + k))) (shape set) - 1 = omega arith in e))
      ∙ sym (total_map (λ (ν : List ℕ). minus_one_to (height ν (shape set) - 1) *ℤ pair (schur ν n) φ) (λ b. shape (set - 2 ^ b + 2 ^ (b + k))) (free k (numbers set)))
      ∙ hooks_value k n (shape set) shapes_of φ one partition each

  pub hooks_within : (d : ℕ) → size (shape set) ≤ d → HaveLabels (IsInRows 20 (d + k)) (hooks k set)
  hooks_within d h t i =
      let a = Among_from_map (hook_from k set) t (free k (numbers set)) i in
      let is : t.0 ≡ set - 2 ^ a.0 + 2 ^ (a.0 + k) = ap (λ (u : ℕ × ℤ). u.0) a.2 in
      let r = new_rows a.0 a.1 in
      let c = (removal a.0 a.1).cells in
      subst (IsInRows 20 (d + k)) (sym is) (record { word = r.word; rows = r.rows; cells = omega arith })

  pub hooks_few : mass (hooks k set) ≤ 20
  hooks_few =
      let e = mass_signs (free k (numbers set)) in
      let l = length-filter-within (λ x. not (has (x + k) (numbers set))) (numbers set) in
      let r = within.rows in
      omega arith
    where
      mass_signs : (xs : List ℕ) → mass (map (hook_from k set) xs) ≡ length xs
      mass_signs [] = refl
      mass_signs (x ∷ xs) = let r = mass_signs xs in let s = sign_size (passed k set x) in omega arith

-- ---- the product of a list and p_k

pub hooks_mass : (k : ℕ) (list : WholeTermsOf ℕ) → 1 ≤ k → k ≤ 20 → HaveLabels (IsInRows 20 (20 - k)) list → mass (replaced (hooks k) list) ≤ mass list * 20
hooks_mass k list one low within = mass_replaced (hooks k) 20 list (λ t m. hooks_few k t.0 one low (within t m))

twenty_more : (d k : ℕ) → 1 ≤ k → 20 ^ d * 20 ≤ 20 ^ (d + k)
twenty_more d k one =
    let p = pow-le-pow_right {n = 20} (omega arith) {i = suc d} {j = d + k} (omega arith) in
    let q : 20 ^ suc d ≡ 20 * 20 ^ d = omega arith in
    omega arith

-- let 1 ≤ k ≤ 20, let the sets of a list have 20 numbers and partitions of at most 20 - k cells, and let the absolute values of its coefficients add
-- up to at most 20^(20 - k). Then adding rim hooks of k cells to the sets never overflows
pub hooks_fit : (k : ℕ) (list : WholeTermsOf ℕ) → 1 ≤ k → k ≤ 20 → HaveLabels (IsInRows 20 (20 - k)) list → mass list ≤ 20 ^ (20 - k) → Overflows nat_eq [] (replaced (hooks k) list) → ⊥
hooks_fit k list one low within few o =
    let l = overflow_mass nat_eq [] (replaced (hooks k) list) o in
    let r = hooks_mass k list one low within in
    let f = mul-le-mul_right 20 few in
    let t = twenty_more (20 - k) k one in
    let p : 20 ^ (20 - k + k) ≡ 20 ^ 20 = ap (λ n. 20 ^ n) (let e : 20 - k + k ≡ 20 = omega arith in e) in
    omega arith

pub hook_times : (k d : ℕ) (f : ℕ → Poly) (list sum : WholeTermsOf ℕ) → 1 ≤ k → d + k ≤ 20 → AreShapesOf f d list → HaveLabels (IsInRows 20 (20 - k)) list
    → IsCombination nat_eq (λ s. true) whole sum → Gains [] (replaced (hooks k) list) sum
    → AreShapesOf (λ n. times (power_sum_of k n) (f n)) (d + k) sum
hook_times k d f list sum one low are within is gains = record {
  value = list_times (power_sum_of k) f (hooks k) list sum gains are.value (λ t m n φ. hooks_over k t.0 one (omega arith) (within t m) n φ);
  within =
      labels_gained nat_eq_equiv same_number [] (replaced (hooks k) list) sum is gains (IsInRows 20 (d + k)) (λ t m. absurd m)
      (labels_replaced (hooks k) (IsInRows 20 (d + k)) list
      (λ t m. hooks_within k t.0 one (omega arith) (within t m) d (are.within t m).cells));
  few =
      let m = gains_mass same_number nat_eq_equiv [] (replaced (hooks k) list) sum is gains in
      let r = hooks_mass k list one (omega arith) within in
      let f = mul-le-mul_right 20 are.few in
      let t = twenty_more d k one in
      omega arith;
}

-- ---- the beta sets after a rim hook is added, as terms that are added to a table one after another

pub hook_alone : (k set b new : ℕ) (c number : ℤ) (times : ℕ) → new ≡ set - 2 ^ b + 2 ^ (b + k) → number ≡ minus_one_to times *ℤ c → times ≡ passed k set b → (new, number) ∷ [] ≡ scaled c (hook_from k set b ∷ [])
hook_alone k set b new c number times e f g =
    ap₂ (λ (s : ℕ) (z : ℤ). (s, z) ∷ []) e (f ∙ ap (λ t. minus_one_to t *ℤ c) g ∙ *ℤ_comm (minus_one_to (passed k set b)) c)

-- if |c| ≥ 2^127, adding c, with the sign of the rim hook, to the coefficient of the set in which the bead has moved from b to b + k overflows
pub hook_past : (k set b : ℕ) (c : ℤ) (old : WholeTermsOf ℕ) → 2 ^ 127 ≤ nat_abs c → Overflows nat_eq old (scaled c (hook_from k set b ∷ []))
hook_past k set b c old l =
    overflows_alone nat_eq_equiv same_number old (set - 2 ^ b + 2 ^ (b + k)) (c *ℤ minus_one_to (passed k set b))
    (let s = nat_abs-product c (minus_one_to (passed k set b)) in let o = sign_size (passed k set b) in let d = ap (λ n. nat_abs c * n) o in let e : nat_abs c * 1 ≡ nat_abs c = omega arith in omega arith)

-- let `set` have 20 numbers and a partition of at most 20 - k cells: the next place b of the loop over the beads that can move up by k places
-- satisfies b + k < 63 and 2^b ≤ set < 2^63
pub free_low : (k set places b : ℕ) (passed : List ℕ) → 1 ≤ k → k ≤ 20 → IsInRows 20 (20 - k) set → IsSplit places b (places - 2 ^ b) → passed ++ numbers places ≡ free k (numbers set) → (b + k < 63) × (2 ^ b ≤ set) × (set < 2 ^ 63)
free_low k set places b passed one low within split all =
    let p = place k set one low within b (subst (Among b) all (Among-append_right b passed (numbers places) (subst (Among b) (sym split.numbers) (inl refl)))) in
    let l = p.0 in
    let s = set_low k set one low within in
    let w = power_within (40 - k) 63 (omega arith) in
    (omega arith, p.1, omega arith)

module _ (k set b : ℕ) (c : ℤ) (passed others : List ℕ) (old cur : WholeTermsOf ℕ) (so_far : Gains old (scaled c (map (hook_from k set) passed)) cur) where
  pub hooks_next : (new : WholeTermsOf ℕ) → Gains cur (scaled c (hook_from k set b ∷ [])) new → Gains old (scaled c (map (hook_from k set) (passed ++ b ∷ []))) new
  hooks_next new more = search (rules, map-append, scaled_append, gains_both)

  pub hooks_overflow : passed ++ b ∷ others ≡ free k (numbers set) → Overflows nat_eq cur (scaled c (hook_from k set b ∷ [])) → Overflows nat_eq old (scaled c (hooks k set))
  hooks_overflow all large =
      let f = hook_from k set in
      subst (Overflows nat_eq old)
      (ap (λ l. l ++ scaled c (map f others)) (sym (scaled_append c (map f passed) (f b ∷ [])))
      ∙ sym (scaled_append c (map f passed ++ f b ∷ []) (map f others))
      ∙ ap (scaled c)
      (ap (λ l. l ++ map f others) (sym (map-append f passed (b ∷ [])))
      ∙ sym (map-append f (passed ++ b ∷ []) others) ∙ ap (map f) (append_assoc passed (b ∷ []) others ∙ all)))
      (overflows_more nat_eq old (scaled c (map f passed) ++ scaled c (f b ∷ [])) (scaled c (map f others)) (overflows_both nat_eq old (scaled c (map f passed)) cur (scaled c (f b ∷ [])) so_far large))

pub first_part : (P : ℕ → ℕ → Poly) (k : ℕ) (rest parts : List ℕ) (list : WholeTermsOf ℕ) → k ∷ rest ≡ parts → AreShapesOf (λ n. times (P k n) (product_over P rest n)) (size rest + k) list → AreShapesOf (product_over P parts) (size parts) list
first_part P k rest parts list split are = search rules
