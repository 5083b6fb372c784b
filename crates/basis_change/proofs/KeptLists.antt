-- Kept lists: the kept list of a partition is the list of terms to which its arrangements straighten, as beta sets (specs/KeptLists).
--     kept-empty, kept-step                 the list of the empty partition, and the list computed from those for one part less (`IsKept`)
--     not_large                             in this computation no sum of coefficients overflows, if the partition has at most 20 cells
--     listed-next, listed-end, rests-next   the different parts of a partition, one after another, each with the list for the partition without it
--     hooked_lists-append                   the results of adding rim hooks to the lists xs ++ ys are those for xs, followed by those for ys
use Rattle.std.proofs.Common.{◌≡◌, ◌⊎◌, ℕ, zero, suc, ◌+◌, ◌-◌, ◌*◌, ◌^◌, ◌<◌, ◌≤◌, true, false, cond, List, [], ◌∷◌, ◌++◌, map, length, refl, sym, ap, ◌∙◌, subst, append_assoc, inl, inr, arith, ℤ, pos, ◌+ℤ◌, ◌*ℤ◌, rules}
use Rattle.std.specs.Prelude.{drop, get_or, nat_eq}
use Rattle.std.proofs.lemmas.List.{map-append, append-nil, drop_all, drop_more}
use Rattle.std.proofs.lemmas.Grind.{flat_map-append}
use Rattle.sym_model.specs.Sum.{Among}
use Rattle.sym_model.specs.Polynomial.{pair}
use Rattle.sym_model.specs.Partition.{IsPartition, size, rows}
use Rattle.sym_model.specs.RaisedPart.{without_one, distinct}
use Rattle.sym_model.specs.WholeTerms.{WholeTerms, WholeTermsOf}
use Rattle.sym_model.specs.Weight.{factorial}
use Rattle.sym_model.proofs.Sums.{total_among, total_each, total_map, Among_from_append, Among_from_map}
use Rattle.sym_model.proofs.SortedParts.{rows_within_size, size-without_one, has-zero}
use Rattle.sym_model.proofs.Parts.{size-append}
use Rattle.sym_model.proofs.Lists.{map-map}
use Rattle.sym_model.specs.Bases.{has}
use Rattle.monomial_laws.proofs.Growths.{factorial-mono, factorial-step}
use Rattle.basis_change.specs.SpecialRimHooks.{within_rows, hooks_value, IsStraightening, all_hooks}
use Rattle.basis_change.proofs.StraightenedArrangements.{no_part, last_part}
use Rattle.linear_combinations.specs.Gains.{over, mass, replaced, Gains, Overflows}
use Rattle.linear_combinations.proofs.Gains.{replaced_over}
use Rattle.sym_model.proofs.WholeTerms.{labels_append}
use Rattle.linear_combinations.proofs.Masses.{mass_append, mass_replaced, labels_replaced, labels_gained, overflow_mass}
use Rattle.basis_change.specs.KeptLists.{IsKept, IsKeptRest}
use Rattle.std.specs.Cmp.{nat_eq_equiv}
use Rattle.beta_sets.specs.BetaSets.{shape, shapes, IsShape, AreShapes, IsShapeTable}
use Rattle.linear_combinations.proofs.Labels.{same_number}
use Rattle.basis_change.specs.RimHooks.{hooks_below, hooked_lists}
use Rattle.beta_sets.proofs.BetaSets.{shape-empty, empty_shape}
use Rattle.beta_sets.proofs.ShapeSums.{over-shapes, one_label}
use Rattle.basis_change.proofs.HookSums.{hooks-mass, hooks-over, hooks-labels}
use native.Mathlib.Nat.{mul-le-mul_left, mul-le-mul_right}
use Rattle.linear_combinations.proofs.Weighed.{gains_mass}
use lib.IntN.{+ℤ_idl}

pub kept-empty : (old new : WholeTermsOf ℕ) (set : ℕ) (c : ℤ) → old ≡ [] → set ≡ 0 → c ≡ pos 1 → IsShapeTable new → Gains old ((set, c) ∷ []) new → IsKept [] new
kept-empty old new set c o s n is gained = record {
  straightens = λ n g.
      no_part n g
      ∙ sym (over-shapes (within_rows n g) new ∙ alone.sums (λ s. within_rows n g (shape s)) ∙ +ℤ_idl (pos 1 *ℤ within_rows n g (shape 0) +ℤ pos 0) ∙ ap (λ (ν : List ℕ). pos 1 *ℤ within_rows n g ν +ℤ pos 0) shape-empty);
  few = gains_mass same_number nat_eq_equiv [] ((0, pos 1) ∷ []) new is alone;
  within = labels_gained nat_eq_equiv same_number [] ((0, pos 1) ∷ []) new is alone (IsShape 0) (λ t m. absurd m) (one_label (IsShape 0) 0 (pos 1) empty_shape);
}
  where
    alone : Gains [] ((0, pos 1) ∷ []) new
    alone =
        subst (λ (x : WholeTermsOf ℕ). Gains x ((0, pos 1) ∷ []) new) o
        (subst (λ (m : ℕ). Gains old ((m, pos 1) ∷ []) new) s (subst (λ (z : ℤ). Gains old ((set, z) ∷ []) new) n gained))

factorial_20 : factorial 20 ≡ 2432902008176640000
factorial_20 = refl

size-distinct : (numbers : List ℕ) → size (distinct numbers) ≤ size numbers
size-distinct [] = omega arith
size-distinct (a ∷ numbers) = search (rules, (size-distinct numbers))

-- the first components, which are numbers, of a list of pairs of a number and a table
abbrev pub parts_of : List (ℕ × WholeTermsOf ℕ) → List ℕ
parts_of lists = map (λ (x : ℕ × WholeTermsOf ℕ). x.0) lists

within-factorial : (parts numbers : List ℕ) → 0 < size parts → numbers ≡ distinct parts → size numbers * factorial (size parts - 1) ≤ factorial (size parts)
within-factorial parts numbers p e = search (rules, size-distinct, mul-le-mul_right, factorial-step)

pub part-positive : (parts : List ℕ) (a : ℕ) → IsPartition parts → has a parts ≡ true → 0 < a
part-positive parts zero p h = absurd (let z = has-zero parts p.positive in cc)
part-positive parts (suc a) p h = omega arith

-- a pair of a number and a list, with the beta sets of the list replaced by their partitions
abbrev with_shapes : ℕ × WholeTermsOf ℕ → ℕ × WholeTerms
with_shapes x = (x.0, shapes x.1)

module _ (parts : List ℕ) (p : IsPartition parts) (low : size parts ≤ 20) where
  module _ (x : ℕ × WholeTermsOf ℕ) (rest : IsKeptRest parts x) where
    positive : 0 < x.0
    positive = part-positive parts x.0 p rest.part

    one-over : (φ : List ℕ → ℤ) → over (λ s. φ (shape s)) (replaced (hooks_below x.0) x.1) ≡ pair (shapes x.1) (hooks_value φ x.0)
    one-over φ = search (rules, replaced_over, total_among, size-without_one, hooks-over, positive, over-shapes)

    one-labels : AreShapes (size parts) (replaced (hooks_below x.0) x.1)
    one-labels =
        labels_replaced (hooks_below x.0) (IsShape (size parts)) x.1
        (λ t m.
        let is = rest.kept.within t m in
        let s = size-without_one x.0 parts rest.part in
        hooks-labels (shape t.0) x.0 (size parts) positive (let k = is.cells in omega arith) low x.0 (rows (shape t.0)) t.0 (size (without_one x.0 parts) + 1) is.beta is.low (omega arith))

    one-mass : mass (replaced (hooks_below x.0) x.1) ≤ x.0 * factorial (size parts - 1)
    one-mass =
        let s = size-without_one x.0 parts rest.part in
        let q = positive in
        let f = factorial-mono (size (without_one x.0 parts)) (size parts - 1) (omega arith) in
        let k = rest.kept.few in
        let m = mul-le-mul_left x.0 (let l : mass x.1 ≤ factorial (size parts - 1) = omega arith in l) in
        let r = mass_replaced (hooks_below x.0) x.0 x.1 (λ t m. hooks-mass x.0 x.0 t.0) in
        omega arith

  all-over : (φ : List ℕ → ℤ) (lists : List (ℕ × WholeTermsOf ℕ)) → ((x : ℕ × WholeTermsOf ℕ) → Among x lists → IsKeptRest parts x) → over (λ s. φ (shape s)) (hooked_lists lists) ≡ all_hooks φ (map with_shapes lists)
  all-over φ lists rests = search (rules, total_each, total_among, one-over, total_map)

  all-labels : (lists : List (ℕ × WholeTermsOf ℕ)) → ((x : ℕ × WholeTermsOf ℕ) → Among x lists → IsKeptRest parts x) → AreShapes (size parts) (hooked_lists lists)
  all-labels [] rests = λ t m. absurd m
  all-labels (x ∷ lists) rests =
      labels_append (IsShape (size parts)) (replaced (hooks_below x.0) x.1) (hooked_lists lists) (one-labels x (rests x (inl refl))) (all-labels lists (λ y m. rests y (inr m)))

  all-mass : (lists : List (ℕ × WholeTermsOf ℕ)) → ((x : ℕ × WholeTermsOf ℕ) → Among x lists → IsKeptRest parts x) → mass (hooked_lists lists) ≤ size (parts_of lists) * factorial (size parts - 1)
  all-mass [] rests = omega arith
  all-mass (x ∷ lists) rests = search (rules, one-mass, mass_append, (all-mass lists))

  pub kept-step : (lists : List (ℕ × WholeTermsOf ℕ)) (sum : WholeTermsOf ℕ) → 0 < length parts → parts_of lists ≡ distinct parts → ((x : ℕ × WholeTermsOf ℕ) → Among x lists → IsKeptRest parts x)
      → Gains [] (hooked_lists lists) sum → IsShapeTable sum → IsKept parts sum
  kept-step lists sum l e rests gains is = record {
    straightens =
        last_part parts (map with_shapes lists) (shapes sum) p l
        (record {
          parts_are = map-map (λ (x : ℕ × WholeTerms). x.0) with_shapes lists ∙ e;
          straightens = λ y m.
              let r = Among_from_map with_shapes y lists m in
              subst (λ (z : ℕ × WholeTerms). IsStraightening (without_one z.0 parts) z.1) (sym r.2) (rests r.0 r.1).kept.straightens;
        })
        (λ g. over-shapes g sum ∙ gains.sums (λ s. g (shape s)) ∙ +ℤ_idl (over (λ s. g (shape s)) (hooked_lists lists)) ∙ all-over g lists rests);
    few =
        let m = gains_mass same_number nat_eq_equiv [] (hooked_lists lists) sum is gains in
        let a = all-mass lists rests in
        let r = rows_within_size parts p.positive in
        let f = within-factorial parts (parts_of lists) (omega arith) e in
        omega arith;
    within = labels_gained nat_eq_equiv same_number [] (hooked_lists lists) sum is gains (IsShape (size parts)) (λ t m. absurd m) (all-labels lists rests);
  }

  pub not_large : (lists : List (ℕ × WholeTermsOf ℕ)) (later : List ℕ) → 0 < length parts → parts_of lists ++ later ≡ distinct parts → ((x : ℕ × WholeTermsOf ℕ) → Among x lists → IsKeptRest parts x)
      → Overflows nat_eq [] (hooked_lists lists) → ⊥
  not_large lists later l listed rests large =
      let o = overflow_mass nat_eq [] (hooked_lists lists) large in
      let a = all-mass lists rests in
      let r = rows_within_size parts p.positive in
      let w = within-factorial parts (parts_of lists ++ later) (omega arith) listed in
      let s = size-append (parts_of lists) later in
      let t = mul-le-mul_right (factorial (size parts - 1)) (let u : size (parts_of lists) ≤ size (parts_of lists ++ later) = omega arith in u) in
      let f = factorial-mono (size parts) 20 low in
      let n : factorial 20 < 2 ^ 127 = omega (arith, factorial_20) in
      omega arith

distinct-here : (parts : List ℕ) (at : ℕ) → at < length parts → has (get_or parts at 0) (drop (at + 1) parts) ≡ false → distinct (drop at parts) ≡ get_or parts at 0 ∷ distinct (drop (at + 1) parts)
distinct-here parts at l h =
    ap distinct (drop_more parts at 0 l) ∙ ap (λ t. cond t (distinct (drop (at + 1) parts)) (get_or parts at 0 ∷ distinct (drop (at + 1) parts))) h

pub listed-next : (parts : List ℕ) (at : ℕ) (done : List (ℕ × WholeTermsOf ℕ)) (list : WholeTermsOf ℕ) → at < length parts → has (get_or parts at 0) (drop (at + 1) parts) ≡ false
    → parts_of done ++ distinct (drop at parts) ≡ distinct parts → parts_of (done ++ (get_or parts at 0, list) ∷ []) ++ distinct (drop (at + 1) parts) ≡ distinct parts
listed-next parts at done list l h e = search (rules, map-append, append_assoc, distinct-here)

pub listed-end : (parts : List ℕ) (at : ℕ) (numbers : List ℕ) → length parts ≤ at → numbers ++ distinct (drop at parts) ≡ distinct parts → numbers ≡ distinct parts
listed-end parts at numbers l e = sym (append-nil numbers) ∙ ap (λ (xs : List ℕ). numbers ++ distinct xs) (sym (drop_all at parts l)) ∙ e

pub rests-next : (parts : List ℕ) (done : List (ℕ × WholeTermsOf ℕ)) (y : ℕ × WholeTermsOf ℕ) → ((x : ℕ × WholeTermsOf ℕ) → Among x done → IsKeptRest parts x) → IsKeptRest parts y
    → (x : ℕ × WholeTermsOf ℕ) → Among x (done ++ y ∷ []) → IsKeptRest parts x
rests-next parts done y before here x m = by (Among_from_append x done (y ∷ []) m)
  where
    by : Among x done ⊎ Among x (y ∷ []) → IsKeptRest parts x
    by (inl i) = before x i
    by (inr (inl s)) = subst (IsKeptRest parts) (sym s) here
    by (inr (inr n)) = absurd n

pub hooked_lists-append : (xs ys : List (ℕ × WholeTermsOf ℕ)) → hooked_lists (xs ++ ys) ≡ hooked_lists xs ++ hooked_lists ys
hooked_lists-append xs ys = flat_map-append (λ (x : ℕ × WholeTermsOf ℕ). replaced (hooks_below x.0) x.1) xs ys
