-- Lists of terms whose labels are beta sets in 20 rows (`in_rows` of beta_sets). The beta set of a partition λ in k rows is the set of the numbers
-- λ_i + k - i.
--     wide-shape, wide-rows                rewriting a beta set in 20 rows does not change its partition
--     mass-single                          in a table of such beta sets, each partition belongs to at most one term
--     wide-gains, wide-labels, wide-large  a multiple of the list to which the arrangements of a partition straighten is added to a table, in place
--                                          of the terms of all arrangements
use Rattle.std.proofs.Common.{◌≡◌, ◌⊎◌, ℕ, zero, suc, ◌+◌, ◌-◌, ◌*◌, ◌^◌, ◌<◌, ◌≤◌, Bool, true, false, cond, List, [], ◌∷◌, length, refl, sym, ap, ap₂, ◌∙◌, subst, inl, inr, arith, ℤ, pos, ◌+ℤ◌, ◌*ℤ◌, rules}
use Rattle.std.specs.Prelude.{nat_abs, nat_eq}
use Rattle.std.specs.Cmp.{IsEquivalence, nat_eq_equiv}
use Rattle.std.specs.List.{IsDistinct}
use Rattle.std.specs.Map.{keys_of}
use Rattle.std.proofs.Math.Nat.{pow-le-pow_right}
use Rattle.std.proofs.lemmas.Bool.{cases_lt, le-leb}
use Rattle.std.proofs.lemmas.Int.{ints}
use Rattle.std.proofs.lemmas.Map.{lookup-none}
use Rattle.std.proofs.lemmas.Map.Keys.{IsDistinct-tail}
use Rattle.std.proofs.lemmas.Map.Entries.{none_past_head}
use Rattle.std.proofs.lemmas.Nat.{mul-le}
use Rattle.sym_model.specs.BetaList.{beta, from_beta}
use Rattle.sym_model.specs.Partition.{size, rows}
use Rattle.sym_model.specs.WholeTerms.{WholeTermsOf}
use Rattle.sym_model.proofs.Integers.{nat_abs-product}
use Rattle.sym_model.proofs.Ring.{product-one, product_left_comm}
use Rattle.sym_model.proofs.SortedParts.{rows_within_size}
use Rattle.sym_model.proofs.Sums.{total_among, total_scale, Among_from_map}
use Rattle.beta_list_laws.proofs.BetaLists.{from_beta-beta, length-beta}
use Rattle.linear_combinations.specs.Gains.{over, only, mass_at, replaced, Gains, Overflows, HaveLabels}
use Rattle.linear_combinations.proofs.Labels.{same_partition}
use Rattle.linear_combinations.proofs.Gains.{over_at, over_only_within, replaced_over}
use Rattle.linear_combinations.proofs.Masses.{label_held, labels_replaced}
use Rattle.sparse_polys.specs.Tables.{equal}
use Rattle.beta_sets.specs.BetaSets.{numbers, shape, shapes, in_rows, set_of, IsBetaSet, IsInRows, IsShape, AreShapes, IsShapeTable}
use Rattle.linear_combinations.proofs.Labels.{same_number}
use Rattle.beta_sets.proofs.BetaSets.{below_power, within_more}
use Rattle.beta_sets.proofs.SetNumbers.{set_of-numbers, same_shape}
use Rattle.beta_sets.proofs.ShapeSums.{over-shapes, one_label}
use Rattle.basis_change.specs.Arranging.{straight_terms}
use Rattle.basis_change.specs.KeptLists.{IsKept}
use Rattle.basis_change.specs.SpecialRimHooks.{within_rows}
use Rattle.basis_change.proofs.HookEntries.{lengthened_is}
use Rattle.basis_change.proofs.StraightTerms.{straight_terms-over}
use lib.IntN.{+ℤ_idr, *ℤ-zero}
use Rattle.sym_model.proofs.Numbers.{power-positive}
use Rattle.linear_combinations.proofs.LabelTests.{equal_from}

more_rows : (ν : List ℕ) (k set j next : ℕ) → IsBetaSet ν k set → (set + 1) * 2 ^ j ≤ 2 ^ 63 → next + 1 ≡ (set + 1) * 2 ^ j → IsBetaSet ν (k + j) next
more_rows ν k set zero next is l e = search rules
more_rows ν k set (suc j) next is l e =
    let p = power-positive 2 j (omega arith) in
    let d : 2 ^ suc j ≡ 2 * 2 ^ j = omega arith in
    let q : (set + 1) * 2 ^ suc j ≡ 2 * ((set + 1) * 2 ^ j) = ap (λ n. (set + 1) * n) d ∙ (let t : (set + 1) * (2 * 2 ^ j) ≡ 2 * ((set + 1) * 2 ^ j) = omega arith in t) in
    let r : 1 ≤ (set + 1) * 2 ^ j = let t : (set + 1) * 2 ^ j ≡ set * 2 ^ j + 2 ^ j = omega arith in omega arith in
    lengthened_is ν (k + j) ((set + 1) * 2 ^ j - 1) next (k + suc j) (more_rows ν k set j ((set + 1) * 2 ^ j - 1) is (omega arith) (omega arith))
    (omega arith) (omega arith) (omega arith)

module _ (set : ℕ) (is : IsShape 20 set) where
  pub rows_are : length (numbers set) ≡ rows (shape set)
  rows_are = ap length is.beta.numbers ∙ length-beta (rows (shape set)) (shape set)

  pub few_rows : rows (shape set) ≤ 20
  few_rows = let r = rows_within_size (shape set) is.beta.partition.positive in let s = is.cells in omega arith

  pub wide-room : (set + 1) * 2 ^ (20 - length (numbers set)) ≤ 2 ^ 41
  wide-room =
      let p : 2 ^ (20 - length (numbers set)) ≤ 2 ^ 20 = pow-le-pow_right {n = 2} (omega arith) {i = 20 - length (numbers set)} {j = 20} (omega arith) in
      let l : set < 2 ^ 21 = is.low in
      let m = mul-le (set + 1) (2 ^ (20 - length (numbers set))) (2 ^ 21) (2 ^ 20) (omega arith) p in
      let e : 2 ^ 21 * 2 ^ 20 ≡ 2 ^ 41 = refl in
      omega arith

  wide_is : IsBetaSet (shape set) 20 (in_rows 20 set)
  wide_is =
      let r = rows_are in
      let f = few_rows in
      let w = wide-room in
      let p = power-positive 2 (20 - length (numbers set)) (omega arith) in
      let t : (set + 1) * 2 ^ (20 - length (numbers set)) ≡ set * 2 ^ (20 - length (numbers set)) + 2 ^ (20 - length (numbers set)) = omega arith in
      subst (λ k. IsBetaSet (shape set) k (in_rows 20 set)) (let e : rows (shape set) + (20 - length (numbers set)) ≡ 20 = omega arith in e)
      (more_rows (shape set) (rows (shape set)) set (20 - length (numbers set)) (in_rows 20 set) is.beta (omega arith) (omega arith))

  pub wide-shape : shape (in_rows 20 set) ≡ shape set
  wide-shape = ap from_beta wide_is.numbers ∙ from_beta-beta 20 (shape set) is.beta.partition few_rows

  pub wide-rows : IsInRows 20 20 (in_rows 20 set)
  wide-rows = record {
    word = let w = wide-room in omega arith;
    rows = ap length wide_is.numbers ∙ length-beta 20 (shape set);
    cells = let e = ap size wide-shape in let s = is.cells in omega arith;
  }

pub shapes-apart : (a b : ℕ) → IsShape 20 a → IsShape 20 b → shape a ≡ shape b → a ≡ b
shapes-apart a b r s e =
    sym (set_of-numbers a (below_power a 21 64 r.low (omega arith)))
    ∙ ap set_of (r.beta.numbers ∙ ap (λ ν. beta (rows ν) ν) e ∙ sym s.beta.numbers)
    ∙ set_of-numbers b (below_power b 21 64 s.low (omega arith))

pub rows-apart : (a b : ℕ) → IsInRows 20 20 a → IsInRows 20 20 b → shape a ≡ shape b → a ≡ b
rows-apart = same_shape 20 20

-- in a table, the sum of the absolute values of the terms with the label x is the absolute value of the coefficient of x, since x occurs at most once
mass_at-table : {L : Type 0} {eq : L → L → Bool} → IsEquivalence eq → ((x y : L) → eq x y ≡ true → x ≡ y) → (x : L) (terms : WholeTermsOf L) → IsDistinct eq (keys_of terms)
    → mass_at eq x terms ≡ nat_abs (over (only eq x) terms)
mass_at-table laws same x [] distinct = refl
mass_at-table {L} {eq} laws same x (t ∷ terms) distinct =
    search (rules, IsDistinct-tail, *ℤ-zero, ints, lookup-none, none_past_head, over_at, product-one, (mass_at-table laws same x terms))

module _ {P : ℕ → Type 0} (apart : (a b : ℕ) → P a → P b → shape a ≡ shape b → a ≡ b) where
  same-label : (x s : ℕ) → P x → P s → equal (shape x) (shape s) ≡ nat_eq x s
  same-label x s p q = search rules

  pub over_shape : (x : ℕ) → P x → (terms : WholeTermsOf ℕ) → HaveLabels P terms → over (only equal (shape x)) (shapes terms) ≡ over (only nat_eq x) terms
  over_shape x p [] h = refl
  over_shape x p (t ∷ terms) h =
      ap₂ (λ (b : Bool) (z : ℤ). t.1 *ℤ cond b (pos 1) (pos 0) +ℤ z) (same-label x t.0 p (h t (inl refl))) (over_shape x p terms (λ u m. h u (inr m)))

  mass_shape : (x : ℕ) → P x → (terms : WholeTermsOf ℕ) → HaveLabels P terms → mass_at equal (shape x) (shapes terms) ≡ mass_at nat_eq x terms
  mass_shape x p [] h = refl
  mass_shape x p (t ∷ terms) h =
      ap₂ (λ (b : Bool) (n : ℕ). cond b (nat_abs t.1) 0 + n) (same-label x t.0 p (h t (inl refl))) (mass_shape x p terms (λ u m. h u (inr m)))

  pub mass-single : (terms : WholeTermsOf ℕ) → IsShapeTable terms → HaveLabels P terms → (ν : List ℕ) → mass_at equal ν (shapes terms) ≡ nat_abs (over (only equal ν) (shapes terms))
  mass-single terms is h ν = by (cases_lt 0 (mass_at equal ν (shapes terms)))
    where
      held : HaveLabels (λ (μ : List ℕ). (x : ℕ) × P x × (shape x ≡ μ)) (shapes terms)
      held t m =
          let r = Among_from_map (λ (u : ℕ × ℤ). (shape u.0, u.1)) t terms m in
          (r.0.0, h r.0 r.1, sym (ap (λ (u : List ℕ × ℤ). u.0) r.2))

      at : (x : ℕ) → P x → mass_at equal (shape x) (shapes terms) ≡ nat_abs (over (only equal (shape x)) (shapes terms))
      at x p =
          mass_shape x p terms h ∙ mass_at-table nat_eq_equiv same_number x terms is.distinct
          ∙ ap nat_abs (sym (over_shape x p terms h))

      by : (0 < mass_at equal ν (shapes terms)) ⊎ (mass_at equal ν (shapes terms) ≤ 0) → mass_at equal ν (shapes terms) ≡ nat_abs (over (only equal ν) (shapes terms))
      by (inl l) =
          let r = label_held equal same_partition (λ (μ : List ℕ). (x : ℕ) × P x × (shape x ≡ μ)) (shapes terms) ν held l in
          subst (λ (μ : List ℕ). mass_at equal μ (shapes terms) ≡ nat_abs (over (only equal μ) (shapes terms))) r.2 (at r.0 r.1)
      by (inr l) = let w = over_only_within equal ν (shapes terms) in omega arith

-- ---- a multiple of a list of beta sets, with the sets in 20 rows

-- the beta set in 20 rows of the partition of `set`, with the coefficient c
abbrev pub wide : ℤ → ℕ → WholeTermsOf ℕ
wide c set = (in_rows 20 set, c) ∷ []

mass_wide : (c : ℤ) (x : ℕ) (list : WholeTermsOf ℕ) → AreShapes 20 list → mass_at nat_eq x (replaced (wide c) list) ≤ nat_abs c * mass_at equal (shape x) (shapes list)
mass_wide c x [] are = omega arith
mass_wide c x (t ∷ list) are = by (nat_eq x (in_rows 20 t.0)) refl (equal (shape x) (shape t.0)) refl (mass_wide c x list (λ u m. are u (inr m)))
  where
    by : (b : Bool) → nat_eq x (in_rows 20 t.0) ≡ b → (d : Bool) → equal (shape x) (shape t.0) ≡ d → mass_at nat_eq x (replaced (wide c) list) ≤ nat_abs c * mass_at equal (shape x) (shapes list)
        → cond b (nat_abs (t.1 *ℤ c)) 0 + mass_at nat_eq x (replaced (wide c) list) ≤ nat_abs c * (cond d (nat_abs t.1) 0 + mass_at equal (shape x) (shapes list))
    by false e d f r =
        let z : nat_abs c * (cond d (nat_abs t.1) 0 + mass_at equal (shape x) (shapes list)) ≡ nat_abs c * cond d (nat_abs t.1) 0 + nat_abs c * mass_at equal (shape x) (shapes list) = omega arith in
        omega arith
    by true e true f r =
        let p = nat_abs-product t.1 c in
        let z : nat_abs c * (nat_abs t.1 + mass_at equal (shape x) (shapes list)) ≡ nat_abs t.1 * nat_abs c + nat_abs c * mass_at equal (shape x) (shapes list) = omega arith in
        omega arith
    by true e false f r =
        absurd (let i = equal_from (shape x) (shape t.0) (ap shape (same_number x (in_rows 20 t.0) e) ∙ wide-shape t.0 (are t (inl refl))) in cc)

module _ (c : ℤ) (parts : List ℕ) (n : ℕ) (list : WholeTermsOf ℕ) (kept : IsKept parts list) (low : size parts ≤ 20) (enough : size parts ≤ n) where
  are : AreShapes 20 list
  are = within_more (size parts) 20 list low kept.within

  rows-within : (g : List ℕ → ℤ) → over (within_rows n g) (shapes list) ≡ over g (shapes list)
  rows-within g = search (rules, over-shapes, total_among, rows_within_size, le-leb)

  list-over : (φ : List ℕ → ℤ) → c *ℤ over φ (shapes list) ≡ over φ (straight_terms c parts n)
  list-over φ = ap (λ z. c *ℤ z) (sym (kept.straightens n φ ∙ rows-within φ)) ∙ sym (straight_terms-over φ c parts n)

  wide-over : (φ : List ℕ → ℤ) → over (λ s. φ (shape s)) (replaced (wide c) list) ≡ over φ (straight_terms c parts n)
  wide-over φ =
      replaced_over (wide c) (λ s. φ (shape s)) list
      ∙ total_among (λ (t : ℕ × ℤ). t.1 *ℤ (c *ℤ φ (shape (in_rows 20 t.0)) +ℤ pos 0)) (λ (t : ℕ × ℤ). c *ℤ (t.1 *ℤ φ (shape t.0))) list
      (λ t m. ap (λ (ν : List ℕ). t.1 *ℤ (c *ℤ φ ν +ℤ pos 0)) (wide-shape t.0 (are t m)) ∙ turned t.1 c (φ (shape t.0)))
      ∙ total_scale c (λ (t : ℕ × ℤ). t.1 *ℤ φ (shape t.0)) list
      ∙ ap (λ z. c *ℤ z) (sym (over-shapes φ list))
      ∙ list-over φ
    where
      turned : (x y z : ℤ) → x *ℤ (y *ℤ z +ℤ pos 0) ≡ y *ℤ (x *ℤ z)
      turned x y z = ap (λ w. x *ℤ w) (+ℤ_idr (y *ℤ z)) ∙ product_left_comm x y z

  pub wide-gains : (old new : WholeTermsOf ℕ) → Gains old (replaced (wide c) list) new → Gains (shapes old) (straight_terms c parts n) (shapes new)
  wide-gains old new a = search (rules, over-shapes, wide-over)

  pub wide-labels : HaveLabels (IsInRows 20 20) (replaced (wide c) list)
  wide-labels = labels_replaced (wide c) (IsInRows 20 20) list (λ t m. one_label (IsInRows 20 20) (in_rows 20 t.0) c (wide-rows t.0 (are t m)))

  pub wide-large : (old : WholeTermsOf ℕ) → IsShapeTable list → HaveLabels (IsInRows 20 20) old → Overflows nat_eq old (replaced (wide c) list) → Overflows equal (shapes old) (straight_terms c parts n)
  wide-large old is h (x, l) =
      let w = over_only_within nat_eq x old in
      let r = by (cases_lt 0 (mass_at nat_eq x old)) w in
      let a = ap nat_abs (over_shape rows-apart x r old h) in
      let b = mass_wide c x list are in
      let s = ap (λ k. nat_abs c * k) (mass-single shapes-apart list is are (shape x)) in
      let p = nat_abs-product c (over (only equal (shape x)) (shapes list)) in
      let e = ap nat_abs (list-over (only equal (shape x))) in
      let f = over_only_within equal (shape x) (straight_terms c parts n) in
      (shape x, omega arith)
    where
      by : (0 < mass_at nat_eq x old) ⊎ (mass_at nat_eq x old ≤ 0) → nat_abs (over (only nat_eq x) old) ≤ mass_at nat_eq x old → IsInRows 20 20 x
      by (inl k) w = label_held nat_eq same_number (IsInRows 20 20) old x h k
      by (inr k) w = label_held nat_eq same_number (IsInRows 20 20) (replaced (wide c) list) x wide-labels (omega arith)
