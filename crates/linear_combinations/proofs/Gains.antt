-- Terms added to a table, a list of labels with integers as coefficients, by several additions, one after another. Here `Gains old g new` of
-- specs/Gains states that new = old + g as formal sums. `Overflows eq old g`: at some label, the absolute values of the coefficient of `old` and of
-- all coefficients of g sum up to at least 2^127. A table *refuses* a term (label, c) if c and the coefficient of the table at this label fit i128,
-- but their sum does not. `RefusesFirst` states that a table refuses the first term of a list.
use Rattle.std.proofs.Common.{◌≡◌, ◌⊎◌, ℕ, suc, ◌+◌, ◌^◌, ◌<◌, ◌≤◌, Bool, true, false, cond, List, [], ◌∷◌, ◌++◌, length, take, drop, get_or, refl, sym, ap, ap₂, ◌∙◌, subst, inl, inr, arith, append_assoc, ℤ, pos, ◌+ℤ◌, ◌*ℤ◌}
use Rattle.std.specs.Prelude.{Option, Some, None, nat_abs}
use Rattle.std.specs.Cmp.{IsEquivalence}
use Rattle.std.specs.Option.{unwrap_or}
use Rattle.std.specs.List.{IsDistinct}
use Rattle.std.specs.Map.{lookup, keys_of}
use Rattle.std.proofs.lemmas.Int.{ints}
use Rattle.std.proofs.lemmas.List.{map-append, take_all}
use Rattle.sym_model.proofs.Lists.{take-read, split-read}
use Rattle.std.proofs.lemmas.Map.{lookup-none}
use Rattle.std.proofs.lemmas.Map.Keys.{IsDistinct-tail}
use Rattle.std.proofs.lemmas.Map.Entries.{none_past_head}
use Rattle.fraction_laws.specs.Fractions.{whole}
use Rattle.fraction_laws.specs.Checked.{checked_i128}
use Rattle.coeff_rings.proofs.Sizes.{refused_size}
use Rattle.sym_model.specs.Sum.{total, Among}
use Rattle.sym_model.proofs.Integers.{nat_abs-sum}
use Rattle.sym_model.proofs.Ring.{distributes_right, product-one, ring, distributes_left}
use Rattle.sym_model.proofs.Sums.{total_append}
use Rattle.linear_combinations.specs.Entries.{coefficient, IsCombination, HasMoreAt}
use Rattle.linear_combinations.specs.Gains.{WholeTermsOf, over, only, mass, mass_at, scaled, each_with, replaced, HaveLabels, Gains, Overflows, RefusesFirst}
use Rattle.linear_combinations.proofs.Totals.{total-more, found-among}
use lib.IntN.{+ℤ_idr, *ℤ-zero, zero-*ℤ}

module _ {L : Type 0} where
  pub over_append : (φ : L → ℤ) (xs ys : WholeTermsOf L) → over φ (xs ++ ys) ≡ over φ xs +ℤ over φ ys
  over_append φ xs ys = total_append (λ (t : L × ℤ). t.1 *ℤ φ t.0) xs ys

  pub gains_none : (old : WholeTermsOf L) → Gains old [] old
  gains_none old = record { sums = λ φ. sym (+ℤ_idr (over φ old)) }

  pub gains_both : (old g mid h new : WholeTermsOf L) → Gains old g mid → Gains mid h new → Gains old (g ++ h) new
  gains_both old g mid h new a b = record {
    sums = λ φ. let x = a.sums φ in let y = b.sums φ in let z = over_append φ g h in omega (arith, ints);
  }

  pub gains_as : (old g h new : WholeTermsOf L) → ((φ : L → ℤ) → over φ g ≡ over φ h) → Gains old g new → Gains old h new
  gains_as old g h new e a = record { sums = λ φ. a.sums φ ∙ ap (λ z. over φ old +ℤ z) (e φ) }

  module _ (eq : L → L → Bool) where
    pub mass_at_append : (x : L) (xs ys : WholeTermsOf L) → mass_at eq x (xs ++ ys) ≡ mass_at eq x xs + mass_at eq x ys
    mass_at_append x [] ys = omega arith
    mass_at_append x (t ∷ xs) ys = let r = mass_at_append x xs ys in omega arith

    one_only : (c : ℤ) (b : Bool) → nat_abs (c *ℤ cond b (pos 1) (pos 0)) ≡ cond b (nat_abs c) 0
    one_only c true = ap nat_abs (product-one c)
    one_only c false = ap nat_abs (*ℤ-zero c)

    pub over_only_within : (x : L) (terms : WholeTermsOf L) → nat_abs (over (only eq x) terms) ≤ mass_at eq x terms
    over_only_within x [] = omega arith
    over_only_within x (t ∷ terms) =
        let a = nat_abs-sum (t.1 *ℤ only eq x t.0) (over (only eq x) terms) in
        let b = one_only t.1 (eq x t.0) in
        let r = over_only_within x terms in
        omega arith

    pub mass_at_within : (x : L) (terms : WholeTermsOf L) → mass_at eq x terms ≤ mass terms
    mass_at_within x [] = omega arith
    mass_at_within x (t ∷ terms) = let r = mass_at_within x terms in by (eq x t.0) r
      where
        by : (b : Bool) → mass_at eq x terms ≤ mass terms → cond b (nat_abs t.1) 0 + mass_at eq x terms ≤ nat_abs t.1 + mass terms
        by true r = omega arith
        by false r = omega arith

    pub overflows_both : (old g mid h : WholeTermsOf L) → Gains old g mid → Overflows eq mid h → Overflows eq old (g ++ h)
    overflows_both old g mid h a o =
        let x = o.0 in
        let l = o.1 in
        let e = ap nat_abs (a.sums (only eq o.0)) in
        let s = nat_abs-sum (over (only eq o.0) old) (over (only eq o.0) g) in
        let w = over_only_within o.0 g in
        let m = mass_at_append o.0 g h in
        (x, omega arith)

    pub overflows_more : (old g h : WholeTermsOf L) → Overflows eq old g → Overflows eq old (g ++ h)
    overflows_more old g h o = let l = o.1 in let m = mass_at_append o.0 g h in (o.0, omega arith)

    pub overflows_as : (old g h : WholeTermsOf L) → ((x : L) → mass_at eq x g ≤ mass_at eq x h) → Overflows eq old g → Overflows eq old h
    overflows_as old g h e o = let l = o.1 in let m = e o.0 in (o.0, omega arith)

  module _ {eq : L → L → Bool} (laws : IsEquivalence eq) (same : (x y : L) → eq x y ≡ true → x ≡ y) where
    pub over_at : (terms : WholeTermsOf L) → IsDistinct eq (keys_of terms) → (k : L) → over (only eq k) terms ≡ coefficient eq (pos 0) terms k
    over_at [] distinct k = refl
    over_at (t ∷ terms) distinct k = by (eq k t.0) refl (over_at terms (IsDistinct-tail eq t.0 (keys_of terms) distinct) k)
      where
        by : (b : Bool) → eq k t.0 ≡ b → over (only eq k) terms ≡ coefficient eq (pos 0) terms k
            → t.1 *ℤ cond b (pos 1) (pos 0) +ℤ over (only eq k) terms ≡ unwrap_or (cond b (Some t.1) (lookup (eq k) terms)) (pos 0)
        by true p r =
            let none = lookup-none (eq k) terms (none_past_head laws k t terms distinct p) in
            ap₂ (λ x y. x +ℤ y) (product-one t.1) (r ∙ ap (λ (o : Option ℤ). unwrap_or o (pos 0)) none) ∙ +ℤ_idr t.1
        by false p r = ap (λ z. z +ℤ over (only eq k) terms) (*ℤ-zero t.1) ∙ (let a : pos 0 +ℤ over (only eq k) terms ≡ over (only eq k) terms = omega (arith, ints) in a) ∙ r

    pub overflows_term : (old : WholeTermsOf L) → IsDistinct eq (keys_of old) → (k : L) (c : ℤ) → checked_i128 (coefficient eq (pos 0) old k +ℤ c) ≡ None → Overflows eq old ((k, c) ∷ [])
    overflows_term old distinct k c refused =
        let s = refused_size (coefficient eq (pos 0) old k +ℤ c) refused in
        let t = nat_abs-sum (coefficient eq (pos 0) old k) c in
        let e = ap nat_abs (over_at old distinct k) in
        let h = ap (λ b. cond b (nat_abs c) 0) (laws.refl k) in
        (k, omega arith)

    pub overflows_alone : (old : WholeTermsOf L) (k : L) (c : ℤ) → 2 ^ 127 ≤ nat_abs c → Overflows eq old ((k, c) ∷ [])
    overflows_alone old k c large = let h = ap (λ b. cond b (nat_abs c) 0) (laws.refl k) in (k, omega arith)

    pub gains_term : {is_label : L → Bool} (old new : WholeTermsOf L) → IsCombination eq is_label whole old → IsCombination eq is_label whole new → (k : L) (c : ℤ)
        → HasMoreAt eq (pos 0) (λ x y. x +ℤ y) old k c new → Gains old ((k, c) ∷ []) new
    gains_term old new is also k c more = record {
      sums = λ φ.
          let t = total-more laws same (pos 0) (λ (l : L) (r : ℤ). r *ℤ φ l) (λ l. zero-*ℤ (φ l)) k whole (λ x y. x +ℤ y) refl old new is also c more in
          let e : coefficient eq (pos 0) new k ≡ coefficient eq (pos 0) old k +ℤ c = more k ∙ ap (λ b. cond b (coefficient eq (pos 0) old k +ℤ c) (coefficient eq (pos 0) old k)) (laws.refl k) in
          let d = distributes_right (coefficient eq (pos 0) old k) c (φ k) in
          let f = ap (λ z. z *ℤ φ k) e in
          let n = +ℤ_idr (c *ℤ φ k) in
          omega (arith, ints);
    }

    module _ {is_label : L → Bool} (old g new : WholeTermsOf L) (is : IsCombination eq is_label whole new) (a : Gains old g new) where
      pub gains_labels : (P : L → Type 0) → ((t : L × ℤ) → Among t new → (t.1 ≡ pos 0) → ⊥) → HaveLabels P old → HaveLabels P g → HaveLabels P new
      gains_labels P proper hold gained t m =
          let here = over_at new is.distinct t.0 ∙ ap (λ (o : Option ℤ). unwrap_or o (pos 0)) (found-among laws same new is.distinct t m) in
          let s = a.sums (only eq t.0) in
          by (within old hold) (within g gained)
        where
          within : (terms : WholeTermsOf L) → HaveLabels P terms → (P t.0) ⊎ (over (only eq t.0) terms ≡ pos 0)
          within [] h = inr refl
          within (u ∷ terms) h = at (eq t.0 u.0) refl (within terms (λ v n. h v (inr n)))
            where
              at : (b : Bool) → eq t.0 u.0 ≡ b → (P t.0) ⊎ (over (only eq t.0) terms ≡ pos 0) → (P t.0) ⊎ (u.1 *ℤ cond b (pos 1) (pos 0) +ℤ over (only eq t.0) terms ≡ pos 0)
              at true p r = inl (subst P (sym (same t.0 u.0 p)) (h u (inl refl)))
              at false p (inl y) = inl y
              at false p (inr z) = inr (ap₂ (λ x y. x +ℤ y) (*ℤ-zero u.1) z)

          by : (P t.0) ⊎ (over (only eq t.0) old ≡ pos 0) → (P t.0) ⊎ (over (only eq t.0) g ≡ pos 0) → P t.0
          by (inl p) r = p
          by (inr p) (inl r) = r
          by (inr p) (inr r) =
              absurd (proper t m
              (sym (over_at new is.distinct t.0 ∙ ap (λ (o : Option ℤ). unwrap_or o (pos 0)) (found-among laws same new is.distinct t m))
              ∙ a.sums (only eq t.0) ∙ ap₂ (λ x y. x +ℤ y) p r))

  pub each_append : (c : ℤ) (xs ys : List L) → each_with c (xs ++ ys) ≡ each_with c xs ++ each_with c ys
  each_append c [] ys = refl
  each_append c (x ∷ xs) ys = ap (λ l. (x, c) ∷ l) (each_append c xs ys)

  pub each_all : (c : ℤ) (xs : List L) (i : ℕ) → length xs ≤ i → each_with c (take i xs) ≡ each_with c xs
  each_all c xs i h = ap (each_with c) (take_all i xs h)

  pub scaled_append : (c : ℤ) (xs ys : WholeTermsOf L) → scaled c (xs ++ ys) ≡ scaled c xs ++ scaled c ys
  scaled_append c xs ys = map-append (λ (t : L × ℤ). (t.0, c *ℤ t.1)) xs ys

pub replaced_append : {K L : Type 0} (image : K → WholeTermsOf L) (xs ys : WholeTermsOf K) → replaced image (xs ++ ys) ≡ replaced image xs ++ replaced image ys
replaced_append image [] ys = refl
replaced_append image (t ∷ xs) ys =
    ap (λ l. scaled t.1 (image t.0) ++ l) (replaced_append image xs ys) ∙ sym (append_assoc (scaled t.1 (image t.0)) (replaced image xs) (replaced image ys))

pub all_pairs : {A : Type 0} (done rest left begun items all : List A) (p : A) → left ≡ p ∷ rest → done ++ left ≡ begun → begun ≡ items → items ≡ all → done ++ p ∷ rest ≡ all
all_pairs done rest left begun items all p steps so_far given is = ap (λ es. done ++ es) (sym steps) ∙ so_far ∙ given ∙ is

pub so_far_next : {A : Type 0} (done rest left begun next : List A) (p : A) → done ++ p ∷ [] ≡ next → left ≡ p ∷ rest → done ++ left ≡ begun → next ++ rest ≡ begun
so_far_next done rest left begun next p pushed steps so_far =
    ap (λ es. es ++ rest) (sym pushed) ∙ append_assoc done (p ∷ []) rest ∙ ap (λ es. done ++ es) (sym steps) ∙ so_far

pub next_among : {A : Type 0} (done : List A) (p : A) (rest : List A) → Among p (done ++ p ∷ rest)
next_among [] p rest = inl refl
next_among (x ∷ done) p rest = inr (next_among done p rest)

-- ---- the first of the terms that a loop adds

-- if no term has been added (`done` is empty), the table `cur` is `old`; otherwise `old` does not refuse the first term of `done`
abbrev pub KeepsFirst : {L : Type 0} → (L → L → Bool) → WholeTermsOf L → WholeTermsOf L → WholeTermsOf L → Type 0
KeepsFirst eq old [] cur = cur ≡ old
KeepsFirst eq old (t ∷ done) cur = ¬ RefusesFirst eq old (t ∷ done)

module _ {L : Type 0} (eq : L → L → Bool) (old : WholeTermsOf L) where
  pub first_kept : (done : WholeTermsOf L) (t : L × ℤ) (cur next new : WholeTermsOf L) → done ++ t ∷ [] ≡ next → KeepsFirst eq old done cur
      → ¬ RefusesFirst eq cur (t ∷ []) → KeepsFirst eq old next new
  first_kept [] t cur next new pushed is fits = subst (λ l. KeepsFirst eq old l new) pushed (subst (λ l. ¬ RefusesFirst eq l (t ∷ [])) is fits)
  first_kept (u ∷ done) t cur next new pushed was fits = subst (λ l. KeepsFirst eq old l new) pushed was

  pub first_refused : (done : WholeTermsOf L) (t : L × ℤ) (cur rest all : WholeTermsOf L) → done ++ t ∷ rest ≡ all → KeepsFirst eq old done cur
      → RefusesFirst eq old all → RefusesFirst eq cur (t ∷ [])
  first_refused [] t cur rest all is same refuses = subst (λ l. RefusesFirst eq l (t ∷ [])) (sym same) (subst (RefusesFirst eq old) (sym is) refuses)
  first_refused (u ∷ done) t cur rest all is was refuses = absurd (was (subst (RefusesFirst eq old) (sym is) refuses))

  pub first_fits : (done cur all : WholeTermsOf L) → done ≡ all → KeepsFirst eq old done cur → ¬ RefusesFirst eq old all
  first_fits [] cur all is same refuses = subst (RefusesFirst eq old) (sym is) refuses
  first_fits (u ∷ done) cur all is was refuses = was (subst (RefusesFirst eq old) (sym is) refuses)

pub scaled_over : {L : Type 0} (c : ℤ) (φ : L → ℤ) (terms : WholeTermsOf L) → over φ (scaled c terms) ≡ c *ℤ over φ terms
scaled_over c φ [] = sym (*ℤ-zero c)
scaled_over c φ (t ∷ terms) = ap (λ z. (c *ℤ t.1) *ℤ φ t.0 +ℤ z) (scaled_over c φ terms) ∙ factor c t.1 (φ t.0) (over φ terms)
  where
    factor : (c a b d : ℤ) → (c *ℤ a) *ℤ b +ℤ c *ℤ d ≡ c *ℤ (a *ℤ b +ℤ d)
    factor c a b d = simp ring

pub each_over : {L : Type 0} (c : ℤ) (φ : L → ℤ) (labels : List L) → over φ (each_with c labels) ≡ c *ℤ total φ labels
each_over c φ [] = sym (*ℤ-zero c)
each_over c φ (x ∷ labels) = ap (λ z. c *ℤ φ x +ℤ z) (each_over c φ labels) ∙ sym (distributes_left c (φ x) (total φ labels))

pub replaced_over : {K L : Type 0} (image : K → WholeTermsOf L) (φ : L → ℤ) (terms : WholeTermsOf K) → over φ (replaced image terms) ≡ over (λ k. over φ (image k)) terms
replaced_over image φ [] = refl
replaced_over image φ (t ∷ terms) = over_append φ (scaled t.1 (image t.0)) (replaced image terms) ∙ ap₂ (λ x y. x +ℤ y) (scaled_over t.1 φ (image t.0)) (replaced_over image φ terms)

-- one more step of a loop that adds the terms gained(p ∷ []) of each element p, where gained(xs ++ ys) = gained(xs) ++ gained(ys). If `cur` is `old`
-- plus gained(done), adding gained(p ∷ []) to `cur` gives `old` plus gained(done ++ p ∷ []). If this addition overflows, so does adding the terms of
-- a whole list that begins with `done` and p to `old`
module _ {A L : Type 0} (gained : List A → WholeTermsOf L) (pieces : (xs ys : List A) → gained (xs ++ ys) ≡ gained xs ++ gained ys)
    (done : List A) (p : A) (old cur : WholeTermsOf L) (so_far : Gains old (gained done) cur) where
  pub pairs_gain : (next : List A) (new : WholeTermsOf L) → done ++ p ∷ [] ≡ next → Gains cur (gained (p ∷ [])) new → Gains old (gained next) new
  pairs_gain next new pushed more =
      subst (λ l. Gains old l new) (sym (pieces done (p ∷ [])) ∙ ap gained pushed) (gains_both old (gained done) cur (gained (p ∷ [])) new so_far more)

  pub pairs_overflow : (eq : L → L → Bool) (rest all : List A) → done ++ p ∷ rest ≡ all → Overflows eq cur (gained (p ∷ [])) → Overflows eq old (gained all)
  pairs_overflow eq rest all is large =
      subst (Overflows eq old) (ap (λ l. l ++ gained rest) (sym (pieces done (p ∷ []))) ∙ sym (pieces (done ++ p ∷ []) rest) ∙ ap gained (append_assoc done (p ∷ []) rest ∙ is))
      (overflows_more eq old (gained done ++ gained (p ∷ [])) (gained rest) (overflows_both eq old (gained done) cur (gained (p ∷ [])) so_far large))

module _ {A L : Type 0} (gained : List A → WholeTermsOf L) (pieces : (xs ys : List A) → gained (xs ++ ys) ≡ gained xs ++ gained ys)
    (xs : List A) (i : ℕ) (x : A) (inside : i < length xs) (here : x ≡ get_or xs i x) (old cur : WholeTermsOf L) (so_far : Gains old (gained (take i xs)) cur) where
  pub places_gain : (new : WholeTermsOf L) → Gains cur (gained (x ∷ [])) new → Gains old (gained (take (i + 1) xs)) new
  places_gain new more =
      pairs_gain gained pieces (take i xs) x old cur so_far (take (i + 1) xs) new
      (take-read xs i x inside here) more

  pub places_overflow : (eq : L → L → Bool) → Overflows eq cur (gained (x ∷ [])) → Overflows eq old (gained xs)
  places_overflow eq large =
      pairs_overflow gained pieces (take i xs) x old cur so_far eq (drop (suc i) xs) xs
      (split-read xs i x inside here) large

module _ {L : Type 0} (c : ℤ) (xs : List L) (i : ℕ) (x : L) (inside : i < length xs) (here : x ≡ get_or xs i x) (old cur : WholeTermsOf L) (so_far : Gains old (each_with c (take i xs)) cur) where
  pub labels_gain : (new : WholeTermsOf L) → Gains cur ((x, c) ∷ []) new → Gains old (each_with c (take (i + 1) xs)) new
  labels_gain new more = places_gain (each_with c) (each_append c) xs i x inside here old cur so_far new more

  pub labels_overflow : (eq : L → L → Bool) → Overflows eq cur ((x, c) ∷ []) → Overflows eq old (each_with c xs)
  labels_overflow eq large = places_overflow (each_with c) (each_append c) xs i x inside here old cur so_far eq large
