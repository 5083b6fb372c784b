-- The product of factors x_r - y_c and a double Schubert polynomial, one factor after another: before the first factor, after one more factor, and
-- after the last. The *value* of a sum of terms f_w·S_w, for a function φ, is the sum of c·φ(w, e) over the permutations w and over the terms c·y^e
-- of f_w.
use Rattle.std.proofs.Common.{◌≡◌, ℕ, suc, ◌+◌, ◌*◌, ◌^◌, ◌<◌, ◌≤◌, Bool, List, [], ◌∷◌, ◌++◌, length, length-append, refl, sym, ap, ap₂, ◌∙◌, subst, inl, inr, arith, ℤ, pos, ◌+ℤ◌, ◌*ℤ◌, replicate}
use Rattle.std.specs.Prelude.{nat_abs}
use Rattle.std.specs.Cmp.Lexicographic.{pointwise, nat_list_eq_equiv}
use Rattle.std.specs.Prelude.{nat_eq}
use Rattle.std.proofs.lemmas.Int.{ints}
use Rattle.std.proofs.Math.Nat.{pow-le-pow_right, pow-zero}
use Rattle.fraction_laws.specs.Fractions.{whole}
use Rattle.sym_model.specs.DoubleSchubert.{double_schubert_in, shifted_in}
use Rattle.sym_model.specs.Partition.{size, without_last_zeros}
use Rattle.sym_model.specs.PlaceOrders.{inversions}
use Rattle.sym_model.specs.Polynomial.{Poly, Same, one, pair, times}
use Rattle.sym_model.specs.Sum.{Among}
use Rattle.sym_model.proofs.Polynomials.{pair_ext, pair_determined, times_respects, Same_refl, Same_sym}
use Rattle.sym_model.proofs.Ring.{one-product}
use Rattle.sym_model.proofs.Sums.{total_ext, total_append, Among-append_right}
use Rattle.double_schubert_laws.proofs.DoubleVariables.{identity_double}
use Rattle.double_schubert_laws.proofs.ProductSteps.{product_identity, product_start}
use Rattle.linear_combinations.specs.Entries.{IsCombination}
use Rattle.linear_combinations.specs.Gains.{over, weighed, HaveLabels, Gains}
use Rattle.linear_combinations.proofs.Labels.{same_partition}
use Rattle.linear_combinations.proofs.Gains.{over_append}
use Rattle.linear_combinations.proofs.Masses.{labels_gained}
use Rattle.linear_combinations.proofs.Weighed.{gains_weighed}
use Rattle.transition_walk.specs.Waiting.{WithList, IsWaiting, AreWaiting, value_of, growth}
use Rattle.schubert_laws.proofs.PermutationLabels.{one_one_line}
use Rattle.transition_laws.specs.Shifts.{ShiftedSum}
use Rattle.double_schubert.specs.ByPermutations.{InY, at_pairs, at_general, one_each}
use Rattle.double_schubert.specs.LinearFactors.{AreWithin, product_in}
use Rattle.double_schubert.proofs.LinearProducts.{trailing}
use native.Mathlib.Nat.{mul-le-mul_left, pow-suc}

module _ (perm copy zeros : List ℕ) (one : ℤ) (nothing factor : InY) (before items : List (WithList (List ℕ))) (same : copy ≡ perm) (empty : nothing ≡ [])
    (gains : Gains nothing ((zeros, one) ∷ []) factor) (is : one ≡ pos 1) (none : before ≡ []) (pushed : items ≡ before ++ (record { perm = copy; factor = factor }) ∷ []) where
  only : items ≡ (record { perm = copy; factor = factor }) ∷ []
  only = pushed ∙ ap (λ (l : List (WithList (List ℕ))). l ++ (record { perm = copy; factor = factor }) ∷ []) none

  pub single_value : (φ : List ℕ × List ℕ → ℤ) → value_of (at_pairs φ) items ≡ φ (perm, zeros)
  single_value φ =
      let a = gains.sums (at_pairs φ copy) in
      let b = ap (over (at_pairs φ copy)) empty in
      let d = ap (λ z. z *ℤ φ (copy, zeros)) is in
      let e = one-product (φ (copy, zeros)) in
      let f = ap (λ (v : List ℕ). φ (v, zeros)) same in
      let g = ap (value_of (at_pairs φ)) only in
      omega (arith, ints)

  module _ {is_label : List ℕ → Bool} (table : IsCombination (pointwise nat_eq) is_label whole factor) where
    pub single_weight : growth one_each items ≤ 1
    single_weight =
        let a = gains_weighed same_partition nat_list_eq_equiv nothing ((zeros, one) ∷ []) factor table gains (one_each copy) in
        let b = ap (weighed (one_each copy)) empty in
        let d = ap (λ z. nat_abs z * 1) is in
        let g = ap (growth one_each) only in
        omega arith

    pub single_bounds : (n : ℕ) → length perm ≤ n → size zeros ≡ 0 → AreWaiting size n (n + inversions perm) items
    single_bounds n few small x m = elim (subst (Among x) only m) [
      | inl e ↦
          subst (IsWaiting size n (n + inversions perm)) (sym e)
          (let l = ap (λ (v : List ℕ). length v) same in
          let i = ap inversions same in
          record {
            few = omega arith;
            inside = omega arith;
            labels = labels_gained nat_list_eq_equiv same_partition nothing ((zeros, one) ∷ []) factor table gains (λ e. size e + inversions copy ≤ n + inversions perm)
                (subst (λ (l : InY). HaveLabels (λ e. size e + inversions copy ≤ n + inversions perm) l) (sym empty) (λ t m. absurd m))
                (λ t m. elim m [ inl e ↦ (let s = ap (λ (u : List ℕ × ℤ). size u.0) e in omega arith) | inr k ↦ absurd k ]);
          })
      | inr k ↦ absurd k
    ]

-- ---- bounds on letters, degrees and coefficients after one more factor x_r - y_c

-- if inv ≤ 28 and k < 24, terms with at most 8 + k letters and degrees of at most 8 + inv + 2k have at most 31 letters and degrees of at most 254, so
-- that they can be multiplied by one more factor
pub room : (k inv : ℕ) (items : List (WithList (List ℕ))) → k < 24 → inv ≤ 28 → AreWaiting size (8 + k) (8 + inv + (k + k)) items → AreWaiting size 31 254 items
room k inv items few small are x m =
    let w = are x m in
    let f = w.few in
    let i = w.inside in
    record { few = omega arith; inside = omega arith; labels = λ t j. let l = w.labels t j in omega arith }

pub next_bounds : (m k inv n : ℕ) (items : List (WithList (List ℕ))) → n ≡ k + 1 → AreWaiting size (m + k + 1) (m + inv + (k + k) + 2) items → AreWaiting size (m + n) (m + inv + (n + n)) items
next_bounds m k inv n items e are x i =
    let w = are x i in
    let f = w.few in
    let j = w.inside in
    record { few = omega arith; inside = omega arith; labels = λ t q. let l = w.labels t q in omega arith }

pub next_power : (base few k n new old : ℕ) → n ≡ suc k → few ≤ base → old ≤ base ^ k → new ≤ old * few → new ≤ base ^ n
next_power base few k n new old e f h g =
    let a = mul-le-mul_left few h in
    let b = mul-le-mul_left (base ^ k) f in
    let d = pow-suc base k in
    let i : few * old ≡ old * few = omega arith in
    let j : few * base ^ k ≡ base ^ k * few = omega arith in
    let p = ap (λ x. base ^ x) e in
    omega arith

pub next_large : (base few k all old : ℕ) → suc k ≤ all → few ≤ base → 1 ≤ base → old ≤ base ^ k → 2 ^ 127 ≤ old * few → 2 ^ 127 ≤ base ^ all
next_large base few k all old e f some h g =
    let a = next_power base few k (suc k) (old * few) old refl f h (omega arith) in
    let b = pow-le-pow_right some e in
    omega arith

pub general_value : (n : ℕ) (φ : List ℕ → ℤ) (items : List (WithList (List ℕ)))
    → value_of (at_general (λ label. pair (shifted_in label n) φ)) items ≡ value_of (at_pairs (λ label. pair (shifted_in label n) φ)) items
general_value n φ items =
    total_ext (λ (x : WithList (List ℕ)). over (at_general (λ label. pair (shifted_in label n) φ) x.perm) x.factor)
    (λ (x : WithList (List ℕ)). over (at_pairs (λ label. pair (shifted_in label n) φ) x.perm) x.factor)
    (λ x. pair_ext x.factor (at_general (λ label. pair (shifted_in label n) φ) x.perm) (at_pairs (λ label. pair (shifted_in label n) φ) x.perm)
    (λ e. ap (λ (f : Poly). pair f φ) (trailing n x.perm e))) items

pub whole_product : (n : ℕ) (φ : List ℕ → ℤ) (w other : List ℕ) (factors : List (ℕ × ℕ)) → Same (double_schubert_in w n) (product_in n factors)
    → pair (times (product_in n factors) (shifted_in (other, replicate 32 0) n)) φ ≡ pair (times (double_schubert_in w n) (double_schubert_in other n)) φ
whole_product n φ w other factors h =
    let s = shifted_in (other, replicate 32 0) n in
    pair_determined (times (product_in n factors) s) (times (double_schubert_in w n) s) φ
    (times_respects (product_in n factors) (double_schubert_in w n) s s (Same_sym (double_schubert_in w n) (product_in n factors) h) (Same_refl s))
    ∙ ap (λ (f : Poly). pair (times (double_schubert_in w n) f) φ) (sym (trailing n other (replicate 32 0)))
    ∙ product_start n φ w other

pub within_more : (few most : ℕ) (factors : List (ℕ × ℕ)) → few ≤ most → AreWithin few factors → AreWithin most factors
within_more few most factors le h f m =
    let w = h f m in
    let a = w.last in
    let b = w.last_column in
    record { first = w.first; last = omega arith; column = w.column; last_column = omega arith }

-- ---- the loop over the factors: bounds before the first one, the factors visited so far, and the value after the last one

pub first_bounds : (m inv : ℕ) (items : List (WithList (List ℕ))) → AreWaiting size m (m + inv) items → AreWaiting size (m + 0) (m + inv + (0 + 0)) items
first_bounds m inv items are x i =
    let w = are x i in
    let f = w.few in
    let j = w.inside in
    record { few = omega arith; inside = omega arith; labels = λ t q. let l = w.labels t q in omega arith }

pub first_power : (base new : ℕ) → new ≤ 1 → new ≤ base ^ 0
first_power base new h = let e = pow-zero base in omega arith

pub member : (done rest left all : List (ℕ × ℕ)) (f : ℕ × ℕ) → left ≡ f ∷ rest → done ++ left ≡ all → Among f all
member done rest left all f e h =
    subst (Among f) (ap (λ (l : List (ℕ × ℕ)). done ++ l) (sym e) ∙ h) (Among-append_right f done (f ∷ rest) (inl refl))

pub counted : (done rest left all : List (ℕ × ℕ)) (f : ℕ × ℕ) → left ≡ f ∷ rest → done ++ left ≡ all → suc (length done) ≤ length all
counted done rest left all f e h =
    let a = length-append done left in
    let b = ap (λ (l : List (ℕ × ℕ)). length l) e in
    let d = ap (λ (l : List (ℕ × ℕ)). length l) h in
    omega arith

one_value : (n : ℕ) (φ : List ℕ → ℤ) (label : List ℕ × List ℕ) → pair (times (one (n + n)) (shifted_in label n)) φ ≡ pair (shifted_in label n) φ
one_value n φ label =
    let s = shifted_in label n in
    let i = double_schubert_in (1 ∷ []) n in
    pair_determined (times (one (n + n)) s) (times i s) φ
    (times_respects (one (n + n)) i s s (Same_sym i (one (n + n)) (identity_double (1 ∷ []) n one_one_line refl)) (Same_refl s))
    ∙ product_identity n φ (1 ∷ []) label.0 label.1 one_one_line refl

pub last_value : (n : ℕ) (φ : List ℕ → ℤ) (items : List (WithList (List ℕ)))
    → value_of (at_pairs (λ label. pair (shifted_in label n) φ)) items ≡ value_of (at_pairs (λ label. pair (times (product_in n []) (shifted_in label n)) φ)) items
last_value n φ items =
    total_ext (λ (x : WithList (List ℕ)). over (at_pairs (λ label. pair (shifted_in label n) φ) x.perm) x.factor)
    (λ (x : WithList (List ℕ)). over (at_pairs (λ label. pair (times (product_in n []) (shifted_in label n)) φ) x.perm) x.factor)
    (λ x. pair_ext x.factor (at_pairs (λ label. pair (shifted_in label n) φ) x.perm) (at_pairs (λ label. pair (times (product_in n []) (shifted_in label n)) φ) x.perm)
    (λ e. sym (one_value n φ (x.perm, e)))) items

pub written_next : (φ : List ℕ × List ℕ → ℤ) (old new : ShiftedSum) (done : List (WithList (List ℕ))) (term : WithList (List ℕ))
    → over φ old ≡ value_of (at_general φ) done → over φ new ≡ over φ old +ℤ over (at_general φ term.perm) term.factor
    → over φ new ≡ value_of (at_general φ) (done ++ term ∷ [])
written_next φ old new done term h g =
    let a = total_append (λ (x : WithList (List ℕ)). over (at_general φ x.perm) x.factor) done (term ∷ []) in
    omega (arith, ints)

pub appended_next : (φ : List ℕ × List ℕ → ℤ) (old mid new : ShiftedSum) (done : InY) (perm e copy y : List ℕ) (k : ℤ)
    → over φ mid ≡ over φ old +ℤ over (at_general φ perm) done → new ≡ mid ++ ((copy, y), k) ∷ [] → copy ≡ perm → y ≡ without_last_zeros e
    → over φ new ≡ over φ old +ℤ over (at_general φ perm) (done ++ (e, k) ∷ [])
appended_next φ old mid new done perm e copy y k h pushed same is =
    let a = ap (over φ) pushed in
    let b = over_append φ mid (((copy, y), k) ∷ []) in
    let d = over_append (at_general φ perm) done ((e, k) ∷ []) in
    let f = ap₂ (λ (v z : List ℕ). k *ℤ φ (v, z)) same is in
    omega (arith, ints)

pub positive_times : (a b c : ℕ) → 1 ≤ a → c ≤ b → c ≤ a * b
positive_times a b c h k = let m = mul-le-mul_left b h in let e : b * a ≡ a * b = omega arith in omega arith
