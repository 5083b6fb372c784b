-- The weight of a list, which is the sum of |c|·f(label) over its terms, for a weight f of labels (`weighed` of specs/Gains).
--     gains_weighed, gains_mass              an upper bound for the weight of a table after terms are added
--     overflow_weighed                       a lower bound for the weights of a table and of the added terms if the addition overflows
--     weighed_replaced, weighed_images       the weight of a list in which each label is replaced by a list
use Rattle.std.proofs.Common.{◌≡◌, ℕ, zero, suc, ◌+◌, ◌*◌, ◌^◌, ◌≤◌, Bool, true, false, cond, [], ◌∷◌, ◌++◌, refl, ap, ap₂, ◌∙◌, inl, inr, arith, ℤ, pos, negsuc, ◌*ℤ◌}
use Rattle.std.specs.Prelude.{Option, nat_abs, ◌≤ℤ◌}
use Rattle.std.specs.Cmp.{IsEquivalence}
use Rattle.std.specs.Option.{unwrap_or}
use Rattle.std.proofs.lemmas.Int.{ints}
use Rattle.fraction_laws.specs.Fractions.{whole}
use Rattle.sym_model.specs.Sum.{Among}
use Rattle.sym_model.proofs.Integers.{nat_abs-product, at_most_absolute}
use Rattle.linear_combinations.specs.Entries.{coefficient, IsCombination}
use Rattle.linear_combinations.specs.Gains.{WholeTermsOf, over, mass, weighed, mass_at, scaled, replaced, Gains, Overflows}
use Rattle.linear_combinations.proofs.Gains.{over_only_within}
use Rattle.linear_combinations.proofs.Totals.{found-among}
use Rattle.sym_model.proofs.NumberSums.{sum_by-append, sum_by-within}
use native.Mathlib.Nat.{mul-le-mul_left}
use lib.IntN.{*ℤ-zero}

module _ {L : Type 0} where
  pub weighed_append : (f : L → ℕ) (xs ys : WholeTermsOf L) → weighed f (xs ++ ys) ≡ weighed f xs + weighed f ys
  weighed_append f xs ys = sum_by-append (λ (t : L × ℤ). nat_abs t.1 * f t.0) xs ys

  pub weighed_scaled : (f : L → ℕ) (c : ℤ) (xs : WholeTermsOf L) → weighed f (scaled c xs) ≡ nat_abs c * weighed f xs
  weighed_scaled f c [] = omega arith
  weighed_scaled f c (x ∷ xs) =
      by (nat_abs c) (nat_abs x.1) (nat_abs (c *ℤ x.1)) (f x.0) (weighed f xs) (weighed f (scaled c xs)) (nat_abs-product c x.1) (weighed_scaled f c xs)
    where
      by : (a b p k r s : ℕ) → p ≡ a * b → s ≡ a * r → p * k + s ≡ a * (b * k + r)
      by a b p k r s e h =
          let x = ap (λ z. z * k) e in
          let y : a * b * k ≡ a * (b * k) = omega arith in
          let z : a * (b * k + r) ≡ a * (b * k) + a * r = omega arith in
          omega arith

  pub weighed_zero : (f : L → ℕ) → ((x : L) → f x ≡ 0) → (terms : WholeTermsOf L) → weighed f terms ≡ 0
  weighed_zero f h [] = refl
  weighed_zero f h (t ∷ terms) =
      let a = ap (λ k. nat_abs t.1 * k) (h t.0) in
      let r = weighed_zero f h terms in
      omega arith

  pub weighed_add : (f g : L → ℕ) (terms : WholeTermsOf L) → weighed (λ x. f x + g x) terms ≡ weighed f terms + weighed g terms
  weighed_add f g [] = refl
  weighed_add f g (t ∷ terms) =
      let r = weighed_add f g terms in
      let d : nat_abs t.1 * (f t.0 + g t.0) ≡ nat_abs t.1 * f t.0 + nat_abs t.1 * g t.0 = omega arith in
      omega arith

  pub weighed_all : (k : ℕ) (terms : WholeTermsOf L) → weighed (λ x. k) terms ≡ mass terms * k
  weighed_all k [] = omega arith
  weighed_all k (t ∷ terms) =
      let r = weighed_all k terms in
      let d : (nat_abs t.1 + mass terms) * k ≡ nat_abs t.1 * k + mass terms * k = omega arith in
      omega arith

  pub weighed_within : (f g : L → ℕ) (terms : WholeTermsOf L) → ((t : L × ℤ) → Among t terms → f t.0 ≤ g t.0) → weighed f terms ≤ weighed g terms
  weighed_within f g terms h =
      sum_by-within (λ (t : L × ℤ). nat_abs t.1 * f t.0) (λ (t : L × ℤ). nat_abs t.1 * g t.0) terms (λ t m. mul-le-mul_left (nat_abs t.1) (h t m))

  pub mass_within-weighed : (f : L → ℕ) → ((x : L) → 1 ≤ f x) → (terms : WholeTermsOf L) → mass terms ≤ weighed f terms
  mass_within-weighed f h terms = omega (arith, weighed_all 1 terms, weighed_within (λ x. 1) f terms (λ t m. h t.0))

  pub weighed_among : (f : L → ℕ) (terms : WholeTermsOf L) (t : L × ℤ) → Among t terms → nat_abs t.1 * f t.0 ≤ weighed f terms
  weighed_among f [] t m = absurd m
  weighed_among f (u ∷ terms) t (inl e) = let a = ap (λ (v : L × ℤ). nat_abs v.1 * f v.0) e in omega arith
  weighed_among f (u ∷ terms) t (inr m) = let r = weighed_among f terms t m in omega arith

  module _ {eq : L → L → Bool} (same : (x y : L) → eq x y ≡ true → x ≡ y) where
    mass_weighed : (f : L → ℕ) (x : L) → 1 ≤ f x → (terms : WholeTermsOf L) → mass_at eq x terms ≤ weighed f terms
    mass_weighed f x some [] = omega arith
    mass_weighed f x some (t ∷ terms) = by (eq x t.0) refl (mass_weighed f x some terms)
      where
        by : (b : Bool) → eq x t.0 ≡ b → mass_at eq x terms ≤ weighed f terms → cond b (nat_abs t.1) 0 + mass_at eq x terms ≤ nat_abs t.1 * f t.0 + weighed f terms
        by false e r = omega arith
        by true e r =
            let s = ap f (same x t.0 e) in
            let one : 1 ≤ f t.0 = omega arith in
            let m = mul-le-mul_left (nat_abs t.1) one in
            omega arith

    pub overflow_weighed : (old g : WholeTermsOf L) (o : Overflows eq old g) (f : L → ℕ) → 1 ≤ f o.0 → 2 ^ 127 ≤ weighed f old + weighed f g
    overflow_weighed old g o f some =
        let l = o.1 in
        let a = over_only_within eq o.0 old in
        let b = mass_weighed f o.0 some old in
        let d = mass_weighed f o.0 some g in
        omega arith

    pub gains_weighed : (laws : IsEquivalence eq) {is_label : L → Bool} (old g new : WholeTermsOf L) → IsCombination eq is_label whole new → Gains old g new
        → (f : L → ℕ) → weighed f new ≤ weighed f old + weighed f g
    gains_weighed laws old g new is a f =
        let φ : L → ℤ = λ x. signed (coefficient eq (pos 0) new x) (f x) in
        let n = own new (λ t m. ap (λ z. signed z (f t.0)) (ap (λ (o : Option ℤ). unwrap_or o (pos 0)) (found-among laws same new is.distinct t m))) in
        let o = at_most (λ x. signed (coefficient eq (pos 0) new x) (f x)) (λ x. signed_size (coefficient eq (pos 0) new x) (f x)) old in
        let h = at_most (λ x. signed (coefficient eq (pos 0) new x) (f x)) (λ x. signed_size (coefficient eq (pos 0) new x) (f x)) g in
        let s = a.sums (λ x. signed (coefficient eq (pos 0) new x) (f x)) in
        omega (arith, ints)
      where
        signed : ℤ → ℕ → ℤ
        signed (pos n) k = pos k
        signed (negsuc n) zero = pos 0
        signed (negsuc n) (suc k) = negsuc k

        signed_size : (z : ℤ) (k : ℕ) → nat_abs (signed z k) ≡ k
        signed_size (pos n) k = refl
        signed_size (negsuc n) zero = refl
        signed_size (negsuc n) (suc k) = refl

        signed_times : (z : ℤ) (k : ℕ) → z *ℤ signed z k ≡ pos (nat_abs z * k)
        signed_times (pos n) k = refl
        signed_times (negsuc n) zero = *ℤ-zero (negsuc n) ∙ (let e : 0 ≡ suc n * 0 = omega arith in ap pos e)
        signed_times (negsuc n) (suc k) = refl

        own : (terms : WholeTermsOf L) → ((t : L × ℤ) → Among t terms → signed (coefficient eq (pos 0) new t.0) (f t.0) ≡ signed t.1 (f t.0))
            → over (λ x. signed (coefficient eq (pos 0) new x) (f x)) terms ≡ pos (weighed f terms)
        own [] h = refl
        own (t ∷ terms) h =
            let r = own terms (λ u m. h u (inr m)) in
            let e = ap (λ z. t.1 *ℤ z) (h t (inl refl)) ∙ signed_times t.1 (f t.0) in
            omega (arith, ints)

        at_most : (φ : L → ℤ) → ((x : L) → nat_abs (φ x) ≡ f x) → (terms : WholeTermsOf L) → over φ terms ≤ℤ pos (weighed f terms)
        at_most φ h [] = omega (arith, ints)
        at_most φ h (t ∷ terms) =
            let r = at_most φ h terms in
            let l = at_most_absolute (t.1 *ℤ φ t.0) in
            let p = nat_abs-product t.1 (φ t.0) ∙ ap (λ n. nat_abs t.1 * n) (h t.0) in
            let q = ap pos p in
            omega (arith, ints)

    pub gains_mass : (laws : IsEquivalence eq) {is_label : L → Bool} (old g new : WholeTermsOf L) → IsCombination eq is_label whole new → Gains old g new
        → mass new ≤ mass old + mass g
    gains_mass laws old g new is a =
        omega (arith, gains_weighed laws old g new is a (λ x. 1), weighed_all 1 old, weighed_all 1 g, weighed_all 1 new)

-- the weight of the image of a list is the sum, over the terms (k, c) of the list, of |c| times the weight of the image of k
pub weighed_replaced : {K L : Type 0} (image : K → WholeTermsOf L) (f : L → ℕ) (terms : WholeTermsOf K) → weighed f (replaced image terms) ≡ weighed (λ k. weighed f (image k)) terms
weighed_replaced image f [] = refl
weighed_replaced image f (t ∷ terms) =
    weighed_append f (scaled t.1 (image t.0)) (replaced image terms)
    ∙ ap₂ (λ x y. x + y) (weighed_scaled f t.1 (image t.0)) (weighed_replaced image f terms)

-- if for each term (k, c) the weight (by f) of the image of k is at most g(k), the weight (by f) of the image of the list is at most the weight (by
-- g) of the list
pub weighed_images : {K L : Type 0} (image : K → WholeTermsOf L) (f : L → ℕ) (g : K → ℕ) (terms : WholeTermsOf K)
    → ((t : K × ℤ) → Among t terms → weighed f (image t.0) ≤ g t.0) → weighed f (replaced image terms) ≤ weighed g terms
weighed_images image f g terms h =
    omega (arith, weighed_replaced image f terms, weighed_within (λ k. weighed f (image k)) g terms h)
