-- A list with the labels of another list in the same order, and with each scalar of that list multiplied by one fixed scalar. A ring *holds* a scalar
-- if its machine type can represent the scalar (`is_held`).
use Rattle.std.proofs.Common.{◌≡◌, ◌≢◌, ℕ, suc, ◌+◌, ◌*◌, ◌<◌, ◌≤◌, Bool, true, false, cond, List, [], ◌∷◌, ◌++◌, length, pos, ◌*ℤ◌, unsigned_abs, refl, sym, ap, ◌∙◌, subst, inl, inr, arith}
use Rattle.std.specs.Prelude.{Option, Some, slice_get}
use Rattle.std.specs.Map.{lookup, keys_of}
use Rattle.std.proofs.lemmas.Bool.{and_parts, and_from}
use Rattle.std.proofs.lemmas.Int.{unsigned_abs-mul}
use native.Mathlib.Nat.{mul-pos}
use Rattle.indexmap.specs.Layout.{set_value_at}
use Rattle.sym_model.specs.Expansion.{Fraction}
use Rattle.fraction_laws.specs.Fractions.{whole, InLowestTerms, fraction_product}
use Rattle.fraction_laws.proofs.Fractions.{Stands-itself, Stands-product}
use Rattle.coeff_rings.proofs.Sizes.{size_positive}
use Rattle.sym_model.specs.Canonical.{is_reduced}
use Rattle.sym_model.specs.Sum.{Among}
use Rattle.sym_model.proofs.Ring.{product-one}
use Rattle.std.specs.Option.{unwrap_or}
use Rattle.linear_combinations.specs.Entries.{are_terms, coefficient, AreHeld, IsMultipleOf, IsRefused}
use Rattle.linear_combinations.proofs.LowestTerms.{is_reduced-lowest, not_zero-is_reduced, lowest-is_reduced, product-zero}
use Rattle.linear_combinations.proofs.Steps.{answered}
use Rattle.std.proofs.lemmas.List.{length-append, nil_from_length}

module _ {L R : Type 0} (P : R → R → Type 0) where
  -- the two lists have the same labels in the same order, and P relates the two scalars of each label
  abbrev pub Relates : List (L × R) → List (L × R) → Type 0
  Relates [] [] = Unit {0}
  Relates [] (y ∷ ys) = ⊥
  Relates (x ∷ xs) [] = ⊥
  Relates (x ∷ xs) (y ∷ ys) = (y.0 ≡ x.0) × P x.1 y.1 × Relates xs ys

  pub length-Relates : (xs ys : List (L × R)) → Relates xs ys → length ys ≡ length xs
  length-Relates [] [] h = refl
  length-Relates [] (y ∷ ys) h = absurd h
  length-Relates (x ∷ xs) [] h = absurd h
  length-Relates (x ∷ xs) (y ∷ ys) h = ap suc (length-Relates xs ys h.2)

  pub Relates-push : (xs ys : List (L × R)) (k : L) (a b : R) → Relates xs ys → P a b → Relates (xs ++ (k, a) ∷ []) (ys ++ (k, b) ∷ [])
  Relates-push [] [] k a b h p = (refl, p, tt)
  Relates-push [] (y ∷ ys) k a b h p = absurd h
  Relates-push (x ∷ xs) [] k a b h p = absurd h
  Relates-push (x ∷ xs) (y ∷ ys) k a b h p = (h.0, h.1, Relates-push xs ys k a b h.2 p)

  pub keys-Relates : (xs ys : List (L × R)) → Relates xs ys → keys_of ys ≡ keys_of xs
  keys-Relates [] [] h = refl
  keys-Relates [] (y ∷ ys) h = absurd h
  keys-Relates (x ∷ xs) [] h = absurd h
  keys-Relates (x ∷ xs) (y ∷ ys) h = ap (λ ks. y.0 ∷ ks) (keys-Relates xs ys h.2) ∙ ap (λ k. k ∷ keys_of xs) h.0

module _ {L R : Type 0} where
  pub next_at : (done rest : List (L × R)) (p : L × R) → slice_get (done ++ rest) (length done) ≡ Some p → (tail : List (L × R)) × (rest ≡ p ∷ tail)
  next_at [] [] p h = cc
  next_at [] (e ∷ rest) p h = let here : e ≡ p = cc in (rest, ap (λ x. x ∷ rest) here)
  next_at (d ∷ done) rest p h = next_at done rest p h

  pub set_next : (done tail : List (L × R)) (k : L) (a b : R) → set_value_at (done ++ (k, a) ∷ tail) (length done) b ≡ done ++ (k, b) ∷ tail
  set_next [] tail k a b = refl
  set_next (d ∷ done) tail k a b = ap (λ es. d ∷ es) (set_next done tail k a b)

module _ {L R : Type 0} (P : R → R → Type 0) (before done rest was now : List (L × R)) (at end : ℕ) (all : before ++ rest ≡ was) (is : now ≡ done ++ rest) (related : Relates P before done) (place : length done ≡ at) (ends : end ≡ length was) where
  pub place_within : at < end → at < length now
  place_within h =
      let a = length-append before rest in
      let b = length-append done rest in
      let l = length-Relates P before done related in
      let d : length (before ++ rest) ≡ length was = ap (λ (es : List (L × R)). length es) all in
      let e : length now ≡ length (done ++ rest) = ap (λ (es : List (L × R)). length es) is in
      omega arith

  pub rest_empty : end ≤ at → rest ≡ []
  rest_empty h =
      let a = length-append before rest in
      let l = length-Relates P before done related in
      let d : length (before ++ rest) ≡ length was = ap (λ (es : List (L × R)). length es) all in
      nil_from_length rest (omega arith)

product-nonzero : (r s : Fraction) → InLowestTerms r → InLowestTerms s → r ≢ whole (pos 0) → s ≢ whole (pos 0) → fraction_product r s ≢ whole (pos 0)
product-nonzero r s l k other also e =
    let is = (Stands-product r s _ _ _ _ (Stands-itself r l) (Stands-itself s k)).is in
    let top : (fraction_product r s).0 ≡ pos 0 = ap (λ (q : Fraction). q.0) e in
    let bottom : (fraction_product r s).1 ≡ 1 = ap (λ (q : Fraction). q.1) e in
    let zero_is : pos 0 *ℤ pos (r.1 * s.1) ≡ (r.0 *ℤ s.0) *ℤ pos 1 =
    ap (λ z. z *ℤ pos (r.1 * s.1)) (sym top) ∙ is ∙ ap (λ (n : ℕ). (r.0 *ℤ s.0) *ℤ pos n) bottom in
    let none : unsigned_abs (r.0 *ℤ s.0) ≡ 0 =
    ap unsigned_abs (sym (product-one (r.0 *ℤ s.0)) ∙ sym zero_is) ∙ unsigned_abs-mul (pos 0) (pos (r.1 * s.1)) ∙ (let z : 0 * unsigned_abs (pos (r.1 * s.1)) ≡ 0 = omega arith in z) in
    let some : 0 < unsigned_abs r.0 * unsigned_abs s.0 = mul-pos (size_positive r l other) (size_positive s k also) in
    let size : unsigned_abs (r.0 *ℤ s.0) ≡ unsigned_abs r.0 * unsigned_abs s.0 = unsigned_abs-mul r.0 s.0 in
    omega arith

-- b is the product of a and c, and `checked a c` returns b; the value of b is the product of the values of a and c, in lowest terms; and the ring can
-- hold b
abbrev pub IsProduct : {R : Type 0} → (R → Type 0) → (R → Fraction) → (R → R → Option R) → (R → R → R) → R → R → R → Type 0
IsProduct is_held value checked product c a b =
    (checked a c ≡ Some b) × (b ≡ product a c) × (value b ≡ fraction_product (value a) (value c)) × InLowestTerms (value b) × is_held b

pub zero_product : {R : Type 0} (value : R → Fraction) (zero : R) (product : R → R → R) → ((a b : R) → value a ≡ value b → a ≡ b)
    → ((a b : R) → value (product a b) ≡ fraction_product (value a) (value b)) → value zero ≡ whole (pos 0)
    → (c : R) → InLowestTerms (value c) → product zero c ≡ zero
zero_product value zero product same values none c low =
    same (product zero c) zero (values zero c ∙ ap (λ (r : Fraction). fraction_product r (value c)) none ∙ product-zero (value c) low ∙ sym none)

module _ {L R : Type 0} (eq : L → L → Bool) (is_label : L → Bool) (is_held : R → Type 0) (value : R → Fraction) (checked : R → R → Option R)
    (product : R → R → R) (c : R) where
  pub IsMultipleOf-Relates : (zero : R) → product zero c ≡ zero → (xs ys : List (L × R)) → Relates (IsProduct is_held value checked product c) xs ys → IsMultipleOf eq zero product xs c ys
  IsMultipleOf-Relates zero none xs ys h label = found xs ys h
    where
      found : (xs ys : List (L × R)) → Relates (IsProduct is_held value checked product c) xs ys → coefficient eq zero ys label ≡ product (coefficient eq zero xs label) c
      found [] [] h = sym none
      found [] (y ∷ ys) h = absurd h
      found (x ∷ xs) [] h = absurd h
      found (x ∷ xs) (y ∷ ys) h = ap (λ k. unwrap_or (cond (eq label k) (Some y.1) (lookup (eq label) ys)) zero) h.0 ∙ by (eq label x.0) (found xs ys h.2)
        where
          by : (b : Bool) → coefficient eq zero ys label ≡ product (coefficient eq zero xs label) c
              → unwrap_or (cond b (Some y.1) (lookup (eq label) ys)) zero ≡ product (unwrap_or (cond b (Some x.1) (lookup (eq label) xs)) zero) c
          by true rest = h.1.1
          by false rest = rest

  pub held-Relates : (zero : R) → is_held zero → (xs ys : List (L × R)) → Relates (IsProduct is_held value checked product c) xs ys → AreHeld eq zero is_held ys
  held-Relates zero none xs ys h = record { at_label = λ label. found label xs ys h }
    where
      found : (label : L) (xs ys : List (L × R)) → Relates (IsProduct is_held value checked product c) xs ys → is_held (coefficient eq zero ys label)
      found label [] [] h = none
      found label [] (y ∷ ys) h = absurd h
      found label (x ∷ xs) [] h = absurd h
      found label (x ∷ xs) (y ∷ ys) h = by (eq label y.0) (found label xs ys h.2)
        where
          by : (b : Bool) → is_held (coefficient eq zero ys label) → is_held (unwrap_or (cond b (Some y.1) (lookup (eq label) ys)) zero)
          by true rest = h.1.4
          by false rest = rest

  pub are_terms-Relates : InLowestTerms (value c) → value c ≢ whole (pos 0) → (xs ys : List (L × R)) → Relates (IsProduct is_held value checked product c) xs ys → are_terms value is_label xs ≡ true → are_terms value is_label ys ≡ true
  are_terms-Relates low other [] [] h t = refl
  are_terms-Relates low other [] (y ∷ ys) h t = absurd h
  are_terms-Relates low other (x ∷ xs) [] h t = absurd h
  are_terms-Relates low other (x ∷ xs) (y ∷ ys) h t =
      let p = and_parts _ _ t in
      let q = and_parts (is_reduced (value x.1)) (is_label x.0) p.0 in
      let nonzero : value y.1 ≢ whole (pos 0) =
      λ e. product-nonzero (value x.1) (value c) (lowest-is_reduced (value x.1) q.0) low (not_zero-is_reduced (value x.1) q.0) other (sym h.1.2 ∙ e) in
      and_from _ _ (and_from _ _ (is_reduced-lowest (value y.1) h.1.3 nonzero) (ap is_label h.0 ∙ q.1)) (are_terms-Relates low other xs ys h.2 p.1)

  pub fits-Relates : (xs ys : List (L × R)) → Relates (IsProduct is_held value checked product c) xs ys → (t : L × R) → Among t xs → IsRefused is_held checked t.1 c → ⊥
  fits-Relates [] [] h t m r = absurd m
  fits-Relates [] (y ∷ ys) h t m r = absurd m
  fits-Relates (x ∷ xs) [] h t m r = absurd h
  fits-Relates (x ∷ xs) (y ∷ ys) h t (inl here) r =
      answered x.1 c y.1 h.1.0 (subst (λ (u : L × R). IsRefused is_held checked u.1 c) here r)
  fits-Relates (x ∷ xs) (y ∷ ys) h t (inr m) r = fits-Relates xs ys h.2 t m r
