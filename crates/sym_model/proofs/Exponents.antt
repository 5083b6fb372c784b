-- Exponent lists: the test `same` for equality, sums (`join`), and lists cut or padded to n places (`resize`).
use Rattle.std.proofs.Common.{◌≡◌, ℕ, zero, suc, ◌+◌, ◌≤◌, max, ◌⊎◌, Bool, true, false, ◌&&◌, ◌==◌, List, [], ◌∷◌, length, replicate, sym, ◌∙◌, ap, ap₂, subst, refl, inl, inr, arith, eqb-true, eq-eqb, add-zero, add_comm, add_assoc, get_or, rules}
use Rattle.std.proofs.lemmas.Bool.{and_parts, and_from, cases_Bool, false_from_ne_true, both_ways}
use Rattle.std.proofs.Math.Bool.{and-true}
use Rattle.sym_model.specs.Polynomial.{same, join, resize, all_zero, fits_in}
use Rattle.sym_model.specs.Partition.{size}
use Rattle.sym_model.specs.Sum.{Among}
use Rattle.std.specs.Prelude.{nat_eq}
use Rattle.std.specs.Cmp.Lexicographic.{pointwise}

pub tests_agree : (x y : Bool) → (x ≡ true → y ≡ true) → (y ≡ true → x ≡ true) → x ≡ y
tests_agree true y f g = sym (f refl)
tests_agree false true f g = g refl
tests_agree false false f g = refl

-- ---- the test `same`: two exponent lists pass it if and only if they are equal

pub same_refl : (α : List ℕ) → same α α ≡ true
same_refl [] = refl
same_refl (a ∷ α) = and_from (a == a) (same α α) (eq-eqb a a refl) (same_refl α)

pub same_true : (α β : List ℕ) → same α β ≡ true → α ≡ β
same_true [] [] e = refl
same_true [] (b ∷ β) e = absurd (cc)
same_true (a ∷ α) [] e = absurd (cc)
same_true (a ∷ α) (b ∷ β) e = let p = and_parts (a == b) (same α β) e in ap₂ ◌∷◌ (eqb-true a b p.0) (same_true α β p.1)

pub same_from : (α β : List ℕ) → α ≡ β → same α β ≡ true
same_from α β e = subst (λ γ. same α γ ≡ true) e (same_refl α)

pub same_false : (α β : List ℕ) → same α β ≡ false → α ≡ β → ⊥
same_false α β e d = both_ways (same α β) e (same_from α β d)

pub same_apart : (α β : List ℕ) → (α ≡ β → ⊥) → same α β ≡ false
same_apart α β h = false_from_ne_true (same α β) (λ e. h (same_true α β e))

pub same_or_not : (α β : List ℕ) → (α ≡ β) ⊎ (α ≡ β → ⊥)
same_or_not α β = elim (cases_Bool (same α β)) [ inl e ↦ inl (same_true α β e) | inr e ↦ inr (same_false α β e) ]

pub same_sym : (α β : List ℕ) → same α β ≡ same β α
same_sym α β = tests_agree (same α β) (same β α) (λ e. same_from β α (sym (same_true α β e))) (λ e. same_from α β (sym (same_true β α e)))

-- ---- sums of exponent lists (`join`), the exponents of products of monomials

pub join-nil : (α : List ℕ) → join α [] ≡ α
join-nil [] = refl
join-nil (a ∷ α) = refl

pub join_comm : (α β : List ℕ) → join α β ≡ join β α
join_comm [] β = sym (join-nil β)
join_comm (a ∷ α) [] = refl
join_comm (a ∷ α) (b ∷ β) = ap₂ ◌∷◌ (add_comm a b) (join_comm α β)

pub join_assoc : (α β γ : List ℕ) → join (join α β) γ ≡ join α (join β γ)
join_assoc [] β γ = refl
join_assoc (a ∷ α) [] γ = refl
join_assoc (a ∷ α) (b ∷ β) [] = refl
join_assoc (a ∷ α) (b ∷ β) (c ∷ γ) = ap₂ ◌∷◌ (add_assoc a b c) (join_assoc α β γ)

pub length-join : (α β : List ℕ) → length (join α β) ≡ max (length α) (length β)
length-join [] β = omega arith
length-join (a ∷ α) [] = omega arith
length-join (a ∷ α) (b ∷ β) = let e = length-join α β in omega arith

pub length-join_same : (n : ℕ) (α β : List ℕ) → length α ≡ n → length β ≡ n → length (join α β) ≡ n
length-join_same n α β d e = omega (arith, length-join α β)

pub join_zeros : (n : ℕ) (α : List ℕ) → n ≤ length α → join (replicate n 0) α ≡ α
join_zeros zero α h = refl
join_zeros (suc n) [] h = absurd (omega arith)
join_zeros (suc n) (a ∷ α) h = ap₂ ◌∷◌ (let e : 0 + a ≡ a = omega arith in e) (join_zeros n α (omega arith))

pub join_cancel_left : (α β γ : List ℕ) → length β ≡ length γ → join α β ≡ join α γ → β ≡ γ
join_cancel_left [] β γ l e = e
join_cancel_left (a ∷ α) [] [] l e = refl
join_cancel_left (a ∷ α) [] (c ∷ γ) l e = absurd (omega arith)
join_cancel_left (a ∷ α) (b ∷ β) [] l e = absurd (omega arith)
join_cancel_left (a ∷ α) (b ∷ β) (c ∷ γ) l e =
    let h : a + b ≡ a + c = cc in
    let t : join α β ≡ join α γ = cc in
    ap₂ ◌∷◌ (omega arith) (join_cancel_left α β γ (omega arith) t)

-- the degree of a product of two monomials is the sum of their degrees
pub size-join : (α β : List ℕ) → size (join α β) ≡ size α + size β
size-join [] β = omega arith
size-join (a ∷ α) [] = omega arith
size-join (a ∷ α) (b ∷ β) = let h = size-join α β in omega arith

-- ---- exponent lists cut or padded to n places (`resize`), and the tests for zeros everywhere or after place n (`all_zero`, `fits_in`)

pub length-resize : (n : ℕ) (α : List ℕ) → length (resize n α) ≡ n
length-resize zero α = refl
length-resize (suc n) [] = ap suc (length-resize n [])
length-resize (suc n) (a ∷ α) = ap suc (length-resize n α)

pub resize_same : (n : ℕ) (α : List ℕ) → length α ≡ n → resize n α ≡ α
resize_same zero [] e = refl
resize_same zero (a ∷ α) e = absurd (omega arith)
resize_same (suc n) [] e = absurd (omega arith)
resize_same (suc n) (a ∷ α) e = ap (λ β. a ∷ β) (resize_same n α (omega arith))

pub resize-nil : (n : ℕ) → resize n [] ≡ replicate n 0
resize-nil zero = refl
resize-nil (suc n) = ap (λ β. 0 ∷ β) (resize-nil n)

pub resize_zeros : (n k : ℕ) → resize n (replicate k 0) ≡ replicate n 0
resize_zeros zero k = refl
resize_zeros (suc n) zero = resize-nil (suc n)
resize_zeros (suc n) (suc k) = ap (λ β. 0 ∷ β) (resize_zeros n k)

pub resize-join : (n : ℕ) (α β : List ℕ) → resize n (join α β) ≡ join (resize n α) (resize n β)
resize-join zero α β = refl
resize-join (suc n) [] [] = ap₂ ◌∷◌ refl (resize-join n [] [])
resize-join (suc n) [] (b ∷ β) = ap₂ ◌∷◌ (let e : b ≡ 0 + b = omega arith in e) (resize-join n [] β)
resize-join (suc n) (a ∷ α) [] = ap₂ ◌∷◌ (sym (add-zero a)) (ap (resize n) (sym (join-nil α)) ∙ resize-join n α [])
resize-join (suc n) (a ∷ α) (b ∷ β) = ap₂ ◌∷◌ refl (resize-join n α β)

zero_sum : (a b : ℕ) → (a + b == 0) ≡ ((a == 0) && (b == 0))
zero_sum a b = search rules

pub and_exchange : (p q r s : Bool) → ((p && q) && (r && s)) ≡ ((p && r) && (q && s))
and_exchange true true r s = refl
and_exchange true false true s = refl
and_exchange true false false s = refl
and_exchange false q r s = refl

pub all_zero-join : (α β : List ℕ) → all_zero (join α β) ≡ (all_zero α && all_zero β)
all_zero-join [] β = refl
all_zero-join (a ∷ α) [] = sym (and-true (all_zero (a ∷ α)))
all_zero-join (a ∷ α) (b ∷ β) = ap₂ ◌&&◌ (zero_sum a b) (all_zero-join α β) ∙ and_exchange (a == 0) (b == 0) (all_zero α) (all_zero β)

pub fits_in-join : (n : ℕ) (α β : List ℕ) → fits_in n (join α β) ≡ (fits_in n α && fits_in n β)
fits_in-join zero α β = all_zero-join α β
fits_in-join (suc n) [] β = refl
fits_in-join (suc n) (a ∷ α) [] = sym (and-true (fits_in n α))
fits_in-join (suc n) (a ∷ α) (b ∷ β) = fits_in-join n α β

pub all_zero_zeros : (k : ℕ) → all_zero (replicate k 0) ≡ true
all_zero_zeros zero = refl
all_zero_zeros (suc k) = all_zero_zeros k

pub fits_in_zeros : (n k : ℕ) → fits_in n (replicate k 0) ≡ true
fits_in_zeros zero k = all_zero_zeros k
fits_in_zeros (suc n) zero = refl
fits_in_zeros (suc n) (suc k) = fits_in_zeros n k

pub fits_in_length : (n : ℕ) (α : List ℕ) → length α ≤ n → fits_in n α ≡ true
fits_in_length zero [] h = refl
fits_in_length zero (a ∷ α) h = absurd (omega arith)
fits_in_length (suc n) [] h = refl
fits_in_length (suc n) (a ∷ α) h = fits_in_length n α (omega arith)

pub get_or-join : (α β : List ℕ) (k : ℕ) → get_or (join α β) k 0 ≡ get_or α k 0 + get_or β k 0
get_or-join [] β k = omega arith
get_or-join (a ∷ α) [] k = omega arith
get_or-join (a ∷ α) (b ∷ β) zero = refl
get_or-join (a ∷ α) (b ∷ β) (suc k) = get_or-join α β k

pub among_or_not : (x : List ℕ) (xs : List (List ℕ)) → Among x xs ⊎ (Among x xs → ⊥)
among_or_not x [] = inr (λ m. m)
among_or_not x (y ∷ xs) = by (same_or_not x y) (among_or_not x xs)
  where
    by : (x ≡ y) ⊎ (x ≡ y → ⊥) → Among x xs ⊎ (Among x xs → ⊥) → Among x (y ∷ xs) ⊎ (Among x (y ∷ xs) → ⊥)
    by (inl e) r = inl (inl e)
    by (inr n) (inl m) = inl (inr m)
    by (inr n) (inr k) = inr (λ m. elim m [ inl e ↦ n e | inr q ↦ k q ])

pub pointwise-same : (l r : List ℕ) → pointwise nat_eq l r ≡ same l r
pointwise-same [] [] = refl
pointwise-same [] (b ∷ r) = refl
pointwise-same (a ∷ l) [] = refl
pointwise-same (a ∷ l) (b ∷ r) = ap (λ t. (a == b) && t) (pointwise-same l r)
