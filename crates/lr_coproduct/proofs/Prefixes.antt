-- The elements of a list by index (`IsAt`), and the first elements of a list.
use Rattle.std.proofs.Common.{◌≡◌, ℕ, zero, suc, ◌+◌, ◌<◌, ◌⊎◌, List, [], ◌∷◌, ◌++◌, length, take, refl, sym, ap, ◌∙◌, subst, inl, inr, arith}
use Rattle.std.proofs.lemmas.List.{get_or_default}
use Rattle.sym_model.specs.Sum.{Among}
use Rattle.lr_product.proofs.Pruned.{take_none}
pub use Rattle.lr_coproduct.specs.InnerShapeList.{IsAt}

pub at_among : {A : Type 0} (xs : List A) (i : ℕ) (x : A) → IsAt xs i x → Among x xs
at_among [] i x r = let l = r.within in absurd (omega arith)
at_among (y ∷ xs) zero x r = inl r.is
at_among (y ∷ xs) (suc i) x r = inr (at_among xs i x (let l = r.within in record { within = omega arith; is = r.is }))

pub take_next : {A : Type 0} (xs : List A) (i : ℕ) (x : A) → IsAt xs i x → take (i + 1) xs ≡ take i xs ++ (x ∷ [])
take_next [] i x r = let l = r.within in absurd (omega arith)
take_next (y ∷ xs) zero x r = ap (λ z. z ∷ take 0 xs) (sym r.is) ∙ ap (λ l. x ∷ l) (take_none xs)
take_next (y ∷ xs) (suc i) x r =
    let e : suc i + 1 ≡ suc (i + 1) = omega arith in
    ap (λ j. take j (y ∷ xs)) e ∙ ap (λ l. y ∷ l) (take_next xs i x (let l = r.within in record { within = omega arith; is = r.is }))

pub either_at : {A : Type 0} (P : A → Type 0) (xs : List A) (i : ℕ) (x z : A) → IsAt xs i x → Among z (take (i + 1) xs) → P x → (Among z (take i xs) → P z) → P z
either_at {A} P xs i x z r m here before = by (take i xs) (subst (λ l. Among z l) (take_next xs i x r) m) before
  where
    by : (l : List A) → Among z (l ++ (x ∷ [])) → (Among z l → P z) → P z
    by [] (inl e) k = subst P (sym e) here
    by [] (inr q) k = absurd q
    by (y ∷ l) (inl e) k = k (inl e)
    by (y ∷ l) (inr q) k = by l q (λ n. k (inr n))

pub among_none : {A : Type 0} (x : A) (m : ℕ) → Among x (take m []) → ⊥
among_none x zero k = k
among_none x (suc m) k = k

pub at_last : {A : Type 0} (xs : List A) (y : A) (i : ℕ) (x : A) → IsAt (xs ++ (y ∷ [])) i x → IsAt xs i x ⊎ ((i ≡ length xs) × (x ≡ y))
at_last [] y zero x r = inr (refl, r.is)
at_last [] y (suc i) x r = let l = r.within in absurd (omega arith)
at_last (z ∷ xs) y zero x r = inl (record { within = omega arith; is = r.is })
at_last (z ∷ xs) y (suc i) x r =
    elim (at_last xs y i x (record { within = let l = r.within in omega arith; is = r.is })) [
      | inl k ↦ inl (record { within = let l = k.within in omega arith; is = k.is })
      | inr k ↦ inr (ap suc k.0, k.1)
    ]

pub at_same : {A : Type 0} (xs : List A) (i : ℕ) (x y : A) → IsAt xs i x → IsAt xs i y → x ≡ y
at_same xs i x y a b = a.is ∙ get_or_default xs i x y a.within ∙ sym b.is

pub index_of : {A : Type 0} (xs : List A) (m : ℕ) (x : A) → Among x (take m xs) → (i : ℕ) × (i < m) × IsAt xs i x
index_of [] m x k = absurd (among_none x m k)
index_of (y ∷ xs) zero x k = absurd k
index_of (y ∷ xs) (suc m) x (inl e) = (0, omega arith, record { within = omega arith; is = e })
index_of (y ∷ xs) (suc m) x (inr k) =
    let r = index_of xs m x k in
    let a = r.1 in
    let b = r.2.within in
    (suc r.0, omega arith, record { within = omega arith; is = r.2.is })

pub at_taken : {A : Type 0} (xs : List A) (i m : ℕ) (x : A) → IsAt xs i x → i < m → Among x (take m xs)
at_taken [] i m x r l = let k = r.within in absurd (omega arith)
at_taken (y ∷ xs) i zero x r l = absurd (omega arith)
at_taken (y ∷ xs) zero (suc m) x r l = inl r.is
at_taken (y ∷ xs) (suc i) (suc m) x r l = inr (at_taken xs i m x (let k = r.within in record { within = omega arith; is = r.is }) (omega arith))

pub index_in : {A : Type 0} (xs : List A) (x : A) → Among x xs → (i : ℕ) × IsAt xs i x
index_in [] x k = absurd k
index_in (y ∷ xs) x (inl e) = (0, record { within = omega arith; is = e })
index_in (y ∷ xs) x (inr k) = let r = index_in xs x k in (suc r.0, record { within = let l = r.1.within in omega arith; is = r.1.is })
