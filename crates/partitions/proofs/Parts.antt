-- Weakly decreasing lists, sizes, and zeros at the end of a list.
use Rattle.std.proofs.Common.{◌≡◌, ℕ, zero, suc, ◌+◌, ◌-◌, ◌<◌, ◌≤◌, List, [], ◌∷◌, ◌++◌, length, take, get_or, refl, sym, ap, ◌∙◌, subst, arith, length-take}
use Rattle.std.proofs.lemmas.List.{take_more, get_or-take}
use Rattle.sym_model.specs.Partition.{IsPartition, Falls, ArePositive, size, in_front, without_last_zeros}
use Rattle.sym_model.proofs.Parts.{without_last_zeros-zero, size-append, in_front-more}
use Rattle.partitions.specs.Limits.{RisesFirstAt}
use Rattle.strip_laws.proofs.Strips.{falls_get}

pub size-take_more : (xs : List ℕ) (i : ℕ) → i < length xs → size (take (i + 1) xs) ≡ size (take i xs) + get_or xs i 0
size-take_more xs i h = ap size (take_more xs i 0 h) ∙ size-append (take i xs) (get_or xs i 0 ∷ []) ∙ omega arith

in_front-push : (a : ℕ) (xs : List ℕ) (b : ℕ) → in_front a (xs ++ b ∷ []) ≡ a ∷ (xs ++ b ∷ [])
in_front-push a [] b = in_front-more a b []
in_front-push a (x ∷ xs) b = in_front-more a x (xs ++ b ∷ [])

pub without_last_zeros-positive :
    (xs : List ℕ) (b : ℕ) → 0 < b → without_last_zeros (xs ++ b ∷ []) ≡ xs ++ b ∷ []
without_last_zeros-positive [] zero h = absurd (omega arith)
without_last_zeros-positive [] (suc b) h = refl
without_last_zeros-positive (x ∷ xs) b h =
    ap (in_front x) (without_last_zeros-positive xs b h) ∙ in_front-push x xs b

-- if the number of xs at index n is 0, the first n and the first n + 1 numbers of xs are the same list once the zeros at the end are removed
pub cut-zero :
    (xs : List ℕ) (n : ℕ) → n < length xs → get_or xs n 0 ≡ 0
    → without_last_zeros (take n xs) ≡ without_last_zeros (take (n + 1) xs)
cut-zero xs n h z =
    sym (ap without_last_zeros (take_more xs n 0 h) ∙ ap (λ a. without_last_zeros (take n xs ++ a ∷ [])) z
    ∙ without_last_zeros-zero (take n xs))

-- if the number of xs at index n is positive, the list of the first n + 1 numbers of xs has no zeros at its end
pub cut-positive :
    (xs : List ℕ) (n : ℕ) → n < length xs → 0 < get_or xs n 0
    → without_last_zeros (take (n + 1) xs) ≡ take (n + 1) xs
cut-positive xs n h p =
    ap without_last_zeros (take_more xs n 0 h) ∙ without_last_zeros-positive (take n xs) (get_or xs n 0) p
    ∙ sym (take_more xs n 0 h)

-- a list is weakly decreasing if no number is greater than the one before it
pub Falls-from :
    (xs : List ℕ) → ((k : ℕ) → suc k < length xs → get_or xs (suc k) 0 ≤ get_or xs k 0) → Falls xs
Falls-from [] h = tt
Falls-from (a ∷ []) h = tt
Falls-from (a ∷ b ∷ xs) h = (h 0 (omega arith), Falls-from (b ∷ xs) (λ k q. h (suc k) (omega arith)))

pub Falls-take :
    (xs : List ℕ) (n : ℕ) → n ≤ length xs
    → ((k : ℕ) → suc k < n → get_or xs (suc k) 0 ≤ get_or xs k 0) → Falls (take n xs)
Falls-take xs n m h =
    Falls-from (take n xs)
    (λ k q.
    let below : suc k < n = omega (arith, length-take {A = ℕ} n xs) in
    let here : k < n = omega arith in
    rw (get_or-take n xs (suc k) 0, get_or-take n xs k 0) (h k below))

-- a weakly decreasing list has no place that is the first with a number greater than the one before it (`RisesFirstAt`)
pub Falls-rises : (xs : List ℕ) (at : ℕ) → Falls xs → RisesFirstAt xs at → ⊥
Falls-rises xs zero f r = omega (arith, r.later)
Falls-rises xs (suc k) f r =
    let e : suc k - 1 ≡ k = omega arith in
    let up : get_or xs k 0 < get_or xs (suc k) 0 = subst (λ i. get_or xs i 0 < get_or xs (suc k) 0) e r.rises in
    omega (arith, falls_get xs f k)

rises-first :
    (xs : List ℕ) (a b : ℕ) → RisesFirstAt xs a → RisesFirstAt xs b → a < b → ⊥
rises-first xs zero b r s h = omega (arith, r.later)
rises-first xs (suc k) b r s h =
    let e : suc k - 1 ≡ k = omega arith in
    let up : get_or xs k 0 < get_or xs (suc k) 0 = subst (λ i. get_or xs i 0 < get_or xs (suc k) 0) e r.rises in
    let m : b ≤ length xs = omega (arith, s.within) in
    let shorter : suc k < length (take b xs) = omega (arith, length-take {A = ℕ} b xs) in
    let here : k < b = omega arith in
    let down = falls_get (take b xs) s.before k in
    let plain : get_or xs (suc k) 0 ≤ get_or xs k 0 =
    rw (get_or-take b xs (suc k) 0, get_or-take b xs k 0) at down in
    omega arith

-- if a and b are both the first place with a number greater than the one before it, a is b
pub rises-same : (xs : List ℕ) (a b : ℕ) → RisesFirstAt xs a → RisesFirstAt xs b → a ≡ b
rises-same xs a b r s = omega (arith, rises-first xs a b r s, rises-first xs b a s r)

in_front-positive : (a : ℕ) (xs : List ℕ) → (Falls xs → ArePositive xs) → Falls (in_front a xs) → ArePositive (in_front a xs)
in_front-positive zero [] p f = tt
in_front-positive (suc a) [] p f = (omega arith, tt)
in_front-positive zero (b ∷ xs) p f = let q = p f.1 in absurd (omega (arith, q.0, f.0))
in_front-positive (suc a) (b ∷ xs) p f = (omega arith, p f.1)

pub without_last_zeros-ArePositive :
    (xs : List ℕ) → Falls (without_last_zeros xs) → ArePositive (without_last_zeros xs)
without_last_zeros-ArePositive [] f = tt
without_last_zeros-ArePositive (a ∷ xs) f =
    in_front-positive a (without_last_zeros xs) (without_last_zeros-ArePositive xs) f

pub without_last_zeros-IsPartition :
    (xs : List ℕ) → Falls (without_last_zeros xs) → IsPartition (without_last_zeros xs)
without_last_zeros-IsPartition xs f =
    record { falls = f; positive = without_last_zeros-ArePositive xs f }
