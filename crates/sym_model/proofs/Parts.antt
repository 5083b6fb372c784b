-- Lists of parts: their entries, sizes and zeros at the end (`in_front`, `without_last_zeros`, `part`, `Falls`,
-- `size` of specs/Partition), and lists with one part decreased by 1 (`lowered_at` of specs/Slide).
use Rattle.std.proofs.Common.{◌+◌, List, [], arith, map, refl, ℕ, ◌∷◌, ◌≡◌, ◌++◌, ap, ◌<◌, suc, zero, ◌∙◌, length, ◌≤◌, get_or, ◌-◌, drop, take, take_all, subst, replicate, inl, inr}
use Rattle.sym_model.specs.Sum.{Among}
use Rattle.sym_model.specs.Partition.{size, in_front, without_last_zeros, ArePositive, part, Falls}
use Rattle.sym_model.specs.Alternant.{staircase}
use Rattle.sym_model.specs.Slide.{lowered_at}

pub size-map_add : (f g : ℕ → ℕ) (xs : List ℕ) → size (map (λ j. f j + g j) xs) ≡ size (map f xs) + size (map g xs)
size-map_add f g [] = refl
size-map_add f g (x ∷ xs) = omega (arith, size-map_add f g xs)

pub without_last_zeros-zero : (xs : List ℕ) → without_last_zeros (xs ++ 0 ∷ []) ≡ without_last_zeros xs
without_last_zeros-zero [] = refl
without_last_zeros-zero (x ∷ xs) = ap (in_front x) (without_last_zeros-zero xs)

pub in_front-positive : (a : ℕ) (xs : List ℕ) → 0 < a → in_front a xs ≡ a ∷ xs
in_front-positive zero xs h = absurd (omega arith)
in_front-positive (suc a) xs h = refl

pub without_last_zeros-positive : (xs : List ℕ) → ArePositive xs → without_last_zeros xs ≡ xs
without_last_zeros-positive [] p = refl
without_last_zeros-positive (a ∷ xs) p = ap (in_front a) (without_last_zeros-positive xs p.1) ∙ in_front-positive a xs p.0

pub length-in_front : (a : ℕ) (l : List ℕ) → length (in_front a l) ≤ suc (length l)
length-in_front zero [] = omega arith
length-in_front zero (b ∷ l) = omega arith
length-in_front (suc a) l = omega arith

pub length-without_last_zeros : (xs : List ℕ) → length (without_last_zeros xs) ≤ length xs
length-without_last_zeros [] = omega arith
length-without_last_zeros (a ∷ xs) = omega (arith, length-without_last_zeros xs, length-in_front a (without_last_zeros xs))

pub length-staircase : (n : ℕ) → length (staircase n) ≡ n
length-staircase zero = refl
length-staircase (suc n) = ap suc (length-staircase n)

pub positive-at : (parts : List ℕ) (k : ℕ) → ArePositive parts → k < length parts → 0 < get_or parts k 0
positive-at [] k h l = absurd (omega arith)
positive-at (a ∷ parts) zero h l = h.0
positive-at (a ∷ parts) (suc k) h l = positive-at parts k h.1 (omega arith)

pub rows_held : (inner outer : List ℕ) → ArePositive inner → ((k : ℕ) → get_or inner k 0 ≤ get_or outer k 0) → length inner ≤ length outer
rows_held [] outer p h = omega arith
rows_held (a ∷ inner) [] p h = let q = p.0 in let r = h 0 in absurd (omega arith)
rows_held (a ∷ inner) (b ∷ outer) p h = let q = rows_held inner outer p.1 (λ k. h (suc k)) in omega arith

pub sizes_within : (x y : List ℕ) → ((j : ℕ) → get_or x j 0 ≤ get_or y j 0) → size x ≤ size y
sizes_within [] y h = omega arith
sizes_within (a ∷ x) [] h = let p = h 0 in let r = sizes_within x [] (λ j. h (suc j)) in omega arith
sizes_within (a ∷ x) (b ∷ y) h = let p = h 0 in let r = sizes_within x y (λ j. h (suc j)) in omega arith

pub falls_more : (a b : ℕ) (parts : List ℕ) → a ≤ b → Falls (a ∷ parts) → Falls (b ∷ parts)
falls_more a b [] l f = tt
falls_more a b (c ∷ parts) l f = (let x = f.0 in omega arith, f.1)

pub size-map_push : {A : Type 0} (f : A → ℕ) (xs : List A) (y : A) → size (map f (xs ++ y ∷ [])) ≡ size (map f xs) + f y
size-map_push f [] y = omega arith
size-map_push f (x ∷ xs) y = let h = size-map_push f xs y in omega arith

pub size-drop : (i : ℕ) (parts : List ℕ) → size (drop i parts) ≤ size parts
size-drop zero [] = omega arith
size-drop zero (a ∷ parts) = omega arith
size-drop (suc i) [] = omega arith
size-drop (suc i) (a ∷ parts) = let h = size-drop i parts in omega arith

pub split_first : (parts : List ℕ) → 1 ≤ length parts → get_or parts 0 0 ∷ take (length parts - 1) (drop 1 parts) ≡ parts
split_first [] h = absurd (omega arith)
split_first (k ∷ parts) h = ap (λ r. k ∷ r) (take_all (length (k ∷ parts) - 1) parts (omega arith))

pub get_or-in_front : (a n : ℕ) (l : List ℕ) → get_or (in_front a l) n 0 ≡ get_or (a ∷ l) n 0
get_or-in_front zero zero [] = refl
get_or-in_front zero (suc n) [] = refl
get_or-in_front zero n (b ∷ l) = refl
get_or-in_front (suc a) n l = refl

pub get_or-without_last_zeros : (l : List ℕ) (n : ℕ) → get_or (without_last_zeros l) n 0 ≡ get_or l n 0
get_or-without_last_zeros [] n = refl
get_or-without_last_zeros (a ∷ l) zero = get_or-in_front a zero (without_last_zeros l)
get_or-without_last_zeros (a ∷ l) (suc n) = get_or-in_front a (suc n) (without_last_zeros l) ∙ get_or-without_last_zeros l n

pub at_least_one : (parts : List ℕ) → ArePositive parts → (i : ℕ) → i < length parts → 1 ≤ get_or parts i 0
at_least_one [] p i h = absurd (omega arith)
at_least_one (a ∷ parts) p zero h = p.0
at_least_one (a ∷ parts) p (suc i) h = at_least_one parts p.1 i (omega arith)

pub part-get_or : (parts : List ℕ) (i : ℕ) → part parts (i + 1) ≡ get_or parts i 0
part-get_or parts i = let e : i + 1 - 1 ≡ i = omega arith in ap (λ k. get_or parts k 0) e

pub size-append : (a b : List ℕ) → size (a ++ b) ≡ size a + size b
size-append [] b = let e : size b ≡ 0 + size b = omega arith in e
size-append (x ∷ a) b = let e = size-append a b in omega arith

pub size-in_front : (a : ℕ) (xs : List ℕ) → size (in_front a xs) ≡ a + size xs
size-in_front zero [] = refl
size-in_front zero (b ∷ xs) = refl
size-in_front (suc a) xs = refl

pub Falls-front : (a : ℕ) (parts : List ℕ) → get_or parts 0 0 ≤ a → Falls parts → Falls (a ∷ parts)
Falls-front a [] h f = tt
Falls-front a (b ∷ parts) h f = (h, f)

pub get_or-lowered : (xs : List ℕ) (i : ℕ) → get_or (lowered_at (suc i) xs) i 0 ≡ get_or xs i 0 - 1
get_or-lowered [] i = omega arith
get_or-lowered (a ∷ xs) zero = refl
get_or-lowered (a ∷ xs) (suc i) = get_or-lowered xs i

pub get_or-not_lowered : (xs : List ℕ) (i k : ℕ) → (k ≡ i → ⊥) → get_or (lowered_at (suc i) xs) k 0 ≡ get_or xs k 0
get_or-not_lowered [] i k h = refl
get_or-not_lowered (a ∷ xs) zero zero h = absurd (h refl)
get_or-not_lowered (a ∷ xs) zero (suc k) h = refl
get_or-not_lowered (a ∷ xs) (suc i) zero h = refl
get_or-not_lowered (a ∷ xs) (suc i) (suc k) h = get_or-not_lowered xs i k (λ e. h (ap suc e))

pub size-lowered : (xs : List ℕ) (i : ℕ) → 0 < get_or xs i 0 → size (lowered_at (suc i) xs) + 1 ≡ size xs
size-lowered [] i h = absurd (omega arith)
size-lowered (a ∷ xs) zero h = omega arith
size-lowered (a ∷ xs) (suc i) h = omega (arith, size-lowered xs i h)

pub positive_within : (xs : List ℕ) (i : ℕ) → 0 < get_or xs i 0 → i < length xs
positive_within [] i h = absurd (omega arith)
positive_within (x ∷ xs) zero h = omega arith
positive_within (x ∷ xs) (suc i) h = omega (arith, positive_within xs i h)

pub Falls_from_places : (numbers : List ℕ) → ((i : ℕ) → get_or numbers (i + 1) 0 ≤ get_or numbers i 0) → Falls numbers
Falls_from_places [] h = tt
Falls_from_places (a ∷ []) h = tt
Falls_from_places (a ∷ b ∷ numbers) h =
    let e : 0 + 1 ≡ suc 0 = omega arith in
    (h 0, Falls_from_places (b ∷ numbers) (λ i. let d : suc i + 1 ≡ suc (i + 1) = omega arith in subst (λ n. get_or (a ∷ b ∷ numbers) n 0 ≤ get_or (b ∷ numbers) i 0) d (h (suc i))))

pub size-ones : (k : ℕ) → size (replicate k 1) ≡ k
size-ones zero = refl
size-ones (suc k) = omega (arith, size-ones k)

pub Falls-zeros : (n : ℕ) → Falls (replicate n 0)
Falls-zeros zero = tt
Falls-zeros (suc zero) = tt
Falls-zeros (suc (suc n)) = (omega arith, Falls-zeros (suc n))

pub size-zeros : (n : ℕ) → size (replicate n 0) ≡ 0
size-zeros zero = refl
size-zeros (suc n) = omega (arith, size-zeros n)

pub get_or-le-size : (xs : List ℕ) (i : ℕ) → get_or xs i 0 ≤ size xs
get_or-le-size [] i = omega arith
get_or-le-size (x ∷ xs) zero = omega arith
get_or-le-size (x ∷ xs) (suc i) = omega (arith, get_or-le-size xs i)

pub size-map_none : (xs : List ℕ) → size (map (λ (j : ℕ). 0) xs) ≡ 0
size-map_none [] = refl
size-map_none (x ∷ xs) = omega (arith, size-map_none xs)

pub in_front-more : (a b : ℕ) (xs : List ℕ) → in_front a (b ∷ xs) ≡ a ∷ b ∷ xs
in_front-more zero b xs = refl
in_front-more (suc a) b xs = refl

pub part-drop : (inner : List ℕ) → part (drop 1 inner) 1 ≡ part inner 2
part-drop [] = refl
part-drop (b ∷ inner) = refl

pub part-in_front : (a : ℕ) (parts : List ℕ) → part (in_front a parts) 1 ≡ a
part-in_front zero [] = refl
part-in_front zero (b ∷ parts) = refl
part-in_front (suc a) parts = refl

pub falls_front : (front : List ℕ) (last : ℕ) → Falls (front ++ last ∷ []) → Falls front
falls_front [] last f = tt
falls_front (a ∷ []) last f = tt
falls_front (a ∷ b ∷ front) last f = (f.0, falls_front (b ∷ front) last f.1)

pub falls_after : (parts : List ℕ) → Falls parts → Falls (drop 1 parts)
falls_after [] f = tt
falls_after (a ∷ []) f = tt
falls_after (a ∷ b ∷ parts) f = f.1

pub ArePositive-ones : (s : ℕ) → ArePositive (replicate s 1)
ArePositive-ones zero = tt
ArePositive-ones (suc s) = (omega arith, ArePositive-ones s)

pub ArePositive_from : (xs : List ℕ) → ((a : ℕ) → Among a xs → 0 < a) → ArePositive xs
ArePositive_from [] h = tt
ArePositive_from (x ∷ xs) h = (h x (inl refl), ArePositive_from xs (λ a m. h a (inr m)))

pub size-first : (parts : List ℕ) → size parts ≡ part parts 1 + size (drop 1 parts)
size-first [] = refl
size-first (a ∷ parts) = refl

pub first_positive : (parts : List ℕ) → ArePositive parts → 0 < size parts → 0 < part parts 1
first_positive [] p h = absurd (omega arith)
first_positive (a ∷ parts) p h = p.0
