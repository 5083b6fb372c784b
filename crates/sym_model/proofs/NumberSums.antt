-- Sums of natural numbers over lists: `sum_by` of specs/Sum.
--     sum_by-ext, -among, -within       the sums of two functions over one list, compared
--     sum_by-append .. sum_by-each      sums over lists that are built from other lists
--     sum_by-at, -insert, -set, -without       the sum over a list, and one element that is read, inserted, replaced or left out
--     sum_by-part                       the sum over a list whose elements are among those of another list
--     sum_by-none, -zeros, -most        sums that are 0, and an upper bound of a sum
--     sum_by-total                      the sum as an integer
use Rattle.std.proofs.Common.{◌≡◌, sym, ℕ, zero, suc, ◌+◌, ◌*◌, ◌<◌, ◌≤◌, Bool, true, false, cond, List, [], ◌∷◌, ◌++◌, map, flat_map, length, get_or, set, take, drop, refl, sym, ap, ap₂, ◌∙◌, inl, inr, arith, pos, rules}
use Rattle.std.specs.List.{insert}
use Rattle.std.proofs.lemmas.Int.{ints}
use Rattle.std.proofs.lemmas.List.{take-append-drop}
use Rattle.sym_model.specs.Sum.{total, sum_by, Among, Once, Within}
use Rattle.sym_model.proofs.Sums.{without, Within-without, Within_tail}

pub sum_by-ext : {A : Type 0} (f g : A → ℕ) → ((x : A) → f x ≡ g x) → (xs : List A) → sum_by f xs ≡ sum_by g xs
sum_by-ext f g e [] = refl
sum_by-ext f g e (x ∷ xs) = ap₂ ◌+◌ (e x) (sum_by-ext f g e xs)

pub sum_by-among : {A : Type 0} (f g : A → ℕ) (xs : List A) → ((x : A) → Among x xs → f x ≡ g x) → sum_by f xs ≡ sum_by g xs
sum_by-among f g [] e = refl
sum_by-among f g (x ∷ xs) e = ap₂ ◌+◌ (e x (inl refl)) (sum_by-among f g xs (λ y m. e y (inr m)))

pub sum_by-within : {A : Type 0} (f g : A → ℕ) (xs : List A) → ((x : A) → Among x xs → f x ≤ g x) → sum_by f xs ≤ sum_by g xs
sum_by-within f g [] h = omega arith
sum_by-within f g (x ∷ xs) h = search (rules, (sum_by-within f g xs))

pub sum_by-append : {A : Type 0} (f : A → ℕ) (xs ys : List A) → sum_by f (xs ++ ys) ≡ sum_by f xs + sum_by f ys
sum_by-append f [] ys = omega arith
sum_by-append f (x ∷ xs) ys = let h = sum_by-append f xs ys in omega arith

pub sum_by-map : {A B : Type 0} (f : B → ℕ) (g : A → B) (xs : List A) → sum_by f (map g xs) ≡ sum_by (λ (x : A). f (g x)) xs
sum_by-map f g [] = refl
sum_by-map f g (x ∷ xs) = ap (λ s. f (g x) + s) (sum_by-map f g xs)

pub sum_by-each : {A B : Type 0} (f : B → ℕ) (g : A → List B) (xs : List A) → sum_by f (flat_map g xs) ≡ sum_by (λ (x : A). sum_by f (g x)) xs
sum_by-each f g [] = refl
sum_by-each f g (x ∷ xs) = sum_by-append f (g x) (flat_map g xs) ∙ ap (λ s. sum_by f (g x) + s) (sum_by-each f g xs)

pub sum_by-at : {A : Type 0} (f : A → ℕ) (xs : List A) (i : ℕ) (x : A) → i < length xs → x ≡ get_or xs i x → f x ≤ sum_by f xs
sum_by-at f [] i x h e = absurd (omega arith)
sum_by-at f (z ∷ xs) zero x h e = let p = ap f e in omega arith
sum_by-at f (z ∷ xs) (suc i) x h e = let r = sum_by-at f xs i x (omega arith) e in omega arith

pub sum_by-insert : {A : Type 0} (f : A → ℕ) (xs : List A) (i : ℕ) (x : A) → sum_by f (insert xs i x) ≡ sum_by f xs + f x
sum_by-insert f xs i x =
    let a = sum_by-append f (take i xs) (x ∷ drop i xs) in
    let b = ap (sum_by f) (take-append-drop i xs) in
    let c = sum_by-append f (take i xs) (drop i xs) in
    omega arith

pub sum_by-set : {A : Type 0} (f : A → ℕ) (xs : List A) (i : ℕ) (x y : A) → i < length xs → x ≡ get_or xs i x → sum_by f (set xs i y) + f x ≡ sum_by f xs + f y
sum_by-set f [] i x y h e = absurd (omega arith)
sum_by-set f (z ∷ xs) zero x y h e = let p = ap f e in omega arith
sum_by-set f (z ∷ xs) (suc i) x y h e = let r = sum_by-set f xs i x y (omega arith) e in omega arith

pub sum_by-without : {A : Type 0} (f : A → ℕ) (x : A) (xs : List A) (m : Among x xs) → sum_by f xs ≡ f x + sum_by f (without x xs m)
sum_by-without f x [] m = absurd m
sum_by-without f x (y ∷ xs) (inl e) = ap (λ z. f z + sum_by f xs) (sym e)
sum_by-without f x (y ∷ xs) (inr m) = let r = sum_by-without f x xs m in omega arith

pub sum_by-part : {A : Type 0} (f : A → ℕ) (ys xs : List A) → Once ys → Within ys xs → sum_by f ys ≤ sum_by f xs
sum_by-part f [] xs o w = omega arith
sum_by-part f (y ∷ ys) xs o w =
    let m = w y (inl refl) in
    let e = sum_by-without f y xs m in
    let r = sum_by-part f ys (without y xs m) o.1 (Within-without y xs ys m o.0 (Within_tail y ys xs w)) in
    omega arith

pub sum_by-none : {A : Type 0} (f : A → ℕ) (xs : List A) → ((x : A) → Among x xs → f x ≡ 0) → sum_by f xs ≡ 0
sum_by-none f [] e = refl
sum_by-none f (x ∷ xs) e = search (rules, (sum_by-none f xs))

pub sum_by-zero : {A : Type 0} (xs : List A) → sum_by (λ (x : A). 0) xs ≡ 0
sum_by-zero xs = sum_by-none (λ x. 0) xs (λ x m. refl)

pub sum_by-zeros : {A : Type 0} (f g : A → ℕ) (xs : List A) → ((x : A) → g x ≡ 0 → f x ≡ 0) → sum_by g xs ≡ 0 → sum_by f xs ≡ 0
sum_by-zeros f g [] e h = refl
sum_by-zeros f g (x ∷ xs) e h = search (rules, (sum_by-zeros f g xs e (omega arith)))

pub sum_by-cond : {A : Type 0} (b : Bool) (f : A → ℕ) (xs : List A) → sum_by (λ (x : A). cond b (f x) 0) xs ≡ cond b (sum_by f xs) 0
sum_by-cond true f xs = refl
sum_by-cond false f xs = sum_by-zero xs

pub sum_by-most : {A : Type 0} (f : A → ℕ) (xs : List A) (most : ℕ) → ((x : A) → Among x xs → f x ≤ most) → sum_by f xs ≤ length xs * most
sum_by-most f [] most h = omega arith
sum_by-most f (x ∷ xs) most h = search (rules, (sum_by-most f xs most))

pub sum_by-total : {A : Type 0} (f : A → ℕ) (xs : List A) → pos (sum_by f xs) ≡ total (λ (x : A). pos (f x)) xs
sum_by-total f [] = refl
sum_by-total f (x ∷ xs) = let h = sum_by-total f xs in omega (arith, ints)
