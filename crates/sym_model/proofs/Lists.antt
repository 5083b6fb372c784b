-- Lists: `flat_map`, `filter` and `map` over lists that are appended or mapped, and the element at a place of a list.
use Rattle.std.proofs.Common.{◌<◌, List, [], arith, get_or, length, refl, suc, ℕ, ◌∷◌, ◌≡◌, ◌++◌, ap, sym, ◌∙◌, append-nil, drop, ap₂, inl, inr, map, Bool, cond, false, true, ◌+◌, filter, flat_map, ◌≤◌, take, ◌==◌, zero, rules}
use Rattle.std.proofs.Math.Seq.{split_at}
use Rattle.std.proofs.lemmas.List.{take_more}
use Rattle.sym_model.specs.Sum.{Among}
use Rattle.sym_model.specs.PlaceOrders.{smaller}
use Rattle.std.proofs.lemmas.List.Elements.{filter-append}
use Rattle.std.proofs.lemmas.Bool.{eqb-true}

pub all_read : {A : Type 0} (done rest all : List A) → length rest ≡ 0 → done ++ rest ≡ all → done ≡ all
all_read done [] all none e = sym (append-nil done) ∙ e
all_read done (x ∷ rest) all none e = absurd (omega arith)

pub drop-none : {A : Type 0} (w : List A) → drop 0 w ≡ w
drop-none [] = refl
drop-none (a ∷ w) = refl

pub length-at : {A : Type 0} (rows : List (List A)) (i : ℕ) → length (get_or rows i []) ≡ get_or (map length rows) i 0
length-at [] i = refl
length-at (row ∷ rows) zero = refl
length-at (row ∷ rows) (suc i) = length-at rows i

pub none_chosen : {A : Type 0} (test : Bool) (x : A) → cond test (x ∷ []) [] ≡ [] → test ≡ false
none_chosen true x h = cc
none_chosen false x h = refl

pub no_items : {A : Type 0} (xs : List A) → (length xs == 0) ≡ true → xs ≡ []
no_items [] h = refl
no_items (x ∷ xs) h = absurd (let e = eqb-true (length (x ∷ xs)) 0 h in omega arith)

pub some_items : {A : Type 0} (xs : List A) → (length xs == 0) ≡ false → 0 < length xs
some_items [] h = cc
some_items (x ∷ xs) h = omega arith

pub length-filter-within : {A : Type 0} (test : A → Bool) (xs : List A) → length (filter test xs) ≤ length xs
length-filter-within test [] = omega arith
length-filter-within {A} test (x ∷ xs) = search (rules, (length-filter-within test xs))

pub map-among : {A B : Type 0} (f g : A → B) (xs : List A) → ((x : A) → Among x xs → f x ≡ g x) → map f xs ≡ map g xs
map-among f g [] h = refl
map-among f g (x ∷ xs) h = ap₂ ◌∷◌ (h x (inl refl)) (map-among f g xs (λ y m. h y (inr m)))

pub select-each : {A B : Type 0} (test : B → Bool) (f : A → List B) (xs : List A) → filter test (flat_map f xs) ≡ flat_map (λ (x : A). filter test (f x)) xs
select-each test f [] = refl
select-each test f (x ∷ xs) = filter-append test (f x) (flat_map f xs) ∙ ap (λ l. filter test (f x) ++ l) (select-each test f xs)

pub select-map : {A B : Type 0} (test : B → Bool) (g : A → B) (xs : List A) → filter test (map g xs) ≡ map g (filter (λ (x : A). test (g x)) xs)
select-map test g [] = refl
select-map test g (x ∷ xs) = search (rules, (select-map test g xs))

pub select-none : (test : List ℕ → Bool) (xs : List (List ℕ)) → ((x : List ℕ) → Among x xs → test x ≡ false) → filter test xs ≡ []
select-none test [] h = refl
select-none test (x ∷ xs) h =
    ap (λ b. cond b (x ∷ filter test xs) (filter test xs)) (h x (inl refl)) ∙ select-none test xs (λ y m. h y (inr m))

pub select-ext : (test other : List ℕ → Bool) (xs : List (List ℕ)) → ((x : List ℕ) → test x ≡ other x) → filter test xs ≡ filter other xs
select-ext test other [] h = refl
select-ext test other (x ∷ xs) h = ap₂ (λ b l. cond b (x ∷ l) l) (h x) (select-ext test other xs h)

pub each-ext : (f g : ℕ → List (List ℕ)) (xs : List ℕ) → ((x : ℕ) → f x ≡ g x) → flat_map f xs ≡ flat_map g xs
each-ext f g [] h = refl
each-ext f g (x ∷ xs) h = ap₂ (λ a b. a ++ b) (h x) (each-ext f g xs h)

pub map-map : {A B C : Type 0} (f : B → C) (h : A → B) (xs : List A) → map f (map h xs) ≡ map (λ (x : A). f (h x)) xs
map-map f h [] = refl
map-map f h (x ∷ xs) = ap (λ l. f (h x) ∷ l) (map-map f h xs)

pub smaller-within : (a : ℕ) (w : List ℕ) → smaller a w ≤ length w
smaller-within a [] = omega arith
smaller-within a (b ∷ w) = search (rules, (smaller-within a w))

pub take-read : {A : Type 0} (xs : List A) (i : ℕ) (x : A) → i < length xs → x ≡ get_or xs i x → take i xs ++ x ∷ [] ≡ take (i + 1) xs
take-read xs i x h e = ap (λ y. take i xs ++ y ∷ []) e ∙ sym (take_more xs i x h)

pub split-read : {A : Type 0} (xs : List A) (i : ℕ) (x : A) → i < length xs → x ≡ get_or xs i x → take i xs ++ x ∷ drop (suc i) xs ≡ xs
split-read xs i x h e = ap (λ y. take i xs ++ y ∷ drop (suc i) xs) e ∙ sym (split_at xs i x h)
