-- Lists that a loop builds by appending one element or one list after another.
use Rattle.std.proofs.Common.{◌≡◌, ℕ, ◌+◌, ◌-◌, ◌≢◌, List, [], ◌∷◌, ◌++◌, map, take, reverse, length, get_or, Bool, cond, ◌<◌, sym, ◌∙◌, ap, arith, append-nil, filter, flat_map}
use Rattle.std.proofs.lemmas.List.{take_more, map-append, reverse-append}
use Rattle.sym_model.specs.Partition.{after}
use Rattle.std.proofs.lemmas.Grind.{flat_map-append}
use Rattle.sym_model.proofs.AfterLists.{after-more}
use Rattle.std.proofs.lemmas.List.Elements.{filter-append}

pub each-one : {A B : Type 0} (f : A → List B) (x : A) → flat_map f (x ∷ []) ≡ f x
each-one f x = append-nil (f x)

pub each_after-more : {B : Type 0} (f : ℕ → List B) (k : ℕ) → flat_map f (after 0 (k + 1)) ≡ flat_map f (after 0 k) ++ f (k + 1)
each_after-more f k =
    let e : 0 + k + 1 ≡ k + 1 = omega arith in
    ap (flat_map f) (after-more 0 k) ∙ flat_map-append f (after 0 k) ((0 + k + 1) ∷ []) ∙ ap (λ z. flat_map f (after 0 k) ++ z) (each-one f (0 + k + 1) ∙ ap f e)

pub each_take-more : {A B C : Type 0} (f : B → List C) (g : A → B) (xs : List A) (i : ℕ) (x : A) → i < length xs → x ≡ get_or xs i x
    → flat_map f (map g (take (i + 1) xs)) ≡ flat_map f (map g (take i xs)) ++ f (g x)
each_take-more f g xs i x h e =
    ap (λ l. flat_map f (map g l)) (take_more xs i x h ∙ ap (λ y. take i xs ++ (y ∷ [])) (sym e))
    ∙ ap (flat_map f) (map-append g (take i xs) (x ∷ []))
    ∙ flat_map-append f (map g (take i xs)) (g x ∷ [])
    ∙ ap (λ l. flat_map f (map g (take i xs)) ++ l) (each-one f (g x))

pub each_reverse-after : {B : Type 0} (f : ℕ → List B) (j k : ℕ) → k ≢ 0 → flat_map f (reverse (after j k)) ≡ f (j + k) ++ flat_map f (reverse (after j (k - 1)))
each_reverse-after f j k h =
    let e : k ≡ k - 1 + 1 = omega arith in
    let d : j + (k - 1) + 1 ≡ j + k = omega arith in
    ap (λ n. flat_map f (reverse (after j n))) e
    ∙ ap (λ l. flat_map f (reverse l)) (after-more j (k - 1))
    ∙ ap (flat_map f) (reverse-append (after j (k - 1)) ((j + (k - 1) + 1) ∷ []))
    ∙ ap (λ n. f n ++ flat_map f (reverse (after j (k - 1)))) d

pub map_after-more : {B : Type 0} (f : ℕ → B) (k : ℕ) → map f (after 0 (k + 1)) ≡ map f (after 0 k) ++ (f (k + 1) ∷ [])
map_after-more f k =
    let e : 0 + k + 1 ≡ k + 1 = omega arith in
    ap (map f) (after-more 0 k) ∙ map-append f (after 0 k) ((0 + k + 1) ∷ []) ∙ ap (λ n. map f (after 0 k) ++ (f n ∷ [])) e

pub select_take-more : {A B : Type 0} (test : B → Bool) (g : A → B) (xs : List A) (i : ℕ) (x : A) → i < length xs → x ≡ get_or xs i x
    → filter test (map g (take (i + 1) xs)) ≡ filter test (map g (take i xs)) ++ cond (test (g x)) (g x ∷ []) []
select_take-more test g xs i x h e =
    ap (λ l. filter test (map g l)) (take_more xs i x h ∙ ap (λ y. take i xs ++ (y ∷ [])) (sym e))
    ∙ ap (filter test) (map-append g (take i xs) (x ∷ []))
    ∙ filter-append test (map g (take i xs)) ((g x) ∷ [])
