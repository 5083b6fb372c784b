-- Finite sums of integers over lists (`total`), and membership in the lists that they range over.
--     total_ext, total_among      two functions that agree everywhere, or on the members of a list, have the same sum over that list
--     total_append .. total_each  sums over lists that are built from other lists
--     total_exchange              a double sum is the same in either order
--     total_within                if ys has no repeats, its members are in xs, and it has the length of xs, both lists have the same sums
--     total_same_members, total_part, total_reindex, total_bijection, total_cancel      consequences of total_within
use Rattle.std.proofs.Common.{◌≡◌, suc, ◌≤◌, ◌⊎◌, Bool, true, false, cond, not, List, [], ◌∷◌, ◌++◌, map, length, sym, ◌∙◌, ap, ap₂, subst, refl, inl, inr, arith, ℤ, pos, ◌+ℤ◌, ◌*ℤ◌, neg_ℤ, ◌<◌, get_or, zero, ℕ, filter, flat_map, reverse, nat_le, rules}
use Rattle.std.proofs.lemmas.Int.{ints}
use Rattle.sym_model.specs.Sum.{total, Among, Once, Within}
use Rattle.sym_model.proofs.Ring.{distributes_left}
use Rattle.std.proofs.lemmas.List.{length-map, reverse-append}
use Rattle.std.specs.Prelude.{◌≤ℤ◌}
use Rattle.sym_model.specs.Bases.{down_from}
use Rattle.std.proofs.lemmas.Bool.{cases_lt, le-leb, and_from}
use Rattle.sym_model.specs.Tableau.{are_letters}
use lib.IntN.{+ℤ_idl, *ℤ-zero}

pub total_ext : {A : Type 0} (f g : A → ℤ) → ((x : A) → f x ≡ g x) → (xs : List A) → total f xs ≡ total g xs
total_ext f g e [] = refl
total_ext f g e (x ∷ xs) = ap₂ ◌+ℤ◌ (e x) (total_ext f g e xs)

pub total_among : {A : Type 0} (f g : A → ℤ) (xs : List A) → ((x : A) → Among x xs → f x ≡ g x) → total f xs ≡ total g xs
total_among f g [] e = refl
total_among f g (x ∷ xs) e = ap₂ ◌+ℤ◌ (e x (inl refl)) (total_among f g xs (λ y m. e y (inr m)))

pub total_append : {A : Type 0} (f : A → ℤ) (xs ys : List A) → total f (xs ++ ys) ≡ total f xs +ℤ total f ys
total_append f [] ys = sym (+ℤ_idl (total f ys))
total_append f (x ∷ xs) ys = let e = total_append f xs ys in omega (arith, ints)

pub total_zero : {A : Type 0} (xs : List A) → total (λ (x : A). pos 0) xs ≡ pos 0
total_zero [] = refl
total_zero (x ∷ xs) = +ℤ_idl (total (λ _. pos 0) xs) ∙ total_zero xs

pub total_none : {A : Type 0} (f : A → ℤ) (xs : List A) → ((x : A) → Among x xs → f x ≡ pos 0) → total f xs ≡ pos 0
total_none f xs e = total_among f (λ _. pos 0) xs e ∙ total_zero xs

pub total_add : {A : Type 0} (f g : A → ℤ) (xs : List A) → total (λ (x : A). f x +ℤ g x) xs ≡ total f xs +ℤ total g xs
total_add f g [] = refl
total_add f g (x ∷ xs) = let e = total_add f g xs in omega (arith, ints)

pub total_neg : {A : Type 0} (f : A → ℤ) (xs : List A) → total (λ (x : A). neg_ℤ (f x)) xs ≡ neg_ℤ (total f xs)
total_neg f [] = refl
total_neg f (x ∷ xs) = let e = total_neg f xs in omega (arith, ints)

pub total_scale : {A : Type 0} (c : ℤ) (f : A → ℤ) (xs : List A) → total (λ (x : A). c *ℤ f x) xs ≡ c *ℤ total f xs
total_scale c f [] = sym (*ℤ-zero c)
total_scale c f (x ∷ xs) = ap (λ n. c *ℤ f x +ℤ n) (total_scale c f xs) ∙ sym (distributes_left c (f x) (total f xs))

pub total_map : {A B : Type 0} (f : B → ℤ) (h : A → B) (xs : List A) → total f (map h xs) ≡ total (λ (x : A). f (h x)) xs
total_map f h [] = refl
total_map f h (x ∷ xs) = ap (λ n. f (h x) +ℤ n) (total_map f h xs)

pub total_each : {A B : Type 0} (f : B → ℤ) (h : A → List B) (xs : List A) → total f (flat_map h xs) ≡ total (λ (x : A). total f (h x)) xs
total_each f h [] = refl
total_each f h (x ∷ xs) = total_append f (h x) (flat_map h xs) ∙ ap (λ n. total f (h x) +ℤ n) (total_each f h xs)

pub total_select : {A : Type 0} (f : A → ℤ) (test : A → Bool) (xs : List A) → total f (filter test xs) ≡ total (λ (x : A). cond (test x) (f x) (pos 0)) xs
total_select f test [] = refl
total_select {A} f test (x ∷ xs) = search (rules, +ℤ_idl, (total_select f test xs))

pub total_split : {A : Type 0} (f : A → ℤ) (test : A → Bool) (xs : List A) → total f xs ≡ total f (filter test xs) +ℤ total f (filter (λ (x : A). not (test x)) xs)
total_split f test [] = refl
total_split {A} f test (x ∷ xs) = by (test x) (total_split f test xs)
  where
    by : (b : Bool) → total f xs ≡ total f (filter test xs) +ℤ total f (filter (λ (y : A). not (test y)) xs) → f x +ℤ total f xs ≡ total f (cond b (x ∷ filter test xs) (filter test xs)) +ℤ total f (cond (not b) (x ∷ filter (λ (y : A). not (test y)) xs) (filter (λ (y : A). not (test y)) xs))
    by true e = omega (arith, ints)
    by false e = omega (arith, ints)

pub total_exchange : {A B : Type 0} (f : A → B → ℤ) (xs : List A) (ys : List B) → total (λ (x : A). total (λ (y : B). f x y) ys) xs ≡ total (λ (y : B). total (λ (x : A). f x y) xs) ys
total_exchange f [] ys = sym (total_zero ys)
total_exchange {A} {B} f (x ∷ xs) ys = ap (λ n. total (λ (y : B). f x y) ys +ℤ n) (total_exchange f xs ys) ∙ sym (total_add (λ (y : B). f x y) (λ (y : B). total (λ (z : A). f z y) xs) ys)

pub total_constant : {A : Type 0} (c : ℤ) (xs : List A) → total (λ (x : A). c) xs ≡ c *ℤ pos (length xs)
total_constant c [] = sym (*ℤ-zero c)
total_constant c (x ∷ xs) = let e = total_constant c xs in let d = distributes_left c (pos 1) (pos (length xs)) in omega (arith, ints)

-- ---- membership in lists that are built from other lists

pub Among-append_left : {A : Type 0} (x : A) (xs ys : List A) → Among x xs → Among x (xs ++ ys)
Among-append_left x [] ys m = absurd m
Among-append_left x (y ∷ xs) ys (inl e) = inl e
Among-append_left x (y ∷ xs) ys (inr m) = inr (Among-append_left x xs ys m)

pub Among-append_right : {A : Type 0} (x : A) (xs ys : List A) → Among x ys → Among x (xs ++ ys)
Among-append_right x [] ys m = m
Among-append_right x (y ∷ xs) ys m = inr (Among-append_right x xs ys m)

pub Among_from_append : {A : Type 0} (x : A) (xs ys : List A) → Among x (xs ++ ys) → Among x xs ⊎ Among x ys
Among_from_append x [] ys m = inr m
Among_from_append x (y ∷ xs) ys (inl e) = inl (inl e)
Among_from_append x (y ∷ xs) ys (inr m) = elim (Among_from_append x xs ys m) [ inl l ↦ inl (inr l) | inr r ↦ inr r ]

pub Among-map : {A B : Type 0} (f : A → B) (x : A) (xs : List A) → Among x xs → Among (f x) (map f xs)
Among-map f x [] m = absurd m
Among-map f x (y ∷ xs) (inl e) = inl (ap f e)
Among-map f x (y ∷ xs) (inr m) = inr (Among-map f x xs m)

pub Among_from_map : {A B : Type 0} (f : A → B) (y : B) (xs : List A) → Among y (map f xs) → (x : A) × Among x xs × (y ≡ f x)
Among_from_map f y [] m = absurd m
Among_from_map f y (x ∷ xs) (inl e) = (x, inl refl, e)
Among_from_map f y (x ∷ xs) (inr m) = let r = Among_from_map f y xs m in (r.0, inr r.1, r.2)

pub Among-each : {A B : Type 0} (f : A → List B) (x : A) (y : B) (xs : List A) → Among x xs → Among y (f x) → Among y (flat_map f xs)
Among-each f x y [] m n = absurd m
Among-each f x y (z ∷ xs) (inl e) n = Among-append_left y (f z) (flat_map f xs) (subst (λ w. Among y (f w)) e n)
Among-each f x y (z ∷ xs) (inr m) n = Among-append_right y (f z) (flat_map f xs) (Among-each f x y xs m n)

pub Among_from_each : {A B : Type 0} (f : A → List B) (y : B) (xs : List A) → Among y (flat_map f xs) → (x : A) × Among x xs × Among y (f x)
Among_from_each f y [] m = absurd m
Among_from_each {A} f y (z ∷ xs) m = by (Among_from_append y (f z) (flat_map f xs) m) (Among_from_each f y xs)
  where
    by : Among y (f z) ⊎ Among y (flat_map f xs) → (Among y (flat_map f xs) → (x : A) × Among x xs × Among y (f x)) → (x : A) × Among x (z ∷ xs) × Among y (f x)
    by (inl l) rest = (z, inl refl, l)
    by (inr r) rest = let s = rest r in (s.0, inr s.1, s.2)

pub Among-select : {A : Type 0} (test : A → Bool) (x : A) (xs : List A) → Among x xs → test x ≡ true → Among x (filter test xs)
Among-select test x [] m t = absurd m
Among-select test x (y ∷ xs) (inl e) t = subst (λ b. Among x (cond b (y ∷ filter test xs) (filter test xs))) (sym t ∙ ap test e) (inl e)
Among-select {A} test x (y ∷ xs) (inr m) t = search (rules, (Among-select test x xs m t))

pub Among_from_select : {A : Type 0} (test : A → Bool) (x : A) (xs : List A) → Among x (filter test xs) → Among x xs × (test x ≡ true)
Among_from_select test x [] m = absurd m
Among_from_select {A} test x (y ∷ xs) m = search (rules, (Among_from_select test x xs))

pub Within_tail : {A : Type 0} (x : A) (xs ys : List A) → Within (x ∷ xs) ys → Within xs ys
Within_tail x xs ys w z m = w z (inr m)

-- ---- lists without repeats, and their images under `map` and `flat_map`

pub Once-map : {A B : Type 0} (f : A → B) (xs : List A) → ((x y : A) → Among x xs → Among y xs → f x ≡ f y → x ≡ y) → Once xs → Once (map f xs)
Once-map f [] inj o = tt
Once-map {A} {B} f (x ∷ xs) inj o = (apart, Once-map f xs (λ a b m n. inj a b (inr m) (inr n)) o.1)
  where
    apart : Among (f x) (map f xs) → ⊥
    apart m = let r = Among_from_map f (f x) xs m in o.0 (subst (λ z. Among z xs) (sym (inj x r.0 (inl refl) (inr r.1) r.2)) r.1)

pub Once-select : {A : Type 0} (test : A → Bool) (xs : List A) → Once xs → Once (filter test xs)
Once-select test [] o = tt
Once-select {A} test (x ∷ xs) o = search (rules, Among_from_select, (Once-select test xs o.1))

pub Once-append : {A : Type 0} (xs ys : List A) → Once xs → Once ys → ((x : A) → Among x xs → Among x ys → ⊥) → Once (xs ++ ys)
Once-append [] ys o p d = p
Once-append {A} (x ∷ xs) ys o p d = (apart, Once-append xs ys o.1 p (λ z m n. d z (inr m) n))
  where
    apart : Among x (xs ++ ys) → ⊥
    apart m = elim (Among_from_append x xs ys m) [ inl l ↦ o.0 l | inr r ↦ d x (inl refl) r ]

pub Once-each : {A B : Type 0} (f : A → List B) (xs : List A) → Once xs → ((x : A) → Among x xs → Once (f x))
    → ((x z : A) (y : B) → Among x xs → Among z xs → Among y (f x) → Among y (f z) → x ≡ z) → Once (flat_map f xs)
Once-each f [] o p d = tt
Once-each {A} {B} f (x ∷ xs) o p d =
    Once-append (f x) (flat_map f xs) (p x (inl refl)) (Once-each f xs o.1 (λ z m. p z (inr m)) (λ z w y m n. d z w y (inr m) (inr n))) apart
  where
    apart : (y : B) → Among y (f x) → Among y (flat_map f xs) → ⊥
    apart y m n = let r = Among_from_each f y xs n in o.0 (subst (λ z. Among z xs) (sym (d x r.0 y (inl refl) (inr r.1) m r.2)) r.1)

-- ---- a list without one of its members (`without`)

abbrev pub without : {A : Type 0} (x : A) (xs : List A) → Among x xs → List A
without x [] m = []
without x (y ∷ xs) (inl e) = xs
without x (y ∷ xs) (inr m) = y ∷ without x xs m

pub total-without : {A : Type 0} (f : A → ℤ) (x : A) (xs : List A) (m : Among x xs) → total f xs ≡ f x +ℤ total f (without x xs m)
total-without f x [] m = absurd m
total-without f x (y ∷ xs) (inl e) = ap (λ z. f z +ℤ total f xs) (sym e)
total-without f x (y ∷ xs) (inr m) = let e = total-without f x xs m in omega (arith, ints)

pub length-without : {A : Type 0} (x : A) (xs : List A) (m : Among x xs) → length xs ≡ suc (length (without x xs m))
length-without x [] m = absurd m
length-without x (y ∷ xs) (inl e) = refl
length-without x (y ∷ xs) (inr m) = ap suc (length-without x xs m)

pub Among-without : {A : Type 0} (z x : A) (xs : List A) (m : Among x xs) → Among z xs → (z ≡ x) ⊎ Among z (without x xs m)
Among-without z x [] m n = absurd m
Among-without z x (y ∷ xs) (inl e) (inl d) = inl (d ∙ sym e)
Among-without z x (y ∷ xs) (inl e) (inr n) = inr n
Among-without z x (y ∷ xs) (inr m) (inl d) = inr (inl d)
Among-without z x (y ∷ xs) (inr m) (inr n) = elim (Among-without z x xs m n) [ inl e ↦ inl e | inr r ↦ inr (inr r) ]

pub Among_from_without : {A : Type 0} (z x : A) (xs : List A) (m : Among x xs) → Among z (without x xs m) → Among z xs
Among_from_without z x [] m n = absurd m
Among_from_without z x (y ∷ xs) (inl e) n = inr n
Among_from_without z x (y ∷ xs) (inr m) (inl d) = inl d
Among_from_without z x (y ∷ xs) (inr m) (inr n) = inr (Among_from_without z x xs m n)

pub Once-without : {A : Type 0} (x : A) (xs : List A) (m : Among x xs) → Once xs → Among x (without x xs m) → ⊥
Once-without x [] m o n = m
Once-without x (y ∷ xs) (inl e) o n = o.0 (subst (λ z. Among z xs) e n)
Once-without x (y ∷ xs) (inr m) o (inl d) = o.0 (subst (λ z. Among z xs) d m)
Once-without x (y ∷ xs) (inr m) o (inr n) = Once-without x xs m o.1 n

pub Once_without : {A : Type 0} (x : A) (xs : List A) (m : Among x xs) → Once xs → Once (without x xs m)
Once_without x [] m o = tt
Once_without x (y ∷ xs) (inl e) o = o.1
Once_without x (y ∷ xs) (inr m) o = (λ n. o.0 (Among_from_without y x xs m n), Once_without x xs m o.1)

-- ---- two lists without repeats that have the same members have the same sums

-- if each member of ys is in xs and x is not in ys, then each member of ys is in the list that is xs with the
-- occurrence m of x removed
pub Within-without : {A : Type 0} (x : A) (xs ys : List A) (m : Among x xs) → (Among x ys → ⊥) → Within ys xs → Within ys (without x xs m)
Within-without x xs ys m d w z n = elim (Among-without z x xs m (w z n)) [ inl e ↦ absurd (d (subst (λ u. Among u ys) e n)) | inr r ↦ r ]

-- if ys has no repeats and each member of ys is in xs, then ys is not longer than xs
pub length_within : {A : Type 0} (xs ys : List A) → Once ys → Within ys xs → length ys ≤ length xs
length_within xs [] o w = omega arith
length_within xs (y ∷ ys) o w =
    let m = w y (inl refl) in
    let e = length-without y xs m in
    let r = length_within (without y xs m) ys o.1 (Within-without y xs ys m o.0 (Within_tail y ys xs w)) in
    omega arith

-- if ys has no repeats, each member of ys is in xs, and ys and xs have the same length, then f has the same sum over
-- ys as over xs
pub total_within : {A : Type 0} (f : A → ℤ) (xs ys : List A) → Once ys → Within ys xs → length ys ≡ length xs → total f ys ≡ total f xs
total_within f [] [] o w l = refl
total_within f (x ∷ xs) [] o w l = absurd (omega arith)
total_within f xs (y ∷ ys) o w l =
    let m = w y (inl refl) in
    let e = length-without y xs m in
    let k : length ys ≡ length (without y xs m) = omega arith in
    let r = total_within f (without y xs m) ys o.1 (Within-without y xs ys m o.0 (Within_tail y ys xs w)) k in
    ap (λ n. f y +ℤ n) r ∙ sym (total-without f y xs m)

-- if two lists have no repeats and the same members, f has the same sum over both lists
pub total_same_members : {A : Type 0} (f : A → ℤ) (xs ys : List A) → Once xs → Once ys → Within xs ys → Within ys xs → total f xs ≡ total f ys
total_same_members f xs ys o p v w = search (rules, length_within, total_within)

-- if xs and ys have no repeats, each member of xs is in ys, and f is 0 at each member of ys that is not in xs, then f
-- has the same sum over xs as over ys
pub total_part : {A : Type 0} (f : A → ℤ) (xs ys : List A) → Once xs → Once ys → Within xs ys → ((y : A) → Among y ys → (Among y xs → ⊥) → f y ≡ pos 0) → total f xs ≡ total f ys
total_part f [] ys o p w none = sym (total_none f ys (λ y m. none y m (λ n. n)))
total_part {A} f (x ∷ xs) ys o p w none =
    let m = w x (inl refl) in
    let r = total_part f xs (without x ys (w x (inl refl))) o.1 (Once_without x ys (w x (inl refl)) p) (Within-without x ys xs (w x (inl refl)) o.0 (Within_tail x xs ys w))
    (λ y n d. none y (Among_from_without y x ys (w x (inl refl)) n) (other y n d)) in
    ap (λ n. f x +ℤ n) r ∙ sym (total-without f x ys m)
  where
    other : (y : A) → Among y (without x ys (w x (inl refl))) → (Among y xs → ⊥) → Among y (x ∷ xs) → ⊥
    other y n d (inl e) = Once-without x ys (w x (inl refl)) p (subst (λ u. Among u (without x ys (w x (inl refl)))) e n)
    other y n d (inr k) = d k

-- if xs has no repeats and h maps its members one-to-one to members of xs, then the sum of f(h(x)) over xs is the sum
-- of f(x) over xs
pub total_reindex : {A : Type 0} (f : A → ℤ) (h : A → A) (xs : List A) → Once xs → ((x : A) → Among x xs → Among (h x) xs)
    → ((x y : A) → Among x xs → Among y xs → h x ≡ h y → x ≡ y) → total (λ (x : A). f (h x)) xs ≡ total f xs
total_reindex {A} f h xs o into inj = sym (total_map f h xs) ∙ total_within f xs (map h xs) (Once-map h xs inj o) within (length-map xs h)
  where
    within : Within (map h xs) xs
    within z m = let r = Among_from_map h z xs m in subst (λ u. Among u xs) (sym r.2) (into r.0 r.1)

-- if xs and ys have no repeats, and h and k are inverse bijections between their members, then the sum of f(h(x))
-- over xs is the sum of f(y) over ys
pub total_bijection : {A B : Type 0} (f : B → ℤ) (h : A → B) (k : B → A) (xs : List A) (ys : List B) → Once xs → Once ys
    → ((x : A) → Among x xs → Among (h x) ys) → ((y : B) → Among y ys → Among (k y) xs)
    → ((x : A) → Among x xs → k (h x) ≡ x) → ((y : B) → Among y ys → h (k y) ≡ y) → total (λ (x : A). f (h x)) xs ≡ total f ys
total_bijection {A} {B} f h k xs ys o p into back kh hk =
    sym (total_map f h xs) ∙ total_same_members f (map h xs) ys (Once-map h xs inj o) p within reach
  where
    inj : (x y : A) → Among x xs → Among y xs → h x ≡ h y → x ≡ y
    inj x y m n e = sym (kh x m) ∙ ap k e ∙ kh y n

    within : Within (map h xs) ys
    within z m = let r = Among_from_map h z xs m in subst (λ u. Among u ys) (sym r.2) (into r.0 r.1)

    reach : Within ys (map h xs)
    reach z m = subst (λ u. Among u (map h xs)) (hk z m) (Among-map h (k z) xs (back z m))

-- if xs has no repeats, and h is an involution of its members with f(h(x)) = -f(x), then the sum of f over xs is 0
pub total_cancel : {A : Type 0} (f : A → ℤ) (h : A → A) (xs : List A) → Once xs → ((x : A) → Among x xs → Among (h x) xs)
    → ((x : A) → Among x xs → h (h x) ≡ x) → ((x : A) → Among x xs → f (h x) ≡ neg_ℤ (f x)) → total f xs ≡ pos 0
total_cancel {A} f h xs o into twice turn =
    let a = total_reindex f h xs o into (λ x y m n e. sym (twice x m) ∙ ap h e ∙ twice y n) in
    let b = total_among (λ (x : A). f (h x)) (λ (x : A). neg_ℤ (f x)) xs turn in
    let c = total_neg f xs in
    omega (arith, ints)

-- if a is in xs, xs has no repeats, and f is 0 at the members of xs other than a, then the sum of f over xs is f(a)
pub total_only : {A : Type 0} (f : A → ℤ) (a : A) (xs : List A) → Once xs → Among a xs → ((x : A) → Among x xs → (x ≡ a → ⊥) → f x ≡ pos 0) → total f xs ≡ f a
total_only {A} f a xs o m zero_at =
    let e = total-without f a xs m in
    let d = total_none f (without a xs m) others in
    omega (arith, ints)
  where
    others : (x : A) → Among x (without a xs m) → f x ≡ pos 0
    others x n = zero_at x (Among_from_without x a xs m n) (λ e. Once-without a xs m o (subst (λ u. Among u (without a xs m)) e n))

pub total_cond : {A : Type 0} (b : Bool) (f : A → ℤ) (xs : List A) → total (λ (x : A). cond b (f x) (pos 0)) xs ≡ cond b (total f xs) (pos 0)
total_cond true f xs = refl
total_cond false f xs = total_zero xs

pub Among-get_or : {A : Type 0} (todo : List A) (i : ℕ) (w : A) → i < length todo → w ≡ get_or todo i w → Among w todo
Among-get_or [] i w h e = absurd (omega arith)
Among-get_or (x ∷ todo) zero w h e = inl e
Among-get_or (x ∷ todo) (suc i) w h e = inr (Among-get_or todo i w (omega arith) e)

pub length-select : {A : Type 0} (test : A → Bool) (xs : List A) → pos (length (filter test xs)) ≡ total (λ (x : A). cond (test x) (pos 1) (pos 0)) xs
length-select test [] = refl
length-select {A} test (x ∷ xs) = search (rules, ints, (length-select test xs))

pub total_not_negative : {A : Type 0} (f : A → ℤ) (xs : List A) → ((x : A) → pos 0 ≤ℤ f x) → pos 0 ≤ℤ total f xs
total_not_negative f [] h = omega (arith, ints)
total_not_negative f (x ∷ xs) h = let r = total_not_negative f xs h in let k = h x in omega (arith, ints)

pub total_cond_list : {A : Type 0} (b : Bool) (f : A → ℤ) (xs : List A) → total f (cond b xs []) ≡ cond b (total f xs) (pos 0)
total_cond_list true f xs = refl
total_cond_list false f xs = refl

pub down_from-below : (c b : ℕ) → Among b (down_from c) → b ≤ c
down_from-below zero b (inl e) = omega arith
down_from-below zero b (inr m) = absurd m
down_from-below (suc c) b (inl e) = omega arith
down_from-below (suc c) b (inr m) = omega (arith, down_from-below c b m)

pub among_down_from : (a d : ℕ) → a ≤ d → Among a (down_from d)
among_down_from a zero h = inl (omega arith)
among_down_from a (suc d) h = by (cases_lt d a) (λ g. among_down_from a d g)
  where
    by : (d < a) ⊎ (a ≤ d) → (a ≤ d → Among a (down_from d)) → Among a (down_from (suc d))
    by (inl l) r = inl (omega arith)
    by (inr l) r = inr (r l)

pub among_reverse : (x : ℕ) (xs : List ℕ) → Among x (reverse xs) → Among x xs
among_reverse x [] m = m
among_reverse x (y ∷ xs) m = by (Among_from_append x (reverse xs) (y ∷ []) (subst (Among x) (reverse-append (y ∷ []) xs) m)) (λ m. among_reverse x xs m)
  where
    by : Among x (reverse xs) ⊎ Among x (y ∷ []) → (Among x (reverse xs) → Among x xs) → Among x (y ∷ xs)
    by (inl n) r = inr (r n)
    by (inr (inl e)) r = inl e
    by (inr (inr n)) r = absurd n

pub letters_among : (w : List ℕ) → ((a : ℕ) → Among a w → 1 ≤ a) → are_letters w ≡ true
letters_among [] h = refl
letters_among (a ∷ w) h = and_from (nat_le 1 a) (are_letters w) (le-leb 1 a (h a (inl refl))) (letters_among w (λ b m. h b (inr m)))
