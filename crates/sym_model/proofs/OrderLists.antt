-- The orders of the places 1, .., n, listed by `orders (places n)`: the lists that have each place exactly once and no other entry.
--     orders_once         `orders xs` has each list at most once, if xs has no repeats
use Rattle.std.proofs.Common.{◌≡◌, ℕ, suc, ◌⊎◌, ◌==◌, true, false, cond, List, [], ◌∷◌, map, length, sym, ◌∙◌, ap, subst, refl, inl, inr, arith, rules}
use Rattle.std.proofs.lemmas.Bool.Decides.{nat_tests}
use Rattle.sym_model.specs.Sum.{Among, Once, Within}
use Rattle.sym_model.specs.PlaceOrders.{insertions, orders, places}
use Rattle.sym_model.proofs.Sums.{Among-map, Among_from_map, Among-each, Among_from_each, Once-map, Once-each, without, length-without, Among-without, Within_tail}
use Rattle.sym_model.proofs.AfterLists.{length_after, once_after}
use Rattle.sym_model.specs.RaisedPart.{without_one}

insertion_of : (x : ℕ) (w : List ℕ) (m : Among x w) → Among w (insertions x (without x w m))
insertion_of x [] m = absurd m
insertion_of x (y ∷ w) (inl e) = at_front w
  where
    at_front : (v : List ℕ) → Among (y ∷ v) (insertions x v)
    at_front [] = inl (ap (λ z. z ∷ []) (sym e))
    at_front (z ∷ v) = inl (ap (λ a. a ∷ z ∷ v) (sym e))
insertion_of x (y ∷ w) (inr m) = inr (Among-map (λ (zs : List ℕ). y ∷ zs) w (insertions x (without x w m)) (insertion_of x w m))

within_rest : (x : ℕ) (w xs : List ℕ) (m : Among x w) → (Among x xs → ⊥) → Within xs w → Within xs (without x w m)
within_rest x w xs m d h z n = elim (Among-without z x w m (h z n)) [ inl e ↦ absurd (d (subst (λ u. Among u xs) e n)) | inr r ↦ r ]

pub listed : (xs w : List ℕ) → Once xs → length w ≡ length xs → Within xs w → Among w (orders xs)
listed [] [] o l h = inl refl
listed [] (a ∷ w) o l h = absurd (omega arith)
listed (x ∷ xs) w o l h =
    let m = h x (inl refl) in
    let e = length-without x w m in
    let r = listed xs (without x w m) o.1 (omega (arith, e)) (within_rest x w xs m o.0 (Within_tail x xs w h)) in
    Among-each (insertions x) (without x w m) w (orders xs) r (insertion_of x w m)

-- ---- each list in `orders xs` has the length of xs and the same entries

insertion_length : (x : ℕ) (v w : List ℕ) → Among w (insertions x v) → length w ≡ suc (length v)
insertion_length x [] w (inl e) = ap length e
insertion_length x [] w (inr m) = absurd m
insertion_length x (y ∷ v) w (inl e) = ap length e
insertion_length x (y ∷ v) w (inr m) =
    let r = Among_from_map (λ (zs : List ℕ). y ∷ zs) w (insertions x v) m in
    ap length r.2 ∙ ap suc (insertion_length x v r.0 r.1)

insertion_has : (x : ℕ) (v w : List ℕ) (z : ℕ) → Among w (insertions x v) → (z ≡ x) ⊎ Among z v → Among z w
insertion_has x [] w z (inl e) (inl d) = subst (Among z) (sym e) (inl d)
insertion_has x [] w z (inl e) (inr d) = absurd d
insertion_has x [] w z (inr m) d = absurd m
insertion_has x (y ∷ v) w z (inl e) (inl d) = subst (Among z) (sym e) (inl d)
insertion_has x (y ∷ v) w z (inl e) (inr d) = subst (Among z) (sym e) (inr d)
insertion_has x (y ∷ v) w z (inr m) (inl d) =
    let r = Among_from_map (λ (zs : List ℕ). y ∷ zs) w (insertions x v) m in
    subst (Among z) (sym r.2) (inr (insertion_has x v r.0 z r.1 (inl d)))
insertion_has x (y ∷ v) w z (inr m) (inr (inl d)) =
    let r = Among_from_map (λ (zs : List ℕ). y ∷ zs) w (insertions x v) m in
    subst (Among z) (sym r.2) (inl d)
insertion_has x (y ∷ v) w z (inr m) (inr (inr d)) =
    let r = Among_from_map (λ (zs : List ℕ). y ∷ zs) w (insertions x v) m in
    subst (Among z) (sym r.2) (inr (insertion_has x v r.0 z r.1 (inr d)))

pub order_length : (xs w : List ℕ) → Among w (orders xs) → length w ≡ length xs
order_length [] w (inl e) = ap length e
order_length [] w (inr m) = absurd m
order_length (x ∷ xs) w m =
    let r = Among_from_each (insertions x) w (orders xs) m in
    insertion_length x r.0 w r.2 ∙ ap suc (order_length xs r.0 r.1)

pub order_has : (xs w : List ℕ) → Among w (orders xs) → Within xs w
order_has [] w m z n = absurd n
order_has (x ∷ xs) w m z (inl e) = let r = Among_from_each (insertions x) w (orders xs) m in insertion_has x r.0 w z r.2 (inl e)
order_has (x ∷ xs) w m z (inr n) = let r = Among_from_each (insertions x) w (orders xs) m in insertion_has x r.0 w z r.2 (inr (order_has xs r.0 r.1 z n))

insertion_from : (x : ℕ) (v w : List ℕ) (z : ℕ) → Among w (insertions x v) → Among z w → (z ≡ x) ⊎ Among z v
insertion_from x [] w z (inl e) n = search rules
insertion_from x [] w z (inr m) n = absurd m
insertion_from x (y ∷ v) w z (inl e) n = search rules
insertion_from x (y ∷ v) w z (inr m) n =
    let r = Among_from_map (λ (zs : List ℕ). y ∷ zs) w (insertions x v) m in
    by r.0 (subst (Among z) r.2 n) (insertion_from x v r.0 z r.1)
  where
    by : (u : List ℕ) → Among z (y ∷ u) → (Among z u → (z ≡ x) ⊎ Among z v) → (z ≡ x) ⊎ Among z (y ∷ v)
    by u (inl d) later = inr (inl d)
    by u (inr d) later = elim (later d) [ inl a ↦ inl a | inr a ↦ inr (inr a) ]

pub order_from : (xs w : List ℕ) (z : ℕ) → Among w (orders xs) → Among z w → Among z xs
order_from [] w z (inl e) n = subst (Among z) e n
order_from [] w z (inr m) n = absurd m
order_from (x ∷ xs) w z m n =
    let r = Among_from_each (insertions x) w (orders xs) m in
    by r.0 r.1 (insertion_from x r.0 w z r.2 n) (order_from xs r.0 z r.1)
  where
    by : (v : List ℕ) → Among v (orders xs) → (z ≡ x) ⊎ Among z v → (Among z v → Among z xs) → Among z (x ∷ xs)
    by v a (inl d) later = inl d
    by v a (inr d) later = inr (later d)

taken_insertion : (x : ℕ) (v w : List ℕ) → (Among x v → ⊥) → Among w (insertions x v) → without_one x w ≡ v
taken_insertion x [] w n (inl e) = ap (without_one x) e ∙ (let t : (x == x) ≡ true = grind (arith, nat_tests) in ap (λ b. cond b [] (x ∷ [])) t)
taken_insertion x [] w n (inr m) = absurd m
taken_insertion x (y ∷ v) w n (inl e) = ap (without_one x) e ∙ (let t : (x == x) ≡ true = grind (arith, nat_tests) in ap (λ b. cond b (y ∷ v) (x ∷ cond (y == x) v (y ∷ without_one x v))) t)
taken_insertion x (y ∷ v) w n (inr m) =
    let r = Among_from_map (λ (zs : List ℕ). y ∷ zs) w (insertions x v) m in
    let d : y ≡ x → ⊥ = λ e. n (inl (sym e)) in
    let t : (y == x) ≡ false = grind (arith, nat_tests) in
    ap (without_one x) r.2 ∙ ap (λ b. cond b r.0 (y ∷ without_one x r.0)) t ∙ ap (λ l. y ∷ l) (taken_insertion x v r.0 (λ a. n (inr a)) r.1)

insertions_once : (x : ℕ) (v : List ℕ) → (Among x v → ⊥) → Once (insertions x v)
insertions_once x [] n = ((λ m. m), tt)
insertions_once x (y ∷ v) n = (
  first,
  Once-map (λ (zs : List ℕ). y ∷ zs) (insertions x v) (λ a b p q e. cc) (insertions_once x v (λ a. n (inr a))),
)
  where
    first : Among (x ∷ y ∷ v) (map (λ (zs : List ℕ). y ∷ zs) (insertions x v)) → ⊥
    first m =
        let r = Among_from_map (λ (zs : List ℕ). y ∷ zs) (x ∷ y ∷ v) (insertions x v) m in
        let e : x ∷ y ∷ v ≡ y ∷ r.0 = r.2 in
        let d : x ≡ y = cc in
        n (inl d)

pub orders_once : (xs : List ℕ) → Once xs → Once (orders xs)
orders_once [] o = ((λ m. m), tt)
orders_once (x ∷ xs) o =
    Once-each (insertions x) (orders xs) (orders_once xs o.1)
    (λ v m. insertions_once x v (λ a. o.0 (order_from xs v x m a)))
    (λ v u w m n p q. sym (taken_insertion x v w (λ a. o.0 (order_from xs v x m a)) p) ∙ taken_insertion x u w (λ a. o.0 (order_from xs u x n a)) q)

pub place_orders_once : (n : ℕ) → Once (orders (places n))
place_orders_once n = orders_once (places n) (once_after 0 n)

pub place_orders_members : (n : ℕ) (w : List ℕ) → (Among w (orders (places n)) → (length w ≡ n) × Within (places n) w) × ((length w ≡ n) × Within (places n) w → Among w (orders (places n)))
place_orders_members n w = search (rules, order_length, length_after, order_has, listed, once_after)
