-- Sums over all orders (permutations) of the places 1, .., n, with signs.
--     orders_reach        if exchanges of neighbours keep a property, and a list has the property, each order of the list has it
--     orders_sum          the sum of sign(w)·φ(w) over the orders w of an increasing list v is `alternating v φ`, which inserts the entries of v one
--                         by one
--     pair_alternant      the sum of c·φ(α) over the terms c·x^α of the alternant a_β is `alternating β φ`
use Rattle.std.proofs.Common.{◌≡◌, ℕ, zero, suc, ◌+◌, ◌-◌, ◌<◌, ◌≤◌, cond, nat_lt, List, [], ◌∷◌, ◌++◌, map, length, get_or, sym, ◌∙◌, ap, ap₂, subst, refl, inl, inr, arith, ℤ, ◌+ℤ◌, ◌*ℤ◌, neg_ℤ, append_assoc}
use Rattle.std.proofs.lemmas.Int.{ints}
use Rattle.std.proofs.lemmas.Bool.Decides.{nat_tests}
use Rattle.sym_model.specs.Sum.{total, Among}
use Rattle.sym_model.specs.Polynomial.{Term, pair, join}
use Rattle.sym_model.specs.Partition.{part, after}
use Rattle.sym_model.specs.PlaceOrders.{insertions, orders, places, smaller, inversions, minus_one_to, sign}
use Rattle.sym_model.specs.Alternant.{rearranged, alternant}
use Rattle.sym_model.proofs.Signs.{minus_one_to_add}
use Rattle.sym_model.proofs.Ring.{product_assoc, negation-product, distributes_left, product-negation}
use Rattle.sym_model.proofs.Sums.{total_among, total_map, total_each, total_scale, total_neg, Among_from_map, Among_from_each}
use Rattle.sym_model.proofs.Exponents.{get_or-join}
use Rattle.alternant_laws.proofs.Alternating.{inserting, alternating, alternating_map}
use Rattle.beta_list_laws.proofs.NeighbourExchanges.{KeptByExchanges}

-- ---- each order of a list is reached by exchanges of neighbours

insertions_reach : (P : List ℕ → Type 0) → KeptByExchanges P → (l : List ℕ) (x : ℕ) (v w : List ℕ) → P (l ++ (x ∷ v)) → Among w (insertions x v) → P (l ++ w)
insertions_reach P k l x [] w p (inl e) = subst (λ z. P (l ++ z)) (sym e) p
insertions_reach P k l x [] w p (inr m) = absurd m
insertions_reach P k l x (y ∷ v) w p (inl e) = subst (λ z. P (l ++ z)) (sym e) p
insertions_reach P k l x (y ∷ v) w p (inr m) =
    let r = Among_from_map (λ (zs : List ℕ). y ∷ zs) w (insertions x v) m in
    let q : P ((l ++ (y ∷ [])) ++ (x ∷ v)) = rw append_assoc (k l x y v p) in
    let s : P ((l ++ (y ∷ [])) ++ r.0) = insertions_reach P k (l ++ (y ∷ [])) x v r.0 q r.1 in
    subst (λ z. P (l ++ z)) (sym r.2) (rw append_assoc at s)

orders_reach_after : (P : List ℕ → Type 0) → KeptByExchanges P → (l xs w : List ℕ) → P (l ++ xs) → Among w (orders xs) → P (l ++ w)
orders_reach_after P k l [] w p (inl e) = subst (λ z. P (l ++ z)) (sym e) p
orders_reach_after P k l [] w p (inr m) = absurd m
orders_reach_after P k l (x ∷ xs) w p m =
    let r = Among_from_each (insertions x) w (orders xs) m in
    let q : P ((l ++ (x ∷ [])) ++ xs) = rw append_assoc p in
    let s : P ((l ++ (x ∷ [])) ++ r.0) = orders_reach_after P k (l ++ (x ∷ [])) xs r.0 q r.1 in
    insertions_reach P k l x r.0 w (rw append_assoc at s) r.2

pub orders_reach : (P : List ℕ → Type 0) → KeptByExchanges P → (xs w : List ℕ) → P xs → Among w (orders xs) → P w
orders_reach P k xs w p m = orders_reach_after P k [] xs w p m

-- x is smaller than each entry of the list
abbrev pub AreAbove : ℕ → List ℕ → Type 0
AreAbove x [] = Unit {0}
AreAbove x (y ∷ v) = (x < y) × AreAbove x v

-- the list is strictly increasing
abbrev pub Rises : List ℕ → Type 0
Rises [] = Unit {0}
Rises (x ∷ xs) = AreAbove x xs × Rises xs

above_kept : (x : ℕ) → KeptByExchanges (AreAbove x)
above_kept x [] a b r h = (h.1.0, (h.0, h.1.1))
above_kept x (c ∷ l) a b r h = (h.0, above_kept x l a b r h.1)

pub orders_above : (x : ℕ) (xs w : List ℕ) → AreAbove x xs → Among w (orders xs) → AreAbove x w
orders_above x xs w h m = orders_reach (AreAbove x) (above_kept x) xs w h m

after_above : (x a k : ℕ) → x ≤ a → AreAbove x (after a k)
after_above x a zero h = tt
after_above x a (suc k) h = (omega arith, after_above x (a + 1) k (omega arith))

pub after_rises : (a k : ℕ) → Rises (after a k)
after_rises a zero = tt
after_rises a (suc k) = (after_above (a + 1) (a + 1) k (omega arith), after_rises (a + 1) k)

smaller_above : (x : ℕ) (v : List ℕ) → AreAbove x v → smaller x v ≡ 0
smaller_above x [] h = refl
smaller_above x (y ∷ v) h = let a : x < y = h.0 in let e = smaller_above x v h.1 in grind (arith, nat_tests)

smaller_put : (x y : ℕ) (v w : List ℕ) → x < y → Among w (insertions x v) → smaller y w ≡ suc (smaller y v)
smaller_put x y [] w h (inl e) = rw e (grind (arith, nat_tests))
smaller_put x y [] w h (inr m) = absurd m
smaller_put x y (z ∷ v) w h (inl e) = rw e (grind (arith, nat_tests))
smaller_put x y (z ∷ v) w h (inr m) =
    let r = Among_from_map (λ (zs : List ℕ). z ∷ zs) w (insertions x v) m in
    let e = smaller_put x y v r.0 h r.1 in
    ap (smaller y) r.2 ∙ ap (λ n. cond (nat_lt z y) 1 0 + n) e ∙ omega arith

insertions_sum : (x : ℕ) (v : List ℕ) (φ : List ℕ → ℤ) → AreAbove x v → total (λ (w : List ℕ). sign w *ℤ φ w) (insertions x v) ≡ sign v *ℤ inserting x φ v
insertions_sum x [] φ h = omega (arith, ints)
insertions_sum x (y ∷ v) φ h =
    let s = smaller_above x (y ∷ v) h in
    let none : 0 + inversions (y ∷ v) ≡ inversions (y ∷ v) = omega arith in
    let first : sign (x ∷ y ∷ v) ≡ sign (y ∷ v) = ap (λ n. minus_one_to (n + inversions (y ∷ v))) s ∙ ap minus_one_to none in
    let c = minus_one_to (smaller y v) in
    let whole : sign (y ∷ v) ≡ c *ℤ sign v = minus_one_to_add (smaller y v) (inversions v) in
    let rest : total (λ (w : List ℕ). sign w *ℤ φ w) (map (λ (w : List ℕ). y ∷ w) (insertions x v)) ≡ neg_ℤ (c *ℤ (sign v *ℤ inserting x (λ w. φ (y ∷ w)) v)) =
    total_map (λ (w : List ℕ). sign w *ℤ φ w) (λ (w : List ℕ). y ∷ w) (insertions x v)
    ∙ total_among (λ (w : List ℕ). sign (y ∷ w) *ℤ φ (y ∷ w)) (λ (w : List ℕ). neg_ℤ (c *ℤ (sign w *ℤ φ (y ∷ w)))) (insertions x v) (turned c refl)
    ∙ total_neg (λ (w : List ℕ). c *ℤ (sign w *ℤ φ (y ∷ w))) (insertions x v)
    ∙ ap neg_ℤ (total_scale c (λ (w : List ℕ). sign w *ℤ φ (y ∷ w)) (insertions x v))
    ∙ ap (λ z. neg_ℤ (c *ℤ z)) (insertions_sum x v (λ w. φ (y ∷ w)) h.1) in
    let a : sign (x ∷ y ∷ v) *ℤ φ (x ∷ y ∷ v) ≡ sign (y ∷ v) *ℤ φ (x ∷ y ∷ v) = ap (λ z. z *ℤ φ (x ∷ y ∷ v)) first in
    let b : sign (y ∷ v) *ℤ inserting x (λ w. φ (y ∷ w)) v ≡ c *ℤ (sign v *ℤ inserting x (λ w. φ (y ∷ w)) v) = ap (λ z. z *ℤ inserting x (λ w. φ (y ∷ w)) v) whole ∙ product_assoc c (sign v) (inserting x (λ w. φ (y ∷ w)) v) in
    let d = distributes_left (sign (y ∷ v)) (φ (x ∷ y ∷ v)) (neg_ℤ (inserting x (λ w. φ (y ∷ w)) v)) in
    let f = product-negation (sign (y ∷ v)) (inserting x (λ w. φ (y ∷ w)) v) in
    ap₂ ◌+ℤ◌ a rest ∙ ap (λ z. sign (y ∷ v) *ℤ φ (x ∷ y ∷ v) +ℤ neg_ℤ z) (sym b) ∙ ap (λ z. sign (y ∷ v) *ℤ φ (x ∷ y ∷ v) +ℤ z) (sym f) ∙ sym d
  where
    turned : (c : ℤ) → c ≡ minus_one_to (smaller y v) → (w : List ℕ) → Among w (insertions x v) → sign (y ∷ w) *ℤ φ (y ∷ w) ≡ neg_ℤ (c *ℤ (sign w *ℤ φ (y ∷ w)))
    turned c e w m =
        let p : sign (y ∷ w) ≡ neg_ℤ (minus_one_to (smaller y v)) *ℤ sign w = ap (λ n. minus_one_to (n + inversions w)) (smaller_put x y v w h.0 m) ∙ minus_one_to_add (suc (smaller y v)) (inversions w) in
        ap (λ z. z *ℤ φ (y ∷ w)) (p ∙ ap (λ z. neg_ℤ z *ℤ sign w) (sym e))
        ∙ product_assoc (neg_ℤ c) (sign w) (φ (y ∷ w))
        ∙ negation-product c (sign w *ℤ φ (y ∷ w))

pub orders_sum : (xs : List ℕ) (φ : List ℕ → ℤ) → Rises xs → total (λ (w : List ℕ). sign w *ℤ φ w) (orders xs) ≡ alternating xs φ
orders_sum [] φ h = omega (arith, ints)
orders_sum (x ∷ xs) φ h =
    total_each (λ (w : List ℕ). sign w *ℤ φ w) (insertions x) (orders xs)
    ∙ total_among
    (λ (v : List ℕ). total (λ (w : List ℕ). sign w *ℤ φ w) (insertions x v))
    (λ (v : List ℕ). sign v *ℤ inserting x φ v)
    (orders xs)
    (λ v m. insertions_sum x v φ (orders_above x xs v h.0 m))
    ∙ orders_sum xs (inserting x φ) h.1

rearranged_after : (γ β : List ℕ) (a : ℕ) → ((i : ℕ) → get_or γ (a + i) 0 ≡ get_or β i 0) → map (part γ) (after a (length β)) ≡ β
rearranged_after γ [] a h = refl
rearranged_after γ (b ∷ β) a h =
    let e : a + 1 - 1 ≡ a + 0 = omega arith in
    ap₂ ◌∷◌ (ap (λ k. get_or γ k 0) e ∙ h 0) (rearranged_after γ β (a + 1) (λ i. let d : a + 1 + i ≡ a + suc i = omega arith in ap (λ k. get_or γ k 0) d ∙ h (suc i)))

pub rearranged_places : (n : ℕ) (β : List ℕ) → length β ≡ n → rearranged (places n) β ≡ β
rearranged_places n β e =
    ap (λ k. rearranged (places k) β) (sym e) ∙ rearranged_after β β 0 (λ i. let d : 0 + i ≡ i = omega arith in ap (λ k. get_or β k 0) d)

pub rearranged-join : (w α β : List ℕ) → rearranged w (join α β) ≡ join (rearranged w α) (rearranged w β)
rearranged-join [] α β = refl
rearranged-join (i ∷ w) α β = ap₂ ◌∷◌ (get_or-join α β (i - 1)) (rearranged-join w α β)

pub pair_orders : (n : ℕ) (β : List ℕ) (φ : List ℕ → ℤ) → length β ≡ n
    → pair (alternant β) φ ≡ total (λ (w : List ℕ). sign w *ℤ φ (rearranged w β)) (orders (places n))
pair_orders n β φ e =
    total_map (λ (t : Term). t.1 *ℤ φ t.0) (λ (w : List ℕ). (rearranged w β, sign w)) (orders (places (length β)))
    ∙ ap (λ k. total (λ (w : List ℕ). sign w *ℤ φ (rearranged w β)) (orders (places k))) e

pub pair_alternant : (β : List ℕ) (φ : List ℕ → ℤ) → pair (alternant β) φ ≡ alternating β φ
pair_alternant β φ =
    pair_orders (length β) β φ refl
    ∙ orders_sum (places (length β)) (λ w. φ (rearranged w β)) (after_rises 0 (length β))
    ∙ sym (alternating_map (part β) (places (length β)) φ)
    ∙ ap (λ γ. alternating γ φ) (rearranged_places (length β) β refl)
