-- The last two rows of a tableau, added to a sum c (a list of n numbers) so that it becomes the content μ: letter by letter in both rows, from the
-- greatest letter down, they are counted by the chains of places in the last row but one (`chains`).
use Rattle.std.proofs.Common.{◌≡◌, ℕ, zero, suc, ◌+◌, ◌-◌, ◌<◌, ◌≤◌, ◌==◌, ◌≢◌, ◌⊎◌, inl, inr, nat_le, Bool, true, false, ◌&&◌, cond, List, [], ◌∷◌, ◌++◌, length, take, drop, get_or, append_assoc, append-nil, refl, sym, ap, ap₂, ◌∙◌, arith}
use Rattle.std.proofs.lemmas.Bool.{cases_lt, and_parts, and_from, leb-true, le-leb, eqb-true, eqb-false, eq-eqb, ne_eqb}
use Rattle.std.proofs.lemmas.List.{get_or-take, length-take-le, drop_all, take_all}
use Rattle.sym_model.specs.Sum.{sum_by}
use Rattle.sym_model.specs.Partition.{ArePositive, part}
use Rattle.tableau_laws.specs.Grid.{may_precede}
use Rattle.sym_model.proofs.Numbers.{equal-sym}
use Rattle.lr_product.specs.WeighedSum.{comes_to}
use Rattle.sym_model.specs.GoodTableau.{is_falling}
use Rattle.sym_model.proofs.Lists.{drop-none}
use Rattle.sym_model.proofs.NumberSums.{sum_by-zero}
use Rattle.alternant_laws.proofs.StraightShapes.{falls_places}
use Rattle.lr_product.specs.Extension.{numbers_from, mark}
use Rattle.lr_product.specs.RowExtension.{added, filled, next_row, over_rows, least_left, most_left}
use Rattle.lr_product.specs.LastRows.{missing, chain_low, chain_end, chains, completes}
use Rattle.lr_product.proofs.ColumnExtension.{cond_and}
use Rattle.lr_product.proofs.Pruned.{numbers-zero}
use Rattle.lr_product.proofs.Ranges.{numbers-ext}
use Rattle.lr_product.proofs.RowFilling.{MayAdd, falls-put, length_put, most_within}
use Rattle.lr_product.proofs.RowPruning.{get-added_at, get-added_other}
use Rattle.lr_product.proofs.LastRow.{get-added_before, last_row, least_outside}
use Rattle.lr_product.proofs.RangeSums.{sum-matched}

drop-added : (n t i : ℕ) (s w : List ℕ) → t < n → n ≤ length s → drop n (added t i s ++ w) ≡ drop n s ++ w
drop-added zero t i s w h l = absurd (omega arith)
drop-added (suc n) t i [] w h l = absurd (omega arith)
drop-added (suc zero) zero i (a ∷ s) w h l = drop-none (s ++ w) ∙ sym (ap (λ v. v ++ w) (drop-none s))
drop-added (suc (suc n)) zero i (a ∷ s) w h l = later (suc n) s (omega arith)
  where
    later : (k : ℕ) (v : List ℕ) → k ≤ length v → drop k (v ++ w) ≡ drop k v ++ w
    later zero v q = drop-none (v ++ w) ∙ sym (ap (λ u. u ++ w) (drop-none v))
    later (suc k) [] q = absurd (omega arith)
    later (suc k) (x ∷ v) q = later k v (omega arith)
drop-added (suc n) (suc t) i (a ∷ s) w h l = drop-added n t i s w (omega arith) (omega arith)

-- more places than there are outside the shape and missing letters
chains-zero : (l outside : ℕ) (μ c : List ℕ) (t k : ℕ) (above : List ℕ) → l + missing t μ c < k → chains l outside μ c t k above ≡ 0
chains-zero l outside μ c zero k above h = ap (λ u. cond u 1 0) (ne_eqb k l (λ e. absurd (omega arith)))
chains-zero l outside μ c (suc t) k above h =
    numbers-zero (λ x. chains l outside μ c t x (drop 1 above)) (chain_low l outside μ c t k) (chain_end l μ c t k above - chain_low l outside μ c t k)
    (λ x low high. chains-zero l outside μ c t x (drop 1 above) (omega arith))

-- The sum s has c's numbers before the index t, and letters greater than t are placed in the last row but one. For every row and sum that may result,
-- f says whether the letters of at most t fill k places of the last row, if p.
abbrev pub Reduces : ℕ → ℕ → List ℕ → ℕ → List ℕ → (List ℕ → List ℕ → ℕ) → Bool → ℕ → Type 0
Reduces n outside μ t s f p k =
    (ν r : List ℕ) → length ν ≡ n → ((j : ℕ) → get_or ν (suc j) 0 ≤ get_or ν j 0) → ((j : ℕ) → t ≤ j → j < n → get_or ν j 0 ≡ get_or s j 0)
    → f ν (drop n s ++ r) ≡ cond p (completes outside μ t k r ν) 0

-- whether k places of the last row have letters of at most t + 1 if the last row but one has x places with letters of at most t, and the sum v at t
abbrev is_placed : ℕ → List ℕ → ℕ → ℕ → ℕ → ℕ → Bool
is_placed outside μ t k x v =
    nat_le k x && (nat_le v (get_or μ t 0) && (nat_le (get_or μ (suc t) 0) v && nat_le (outside + (get_or μ t 0 - v)) k))

record IsPlaced (outside : ℕ) (μ : List ℕ) (t k x v : ℕ) : Type 0 where
  row : k ≤ x
  most : v ≤ get_or μ t 0
  least : get_or μ (suc t) 0 ≤ v
  room : outside + (get_or μ t 0 - v) ≤ k

placed_tells : (outside : ℕ) (μ : List ℕ) (t k x v : ℕ) → is_placed outside μ t k x v ≡ true → IsPlaced outside μ t k x v
placed_tells outside μ t k x v h =
    let a = and_parts (nat_le k x) (nat_le v (get_or μ t 0) && (nat_le (get_or μ (suc t) 0) v && nat_le (outside + (get_or μ t 0 - v)) k)) h in
    let b = and_parts (nat_le v (get_or μ t 0)) (nat_le (get_or μ (suc t) 0) v && nat_le (outside + (get_or μ t 0 - v)) k) a.1 in
    let c = and_parts (nat_le (get_or μ (suc t) 0) v) (nat_le (outside + (get_or μ t 0 - v)) k) b.1 in
    record { row = leb-true k x a.0; most = leb-true v (get_or μ t 0) b.0; least = leb-true (get_or μ (suc t) 0) v c.0; room = leb-true (outside + (get_or μ t 0 - v)) k c.1 }

placed_from : (outside : ℕ) (μ : List ℕ) (t k x v : ℕ) → IsPlaced outside μ t k x v → is_placed outside μ t k x v ≡ true
placed_from outside μ t k x v h =
    and_from (nat_le k x) (nat_le v (get_or μ t 0) && (nat_le (get_or μ (suc t) 0) v && nat_le (outside + (get_or μ t 0 - v)) k)) (le-leb k x h.row)
    (and_from (nat_le v (get_or μ t 0)) (nat_le (get_or μ (suc t) 0) v && nat_le (outside + (get_or μ t 0 - v)) k) (le-leb v (get_or μ t 0) h.most)
    (and_from (nat_le (get_or μ (suc t) 0) v) (nat_le (outside + (get_or μ t 0 - v)) k) (le-leb (get_or μ (suc t) 0) v h.least) (le-leb (outside + (get_or μ t 0 - v)) k h.room)))

when : (b : Bool) (y : ℕ) → (b ≡ true → y ≡ 0) → cond b y 0 ≡ 0
when true y h = h refl
when false y h = refl

-- the terms of `filled` after the letters t + 1 are placed in both rows, and the terms of `chains`
abbrev row_terms : (l outside : ℕ) (μ c : List ℕ) (t k m : ℕ) (above : List ℕ) (x : ℕ) → ℕ
row_terms l outside μ c t k m above x =
    cond (is_placed outside μ t m x (get_or c t 0 + (k - x)))
    (cond ((m - (get_or μ t 0 - (get_or c t 0 + (k - x)))) + x == l + outside + missing t μ c) (chains l outside μ c t x (drop 1 above)) 0) 0

row_sum : (l outside : ℕ) (μ c : List ℕ) (t k m : ℕ) (above : List ℕ) → l ≤ k → get_or c t 0 ≤ get_or μ t 0
    → sum_by (row_terms l outside μ c t k m above) (numbers_from (least_left l t k c) (most_left l t k above + 1 - least_left l t k c))
    ≡ cond (m + k == l + outside + missing (suc t) μ c) (chains l outside μ c (suc t) k above) 0
row_sum l outside μ c t k m above o q = by (m + k == l + outside + missing (suc t) μ c) refl
  where
    a : ℕ
    a = least_left l t k c

    b : ℕ
    b = most_left l t k above + 1

    low : ℕ
    low = chain_low l outside μ c t k

    end : ℕ
    end = chain_end l μ c t k above

    G : ℕ → ℕ
    G x = row_terms l outside μ c t k m above x

    Y : ℕ → ℕ
    Y x = chains l outside μ c t x (drop 1 above)

    v : ℕ → ℕ
    v x = get_or c t 0 + (k - x)

    within : (x : ℕ) → x < b → x ≤ k
    within x h = let e = most_within l t k above o in omega arith

    unplaced : (x : ℕ) → (IsPlaced outside μ t m x (v x) → ⊥) → G x ≡ 0
    unplaced x h = when (is_placed outside μ t m x (v x)) _ (λ e. absurd (h (placed_tells outside μ t m x (v x) e)))

    other : m + k ≢ l + outside + missing (suc t) μ c → (x : ℕ) → x < b → G x ≡ 0
    other ne x h =
        when (is_placed outside μ t m x (v x)) _ (λ e.
        let p = placed_tells outside μ t m x (v x) e in
        let w = within x h in
        let p1 = p.row in let p2 = p.most in let p3 = p.least in let p4 = p.room in
        when ((m - (get_or μ t 0 - v x)) + x == l + outside + missing t μ c) (Y x) (λ d.
        let f = eqb-true ((m - (get_or μ t 0 - v x)) + x) (l + outside + missing t μ c) d in absurd (ne (omega arith))))

    same : m + k ≡ l + outside + missing (suc t) μ c → (x : ℕ) → a ≤ x → x < b → low ≤ x → x < end → G x ≡ Y x
    same e x g h g' h' = room (cases_lt (l + missing t μ c) x)
      where
        room : (l + missing t μ c < x) ⊎ (x ≤ l + missing t μ c) → G x ≡ Y x
        room (inl d) =
            let z = chains-zero l outside μ c t x (drop 1 above) d in
            when (is_placed outside μ t m x (v x)) _ (λ u. when ((m - (get_or μ t 0 - v x)) + x == l + outside + missing t μ c) (Y x) (λ u'. z)) ∙ sym z
        room (inr d) =
            let w = within x h in
            ap₂ (λ (u u' : Bool). cond u (cond u' (Y x) 0) 0)
            (placed_from outside μ t m x (v x) (record { row = omega arith; most = omega arith; least = omega arith; room = omega arith }))
            (eq-eqb ((m - (get_or μ t 0 - v x)) + x) (l + outside + missing t μ c) (omega arith))

    by : (u : Bool) → (m + k == l + outside + missing (suc t) μ c) ≡ u → sum_by G (numbers_from a (b - a)) ≡ cond u (chains l outside μ c (suc t) k above) 0
    by true e =
        let f = eqb-true (m + k) (l + outside + missing (suc t) μ c) e in
        sum-matched G Y a b low end (same f)
        (λ x g h d. unplaced x (λ p. let w = within x h in let p1 = p.row in let p2 = p.most in absurd (omega arith)))
        (λ x g h d. unplaced x (λ p. let w = within x h in let p3 = p.least in absurd (omega arith)))
        (λ x g h d. absurd (omega arith))
        (λ x g h d. absurd (omega arith))
    by false e = numbers-zero G a (b - a) (λ x g h. other (eqb-false (m + k) (l + outside + missing (suc t) μ c) e) x (omega arith))

pub lock_step : (n l outside : ℕ) (μ c : List ℕ) (f : List ℕ → List ℕ → ℕ) → ((j : ℕ) → j < n → get_or c j 0 ≤ get_or μ j 0)
    → (t : ℕ) (s : List ℕ) (k m : ℕ) (above : List ℕ) (p : Bool) → t ≤ n → n ≤ length s → is_falling (take n s) ≡ true
    → ((j : ℕ) → j < t → get_or s j 0 ≡ get_or c j 0) → (t ≡ 0 → k ≡ l) → l ≤ k → Reduces n outside μ t s f p m
    → filled true n l t k above f s ≡ cond p (cond (m + k == l + outside + missing t μ c) (chains l outside μ c t k above) 0) 0
lock_step n l outside μ c f inside zero s k m above p h long falls below start o reduces =
    let e : k ≡ l = start refl in
    ap (f (take n s)) (sym (append-nil (drop n s)))
    ∙ reduces (take n s) [] (length-take-le n s long) (falls_places (take n s) falls) (λ j g g'. get_or-take n s j 0 g')
    ∙ ap (λ y. cond p y 0) (first (m == outside) refl e)
  where
    first : (u : Bool) → (m == outside) ≡ u → k ≡ l → cond {A = ℕ} u 1 0 ≡ cond (m + k == l + outside + 0) (cond (k == l) 1 0) 0
    first true d e =
        let z = eqb-true m outside d in
        sym (ap₂ (λ (y y' : Bool). cond {A = ℕ} y (cond y' 1 0) 0) (eq-eqb (m + k) (l + outside + 0) (omega arith)) (eq-eqb k l e))
    first false d e =
        let z = eqb-false m outside d in
        sym (ap (λ (y : Bool). cond {A = ℕ} y (cond (k == l) 1 0) 0) (ne_eqb (m + k) (l + outside + 0) (λ g. z (omega arith))))
lock_step n l outside μ c f inside (suc t) s k m above p h long falls below start o reduces =
    ap (λ a. sum_by Z (numbers_from a (most_left l t k above + 1 - a))) (same_least t (λ j g. below j (omega arith)) (below t (omega arith)))
    ∙ numbers-ext Z (λ x. cond p (row_terms l outside μ c t k m above x) 0) (least_left l t k c) (most_left l t k above + 1 - least_left l t k c)
    (λ x g g'. each x g (omega arith)
    (λ long' falls' below' start' o' reduces'. lock_step n l outside μ c f inside t (state x) x (rest x) (drop 1 above) (p && is_placed outside μ t m x (v x)) (omega arith) long' falls' below' start' o' reduces'))
    ∙ under p
  where
    state : ℕ → List ℕ
    state x = added t (k - x) s ++ mark true x

    Z : ℕ → ℕ
    Z x = filled true n l t x (drop 1 above) f (state x)

    v : ℕ → ℕ
    v x = get_or c t 0 + (k - x)

    rest : ℕ → ℕ
    rest x = m - (get_or μ t 0 - v x)

    same_least : (t' : ℕ) → ((j : ℕ) → j < t' → get_or s j 0 ≡ get_or c j 0) → get_or s t' 0 ≡ get_or c t' 0 → least_left l t' k s ≡ least_left l t' k c
    same_least zero b e = refl
    same_least (suc t') b e = let d = b t' (omega arith) in omega arith

    within : (x : ℕ) → x < most_left l t k above + 1 → x ≤ k
    within x g = let e = most_within l t k above o in omega arith

    may : (x : ℕ) → least_left l t k c ≤ x → x < most_left l t k above + 1 → MayAdd t (k - x) s
    may x g g' j e = by t (λ i q. below i (omega arith)) (below t (omega arith)) g e (falls_places (take n s) falls j) (get_or-take n s j 0 (omega arith)) (get_or-take n s (suc j) 0 (omega arith))
      where
        by : (t' : ℕ) → ((i : ℕ) → i < t' → get_or s i 0 ≡ get_or c i 0) → get_or s t' 0 ≡ get_or c t' 0 → least_left l t' k c ≤ x → t' ≡ suc j
            → get_or (take n s) (suc j) 0 ≤ get_or (take n s) j 0 → get_or (take n s) j 0 ≡ get_or s j 0 → get_or (take n s) (suc j) 0 ≡ get_or s (suc j) 0
            → get_or s t' 0 + (k - x) ≤ get_or s j 0
        by zero b d low e' f1 f2 f3 = absurd (omega arith)
        by (suc t') b d low e' f1 f2 f3 =
            let same : t' ≡ j = omega arith in
            let g1 = ap (λ i. get_or s i 0) same in
            let g2 = ap (λ i. get_or s (suc i) 0) same in
            let g3 = b t' (omega arith) in
            omega arith

    begin : (x : ℕ) → t ≡ 0 → least_left l t k c ≤ x → x < most_left l t k above + 1 → x ≡ l
    begin x e = by t e
      where
        by : (t' : ℕ) → t' ≡ 0 → least_left l t' k c ≤ x → x < most_left l t' k above + 1 → x ≡ l
        by zero e' g g' = omega arith
        by (suc t') e' g g' = absurd (omega arith)

    reduced : (x : ℕ) → Reduces n outside μ t (state x) f (p && is_placed outside μ t m x (v x)) (rest x)
    reduced x ν r long' falls' agree =
        let at : get_or ν t 0 ≡ v x = agree t (omega arith) (omega arith) ∙ get-added_at t (k - x) s (mark true x) (omega arith) ∙ ap (λ y. y + (k - x)) (below t (omega arith)) in
        ap (f ν) (ap (λ u. u ++ r) (drop-added n t (k - x) s (mark true x) (omega arith) long) ∙ append_assoc (drop n s) (mark true x) r)
        ∙ reduces ν (x ∷ r) long' falls' (λ j g g'. agree j (omega arith) g' ∙ get-added_other t (k - x) j s (mark true x) g (omega arith))
        ∙ ap (λ y. cond p (cond (is_placed outside μ t m x y) (completes outside μ t (m - (get_or μ t 0 - y)) (drop 1 (x ∷ r)) ν) 0) 0) at
        ∙ ap (λ w. cond p (cond (is_placed outside μ t m x (v x)) (completes outside μ t (rest x) w ν) 0) 0) (drop-none r)
        ∙ sym (cond_and p (is_placed outside μ t m x (v x)) (completes outside μ t (rest x) r ν))

    each : (x : ℕ) → least_left l t k c ≤ x → x < most_left l t k above + 1
        → (n ≤ length (state x) → is_falling (take n (state x)) ≡ true → ((j : ℕ) → j < t → get_or (state x) j 0 ≡ get_or c j 0) → (t ≡ 0 → x ≡ l) → l ≤ x
        → Reduces n outside μ t (state x) f (p && is_placed outside μ t m x (v x)) (rest x)
        → Z x ≡ cond (p && is_placed outside μ t m x (v x)) (cond (rest x + x == l + outside + missing t μ c) (chains l outside μ c t x (drop 1 above)) 0) 0)
        → Z x ≡ cond p (row_terms l outside μ c t k m above x) 0
    each x g g' rec =
        rec (let e = length_put true t (k - x) x s in omega arith)
        (falls-put n t (k - x) s (mark true x) (omega arith) long falls (may x g g'))
        (λ j q. get-added_before t (k - x) j s (mark true x) q (omega arith) ∙ below j (omega arith))
        (λ e. begin x e g g') (let e = least_outside l t k c in omega arith) (reduced x)
        ∙ cond_and p (is_placed outside μ t m x (v x)) (cond (rest x + x == l + outside + missing t μ c) (chains l outside μ c t x (drop 1 above)) 0)

    under : (u : Bool) → sum_by (λ x. cond u (row_terms l outside μ c t k m above x) 0) (numbers_from (least_left l t k c) (most_left l t k above + 1 - least_left l t k c))
        ≡ cond u (cond (m + k == l + outside + missing (suc t) μ c) (chains l outside μ c (suc t) k above) 0) 0
    under true = row_sum l outside μ c t k m above o (inside t (omega arith))
    under false = sum_by-zero (numbers_from (least_left l t k c) (most_left l t k above + 1 - least_left l t k c))

-- the ways to add the last two rows to the weakly decreasing sum c so that it becomes μ
pub last_two : (l outside k1 k0 : ℕ) (μ c above : List ℕ) → ArePositive μ → 0 < length μ → length c ≡ length μ → is_falling c ≡ true → l ≤ k1 → outside ≤ k0
    → ((j : ℕ) → j < length μ → get_or c j 0 ≤ get_or μ j 0)
    → over_rows (length μ) (k1 ∷ k0 ∷ []) (l ∷ outside ∷ []) (comes_to μ) c above
    ≡ cond (may_precede nat_le k1 above && (l + outside + missing (length μ) μ c == k1 + k0)) (chains l outside μ c (length μ) k1 (drop 1 above)) 0
last_two l outside k1 k0 μ c above positive some long falls o o' inside =
    ap (λ y. cond (may_precede nat_le k1 above) y 0)
    (lock_step n l outside μ c F inside n c k1 k0 (drop 1 above) true (omega arith) (omega arith) (ap is_falling (take_all n c (omega arith)) ∙ falls) (λ j h. refl)
    (λ e. absurd (omega arith)) o reduces)
    ∙ sym (cond_and (may_precede nat_le k1 above) (k0 + k1 == l + outside + missing n μ c) (chains l outside μ c n k1 (drop 1 above)))
    ∙ ap (λ u. cond (may_precede nat_le k1 above && u) (chains l outside μ c n k1 (drop 1 above)) 0)
    (equal-sym (k0 + k1) (l + outside + missing n μ c) ∙ ap (λ y. l + outside + missing n μ c == y) (let e : k0 + k1 ≡ k1 + k0 = omega arith in e))
  where
    n : ℕ
    n = length μ

    F : List ℕ → List ℕ → ℕ
    F = over_rows n (k0 ∷ []) (drop 1 (l ∷ outside ∷ [])) (comes_to μ)

    reduces : Reduces n outside μ n c F true k0
    reduces ν r long' falls' agree =
        ap (λ w. F ν (w ++ r)) (drop_all n c (omega arith))
        ∙ ap (λ (w : List ℕ). next_row n false (part w 1) k0 (comes_to μ) ν r) (drop-none (outside ∷ []))
        ∙ last_row outside k0 μ ν r positive some long' o' falls'
