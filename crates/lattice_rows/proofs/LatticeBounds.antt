-- The bounds for the next row of a lattice tableau, in lists, and the rows that they allow.
use Rattle.std.proofs.Common.{◌≡◌, ℕ, zero, suc, ◌+◌, ◌-◌, ◌<◌, ◌≤◌, ◌==◌, ◌⊎◌, inl, inr, nat_le, min, Bool, true, cond, List, [], ◌∷◌, ◌++◌, length, take, drop, get_or, set, append-nil, length-append, refl, sym, ap, ◌∙◌, subst, arith}
use Rattle.std.proofs.lemmas.Bool.{cases_lt, lt-leb, le-leb, ne_eqb, eq-eqb}
use Rattle.std.proofs.lemmas.List.{get_or-set_other, get_or-set_same, get_or-take, get_or_append_left, length-take-le}
use Rattle.sym_model.proofs.Numbers.{zero_either}
use Rattle.tableau_laws.specs.Grid.{may_precede}
use Rattle.lr_product.specs.RowExtension.{filled, next_row}
use Rattle.lattice_rows.specs.LatticeRows.{row_room, least_end, greatest_end, AreBounds, AgreeBelow, CountsEndings, CountsReached}
use Rattle.lr_product.proofs.LetterSums.{sum-end}
use Rattle.lattice_rows.proofs.LatticeFilling.{least_excluded, greatest_excluded, filled-alike}

pub bounds_next : (n m out : ℕ) (μ c ends room least greatest : List ℕ) (r l g : ℕ) → m < length room → m + 1 < length least → m + 1 < length greatest
    → AreBounds n m out μ c ends room least greatest → r ≡ row_room μ c m → l ≡ least_end out μ c (suc m) → g ≡ greatest_end n out μ c ends (suc m) → get_or c m 0 + r < 256
    → AreBounds n (m + 1) out μ c ends (set room m r) (set least (m + 1) l) (set greatest (m + 1) g)
bounds_next n m out μ c ends room least greatest r l g a b d before is-r is-l is-g fit = record {
  room_is = λ t h. by-room t h (cases_lt t m);
  least_is = λ t h. by-least t h (cases_lt m t);
  greatest_is = λ t h. by-greatest t h (cases_lt m t);
  fits = λ t h. by-fits t h (cases_lt t m);
}
  where
    by-room : (t : ℕ) → t < m + 1 → (t < m) ⊎ (m ≤ t) → get_or (set room m r) t 0 ≡ row_room μ c t
    by-room t h (inl q) = get_or-set_other room m t r 0 (λ e. absurd (omega arith)) ∙ before.room_is t q
    by-room t h (inr q) = let e : t ≡ m = omega arith in subst (λ i. get_or (set room m r) i 0 ≡ row_room μ c i) (sym e) (get_or-set_same room m r 0 a ∙ is-r)

    by-least : (t : ℕ) → t ≤ m + 1 → (m < t) ⊎ (t ≤ m) → get_or (set least (m + 1) l) t 0 ≡ least_end out μ c t
    by-least t h (inr q) = get_or-set_other least (m + 1) t l 0 (λ e. absurd (omega arith)) ∙ before.least_is t q
    by-least t h (inl q) =
        let e : t ≡ m + 1 = omega arith in
        let s : m + 1 ≡ suc m = omega arith in
        subst (λ i. get_or (set least (m + 1) l) i 0 ≡ least_end out μ c i) (sym e) (get_or-set_same least (m + 1) l 0 b ∙ is-l ∙ ap (λ i. least_end out μ c i) (sym s))

    by-greatest : (t : ℕ) → t ≤ m + 1 → (m < t) ⊎ (t ≤ m) → get_or (set greatest (m + 1) g) t 0 ≡ greatest_end n out μ c ends t
    by-greatest t h (inr q) = get_or-set_other greatest (m + 1) t g 0 (λ e. absurd (omega arith)) ∙ before.greatest_is t q
    by-greatest t h (inl q) =
        let e : t ≡ m + 1 = omega arith in
        let s : m + 1 ≡ suc m = omega arith in
        subst (λ i. get_or (set greatest (m + 1) g) i 0 ≡ greatest_end n out μ c ends i) (sym e) (get_or-set_same greatest (m + 1) g 0 d ∙ is-g ∙ ap (λ i. greatest_end n out μ c ends i) (sym s))

    by-fits : (t : ℕ) → t < m + 1 → (t < m) ⊎ (m ≤ t) → get_or c t 0 + get_or (set room m r) t 0 < 256
    by-fits t h (inl q) = let e = get_or-set_other room m t r 0 (λ e. absurd (omega arith)) in let f = before.fits t q in omega arith
    by-fits t h (inr q) =
        let e : t ≡ m = omega arith in
        subst (λ i. get_or c i 0 + get_or (set room m r) i 0 < 256) (sym e) (let s = get_or-set_same room m r 0 a in omega arith)

-- a row that ends before its first cell
pub ends_outside : (kept : Bool) (n out k : ℕ) (above s : List ℕ) (f : List ℕ → List ℕ → ℕ) → 2 ≤ n → k < out → filled kept n out n k above f s ≡ 0
ends_outside kept zero out k above s f h g = absurd (omega arith)
ends_outside kept (suc zero) out k above s f h g = absurd (omega arith)
ends_outside kept (suc (suc n)) out k [] s f h g = sum-end _ _ _ (omega arith)
ends_outside kept (suc (suc n)) out k (x ∷ above) s f h g = sum-end _ _ _ (omega arith)

-- the number of letters m + 1 that is allowed, as it is computed
pub room_value : (m missing r : ℕ) (μ c : List ℕ) → missing ≡ get_or μ m 0 - get_or c m 0 → r ≡ min missing (cond (m == 0) missing (get_or c (m - 1) 0 - get_or c m 0))
    → r ≡ row_room μ c m
room_value zero missing r μ c e is = omega arith
room_value (suc m) missing r μ c e is =
    let d : suc m - 1 ≡ m = omega arith in
    let q = ap (λ t. cond {A = ℕ} t missing (get_or c (suc m - 1) 0 - get_or c (suc m) 0)) (ne_eqb (suc m) 0 (λ z. absurd (omega arith))) in
    let w = ap (λ i. get_or c i 0) d in
    omega arith

module _ (n : ℕ) (is_last : Bool) (μ : List ℕ) (f : List ℕ → List ℕ → ℕ) (counts : CountsEndings n is_last μ f) (some : 2 ≤ n) (full : length μ ≡ n) where
  first_bound : (out m : ℕ) (U c : List ℕ) → n ≡ suc m → greatest_end n out μ c U n ≡ min (get_or U 0 0) (greatest_end n out μ c U m + row_room μ c m)
  first_bound out m U c e =
      let d : n - suc m ≡ 0 = omega arith in
      ap (λ i. greatest_end n out μ c U i) e ∙ ap (λ i. min (get_or U i 0) (greatest_end n out μ c U m + row_room μ c m)) d

  -- the rows within the bounds for their length
  pub row_within : (out a : ℕ) (U c e : List ℕ) → length U ≡ n → a ≤ greatest_end n out μ c U n
      → next_row n true out a f (take n c) U ≡ filled true n out n a (drop ((n + 1) - n) U) f (take n c ++ take (n - n) e)
  row_within out a U c e u h =
      let i : 1 ≡ (n + 1) - n = omega arith in
      let z : 0 ≡ n - n = omega arith in
      by U (omega arith) (let b = first_bound out (n - 1) U c (omega arith) in omega arith)
      ∙ ap (λ k. filled true n out n a (drop k U) f (take n c)) i
      ∙ ap (λ v. filled true n out n a (drop ((n + 1) - n) U) f v) (sym (append-nil (take n c)) ∙ ap (λ k. take n c ++ take k e) z)
    where
      by : (V : List ℕ) → 2 ≤ length V → a ≤ get_or V 0 0 → next_row n true out a f (take n c) V ≡ filled true n out n a (drop 1 V) f (take n c)
      by [] l q = absurd (omega arith)
      by (x ∷ V) l q = ap (λ t. cond t (filled true n out n a V f (take n c)) 0) (le-leb a x q)

  -- the rows outside these bounds
  pub row_outside : (out a : ℕ) (U c : List ℕ) → length U ≡ n → n ≤ length c → (a < least_end out μ c n) ⊎ (greatest_end n out μ c U n < a)
      → next_row n true out a f (take n c) U ≡ 0
  row_outside out a U c u l h = by (cases_lt a out) h
    where
      agree : AgreeBelow n (take n c) c
      agree = record { agree = λ i q. get_or-take n c i 0 q }

      past : (V : List ℕ) → get_or V 0 0 < a → 2 ≤ length V → next_row n true out a f (take n c) V ≡ 0
      past [] q w = absurd (omega arith)
      past (x ∷ V) q w = ap (λ t. cond t (filled true n out n a V f (take n c)) 0) (lt-leb a x q)

      much : (m : ℕ) → n ≡ suc m → out ≤ a → greatest_end n out μ c U m + row_room μ c m < a → filled true n out n a (drop 1 U) f (take n c) ≡ 0
      much m e o q =
          let i : 1 ≡ (n + 1) - suc m = omega arith in
          let w = length-take-le n c l in
          ap (λ k. filled true n out n a (drop k U) f (take n c)) i ∙ ap (λ k. filled true n out k a (drop ((n + 1) - suc m) U) f (take n c)) e
          ∙ greatest_excluded n is_last μ f counts out m a U (take n c) c full u (omega arith) (omega arith) (subst (λ k. AgreeBelow k (take n c) c) e agree) o q

      by : (a < out) ⊎ (out ≤ a) → (a < least_end out μ c n) ⊎ (greatest_end n out μ c U n < a) → next_row n true out a f (take n c) U ≡ 0
      by (inl o) q = zero_either (may_precede nat_le a U) (ends_outside true n out a (drop 1 U) (take n c) f some o)
      by (inr o) (inl q) =
          zero_either (may_precede nat_le a U) (least_excluded n is_last μ f counts out n a (drop 1 U) (take n c) c (omega arith) (let w = length-take-le n c l in omega arith) agree o q)
      by (inr o) (inr q) = split (cases_lt (get_or U 0 0) a)
        where
          split : (get_or U 0 0 < a) ⊎ (a ≤ get_or U 0 0) → next_row n true out a f (take n c) U ≡ 0
          split (inl p) = past U p (omega arith)
          split (inr p) = zero_either (may_precede nat_le a U) (much (n - 1) (omega arith) o (let b = first_bound out (n - 1) U c (omega arith) in omega arith))

  -- the rows depend on the ends above only by the greatest ends
  pub row_alike : (out a : ℕ) (U V c : List ℕ) → length U ≡ n → length V ≡ n → n ≤ length c → ((t : ℕ) → t ≤ n → greatest_end n out μ c U t ≡ greatest_end n out μ c V t)
      → next_row n true out a f (take n c) U ≡ next_row n true out a f (take n c) V
  row_alike out a U V c u v l same = by (cases_lt a out) (cases_lt (greatest_end n out μ c U n) a)
    where
      w : length (take n c) ≡ n
      w = length-take-le n c l

      z : length (take n c ++ take (n - n) []) + n ≡ n + n
      z = let y = w in let e = length-append (take n c) (take (n - n) []) in let d : n - n ≡ 0 = omega arith in let g : length {A = ℕ} (take (n - n) []) ≡ 0 = ap (λ k. length {A = ℕ} (take k [])) d in omega arith

      agree : AgreeBelow n (take n c ++ take (n - n) []) c
      agree = record { agree = λ i q. get_or_append_left (take n c) (take (n - n) []) 0 i (let y = w in omega arith) ∙ get_or-take n c i 0 q }

      by : (a < out) ⊎ (out ≤ a) → (greatest_end n out μ c U n < a) ⊎ (a ≤ greatest_end n out μ c U n) → next_row n true out a f (take n c) U ≡ next_row n true out a f (take n c) V
      by (inl o) q =
          zero_either (may_precede nat_le a U) (ends_outside true n out a (drop 1 U) (take n c) f some o)
          ∙ sym (zero_either (may_precede nat_le a V) (ends_outside true n out a (drop 1 V) (take n c) f some o))
      by (inr o) (inl q) = let e = same n (omega arith) in row_outside out a U c u l (inr q) ∙ sym (row_outside out a V c v l (inr (omega arith)))
      by (inr o) (inr q) =
          let e = same n (omega arith) in
          row_within out a U c [] u q
          ∙ filled-alike n is_last μ f counts out n a U V (take n c ++ take (n - n) []) c full u v (omega arith) z agree o same
          ∙ sym (row_within out a V c [] v (omega arith))

-- each of the ends is lowered to the greatest end of a next row
record AreLowered (n outside : ℕ) (μ c ends lowered : List ℕ) : Type 0 where
  is : (t : ℕ) → t < n → get_or lowered (n - suc t) 0 ≡ greatest_end n outside μ c ends (suc t)

-- this does not change the greatest ends
greatest_lowered : (n out : ℕ) (μ c U V : List ℕ) → AreLowered n out μ c U V → (t : ℕ) → t ≤ n → greatest_end n out μ c U t ≡ greatest_end n out μ c V t
greatest_lowered n out μ c U V low zero h = refl
greatest_lowered n out μ c U V low (suc t) h = let e = greatest_lowered n out μ c U V low t (omega arith) in let g = low.is t (omega arith) in omega arith

pub lowered_same : (n out : ℕ) (μ c ends low : List ℕ) (f : List ℕ → List ℕ → ℕ) → n ≤ length c → n ≤ length ends → n ≤ length low → CountsReached n out μ f
    → ((t : ℕ) → t < n → get_or low (n - suc t) 0 ≡ greatest_end n out μ (take n c) (take n ends) (suc t)) → f (take n c) (take n low) ≡ f (take n c) (take n ends)
lowered_same n out μ c ends low f h l w reached is =
    let lows : AreLowered n out μ (take n c) (take n ends) (take n low) = record { is = λ t q. get_or-take n low (n - suc t) 0 (omega arith) ∙ is t q } in
    sym (reached.alike (take n c) (take n ends) (take n low) (length-take-le n c h) (length-take-le n ends l) (length-take-le n low w)
    (greatest_lowered n out μ (take n c) (take n ends) (take n low) lows))

-- one pass of the loop that lowers the ends
pub lowered_next : (n m out : ℕ) (μ c U ends : List ℕ) (e : ℕ) → m < n → n ≤ length ends → ((t : ℕ) → t < m → get_or ends (n - suc t) 0 ≡ greatest_end n out μ c U (suc t))
    → e ≡ greatest_end n out μ c U (suc m) → (t : ℕ) → t < m + 1 → get_or (set ends (n - 1 - m) e) (n - suc t) 0 ≡ greatest_end n out μ c U (suc t)
lowered_next n m out μ c U ends e h l before is t q = by (cases_lt t m)
  where
    by : (t < m) ⊎ (m ≤ t) → get_or (set ends (n - 1 - m) e) (n - suc t) 0 ≡ greatest_end n out μ c U (suc t)
    by (inl g) = get_or-set_other ends (n - 1 - m) (n - suc t) e 0 (λ z. absurd (omega arith)) ∙ before t g
    by (inr g) =
        let same : t ≡ m = omega arith in
        let place : n - suc t ≡ n - 1 - m = omega arith in
        ap (λ i. get_or (set ends (n - 1 - m) e) i 0) place ∙ get_or-set_same ends (n - 1 - m) e 0 (omega arith) ∙ is ∙ ap (λ i. greatest_end n out μ c U (suc i)) (sym same)

-- one pass of a loop over the lengths a of the row, from `low` to `entry`
pub rows_step : (entry a low old new all x : ℕ) → new ≡ old + cond (entry == a) x 0 → low ≤ a → a < entry + 1 → (low ≤ a → a < entry → old ≡ all) → (entry ≤ a → old ≡ 0) → (a ≡ entry → x ≡ all)
    → new ≡ all
rows_step entry a low old new all x e l h before after now = by (cases_lt a entry)
  where
    by : (a < entry) ⊎ (entry ≤ a) → new ≡ all
    by (inl q) =
        let b = ap (λ t. cond t x 0) (ne_eqb entry a (λ z. absurd (omega arith))) in
        let o = before l q in
        omega arith
    by (inr q) =
        let same : a ≡ entry = omega arith in
        let b = ap (λ t. cond t x 0) (eq-eqb entry a (sym same)) in
        let o = after q in
        let w = now same in
        omega arith

pub rows_other : (entry a low old new x : ℕ) → new ≡ old + cond (entry == a) x 0 → low ≤ entry → (a < low) ⊎ (entry + 1 ≤ a) → ((a < low) ⊎ (entry ≤ a) → old ≡ 0) → new ≡ 0
rows_other entry a low old new x e l (inl h) before =
    let b = ap (λ t. cond t x 0) (ne_eqb entry a (λ z. absurd (omega arith))) in
    let o = before (inl h) in
    omega arith
rows_other entry a low old new x e l (inr h) before =
    let b = ap (λ t. cond t x 0) (ne_eqb entry a (λ z. absurd (omega arith))) in
    let o = before (inr (omega arith)) in
    omega arith

pub rows_all : (a low greatest entry now all : ℕ) → greatest + 1 ≤ entry → (low ≤ a → a < entry → now ≡ all) → ((a < low) ⊎ (entry ≤ a) → now ≡ 0) → ((a < low) ⊎ (greatest < a) → all ≡ 0)
    → now ≡ all
rows_all a low greatest entry now all done inside outside none = by (cases_lt a low) (cases_lt a entry)
  where
    by : (a < low) ⊎ (low ≤ a) → (a < entry) ⊎ (entry ≤ a) → now ≡ all
    by (inl q) r = outside (inl q) ∙ sym (none (inl q))
    by (inr q) (inl r) = inside q r
    by (inr q) (inr r) = outside (inr r) ∙ sym (none (inr (omega arith)))
