-- The Bender–Knuth involution on the rows of a tableau, padded with zeros at the cells of the inner shape. Let x be the number of letters smaller
-- than k + 1 in a row, and let a and b be the least and the greatest number of such letters that the neighbouring rows allow: the involution replaces
-- x by a + b - x.
use Rattle.std.proofs.Common.{◌≡◌, ℕ, suc, ◌+◌, ◌-◌, ◌<◌, ◌≤◌, ◌⊎◌, min, max, Bool, true, ◌&&◌, List, [], ◌∷◌, map, length, nat_le, nat_lt, sym, ◌∙◌, ap, ap₂, subst, refl, inl, inr, arith}
use Rattle.std.proofs.lemmas.Bool.{cases_lt, cases_eq, and_parts, and_from, ltb-true, lt-ltb, cond_below}
use Rattle.sym_model.specs.Partition.{Falls}
use Rattle.sym_model.specs.PlaceOrders.{smaller}
use Rattle.sym_model.specs.Schur.{times_in, letters_of}
use Rattle.sym_model.proofs.Contents.{times_in-append}
use Rattle.tableau_laws.specs.Grid.{is_chain, pass_by_place, first_line, may_stand_above, is_padded_tableau}
use Rattle.tableau_laws.proofs.Grids.{falls_below}
use Rattle.tableau_laws.proofs.PatternFillings.{AllFit}
use Rattle.alternant_laws.proofs.Rows.{chain_tells, rises_chain, none_smaller, smaller_next, recut, length-recut, recut_rises, smaller-recut, smaller-recut_middle, recut_twice, recut_fits, recut_at_most}
use Rattle.sym_model.specs.Bounded.{AreAtMost, Lacks}
use Rattle.tableau_laws.specs.Rows.{RisesFrom}
use Rattle.sym_model.proofs.Lists.{smaller-within}
use Rattle.sym_model.proofs.Numbers.{counts-not_less}
use Rattle.std.proofs.Math.Nat.{add-sub_cancel_left}

-- ---- two rows such that the upper one can be directly above the lower one

-- for each j > 0, the number of letters less than j + 1 in the lower row is at most the number of letters less than j in the upper row; for weakly
-- increasing rows this says that the columns are strictly increasing
abbrev pub StandsOver : List ℕ → List ℕ → Type 0
StandsOver upper lower = (j : ℕ) → 0 < j → smaller (suc j) lower ≤ smaller j upper

stands_tells : (lo lo' : ℕ) (upper lower : List ℕ) → RisesFrom lo upper → RisesFrom lo' lower → length lower ≤ length upper
    → pass_by_place may_stand_above upper lower ≡ true → StandsOver upper lower
stands_tells lo lo' [] [] r s l e j h = omega arith
stands_tells lo lo' [] (b ∷ lower) r s l e j h = absurd (omega arith)
stands_tells lo lo' (a ∷ upper) [] r s l e j h = omega arith
stands_tells lo lo' (a ∷ upper) (b ∷ lower) r s l e j h =
    let p = and_parts (nat_lt a (b + (1 - a))) (pass_by_place may_stand_above upper lower) e in
    let q = ltb-true a (b + (1 - a)) p.0 in
    by q (stands_tells a b upper lower r.1 s.1 (omega arith) p.1 j h) (cases_lt j b)
  where
    by : a < b + (1 - a) → smaller (suc j) lower ≤ smaller j upper → (j < b) ⊎ (b ≤ j) → smaller (suc j) (b ∷ lower) ≤ smaller j (a ∷ upper)
    by q later (inl g) =
        let x = counts-not_less b (suc j) g in
        let y = none_smaller (suc j) b lower s.1 g in
        omega arith
    by q later (inr g) =
        let x = sym (cond_below {X = ℕ} b (suc j) 1 0 (omega arith)) in
        let y = sym (cond_below {X = ℕ} a j 1 0 (omega arith)) in
        omega arith

stands_back : (lo lo' : ℕ) (upper lower : List ℕ) → RisesFrom lo upper → RisesFrom lo' lower → StandsOver upper lower → pass_by_place may_stand_above upper lower ≡ true
stands_back lo lo' [] lower r s o = refl
stands_back lo lo' (a ∷ upper) [] r s o = refl
stands_back lo lo' (a ∷ upper) (b ∷ lower) r s o =
    and_from (nat_lt a (b + (1 - a))) (pass_by_place may_stand_above upper lower)
    (lt-ltb a (b + (1 - a)) (first (cases_lt a (b + (1 - a)))))
    (stands_back a b upper lower r.1 s.1 (λ j h. later j h (cases_lt j b) (cases_lt a j)))
  where
    first : (a < b + (1 - a)) ⊎ (b + (1 - a) ≤ a) → a < b + (1 - a)
    first (inl h) = h
    first (inr h) =
        let g = o a (omega arith) in
        let x = sym (cond_below {X = ℕ} b (suc a) 1 0 (omega arith)) in
        let y = counts-not_less a a (omega arith) in
        let z = none_smaller a a upper r.1 (omega arith) in
        absurd (omega arith)

    later : (j : ℕ) → 0 < j → (j < b) ⊎ (b ≤ j) → (a < j) ⊎ (j ≤ a) → smaller (suc j) lower ≤ smaller j upper
    later j h (inl g) c = let y = none_smaller (suc j) b lower s.1 g in omega arith
    later j h (inr g) (inl c) =
        let t = o j h in
        let x = sym (cond_below {X = ℕ} b (suc j) 1 0 (omega arith)) in
        let y = sym (cond_below {X = ℕ} a j 1 0 c) in
        omega arith
    later j h (inr g) (inr c) =
        let t = o j h in
        let x = sym (cond_below {X = ℕ} b (suc j) 1 0 (omega arith)) in
        let y = counts-not_less a j c in
        let z = none_smaller j a upper r.1 c in
        absurd (omega arith)

-- the rows are a *stack*: each row is weakly increasing, and can be directly above the next row (`StandsOver`)
abbrev pub IsStack : List (List ℕ) → Type 0
IsStack [] = Unit {0}
IsStack (w ∷ ws) = RisesFrom 0 w × (StandsOver w (first_line ws) × IsStack ws)

lower_length : (w : List ℕ) (ws : List (List ℕ)) → Falls (map length (w ∷ ws)) → length (first_line ws) ≤ length w
lower_length w [] f = omega arith
lower_length w (v ∷ ws) f = f.0

first_rises : (rows : List (List ℕ)) → IsStack rows → RisesFrom 0 (first_line rows)
first_rises [] s = tt
first_rises (w ∷ ws) s = s.0

pub stack_tells : (rows : List (List ℕ)) → Falls (map length rows) → is_padded_tableau rows ≡ true → IsStack rows
stack_tells [] f e = tt
stack_tells (w ∷ ws) f e =
    let p = and_parts (is_chain nat_le w) (pass_by_place may_stand_above w (first_line ws) && is_padded_tableau ws) e in
    let q = and_parts (pass_by_place may_stand_above w (first_line ws)) (is_padded_tableau ws) p.1 in
    let rest = stack_tells ws (falls_below w ws f) q.1 in
    (chain_tells w p.0, (stands_tells 0 0 w (first_line ws) (chain_tells w p.0) (first_rises ws rest) (lower_length w ws f) q.0, rest))

pub stack_back : (rows : List (List ℕ)) → IsStack rows → is_padded_tableau rows ≡ true
stack_back [] s = refl
stack_back (w ∷ ws) s =
    and_from (is_chain nat_le w) (pass_by_place may_stand_above w (first_line ws) && is_padded_tableau ws) (rises_chain w s.0)
    (and_from (pass_by_place may_stand_above w (first_line ws)) (is_padded_tableau ws) (stands_back 0 0 w (first_line ws) s.0 (first_rises ws s.1.1) s.1.0) (stack_back ws s.1.1))

-- ---- the involution on a stack of rows (`toggled`)

-- the number of letters smaller than k + 1 in the row to which the involution takes w, if the row above has c letters smaller than k, and the next
-- row has d letters smaller than k + 2
abbrev pub middle : ℕ → ℕ → List ℕ → ℕ → ℕ
middle k c w d = (min c (smaller (suc (suc k)) w) + max (smaller k w) d) - smaller (suc k) w

abbrev pub toggled : ℕ → ℕ → List (List ℕ) → List (List ℕ)
toggled k c [] = []
toggled k c (w ∷ ws) = recut k (middle k c w (smaller (suc (suc k)) (first_line ws))) w ∷ toggled k (smaller k w) ws

-- `middle k c w d` is at least the number of letters of w smaller than k and at least d, and at most the number of letters of w smaller than k + 2
-- and at most c
record HasRoom (k c d : ℕ) (w : List ℕ) : Type 0 where
  low : smaller k w ≤ middle k c w d
  high : middle k c w d ≤ smaller (suc (suc k)) w
  above : middle k c w d ≤ c
  below : d ≤ middle k c w d
  sum : middle k c w d + smaller (suc k) w ≡ min c (smaller (suc (suc k)) w) + max (smaller k w) d

room_of : (c d b0 b1 b2 : ℕ) → b1 ≤ c → d ≤ b1 → b0 ≤ b1 → b1 ≤ b2
    → (b0 ≤ (min c b2 + max b0 d) - b1) × ((min c b2 + max b0 d) - b1 ≤ b2) × ((min c b2 + max b0 d) - b1 ≤ c) × (d ≤ (min c b2 + max b0 d) - b1)
    × ((min c b2 + max b0 d) - b1 + b1 ≡ min c b2 + max b0 d)
room_of c d b0 b1 b2 p q r s = (omega arith, omega arith, omega arith, omega arith, omega arith)

has_room : (k c d : ℕ) (w : List ℕ) → smaller (suc k) w ≤ c → d ≤ smaller (suc k) w → HasRoom k c d w
has_room k c d w p q =
    let a = smaller_next k w in
    let b = smaller_next (suc k) w in
    let r = room_of c d (smaller k w) (smaller (suc k) w) (smaller (suc (suc k)) w) p q (omega arith) (omega arith) in
    record { low = r.0; high = r.1; above = r.2; below = r.3; sum = r.4 }

middle_smaller : (k c d : ℕ) (w : List ℕ) → RisesFrom 0 w → HasRoom k c d w → smaller (suc k) (recut k (middle k c w d) w) ≡ middle k c w d
middle_smaller k c d w r h = smaller-recut_middle k (middle k c w d) 0 w r h.low h.high

first_smaller : (j k c : ℕ) (ws : List (List ℕ)) → (j ≤ k) ⊎ (suc k < j) → smaller j (first_line (toggled k c ws)) ≡ smaller j (first_line ws)
first_smaller j k c [] h = refl
first_smaller j k c (w ∷ ws) h = smaller-recut j k (middle k c w (smaller (suc (suc k)) (first_line ws))) w h

pub length_first : (k c : ℕ) (ws : List (List ℕ)) → length (first_line (toggled k c ws)) ≡ length (first_line ws)
length_first k c [] = refl
length_first k c (w ∷ ws) = length-recut k (middle k c w (smaller (suc (suc k)) (first_line ws))) w

row_room : (k c : ℕ) (w : List ℕ) (ws : List (List ℕ)) → StandsOver w (first_line ws) → smaller (suc k) w ≤ c
    → HasRoom k c (smaller (suc (suc k)) (first_line ws)) w
row_room k c w ws o h = has_room k c (smaller (suc (suc k)) (first_line ws)) w h (o (suc k) (omega arith))

first_within : (k c : ℕ) (ws : List (List ℕ)) → IsStack ws → smaller (suc k) (first_line ws) ≤ c → smaller (suc k) (first_line (toggled k c ws)) ≤ c
first_within k c [] s h = h
first_within k c (w ∷ ws) s h =
    let m = row_room k c w ws s.1.0 h in
    let e = middle_smaller k c (smaller (suc (suc k)) (first_line ws)) w s.0 m in
    let a = m.above in
    omega arith

toggled_over : (k c : ℕ) (w : List ℕ) (ws : List (List ℕ)) → 0 < k → IsStack (w ∷ ws) → smaller (suc k) w ≤ c
    → StandsOver (recut k (middle k c w (smaller (suc (suc k)) (first_line ws))) w) (first_line (toggled k (smaller k w) ws))
toggled_over k c w ws p s h j q = by (cases_eq j k) (cases_eq j (suc k))
  where
    by : (j ≡ k) ⊎ (j ≡ k → ⊥) → (j ≡ suc k) ⊎ (j ≡ suc k → ⊥)
        → smaller (suc j) (first_line (toggled k (smaller k w) ws)) ≤ smaller j (recut k (middle k c w (smaller (suc (suc k)) (first_line ws))) w)
    by (inl e) d =
        let x = first_within k (smaller k w) ws s.1.1 (s.1.0 k p) in
        let y = smaller-recut k k (middle k c w (smaller (suc (suc k)) (first_line ws))) w (inl (omega arith)) in
        subst (λ i. smaller (suc i) (first_line (toggled k (smaller k w) ws)) ≤ smaller i (recut k (middle k c w (smaller (suc (suc k)) (first_line ws))) w)) (sym e) (omega arith)
    by (inr n) (inl e) =
        let m = row_room k c w ws s.1.0 h in
        let x = middle_smaller k c (smaller (suc (suc k)) (first_line ws)) w s.0 m in
        let y = first_smaller (suc (suc k)) k (smaller k w) ws (inr (omega arith)) in
        let b = m.below in
        subst (λ i. smaller (suc i) (first_line (toggled k (smaller k w) ws)) ≤ smaller i (recut k (middle k c w (smaller (suc (suc k)) (first_line ws))) w)) (sym e) (omega arith)
    by (inr n) (inr m) =
        let o = s.1.0 j q in
        let x = smaller-recut j k (middle k c w (smaller (suc (suc k)) (first_line ws))) w (aside j n m (cases_lt j k)) in
        let y = first_smaller (suc j) k (smaller k w) ws (aside_next j n m (cases_lt j k)) in
        omega arith
      where
        aside : (i : ℕ) → (i ≡ k → ⊥) → (i ≡ suc k → ⊥) → (i < k) ⊎ (k ≤ i) → (i ≤ k) ⊎ (suc k < i)
        aside i a b (inl l) = inl (omega arith)
        aside i a b (inr l) = inr (omega arith)

        aside_next : (i : ℕ) → (i ≡ k → ⊥) → (i ≡ suc k → ⊥) → (i < k) ⊎ (k ≤ i) → (suc i ≤ k) ⊎ (suc k < suc i)
        aside_next i a b (inl l) = inl l
        aside_next i a b (inr l) = inr (omega arith)

pub toggled_stack : (k c : ℕ) (rows : List (List ℕ)) → 0 < k → IsStack rows → smaller (suc k) (first_line rows) ≤ c → IsStack (toggled k c rows)
toggled_stack k c [] p s h = tt
toggled_stack k c (w ∷ ws) p s h = (
  recut_rises k (middle k c w (smaller (suc (suc k)) (first_line ws))) w s.0,
  (toggled_over k c w ws p s h, toggled_stack k (smaller k w) ws p s.1.1 (s.1.0 k p)),
)

-- on the stacks (lists of rows with `IsStack`) whose first row has at most c letters smaller than k + 1, the map `toggled k c` is an involution
pub toggled_twice : (k c : ℕ) (rows : List (List ℕ)) → 0 < k → IsStack rows → smaller (suc k) (first_line rows) ≤ c → toggled k c (toggled k c rows) ≡ rows
toggled_twice k c [] p s h = refl
toggled_twice k c (w ∷ ws) p s h =
    let d = smaller (suc (suc k)) (first_line ws) in
    let m = row_room k c w ws s.1.0 h in
    let w' = recut k (middle k c w d) w in
    let e = middle_smaller k c d w s.0 m in
    let low = smaller-recut k k (middle k c w d) w (inl (omega arith)) in
    let high = smaller-recut (suc (suc k)) k (middle k c w d) w (inr (omega arith)) in
    let next = first_smaller (suc (suc k)) k (smaller k w) ws (inr (omega arith)) in
    let again : middle k c w' (smaller (suc (suc k)) (first_line (toggled k (smaller k w) ws))) ≡ smaller (suc k) w =
    ap₂ (λ i j. i - j) (ap₂ ◌+◌ (ap (min c) high) (ap₂ max low next)) e
    ∙ ap (λ i. i - middle k c w d) (sym m.sum) ∙ add-sub_cancel_left (middle k c w d) (smaller (suc k) w) in
    ap₂ ◌∷◌ (ap (λ i. recut k i w') again ∙ recut_twice k (middle k c w d) 0 w s.0)
    (ap (λ i. toggled k i (toggled k (smaller k w) ws)) low ∙ toggled_twice k (smaller k w) ws p s.1.1 (s.1.0 k p))

-- `toggled` exchanges the number of letters k and the number of letters k + 1

-- the number of letters smaller than j in all rows together
abbrev pub all_smaller : ℕ → List (List ℕ) → ℕ
all_smaller j [] = 0
all_smaller j (w ∷ ws) = smaller j w + all_smaller j ws

all_smaller_next : (j : ℕ) (rows : List (List ℕ)) → all_smaller (suc j) rows ≡ all_smaller j rows + times_in j (letters_of rows)
all_smaller_next j [] = omega arith
all_smaller_next j (w ∷ ws) =
    let e = all_smaller_next j ws in
    let a = smaller_next j w in
    let b = times_in-append j w (letters_of ws) in
    omega arith

all_smaller-toggled : (j k c : ℕ) (rows : List (List ℕ)) → (j ≤ k) ⊎ (suc k < j) → all_smaller j (toggled k c rows) ≡ all_smaller j rows
all_smaller-toggled j k c [] h = refl
all_smaller-toggled j k c (w ∷ ws) h =
    ap₂ ◌+◌ (smaller-recut j k (middle k c w (smaller (suc (suc k)) (first_line ws))) w h) (all_smaller-toggled j k (smaller k w) ws h)

add_up : (c d b0 b1 b2 m a a' a0 a2 : ℕ) → m + b1 ≡ min c b2 + max b0 d → a' + a + max b0 d ≡ b0 + (a2 + a0)
    → (m + a') + (b1 + a) + max c b2 ≡ c + ((b2 + a2) + (b0 + a0))
add_up c d b0 b1 b2 m a a' a0 a2 e f = omega arith

all_smaller_middle : (k c : ℕ) (rows : List (List ℕ)) → 0 < k → IsStack rows → smaller (suc k) (first_line rows) ≤ c
    → all_smaller (suc k) (toggled k c rows) + all_smaller (suc k) rows + max c (smaller (suc (suc k)) (first_line rows))
    ≡ c + (all_smaller (suc (suc k)) rows + all_smaller k rows)
all_smaller_middle k c [] p s h = omega arith
all_smaller_middle k c (w ∷ ws) p s h =
    let d = smaller (suc (suc k)) (first_line ws) in
    let m = row_room k c w ws s.1.0 h in
    let e = middle_smaller k c d w s.0 m in
    ap (λ i. (i + all_smaller (suc k) (toggled k (smaller k w) ws)) + (smaller (suc k) w + all_smaller (suc k) ws) + max c (smaller (suc (suc k)) w)) e
    ∙ add_up c d (smaller k w) (smaller (suc k) w) (smaller (suc (suc k)) w) (middle k c w d) (all_smaller (suc k) ws) (all_smaller (suc k) (toggled k (smaller k w) ws)) (all_smaller k ws) (all_smaller (suc (suc k)) ws)
    m.sum (all_smaller_middle k (smaller k w) ws p s.1.1 (s.1.0 k p))

-- the Bender–Knuth involution on a stack of rows: it exchanges the number of letters k and the number of letters k + 1. As no row is above the first
-- one, the bound c of `toggled` is the length of the first row
abbrev pub toggle : ℕ → List (List ℕ) → List (List ℕ)
toggle k rows = toggled k (length (first_line rows)) rows

pub toggle_stack : (k : ℕ) (rows : List (List ℕ)) → 0 < k → IsStack rows → IsStack (toggle k rows)
toggle_stack k rows p s = toggled_stack k (length (first_line rows)) rows p s (smaller-within (suc k) (first_line rows))

pub toggle_twice : (k : ℕ) (rows : List (List ℕ)) → 0 < k → IsStack rows → toggle k (toggle k rows) ≡ rows
toggle_twice k rows p s =
    ap (λ c. toggled k c (toggle k rows)) (length_first k (length (first_line rows)) rows)
    ∙ toggled_twice k (length (first_line rows)) rows p s (smaller-within (suc k) (first_line rows))

all_smaller_toggle : (k : ℕ) (rows : List (List ℕ)) → 0 < k → IsStack rows
    → all_smaller (suc k) (toggle k rows) + all_smaller (suc k) rows ≡ all_smaller (suc (suc k)) rows + all_smaller k rows
all_smaller_toggle k rows p s =
    let e = all_smaller_middle k (length (first_line rows)) rows p s (smaller-within (suc k) (first_line rows)) in
    let b = smaller-within (suc (suc k)) (first_line rows) in
    omega arith

-- the number of letters k after the Bender–Knuth involution is the number of letters k + 1 before it
pub toggle_lower : (k : ℕ) (rows : List (List ℕ)) → 0 < k → IsStack rows → times_in k (letters_of (toggle k rows)) ≡ times_in (suc k) (letters_of rows)
toggle_lower k rows p s =
    let a = all_smaller_next k (toggle k rows) in
    let b = all_smaller_next (suc k) rows in
    let c = all_smaller_toggle k rows p s in
    let d = all_smaller-toggled k k (length (first_line rows)) rows (inl (omega arith)) in
    omega arith

pub toggle_upper : (k : ℕ) (rows : List (List ℕ)) → 0 < k → IsStack rows → times_in (suc k) (letters_of (toggle k rows)) ≡ times_in k (letters_of rows)
toggle_upper k rows p s =
    let a = all_smaller_next (suc k) (toggle k rows) in
    let b = all_smaller_next k rows in
    let c = all_smaller_toggle k rows p s in
    let d = all_smaller-toggled (suc (suc k)) k (length (first_line rows)) rows (inr (omega arith)) in
    omega arith

pub toggle_others : (j k : ℕ) (rows : List (List ℕ)) → (j ≡ k → ⊥) → (j ≡ suc k → ⊥) → times_in j (letters_of (toggle k rows)) ≡ times_in j (letters_of rows)
toggle_others j k rows n m =
    let a = all_smaller_next j (toggle k rows) in
    let b = all_smaller_next j rows in
    let c = all_smaller-toggled j k (length (first_line rows)) rows (here (cases_lt j k)) in
    let d = all_smaller-toggled (suc j) k (length (first_line rows)) rows (next (cases_lt j k)) in
    omega arith
  where
    here : (j < k) ⊎ (k ≤ j) → (j ≤ k) ⊎ (suc k < j)
    here (inl l) = inl (omega arith)
    here (inr l) = inr (omega arith)

    next : (j < k) ⊎ (k ≤ j) → (suc j ≤ k) ⊎ (suc k < suc j)
    next (inl l) = inl l
    next (inr l) = inr (omega arith)

-- `toggled k c` keeps the property that the rows fill the cells of a pattern with letters from 1 to n (`AllFit`)

pub toggled_fits : (n k c : ℕ) (pattern : List (List Bool)) (rows : List (List ℕ)) → 0 < k → k < n → AllFit n pattern rows → AllFit n pattern (toggled k c rows)
toggled_fits n k c [] [] p q f = tt
toggled_fits n k c [] (w ∷ ws) p q f = absurd f
toggled_fits n k c (line ∷ pattern) [] p q f = absurd f
toggled_fits n k c (line ∷ pattern) (w ∷ ws) p q f =
    (recut_fits n k (middle k c w (smaller (suc (suc k)) (first_line ws))) line w p q f.0, toggled_fits n k (smaller k w) pattern ws p q f.1)

-- no letter of row i is greater than the i-th letter of the column, for each i such that there is a row i and an i-th letter
abbrev pub AreLeftOf : List ℕ → List (List ℕ) → Type 0
AreLeftOf column [] = Unit {0}
AreLeftOf [] (w ∷ ws) = Unit {0}
AreLeftOf (x ∷ column) (w ∷ ws) = AreAtMost x w × AreLeftOf column ws

pub toggled_left : (k c : ℕ) (column : List ℕ) (rows : List (List ℕ)) → Lacks k column → AreLeftOf column rows → AreLeftOf column (toggled k c rows)
toggled_left k c column [] m l = tt
toggled_left k c [] (w ∷ ws) m l = tt
toggled_left k c (x ∷ column) (w ∷ ws) m l =
    (recut_at_most k (middle k c w (smaller (suc (suc k)) (first_line ws))) x w m.0 l.0, toggled_left k (smaller k w) column ws m.1 l.1)
