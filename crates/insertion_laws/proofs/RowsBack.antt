-- A letter inserted into a row, and the insertion undone: a letter b replaces the last letter smaller than b (`row_back`, `letter_back`).
use Rattle.std.proofs.Common.{◌≡◌, ℕ, ◌+◌, ◌<◌, ◌≤◌, cond, List, [], ◌∷◌, ◌++◌, length, Some, None, ◌∙◌, ap, ap₂, sym, refl, subst, inl, inr, arith, rules}
use Rattle.std.proofs.lemmas.Bool.{cases_lt, lt-ltb, le-ltb}
use Rattle.std.proofs.lemmas.List.{length-append}
use Rattle.sym_model.specs.Insertion.{row_with, bumped}
use Rattle.insertion_laws.specs.Rows.{StandsOn}
use Rattle.insertion_laws.specs.Removal.{row_back, letter_back, without_last, last_of, row_over}
use Rattle.insertion_laws.proofs.InsertedRows.{with-less, with-more, bumped-less, bumped-more, bumped_greater, with-end, some_same}
use Rattle.tableau_laws.specs.Rows.{RisesFrom}

-- ---- the last of the letters of a row that are smaller than b, and the row with b in place of this letter

pub back-more : (b a c : ℕ) (row : List ℕ) → c < b → row_back b (a ∷ c ∷ row) ≡ a ∷ row_back b (c ∷ row)
back-more b a c row h = ap (λ t. cond t (a ∷ row_back b (c ∷ row)) (b ∷ c ∷ row)) (lt-ltb c b h)

pub back-here : (b a c : ℕ) (row : List ℕ) → b ≤ c → row_back b (a ∷ c ∷ row) ≡ b ∷ c ∷ row
back-here b a c row h = ap (λ t. cond t (a ∷ row_back b (c ∷ row)) (b ∷ c ∷ row)) (le-ltb c b h)

pub letter-more : (b a c : ℕ) (row : List ℕ) → c < b → letter_back b (a ∷ c ∷ row) ≡ letter_back b (c ∷ row)
letter-more b a c row h = ap (λ t. cond t (letter_back b (c ∷ row)) a) (lt-ltb c b h)

pub letter-here : (b a c : ℕ) (row : List ℕ) → b ≤ c → letter_back b (a ∷ c ∷ row) ≡ a
letter-here b a c row h = ap (λ t. cond t (letter_back b (c ∷ row)) a) (le-ltb c b h)

-- the row is not empty, and its first letter is smaller than b
abbrev pub BeginsBelow : ℕ → List ℕ → Type 0
BeginsBelow b [] = ⊥
BeginsBelow b (a ∷ row) = a < b

pub back-over : (b x : ℕ) (row : List ℕ) → BeginsBelow b row → row_back b (x ∷ row) ≡ x ∷ row_back b row
back-over b x [] h = absurd h
back-over b x (y ∷ row) h = back-more b x y row h

pub letter-over : (b x : ℕ) (row : List ℕ) → BeginsBelow b row → letter_back b (x ∷ row) ≡ letter_back b row
letter-over b x [] h = absurd h
letter-over b x (y ∷ row) h = letter-more b x y row h

pub begins-with : (a b : ℕ) (row : List ℕ) → a < b → BeginsBelow b (row_with a row)
begins-with a b [] h = h
begins-with a b (y ∷ row) h = search rules

pub length-back : (b : ℕ) (row : List ℕ) → length (row_back b row) ≡ length row
length-back b [] = refl
length-back b (a ∷ []) = refl
length-back b (a ∷ c ∷ row) = search (rules, cases_lt, back-more, back-here, (length-back b (c ∷ row)))

pub letter_least : (b c x : ℕ) (row : List ℕ) → RisesFrom c (x ∷ row) → c ≤ letter_back b (x ∷ row)
letter_least b c x [] h = h.0
letter_least b c x (y ∷ row) h = elim (cases_lt y b) [
  | inl m ↦ omega (arith, letter-more b x y row m, letter_least b x y row h.1, h.0)
  | inr m ↦ omega (arith, letter-here b x y row m, h.0)
]

pub rises_back : (b c x : ℕ) (row : List ℕ) → x < b → RisesFrom c (x ∷ row) → RisesFrom c (row_back b (x ∷ row))
rises_back b c x [] l h = (omega (arith, h.0), tt)
rises_back b c x (y ∷ row) l h = elim (cases_lt y b) [
  | inl m ↦ subst (RisesFrom c) (sym (back-more b x y row m)) (h.0, rises_back b x y row m h.1)
  | inr m ↦ subst (RisesFrom c) (sym (back-here b x y row m)) (omega (arith, h.0), (m, h.1.1))
]

-- let a weakly increasing row begin with x < b, and let a be its last letter smaller than b: if b is written in the place of a, and then a is
-- inserted, the result is the old row
pub put_again : (b c x : ℕ) (row : List ℕ) → x < b → RisesFrom c (x ∷ row) → row_with (letter_back b (x ∷ row)) (row_back b (x ∷ row)) ≡ x ∷ row
put_again b c x [] l h = with-less x b [] l
put_again b c x (y ∷ row) l h = elim (cases_lt y b) [
  | inl m ↦
      ap₂ row_with (letter-more b x y row m) (back-more b x y row m)
      ∙ with-more (letter_back b (y ∷ row)) x (row_back b (y ∷ row)) (letter_least b x y row h.1)
      ∙ ap (λ r. x ∷ r) (put_again b x y row m h.1)
  | inr m ↦ ap₂ row_with (letter-here b x y row m) (back-here b x y row m) ∙ with-less x b (y ∷ row) l
]

pub bumped_again : (b c x : ℕ) (row : List ℕ) → x < b → RisesFrom c (x ∷ row) → bumped (letter_back b (x ∷ row)) (row_back b (x ∷ row)) ≡ Some b
bumped_again b c x [] l h = bumped-less x b [] l
bumped_again b c x (y ∷ row) l h = elim (cases_lt y b) [
  | inl m ↦
      ap₂ bumped (letter-more b x y row m) (back-more b x y row m)
      ∙ bumped-more (letter_back b (y ∷ row)) x (row_back b (y ∷ row)) (letter_least b x y row h.1)
      ∙ bumped_again b x y row m h.1
  | inr m ↦ ap₂ bumped (letter-here b x y row m) (back-here b x y row m) ∙ bumped-less x b (y ∷ row) l
]

-- if inserting a into a weakly increasing row replaces b, then replacing the last letter smaller than b by b (`row_back`) gives the old row
pub row_again : (a b c : ℕ) (row : List ℕ) → RisesFrom c row → bumped a row ≡ Some b → row_back b (row_with a row) ≡ row
row_again a b c [] h e = cc
row_again a b c (x ∷ []) h e = search rules
row_again a b c (x ∷ y ∷ row) h e = elim (cases_lt a x) [
  | inl m ↦
      let same : x ≡ b = some_same x b (sym (bumped-less a x (y ∷ row) m) ∙ e) in
      let far : b ≤ y = omega (arith, h.1.0) in
      ap (row_back b) (with-less a x (y ∷ row) m) ∙ back-here b a y row far ∙ ap (λ n. n ∷ y ∷ row) (sym same)
  | inr m ↦
      let f = sym (bumped-more a x (y ∷ row) m) ∙ e in
      ap (row_back b) (with-more a x (y ∷ row) m)
      ∙ back-over b x (row_with a (y ∷ row)) (begins-with a b (y ∷ row) (bumped_greater a b (y ∷ row) f))
      ∙ ap (λ r. x ∷ r) (row_again a b x (y ∷ row) h.1 f)
]

pub letter_again : (a b c : ℕ) (row : List ℕ) → RisesFrom c row → bumped a row ≡ Some b → letter_back b (row_with a row) ≡ a
letter_again a b c [] h e = cc
letter_again a b c (x ∷ []) h e = search rules
letter_again a b c (x ∷ y ∷ row) h e = elim (cases_lt a x) [
  | inl m ↦
      let same : x ≡ b = some_same x b (sym (bumped-less a x (y ∷ row) m) ∙ e) in
      let far : b ≤ y = omega (arith, h.1.0) in
      ap (letter_back b) (with-less a x (y ∷ row) m) ∙ letter-here b a y row far
  | inr m ↦
      let f = sym (bumped-more a x (y ∷ row) m) ∙ e in
      ap (letter_back b) (with-more a x (y ∷ row) m)
      ∙ letter-over b x (row_with a (y ∷ row)) (begins-with a b (y ∷ row) (bumped_greater a b (y ∷ row) f))
      ∙ letter_again a b x (y ∷ row) h.1 f
]

-- ---- if the row `lower` with b inserted can be below `upper`, then `lower` can be below `row_back b upper`

pub begins-above : (b : ℕ) (lower upper : List ℕ) → StandsOn (row_with b lower) upper → BeginsBelow b upper
begins-above b [] [] h = h
begins-above b [] (x ∷ upper) h = h.0
begins-above b (y ∷ lower) upper h = search rules

stands_back_high : (b y : ℕ) (lower upper : List ℕ) → b < y → RisesFrom y lower → StandsOn lower upper → StandsOn lower (row_back b upper)
stands_back_high b y [] upper l h s = tt
stands_back_high b y (w ∷ lower) [] l h s = absurd s
stands_back_high b y (w ∷ lower) (z ∷ []) l h s = (omega (arith, h.0), s.1)
stands_back_high b y (w ∷ lower) (z ∷ v ∷ upper) l h s = elim (cases_lt v b) [
  | inl m ↦
      subst (StandsOn (w ∷ lower)) (sym (back-more b z v upper m))
      (s.0, stands_back_high b w lower (v ∷ upper) (omega (arith, h.0)) h.1 s.1)
  | inr m ↦ subst (StandsOn (w ∷ lower)) (sym (back-here b z v upper m)) (omega (arith, h.0), s.1)
]

pub stands_back :
    (b c : ℕ) (lower upper : List ℕ) → RisesFrom c lower → BeginsBelow b upper → StandsOn (row_with b lower) upper
    → StandsOn lower (row_back b upper)
stands_back b c [] upper r h s = tt
stands_back b c (y ∷ lower) [] r h s = absurd h
stands_back b c (y ∷ lower) (x ∷ upper) r h s = elim (cases_lt b y) [
  | inl m ↦
      let t = subst (λ l. StandsOn l (x ∷ upper)) (with-less b y lower m) s in
      high upper m t.1
  | inr m ↦
      let t = subst (λ l. StandsOn l (x ∷ upper)) (with-more b y lower m) s in
      let begins = begins-above b lower upper t.1 in
      subst (StandsOn (y ∷ lower)) (sym (back-over b x upper begins)) (t.0, stands_back b y lower upper r.1 begins t.1)
]
  where
    high : (upper : List ℕ) → b < y → StandsOn lower upper → StandsOn (y ∷ lower) (row_back b (x ∷ upper))
    high [] m t = (m, t)
    high (z ∷ upper) m t = elim (cases_lt z b) [
      | inl n ↦
          subst (StandsOn (y ∷ lower)) (sym (back-more b x z upper n))
          (omega (arith, h), stands_back_high b y lower (z ∷ upper) m r.1 t)
      | inr n ↦ subst (StandsOn (y ∷ lower)) (sym (back-here b x z upper n)) (m, t)
    ]

pub ends : (row : List ℕ) → 0 < length row → without_last row ++ last_of row ∷ [] ≡ row
ends [] h = absurd (omega arith)
ends (a ∷ []) h = refl
ends (a ∷ b ∷ row) h = ap (λ r. a ∷ r) (ends (b ∷ row) (omega arith))

pub length-without_last : (row : List ℕ) → 0 < length row → length row ≡ length (without_last row) + 1
length-without_last row h = omega (arith, ap length (ends row h), length-append (without_last row) (last_of row ∷ []))

pub last-end : (row : List ℕ) (a : ℕ) → last_of (row ++ a ∷ []) ≡ a
last-end [] a = refl
last-end (x ∷ []) a = refl
last-end (x ∷ y ∷ row) a = last-end (y ∷ row) a

pub without_last-end : (row : List ℕ) (a : ℕ) → without_last (row ++ a ∷ []) ≡ row
without_last-end [] a = refl
without_last-end (x ∷ []) a = refl
without_last-end (x ∷ y ∷ row) a = ap (λ r. x ∷ r) (without_last-end (y ∷ row) a)

pub over-filled : (row : List ℕ) (rows : List (List ℕ)) → 0 < length row → row_over row rows ≡ row ∷ rows
over-filled [] rows h = absurd (omega arith)
over-filled (a ∷ row) rows h = refl

pub rises_front : (c : ℕ) (v w : List ℕ) → RisesFrom c (v ++ w) → RisesFrom c v
rises_front c [] w h = tt
rises_front c (a ∷ v) w h = (h.0, rises_front a v w h.1)

pub rises_to_end : (c x : ℕ) (v : List ℕ) → RisesFrom c (v ++ x ∷ []) → c ≤ x
rises_to_end c x [] h = h.0
rises_to_end c x (a ∷ v) h = omega (arith, h.0, rises_to_end a x v h.1)

bumped-last : (c x : ℕ) (v : List ℕ) → RisesFrom c (v ++ x ∷ []) → bumped x v ≡ None
bumped-last c x [] h = refl
bumped-last c x (a ∷ v) h = bumped-more x a v (rises_to_end a x v h.1) ∙ bumped-last a x v h.1

pub none_bumped : (c x : ℕ) (v : List ℕ) → RisesFrom c (v ++ x ∷ []) → (bumped x v ≡ None) × (row_with x v ≡ v ++ x ∷ [])
none_bumped c x v h = (bumped-last c x v h, with-end x v (bumped-last c x v h))

pub stands_front : (lower v w : List ℕ) → length lower ≤ length v → StandsOn lower (v ++ w) → StandsOn lower v
stands_front [] v w l h = tt
stands_front (y ∷ lower) [] w l h = absurd (omega arith)
stands_front (y ∷ lower) (x ∷ v) w l h = (h.0, stands_front lower v w (omega arith) h.1)

pub front_stands : (v w upper : List ℕ) → StandsOn (v ++ w) upper → StandsOn v upper
front_stands [] w upper h = tt
front_stands (y ∷ v) w [] h = absurd h
front_stands (y ∷ v) w (x ∷ upper) h = (h.0, front_stands v w upper h.1)

pub stands_last : (lower upper : List ℕ) → length lower ≡ length upper → 0 < length lower → StandsOn lower upper → last_of upper < last_of lower
stands_last [] upper e f h = absurd (omega arith)
stands_last (y ∷ lower) [] e f h = absurd h
stands_last (y ∷ []) (x ∷ []) e f h = h.0
stands_last (y ∷ []) (x ∷ z ∷ upper) e f h = absurd (omega arith)
stands_last (y ∷ w ∷ lower) (x ∷ []) e f h = absurd (omega arith)
stands_last (y ∷ w ∷ lower) (x ∷ z ∷ upper) e f h = stands_last (w ∷ lower) (z ∷ upper) (omega arith) (omega arith) h.1
