-- Straight tableaux (`IsStraightTableau`) and standard tableaux, described row by row (`AreRows`).
use Rattle.std.proofs.Common.{◌≡◌, ℕ, zero, suc, ◌+◌, ◌<◌, ◌≤◌, ◌==◌, ◌&&◌, true, cond, List, [], ◌∷◌, ◌++◌, map, length, replicate, ◌∙◌, ap, ap₂, sym, refl, inl, inr, arith, nat_lt, nat_le, rules}
use Rattle.std.proofs.lemmas.Bool.{cases_lt, cases_eq, lt-ltb, le-ltb, le-leb, leb-true, ltb-true, and_from, and_parts}
use Rattle.sym_model.specs.Partition.{Falls, ArePositive, after}
use Rattle.sym_model.specs.PlaceOrders.{smaller}
use Rattle.sym_model.specs.Schur.{row_rises, columns_rise, semistandard, letters_of, times_in}
use Rattle.sym_model.specs.StandardTableau.{IsStandard}
use Rattle.sym_model.specs.Tableau.{IsStraightTableau, are_letters, shape_of}
use Rattle.sym_model.proofs.Tableaux.{length-letters_of, row_lengths-none}
use Rattle.insertion_laws.specs.Rows.{StandsOn, AreRows, RowsBelow}
use Rattle.insertion_laws.specs.Pairs.{IsPairAt}
use Rattle.insertion_laws.proofs.InsertedRows.{stands-length}
use Rattle.sym_model.specs.Bounded.{AreBelow}
use Rattle.tableau_laws.specs.Rows.{RisesFrom}
use Rattle.sym_model.proofs.Lists.{smaller-within}

-- ---- rows that satisfy `AreRows` are a straight tableau

falls_from : (m : ℕ) (rows : List (List ℕ)) → AreRows m rows → Falls (shape_of rows)
falls_from m [] h = tt
falls_from m (row ∷ []) h = tt
falls_from m (row ∷ r ∷ rows) h = (stands-length r row h.0.stands, falls_from m (r ∷ rows) h.1)

positive_from : (m : ℕ) (rows : List (List ℕ)) → AreRows m rows → ArePositive (shape_of rows)
positive_from m [] h = tt
positive_from m (row ∷ rows) h = (h.0.filled, positive_from m rows h.1)

letters_from : (c : ℕ) (row w : List ℕ) → 1 ≤ c → RisesFrom c row → are_letters w ≡ true → are_letters (row ++ w) ≡ true
letters_from c [] w l h e = e
letters_from c (a ∷ row) w l h e =
    and_from (nat_le 1 a) (are_letters (row ++ w)) (le-leb 1 a (omega (arith, h.0))) (letters_from a row w (omega (arith, h.0)) h.1 e)

all_letters : (rows : List (List ℕ)) → AreRows 1 rows → are_letters (letters_of rows) ≡ true
all_letters [] h = refl
all_letters (row ∷ rows) h = letters_from 1 row (letters_of rows) (omega arith) h.0.rises (all_letters rows h.1)

rises_from : (c : ℕ) (row : List ℕ) → RisesFrom c row → row_rises row ≡ true
rises_from c [] h = refl
rises_from c (a ∷ []) h = refl
rises_from c (a ∷ b ∷ row) h = and_from (nat_le a b) (row_rises (b ∷ row)) (le-leb a b h.1.0) (rises_from a (b ∷ row) h.1)

columns_from : (lower upper : List ℕ) → StandsOn lower upper → columns_rise upper lower ≡ true
columns_from [] [] h = refl
columns_from [] (a ∷ upper) h = refl
columns_from (b ∷ lower) [] h = refl
columns_from (b ∷ lower) (a ∷ upper) h = and_from (nat_lt a b) (columns_rise upper lower) (lt-ltb a b h.0) (columns_from lower upper h.1)

order_from : (m : ℕ) (rows : List (List ℕ)) → AreRows m rows → semistandard [] rows ≡ true
order_from m [] h = refl
order_from m (row ∷ []) h = rises_from m row h.0.rises
order_from m (row ∷ lower ∷ rest) h = search (rules, and_from, rises_from, columns_from, (order_from m (lower ∷ rest) h.1))

pub tableau_from : (rows : List (List ℕ)) → AreRows 1 rows → IsStraightTableau rows
tableau_from rows h = search (rules, falls_from, positive_from, row_lengths-none, all_letters, order_from)

-- ---- the rows of a straight tableau satisfy `AreRows`

rises_after : (a : ℕ) (row : List ℕ) → row_rises (a ∷ row) ≡ true → RisesFrom a row
rises_after a [] h = tt
rises_after a (b ∷ row) h =
    let p = and_parts (nat_le a b) (row_rises (b ∷ row)) h in
    (leb-true a b p.0, rises_after b row p.1)

rises_tells : (row w : List ℕ) → are_letters (row ++ w) ≡ true → row_rises row ≡ true → RisesFrom 1 row
rises_tells [] w l h = tt
rises_tells (a ∷ row) w l h = (leb-true 1 a (and_parts (nat_le 1 a) (are_letters (row ++ w)) l).0, rises_after a row h)

letters_after : (row w : List ℕ) → are_letters (row ++ w) ≡ true → are_letters w ≡ true
letters_after [] w h = h
letters_after (a ∷ row) w h = letters_after row w (and_parts (nat_le 1 a) (are_letters (row ++ w)) h).1

columns_tell : (lower upper : List ℕ) → length lower ≤ length upper → columns_rise upper lower ≡ true → StandsOn lower upper
columns_tell [] upper l h = tt
columns_tell (b ∷ lower) [] l h = absurd (omega arith)
columns_tell (b ∷ lower) (a ∷ upper) l h =
    let p = and_parts (nat_lt a b) (columns_rise upper lower) h in
    (ltb-true a b p.0, columns_tell lower upper (omega arith) p.1)

rows_tell :
    (rows : List (List ℕ)) → Falls (shape_of rows) → ArePositive (shape_of rows) → are_letters (letters_of rows) ≡ true
    → semistandard [] rows ≡ true → AreRows 1 rows
rows_tell [] f p l o = tt
rows_tell (row ∷ []) f p l o = (record { filled = p.0; rises = rises_tells row [] l o; stands = tt }, tt)
rows_tell (row ∷ lower ∷ rest) f p l o =
    let later = letters_of (lower ∷ rest) in
    let q = and_parts (row_rises row && columns_rise row lower) (semistandard [] (lower ∷ rest)) o in
    let r = and_parts (row_rises row) (columns_rise row lower) q.0 in (
      record { filled = p.0; rises = rises_tells row later l r.0; stands = columns_tell lower row f.0 r.1 },
      rows_tell (lower ∷ rest) f.1 p.1 (letters_after row later l) q.1,
    )

pub rows_from : (rows : List (List ℕ)) → IsStraightTableau rows → AreRows 1 rows
rows_from rows h = rows_tell rows h.outside.falls h.outside.positive h.letters h.order

-- ---- standard tableaux: each number from 1 to the number of cells occurs once

ones_from : (f : ℕ → ℕ) (a n : ℕ) → ((j : ℕ) → a < j → j ≤ a + n → f j ≡ 1) → map f (after a n) ≡ replicate n 1
ones_from f a zero h = refl
ones_from f a (suc n) h = ap₂ ◌∷◌ (h (a + 1) (omega arith) (omega arith)) (ones_from f (a + 1) n (λ j l m. h j (omega arith) (omega arith)))

ones_tell : (f : ℕ → ℕ) (a n j : ℕ) → map f (after a n) ≡ replicate n 1 → a < j → j ≤ a + n → f j ≡ 1
ones_tell f a zero j h l m = absurd (omega arith)
ones_tell f a (suc n) j h l m = elim (cases_eq j (a + 1)) [
  | inl e ↦ ap f e ∙ first
  | inr e ↦ ones_tell f (a + 1) n j rest (omega arith) (omega arith)
]
  where
    first : f (a + 1) ≡ 1
    first = cc

    rest : map f (after (a + 1) n) ≡ replicate n 1
    rest = cc

one_smaller : (a k : ℕ) → cond (nat_lt a (k + 1)) 1 0 ≡ cond (nat_lt a k) 1 0 + cond (a == k) 1 0
one_smaller a k = search rules

smaller-more : (k : ℕ) (w : List ℕ) → smaller (k + 1) w ≡ smaller k w + times_in k w
smaller-more k [] = refl
smaller-more k (a ∷ w) = omega (arith, one_smaller a k, smaller-more k w)

none_smaller : (w : List ℕ) → are_letters w ≡ true → smaller 1 w ≡ 0
none_smaller [] h = refl
none_smaller (a ∷ w) h =
    let p = and_parts (nat_le 1 a) (are_letters w) h in
    omega (arith, ap {B = ℕ} (λ t. cond t 1 0) (le-ltb a 1 (leb-true 1 a p.0)), none_smaller w p.1)

all_smaller : (n : ℕ) (w : List ℕ) → are_letters w ≡ true → ((j : ℕ) → 1 ≤ j → j ≤ n → times_in j w ≡ 1) → smaller (n + 1) w ≡ n
all_smaller zero w h o = none_smaller w h
all_smaller (suc n) w h o = search (rules, smaller-more, (all_smaller n w h))

below_from : (k : ℕ) (w : List ℕ) → smaller k w ≡ length w → AreBelow k w
below_from k [] h = tt
below_from k (a ∷ w) h = elim (cases_lt a k) [
  | inl l ↦ (l, below_from k w (omega (arith, ap {B = ℕ} (λ t. cond t 1 0) (lt-ltb a k l))))
  | inr l ↦ absurd (omega (arith, ap {B = ℕ} (λ t. cond t 1 0) (le-ltb a k l), smaller-within k w))
]

below_split : (k : ℕ) (v w : List ℕ) → AreBelow k (v ++ w) → AreBelow k v × AreBelow k w
below_split k [] w h = (tt, h)
below_split k (a ∷ v) w h = let r = below_split k v w h.1 in ((h.0, r.0), r.1)

below_rows : (k : ℕ) (q : List (List ℕ)) → AreBelow k (letters_of q) → RowsBelow k q
below_rows k [] h = tt
below_rows k (row ∷ q) h = let r = below_split k row (letters_of q) h in (r.0, below_rows k q r.1)

pub pair_from :
    (p q : List (List ℕ)) → IsStraightTableau p → IsStandard q → shape_of p ≡ shape_of q → IsPairAt 1 (length (letters_of q)) p q
pair_from p q t s e =
    let w = letters_of q in
    let n = length w in
    let once : (j : ℕ) → 1 ≤ j → j ≤ n → times_in j w ≡ 1 =
    λ (j : ℕ) (l : 1 ≤ j) (m : j ≤ n). ones_tell (λ k. times_in k w) 0 n j s.once (omega arith) (omega arith) in
    record {
      p_rows = rows_from p t;
      q_rows = rows_from q s.tableau;
      shapes = e;
      below = below_rows (n + 1) q (below_from (n + 1) w (all_smaller n w s.tableau.letters once));
      once = once;
      cells = sym (length-letters_of q);
    }

pub standard_from : (m n : ℕ) (p q : List (List ℕ)) → IsPairAt m n p q → IsStandard q
standard_from m n p q h = search (rules, length-letters_of, tableau_from, ones_from)
