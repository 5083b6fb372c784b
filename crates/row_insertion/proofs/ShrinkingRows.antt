-- The inverse of row insertion in a tableau whose rows are vectors, as the code in shrinking.rt computes it.
use Rattle.std.proofs.Common.{◌≡◌, ◌≢◌, ◌⊎◌, ℕ, zero, suc, ◌+◌, ◌-◌, ◌<◌, ◌≤◌, List, [], ◌∷◌, ◌++◌, length, take, drop, get_or, Vec, Option, Some, None, IsSome, unwrap_or, ◌∙◌, ap, ap₂, sym, refl, subst, inl, inr, arith}
use Rattle.std.specs.declared.alloc.Global.{Global}
use Rattle.std.specs.List.{remove}
use Rattle.std.proofs.Math.ListN.{set}
use Rattle.std.proofs.lemmas.Bool.{cases_eq}
use Rattle.insertion_laws.specs.Removal.{row_back, letter_back, without_last, last_of, row_over, removed, row_ending, without_step}
use Rattle.insertion_laws.specs.Rows.{AreRows}
use Rattle.insertion_laws.proofs.InsertedRows.{some_same}
use Rattle.insertion_laws.proofs.RowsBack.{back-more, back-here, letter-more, letter-here, over-filled}
use Rattle.insertion_laws.proofs.Removals.{ending-here, ending-below, without-here, without-below}
use Rattle.row_insertion.specs.RowLists.{rows_in, row_at, without_end}

pub take_front : (row : List ℕ) → take (length row - 1) row ≡ without_last row
take_front [] = refl
take_front (a ∷ []) = refl
take_front (a ∷ b ∷ row) =
    let e : length (a ∷ b ∷ row) - 1 ≡ suc (length (b ∷ row) - 1) = omega arith in
    ap (λ n. take n (a ∷ b ∷ row)) e ∙ ap (λ r. a ∷ r) (take_front (b ∷ row))

pub at_end : (row : List ℕ) (d : ℕ) → 0 < length row → get_or row (length row - 1) d ≡ last_of row
at_end [] d h = absurd (omega arith)
at_end (a ∷ []) d h = refl
at_end (a ∷ b ∷ row) d h =
    let e : length (a ∷ b ∷ row) - 1 ≡ suc (length (b ∷ row) - 1) = omega arith in
    ap (λ n. get_or (a ∷ b ∷ row) n d) e ∙ at_end (b ∷ row) d (omega arith)

pub ending_at :
    (k i : ℕ) (rows : List (List ℕ)) → i < length rows → ((j : ℕ) → j < i → last_of (row_at rows j) ≢ k) → last_of (row_at rows i) ≡ k
    → row_ending k rows ≡ i
ending_at k i [] l h e = absurd (omega arith)
ending_at k zero (row ∷ rows) l h e = ending-here k row rows e
ending_at k (suc i) (row ∷ rows) l h e =
    ending-below k row rows (h 0 (omega arith)) ∙ ap suc (ending_at k i rows (omega arith) (λ j m. h (suc j) (omega arith)) e)

pub ending_none : (k : ℕ) (rows : List (List ℕ)) → ((j : ℕ) → j < length rows → last_of (row_at rows j) ≢ k) → row_ending k rows ≡ length rows
ending_none k [] h = refl
ending_none k (row ∷ rows) h =
    ending-below k row rows (h 0 (omega arith)) ∙ ap suc (ending_none k rows (λ j m. h (suc j) (omega arith)))

pub without_ending : (k : ℕ) (rows : List (List ℕ)) → without_end (row_ending k rows) rows ≡ without_step k rows
without_ending k [] = refl
without_ending k (row ∷ rows) = elim (cases_eq (last_of row) k) [
  | inl e ↦ ap (λ i. without_end i (row ∷ rows)) (ending-here k row rows e) ∙ sym (without-here k row rows e)
  | inr n ↦
      ap (λ i. without_end i (row ∷ rows)) (ending-below k row rows n) ∙ ap (λ (l : List (List ℕ)). row ∷ l) (without_ending k rows)
      ∙ sym (without-below k row rows n)
]

pub shorter_row :
    (rows : List (Vec ℕ Global)) (i : ℕ) (new : Vec ℕ Global) → i < length rows → new.items ≡ without_last (row_at (rows_in rows) i)
    → 0 < length new.items → rows_in (set rows i new) ≡ without_end i (rows_in rows)
shorter_row [] i new h e f = absurd (omega arith)
shorter_row (r ∷ rows) zero new h e f =
    sym (over-filled new.items (rows_in rows) f) ∙ ap (λ w. row_over w (rows_in rows)) e
shorter_row (r ∷ rows) (suc i) new h e f = ap (λ (l : List (List ℕ)). r.items ∷ l) (shorter_row rows i new (omega arith) e f)

pub no_row :
    (rows : List (Vec ℕ Global)) (i : ℕ) (new : Vec ℕ Global) → i < length rows → new.items ≡ without_last (row_at (rows_in rows) i)
    → new.items ≡ [] → rows_in (remove (set rows i new) i) ≡ without_end i (rows_in rows)
no_row [] i new h e f = absurd (omega arith)
no_row (r ∷ rows) zero new h e f = ap (λ w. row_over w (rows_in rows)) (sym f ∙ e)
no_row (r ∷ rows) (suc i) new h e f = ap (λ (l : List (List ℕ)). r.items ∷ l) (no_row rows i new (omega arith) e f)

pub back_at :
    (b i : ℕ) (row : List ℕ) → i < length row → ((k : ℕ) → 1 ≤ k → k ≤ i → get_or row k 0 < b)
    → (i + 1 ≡ length row) ⊎ (b ≤ get_or row (i + 1) 0)
    → (set row i b ≡ row_back b row) × (get_or row i 0 ≡ letter_back b row)
back_at b i [] l h e = absurd (omega arith)
back_at b zero (a ∷ []) l h e = (refl, refl)
back_at b (suc i) (a ∷ []) l h e = absurd (omega arith)
back_at b zero (a ∷ c ∷ row) l h e =
    let far : b ≤ c = by e in
    (sym (back-here b a c row far), sym (letter-here b a c row far))
  where
    by : (0 + 1 ≡ length (a ∷ c ∷ row)) ⊎ (b ≤ get_or (a ∷ c ∷ row) (0 + 1) 0) → b ≤ c
    by (inl n) = absurd (omega arith)
    by (inr n) = n
back_at b (suc i) (a ∷ c ∷ row) l h e =
    let near : c < b = h 1 (omega arith) (omega arith) in
    let r = back_at b i (c ∷ row) (omega arith) (λ k m n. moved k m n) (by e) in
    (ap (λ w. a ∷ w) r.0 ∙ sym (back-more b a c row near), r.1 ∙ sym (letter-more b a c row near))
  where
    moved : (k : ℕ) → 1 ≤ k → k ≤ i → get_or (c ∷ row) k 0 < b
    moved k m n = h (suc k) (omega arith) (omega arith)

    by : (suc i + 1 ≡ length (a ∷ c ∷ row)) ⊎ (b ≤ get_or (a ∷ c ∷ row) (suc i + 1) 0)
        → (i + 1 ≡ length (c ∷ row)) ⊎ (b ≤ get_or (c ∷ row) (i + 1) 0)
    by (inl n) = inl (omega arith)
    by (inr n) =
        let s : suc i + 1 ≡ suc (i + 1) = omega arith in
        inr (subst (λ j. b ≤ get_or (a ∷ c ∷ row) j 0) s n)

-- ---- the insertion undone, row by row from row `at` upwards

-- the insertion that ended in row `at` of `start` has been undone in the rows from `above` on: `now` has the first `above` rows of `start`, followed
-- by the other rows with the insertion undone, and `letter` is the letter taken from row `above`
pub record IsRising (start : List (List ℕ)) (at above : ℕ) (now : List (List ℕ)) (letter : ℕ) : Type 0 where
  pub under : above ≤ at
  pub rows : now ≡ take above start ++ (removed (at - above) (drop above start)).0
  pub letter_is : letter ≡ (removed (at - above) (drop above start)).1

split_at : (i : ℕ) (rows : List (List ℕ)) → i < length rows → drop i rows ≡ row_at rows i ∷ drop (suc i) rows
split_at i [] h = absurd (omega arith)
split_at zero (row ∷ rows) h = refl
split_at (suc i) (row ∷ rows) h = split_at i rows (omega arith)

ended : (i : ℕ) (rows : List (List ℕ)) → i < length rows → without_end i rows ≡ take i rows ++ (removed 0 (drop i rows)).0
ended i [] h = absurd (omega arith)
ended zero (row ∷ rows) h = refl
ended (suc i) (row ∷ rows) h = ap (λ (l : List (List ℕ)). row ∷ l) (ended i rows (omega arith))

last_removed : (i : ℕ) (rows : List (List ℕ)) → i < length rows → last_of (row_at rows i) ≡ (removed 0 (drop i rows)).1
last_removed i [] h = absurd (omega arith)
last_removed zero (row ∷ rows) h = refl
last_removed (suc i) (row ∷ rows) h = last_removed i rows (omega arith)

pub rising_starts :
    (start now : List (List ℕ)) (at letter : ℕ) → at < length start → now ≡ without_end at start → letter ≡ last_of (row_at start at)
    → IsRising start at at now letter
rising_starts start now at letter h e f =
    let none : at - at ≡ 0 = omega arith in
    record {
      under = omega arith;
      rows = e ∙ ended at start h ∙ ap (λ n. take at start ++ (removed n (drop at start)).0) (sym none);
      letter_is = f ∙ last_removed at start h ∙ ap (λ n. (removed n (drop at start)).1) (sym none);
    }

untouched : (i : ℕ) (start rest : List (List ℕ)) → i < length start → row_at (take (suc i) start ++ rest) i ≡ row_at start i
untouched i [] rest h = absurd (omega arith)
untouched zero (row ∷ start) rest h = refl
untouched (suc i) (row ∷ start) rest h = untouched i start rest (omega arith)

set_last : (i : ℕ) (start rest : List (List ℕ)) (row : List ℕ) → i < length start → set (take (suc i) start ++ rest) i row ≡ take i start ++ row ∷ rest
set_last i [] rest row h = absurd (omega arith)
set_last zero (r ∷ start) rest row h = refl
set_last (suc i) (r ∷ start) rest row h = ap (λ (l : List (List ℕ)). r ∷ l) (set_last i start rest row (omega arith))

pub row_above :
    (start now : List (List ℕ)) (at above letter i : ℕ) → at < length start → above ≡ suc i → IsRising start at above now letter
    → (row_at now i ≡ row_at start i) × (i < length now)
row_above start now at above letter i h e s =
    let under = s.under in
    let rest = (removed (at - above) (drop above start)).0 in
    let now_is : now ≡ take (suc i) start ++ rest = s.rows ∙ ap (λ n. take n start ++ rest) e in (
      ap (λ (l : List (List ℕ)). row_at l i) now_is ∙ untouched i start rest (omega arith),
      omega (arith, ap (λ (l : List (List ℕ)). length l) now_is, long i start rest (omega arith)),
    )
  where
    long : (i : ℕ) (start rest : List (List ℕ)) → i < length start → i < length (take (suc i) start ++ rest)
    long i [] rest h = absurd (omega arith)
    long zero (row ∷ start) rest h = omega arith
    long (suc i) (row ∷ start) rest h = omega (arith, long i start rest (omega arith))

pub rising_more :
    (start now after : List (List ℕ)) (at above letter next i : ℕ) (new : List ℕ) → at < length start → above ≡ suc i
    → after ≡ set now i new → new ≡ row_back letter (row_at start i) → next ≡ letter_back letter (row_at start i)
    → IsRising start at above now letter → IsRising start at i after next
rising_more start now after at above letter next i new h e a f g s =
    let under = s.under in
    let rest = removed (at - above) (drop above start) in
    let now_is : now ≡ take (suc i) start ++ rest.0 = s.rows ∙ ap (λ n. take n start ++ rest.0) e in
    let count : at - i ≡ suc (at - above) = omega arith in
    let below : drop i start ≡ row_at start i ∷ drop above start = split_at i start (omega arith) ∙ ap (λ n. row_at start i ∷ drop n start) (sym e) in
    let one : removed (at - i) (drop i start) ≡ (row_back rest.1 (row_at start i) ∷ rest.0, letter_back rest.1 (row_at start i)) =
    ap₂ (λ n (l : List (List ℕ)). removed n l) count below in
    record {
      under = omega arith;
      rows =
          a ∙ ap (λ (l : List (List ℕ)). set l i new) now_is ∙ set_last i start rest.0 new (omega arith)
          ∙ ap (λ w. take i start ++ w ∷ rest.0) (f ∙ ap (λ b. row_back b (row_at start i)) s.letter_is)
          ∙ ap (λ (x : List (List ℕ) × ℕ). take i start ++ x.0) (sym one);
      letter_is =
          g ∙ ap (λ b. letter_back b (row_at start i)) s.letter_is ∙ ap (λ (x : List (List ℕ) × ℕ). x.1) (sym one);
    }

pub filled_row : (m i : ℕ) (rows : List (List ℕ)) → AreRows m rows → i < length rows → 0 < length (row_at rows i)
filled_row m i [] h l = absurd (omega arith)
filled_row m zero (row ∷ rows) h l = h.0.filled
filled_row m (suc i) (row ∷ rows) h l = filled_row m i rows h.1 (omega arith)

pub popped :
    (row : List ℕ) (n : ℕ) (r : Option ℕ) → n ≡ length row → ((d : ℕ) → 0 < n → r ≡ Some (get_or row (n - 1) d)) → (IsSome r → 0 < n)
    → unwrap_or r 0 ≡ last_of row
popped [] n None e f g = refl
popped (a ∷ row) n None e f g = let h = f 0 (omega arith) in cc
popped row n (Some x) e f g =
    let some : 0 < n = g refl in
    some_same x (get_or row (n - 1) 0) (f 0 some) ∙ ap (λ m. get_or row (m - 1) 0) e ∙ at_end row 0 (omega arith)
