-- A list of rows is a grid (`is_grid`) for two tests if the first holds of neighbours in a row and the second of neighbours in a column. If no row is
-- longer than the one above, the rows are a grid for two tests if and only if the columns are a grid for the tests in the opposite order.
use Rattle.std.proofs.Common.{◌≡◌, ℕ, ◌≤◌, Bool, true, ◌&&◌, List, [], ◌∷◌, map, length, sym, ◌∙◌, ap, ap₂, refl, arith, rules}
use Rattle.sym_model.specs.Partition.{Falls}
use Rattle.tableau_laws.specs.PaddedRows.{put_row, transposed}
use Rattle.tableau_laws.specs.Grid.{may_precede, is_chain, pass_by_place, first_line, is_grid}

AreNonempty : List (List ℕ) → Type 0
AreNonempty [] = Unit {0}
AreNonempty ([] ∷ columns) = ⊥
AreNonempty ((x ∷ c) ∷ columns) = AreNonempty columns

heads : List (List ℕ) → List ℕ
heads [] = []
heads ([] ∷ columns) = []
heads ((x ∷ c) ∷ columns) = x ∷ heads columns

heads-put : (row : List ℕ) (columns : List (List ℕ)) → length columns ≤ length row → heads (put_row row columns) ≡ row
unfolding heads
heads-put [] [] h = refl
heads-put [] (c ∷ columns) h = absurd (omega arith)
heads-put (x ∷ row) [] h = ap (λ l. x ∷ l) (heads-put row [] (omega arith))
heads-put (x ∷ row) (c ∷ columns) h = ap (λ l. x ∷ l) (heads-put row columns (omega arith))

nonempty-put : (row : List ℕ) (columns : List (List ℕ)) → length columns ≤ length row → AreNonempty (put_row row columns)
unfolding AreNonempty
nonempty-put [] [] h = tt
nonempty-put [] (c ∷ columns) h = absurd (omega arith)
nonempty-put (x ∷ row) [] h = nonempty-put row [] (omega arith)
nonempty-put (x ∷ row) (c ∷ columns) h = nonempty-put row columns (omega arith)

pub length-put : {A : Type 0} (row : List A) (columns : List (List A)) → length columns ≤ length row → length (put_row row columns) ≡ length row
length-put [] [] h = refl
length-put [] (c ∷ columns) h = absurd (omega arith)
length-put (x ∷ row) [] h = let e = length-put row [] (omega arith) in omega (arith, e)
length-put (x ∷ row) (c ∷ columns) h = let e = length-put row columns (omega arith) in omega (arith, e)

regroup : (s c f b a p g : Bool) → ((s && c) && ((f && b) && (a && (p && g)))) ≡ ((f && a) && ((s && p) && (c && (b && g))))
regroup s c f b a p g = grind arith

regroup_short : (f a : Bool) → ((f && true) && (a && true)) ≡ ((f && a) && true)
regroup_short f a = grind arith

pub pass-nothing : (test : ℕ → ℕ → Bool) (w : List ℕ) → pass_by_place test w [] ≡ true
pass-nothing test [] = refl
pass-nothing test (a ∷ w) = refl

pass-first : (test : ℕ → ℕ → Bool) (x : ℕ) (c row : List ℕ) (columns : List (List ℕ)) → length columns ≤ length row
    → pass_by_place test (x ∷ c) (first_line (put_row row columns)) ≡ (may_precede test x row && pass_by_place test c (first_line columns))
pass-first test x c [] [] h = sym (pass-nothing test c)
pass-first test x c [] (d ∷ columns) h = absurd (omega arith)
pass-first test x c (y ∷ row) [] h = refl
pass-first test x c (y ∷ row) (d ∷ columns) h = refl

grid-put : (along between : ℕ → ℕ → Bool) (row : List ℕ) (columns : List (List ℕ)) → length columns ≤ length row → AreNonempty columns
    → is_grid between along (put_row row columns) ≡ (is_chain along row && (pass_by_place between row (heads columns) && is_grid between along columns))
unfolding AreNonempty heads
grid-put along between [] [] h n = refl
grid-put along between [] (c ∷ columns) h n = absurd (omega arith)
grid-put along between (x ∷ row) [] h n = search (rules, pass-first, pass-nothing, regroup_short, (grid-put along between row))
grid-put along between (x ∷ row) ([] ∷ columns) h n = absurd n
grid-put along between (x ∷ row) ((y ∷ c) ∷ columns) h n =
    search (rules, pass-first, regroup, heads, (grid-put along between row columns (omega arith) n))

pub length-transposed : {A : Type 0} (rows : List (List A)) → Falls (map length rows) → (row : List A) → Falls (map length (row ∷ rows)) → length (transposed rows) ≤ length row
length-transposed [] f row g = omega arith
length-transposed (lower ∷ []) f row g = let e = length-put lower [] (omega arith) in let l = g.0 in omega (arith, e, l)
length-transposed (lower ∷ next ∷ rows) f row g = search (rules, length-put, (length-transposed (next ∷ rows) f.1 lower f))

pub falls_below : {A : Type 0} (row : List A) (rows : List (List A)) → Falls (map length (row ∷ rows)) → Falls (map length rows)
falls_below row [] f = tt
falls_below row (lower ∷ rows) f = f.1

heads-transposed : (rows : List (List ℕ)) → Falls (map length rows) → heads (transposed rows) ≡ first_line rows
unfolding heads
heads-transposed [] f = refl
heads-transposed (row ∷ rows) f = heads-put row (transposed rows) (length-transposed rows (falls_below row rows f) row f)

nonempty-transposed : (rows : List (List ℕ)) → Falls (map length rows) → AreNonempty (transposed rows)
unfolding AreNonempty
nonempty-transposed [] f = tt
nonempty-transposed (row ∷ rows) f = nonempty-put row (transposed rows) (length-transposed rows (falls_below row rows f) row f)

-- if no row is longer than the one above, the rows are a grid for `along` and `between` if and only if their columns are a grid for `between` and
-- `along`
pub grid-transposed : (along between : ℕ → ℕ → Bool) (rows : List (List ℕ)) → Falls (map length rows) → is_grid along between rows ≡ is_grid between along (transposed rows)
grid-transposed along between [] f = refl
grid-transposed along between (row ∷ rows) f =
    let below = falls_below row rows f in
    ap₂ (λ (l : List ℕ) (b : Bool). is_chain along row && (pass_by_place between row l && b)) (sym (heads-transposed rows below)) (grid-transposed along between rows below)
    ∙ sym (grid-put along between row (transposed rows) (length-transposed rows below row f) (nonempty-transposed rows below))
