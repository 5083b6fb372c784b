-- The row insertion of a letter into a tableau whose rows are vectors, as the code in growing.rt computes it.
use Rattle.std.proofs.Common.{◌≡◌, ℕ, zero, suc, ◌+◌, ◌<◌, ◌≤◌, List, [], ◌∷◌, ◌++◌, length, take, drop, get_or, Vec, Option, Some, None, ◌∙◌, ap, ap₂, sym, refl, subst, arith, append_assoc}
use Rattle.std.specs.declared.alloc.Global.{Global}
use Rattle.std.proofs.Math.ListN.{set}
use Rattle.std.proofs.lemmas.List.{length-append, map-append, drop_more, set_split}
use Rattle.sym_model.specs.Insertion.{row_with, bumped, inserted}
use Rattle.sym_model.specs.Tableau.{shape_of}
use Rattle.sym_model.specs.Growth.{grown, with_end}
use Rattle.insertion_laws.proofs.InsertedRows.{with-less, with-more, bumped-less, bumped-more, with-end, length-with, inserted-none}
use Rattle.insertion_laws.proofs.Removals.{grown-here, grown-below}
use Rattle.row_insertion.specs.RowLists.{rows_in}
use Rattle.std.proofs.Math.Seq.{drop-length, take-length}
use Rattle.std.proofs.lemmas.Grind.{take-set_at}

pub put_here :
    (a at x : ℕ) (row : List ℕ) → at < length row → ((k : ℕ) → k < at → get_or row k 0 ≤ a) → x ≡ get_or row at x → a < x
    → (row_with a row ≡ set row at a) × (bumped a row ≡ Some x)
put_here a at x [] l h e m = absurd (omega arith)
put_here a zero x (y ∷ row) l h e m =
    let less : a < y = omega arith in
    (with-less a y row less, bumped-less a y row less ∙ ap Some (sym e))
put_here a (suc at) x (y ∷ row) l h e m =
    let first : y ≤ a = h 0 (omega arith) in
    let r = put_here a at x row (omega arith) (λ k n. h (suc k) (omega arith)) e m in
    (with-more a y row first ∙ ap (λ w. y ∷ w) r.0, bumped-more a y row first ∙ r.1)

pub at_same : {A : Type 0} (xs : List A) (i : ℕ) (x y : A) → i < length xs → x ≡ get_or xs i x → y ≡ get_or xs i y → x ≡ y
at_same [] i x y h e f = absurd (omega arith)
at_same (z ∷ xs) zero x y h e f = e ∙ sym f
at_same (z ∷ xs) (suc i) x y h e f = at_same xs i x y (omega arith) e f

pub put_last :
    (a : ℕ) (row : List ℕ) → ((k : ℕ) → k < length row → get_or row k 0 ≤ a)
    → (row_with a row ≡ row ++ a ∷ []) × (bumped a row ≡ None)
put_last a [] h = (refl, refl)
put_last a (x ∷ row) h =
    let first : x ≤ a = h 0 (omega arith) in
    let r = put_last a row (λ k n. h (suc k) (omega arith)) in
    (with-more a x row first ∙ ap (λ w. x ∷ w) r.0, bumped-more a x row first ∙ r.1)

pub rows_in-set : (rows : List (Vec ℕ Global)) (i : ℕ) (row : Vec ℕ Global) → rows_in (set rows i row) ≡ set (rows_in rows) i row.items
rows_in-set [] i row = refl
rows_in-set (r ∷ rows) zero row = refl
rows_in-set (r ∷ rows) (suc i) row = ap (λ (l : List (List ℕ)). r.items ∷ l) (rows_in-set rows i row)

pub rows_in-at :
    (rows : List (Vec ℕ Global)) (i : ℕ) (d : Vec ℕ Global) → i < length rows → get_or (rows_in rows) i [] ≡ (get_or rows i d).items
rows_in-at [] i d h = absurd (omega arith)
rows_in-at (r ∷ rows) zero d h = refl
rows_in-at (r ∷ rows) (suc i) d h = rows_in-at rows i d (omega arith)

pub length-rows_in : (rows : List (Vec ℕ Global)) → length (rows_in rows) ≡ length rows
length-rows_in [] = refl
length-rows_in (r ∷ rows) = ap suc (length-rows_in rows)

-- ---- a number appended to row i (`with_end`)

pub end-here : (i k : ℕ) (rows : List (List ℕ)) → i < length rows → with_end i k rows ≡ set rows i (get_or rows i [] ++ k ∷ [])
end-here i k [] h = absurd (omega arith)
end-here zero k (row ∷ rows) h = refl
end-here (suc i) k (row ∷ rows) h = ap (λ (l : List (List ℕ)). row ∷ l) (end-here i k rows (omega arith))

pub end-new : (i k : ℕ) (rows : List (List ℕ)) → i ≡ length rows → with_end i k rows ≡ rows ++ (k ∷ []) ∷ []
end-new i k [] h = refl
end-new zero k (row ∷ rows) h = absurd (omega arith)
end-new (suc i) k (row ∷ rows) h = ap (λ (l : List (List ℕ)). row ∷ l) (end-new i k rows (omega arith))

-- inserting `first` into the tableau `start` gives the first i rows of `rows`, followed by the other rows of `rows` with `letter` inserted into them,
-- and the cell added is in the same row of the whole tableau for both insertions
pub record IsInserting (start : List (List ℕ)) (first i : ℕ) (rows : List (List ℕ)) (letter : ℕ) : Type 0 where
  pub rest : inserted start (Some first) ≡ take i rows ++ inserted (drop i rows) (Some letter)
  pub row : grown (shape_of (inserted start (Some first))) (shape_of start)
      ≡ i + grown (shape_of (inserted (drop i rows) (Some letter))) (shape_of (drop i rows))

changed : (i : ℕ) (rows : List (List ℕ)) (row : List ℕ) → i < length rows → set rows i row ≡ take i rows ++ row ∷ drop (i + 1) rows
changed i rows row h = let e : i + 1 ≡ suc i = omega arith in set_split rows i row h ∙ ap (λ n. take i rows ++ row ∷ drop n rows) (sym e)

left : (i : ℕ) (rows : List (List ℕ)) (row : List ℕ) → drop (i + 1) (set rows i row) ≡ drop (i + 1) rows
left i rows row =
    let e : i + 1 ≡ suc i = omega arith in
    ap (λ n. drop n (set rows i row)) e ∙ by i rows ∙ ap (λ n. drop n rows) (sym e)
  where
    by : (i : ℕ) (rows : List (List ℕ)) → drop (suc i) (set rows i row) ≡ drop (suc i) rows
    by i [] = refl
    by zero (r ∷ rows) = refl
    by (suc i) (r ∷ rows) = by i rows

pub inserting_more :
    (start : List (List ℕ)) (first i : ℕ) (rows : List (List ℕ)) (letter b : ℕ) → i < length rows
    → bumped letter (get_or rows i []) ≡ Some b → IsInserting start first i rows letter
    → IsInserting start first (i + 1) (set rows i (row_with letter (get_or rows i []))) b
inserting_more start first i rows letter b h e s =
    let row = get_or rows i [] in
    let new = row_with letter row in
    let below = drop (i + 1) rows in
    let split = drop_more rows i [] h in
    let step : inserted (drop i rows) (Some letter) ≡ new ∷ inserted below (Some b) =
    ap (λ (l : List (List ℕ)). inserted l (Some letter)) split ∙ ap (λ (o : Option ℕ). new ∷ inserted below o) e in
    let far =
    grown-below (length new) (length row) (shape_of (inserted below (Some b))) (shape_of below) (omega (arith, length-with letter b row e)) in
    record {
      rest =
          s.rest ∙ ap (λ (l : List (List ℕ)). take i rows ++ l) step
          ∙ sym (append_assoc (take i rows) (new ∷ []) (inserted below (Some b)))
          ∙ ap₂ (λ (x y : List (List ℕ)). x ++ inserted y (Some b)) (sym (take-set_at rows i (i + 1) new refl h)) (sym (left i rows new));
      row =
          s.row ∙ ap₂ (λ (x y : List (List ℕ)). i + grown (shape_of x) (shape_of y)) step split ∙ ap (λ n. i + n) far
          ∙ omega (
            arith,
            ap (λ (y : List (List ℕ)). grown (shape_of (inserted y (Some b))) (shape_of y)) (left i rows new),
          );
    }

pub inserting_end :
    (start : List (List ℕ)) (first i : ℕ) (rows : List (List ℕ)) (letter : ℕ) → i < length rows
    → bumped letter (get_or rows i []) ≡ None → IsInserting start first i rows letter
    → (inserted start (Some first) ≡ set rows i (row_with letter (get_or rows i [])))
    × (grown (shape_of (inserted start (Some first))) (shape_of start) ≡ i)
inserting_end start first i rows letter h e s =
    let row = get_or rows i [] in
    let new = row_with letter row in
    let below = drop (i + 1) rows in
    let split = drop_more rows i [] h in
    let step : inserted (drop i rows) (Some letter) ≡ new ∷ below =
    ap (λ (l : List (List ℕ)). inserted l (Some letter)) split ∙ ap (λ (o : Option ℕ). new ∷ inserted below o) e
    ∙ ap (λ (l : List (List ℕ)). new ∷ l) (inserted-none below) in
    let longer : length row < length new = omega (arith, ap length (with-end letter row e), length-append row (letter ∷ [])) in (
      s.rest ∙ ap (λ (l : List (List ℕ)). take i rows ++ l) step ∙ sym (changed i rows new h),
      s.row ∙ ap₂ (λ (x y : List (List ℕ)). i + grown (shape_of x) (shape_of y)) step split
          ∙ ap (λ n. i + n) (grown-here (length new) (length row) (shape_of below) (shape_of below) longer)
          ∙ omega arith,
    )

pub inserting_new :
    (start : List (List ℕ)) (first i : ℕ) (rows : List (List ℕ)) (letter : ℕ) → i ≡ length rows → IsInserting start first i rows letter
    → (inserted start (Some first) ≡ rows ++ (letter ∷ []) ∷ [])
    × (grown (shape_of (inserted start (Some first))) (shape_of start) ≡ i)
inserting_new start first i rows letter h s =
    let none : drop i rows ≡ [] = ap (λ n. drop n rows) h ∙ drop-length rows in
    let all : take i rows ≡ rows = ap (λ n. take n rows) h ∙ take-length rows in (
      s.rest ∙ ap₂ (λ (x y : List (List ℕ)). x ++ inserted y (Some letter)) all none,
      s.row ∙ ap (λ (y : List (List ℕ)). i + grown (shape_of (inserted y (Some letter))) (shape_of y)) none ∙ omega arith,
    )

-- ---- the insertion of a letter into a list of vectors

pub row_now :
    (rows : List (Vec ℕ Global)) (i : ℕ) (row : Vec ℕ Global) → i < length rows → row ≡ get_or rows i row
    → get_or (rows_in rows) i [] ≡ row.items
row_now rows i row h e = rows_in-at rows i row h ∙ ap (λ (v : Vec ℕ Global). v.items) (sym e)

changed_in :
    (rows : List (Vec ℕ Global)) (i letter : ℕ) (row new : Vec ℕ Global) → i < length rows → row ≡ get_or rows i row
    → new.items ≡ row_with letter row.items → rows_in (set rows i new) ≡ set (rows_in rows) i (row_with letter (get_or (rows_in rows) i []))
changed_in rows i letter row new h e f =
    rows_in-set rows i new ∙ ap (set (rows_in rows) i) (f ∙ ap (row_with letter) (sym (row_now rows i row h e)))

pub more_in :
    (start : List (List ℕ)) (first i letter b : ℕ) (rows : List (Vec ℕ Global)) (row new : Vec ℕ Global) → i < length rows
    → row ≡ get_or rows i row → new.items ≡ row_with letter row.items → bumped letter row.items ≡ Some b
    → IsInserting start first i (rows_in rows) letter → IsInserting start first (i + 1) (rows_in (set rows i new)) b
more_in start first i letter b rows row new h e f g s =
    let within : i < length (rows_in rows) = omega (arith, length-rows_in rows) in
    subst (λ r. IsInserting start first (i + 1) r b) (sym (changed_in rows i letter row new h e f))
    (inserting_more start first i (rows_in rows) letter b within (ap (bumped letter) (row_now rows i row h e) ∙ g) s)

pub end_in :
    (start : List (List ℕ)) (first i letter : ℕ) (rows : List (Vec ℕ Global)) (row new : Vec ℕ Global) → i < length rows
    → row ≡ get_or rows i row → new.items ≡ row_with letter row.items → bumped letter row.items ≡ None
    → IsInserting start first i (rows_in rows) letter
    → (rows_in (set rows i new) ≡ inserted start (Some first)) × (i ≡ grown (shape_of (rows_in (set rows i new))) (shape_of start))
end_in start first i letter rows row new h e f g s =
    let within : i < length (rows_in rows) = omega (arith, length-rows_in rows) in
    let r = inserting_end start first i (rows_in rows) letter within (ap (bumped letter) (row_now rows i row h e) ∙ g) s in
    let now = changed_in rows i letter row new h e f ∙ sym r.0 in
    (now, sym r.1 ∙ ap (λ (l : List (List ℕ)). grown (shape_of l) (shape_of start)) (sym now))

pub new_in :
    (start after : List (List ℕ)) (first i letter : ℕ) (rows : List (Vec ℕ Global)) → i ≡ length rows
    → after ≡ with_end i letter (rows_in rows) → IsInserting start first i (rows_in rows) letter
    → (after ≡ inserted start (Some first)) × (i ≡ grown (shape_of after) (shape_of start))
new_in start after first i letter rows h e s =
    let past : i ≡ length (rows_in rows) = h ∙ sym (length-rows_in rows) in
    let r = inserting_new start first i (rows_in rows) letter past s in
    let now = e ∙ end-new i letter (rows_in rows) past ∙ sym r.0 in
    (now, sym r.1 ∙ ap (λ (l : List (List ℕ)). grown (shape_of l) (shape_of start)) (sym now))

pub pushed_here :
    (rows : List (Vec ℕ Global)) (i k : ℕ) (row new : Vec ℕ Global) → i < length rows → row ≡ get_or rows i row
    → new.items ≡ row.items ++ k ∷ [] → rows_in (set rows i new) ≡ with_end i k (rows_in rows)
pushed_here rows i k row new h e f =
    let within : i < length (rows_in rows) = omega (arith, length-rows_in rows) in
    rows_in-set rows i new
    ∙ ap (set (rows_in rows) i) (f ∙ ap (λ w. w ++ k ∷ []) (sym (row_now rows i row h e)))
    ∙ sym (end-here i k (rows_in rows) within)

pub pushed_new :
    (rows after : List (Vec ℕ Global)) (i k : ℕ) (row : Vec ℕ Global) → i ≡ length rows → row.items ≡ k ∷ []
    → after ≡ rows ++ row ∷ [] → rows_in after ≡ with_end i k (rows_in rows)
pushed_new rows after i k row h e f =
    ap rows_in f ∙ map-append (λ (v : Vec ℕ Global). v.items) rows (row ∷ []) ∙ ap (λ w. rows_in rows ++ w ∷ []) e
    ∙ sym (end-new i k (rows_in rows) (h ∙ sym (length-rows_in rows)))
