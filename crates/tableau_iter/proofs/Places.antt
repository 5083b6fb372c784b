-- The index of a cell in the column reading, with the cells read before it and after it.
use Rattle.std.proofs.Common.{◌≡◌, ℕ, zero, suc, ◌+◌, ◌-◌, ◌<◌, ◌≤◌, true, cond, leb, ltb, List, [], ◌∷◌, ◌++◌, map, length, get_or, reverse, ◌∙◌, ap, sym, refl, subst, inl, inr, arith, append_assoc, length-append, filter, flat_map}
use Rattle.std.proofs.lemmas.Bool.{and_from, lt-ltb, le-leb}
use Rattle.std.proofs.lemmas.List.{map-append, get_or_append_left}
use Rattle.sym_model.specs.Sum.{Among, Once}
use Rattle.sym_model.specs.Partition.{IsCell, Falls, part, rows, columns, after}
use Rattle.sym_model.specs.TableauList.{column_cells, reading_cells}
use Rattle.sym_model.proofs.Sums.{Among-append_left, Among-append_right, Among-each, Among-map, Among-select}
use Rattle.sym_model.proofs.AfterLists.{among_after, after-append}
use Rattle.skew_shapes.specs.Rows.{reaches, cells_right_of, cells_above}
use Rattle.skew_shapes.proofs.CellReadings.{above-reached, right-more}
use Rattle.skew_shapes.proofs.CellRows.{cell_row}
use Rattle.tableau_iter.proofs.Orders.{Among-reversed, Once-reading, columns_far, reading_split}
use Rattle.tableau_iter.proofs.Neighbours.{Among-get}
use Rattle.std.proofs.Math.Seq.{get_or-append_seam}
use Rattle.std.proofs.lemmas.List.Elements.{filter-append}

-- ---- the index of a cell in a list without repeats

pub place_among : (c : ℕ × ℕ) (cells : List (ℕ × ℕ)) → Among c cells → (q : ℕ) × (q < length cells) × ((d : ℕ × ℕ) → get_or cells q d ≡ c)
place_among c [] m = absurd m
place_among c (x ∷ xs) (inl e) = (0, omega arith, λ d. sym e)
place_among c (x ∷ xs) (inr m) = let r = place_among c xs m in let h = r.1 in (suc r.0, omega arith, r.2)

pub place_unique :
    (cells : List (ℕ × ℕ)) (q p : ℕ) (c : ℕ × ℕ) → Once cells → q < length cells → p < length cells → get_or cells q c ≡ c → get_or cells p c ≡ c → q ≡ p
place_unique [] q p c o h l e f = absurd (omega arith)
place_unique (x ∷ xs) zero zero c o h l e f = refl
place_unique (x ∷ xs) zero (suc p) c o h l e f = absurd (o.0 (subst (λ (y : ℕ × ℕ). Among y xs) (f ∙ sym e) (Among-get xs p c (omega arith))))
place_unique (x ∷ xs) (suc q) zero c o h l e f = absurd (o.0 (subst (λ (y : ℕ × ℕ). Among y xs) (e ∙ sym f) (Among-get xs q c (omega arith))))
place_unique (x ∷ xs) (suc q) (suc p) c o h l e f = ap suc (place_unique xs q p c o.1 (omega arith) (omega arith) e f)

place_in_front :
    (front rest : List (ℕ × ℕ)) (p : ℕ) (c : ℕ × ℕ) → Once (front ++ rest) → Among c front → p < length (front ++ rest) → get_or (front ++ rest) p c ≡ c
    → p < length front
place_in_front front rest p c o m h e =
    let r = place_among c front m in
    let within = r.1 in
    let longer : r.0 < length (front ++ rest) = omega (arith, length-append front rest) in
    let same = place_unique (front ++ rest) r.0 p c o longer h (get_or_append_left front rest c r.0 within ∙ r.2 c) e in
    omega (arith, same)

place_behind :
    (front rest : List (ℕ × ℕ)) (p : ℕ) (c : ℕ × ℕ) → Once (front ++ c ∷ rest) → p < length (front ++ c ∷ rest) → get_or (front ++ c ∷ rest) p c ≡ c
    → p ≡ length front
place_behind front rest p c o h e =
    let longer : length front < length (front ++ c ∷ rest) = omega (arith, length-append front (c ∷ rest)) in
    sym (place_unique (front ++ c ∷ rest) (length front) p c o longer h (get_or-append_seam front c rest c) e)

-- the cells of the columns right of column j, followed by those of column j in the rows 1 to r: these are read before (r + 1, j)
abbrev pub front_of : List ℕ → List ℕ → ℕ → ℕ → List (ℕ × ℕ)
front_of outer inner j r = cells_right_of outer inner j ++ cells_above outer inner j r

-- the cells of column j in the rows after r
abbrev pub cells_below : List ℕ → List ℕ → ℕ → ℕ → List (ℕ × ℕ)
cells_below outer inner j r = map (λ row. (row, j)) (filter (reaches outer inner j) (after r (rows outer - r)))

pub cell_reaches : (outer inner : List ℕ) (i j : ℕ) → IsCell outer inner i j → reaches outer inner j i ≡ true
cell_reaches outer inner i j c =
    let b = c.outside in
    let d = c.within in
    and_from (ltb (part inner i) j) (leb j (part outer i)) (lt-ltb (part inner i) j b) (le-leb j (part outer i) d)

column_split :
    (outer inner : List ℕ) (r j : ℕ) → r ≤ length outer → column_cells outer inner j ≡ cells_above outer inner j r ++ cells_below outer inner j r
column_split outer inner r j h =
    let all : length outer ≡ r + (length outer - r) = omega arith in
    let from : 0 + r ≡ r = omega arith in
    let test = reaches outer inner j in
    ap (λ n. map {B = ℕ × ℕ} (λ row. (row, j)) (filter (reaches outer inner j) (after 0 n))) all
    ∙ ap (λ l. map {B = ℕ × ℕ} (λ row. (row, j)) (filter (reaches outer inner j) l)) (after-append 0 r (length outer - r) ∙ ap (λ a. after 0 r ++ after a (length outer - r)) from)
    ∙ ap (map {B = ℕ × ℕ} (λ row. (row, j))) (filter-append test (after 0 r) (after r (length outer - r)))
    ∙ map-append {B = ℕ × ℕ} (λ row. (row, j)) (filter test (after 0 r)) (filter test (after r (length outer - r)))

pub below-cell :
    (outer inner : List ℕ) (r j : ℕ) → IsCell outer inner (r + 1) j → cells_below outer inner j r ≡ (r + 1, j) ∷ cells_below outer inner j (r + 1)
below-cell outer inner r j c =
    let few = cell_row outer inner (r + 1) j c in
    let more : length outer - r ≡ suc (length outer - (r + 1)) = omega arith in
    let rest = filter (reaches outer inner j) (after (r + 1) (length outer - (r + 1))) in
    ap (λ n. map {B = ℕ × ℕ} (λ row. (row, j)) (filter (reaches outer inner j) (after r n))) more
    ∙ ap (λ b. map {B = ℕ × ℕ} (λ row. (row, j)) (cond b ((r + 1) ∷ rest) rest)) (cell_reaches outer inner (r + 1) j c)

-- if (r + 1, j) is a cell, the cells right of column j - 1 are those read before (r + 1, j), followed by those of column j in the rows after r
pub right-split :
    (outer inner : List ℕ) (r j : ℕ) → Falls outer → IsCell outer inner (r + 1) j
    → cells_right_of outer inner (j - 1) ≡ front_of outer inner j r ++ cells_below outer inner j r
right-split outer inner r j f c =
    let out = c.outside in
    let low : 1 ≤ j = omega arith in
    let few = cell_row outer inner (r + 1) j c in
    let inside = c.within in
    let wide = columns_far outer (r + 1) f (omega arith) in
    right-more outer inner j low (omega arith)
    ∙ ap (λ l. cells_right_of outer inner j ++ l) (column_split outer inner r j (omega arith))
    ∙ sym (append_assoc (cells_right_of outer inner j) (cells_above outer inner j r) (cells_below outer inner j r))

pub reading_around :
    (outer inner : List ℕ) (r j : ℕ) → Falls outer → IsCell outer inner (r + 1) j
    → reading_cells outer inner
    ≡ front_of outer inner j r ++ ((r + 1, j) ∷ (cells_below outer inner j (r + 1) ++ flat_map (column_cells outer inner) (reverse (after 0 (j - 1)))))
reading_around outer inner r j f c =
    let inside = c.within in
    let wide = columns_far outer (r + 1) f (omega arith) in
    let rest = flat_map (column_cells outer inner) (reverse (after 0 (j - 1))) in
    reading_split outer inner (j - 1) (omega arith)
    ∙ ap (λ l. l ++ flat_map (column_cells outer inner) (reverse (after 0 (j - 1))))
    (right-split outer inner r j f c ∙ ap (λ l. front_of outer inner j r ++ l) (below-cell outer inner r j c))
    ∙ append_assoc (front_of outer inner j r) ((r + 1, j) ∷ cells_below outer inner j (r + 1)) rest

pub place_of_cell :
    (outer inner : List ℕ) (r j p : ℕ) → Falls outer → IsCell outer inner (r + 1) j → p < length (reading_cells outer inner)
    → get_or (reading_cells outer inner) p (r + 1, j) ≡ (r + 1, j) → p ≡ length (front_of outer inner j r)
place_of_cell outer inner r j p f c h e =
    let around = reading_around outer inner r j f c in
    let rest = cells_below outer inner j (r + 1) ++ flat_map (column_cells outer inner) (reverse (after 0 (j - 1))) in
    place_behind (front_of outer inner j r) rest p (r + 1, j) (subst (λ (l : List (ℕ × ℕ)). Once l) around (Once-reading outer inner))
    (subst (λ (l : List (ℕ × ℕ)). p < length l) around h) (subst (λ (l : List (ℕ × ℕ)). get_or l p (r + 1, j) ≡ (r + 1, j)) around e)

earlier :
    (outer inner : List ℕ) (r j p q : ℕ) (d : ℕ × ℕ) → Falls outer → IsCell outer inner (r + 1) j → p < length (reading_cells outer inner)
    → q < length (reading_cells outer inner) → get_or (reading_cells outer inner) p (r + 1, j) ≡ (r + 1, j) → get_or (reading_cells outer inner) q d ≡ d
    → Among d (front_of outer inner j r) → q < p
earlier outer inner r j p q d f c h l e g m =
    let around = reading_around outer inner r j f c in
    let rest = (r + 1, j) ∷ (cells_below outer inner j (r + 1) ++ flat_map (column_cells outer inner) (reverse (after 0 (j - 1)))) in
    let here = place_of_cell outer inner r j p f c h e in
    let there =
    place_in_front (front_of outer inner j r) rest q d (subst (λ (l : List (ℕ × ℕ)). Once l) around (Once-reading outer inner)) m
    (subst (λ (l : List (ℕ × ℕ)). q < length l) around l) (subst (λ (l : List (ℕ × ℕ)). get_or l q d ≡ d) around g) in
    omega (arith, here, there)

-- the cell (r + 1, j) has a smaller index q in the reading than the cell below it, (r + 2, j), at the index p
pub above_before :
    (outer inner : List ℕ) (r j p q : ℕ) → Falls outer → IsCell outer inner (r + 1) j → IsCell outer inner (r + 1 + 1) j
    → p < length (reading_cells outer inner) → q < length (reading_cells outer inner)
    → get_or (reading_cells outer inner) q (r + 1, j) ≡ (r + 1, j) → get_or (reading_cells outer inner) p (r + 1 + 1, j) ≡ (r + 1 + 1, j) → q < p
above_before outer inner r j p q f above c h l g e =
    earlier outer inner (r + 1) j p q (r + 1, j) f c h l e g
    (Among-append_right (r + 1, j) (cells_right_of outer inner j) (cells_above outer inner j (r + 1))
    (subst (λ (l : List (ℕ × ℕ)). Among (r + 1, j) l) (sym (above-reached outer inner j r (cell_reaches outer inner (r + 1) j above)))
    (Among-append_right (r + 1, j) (cells_above outer inner j r) ((r + 1, j) ∷ []) (inl refl))))

-- the cell (r + 1, j + 1) has a smaller index q in the reading than the cell on its left, (r + 1, j), at the index p
pub right_before :
    (outer inner : List ℕ) (r j p q : ℕ) → Falls outer → IsCell outer inner (r + 1) j → IsCell outer inner (r + 1) (j + 1)
    → p < length (reading_cells outer inner) → q < length (reading_cells outer inner)
    → get_or (reading_cells outer inner) q (r + 1, j + 1) ≡ (r + 1, j + 1) → get_or (reading_cells outer inner) p (r + 1, j) ≡ (r + 1, j) → q < p
right_before outer inner r j p q f c right h l g e =
    let few = cell_row outer inner (r + 1) (j + 1) right in
    let inside = right.within in
    let wide = columns_far outer (r + 1) f (omega arith) in
    let column : Among (j + 1) (reverse (after j (columns outer - j))) =
    Among-reversed (j + 1) (after j (columns outer - j)) (among_after j (columns outer - j) (j + 1) (omega arith) (omega arith)) in
    let row : Among (r + 1) (after 0 (rows outer)) = among_after 0 (rows outer) (r + 1) (omega arith) (omega arith) in
    earlier outer inner r j p q (r + 1, j + 1) f c h l e g
    (Among-append_left (r + 1, j + 1) (cells_right_of outer inner j) (cells_above outer inner j r)
    (Among-each (column_cells outer inner) (j + 1) (r + 1, j + 1) (reverse (after j (columns outer - j))) column
    (Among-map {B = ℕ × ℕ} (λ i. (i, j + 1)) (r + 1) (filter (reaches outer inner (j + 1)) (after 0 (rows outer)))
    (Among-select (reaches outer inner (j + 1)) (r + 1) (after 0 (rows outer)) row (cell_reaches outer inner (r + 1) (j + 1) right)))))
