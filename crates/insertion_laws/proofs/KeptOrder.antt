-- A slide of a semistandard tableau gives semistandard rows. The rows above the row in which the slide begins do not change; this row and the rows
-- below it are slid.
use Rattle.std.proofs.Common.{◌≡◌, ℕ, zero, suc, ◌+◌, ◌-◌, ◌<◌, ◌≤◌, true, nat_le, List, [], ◌∷◌, ◌++◌, map, length, take, drop, get_or, ◌∙◌, ap, ap₂, sym, refl, subst, arith, append-nil, cond, Bool, false, rules}
use Rattle.std.proofs.lemmas.Bool.{and_parts, leb-true}
use Rattle.std.proofs.lemmas.List.{drop-drop, length-append, length-drop, length-take-le}
use Rattle.strip_laws.proofs.Containment.{contains-tells}
use Rattle.sym_model.specs.Partition.{Falls, part}
use Rattle.sym_model.specs.Schur.{row_lengths, semistandard, contains, letters_of}
use Rattle.sym_model.specs.Slide.{outer_parts, slid_rows}
use Rattle.sym_model.proofs.SortedParts.{Falls_tail, Falls_first}
use Rattle.sym_model.proofs.Parts.{Falls-front}
use Rattle.insertion_laws.proofs.RisingRows.{StandsUnder, first_row, order-tells, order-from, HasShape, part_next, ends-first}
use Rattle.insertion_laws.proofs.SlideSteps.{place_below, moved}
use Rattle.insertion_laws.proofs.SlidOrder.{HasHole, slides}

first_end :
    (outer inner : List ℕ) (rows : List (List ℕ)) → map length rows ≡ row_lengths outer inner → contains outer inner ≡ true
    → part inner 1 + length (first_row rows) ≤ part outer 1
first_end outer inner [] e h = omega (arith, contains-tells outer inner h 1)
first_end [] inner (row ∷ rows) e h = absurd (cc e)
first_end (a ∷ outer) [] (row ∷ rows) e h = let same : length row ≡ a = cc e in omega arith
first_end (a ∷ outer) (b ∷ inner) (row ∷ rows) e h = search rules

pub shape-from :
    (rows : List (List ℕ)) (outer inner : List ℕ) → map length rows ≡ row_lengths outer inner → contains outer inner ≡ true
    → Falls outer → Falls inner → HasShape inner rows
shape-from [] outer inner e h f g = tt
shape-from (row ∷ rows) [] inner e h f g = absurd (cc e)
shape-from (row ∷ rows) (a ∷ outer) [] e h f g =
    let same : length row ≡ a = cc e in
    let rest : map length rows ≡ row_lengths outer [] = cc e in
    (omega arith, omega (arith, first_end outer [] rows rest refl, Falls_first a outer f), shape-from rows outer [] rest refl (Falls_tail a outer f) tt)
shape-from (row ∷ rows) (a ∷ outer) (b ∷ inner) e h f g =
    let same : length row ≡ a - b = cc e in
    let rest : map length rows ≡ row_lengths outer inner = cc e in
    let p = and_parts (nat_le b a) (contains outer inner) h in (
      Falls_first b inner g,
      omega (arith, first_end outer inner rows rest p.1, Falls_first a outer f, leb-true b a p.0),
      shape-from rows outer inner rest p.1 (Falls_tail a outer f) (Falls_tail b inner g),
    )

next_parts : (a b : List ℕ) → ((k : ℕ) → get_or a k 0 ≡ get_or b k 0) → (k : ℕ) → get_or (drop 1 a) k 0 ≡ get_or (drop 1 b) k 0
next_parts a b e k = part_next a k ∙ e (k + 1) ∙ sym (part_next b k)

semistandard-parts :
    (rows : List (List ℕ)) (a b : List ℕ) → ((k : ℕ) → get_or a k 0 ≡ get_or b k 0) → semistandard a rows ≡ true → semistandard b rows ≡ true
semistandard-parts [] a b e h = refl
semistandard-parts (row ∷ below) a b e h =
    let t = order-tells a row below h in
    let s : part a 1 - part a 2 ≡ part b 1 - part b 2 = ap₂ (λ x y. x - y) (e 0) (e 1) in
    order-from b row below
    (record {
      rises = t.rises;
      stands = subst (λ n. StandsUnder n row (first_row below)) s t.stands;
      later = semistandard-parts below (drop 1 a) (drop 1 b) (next_parts a b e) t.later;
    })

HasShape-parts : (rows : List (List ℕ)) (a b : List ℕ) → ((k : ℕ) → get_or a k 0 ≡ get_or b k 0) → HasShape a rows → HasShape b rows
HasShape-parts [] a b e h = tt
HasShape-parts (row ∷ below) a b e h =
    (omega (arith, h.0, e 0, e 1), omega (arith, h.1, e 0, e 1), HasShape-parts below (drop 1 a) (drop 1 b) (next_parts a b e) h.2)

stands_taken : (k s : ℕ) (row : List ℕ) (below : List (List ℕ)) → StandsUnder s row (first_row below) → StandsUnder s row (first_row (take k below))
stands_taken zero s row below h i l m = absurd (omega arith)
stands_taken (suc k) s row [] h i l m = absurd (omega arith)
stands_taken (suc k) s row (lower ∷ below) h i l m = h i l m

pub semistandard-taken : (k : ℕ) (rows : List (List ℕ)) (inner : List ℕ) → semistandard inner rows ≡ true → semistandard inner (take k rows) ≡ true
semistandard-taken zero rows inner h = refl
semistandard-taken (suc k) [] inner h = refl
semistandard-taken (suc k) (row ∷ below) inner h =
    let t = order-tells inner row below h in
    order-from inner row (take k below)
    (record {
      rises = t.rises;
      stands = stands_taken k (part inner 1 - part inner 2) row below t.stands;
      later = semistandard-taken k below (drop 1 inner) t.later;
    })

-- ---- the rows above the row of the empty cell, which a slide does not change, and the slid rows below them

-- `new` has the parts of `inner`, except that the part at place i, counted from 0, is one less; the next part of `inner` is less than the part at i
pub record IsLowered (i : ℕ) (inner new : List ℕ) : Type 0 where
  pub here : get_or new i 0 + 1 ≡ get_or inner i 0
  pub others : (k : ℕ) → (k ≡ i → ⊥) → get_or new k 0 ≡ get_or inner k 0
  pub corner : get_or inner (i + 1) 0 < get_or inner i 0

pub lowered_less : (i k : ℕ) (inner new : List ℕ) → IsLowered i inner new → get_or new k 0 ≤ get_or inner k 0
lowered_less i k inner new h = search rules

pub lowered_next : (i : ℕ) (inner new : List ℕ) → IsLowered (suc i) inner new → IsLowered i (drop 1 inner) (drop 1 new)
lowered_next i inner new h = search (rules, part_next)

-- the row `new` begins d columns to the left of the row `old` and does not end further right than `old`. In each column that both rows have, the
-- letter of `new` is at least the letter of `old`
record IsRaised (d : ℕ) (old new : List ℕ) : Type 0 where
  long : length new ≤ length old + d
  letters : (k : ℕ) → k < length old → k + d < length new → get_or old k 0 ≤ get_or new (k + d) 0

-- `rows_from i inner rows`: the rows after the slide in `rows` that begins in row i, counted from 0; `inner` has the inner parts after the slide
abbrev pub rows_from : ℕ → List ℕ → List (List ℕ) → List (List ℕ)
rows_from i inner rows =
    take i rows ++ slid_rows (drop i inner) [] (letters_of (take 1 (drop i rows))) (drop 1 (drop i rows))

-- the rows `slid` are semistandard for the inner parts `new`, and the columns in which they end are weakly decreasing. Their first row ends no later
-- than `row`, the first row before the slide, and none of its letters is smaller than the letter of `row` in the same cell
record IsKept (inner new row : List ℕ) (slid : List (List ℕ)) : Type 0 where
  order : semistandard new slid ≡ true
  first : (d : ℕ) → get_or new 0 0 + d ≡ get_or inner 0 0 → IsRaised d row (first_row slid)
  falls : Falls (outer_parts new slid)

pub first_hole :
    (inner new row : List ℕ) (below : List (List ℕ)) → HasShape inner (row ∷ below) → semistandard inner (row ∷ below) ≡ true
    → IsLowered 0 inner new → HasHole new [] row below
first_hole inner new row below s o l = search (rules, order-tells, part_next, place_below, first_row, HasShape-parts, semistandard-parts)

keeps :
    (i : ℕ) (inner new : List ℕ) (rows : List (List ℕ)) → i < length rows → HasShape inner rows → semistandard inner rows ≡ true
    → IsLowered i inner new → IsKept inner new (first_row rows) (rows_from i new rows)
keeps i inner new [] m s o l = absurd (omega arith)
keeps zero inner new (row ∷ below) m s o l =
    let n = slides below new [] row (first_hole inner new row below s o l) in
    subst (λ w. IsKept inner new row (slid_rows new [] w below)) (sym (append-nil row))
    (record {
      order = n.order;
      first = λ d f.
          let one : d ≡ 1 = omega (arith, l.here) in
          record {
            long = omega (arith, n.first.long);
            letters = λ k u v.
                let at : length {A = ℕ} [] + 1 + k ≡ k + d = omega arith in
                omega (arith, n.first.behind k u (omega arith), ap (λ i. get_or (first_row (slid_rows new [] row below)) i 0) at);
          };
      falls = n.falls;
    })
keeps (suc i) inner new (row ∷ rest) m s o l =
    let t = order-tells inner row rest o in
    let n = keeps i (drop 1 inner) (drop 1 new) rest (omega arith) s.2 t.later (lowered_next i inner new l) in
    let count : 1 + i ≡ suc i = omega arith in
    let e : drop i (drop 1 new) ≡ drop (suc i) new = drop-drop i 1 new ∙ ap (λ n. drop n new) count in
    let rows = λ (w : List ℕ). take i rest ++ slid_rows w [] (letters_of (take 1 (drop i rest))) (drop 1 (drop i rest)) in
    let d = get_or inner 1 0 - get_or new 1 0 in
    let less = lowered_less (suc i) 1 inner new l in
    let same : get_or new 0 0 ≡ get_or inner 0 0 = l.others 0 (λ z. omega arith) in
    let first = n.first d (omega (arith, part_next inner 0, part_next new 0)) in
    let falls = s.0 in
    subst (λ w. IsKept inner new row (row ∷ rows w)) e
    (record {
      order = order-from new row (rows (drop i (drop 1 new)))
          (record {
            rises = t.rises;
            stands = λ k u v.
                let at : part inner 1 - part inner 2 + k + (get_or inner 1 0 - get_or new 1 0) ≡ part new 1 - part new 2 + k = omega arith in
                omega (
                  arith,
                  t.stands k u (omega (arith, first.long)),
                  first.letters (part inner 1 - part inner 2 + k) (omega (arith, first.long)) (omega arith),
                  ap (λ n. get_or (first_row (rows (drop i (drop 1 new)))) n 0) at,
                );
            later = n.order;
          });
      first = λ d f.
          let none : d ≡ 0 = omega arith in
          record {
            long = omega arith;
            letters = λ k u v. let at : k ≡ k + d = omega arith in omega (arith, ap (λ n. get_or row n 0) at);
          };
      falls = Falls-front (part new 1 + length row) (outer_parts (drop 1 new) (rows (drop i (drop 1 new))))
          (omega (arith, ends-first (drop 1 new) (rows (drop i (drop 1 new))), part_next new 0, first.long, s.1)) n.falls;
    })

pub order-kept :
    (i : ℕ) (inner new : List ℕ) (rows : List (List ℕ)) → i < length rows → HasShape inner rows → semistandard inner rows ≡ true
    → IsLowered i inner new → semistandard new (rows_from i new rows) ≡ true
order-kept i inner new rows m s o l = (keeps i inner new rows m s o l).order

pub ends-kept :
    (i : ℕ) (inner new : List ℕ) (rows : List (List ℕ)) → i < length rows → HasShape inner rows → semistandard inner rows ≡ true
    → IsLowered i inner new → Falls (outer_parts new (rows_from i new rows))
ends-kept i inner new rows m s o l = (keeps i inner new rows m s o l).falls

length-slid : (below : List (List ℕ)) (inner left right : List ℕ) → length (slid_rows inner left right below) ≡ suc (length below)
length-slid [] inner left right = refl
length-slid (row ∷ below) inner left right =
    let m = moved inner left right row in
    let n = place_below inner left + m in
    ap suc
    (either (nat_le (length row) n) (row ∷ below) (slid_rows (drop 1 inner) (take n row) (drop (n + 1) row) below) (suc (length below)) refl
    (length-slid below (drop 1 inner) (take n row) (drop (n + 1) row)))
  where
    either : (b : Bool) (v w : List (List ℕ)) (n : ℕ) → length v ≡ n → length w ≡ n → length (cond b v w) ≡ n
    either true v w n p q = p
    either false v w n p q = q

pub length-rows_from : (i : ℕ) (inner : List ℕ) (rows : List (List ℕ)) → i < length rows → length (rows_from i inner rows) ≡ length rows
length-rows_from i inner rows h =
    let here = drop i rows in
    omega (
      arith,
      length-append (take i rows) (slid_rows (drop i inner) [] (letters_of (take 1 here)) (drop 1 here)),
      length-take-le i rows (omega arith),
      length-slid (drop 1 here) (drop i inner) [] (letters_of (take 1 here)),
      length-drop 1 (drop i rows),
      length-drop i rows,
    )
