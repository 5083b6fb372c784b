-- The *line* of a column of a skew shape says for each place of the column whether it is a cell of the shape (specs/ColumnLine). The number of lines
-- of a shape, and the number of places of each line.
use Rattle.std.proofs.Common.{◌≡◌, ℕ, zero, suc, ◌+◌, ◌-◌, ◌<◌, ◌≤◌, nat_le, nat_lt, Bool, true, cond, List, [], ◌∷◌, ◌++◌, length, replicate, drop, get_or, refl, sym, ap, ap₂, ◌∙◌, arith, rules}
use Rattle.std.proofs.lemmas.Bool.{lt-leb, lt-ltb}
use Rattle.std.proofs.Math.Seq.{drop-cons}
use Rattle.sym_model.specs.Partition.{Falls, size, columns, part}
use Rattle.sym_model.specs.Schur.{contains}
use Rattle.tableau_laws.specs.PaddedRows.{put_row, transposed, line_of, pattern_of}
use Rattle.tableau_laws.specs.ColumnFold.{column_lines}
use Rattle.tableau_laws.proofs.RowSums.{contains_rest, length_line}
use Rattle.lr_product.specs.ColumnLine.{column_line}
use Rattle.lr_product.specs.WeighedSum.{places}
use Rattle.std.proofs.lemmas.List.{drop_all}
use Rattle.tableau_laws.proofs.Grids.{length-put}
use Rattle.tableau_laws.proofs.ColumnReadings.{line_at-put, at_place}

leb-up : (a b c d : ℕ) → c ≡ suc a → d ≡ suc b → nat_le a b ≡ nat_le c d
leb-up a b c d p q = search rules

at_place-cells : (i k : ℕ) → at_place i (replicate k true) ≡ cond (nat_le (i + 1) k) (true ∷ []) []
at_place-cells zero zero = sym (ap (λ t. cond t (true ∷ []) []) (lt-leb 1 0 (omega arith)))
at_place-cells (suc i) zero = sym (ap (λ t. cond t (true ∷ []) []) (lt-leb (suc i + 1) 0 (omega arith)))
at_place-cells zero (suc k) = search rules
at_place-cells (suc i) (suc k) = at_place-cells i k ∙ ap (λ t. cond t (true ∷ []) []) (leb-up (i + 1) k (suc i + 1) (suc k) (omega arith) (omega arith))

ltb-up : (a b c d : ℕ) → c ≡ suc a → d ≡ suc b → nat_lt a b ≡ nat_lt c d
ltb-up a b c d p q = search rules

at_place-line : (i b k : ℕ) → at_place i (line_of b k) ≡ cond (nat_le (i + 1) (b + k)) (nat_lt b (i + 1) ∷ []) []
at_place-line i zero k =
    at_place-cells i k ∙ ap₂ (λ (t u : Bool). cond t (u ∷ []) []) (ap (nat_le (i + 1)) (let e : k ≡ 0 + k = omega arith in e)) (sym (lt-ltb 0 (i + 1) (omega arith)))
at_place-line zero (suc b) k = search rules
at_place-line (suc i) (suc b) k = search (rules, leb-up, ltb-up, (at_place-line i b k))

pub line-at : (i : ℕ) (outer inner : List ℕ) → contains outer inner ≡ true → get_or (column_lines outer inner) i [] ≡ column_line (i + 1) outer inner
line-at zero [] inner h = refl
line-at (suc i) [] inner h = refl
line-at i (a ∷ outer) inner h =
    let r = contains_rest a outer inner h in
    let whole : part inner 1 + (a - part inner 1) ≡ a = let q = r.0 in omega arith in
    line_at-put i (line_of (part inner 1) (a - part inner 1)) (transposed (pattern_of outer (drop 1 inner)))
    ∙ ap₂ ◌++◌ (at_place-line i (part inner 1) (a - part inner 1) ∙ ap (λ k. cond (nat_le (i + 1) k) (nat_lt (part inner 1) (i + 1) ∷ []) []) whole) (line-at i outer (drop 1 inner) r.1)

pub length-lines : (outer inner : List ℕ) → Falls outer → contains outer inner ≡ true → length (column_lines outer inner) ≡ columns outer
length-lines [] inner f h = refl
length-lines (a ∷ []) inner f h = search (rules, contains_rest, length-put, length_line)
length-lines (a ∷ b ∷ outer) inner f h =
    let r = contains_rest a (b ∷ outer) inner h in
    let i = length-lines (b ∷ outer) (drop 1 inner) f.1 r.1 in
    let k = length_line a (part inner 1) r.0 in
    let g = f.0 in
    length-put (line_of (part inner 1) (a - part inner 1)) (transposed (pattern_of (b ∷ outer) (drop 1 inner))) (omega arith) ∙ k

places-put : (row : List Bool) (lines : List (List Bool)) → places (put_row row lines) ≡ length row + places lines
places-put [] lines = omega arith
places-put (x ∷ row) [] = let i = places-put row [] in omega arith
places-put (x ∷ row) (c ∷ lines) = let i = places-put row lines in omega arith

pub places-lines : (outer inner : List ℕ) → contains outer inner ≡ true → places (column_lines outer inner) ≡ size outer
places-lines [] inner h = refl
places-lines (a ∷ outer) inner h =
    let r = contains_rest a outer inner h in
    let i = places-lines outer (drop 1 inner) r.1 in
    let p = places-put (line_of (part inner 1) (a - part inner 1)) (transposed (pattern_of outer (drop 1 inner))) in
    let k = length_line a (part inner 1) r.0 in
    omega arith

pub places-drop : (i : ℕ) (lines : List (List Bool)) → places (drop i lines) ≤ places lines
places-drop zero [] = omega arith
places-drop zero (l ∷ lines) = omega arith
places-drop (suc i) [] = omega arith
places-drop (suc i) (l ∷ lines) = let r = places-drop i lines in omega arith

pub column-cons : (outer inner : List ℕ) (i : ℕ) → Falls outer → contains outer inner ≡ true → i < columns outer → drop i (column_lines outer inner) ≡ column_line (i + 1) outer inner ∷ drop (i + 1) (column_lines outer inner)
column-cons outer inner i f c h =
    let e : suc i ≡ i + 1 = omega arith in
    drop-cons (column_lines outer inner) i [] (let l = length-lines outer inner f c in omega arith)
    ∙ ap₂ (λ (l : List Bool) (ls : List (List Bool)). l ∷ ls) (line-at i outer inner c) (ap (λ k. drop k (column_lines outer inner)) e)

pub column-none : (outer inner : List ℕ) → Falls outer → contains outer inner ≡ true → drop (columns outer) (column_lines outer inner) ≡ []
column-none outer inner f c = drop_all (columns outer) (column_lines outer inner) (let l = length-lines outer inner f c in omega arith)
