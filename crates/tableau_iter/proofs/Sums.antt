-- The sum of a partition `start` and the content of a prefix of a word. A tableau is good for `start` if this sum is weakly decreasing for each
-- prefix of its reading that ends with a column.
use Rattle.std.proofs.Common.{◌≡◌, ℕ, zero, suc, ◌+◌, ◌-◌, ◌<◌, ◌≤◌, Bool, ◌&&◌, List, [], ◌∷◌, map, length, get_or, reverse, ◌∙◌, ap, ap₂, sym, refl, arith, length-append, take, flat_map}
use Rattle.sym_model.specs.Partition.{columns, rows, after}
use Rattle.sym_model.specs.Polynomial.{join}
use Rattle.sym_model.specs.Schur.{content, times_in}
use Rattle.sym_model.specs.GoodTableau.{every, is_falling, is_good, reading_right_of}
use Rattle.sym_model.specs.TableauList.{column_cells, reading_cells, filling_of}
use Rattle.skew_shapes.specs.Rows.{cells_right_of}
use Rattle.skew_shapes.proofs.CellRows.{map_after-ext}
use Rattle.tableau_iter.proofs.GoodWords.{list_by}
use Rattle.tableau_iter.proofs.Orders.{reading_split, reading-prefix}

pub join_after :
    (start : List ℕ) (g : ℕ → ℕ) (a k : ℕ) → length start ≤ k
    → join start (map g (after a k)) ≡ map (λ j. get_or start (j - (a + 1)) 0 + g j) (after a k)
join_after [] g a k h = map_after-ext g (λ j. get_or {A = ℕ} [] (j - (a + 1)) 0 + g j) a k (λ j l m. omega arith)
join_after (s ∷ start) g a zero h = absurd (omega arith)
join_after (s ∷ start) g a (suc k) h =
    let first : 0 ≡ a + 1 - (a + 1) = omega arith in
    ap₂ ◌∷◌ (ap (λ n. get_or (s ∷ start) n 0 + g (a + 1)) first)
    (join_after start g (a + 1) k (omega arith)
    ∙ map_after-ext (λ j. get_or start (j - (a + 1 + 1)) 0 + g j) (λ j. get_or (s ∷ start) (j - (a + 1)) 0 + g j) (a + 1) k
    (λ j l m. let place : suc (j - (a + 1 + 1)) ≡ j - (a + 1) = omega arith in ap (λ n. get_or (s ∷ start) n 0 + g j) place))

pub sums-join :
    (sums start word : List ℕ) (k : ℕ) → length sums ≡ k → rows start ≤ k
    → ((i : ℕ) → i < k → get_or sums i 0 ≡ get_or start i 0 + times_in (i + 1) word) → sums ≡ join start (content k word)
sums-join sums start word k l h e =
    list_by sums (λ j. get_or start (j - (0 + 1)) 0 + times_in j word) 0 k 0 l
    (λ i m.
    let place : i ≡ 0 + i + 1 - (0 + 1) = omega arith in
    let letter : i + 1 ≡ 0 + i + 1 = omega arith in
    e i m ∙ ap₂ (λ n j. get_or start n 0 + times_in j word) place letter)
    ∙ sym (join_after start (λ j. times_in j word) 0 k h)

-- ---- the lengths of the prefixes that end with a column

-- no number of the list is greater than n
abbrev pub AreWithinLength : List ℕ → ℕ → Type 0
AreWithinLength [] n = Unit {0}
AreWithinLength (a ∷ numbers) n = (a ≤ n) × AreWithinLength numbers n

-- whether start plus the content of the first `end` letters of w is weakly decreasing
abbrev pub falls_at : ℕ → List ℕ → List ℕ → ℕ → Bool
falls_at k start word end = is_falling (join start (content k (take end word)))

within_map : (g : ℕ → ℕ) (a k n : ℕ) → ((j : ℕ) → j ≤ a + k → g j ≤ n) → AreWithinLength (map g (after a k)) n
within_map g a zero n h = tt
within_map g a (suc k) n h = (h (a + 1) (omega arith), within_map g (a + 1) k n (λ j l. h j (omega arith)))

pub ends-within :
    (outer inner word : List ℕ) → length word ≡ length (reading_cells outer inner)
    → AreWithinLength (map (λ j. length (cells_right_of outer inner j)) (0 ∷ after 0 (columns outer))) (length word)
ends-within outer inner word l =
    let g = λ (j : ℕ). length (cells_right_of outer inner j) in
    let below : (j : ℕ) → j ≤ 0 + columns outer → length (cells_right_of outer inner j) ≤ length word =
    λ j h.
    let split = reading_split outer inner j (omega arith) in
    let rest = flat_map (column_cells outer inner) (reverse (after 0 j)) in
    omega (arith, l, ap (λ (cells : List (ℕ × ℕ)). length cells) split, length-append (cells_right_of outer inner j) rest) in
    (below 0 (omega arith), within_map g 0 (columns outer) (length word) below)

every-after : (f g : ℕ → Bool) (a k : ℕ) → ((j : ℕ) → j ≤ a + k → f j ≡ g j) → every f (after a k) ≡ every g (after a k)
every-after f g a zero h = refl
every-after f g a (suc k) h = ap₂ (λ x y. x && y) (h (a + 1) (omega arith)) (every-after f g (a + 1) k (λ j l. h j (omega arith)))

every-map : (test : ℕ → Bool) (g : ℕ → ℕ) (xs : List ℕ) → every test (map g xs) ≡ every (λ x. test (g x)) xs
every-map test g [] = refl
every-map test g (x ∷ xs) = ap (λ b. test (g x) && b) (every-map test g xs)

pub is_good-ends :
    (k : ℕ) (start outer inner word : List ℕ) → length word ≡ length (reading_cells outer inner)
    → every (falls_at k start word) (map (λ j. length (cells_right_of outer inner j)) (0 ∷ after 0 (columns outer)))
    ≡ is_good k start outer inner (filling_of outer inner word)
is_good-ends k start outer inner word l =
    let ends : ℕ → ℕ = λ j. length (cells_right_of outer inner j) in
    let same : (j : ℕ) → j ≤ 0 + columns outer → falls_at k start word (length (cells_right_of outer inner j))
    ≡ is_falling (join start (content k (reading_right_of j outer inner (filling_of outer inner word)))) =
    λ j h. ap (λ w. is_falling (join start (content k w))) (sym (reading-prefix outer inner word j (omega arith) l)) in
    every-map (falls_at k start word) ends (0 ∷ after 0 (columns outer))
    ∙ ap₂ (λ x y. x && y) (same 0 (omega arith))
    (every-after (λ j. falls_at k start word (length (cells_right_of outer inner j)))
    (λ j. is_falling (join start (content k (reading_right_of j outer inner (filling_of outer inner word))))) 0 (columns outer) same)
