-- Horizontal strips, vertical strips and rim hooks, as conditions on the cells of a skew shape
-- outer/inner (Macdonald, I.1; Stanley, 7.17). The height of a rim hook is the number of its rows,
-- as Bertram, Ciocan-Fontanine and Fulton count; Macdonald and Stanley take 1 less.
use Rattle.std.specs.Prelude.{◌≡◌, ℕ, ◌+◌, nat_lt, ◌⊎◌, List, [], ◌∷◌, length, filter}
use Rattle.sym_model.specs.Partition.{part, rows, after, Holds, IsCell}

-- outer/inner is a horizontal strip: a skew shape with at most one cell in each column
pub record IsHorizontalStrip (outer inner : List ℕ) : Type 0 where
  pub holds : Holds outer inner
  pub once : (i k column : ℕ) → IsCell outer inner i column → IsCell outer inner k column → i ≡ k

-- outer/inner is a vertical strip: a skew shape with at most one cell in each row
pub record IsVerticalStrip (outer inner : List ℕ) : Type 0 where
  pub holds : Holds outer inner
  pub once : (row j k : ℕ) → IsCell outer inner row j → IsCell outer inner row k → j ≡ k

-- the numbers a and b are neighbours: one is 1 more than the other
abbrev pub AreNeighbours : ℕ → ℕ → Type 0
AreNeighbours a b = (a + 1 ≡ b) ⊎ (b + 1 ≡ a)

-- two cells (i, j) and (k, l) have a common edge: they are neighbours in the same row or in the same column
abbrev pub ShareEdge : ℕ → ℕ → ℕ → ℕ → Type 0
ShareEdge i j k l = ((i ≡ k) × AreNeighbours j l) ⊎ ((j ≡ l) × AreNeighbours i k)

-- the listed cells of outer/inner form a path from the cell (i, j) to the cell (k, l): each has a common edge with
-- the one before it, the first with (i, j), and the last is (k, l); if no cell is listed, (i, j) is (k, l)
abbrev pub IsPath : List ℕ → List ℕ → ℕ → ℕ → List (ℕ × ℕ) → ℕ → ℕ → Type 0
IsPath outer inner i j [] k l = (i ≡ k) × (j ≡ l)
IsPath outer inner i j (c ∷ path) k l =
    IsCell outer inner c.0 c.1 × ShareEdge i j c.0 c.1 × IsPath outer inner c.0 c.1 path k l

-- outer/inner is connected: for any two of its cells, a path of its cells leads from one to the other
abbrev pub IsConnected : List ℕ → List ℕ → Type 0
IsConnected outer inner =
    (i j k l : ℕ) → IsCell outer inner i j → IsCell outer inner k l
    → (path : List (ℕ × ℕ)) × IsPath outer inner i j path k l

-- outer/inner contains no 2 by 2 square of cells
abbrev pub HasNoSquare : List ℕ → List ℕ → Type 0
HasNoSquare outer inner =
    (i j : ℕ) → IsCell outer inner i j → IsCell outer inner i (j + 1) → IsCell outer inner (i + 1) j
    → IsCell outer inner (i + 1) (j + 1) → ⊥

-- outer/inner is a rim hook: a connected skew shape with at least one cell and no 2 by 2 square
pub record IsRimHook (outer inner : List ℕ) : Type 0 where
  pub holds : Holds outer inner
  pub nonempty : (row : ℕ) × (column : ℕ) × IsCell outer inner row column
  pub connected : IsConnected outer inner
  pub thin : HasNoSquare outer inner

-- the height of the rim hook outer/inner: the number of rows in which it has cells
abbrev pub height : List ℕ → List ℕ → ℕ
height outer inner =
    length (filter (λ row. nat_lt (part inner row) (part outer row)) (after 0 (rows outer)))
