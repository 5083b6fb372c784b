-- Tableaux T that are good for a start (start plus the content of the last k columns of T is weakly decreasing for each k), built row by row, from
-- the first row on (Gelfand and Tsetlin). Places outside the shape have the letter 0. A state is a list: the sum reached (n numbers), and then, for
-- t = n - 1, n - 2, .., 0, the number of places with a letter of at most t in the row added last.
use Rattle.std.specs.Prelude.{◌≡◌, ℕ, zero, suc, ◌+◌, ◌-◌, ◌<◌, nat_le, nat_lt, max, Bool, cond, List, []}
use Rattle.std.specs.Prelude.{◌∷◌, ◌++◌, length, drop, get_or, slice_index}
use Rattle.sym_model.specs.Sum.{sum_by}
use Rattle.sym_model.specs.Partition.{part}
use Rattle.tableau_laws.specs.Grid.{may_precede}
use Rattle.lr_product.specs.WeighedSum.{at_state}
use Rattle.lr_product.specs.Extension.{numbers_from, greatest_letter, mark}

-- the list with its number at the index t raised by i
abbrev pub added : ℕ → ℕ → List ℕ → List ℕ
added t i [] = []
added zero i (a ∷ numbers) = (a + i) ∷ numbers
added (suc t) i (a ∷ numbers) = a ∷ added t i numbers

-- If k places of a row have letters of at most t + 1: the greatest number of places that can have letters of at most t. It is `outside` if t is 0,
-- and otherwise min(k, a), with a the first number of `above`: in the row above, a places have a letter less than t. It is k if `above` is empty.
abbrev pub most_left : ℕ → ℕ → ℕ → List ℕ → ℕ
most_left outside zero k above = outside
most_left outside (suc t) k above = greatest_letter k above

-- If k places of a row have letters of at most t + 1: the least number of places that can have letters of at most t. It is `outside` if t is 0.
-- Otherwise it is at least `outside`, and the other places have the letter t + 1: the number of the sum at the index t, increased by the number of
-- these places, may not exceed the number before it.
abbrev pub least_left : ℕ → ℕ → ℕ → List ℕ → ℕ
least_left outside zero k numbers = outside
least_left outside (suc t) k numbers =
    max outside (k - (slice_index numbers t - slice_index numbers (suc t)))

-- The first k places of a row are filled with letters of at most t in all ways: the sum of f over the states that are reached. If `kept` is true, the
-- numbers of places that describe the row are appended to the state.
abbrev pub filled : Bool → ℕ → ℕ → ℕ → ℕ → List ℕ → (List ℕ → List ℕ → ℕ) → List ℕ → ℕ
filled kept n outside zero k above f state = at_state n f state
filled kept n outside (suc t) k above f state =
    sum_by
    (λ left. filled kept n outside t left (drop 1 above) f (added t (k - left) state ++ mark kept left))
    (numbers_from (least_left outside t k state)
    (most_left outside t k above + 1 - least_left outside t k state))

-- A row of k places, of which the first `outside` are outside the shape, is added to the sum ν in all ways that are allowed below the row described
-- by `above`: the sum of f over the states that are reached.
abbrev pub next_row : ℕ → Bool → ℕ → ℕ → (List ℕ → List ℕ → ℕ) → List ℕ → List ℕ → ℕ
next_row n kept outside k f ν above =
    cond (may_precede nat_le k above) (filled kept n outside n k (drop 1 above) f ν) 0

-- The rows of outer/inner are added in all ways to the state with the sum ν and the last row described by `above`: the sum of f over the states that
-- are reached.
abbrev pub over_rows : ℕ → List ℕ → List ℕ → (List ℕ → List ℕ → ℕ) → List ℕ → List ℕ → ℕ
over_rows n [] inner f ν above = f ν above
over_rows n (a ∷ outer) inner f ν above =
    next_row n (nat_lt 0 (length outer)) (part inner 1) a (over_rows n outer (drop 1 inner) f) ν above

-- 1 if the second list, the row or column of the state, is not empty; otherwise 0
abbrev pub begun : List ℕ → List ℕ → ℕ
begun ν [] = 0
begun ν (x ∷ right) = 1

-- the number of cells of outer/inner
abbrev pub cell_count : List ℕ → List ℕ → ℕ
cell_count [] inner = 0
cell_count (a ∷ outer) inner = cell_count outer (drop 1 inner) + (a - part inner 1)

-- f is 0 at each sum of n numbers in which some number plus m is less than the number of the bound at the same index
abbrev pub VanishesBelow : ℕ → ℕ → List ℕ → (List ℕ → List ℕ → ℕ) → Type 0
VanishesBelow n m bound f =
    (ν right : List ℕ) (j : ℕ) → length ν ≡ n → j < length bound
    → get_or ν j 0 + m < get_or bound j 0 → f ν right ≡ 0
