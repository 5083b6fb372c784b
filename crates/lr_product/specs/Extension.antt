-- A column filled letter by letter from top to bottom. A state is the sum reached so far (n numbers), followed by the letters of the column so far.
-- Places of a column outside the shape have the letter 0.
use Rattle.std.specs.Prelude.{ℕ, zero, suc, ◌+◌, ◌-◌, ◌==◌, nat_le, nat_lt, min, Bool, true, false}
use Rattle.std.specs.Prelude.{◌&&◌, ◌||◌, cond, List, [], ◌∷◌, ◌++◌, length, take, drop}
use Rattle.std.specs.Prelude.{slice_index}
use Rattle.sym_model.specs.GoodTableau.{is_falling}
use Rattle.sym_model.specs.Sum.{sum_by}
use Rattle.lr_product.specs.WeighedSum.{at_state}

-- the k numbers low, low + 1, .., low + k - 1
abbrev pub numbers_from : ℕ → ℕ → List ℕ
numbers_from low zero = []
numbers_from low (suc k) = low ∷ numbers_from (low + 1) k

-- the smaller of n and the first letter of `right`, the right neighbour; n if `right` is empty
abbrev pub greatest_letter : ℕ → List ℕ → ℕ
greatest_letter n [] = n
greatest_letter n (r ∷ right) = min n r

-- the least letter allowed below the letter `above`: above + 1 at a cell (true), 0 at a place outside the shape (false)
abbrev pub least_letter : Bool → ℕ → ℕ
least_letter true above = above + 1
least_letter false above = 0

-- one more than the greatest letter allowed below the letter `above` and left of the column `right`: at a cell (true) letters are at most n and the
-- right neighbour; at a place outside the shape (false) only 0 is allowed, and only below 0
abbrev pub letters_end : ℕ → Bool → List ℕ → ℕ → ℕ
letters_end n true right above = greatest_letter n right + 1
letters_end n false right above = cond (above == 0) 1 0

-- the list with its b-th number, counted from 1, raised by 1; unchanged if b is 0 or there is no such number
abbrev pub raised : ℕ → List ℕ → List ℕ
raised zero numbers = numbers
raised (suc b) [] = []
raised (suc zero) (a ∷ numbers) = (a + 1) ∷ numbers
raised (suc (suc b)) (a ∷ numbers) = a ∷ raised (suc b) numbers

-- the numbers appended to a state when the letter b is placed: b if the column is kept (true), otherwise none
abbrev pub mark : Bool → ℕ → List ℕ
mark true b = b ∷ []
mark false b = []

-- whether the number at the index i, raised by 1, is at most the number before it (if i > 0), and at most the number of `bound` at the index i (if
-- there is one)
abbrev pub can_rise : List ℕ → ℕ → List ℕ → Bool
can_rise bound i numbers =
    ((i == 0) || nat_lt (slice_index numbers i) (slice_index numbers (i - 1)))
    && (nat_le (length bound) i || nat_lt (slice_index numbers i) (slice_index bound i))

-- The remaining places `line` of a column are filled in all ways, below the letter `above` and left of the column `right`; each letter is added to
-- the sum and, if `kept` is true, appended to the state. The sum of f over those states that are reached and have a weakly decreasing sum.
abbrev pub extended : Bool → ℕ → List Bool → List ℕ → ℕ → (List ℕ → List ℕ → ℕ) → List ℕ → ℕ
extended kept n [] right above f state = cond (is_falling (take n state)) (at_state n f state) 0
extended kept n (cell ∷ line) right above f state =
    sum_by (λ b. extended kept n line (drop 1 right) b f (raised b state ++ mark kept b))
    (numbers_from (least_letter cell above)
    (letters_end n cell right above - least_letter cell above))
