-- Special rim hooks of a cells, which begin in the first column, added below a shape that is given by the set of its
-- beta numbers.
use Rattle.std.specs.Prelude.{ℕ, zero, suc, ◌+◌, ◌-◌, ◌*◌, ◌^◌, cond, List, [], ◌∷◌, ◌++◌, length}
use Rattle.std.specs.Prelude.{flat_map}
use Rattle.sym_model.specs.Bases.{has}
use Rattle.sym_model.specs.BetaList.{greater}
use Rattle.sym_model.specs.PlaceOrders.{minus_one_to}
use Rattle.linear_combinations.specs.Gains.{WholeTermsOf, replaced}
use Rattle.beta_sets.specs.BetaSets.{numbers}

-- The set with the number a added; its coefficient is (-1)^r, with r the number of elements of the set that are smaller than a. There is no term if
-- the set already has a.
abbrev pub put_among : ℕ → ℕ → WholeTermsOf ℕ
put_among a set =
    cond (has a (numbers set)) []
    ((set + 2 ^ a, minus_one_to (length (numbers set) - greater a (numbers set))) ∷ [])

-- The shape of the set with a rim hook of a cells added that begins in the row below its last row: each number of the set is increased by 1, and then
-- the number a is added, with its sign (`put_among`).
abbrev pub hook : ℕ → ℕ → WholeTermsOf ℕ
hook a set = put_among a (2 * set)

-- The results of adding a rim hook of a cells that begins in one of the next `more` rows below the shape of the set; the rows between the shape and
-- the row in which the rim hook begins are first added to the set as empty rows.
abbrev pub hooks : ℕ → ℕ → ℕ → WholeTermsOf ℕ
hooks a zero set = []
hooks a (suc more) set = hook a set ++ hooks a more (2 * set + 1)

-- The results of adding a rim hook of a cells that begins in one of the next a rows below the shape of the set.
abbrev pub hooks_below : ℕ → ℕ → WholeTermsOf ℕ
hooks_below a set = hooks a a set

-- For each pair of a number a and a list: the results of adding a rim hook of a cells below the shapes of the list.
abbrev pub hooked_lists : List (ℕ × WholeTermsOf ℕ) → WholeTermsOf ℕ
hooked_lists lists = flat_map (λ (x : ℕ × WholeTermsOf ℕ). replaced (hooks_below x.0) x.1) lists
