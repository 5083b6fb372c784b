-- The partitions and permutations in the lines that `work` generates: their numbers, which are drawn by the generator, and their texts.
use Rattle.std.specs.Prelude.{ℕ, ◌+◌, ◌≤◌, nat_le, cond, List, [], ◌∷◌, ◌++◌, codes, decimal}
use Rattle.std.specs.Prelude.{flat_map}
use Rattle.sym_model.specs.Workload.{drawn}
use Rattle.batch_lines.specs.declared.draws.Parts.{Parts}

-- the text of a list of numbers, each after a space
abbrev pub behind_spaces : List ℕ → List ℕ
behind_spaces numbers = flat_map (λ n. codes " " ++ decimal n) numbers

-- three weakly decreasing numbers, the first at most 9
pub record AreFalling (p : Parts) : Type 0 where
  pub first : p.first ≤ 9
  pub second : p.second ≤ p.first
  pub third : p.third ≤ p.second

-- the three numbers a + b + c, b + c and c, for draws a, b and c modulo t from the state x of the generator
abbrev pub parts_drawn : ℕ → ℕ → Parts
parts_drawn t x = record {
  first = drawn 1 t x + drawn 2 t x + drawn 3 t x;
  second = drawn 2 t x + drawn 3 t x;
  third = drawn 3 t x;
}

-- the list of the three numbers, in their order
abbrev pub numbers_of : Parts → List ℕ
numbers_of p = p.first ∷ p.second ∷ p.third ∷ []

-- the letter with the number `letter` among the letters 1, 2, .. other than `other`: `letter` itself if it is less
-- than `other`, and otherwise one more
abbrev pub past : ℕ → ℕ → ℕ
past letter other = cond (nat_le other letter) (letter + 1) letter
