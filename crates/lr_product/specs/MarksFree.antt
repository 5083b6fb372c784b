-- Sets of letters as numbers of 64 bits: the binary digit i is 1 if the letter i + 1 is in the set.
use Rattle.std.specs.Int.{bit_at}
use Rattle.std.specs.Prelude.{◌≡◌, ◌<◌, ◌≤◌, ℕ, cond, List}
use Rattle.lr_product.specs.Extension.{can_rise}

-- for each index i from `from` to n - 1 and less than 64, the binary digit i of `free` is 1 if the number at i can be raised by 1 (`can_rise`), and 0
-- otherwise
pub record MarksFree (n from : ℕ) (bound numbers : List ℕ) (free : ℕ) : Type 0 where
  pub digits : (i : ℕ) → from ≤ i → i < n → i < 64
      → bit_at free i ≡ cond (can_rise bound i numbers) 1 0
