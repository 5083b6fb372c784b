-- The least letter in a range that passes a test.
use Rattle.std.specs.Prelude.{◌≡◌, ℕ, ◌<◌, ◌≤◌, Bool, true, false}

-- `letter` is the least letter greater than `from` and at most `to` that passes the test
pub record IsNextLetter (test : ℕ → Bool) (from to letter : ℕ) : Type 0 where
  pub greater : from < letter
  pub within : letter ≤ to
  pub passes : test letter ≡ true
  pub between : (b : ℕ) → from < b → b < letter → test b ≡ false
