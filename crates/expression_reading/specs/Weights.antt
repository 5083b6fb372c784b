-- The correct result of computing the numerator and the denominator of a weight, each of which must be below 2^127.
use Rattle.std.specs.Prelude.{◌≡◌, ℕ, ◌^◌, ◌<◌, ◌≤◌, ◌⊎◌, Option, MatchOption}
use Rattle.calc_base.specs.declared.words.Weight.{Weight}

-- the result is the weight with the numerator n and the denominator d, both below 2^127; or there is no weight, and one of n and d is 2^127 or more
abbrev pub IsWeighed : Option Weight → ℕ → ℕ → Type 0
IsWeighed result n d =
    MatchOption result ((2 ^ 127 ≤ n) ⊎ (2 ^ 127 ≤ d))
    (λ w. (w.num ≡ n) × (w.den ≡ d) × (n < 2 ^ 127) × (d < 2 ^ 127))
