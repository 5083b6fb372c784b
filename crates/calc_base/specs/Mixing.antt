-- A list of numbers combined into one number, for hashing.
use Rattle.std.specs.Prelude.{ℕ, ◌+◌, ◌*◌, ◌%◌, ◌^◌, List, [], ◌∷◌}

-- for a number s (`sum`), a list of k numbers a_1, .., a_k, and b = 1000003: s·b^k + a_1·b^(k-1) + .. + a_k modulo 2^64, and s itself if k = 0
abbrev pub mixed : ℕ → List ℕ → ℕ
mixed sum [] = sum
mixed sum (a ∷ numbers) = mixed (((sum * 1000003) % 2 ^ 64 + a) % 2 ^ 64) numbers
