-- Capped numbers: if numbers agree (`Agree`: equal, or both at least 2^127), so do their sums and multiples.
use Rattle.std.proofs.Common.{◌≡◌, ℕ, zero, suc, ◌+◌, ◌*◌, arith, rules}
use Rattle.lr_product.specs.Capped.{Agree}

pub agree_same : (a b : ℕ) → a ≡ b → Agree a b
agree_same a b e = record { below = λ h. e; past = λ h. omega arith }

pub agree_then : (a b c : ℕ) → Agree a b → Agree b c → Agree a c
agree_then a b c p q = search rules

pub agree_sum : (a b r : ℕ) → Agree a b → Agree (a + r) (b + r)
agree_sum a b r p = search rules

pub agree_times : (a b k : ℕ) → Agree a b → Agree (a * k) (b * k)
agree_times a b zero p = agree_same (a * 0) (b * 0) (omega arith)
agree_times a b (suc k) p = search rules
