-- Numbers that are the same up to the cap: so are their sums and multiples.
use Rattle.std.proofs.Common.{◌≡◌, ℕ, zero, suc, ◌+◌, ◌*◌, ap, sym, ◌∙◌, arith}
use Rattle.std.proofs.Math.Nat.{mul-suc}
use Rattle.prefix_walk.specs.Levels.{at_most_cap}

pub cap_sum : (a b r : ℕ) → at_most_cap a ≡ at_most_cap b → at_most_cap (a + r) ≡ at_most_cap (b + r)
cap_sum a b r h = omega arith

pub cap_both : (a b c d : ℕ) → at_most_cap a ≡ at_most_cap b → at_most_cap c ≡ at_most_cap d → at_most_cap (a + c) ≡ at_most_cap (b + d)
cap_both a b c d h g = omega arith

pub cap_times : (a b k : ℕ) → at_most_cap a ≡ at_most_cap b → at_most_cap (a * k) ≡ at_most_cap (b * k)
cap_times a b zero h = let e : a * 0 ≡ b * 0 = omega arith in ap at_most_cap e
cap_times a b (suc k) h =
    ap at_most_cap (mul-suc a k) ∙ cap_both (a * k) (b * k) a b (cap_times a b k h) h ∙ sym (ap at_most_cap (mul-suc b k))
