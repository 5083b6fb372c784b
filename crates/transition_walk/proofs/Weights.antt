-- Sums of natural numbers over a list, and over the same list with one element inserted.
use Rattle.std.proofs.Common.{◌≡◌, ℕ, List, ap, inl, inr, arith}
use Rattle.sym_model.specs.Sum.{sum_by}
use Rattle.sym_model.proofs.NumberSums.{sum_by-insert}
use Rattle.transition_walk.specs.Todo.{MayGain}

pub sum_by-gain : {A : Type 0} (f : A → ℕ) (old new : List A) (x : A) → MayGain old x new → f x ≡ 0 → sum_by f new ≡ sum_by f old
sum_by-gain f old new x (inl e) z = ap (sum_by f) e
sum_by-gain f old new x (inr (i, e)) z = let a = ap (sum_by f) e in let b = sum_by-insert f old i x in omega arith
