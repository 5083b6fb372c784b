-- The *weighed sum* of a table, for a function f, is the sum of count·f(state) over its entries. The weighed sums when a count is added to a state,
-- or a state is appended.
use Rattle.std.proofs.Common.{◌≡◌, ℕ, ◌+◌, ◌*◌, min, List, [], ◌∷◌, ◌++◌, arith, rules}
use Rattle.lr_product.specs.WeighedSum.{at_state, weighed}
use Rattle.lr_product.specs.Capped.{Agree}
use Rattle.lr_product.proofs.Agreeing.{agree_same}

pub weighed-append : (n : ℕ) (f : List ℕ → List ℕ → ℕ) (es ds : List (List ℕ × ℕ)) → weighed n f (es ++ ds) ≡ weighed n f es + weighed n f ds
weighed-append n f [] ds = omega arith
weighed-append n f (e ∷ es) ds = let i = weighed-append n f es ds in omega arith

pub agree_new : (n : ℕ) (f : List ℕ → List ℕ → ℕ) (es new : List (List ℕ × ℕ)) (state : List ℕ) (count : ℕ) → new ≡ es ++ (state, count) ∷ []
    → Agree (weighed n f new) (weighed n f es + count * at_state n f state)
agree_new n f es new state count e = search (rules, weighed-append, agree_same)

pub capped_sum : (had count saturated v : ℕ) → saturated ≡ min (had + count) 340282366920938463463374607431768211455 → v ≡ min saturated 170141183460469231731687303715884105728 → Agree v (had + count)
capped_sum had count saturated v s e = record { below = λ h. omega arith; past = λ h. omega arith }
