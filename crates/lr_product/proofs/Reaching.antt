-- Tables of states with counts. A *state* is a sum, which is a list of n numbers, followed by the column added last. It is *reached* if the sum is
-- weakly decreasing and its numbers add up to at most a given number. Here each state of positive count is reached.
use Rattle.std.proofs.Common.{◌≡◌, ℕ, ◌≤◌, Bool, ◌&&◌, cond, List, length, ap, ap₂, ◌∙◌, rules}
use Rattle.std.proofs.lemmas.Bool.{le-leb, eq-eqb}
use Rattle.sym_model.specs.Partition.{size}
use Rattle.sym_model.specs.GoodTableau.{is_falling}
use Rattle.lr_product.specs.WeighedSum.{weighed, unreached}
use Rattle.sym_model.proofs.NumberSums.{sum_by-zeros}
use Rattle.lr_product.proofs.Steps.{IsReached, reached-tells, positive_factor}

pub reached : (n m : ℕ) (ν right : List ℕ) → IsReached n m ν → unreached n m ν right ≡ 0
reached n m ν right r =
    ap₂ (λ (p q : Bool). cond (p && (q && is_falling ν)) 0 1) (eq-eqb (length ν) n r.long) (le-leb (size ν) m r.small) ∙ ap (λ (t : Bool). cond t 0 1) r.falls

pub weighed-weaker : (n m m' : ℕ) (es : List (List ℕ × ℕ)) → m ≤ m' → weighed n (unreached n m) es ≡ 0 → weighed n (unreached n m') es ≡ 0
weighed-weaker n m m' es h z = search (rules, sum_by-zeros, reached-tells, positive_factor, reached)
