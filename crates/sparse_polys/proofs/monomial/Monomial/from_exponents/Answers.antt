use Rattle.std.proofs.Common.{◌≡◌, ℕ, ◌≤◌, List, length, rules}
use Rattle.sym_model.specs.Partition.{size, without_last_zeros}
use Rattle.sparse_polys.specs.Limits.{HasDegree}
use Rattle.sparse_polys.proofs.ExponentOrder.{trimmed_once}
use Rattle.sparse_polys.proofs.monomial.Monomial.from_exponents.Goals as goal

within : (given left : List ℕ) (degree : ℕ) → left ≡ without_last_zeros given → length left ≤ 255 →
    degree ≡ size left → degree ≤ 32385 → HasDegree left degree
within given left degree is few sum small = search (rules, trimmed_once)

pub with_degree-requires : goal.with_degree-requires
with_degree-requires c = search (rules, within)
