use Rattle.std.proofs.Common.{◌≡◌, ◌*◌, ◌<◌, ◌^◌, ap₂, arith, lit<, rules}
use Rattle.sym_model.specs.Weight.{factorial}
use Rattle.family_list_laws.specs.OnePartLists.{centralizer}
use Rattle.family_lists.proofs.CountedPlaces.{centralizer-low}
use Rattle.family_lists.proofs.multiplicities.centralizer.Goals as goal

pub overflow_mul-result : goal.overflow_mul-result
overflow_mul-result c =
    let value : c.product_of_parts.result * c.multiplicity_factorials.result
    ≡ centralizer c.args.parts.now = ap₂ ◌*◌ c.product_of_parts.ensures
    c.multiplicity_factorials.ensures in
    let low = centralizer-low c.args.parts.now c.requires.partition c.requires.low in
    let top : factorial 20 < 2 ^ 128 = lit< tt in
    let h : c.product_of_parts.result * c.multiplicity_factorials.result < 2 ^ 128 = omega arith in
    search (rules, h)
