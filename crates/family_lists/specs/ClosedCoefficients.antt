-- Closed formulas for the coefficients in the expansions of p_k in e and in h, of k!·e_k in h and in p, and of k!·h_k in e and in p (Macdonald, I.2).
use Rattle.std.specs.Prelude.{ℕ, ◌-◌, ◌*◌, ℤ, pos, ◌*ℤ◌, List, length}
use Rattle.sym_model.specs.Partition.{size}
use Rattle.sym_model.specs.PlaceOrders.{minus_one_to}
use Rattle.sym_model.specs.Weight.{factorial}
use Rattle.family_list_laws.specs.OnePartLists.{orders_of_parts, sized_orders, cycle_type_count}
use Rattle.sparse_polys.specs.declared.family.Family.{Family}
use Rattle.sparse_polys.specs.declared.family.Family.TheVariants.{Complete, PowerSum}

-- let the k-th polynomial e_k, h_k or p_k of a family (the second argument) be expanded in a target basis (the first argument): the exponent of -1 in
-- the coefficient of a partition of k with l parts. It is l - 1 for p_k in h, 0 for h_k in p, and k - l for each other pair
abbrev pub sign_exponent : Family → Family → List ℕ → ℕ
sign_exponent Complete PowerSum μ = length μ - 1
sign_exponent PowerSum Complete μ = 0
sign_exponent target family μ = size μ - length μ

-- the arguments are a target basis, a family (e, h or p) and a partition μ of k: the absolute value of the coefficient of μ if the polynomial of the
-- family (k!·e_k, k!·h_k or p_k) is expanded in the target basis
abbrev pub absolute : Family → Family → List ℕ → ℕ
absolute PowerSum family μ = cycle_type_count μ
absolute target PowerSum μ = sized_orders μ
absolute target family μ = factorial (size μ) * orders_of_parts μ

-- the arguments are a target basis, another family (e, h or p) and a partition μ of k: the coefficient of μ if the polynomial of the family (k!·e_k,
-- k!·h_k or p_k) is expanded in the target basis
abbrev pub closed_coefficient : Family → Family → List ℕ → ℤ
closed_coefficient target family μ =
    minus_one_to (sign_exponent target family μ) *ℤ pos (absolute target family μ)
