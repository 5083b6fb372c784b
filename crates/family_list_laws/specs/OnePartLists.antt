-- e_k, h_k and p_k as lists of terms in another of the bases e, h and p, with coefficients in closed form (Macdonald, I.2 and the examples there).
use Rattle.std.specs.Prelude.{ℕ, ◌-◌, ◌*◌, ◌/◌, ℤ, pos, ◌*ℤ◌, List, [], ◌∷◌, map, length}
use Rattle.sym_model.specs.Partition.{size}
use Rattle.sym_model.specs.PartitionList.{partitions_of}
use Rattle.sym_model.specs.PlaceOrders.{minus_one_to}
use Rattle.sym_model.specs.WholeTerms.{WholeTerms}
use Rattle.sym_model.specs.Weight.{factorial}
use Rattle.basis_change_laws.specs.AugmentedMonomial.{multiplicity_factorials}

-- l!/Π m_i!, for a partition with l parts, in which each part i occurs m_i times: the number of distinct rearrangements of its parts
abbrev pub orders_of_parts : List ℕ → ℕ
orders_of_parts μ = factorial (length μ) / multiplicity_factorials μ

-- k·(l - 1)!/Π m_i!, for a partition of k with l parts, in which each part i occurs m_i times
abbrev pub sized_orders : List ℕ → ℕ
sized_orders μ = size μ * factorial (length μ - 1) / multiplicity_factorials μ

-- the product of the parts of a partition
abbrev pub product_of_parts : List ℕ → ℕ
product_of_parts [] = 1
product_of_parts (a ∷ μ) = a * product_of_parts μ

-- z_μ: the product of the parts of μ, times the product of the factorials of the multiplicities of the parts
abbrev pub centralizer : List ℕ → ℕ
centralizer μ = product_of_parts μ * multiplicity_factorials μ

-- k!/z_μ: the number of permutations of 1, .., k with the cycle type μ
abbrev pub cycle_type_count : List ℕ → ℕ
cycle_type_count μ = factorial (size μ) / centralizer μ

-- (-1)^(k - l), for a partition of k with l parts
abbrev pub parity_sign : List ℕ → ℤ
parity_sign μ = minus_one_to (size μ - length μ)

-- (-1)^(k - l)·l!/Π m_i!, for a partition of k with l parts, in which each part i occurs m_i times
abbrev pub signed_orders : List ℕ → ℤ
signed_orders μ = parity_sign μ *ℤ pos (orders_of_parts μ)

-- `list_over c k`: the list of the partitions μ of k, each with the coefficient c(μ)
abbrev pub list_over : (List ℕ → ℤ) → ℕ → WholeTerms
list_over c k = map (λ μ. (μ, c μ)) (partitions_of k)
