-- The polynomials that the programs of bases.rt return, as lists of the exponents of their monomials.
use Rattle.std.specs.Prelude.{ℕ, ◌+◌, ◌^◌, ◌<◌, Bool, true, pos, List, map}
use Rattle.std.specs.Global.{Vec}
use Rattle.sym_model.specs.Sum.{Among}
use Rattle.sym_model.specs.Polynomial.{Poly}
use Rattle.sym_model.specs.Partition.{size}
use Rattle.sym_model.specs.Bases.{at_most_one, has, elementary_of, complete_of, power_sum_of}
use Rattle.sym_model.specs.Bases.{elementary, complete, power_sum}
use Rattle.plain_programs.specs.declared.bases.PlainBasis.{PlainBasis}
use Rattle.plain_programs.specs.declared.bases.PlainBasis.TheVariants.{Elementary, Complete}
use Rattle.plain_programs.specs.declared.bases.PlainBasis.TheVariants.{PowerSum}

-- the lists that a vector of vectors holds
abbrev pub lists : Vec (Vec ℕ) → List (List ℕ)
lists all = map (λ list. list.items) all.items

-- the sum of the monomials with these exponents
abbrev pub sum_of : List (List ℕ) → Poly
sum_of αs = map (λ α. (α, pos 1)) αs

-- |α| + |β| < 2^64 for each α of the first list and each β of the second, so that the exponents of their product fit
-- 64 bits
abbrev pub CanMultiply : List (List ℕ) → List (List ℕ) → Type 0
CanMultiply αs βs = (α β : List ℕ) → Among α αs → Among β βs → size α + size β < 2 ^ 64

-- whether the monomial with these exponents, of degree k, occurs in e_k, h_k or p_k, the one that the basis names
abbrev pub keeps : PlainBasis → ℕ → List ℕ → Bool
keeps Elementary part = at_most_one
keeps Complete part = λ α. true
keeps PowerSum part = has part

-- e_k, h_k or p_k for the part k, the one that the basis names
abbrev pub part_polynomial : PlainBasis → ℕ → ℕ → Poly
part_polynomial Elementary = elementary_of
part_polynomial Complete = complete_of
part_polynomial PowerSum = power_sum_of

-- e_λ, h_λ or p_λ for the partition λ, the one that the basis names
abbrev pub product_polynomial : PlainBasis → List ℕ → ℕ → Poly
product_polynomial Elementary = elementary
product_polynomial Complete = complete
product_polynomial PowerSum = power_sum
