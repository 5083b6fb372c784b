-- The product of the factorials of the multiplicities of the parts of a list, computed one part after another.
use Rattle.std.proofs.Common.{◌≡◌, ℕ, suc, ◌-◌, ◌*◌, ◌<◌, ◌≤◌, ◌^◌, List, ◌∷◌, length, get_or, drop, sym, ap, ◌∙◌, arith, drop-cons}
use Rattle.sym_model.specs.Schur.{times_in}
use Rattle.basis_change_laws.specs.AugmentedMonomial.{multiplicity_factorials}
use Rattle.basis_change_laws.proofs.AugmentedMonomials.{multiplicity_factorials-cons}
use Rattle.family_list_laws.proofs.PartQuotients.{multiplicities-positive}
use native.Mathlib.Nat.{mul-le-mul_left}
use Rattle.std.proofs.Math.Nat.{mul_assoc}

-- let M(i) be the product of the factorials of the multiplicities of the parts from the index i on, and let `times` be the number of times that the
-- part at the index `at` occurs from `at` on. If `product`·M(`at`) = `whole`, then `product`·`times`·M(`at` + 1) = `whole`
pub multiplicity-next : (product times whole : ℕ) (parts : List ℕ) (at : ℕ) → at < length parts
    → product * multiplicity_factorials (drop at parts) ≡ whole
    → times ≡ times_in (get_or parts at 0) (drop at parts)
    → (product * times) * multiplicity_factorials (drop (suc at) parts) ≡ whole
multiplicity-next product times whole parts at h e t =
    ap (λ n. (product * n) * multiplicity_factorials (drop (suc at) parts))
    (t ∙ ap (times_in (get_or parts at 0)) (drop-cons parts at 0 h))
    ∙ mul_assoc product (times_in (get_or parts at 0) (get_or parts at 0 ∷ drop (suc at) parts)) (multiplicity_factorials (drop (suc at) parts))
    ∙ ap (λ n. product * n)
    (sym (multiplicity_factorials-cons (get_or parts at 0) (drop (suc at) parts))
    ∙ ap multiplicity_factorials (sym (drop-cons parts at 0 h)))
    ∙ e

pub multiplicity-fits : (n whole : ℕ) (rest : List ℕ) → n * multiplicity_factorials rest ≡ whole → whole < 2 ^ 127
    → n < 2 ^ 128
multiplicity-fits n whole rest e h =
    let p = multiplicities-positive rest in
    let m : n * 1 ≤ n * multiplicity_factorials rest = mul-le-mul_left n (omega arith) in
    omega arith
