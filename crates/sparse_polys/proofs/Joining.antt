-- The exponents of a product of two monomials (`join`), one index after another.
use Rattle.std.proofs.Common.{◌≡◌, ℕ, ◌+◌, ◌<◌, ◌≤◌, max, List, [], ◌∷◌, ◌++◌, length, get_or, take, ap, ◌∙◌, arith, rules}
use Rattle.std.proofs.lemmas.List.{take_more}
use Rattle.sym_model.specs.Polynomial.{join}
use Rattle.sym_model.specs.Partition.{size}
use Rattle.sym_model.proofs.Exponents.{size-join, length-join, get_or-join}
use Rattle.sparse_polys.specs.Limits.{HasDegree, IsWithinLimits}
use Rattle.sym_model.proofs.Parts.{get_or-le-size}

pub take-join : (a b : List ℕ) (i : ℕ) → i < max (length a) (length b) → take (i + 1) (join a b) ≡ take i (join a b) ++ (get_or a i 0 + get_or b i 0) ∷ []
take-join a b i h =
    let l = length-join a b in
    take_more (join a b) i 0 (omega arith) ∙ ap (λ n. take i (join a b) ++ n ∷ []) (get_or-join a b i)

pub entry-join : (a b : List ℕ) (i : ℕ) → get_or a i 0 + get_or b i 0 ≤ size (join a b)
entry-join a b i = search (rules, size-join, get_or-le-size)

pub HasDegree-join : (a b : List ℕ) (d e : ℕ) → HasDegree a d → HasDegree b e → IsWithinLimits (join a b) → HasDegree (join a b) (d + e)
HasDegree-join a b d e h k l = search (rules, size-join)
