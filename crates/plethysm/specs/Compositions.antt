-- The plethysm of two lists in the monomial basis m, that is, of two lists of terms c·m_λ, with integer coefficients.
use Rattle.std.specs.Prelude.{ℕ, ◌+◌, ◌*◌, ◌^◌, ◌≤◌}
use Rattle.sym_model.specs.Plethysm.{plethysm, plethysm_weight}
use Rattle.sym_model.specs.WholeTerms.{WholeTerms}
use Rattle.monomial_laws.specs.ExpressionTerms.{in_monomials, IsList}
use Rattle.basis_change.specs.Clearing.{IsBoundedBy}
use Rattle.plethysm.specs.BoundedSums.{IsBoundedSum}

-- For lists in m with the polynomials F (`outer`), G (`inner`) and H (`list`), in every number of variables: for each b such that G has no negative
-- coefficient and a degree of at most b (`IsBoundedSum`), H is F[G].
abbrev pub IsComposition : WholeTerms → WholeTerms → WholeTerms → Type 0
IsComposition outer inner list =
    (K b : ℕ) → IsBoundedSum K b inner
    → IsList list (λ n. plethysm (in_monomials outer) b n (in_monomials inner n))

-- whenever N, D and K are at least 1, N bounds the list `outer` (`IsBoundedBy`), and K·(b + 1) bounds the list `inner` at the degree b
-- (`IsBoundedSum`), the plethysm weight of N, D, a, K and b is 2^127 or more; a is meant to be the degree of `outer`
abbrev pub IsPastWeight : ℕ → WholeTerms → WholeTerms → Type 0
IsPastWeight a outer inner =
    (N D K b : ℕ) → 1 ≤ N → 1 ≤ D → 1 ≤ K → IsBoundedBy N outer
    → IsBoundedSum (K * (b + 1)) b inner → 2 ^ 127 ≤ plethysm_weight N D a K b
