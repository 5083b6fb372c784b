-- Atoms of expressions, which are basis elements of one of the bases m, e, h, p and s, expanded in the basis e, h or p. The value of an atom of
-- degree d is a list of terms in that basis, which is d! times the polynomial of the atom, with the denominator 1. The absolute values of the
-- coefficients of this list add up to at most `grown d`, which is d!·(2d)^d.
use Rattle.std.proofs.Common.{◌≡◌, ℕ, ◌*◌, ◌^◌, ◌≤◌, List, subst, arith}
use Rattle.sym_model.specs.Polynomial.{Poly}
use Rattle.sym_model.specs.Partition.{size}
use Rattle.sym_model.specs.Bases.{product_over}
use Rattle.sym_model.specs.Expansion.{Basis, elementaries, completes, power_sums, basis_polynomial}
use Rattle.sym_model.specs.Expression.{atom}
use Rattle.sym_model.specs.Weight.{factorial, weight}
use Rattle.expand_in_families.specs.declared.node.Node.{Node}
use Rattle.sparse_polys.specs.declared.family.Family.{Family}
use Rattle.sparse_polys.specs.declared.family.Family.TheVariants.{Elementary, Complete, PowerSum}
use Rattle.sparse_polys.specs.Families.{basis_in, polynomial_of}
use Rattle.basis_change_laws.specs.JoinedLists.{Stands}
use Rattle.expand_in_families.specs.Nodes.{ClearsTo}
use Rattle.basis_change_laws.proofs.GrowthBounds.{grown}

-- let k be the number of cells of an atom (a basis element) in any of the five bases: a value c with the denominator 1 and the degree k represents
-- the atom (`ClearsTo`) if its terms are k! times the polynomial of the atom, and the absolute values of their coefficients add up to at most `grown
-- k`
pub clears-atom : (P : ℕ → ℕ → Poly) (basis : Basis) (parts : List ℕ) (c : Node) → c.den ≡ 1 → c.degree ≡ size parts
    → Stands P (factorial (size parts)) (grown (size parts)) (size parts) (λ n. basis_polynomial basis parts n) c.terms → ClearsTo P (atom basis parts) c
clears-atom P basis parts c d g s =
    let e : grown (size parts) ≡ 1 * grown (size parts) = omega arith in
    record {
      den_is = d;
      degree_is = g;
      stands = subst (λ m. Stands P (factorial (size parts)) m (size parts) (λ n. basis_polynomial basis parts n) c.terms) e s;
    }

-- let k be the size of `parts`: a value c with the denominator 1 and the degree k represents the atom of `parts` in the basis e, h or p (`ClearsTo`)
-- if its terms are k! times the product of e_j, h_j or p_j over `parts`, and the absolute values of their coefficients add up to at most `grown k`
pub family-atom : (P : ℕ → ℕ → Poly) (family : Family) (parts : List ℕ) (c : Node) → c.den ≡ 1 → c.degree ≡ size parts
    → Stands P (factorial (size parts)) (grown (size parts)) (size parts) (product_over (polynomial_of family) parts) c.terms → ClearsTo P (atom (basis_in family) parts) c
family-atom P Elementary parts c d g s = clears-atom P elementaries parts c d g s
family-atom P Complete parts c d g s = clears-atom P completes parts c d g s
family-atom P PowerSum parts c d g s = clears-atom P power_sums parts c d g s

pub large-atom : (basis : Basis) (parts : List ℕ) → 2 ^ 127 ≤ grown (size parts) → 2 ^ 127 ≤ weight Basis.completes (atom basis parts)
large-atom basis parts h = let e : 1 * 1 * grown (size parts) ≡ grown (size parts) = omega arith in omega arith
