use Rattle.std.proofs.Common.{refl, sym, ap, Err, arith}
use Rattle.sym_model.specs.Expansion.{monomials}
use Rattle.sym_model.specs.Expression.{atom}
use Rattle.sym_model.specs.Partition.{size}
use Rattle.sparse_polys.specs.Families.{polynomial_of}
use Rattle.basis_change.proofs.Bounds.{same_growth}
use Rattle.basis_change.proofs.ChangedLists.{factor-family}
use Rattle.basis_expand.proofs.Making.{done, failed}
use Rattle.expand_in_families.proofs.AtomNodes.{clears-atom, large-atom}
use Rattle.expand_in_families.proofs.MonomialAtoms.{bounded-monomial, monomial-stands, multiplied}
use Rattle.expand_in_families.specs.Nodes.{ClearsTo, IsHeavyInFamilies}
use Rattle.expand_in_families.proofs.atoms.from_monomial.Goals as goal

pub in_family-requires-clause-sizes : goal.in_family-requires-clause-sizes
in_family-requires-clause-sizes c =
    rw (c.size-degree.ensures.value, sym c.parts.ensures.value) c.in_ok-list.ensures.labels

pub returns-in_err-terms : goal.returns-in_err-terms
returns-in_err-terms c =
    failed (ClearsTo (polynomial_of c.args.target)) IsHeavyInFamilies (atom monomials c.args.label.now)
    _ _ c.from_residual-in_err-terms.ensures.0 c.from_residual-in_err-terms.ensures.1
    (λ large.
    large-atom monomials c.args.label.now
    (let l = c.in_err-terms.ensures.large (ap Err large) 1
    (bounded-monomial c.args.label.now c.in_ok-list.list c.in_ok-list.ensures.table
    (rw c.parts.ensures.value at c.in_ok-list.ensures.value)) in
    let e = same_growth c.args.target (size c.args.label.now) in
    omega (arith, rw (c.size-degree.ensures.value, e) at l)))

pub returns : goal.returns
returns c =
    done (ClearsTo (polynomial_of c.args.target)) IsHeavyInFamilies (atom monomials c.args.label.now) _
    (clears-atom (polynomial_of c.args.target) monomials c.args.label.now _ refl
    c.size-degree.ensures.value
    (monomial-stands c.args.label.now c.in_ok-list.list c.in_ok-list.ensures.table
    (rw c.parts.ensures.value at c.in_ok-list.ensures.value) c.args.target c.in_ok-terms.terms
    c.in_ok-terms.ensures.table
    (rw c.size-degree.ensures.value at c.in_ok-terms.ensures.within (multiplied c.args.target))
    (rw (c.size-degree.ensures.value, factor-family c.args.target (size c.args.label.now))
    at c.in_ok-terms.ensures.value)
    (rw c.size-degree.ensures.value at c.in_ok-terms.ensures.few (multiplied c.args.target) 1
    (bounded-monomial c.args.label.now c.in_ok-list.list c.in_ok-list.ensures.table
    (rw c.parts.ensures.value at c.in_ok-list.ensures.value)))))
