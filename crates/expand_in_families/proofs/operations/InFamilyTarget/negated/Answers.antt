use Rattle.std.proofs.Common.{refl, ap, subst, Err, negsuc, ◌≡◌}
use Rattle.sym_model.specs.Expression.{negation}
use Rattle.sym_model.specs.Polynomial.{Same, scale}
use Rattle.sparse_polys.specs.Large.{HasLarge}
use Rattle.sparse_polys.proofs.TableSums.{Same-multiple, large_product}
use Rattle.basis_expand.proofs.Making.{failed, done}
use Rattle.sparse_polys.specs.Families.{polynomial_of}
use Rattle.expand_in_families.specs.Nodes.{ClearsTo, IsHeavyInFamilies}
use Rattle.expand_in_families.proofs.Nodes.{clears-negation, large-negation}
use Rattle.expand_in_families.proofs.operations.InFamilyTarget.negated.Goals as goal

pub returns-in_err-terms : goal.returns-in_err-terms
returns-in_err-terms c e t h =
    failed (ClearsTo (polynomial_of c.args.self.now.family)) IsHeavyInFamilies (negation e) _ _
    c.from_residual.ensures.0 c.from_residual.ensures.1
    (λ large.
    let refused = c.in_err-terms.ensures.large.0 (ap Err large) in
    let q : c.new.result ≡ negsuc 0 = c.new.ensures in
    large-negation (polynomial_of c.args.self.now.family) e c.args.inner t.plain h
    (subst (λ z. HasLarge (scale z c.args.inner.terms)) q
    (large_product c.args.inner.terms c.new.result c.args.inner.table refused)))

pub returns : goal.returns
returns c e t h =
    let q : c.new.result ≡ negsuc 0 = c.new.ensures in
    done (ClearsTo (polynomial_of c.args.self.now.family)) IsHeavyInFamilies (negation e) _
    (clears-negation (polynomial_of c.args.self.now.family) e c.args.inner _ refl refl
    (subst (λ z. Same c.in_ok-terms.terms (scale z c.args.inner.terms)) q
    (Same-multiple c.args.inner.terms c.in_ok-terms.terms c.new.result c.args.inner.table
    c.in_ok-terms.ensures.combination c.in_ok-terms.ensures.product))
    h)
