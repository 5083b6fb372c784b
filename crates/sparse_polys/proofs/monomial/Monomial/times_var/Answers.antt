use Rattle.std.proofs.Common.{◌≡◌, ◌+◌, ◌-◌, subst, sym, ap, ◌∙◌, arith}
use Rattle.sym_model.specs.Partition.{size}
use Rattle.sparse_polys.specs.Limits.{HasDegree}
use Rattle.sparse_polys.specs.Raised.{raised}
use Rattle.sparse_polys.proofs.Raising.{HasDegree-raised}
use Rattle.sparse_polys.proofs.monomial.Monomial.times_var.Goals as goal

pub invariant_of-result : goal.invariant_of-result
invariant_of-result c =
    let old = c.in_ok-exponents.exponents.items in
    let e : c.from.result - 1 + 1 ≡ c.args.r = omega arith in
    let was : c.in_ok-exponents.exponents.items ≡ c.self.inside.exponents.items =
    c.in_ok-exponents.ensures.ok ∙ c.exponents.ensures.value ∙ sym c.self.view_is in
    let new : c.raise.new.exponents.items ≡ raised c.args.r c.self.inside.exponents.items =
    c.in_ok-raise.ensures ∙ ap (λ r. raised r c.in_ok-exponents.exponents.items) e
    ∙ ap (raised c.args.r) was in
    let room = ap size c.self.view_is in
    subst (λ x. HasDegree x (c.self.inside.degree + 1)) (sym new)
    (HasDegree-raised c.args.r c.self.inside.exponents.items c.self.inside.degree c.self.invariant
    (omega arith) (omega arith) (omega arith))
