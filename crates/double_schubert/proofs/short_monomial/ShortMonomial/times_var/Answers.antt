use Rattle.std.proofs.Common.{◌≡◌, ◌+◌, ◌-◌, ◌<◌, length, append-nil, refl, sym, ap, ◌∙◌, inl, arith}
use Rattle.sym_model.specs.DividedDifference.{raised}
use Rattle.sym_model.specs.Partition.{size}
use Rattle.sym_model.proofs.Parts.{get_or-le-size}
use Rattle.sparse_polys.proofs.Raising.{set-raised}
use Rattle.double_schubert.proofs.short_monomial.ShortMonomial.times_var.Goals as goal

pub overflow_add-exponents : goal.overflow_add-exponents
overflow_add-exponents c =
    let s = get_or-le-size c.self.inside.exponents (c.from.result - 1) in
    let e = ap size c.self.view_is in
    let r = c.requires.room in
    omega arith

pub returns : goal.returns
returns c =
    let i = c.from.ensures in
    let first = c.requires.first in
    let last = c.requires.last in
    let long = c.self.invariant in
    let inside : c.from.result - 1 < length c.self.inside.exponents = omega arith in
    set-raised 0 (c.from.result - 1) c.args.self.now c.self.inside.exponents
    (c.self.view_is ∙ sym (append-nil c.args.self.now)) (inl refl) inside
    ∙ ap (λ j. raised j c.args.self.now) (let e : c.from.result - 1 + 1 ≡ c.args.i = omega arith in e)
