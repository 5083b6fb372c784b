use Rattle.std.proofs.Common.{◌≡◌, Bool, length, sym, ap, ◌∙◌, arith, Result, Ok, Err}
use Rattle.std.specs.Prelude.{IfOk}
use Rattle.calc_base.specs.declared.faults.NoMemory.{NoMemory}
use Rattle.skew_shapes.proofs.CellCounts.{length-cells}
use Rattle.tableau_iter.specs.LatticeWords.{is_lattice_word}
use Rattle.tableau_iter.proofs.Membership.{none_disordered, lattice_listed}
use Rattle.tableau_iter.proofs.lattice_words.is_listed.Goals as goal

pub is_lattice-requires : goal.is_lattice-requires
is_lattice-requires c =
    let skew = c.outer.ensures.limits in
    omega (arith, c.requires, length-cells c.args.shape.0 c.args.shape.1 skew, skew.outside.small)

pub returns-then-not-branch : goal.returns-then-not-branch
returns-then-not-branch c =
    let skew = c.outer.ensures.limits in
    sym (none_disordered c.args.shape.0 c.args.shape.1 c.args.reading.now
    skew.outside.partition.falls skew.holds (sym c.in_ok-is_semistandard.ensures
    ∙ c.if-not-branch.true))

told : (r : Result Bool NoMemory) (a b : Bool) → a ≡ b → IfOk r (λ x. x ≡ a) → IfOk r (λ x. x ≡ b)
told (Ok x) a b e h = h ∙ e
told (Err f) a b e h = tt

pub returns : goal.returns
returns c =
    let skew = c.outer.ensures.limits in
    told c.is_lattice.result _ _
    (ap (λ k. is_lattice_word k c.args.reading.now) (c.rows-letters.ensures.value
    ∙ ap length c.outer.ensures.value)
    ∙ lattice_listed c.args.shape.0 c.args.shape.1 c.args.reading.now skew.outside.partition.falls
    skew.inside.partition.falls skew.holds c.requires
    (sym c.in_ok-is_semistandard.ensures ∙ c.if-not-branch.false))
    c.is_lattice.ensures
