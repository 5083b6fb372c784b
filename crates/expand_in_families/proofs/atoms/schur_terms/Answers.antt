use Rattle.std.proofs.Common.{◌≤◌, ◌^◌, ap, ◌∙◌, subst, arith}
use Rattle.sym_model.specs.Expansion.{completes}
use Rattle.sym_model.specs.Partition.{size}
use Rattle.sym_model.specs.Weight.{growth}
use Rattle.sym_model.proofs.Conjugates.{size-conjugate}
use Rattle.sparse_polys.specs.Families.{polynomial_of}
use Rattle.expand_in_families.proofs.PeelingSteps.{conjugate-list}
use Rattle.expand_in_families.proofs.atoms.schur_terms.Goals as goal

pub schur_list-requires-clause-low : goal.schur_list-requires-clause-low
schur_list-requires-clause-low c =
    let e = ap size c.in_ok-shape.ensures.ok ∙ size-conjugate c.args.label.now
    c.requires.partition.falls in
    let low = c.requires.low in
    omega arith

pub returns-then-is_by_columns-clause-value : goal.returns-then-is_by_columns-clause-value
returns-then-is_by_columns-clause-value c = conjugate-list (polynomial_of c.args.target)
    c.args.label.now c.in_ok-shape.shape c.schur_list.result c.requires.partition
    c.in_ok-shape.ensures.ok c.schur_list.ensures.value

pub returns-then-is_by_columns-clause-large : goal.returns-then-is_by_columns-clause-large
returns-then-is_by_columns-clause-large c err =
    subst (λ d. 2 ^ 127 ≤ growth completes d) (ap size c.in_ok-shape.ensures.ok ∙ size-conjugate
    c.args.label.now c.requires.partition.falls) (c.schur_list.ensures.large err)
