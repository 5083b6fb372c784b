use Rattle.std.proofs.Common.{List, ℕ, subst, rules}
use Rattle.sym_model.specs.Bases.{product_over}
use Rattle.sym_model.specs.Expansion.{schurs, IsExpansionOf}
use Rattle.sym_model.specs.Partition.{size}
use Rattle.sparse_polys.proofs.WholeLists.{if_ok_both}
use Rattle.strip_rules.specs.FamilyShapes.{polynomial_by}
use Rattle.strip_rules.proofs.BeadSums.{in_twenty, shapes_expansion}
use Rattle.strip_rules.proofs.family_products.product_by.Goals as goal

pub in_partitions-requires-clause-within : goal.in_partitions-requires-clause-within
in_partitions-requires-clause-within c = search (rules, in_twenty)

pub returns-clause-value : goal.returns-clause-value
returns-clause-value c =
    if_ok_both c.in_partitions.result c.in_partitions.ensures.value c.in_partitions.ensures.table
    (λ list quotients table n.
    subst (λ (l : List ℕ). IsExpansionOf schurs list n
    (product_over (polynomial_by c.args.strip) l n) 1) c.parts.ensures.value
    (shapes_expansion (product_over (polynomial_by c.args.strip) c.parts.result.now)
    (size c.parts.result.now) c.in_ok-shapes.shapes list
    c.in_ok-shapes.ensures.value table quotients n))
