-- Tables whose labels are pairs of partitions: two labels are equal if their first partitions are equal and their second partitions are equal.
use Rattle.std.proofs.Common.{rules}
use Rattle.std.specs.Cmp.{IsEquivalence}
use Rattle.basis_change.specs.AugmentedProducts.{equal}

pub label_laws : IsEquivalence equal
label_laws = search rules
