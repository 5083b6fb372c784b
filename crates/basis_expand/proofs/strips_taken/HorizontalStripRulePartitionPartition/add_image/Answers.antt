use Rattle.std.proofs.Common.{◌≡◌, List, ℕ, ℤ, rules}
use Rattle.linear_combinations.specs.Gains.{scaled, each_with}
use Rattle.schur_laws.specs.Kostka.{strips_off}
use Rattle.basis_expand.specs.Strips.{strips}
use Rattle.basis_expand.proofs.StripTables.{scaled-strips}
use Rattle.basis_expand.proofs.strips_taken.HorizontalStripRulePartitionPartition.add_image.Goals as goal
use Rattle.std.proofs.lemmas.Result.{on_ok_weaker}

left_of : (c : ℤ) (k : ℕ) (shape rows : List ℕ) (left : List (List ℕ)) → rows ≡ shape →
    left ≡ strips_off k rows
    → each_with c left ≡ scaled c (strips k shape)
left_of c k shape rows left r e = search (rules, scaled-strips)

pub returns-clause-gains : goal.returns-clause-gains
returns-clause-gains c = search (rules, on_ok_weaker, left_of)

pub returns-clause-large : goal.returns-clause-large
returns-clause-large c = search (rules, left_of)
