use Rattle.std.proofs.Common.{refl}
use Rattle.strip_rules.proofs.ColumnArrangements.{column-strips, column-kept, column-raised}
use Rattle.strip_rules.proofs.ColumnArrangements.{column-lists}
use Rattle.strip_rules.proofs.ShapeCounts.{column-shapes}
use Rattle.strip_rules.proofs.columns.column_product_law.Goals as goal

pub returns-clause-strips : goal.returns-clause-strips
returns-clause-strips c = column-strips

pub returns-clause-kept : goal.returns-clause-kept
returns-clause-kept c = column-kept

pub returns-clause-raised : goal.returns-clause-raised
returns-clause-raised c = column-raised

pub returns-clause-lists : goal.returns-clause-lists
returns-clause-lists c = column-lists

pub returns-clause-two : goal.returns-clause-two
returns-clause-two c = refl

pub returns-clause-three : goal.returns-clause-three
returns-clause-three c = refl

pub returns-clause-shapes : goal.returns-clause-shapes
returns-clause-shapes c = column-shapes
