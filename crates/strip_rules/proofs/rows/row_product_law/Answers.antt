use Rattle.std.proofs.Common.{refl}
use Rattle.strip_rules.proofs.Placings.{placings-hold, placings-first, placings-next}
use Rattle.strip_rules.proofs.Placings.{placings-lists}
use Rattle.strip_rules.proofs.ShapeCounts.{row-shapes}
use Rattle.strip_rules.proofs.rows.row_product_law.Goals as goal

pub returns-clause-contained : goal.returns-clause-contained
returns-clause-contained c = placings-hold

pub returns-clause-first : goal.returns-clause-first
returns-clause-first c = placings-first

pub returns-clause-next : goal.returns-clause-next
returns-clause-next c = placings-next

pub returns-clause-lists : goal.returns-clause-lists
returns-clause-lists c = placings-lists

pub returns-clause-two : goal.returns-clause-two
returns-clause-two c = refl

pub returns-clause-square : goal.returns-clause-square
returns-clause-square c = refl

pub returns-clause-shapes : goal.returns-clause-shapes
returns-clause-shapes c = row-shapes
