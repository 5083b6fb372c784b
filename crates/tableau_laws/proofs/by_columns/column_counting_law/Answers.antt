use Rattle.std.proofs.Common.{refl}
use Rattle.tableau_laws.proofs.ColumnSums.{over_columns-last}
use Rattle.tableau_laws.proofs.ColumnCounts.{total_readings_by_columns, product_count-columns}
use Rattle.tableau_laws.proofs.ColumnCounts.{skew_count-columns}
use Rattle.tableau_laws.proofs.by_columns.column_counting_law.Goals as goal

pub returns-clause-readings : goal.returns-clause-readings
returns-clause-readings c = total_readings_by_columns

pub returns-clause-product : goal.returns-clause-product
returns-clause-product c = product_count-columns

pub returns-clause-skew : goal.returns-clause-skew
returns-clause-skew c = skew_count-columns

pub returns-clause-rightmost : goal.returns-clause-rightmost
returns-clause-rightmost c = over_columns-last

pub returns-clause-example : goal.returns-clause-example
returns-clause-example c = refl
