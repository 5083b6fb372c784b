use Rattle.beta_list_laws.proofs.Ends.{goes_to_end, goes_end, goes_sign, goes_power, goes_cells}
use Rattle.beta_list_laws.proofs.Ends.{goes_partition, goes_rows, reduces_by_remainders}
use Rattle.beta_list_laws.proofs.Ends.{reduces_only}
use Rattle.beta_list_laws.proofs.removals.removals_end_law.Goals as goal

pub returns-clause-goes : goal.returns-clause-goes
returns-clause-goes c = goes_to_end

pub returns-clause-end : goal.returns-clause-end
returns-clause-end c = goes_end

pub returns-clause-sign : goal.returns-clause-sign
returns-clause-sign c = goes_sign

pub returns-clause-power : goal.returns-clause-power
returns-clause-power c = goes_power

pub returns-clause-cells : goal.returns-clause-cells
returns-clause-cells c = goes_cells

pub returns-clause-partition : goal.returns-clause-partition
returns-clause-partition c = goes_partition

pub returns-clause-rows : goal.returns-clause-rows
returns-clause-rows c = goes_rows

pub returns-clause-reduces : goal.returns-clause-reduces
returns-clause-reduces c = reduces_by_remainders

pub returns-clause-only : goal.returns-clause-only
returns-clause-only c = reduces_only
