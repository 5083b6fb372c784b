use Rattle.family_list_laws.proofs.OnePartLists.{elementary-list, complete-list}
use Rattle.family_list_laws.proofs.OnePartLists.{power-complete-list, power-elementary-list}
use Rattle.family_list_laws.proofs.OnePartLists.{elementary-power-list, complete-power-list}
use Rattle.family_list_laws.proofs.lists.one_part_list_law.Goals as goal

pub returns-clause-elementary : goal.returns-clause-elementary
returns-clause-elementary c = elementary-list

pub returns-clause-complete : goal.returns-clause-complete
returns-clause-complete c = complete-list

pub returns-clause-power_complete : goal.returns-clause-power_complete
returns-clause-power_complete c = power-complete-list

pub returns-clause-power_elementary : goal.returns-clause-power_elementary
returns-clause-power_elementary c = power-elementary-list

pub returns-clause-elementary_power : goal.returns-clause-elementary_power
returns-clause-elementary_power c = elementary-power-list

pub returns-clause-complete_power : goal.returns-clause-complete_power
returns-clause-complete_power c = complete-power-list
