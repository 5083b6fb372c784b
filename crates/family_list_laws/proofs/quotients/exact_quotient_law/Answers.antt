use Rattle.family_list_laws.proofs.PartQuotients.{orders-whole, sized-whole, cycles-whole}
use Rattle.family_list_laws.proofs.quotients.exact_quotient_law.Goals as goal

pub returns-clause-orders : goal.returns-clause-orders
returns-clause-orders c = orders-whole

pub returns-clause-sized : goal.returns-clause-sized
returns-clause-sized c = sized-whole

pub returns-clause-cycles : goal.returns-clause-cycles
returns-clause-cycles c = cycles-whole
