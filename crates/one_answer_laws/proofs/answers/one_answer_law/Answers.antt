use Rattle.sym_model.specs.Kind.{label_rules}
use Rattle.printing_laws.proofs.LabelOrders.{label_order-total}
use Rattle.independence_laws.proofs.GoodLists.{canonical-once}
use Rattle.one_answer_laws.proofs.OneAnswer.{one_answer, one_text}
use Rattle.one_answer_laws.proofs.answers.one_answer_law.Goals as goal

pub returns-clause-labels : goal.returns-clause-labels
returns-clause-labels c kind terms h = canonical-once (label_rules kind) (label_order-total kind) terms h

pub returns-clause-answer : goal.returns-clause-answer
returns-clause-answer c = one_answer

pub returns-clause-text : goal.returns-clause-text
returns-clause-text c = one_text
