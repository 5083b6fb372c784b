use Rattle.std.proofs.Common.{rules}
use Rattle.linear_combinations.proofs.Steps.{if_answered}
use Rattle.product_laws.proofs.FusionSteps.{fusion_steps_answer}
use Rattle.rim_hooks.proofs.FusionSteps.{fusion_none}
use Rattle.rim_hooks.proofs.fusion_product.fusion.Goals as goal

pub returns-then-has_long-clause-steps : goal.returns-then-has_long-clause-steps
returns-then-has_long-clause-steps c = search (rules, if_answered, fusion_none)

pub reflected_in_steps-requires-clause-few : goal.reflected_in_steps-requires-clause-few
reflected_in_steps-requires-clause-few c = c.has_long.ensures.few c.if-has_long.false

pub returns-clause-steps : goal.returns-clause-steps
returns-clause-steps c = c.reflected_in_steps.ensures.steps

pub returns-clause-meets : goal.returns-clause-meets
returns-clause-meets c = search (rules, if_answered, fusion_steps_answer)

pub returns-clause-large : goal.returns-clause-large
returns-clause-large c err = c.reflected_in_steps.ensures.large err

pub returns-then-has_long-clause-meets : goal.returns-then-has_long-clause-meets
returns-then-has_long-clause-meets c = search (rules, if_answered, fusion_steps_answer, fusion_none)
