use Rattle.std.proofs.Common.{◌+◌, arith, rules}
use Rattle.linear_combinations.proofs.Steps.{if_answered}
use Rattle.product_laws.proofs.QuantumSteps.{quantum_steps_answer}
use Rattle.rim_hooks.proofs.AnyReductions.{any_whole_reductions}
use Rattle.rim_hooks.proofs.QuantumSteps.{quantum_none}
use Rattle.rim_hooks.proofs.quantum_product.quantum.Goals as goal

pub returns-then-has_long-clause-steps : goal.returns-then-has_long-clause-steps
returns-then-has_long-clause-steps c = search (rules, if_answered, quantum_none)

pub returns-then-has_long-clause-meets : goal.returns-then-has_long-clause-meets
returns-then-has_long-clause-meets c =
    search (rules, if_answered, quantum_steps_answer, quantum_none)

pub reduced_in_steps-requires-clause-few : goal.reduced_in_steps-requires-clause-few
reduced_in_steps-requires-clause-few c = c.has_long.ensures.few c.if-has_long.false

pub returns-clause-steps : goal.returns-clause-steps
returns-clause-steps c = c.reduced_in_steps.ensures.steps

pub returns-clause-meets : goal.returns-clause-meets
returns-clause-meets c = search (rules, if_answered, quantum_steps_answer)

pub returns-clause-large : goal.returns-clause-large
returns-clause-large c err = c.reduced_in_steps.ensures.large err

pub returns-then-has_long-clause-only : goal.returns-then-has_long-clause-only
returns-then-has_long-clause-only c =
    let some = c.requires.variables.0 in
    if_answered c.no_terms.result (returns-then-has_long-clause-meets c)
    (λ terms meets reductions reduce.
    any_whole_reductions c.args.rows (c.args.rows + c.args.cols) c.args.factors.now terms
    reductions (omega arith) reduce meets)

pub returns-clause-only : goal.returns-clause-only
returns-clause-only c =
    let some = c.requires.variables.0 in
    if_answered c.reduced_in_steps.result (returns-clause-meets c)
    (λ terms meets reductions reduce.
    any_whole_reductions c.args.rows (c.args.rows + c.args.cols) c.args.factors.now terms
    reductions (omega arith) reduce meets)
