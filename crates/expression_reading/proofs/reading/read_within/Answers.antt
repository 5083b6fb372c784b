use Rattle.expression_reading.proofs.JudgeFacts.{result-low}
use Rattle.expression_reading.proofs.reading.read_within.Goals as goal

pub returns-in-Ok-clause-low : goal.returns-in-Ok-clause-low
returns-in-Ok-clause-low c = result-low c.args.limit c.args.word.now c.judged.result
    c.judged.ensures
