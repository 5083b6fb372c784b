use Rattle.std.proofs.Common.{◌≢◌, map, rules, tests}
use Rattle.calc_base.specs.declared.words.WordsFault.TheVariants as fault
use Rattle.std.specs.Prelude.{string_bytes}
use Rattle.calc_language.specs.Reading.{command_of}
use Rattle.calc_replies.proofs.Replies.{task_reply, accepts_task, refused_by, refused_at}
use Rattle.calc_replies.proofs.outcome.task_of.Goals as goal

pub returns-in-Ok-clause-computes : goal.returns-in-Ok-clause-computes
returns-in-Ok-clause-computes c =
    task_reply (map string_bytes c.args.words.now) (command_of c.in-Ok.command)
    c.task_for-task.result c.in-Ok.ensures.read.0 c.task_for-task.ensures

pub returns-in-Ok-clause-accepts : goal.returns-in-Ok-clause-accepts
returns-in-Ok-clause-accepts c = λ command spelled.
    accepts_task (command_of c.in-Ok.command) c.task_for-task.result command c.task_for-task.ensures
    (c.in-Ok.ensures.accepts command spelled)

pub returns-in-Ok-clause-refuses : goal.returns-in-Ok-clause-refuses
returns-in-Ok-clause-refuses c = λ offence first. absurd (c.in-Ok.ensures.refuses offence first)

pub returns-in-Ok-clause-goes_wrong : goal.returns-in-Ok-clause-goes_wrong
returns-in-Ok-clause-goes_wrong c = λ word byte place.
    absurd (c.in-Ok.ensures.goes_wrong word byte place)

pub returns-in-Err : goal.returns-in-Err
returns-in-Err c =
    let memory : c.in-Err.fault ≢ fault.NoMemory = search (rules, tests) in
    record {
      computes = (c.in-Err.ensures.read, memory);
      accepts = λ command spelled. absurd (memory (c.in-Err.ensures.accepts command spelled));
      refuses = λ offence first. refused_by offence c.in-Err.fault memory
          (c.in-Err.ensures.refuses offence first);
      goes_wrong = λ word byte place. refused_at word byte c.in-Err.fault memory
          (c.in-Err.ensures.goes_wrong word byte place);
    }
