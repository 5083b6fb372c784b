use Rattle.std.proofs.Common.{◌≡◌, map, ap, refl}
use Rattle.std.specs.Prelude.{string_bytes}
use Rattle.calc_app.proofs.Ends.{Ran, task_is, put_ran, lines_ran, kept_told}
use Rattle.calc_app.proofs.WorkSums.{work_ran, seed_within}
use Rattle.calc_app.proofs.top.run.Given.{Over}
use Rattle.calc_app.proofs.top.run.Goals as goal

lines : (g : Over) (c : goal.After-batch g) → Ran (map string_bytes c.args.words.now)
    (g.K.Sink.seen c.args.sink.now) (g.K.Sink.seen c.batch.new.sink)
    (g.S.Source.seen c.args.source.now) (g.S.Source.seen c.batch.new.source)
    (c.batch.new.sink ≡ c.args.sink.now)
    c.batch.result
lines g c = lines_ran (map string_bytes c.args.words.now) (g.K.Sink.seen c.args.sink.now)
    (g.K.Sink.seen c.batch.new.sink) (g.S.Source.seen c.args.source.now)
    (g.S.Source.seen c.batch.new.source) (c.batch.new.sink ≡ c.args.sink.now) c.batch.result
    (task_is c.in-Ok-Lines.field-0-is c.in-Ok-Lines.ensures.computes c.in-Ok-Lines.ensures.accepts
    c.in-Ok-Lines.ensures.refuses
    c.in-Ok-Lines.ensures.goes_wrong) c.batch.ensures

pub returns-in-Ok-Lines-clause-headline : goal.returns-in-Ok-Lines-clause-headline
returns-in-Ok-Lines-clause-headline g c = (lines g c).headline

pub returns-in-Ok-Lines-clause-lines : goal.returns-in-Ok-Lines-clause-lines
returns-in-Ok-Lines-clause-lines g c = (lines g c).lines

pub returns-in-Ok-Lines-clause-cut : goal.returns-in-Ok-Lines-clause-cut
returns-in-Ok-Lines-clause-cut g c = (lines g c).cut

pub returns-in-Ok-Lines-clause-leaves : goal.returns-in-Ok-Lines-clause-leaves
returns-in-Ok-Lines-clause-leaves g c = (lines g c).leaves

pub returns-in-Ok-Lines-clause-answers : goal.returns-in-Ok-Lines-clause-answers
returns-in-Ok-Lines-clause-answers g c = (lines g c).answers

pub returns-in-Ok-Lines-clause-faults : goal.returns-in-Ok-Lines-clause-faults
returns-in-Ok-Lines-clause-faults g c = (lines g c).faults

pub returns-in-Ok-Lines-clause-all_read : goal.returns-in-Ok-Lines-clause-all_read
returns-in-Ok-Lines-clause-all_read g c = (lines g c).all_read

put : (g : Over) (c : goal.After-put_outcome g) → Ran (map string_bytes c.args.words.now)
    (g.K.Sink.seen c.args.sink.now) (g.K.Sink.seen c.put_outcome.new.sink)
    (g.S.Source.seen c.args.source.now) (g.S.Source.seen c.args.source.now)
    (c.put_outcome.new.sink ≡ c.args.sink.now)
    c.put_outcome.result
put g c = put_ran (map string_bytes c.args.words.now) (g.K.Sink.seen c.args.sink.now)
    (g.K.Sink.seen c.put_outcome.new.sink) (g.S.Source.seen c.args.source.now)
    (c.put_outcome.new.sink ≡ c.args.sink.now) c.in-Ok-Put.outcome c.put_outcome.result
    (task_is c.in-Ok-Put.field-0-is c.in-Ok-Put.ensures.computes c.in-Ok-Put.ensures.accepts
    c.in-Ok-Put.ensures.refuses
    c.in-Ok-Put.ensures.goes_wrong) c.put_outcome.ensures

pub returns-in-Ok-Put-clause-headline : goal.returns-in-Ok-Put-clause-headline
returns-in-Ok-Put-clause-headline g c = (put g c).headline

pub returns-in-Ok-Put-clause-lines : goal.returns-in-Ok-Put-clause-lines
returns-in-Ok-Put-clause-lines g c = (put g c).lines

pub returns-in-Ok-Put-clause-cut : goal.returns-in-Ok-Put-clause-cut
returns-in-Ok-Put-clause-cut g c = (put g c).cut

pub returns-in-Ok-Put-clause-leaves : goal.returns-in-Ok-Put-clause-leaves
returns-in-Ok-Put-clause-leaves g c = (put g c).leaves

pub returns-in-Ok-Put-clause-answers : goal.returns-in-Ok-Put-clause-answers
returns-in-Ok-Put-clause-answers g c = (put g c).answers

pub returns-in-Ok-Put-clause-faults : goal.returns-in-Ok-Put-clause-faults
returns-in-Ok-Put-clause-faults g c = (put g c).faults

pub returns-in-Ok-Put-clause-all_read : goal.returns-in-Ok-Put-clause-all_read
returns-in-Ok-Put-clause-all_read g c = (put g c).all_read

worked : (g : Over) (c : goal.After-work g) → Ran (map string_bytes c.args.words.now)
    (g.K.Sink.seen c.args.sink.now) (g.K.Sink.seen c.work.new.sink)
    (g.S.Source.seen c.args.source.now) (g.S.Source.seen c.args.source.now)
    (c.work.new.sink ≡ c.args.sink.now)
    c.work.result
worked g c = work_ran (map string_bytes c.args.words.now) (g.K.Sink.seen c.args.sink.now)
    (g.K.Sink.seen c.work.new.sink) (g.S.Source.seen c.args.source.now)
    (c.work.new.sink ≡ c.args.sink.now) c.in-Ok-Workload.lines c.in-Ok-Workload.seed c.work.result
    (ap g.K.Sink.seen)
    (task_is c.in-Ok-Workload.field-0-is c.in-Ok-Workload.ensures.computes
    c.in-Ok-Workload.ensures.accepts c.in-Ok-Workload.ensures.refuses
    c.in-Ok-Workload.ensures.goes_wrong) c.work.ensures

pub returns-in-Ok-Workload-clause-headline : goal.returns-in-Ok-Workload-clause-headline
returns-in-Ok-Workload-clause-headline g c = (worked g c).headline

pub returns-in-Ok-Workload-clause-lines : goal.returns-in-Ok-Workload-clause-lines
returns-in-Ok-Workload-clause-lines g c = (worked g c).lines

pub returns-in-Ok-Workload-clause-cut : goal.returns-in-Ok-Workload-clause-cut
returns-in-Ok-Workload-clause-cut g c = (worked g c).cut

pub returns-in-Ok-Workload-clause-leaves : goal.returns-in-Ok-Workload-clause-leaves
returns-in-Ok-Workload-clause-leaves g c = (worked g c).leaves

pub returns-in-Ok-Workload-clause-answers : goal.returns-in-Ok-Workload-clause-answers
returns-in-Ok-Workload-clause-answers g c = (worked g c).answers

pub returns-in-Ok-Workload-clause-faults : goal.returns-in-Ok-Workload-clause-faults
returns-in-Ok-Workload-clause-faults g c = (worked g c).faults

pub returns-in-Ok-Workload-clause-all_read : goal.returns-in-Ok-Workload-clause-all_read
returns-in-Ok-Workload-clause-all_read g c = (worked g c).all_read

pub returns-in-Ok-Lines-clause-untouched : goal.returns-in-Ok-Lines-clause-untouched
returns-in-Ok-Lines-clause-untouched g c = λ runs_none.
    absurd (runs_none (task_is c.in-Ok-Lines.field-0-is c.in-Ok-Lines.ensures.computes
    c.in-Ok-Lines.ensures.accepts c.in-Ok-Lines.ensures.refuses
    c.in-Ok-Lines.ensures.goes_wrong).computes)

pub work-requires : goal.work-requires
work-requires g c = seed_within (map string_bytes c.args.words.now) c.in-Ok-Workload.lines
    c.in-Ok-Workload.seed (task_is c.in-Ok-Workload.field-0-is c.in-Ok-Workload.ensures.computes
    c.in-Ok-Workload.ensures.accepts c.in-Ok-Workload.ensures.refuses
    c.in-Ok-Workload.ensures.goes_wrong).computes

pub returns-in-Ok-Lines-clause-told : goal.returns-in-Ok-Lines-clause-told
returns-in-Ok-Lines-clause-told g c =
    kept_told _ _ _ c.batch.result (lines g c).leaves (ap g.K.Sink.seen) c.batch.ensures.told

pub returns-in-Ok-Put-clause-told : goal.returns-in-Ok-Put-clause-told
returns-in-Ok-Put-clause-told g c =
    kept_told _ _ _ c.put_outcome.result (put g c).leaves (ap g.K.Sink.seen) refl

pub returns-in-Ok-Workload-clause-told : goal.returns-in-Ok-Workload-clause-told
returns-in-Ok-Workload-clause-told g c =
    kept_told _ _ _ c.work.result (worked g c).leaves (ap g.K.Sink.seen) refl
