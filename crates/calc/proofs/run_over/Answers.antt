use Rattle.std.proofs.Common.{◌≡◌, true, inl, inr, map, string_bytes, subst}
use Rattle.calc_app.specs.Top.{PrintsAnswerTo, PrintsLines, RunsLines, IsOutcome, Leaves}
use Rattle.calc_base.specs.Edge.{intake_seen, outlet_seen, is_handed_on}
use Rattle.calc_base.specs.declared.status.Status.{Status}
use Rattle.calc_base.specs.declared.status.Status.TheVariants.{Done, SomeRefused}
use Rattle.calc.proofs.HandedOn.{handed_on}
use Rattle.calc.proofs.run_over.Given.{Over}
use Rattle.calc.proofs.run_over.Goals as goal

left_by : (g : Over) (c : goal.After-run g) (answer : Status) → c.run.result ≡ answer
    → Leaves (outlet_seen g.W.Write.contents c.args.sink.now)
    (outlet_seen g.W.Write.contents c.run.new.sink)
    (intake_seen g.R.Read.remaining c.args.source.now)
    (intake_seen g.R.Read.remaining c.run.new.source) (c.run.new.sink ≡ c.args.sink.now)
    (RunsLines (map string_bytes c.args.words.now)) (IsOutcome (map string_bytes c.args.words.now))
    answer
left_by g c answer is =
    subst (Leaves (outlet_seen g.W.Write.contents c.args.sink.now)
    (outlet_seen g.W.Write.contents c.run.new.sink)
    (intake_seen g.R.Read.remaining c.args.source.now)
    (intake_seen g.R.Read.remaining c.run.new.source) (c.run.new.sink ≡ c.args.sink.now)
    (RunsLines (map string_bytes c.args.words.now)) (IsOutcome (map string_bytes c.args.words.now)))
    is c.run.ensures.leaves

pub returns-clause-headline : goal.returns-clause-headline
returns-clause-headline g c = λ done before told.
    let settled = (left_by g c Done done).is_settled in
    subst (PrintsAnswerTo (map string_bytes c.args.words.now) before
    (g.R.Read.remaining c.args.source.now.reader))
    (handed_on g.W.Write.contents c.run.new.sink settled) (c.run.ensures.headline done before told)

pub returns-clause-lines : goal.returns-clause-lines
returns-clause-lines g c = λ runs through before told.
    let settled : is_handed_on c.run.new.sink ≡ true =
    elim through [
      | inl done ↦ (left_by g c Done done).is_settled
      | inr refused ↦
          (left_by g c SomeRefused refused).1.is_settled
    ] in
    subst (PrintsLines before (g.R.Read.remaining c.args.source.now.reader))
    (handed_on g.W.Write.contents c.run.new.sink settled) (c.run.ensures.lines runs through before
    told)
