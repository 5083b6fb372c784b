use Rattle.std.proofs.Common.{rules, ◌≡◌, ◌++◌, take, drop, subst, arith}
use Rattle.std.specs.Io.KnownBytes.{Consumes}
use Rattle.std.proofs.lemmas.Grind.{common_steps}
use Rattle.calc_base.proofs.Written.{taken_as, kept_as}
use Rattle.calc_base.proofs.std_in.StdInSource.take.Goals as goal

pub returns-in-Ok-clause-ok : goal.returns-in-Ok-clause-ok
returns-in-Ok-clause-ok g c =
    let rest = drop c.min-most.result c.args.buf.now in
    let bound = c.in-Ok.ensures.bound in
    let front : take c.in-Ok.count c.read.new.buf ≡ take c.in-Ok.count (c.read.new.buf ++ rest) =
    grind (arith, common_steps, bound) in
    let remaining = g.R.Read.remaining in
    record {
      fits = search rules;
      given =
          rw (← c.self.view_is) (taken_as (remaining c.self.inside.reader) (remaining c.read.new.self) _
          (g.met.R.SteadyRead.steady c.self.inside.reader c.read.new.self)
          (subst (Consumes (remaining c.self.inside.reader) (remaining c.read.new.self)) front
          c.in-Ok.ensures.bytes.0));
      ended = search rules;
    }

pub returns-clause-err : goal.returns-clause-err
returns-clause-err g c =
    kept_as _ _ (g.met.R.SteadyRead.steady c.args.self.now.reader c.if-self-gt0.self-inside.reader)
    (search rules)
