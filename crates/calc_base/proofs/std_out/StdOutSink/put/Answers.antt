use Rattle.std.specs.Io.Buffered.{writer_inner, writer_buffer}
use Rattle.calc_base.proofs.Memory.{appends_known}
use Rattle.calc_base.proofs.std_out.StdOutSink.put.Goals as goal

pub returns-then-write_whole-clause-ok : goal.returns-then-write_whole-clause-ok
returns-then-write_whole-clause-ok g c =
    let contents = g.W.Write.contents in
    let old = c.self.inside.writer in
    let new = c.write_whole.new.writer in
    rw (← c.self.view_is) (appends_known (contents (writer_inner old)) (contents (writer_inner new))
    (writer_buffer old) (writer_buffer new) _ _ _ _ _
    (g.met.W.SteadyWrite.steady (writer_inner old) (writer_inner new)) c.if-write_whole.ensures.whole)

pub returns-clause-err : goal.returns-clause-err
returns-clause-err g c =
    let contents = g.W.Write.contents in
    let old = c.self.inside.writer in
    let new = c.write_whole.new.writer in
    let part = c.if-write_whole.ensures.part in
    rw (← c.self.view_is) (record {
      front = part.0;
      is_prefix = part.1;
      appends = appends_known (contents (writer_inner old)) (contents (writer_inner new))
          (writer_buffer old) (writer_buffer new) _ _ _ _ _
          (g.met.W.SteadyWrite.steady (writer_inner old) (writer_inner new)) part.2;
    })
