use Rattle.std.proofs.KnownBytes.{Appends-nil, Appends-kept}
use Rattle.std.specs.Io.Buffered.{writer_inner, writer_buffer}
use Rattle.calc_base.proofs.Memory.{appends_known}
use Rattle.calc_base.proofs.std_out.StdOutSink.finish.Goals as goal

pub returns-then-self-clause-same : goal.returns-then-self-clause-same
returns-then-self-clause-same g c =
    let contents = g.W.Write.contents in
    let old = c.self.inside.writer in
    let new = c.flush.new.self in
    rw (← c.self.view_is) (appends_known (contents (writer_inner old)) (contents (writer_inner new))
    (writer_buffer old) (writer_buffer new) _ _ _ _ _
    (g.met.W.SteadyWrite.steady (writer_inner old) (writer_inner new))
    (Appends-kept _ _ _ _ (Appends-nil _) c.flush.ensures.bytes))

pub returns-clause-same : goal.returns-clause-same
returns-clause-same g c =
    let contents = g.W.Write.contents in
    let old = c.self.inside.writer in
    let new = c.flush.new.self in
    rw (← c.self.view_is) (appends_known (contents (writer_inner old)) (contents (writer_inner new))
    (writer_buffer old) (writer_buffer new) _ _ _ _ _
    (g.met.W.SteadyWrite.steady (writer_inner old) (writer_inner new))
    (Appends-kept _ _ _ _ (Appends-nil _) c.flush.ensures.bytes))
