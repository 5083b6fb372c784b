use Rattle.std.proofs.Common.{sym, ap, ◌∙◌, subst}
use Rattle.batch_lines.specs.Feeds.{HasNoFeed}
use Rattle.batch_lines.specs.Reading.{Reading}
use Rattle.batch_lines.proofs.Parts.{found_feed}
use Rattle.batch_lines.proofs.reader.LineReader.has_line.Goals as goal

pub returns-clause-some : goal.returns-clause-some
returns-clause-some c = λ some none.
    found_feed c.front.result.now c.first_feed.result c.first_feed.ensures
    (sym c.is_some.ensures ∙ some)
    (subst HasNoFeed (sym (ap (λ (r : Reading). r.pending) c.self.view_is)
    ∙ sym c.front.ensures.bytes) none)
