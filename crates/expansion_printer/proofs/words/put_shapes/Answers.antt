use Rattle.std.proofs.Common.{ap, map, take_all}
use Rattle.std.specs.Prelude.{codes}
use Rattle.expansion_printer.proofs.GatheringLaws.{Gathers-then, Gathers-as, Gathers-nothing}
use Rattle.sym_model.specs.NumberText.{label_text}
use Rattle.sym_model.specs.TableauText.{separated}
use Rattle.expansion_printer.proofs.Texts.{texts-more}
use Rattle.expansion_printer.proofs.words.put_shapes.Goals as goal

pub loop-at-init : goal.loop-at-init
loop-at-init g c = Gathers-nothing c.args.text.now (g.K.Sink.seen c.args.sink.now)

pub loop-at-preserved : goal.loop-at-preserved
loop-at-preserved g c =
    Gathers-as (texts-more (codes " ") label_text c.args.shapes.now c.loop-at.at
    c.index-shapes-at.result c.loop-at-test.true c.index-shapes-at.is)
    (Gathers-then c.loop-at.invariant c.put_next_shape.ensures)

pub returns : goal.returns
returns g c =
    Gathers-as (ap (λ shapes. separated (codes " ") (map label_text shapes))
    (take_all c.loop-at.at c.args.shapes.now c.loop-at-test.false))
    c.loop-at.invariant
