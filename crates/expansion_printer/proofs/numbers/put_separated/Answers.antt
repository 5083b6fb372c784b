use Rattle.std.proofs.Common.{◌++◌, ◌==◌, [], ◌∷◌, ◌∙◌, ap, cond, map, take}
use Rattle.std.specs.Prelude.{decimal}
use Rattle.sym_model.specs.TableauText.{separated}
use Rattle.expansion_printer.proofs.GatheringLaws.{Gathers-then, Gathers-as, Gathers-nothing}
use Rattle.expansion_printer.proofs.Texts.{numerals-more, numerals-all}
use Rattle.expansion_printer.proofs.numbers.put_separated.Goals as goal

pub loop-at-init : goal.loop-at-init
loop-at-init g c = Gathers-nothing c.args.text.now (g.K.Sink.seen c.args.sink.now)

pub loop-at-preserved : goal.loop-at-preserved
loop-at-preserved g c =
    let separator = c.args.separator ∷ [] in
    let item = c.index-numbers-at.result in
    Gathers-as (ap (λ n. separated separator
    (map decimal (map g.N.Numeral.number (take c.loop-at.at c.args.numbers.now)))
    ++ cond (c.loop-at.at == 0) (decimal n) (separator ++ decimal n)) c.as_u64.ensures
    ∙ numerals-more separator g.N.Numeral.number c.args.numbers.now c.loop-at.at item
    c.loop-at-test.true c.index-numbers-at.is)
    (Gathers-then c.loop-at.invariant c.put_piece.ensures)

pub returns : goal.returns
returns g c =
    Gathers-as (numerals-all (c.args.separator ∷ []) g.N.Numeral.number c.args.numbers.now c.loop-at.at
    c.loop-at-test.false) c.loop-at.invariant
