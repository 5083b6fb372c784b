use Rattle.std.proofs.Common.{◌<◌, ◌∷◌, ◌++◌, map, length, sym, ◌∙◌, ap, ap₂, arith}
use Rattle.plain_programs.specs.Words.{fillings_in}
use Rattle.plain_programs.proofs.WordLists.{each_take-more}
use Rattle.plain_programs.proofs.fillings.stacked.Goals as goal

pub loop-row-preserved : goal.loop-row-preserved
loop-row-preserved c =
    let row = c.row-item.result in
    let rest = fillings_in c.args.rest.now in
    let within : c.loop-row.row-index < length c.args.rows.now = omega arith in
    c.in_ok-push_stacked.ensures
    ∙ ap₂ ◌++◌ c.loop-row.invariant (ap (λ letters. map (λ filling. letters ∷ filling) rest)
    c.deref.ensures.value)
    ∙ sym (each_take-more (λ letters. map (λ filling. letters ∷ filling) rest) (λ word. word.items)
    c.args.rows.now c.loop-row.row-index row within c.row-item.is)
