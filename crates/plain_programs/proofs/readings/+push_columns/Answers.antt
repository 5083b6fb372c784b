use Rattle.std.proofs.Common.{◌+◌, ◌-◌, ◌++◌, reverse, sym, ◌∙◌, ap, append_assoc, flat_map}
use Rattle.std.proofs.lemmas.Result.{on_ok_weaker}
use Rattle.sym_model.specs.Partition.{after}
use Rattle.sym_model.specs.GoodTableau.{column}
use Rattle.plain_programs.specs.Words.{words_of}
use Rattle.plain_programs.proofs.WordLists.{each_reverse-after}
use Rattle.plain_programs.proofs.readings.+push_columns.Goals as goal

pub returns : goal.returns
returns t c =
    let f = column c.args.inner.now (words_of c.args.filling.now) in
    let before = c.args.reading.now.items in
    let j = c.args.j in
    let k = c.args.count in
    on_ok_weaker c.push_columns.result
    (λ e.
    e
    ∙ ap (λ l. l ++ flat_map f (reverse (after j (k - 1)))) c.in_ok-push_column.ensures
    ∙ append_assoc before (f (j + k)) (flat_map f (reverse (after j (k - 1))))
    ∙ ap (λ l. before ++ l) (sym (each_reverse-after f j k c.if-count-eq0.false)))
    c.push_columns.ensures
