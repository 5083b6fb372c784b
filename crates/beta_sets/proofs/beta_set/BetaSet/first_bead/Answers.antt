use Rattle.std.proofs.Common.{◌-◌, ◌^◌, ap, ◌∙◌, arith}
use Rattle.beta_sets.specs.BetaSets.{shape}
use Rattle.beta_sets.proofs.BetaSets.{shape-empty}
use Rattle.beta_sets.proofs.SetNumbers.{no_row}
use Rattle.beta_sets.proofs.beta_set.BetaSet.first_bead.Goals as goal

pub returns-in_default : goal.returns-in_default
returns-in_default c = ap shape c.in_default.ensures ∙ shape-empty

pub returns-then-number-rows : goal.returns-then-number-rows
returns-then-number-rows c =
    let e = c.requires in
    let l = c.if-number-rows.true in
    no_row c.args.self c.in-Some.number (c.args.self - 2 ^ c.in-Some.number) c.in-Some.ensures (omega arith)
