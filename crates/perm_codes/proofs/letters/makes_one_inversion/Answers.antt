use Rattle.std.proofs.Common.{not, ap, ◌∙◌}
use Rattle.perm_codes.proofs.OneSwap.{rising_test, falling_test}
use Rattle.perm_codes.proofs.letters.makes_one_inversion.Goals as goal

pub returns-then-low-high : goal.returns-then-low-high
returns-then-low-high c =
    ap not c.has_between.ensures
    ∙ rising_test c.args.first c.args.second c.args.letters.now c.requires.order c.requires.inside
    c.requires.once c.if-low-high.true

pub returns-else-low-high : goal.returns-else-low-high
returns-else-low-high c =
    falling_test c.args.first c.args.second c.args.letters.now c.requires.order c.requires.inside
    c.requires.once c.if-low-high.false
