use Rattle.std.proofs.Common.{sym, subst, ap, ◌∙◌}
use Rattle.sym_model.specs.PlaceOrders.{inversions}
use Rattle.perm_codes.specs.Limits.{IsShortPermutation}
use Rattle.perm_codes.proofs.WithinLimits.{short_swap}
use Rattle.perm_codes.proofs.perm.Perm.exchanged.Goals as goal

pub of_count-requires-clause-letters : goal.of_count-requires-clause-letters
of_count-requires-clause-letters c =
    subst IsShortPermutation (sym c.exchange.ensures)
    (short_swap c.args.letters.items c.args.first c.args.second c.requires.first c.requires.second
    c.requires.permutation)

pub of_count-requires-clause-count : goal.of_count-requires-clause-count
of_count-requires-clause-count c = c.requires.count ∙ ap inversions (sym c.exchange.ensures)
