use Rattle.std.proofs.Common.{◌≡◌, None, drop}
use Rattle.std.specs.Option.{option_copied}
use Rattle.linear_combinations.specs.Entries.{each_follows}
use Rattle.linear_combinations.proofs.terms.are_canonical.Given as goal

-- the list is canonical (labels increasing, coefficients in lowest terms and not 0) if and only if each term from the current one on may follow the
-- one before it
abbrev pub invariant-loop-label : goal.invariant-loop-label
invariant-loop-label g l =
    each_follows g.L.Label.order g.L.Label.is_label g.R.Scalar.value None l.pairs
    ≡ each_follows g.L.Label.order g.L.Label.is_label g.R.Scalar.value (option_copied l.previous) (drop l.label-index l.pairs)
