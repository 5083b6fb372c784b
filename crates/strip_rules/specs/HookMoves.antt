-- Rim hooks added to a partition, as moves of the beads of its beta set: a rim hook of k cells moves a bead up by k places, to a place without a bead
-- (James and Kerber, 2.7). The height of the rim hook is 1 more than the number of beads that the moved bead passes.
use Rattle.std.specs.Prelude.{ℕ, ◌+◌, ◌-◌, ◌^◌, ℤ, map}
use Rattle.sym_model.specs.BetaList.{greater}
use Rattle.sym_model.specs.PlaceOrders.{minus_one_to}
use Rattle.sym_model.specs.WholeTerms.{WholeTermsOf}
use Rattle.beta_sets.specs.BetaSets.{numbers, free}

-- the number of beads after place b and up to place b + k: those that a bead passes if it moves from b to b + k, a place without a bead
abbrev pub passed : ℕ → ℕ → ℕ → ℕ
passed k set b = greater b (numbers set) - greater (b + k) (numbers set)

-- the set after the bead at place b has moved to place b + k, with the sign (-1)^m, for m the number of beads that it passes
abbrev pub hook_from : ℕ → ℕ → ℕ → ℕ × ℤ
hook_from k set b = (set - 2 ^ b + 2 ^ (b + k), minus_one_to (passed k set b))

-- the beta sets that result from a set by adding a rim hook of k cells, each with the sign (-1)^(h - 1), for h the height of the rim hook
abbrev pub hooks : ℕ → ℕ → WholeTermsOf ℕ
hooks k set = map (hook_from k set) (free k (numbers set))
