-- Loop invariant: the first `at` exponents of the buffer are the first `at` exponents of the monomial.
use Rattle.std.proofs.Common.{◌≡◌, length, take}
use Rattle.double_schubert.proofs.short_monomial.ShortMonomial.monomial.Given as goal

abbrev pub invariant-loop-at : goal.invariant-loop-at
invariant-loop-at l = (length l.exponents ≡ 32) × (take l.at l.exponents ≡ take l.at l.exponent-items)
