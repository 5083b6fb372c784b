use Rattle.std.proofs.Common.{arith}
use Rattle.perm_codes.proofs.NewLetters.{is_code_from}
use Rattle.perm_codes.proofs.letters.first_excess.Goals as goal

pub returns : goal.returns
returns c = is_code_from _ (λ k l. c.loop-at.invariant k (omega arith))
