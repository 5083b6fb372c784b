use Rattle.std.proofs.Common.{arith}
use Rattle.schubert_laws.proofs.Ranks.{letter_counts}
use Rattle.stanley_expand.proofs.walk.front.Goals as goal

pub overflow_sub-letter : goal.overflow_sub-letter
overflow_sub-letter c = let p = letter_counts c.args.perm.now c.loop-i.i
    c.letter.ensures.limits.kept.one_line (omega arith) in omega arith
