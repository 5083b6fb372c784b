use Rattle.std.proofs.Common.{arith}
use Rattle.perm_codes.proofs.NewLetters.{short_letter}
use Rattle.perm_codes.proofs.letters.narrow.Goals as goal

pub overflow_cast-letter : goal.overflow_cast-letter
overflow_cast-letter c =
    omega (
      arith,
      short_letter c.args.letters.now c.loop-letter.letter-index 0 c.requires
          c.loop-letter-test.true,
    )
