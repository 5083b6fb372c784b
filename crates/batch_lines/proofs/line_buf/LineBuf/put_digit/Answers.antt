use Rattle.std.proofs.Common.{arith, ap, length, ◌∙◌}
use Rattle.batch_lines.proofs.Words.{one_digit}
use Rattle.batch_lines.proofs.line_buf.LineBuf.put_digit.Goals as goal

pub put-requires : goal.put-requires
put-requires c =
    let t = ap length (c.as_bytes.ensures.value ∙ c.format.ensures.text) in
    let d = one_digit c.args.digit c.requires.one in
    let r = c.requires.room in
    omega (arith, t, d, r)

pub returns-clause-short : goal.returns-clause-short
returns-clause-short c = one_digit c.args.digit c.requires.one
