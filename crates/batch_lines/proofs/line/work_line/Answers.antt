use Rattle.batch_lines.proofs.Words.{mult_line, skew_line, schubmult_line}
use Rattle.batch_lines.proofs.line.work_line.Goals as goal

pub returns-in-0-clause-line : goal.returns-in-0-clause-line
returns-in-0-clause-line c =
    mult_line c.args.state.now c.draw_below.new.state c.draw_below.result c.put_pair.new.out
    c.draw_below.ensures.drawn c.in-0.is c.draw_below.ensures.moved
    c.put_pair.ensures.text

pub returns-in-1-clause-line : goal.returns-in-1-clause-line
returns-in-1-clause-line c =
    skew_line c.args.state.now c.draw_below.new.state c.draw_below.result c.put_pair-in-1.new.out
    c.draw_below.ensures.drawn c.in-1.is c.draw_below.ensures.moved
    c.put_pair-in-1.ensures.text

pub returns-in-3-clause-line : goal.returns-in-3-clause-line
returns-in-3-clause-line c =
    schubmult_line c.args.state.now c.draw_below.new.state c.put_permutation.new.state
    c.draw_below.result c.clear.new.self c.put-in-3.new.self
    c.put_permutation.new.out c.put-in-3-2.new.self c.put_permutation-in-3.new.out
    c.draw_below.ensures.drawn c.in-3.is c.draw_below.ensures.moved
    c.put_permutation.ensures.moved c.clear.ensures c.put-in-3.ensures
    c.put_permutation.ensures.text c.put-in-3-2.ensures c.put_permutation-in-3.ensures.text
