-- Loop invariant: the letters of the given word before the current index have been written, and they all fit.
use Rattle.std.proofs.Common.{◌≡◌, take}
use Rattle.tableau_iter.specs.Positions.{IsReady, IsSameUpTo}
use Rattle.tableau_iter.proofs.walk.put_all.Given as goal

abbrev pub invariant-loop-place : goal.invariant-loop-place
invariant-loop-place l = record {
  same : IsSameUpTo 0 l.fn.board l.board;
  ready : IsReady l.place l.board;
  front : take l.place l.board.word ≡ take l.place l.word;
}
