-- Loop invariant: the letters before `place` are unchanged; and no word that fits begins with these letters and then a letter that is greater than
-- `least` and has been tried.
use Rattle.std.proofs.Common.{◌≡◌, ◌+◌, ◌-◌, ◌*◌, length, take}
use Rattle.tableau_iter.specs.Positions.{IsReady, IsSameUpTo, passes}
use Rattle.tableau_iter.specs.Walks.{continued}
use Rattle.tableau_iter.proofs.walk.+walk.Given as goal

abbrev pub decreases-first : goal.decreases-first
decreases-first l = 2 * (length l.board.now.word - l.place) + 1

abbrev pub decreases-first_after : goal.decreases-first_after
decreases-first_after l = 2 * (length l.board.now.word - l.place)

abbrev pub invariant-first_after-loop-letter : goal.invariant-first_after-loop-letter
invariant-first_after-loop-letter l = record {
  same : IsSameUpTo l.place l.fn.board l.board;
  ready : IsReady l.place l.board;
  rest :
      continued (passes l.fn.board) l.fn.board.setting.letters (length l.fn.board.word - (l.place + 1)) (take l.place l.fn.board.word) l.least
      ≡ continued (passes l.fn.board) l.fn.board.setting.letters (length l.fn.board.word - (l.place + 1)) (take l.place l.fn.board.word) l.tried;
}

abbrev pub decreases-first_after-loop-letter : goal.decreases-first_after-loop-letter
decreases-first_after-loop-letter l = l.board.setting.letters - l.tried
