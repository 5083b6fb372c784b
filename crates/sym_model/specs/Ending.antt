-- The endings of a run of a command: success, or the reason of a refusal.

-- the ending of a run of a command: `done` if the command succeeds; `some_refused` if a line of a `batch` was
-- refused; `syntax` if the words spell no command; `range` if their first error is of the kind range or shape; `past`
-- if their first error is a number over 2^127 - 1, or if the answer is refused as too large
pub data Ending : Type 0 where
  done : Ending
  some_refused : Ending
  syntax : Ending
  range : Ending
  past : Ending
