-- The state of a lister, which lists tableaux one after another: the column readings still to be listed, and the current one.
use Rattle.std.specs.Prelude.{ℕ, List, [], length, Option, Some, None}
use Rattle.tableau_iter.specs.declared.stage.Stage.{Stage}
use Rattle.tableau_iter.specs.declared.stage.Stage.TheVariants.{New, Listing, Passed, Ended}
use Rattle.tableau_iter.specs.Positions.{Position, IsReady, passes}
use Rattle.tableau_iter.specs.Walks.{completions, later}

-- the state of a lister of tableaux by their column readings: the words still to be listed, the current one, the start partition, and the greatest
-- letter
pub record Listed : Type 0 where
  pub rest : List (List ℕ)
  pub item : Option (List ℕ)
  pub start : List ℕ
  pub letters : ℕ

-- the words still to be listed, by the stage and the position of a lister: at `New` all words whose letters fit (`passes`), at `Listing` and `Passed`
-- those of them that come after the word of the position, and at `Ended` no words
abbrev pub rest_at : Stage → Position → List (List ℕ)
rest_at New p = completions (passes p) p.setting.letters (length p.word) []
rest_at Listing p = later (passes p) p.setting.letters [] p.word
rest_at Passed p = later (passes p) p.setting.letters [] p.word
rest_at Ended p = []

-- the current word, by the stage and the position of a lister: the word of the position at `Listing`, otherwise None
abbrev pub item_at : Stage → Position → Option (List ℕ)
item_at New p = None
item_at Listing p = Some p.word
item_at Passed p = None
item_at Ended p = None

abbrev pub listed_at : Stage → Position → Listed
listed_at stage p =
    record {
      rest = rest_at stage p;
      item = item_at stage p;
      start = p.setting.start;
      letters = p.setting.letters;
    }

-- the position is ready (`IsReady`) before its first letter if the stage is `New`, and after its last letter at `Listing` and `Passed`; no condition
-- at `Ended`
abbrev pub IsReadyAt : Stage → Position → Type 0
IsReadyAt New p = IsReady 0 p
IsReadyAt Listing p = IsReady (length p.word) p
IsReadyAt Passed p = IsReady (length p.word) p
IsReadyAt Ended p = Unit {0}
