-- A *board*: a word in the cells of a skew shape, written letter by letter in the order of the column reading, and the letters that fit in it. The
-- content of the letters written so far is added to a partition, `start`.
use Rattle.std.specs.Prelude.{◌≡◌, ℕ, ◌+◌, ◌<◌, ◌≤◌, Bool, true, slice_index, List, [], ◌∷◌, length}
use Rattle.std.specs.Prelude.{take, drop}
use Rattle.sym_model.specs.Partition.{rows, size}
use Rattle.sym_model.specs.Polynomial.{join}
use Rattle.sym_model.specs.Schur.{content}
use Rattle.sym_model.specs.TableauList.{reading_cells}
use Rattle.skew_shapes.specs.Shapes.{IsSkew}
use Rattle.tableau_iter.specs.declared.rule.Rule.{Rule}
use Rattle.tableau_iter.specs.Fits.{Neighbours, AreCells, AreNear, all_fit, fits_by}
use Rattle.tableau_iter.specs.Walks.{later}

-- the data that decide which letters fit after a prefix: the rule, the greatest number of occurrences of each letter (for the rule `Limited`), the
-- start partition, the greatest letter, and the neighbours of the cells
pub record Setting : Type 0 where
  pub rule : Rule
  pub counts : List ℕ
  pub start : List ℕ
  pub letters : ℕ
  pub near : Neighbours

abbrev pub fits_in : Setting → List ℕ → ℕ → Bool
fits_in s = fits_by s.rule s.counts s.start s.letters s.near

-- the setting and the word of a board, and its sums: start plus the content of the prefix written so far
pub record Position : Type 0 where
  pub setting : Setting
  pub word : List ℕ
  pub sums : List ℕ

-- whether each letter of w fits, in the setting of p, after the letters before it
abbrev pub passes : Position → List ℕ → Bool
passes p w = all_fit (fits_in p.setting) [] w

-- the letters of the word of p before the index `place` all fit, and the sums of p are start plus the content of these letters
pub record IsReady (place : ℕ) (p : Position) : Type 0 where
  pub fits : passes p (take place p.word) ≡ true
  pub sums : p.sums ≡ join p.setting.start (content p.setting.letters (take place p.word))

-- `old` and `new` have the same setting, words of the same length, and the same letters before the index `place`
pub record IsSameUpTo (place : ℕ) (old new : Position) : Type 0 where
  pub setting : new.setting ≡ old.setting
  pub length : length new.word ≡ length old.word
  pub front : take place new.word ≡ take place old.word

-- the first element of the list is the suffix w of the word of p from the index `place` on. The others are the words v of the same length and after
-- w, in lexicographic order, such that in the word of p with v in place of w each letter fits.
abbrev pub Begins : ℕ → Position → List (List ℕ) → Type 0
Begins place p list =
    list ≡ drop place p.word ∷ later (passes p) p.setting.letters (take place p.word)
    (drop place p.word)

-- `above`, `right` and `most` of `near` have an entry for each letter of the word, and each neighbour above or on the right is at an earlier index.
-- The list `sums` has at most 4096 entries and at least one for each row of `start`. No entry of `most` exceeds the length of `sums`, and |start|
-- plus the length of the word is at most 4096.
pub record IsBoard (near : Neighbours) (start sums word : List ℕ) : Type 0 where
  pub above : length near.above ≡ length word
  pub right : length near.right ≡ length word
  pub most : length near.most ≡ length word
  pub above_back : (p : ℕ) → p < length word → slice_index near.above p ≤ p
  pub right_back : (p : ℕ) → p < length word → slice_index near.right p ≤ p
  pub within : (p : ℕ) → p < length word → slice_index near.most p ≤ length sums
  pub small : size start + length word ≤ 4096
  pub fits : rows start ≤ length sums
  pub few : length sums ≤ 4096

abbrev pub near_of : List ℕ → List ℕ → List ℕ → Neighbours
near_of above right most = record { above = above; right = right; most = most }

abbrev pub setting_of : Rule → List ℕ → List ℕ → ℕ → Neighbours → Setting
setting_of rule counts start letters near =
    record { rule = rule; counts = counts; start = start; letters = letters; near = near }

abbrev pub position_of : Rule → List ℕ → List ℕ → Neighbours → List ℕ → List ℕ → Position
position_of rule counts start near sums word =
    record { setting = setting_of rule counts start (length sums) near; word = word; sums = sums }

-- `near` has, for each cell of outer/inner, the neighbours above and on the right, and a bound for its letter (`IsGreatest`) if all letters are from
-- 1 to k
pub record IsNearIn (k : ℕ) (outer inner : List ℕ) (near : Neighbours) : Type 0 where
  pub lines : List ℕ
  pub ranks : List ℕ
  pub cells : AreCells outer inner lines ranks
  pub near_cells : AreNear k lines ranks near

-- p is the position of a new lister of tableaux of outer/inner with letters from 1 to k, by the given rule and start, before any letter is written
pub record IsNewBoard (rule : Rule) (counts start : List ℕ) (k : ℕ) (outer inner : List ℕ)
    (p : Position) : Type 0 where
  pub shape : IsSkew outer inner
  pub setting : p.setting ≡ setting_of rule counts start k p.setting.near
  pub near_in : IsNearIn k outer inner p.setting.near
  pub cells : length p.word ≡ length (reading_cells outer inner)
  pub ready : IsReady 0 p
