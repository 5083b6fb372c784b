-- Knuth equivalence of words: Knuth relations, steps and chains of steps; and the tableau of straight shape whose
-- reading word is in the Knuth class of a word (Knuth; Fulton, 2.1).
use Rattle.std.specs.Prelude.{◌≡◌, ℕ, ◌<◌, ◌≤◌, ◌⊎◌, List, [], ◌∷◌, ◌++◌}
use Rattle.sym_model.specs.Insertion.{reading_word}
use Rattle.sym_model.specs.Tableau.{IsStraightTableau}

-- v is the word y z x, and w the word y x z, for letters x < y ≤ z
pub record IsFirstExchange (v w : List ℕ) : Type 0 where
  pub x : ℕ
  pub y : ℕ
  pub z : ℕ
  pub below : x < y
  pub within : y ≤ z
  pub before : v ≡ y ∷ z ∷ x ∷ []
  pub after : w ≡ y ∷ x ∷ z ∷ []

-- v is the word x z y, and w the word z x y, for letters x ≤ y < z
pub record IsSecondExchange (v w : List ℕ) : Type 0 where
  pub x : ℕ
  pub y : ℕ
  pub z : ℕ
  pub within : x ≤ y
  pub below : y < z
  pub before : v ≡ x ∷ z ∷ y ∷ []
  pub after : w ≡ z ∷ x ∷ y ∷ []

-- v and w are the two sides of a Knuth relation, in one order or the other: y z x and y x z for x < y ≤ z, or x z y
-- and z x y for x ≤ y < z
abbrev pub AreKnuthRelated : List ℕ → List ℕ → Type 0
AreKnuthRelated v w =
    (IsFirstExchange v w ⊎ IsFirstExchange w v) ⊎ (IsSecondExchange v w ⊎ IsSecondExchange w v)

-- w is v after one Knuth step: three neighbouring letters of v, one side of a Knuth relation, are replaced by the
-- other side
pub record IsKnuthStep (v w : List ℕ) : Type 0 where
  pub front : List ℕ
  pub three : List ℕ
  pub changed : List ℕ
  pub back : List ℕ
  pub related : AreKnuthRelated three changed
  pub from : v ≡ front ++ (three ++ back)
  pub to : w ≡ front ++ (changed ++ back)

-- a chain of Knuth steps leads from v through the listed words, one after another, to w, the last of them; if no word
-- is listed, v is w
abbrev pub IsKnuthChain : List ℕ → List (List ℕ) → List ℕ → Type 0
IsKnuthChain v [] w = v ≡ w
IsKnuthChain v (u ∷ chain) w = IsKnuthStep v u × IsKnuthChain u chain w

-- the words v and w are Knuth equivalent: a chain of Knuth steps leads from v to w
pub record AreKnuthEquivalent (v w : List ℕ) : Type 0 where
  pub chain : List (List ℕ)
  pub steps : IsKnuthChain v chain w

-- `rows` is the only tableau of straight shape whose reading word is in the Knuth class of w
pub record IsOnlyTableauOf (w : List ℕ) (rows : List (List ℕ)) : Type 0 where
  pub straight : IsStraightTableau rows
  pub class : AreKnuthEquivalent w (reading_word rows)
  pub only : (others : List (List ℕ)) → IsStraightTableau others
      → AreKnuthEquivalent w (reading_word others) → others ≡ rows
