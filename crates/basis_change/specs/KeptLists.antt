-- Partitions, each with the list of terms to which its arrangements straighten.
use Rattle.std.specs.Prelude.{◌≡◌, ℕ, ◌≤◌, true, List}
use Rattle.sym_model.specs.Bases.{has}
use Rattle.sym_model.specs.Partition.{size}
use Rattle.sym_model.specs.RaisedPart.{without_one}
use Rattle.sym_model.specs.WholeTerms.{WholeTermsOf}
use Rattle.sym_model.specs.Weight.{factorial}
use Rattle.basis_change.specs.SpecialRimHooks.{IsStraightening}
use Rattle.linear_combinations.specs.Gains.{mass}
use Rattle.family_lists.specs.KeptLists.{AreListsOf}
use Rattle.beta_sets.specs.BetaSets.{shapes, AreShapes}

-- the arrangements of the partition `parts` straighten to the list `terms` of beta sets, the absolute values of its coefficients add up to at most
-- |parts|!, and no label has more than |parts| cells
pub record IsKept (parts : List ℕ) (terms : WholeTermsOf ℕ) : Type 0 where
  pub straightens : IsStraightening parts (shapes terms)
  pub few : mass terms ≤ factorial (size parts)
  pub within : AreShapes (size parts) terms

-- each entry is a partition with a list to which its arrangements straighten (`IsKept`)
abbrev pub AreKept : List (List ℕ × WholeTermsOf ℕ) → Type 0
AreKept = AreListsOf IsKept

-- for the pair x of a number a and a list: a is one of the parts, and the arrangements of the parts without one a straighten to the list (`IsKept`)
pub record IsKeptRest (parts : List ℕ) (x : ℕ × WholeTermsOf ℕ) : Type 0 where
  pub part : has x.0 parts ≡ true
  pub kept : IsKept (without_one x.0 parts) x.1
