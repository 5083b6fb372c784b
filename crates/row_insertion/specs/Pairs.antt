-- Pairs of tableaux of the same straight shape (Fulton, 4.1).
use Rattle.std.specs.Prelude.{◌≡◌, ℕ, List, []}
use Rattle.sym_model.specs.Tableau.{SkewFilling}
use Rattle.sym_model.specs.Insertion.{insertion_pair}

-- p and q have the same outer partition, and their inner partitions are empty
pub record HaveOneShape (p q : SkewFilling) : Type 0 where
  pub p_straight : p.inner ≡ []
  pub q_straight : q.inner ≡ []
  pub same : p.outer ≡ q.outer

-- `word` has the insertion tableau p and the recording tableau q, given by their rows, and no other word has them
pub record IsTheWordOf (word : List ℕ) (p q : List (List ℕ)) : Type 0 where
  pub inserted : insertion_pair word ≡ (p, q)
  pub only : (other : List ℕ) → insertion_pair other ≡ (p, q) → other ≡ word
