-- Invariants of the insertion tableau and the recording tableau under insertion.
use Rattle.std.specs.Prelude.{◌≡◌, ℕ, ◌+◌, ◌≤◌, List}
use Rattle.sym_model.specs.Partition.{size}
use Rattle.sym_model.specs.Schur.{letters_of, times_in}
use Rattle.sym_model.specs.Tableau.{shape_of}
use Rattle.insertion_laws.specs.Rows.{AreRows, RowsBelow}

-- p and q are tableaux of the same straight shape with n cells; the letters of p are at least m, and q has each of the numbers 1, .., n once
pub record IsPairAt (m n : ℕ) (p q : List (List ℕ)) : Type 0 where
  pub p_rows : AreRows m p
  pub q_rows : AreRows 1 q
  pub shapes : shape_of p ≡ shape_of q
  pub below : RowsBelow (n + 1) q
  pub once : (j : ℕ) → 1 ≤ j → j ≤ n → times_in j (letters_of q) ≡ 1
  pub cells : size (shape_of q) ≡ n
