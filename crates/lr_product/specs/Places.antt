-- The entries (state, count) of a table by their indices: the indices are sorted, and the entries are not moved.
use Rattle.std.specs.Prelude.{ℕ, ◌*◌, ◌^◌, ◌<◌, ℤ, pos, ◌<ℤ◌, List, [], get_or}
use Rattle.sym_model.specs.Sum.{Among}
use Rattle.sym_model.specs.WholeTerms.{WholeTerms}
use Rattle.lr_product.specs.WeighedSum.{at_state}

-- the entry (state, count) at the index `at`; after the last one the empty state with the count 0
abbrev pub entry_at : List (List ℕ × ℕ) → ℕ → List ℕ × ℕ
entry_at entries at = get_or {A = List ℕ × ℕ} entries at ([], 0)

-- the count of the entry at the index `at`, times f of the state of this entry (`at_state`)
abbrev pub count_at : ℕ → List (List ℕ × ℕ) → (List ℕ → List ℕ → ℕ) → ℕ → ℕ
count_at n entries f at = (entry_at entries at).1 * at_state n f (entry_at entries at).0

-- each coefficient of the list is at most 2^127 - 1
abbrev pub AreSmallTerms : WholeTerms → Type 0
AreSmallTerms terms = (t : List ℕ × ℤ) → Among t terms → t.1 <ℤ pos (2 ^ 127)

-- each count is at most 2^127 - 1, and so exact
pub record AreExact (entries : List (List ℕ × ℕ)) : Type 0 where
  pub below : (at : ℕ) → (entry_at entries at).1 < 2 ^ 127
