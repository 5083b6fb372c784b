-- Lists whose entries have different remainders modulo n: the counts of the remainders, and the sum of the quotients.
use Rattle.std.specs.Prelude.{◌≡◌, ℕ, ◌+◌, ◌*◌, ◌≤◌, false, List, length}
use Rattle.sym_model.specs.Partition.{size}
use Rattle.sym_model.specs.BetaList.{has_equal_entries}
use Rattle.beta_list_laws.specs.AlcoveEnd.{remainders}
use Rattle.rim_hooks.specs.Counts.{Counts}
use Rattle.rim_hooks.specs.declared.reflections.Turns.{Turns}

-- the entries of the list have different remainders modulo n, `counts` has the number of entries for each remainder, and the sum of the entries is
-- that of their remainders plus turns·n
pub record AreTurned (n : ℕ) (counts list : List ℕ) (turns : ℕ) : Type 0 where
  pub differ : has_equal_entries (remainders n list) ≡ false
  pub counted : Counts n counts list
  pub sum : size list ≡ size (remainders n list) + turns * n
  pub bound : turns ≤ 65535 * length list

-- the record t has the counts and the sum of quotients (`turns`) of the list, as `AreTurned` says
abbrev pub IsTurned : ℕ → List ℕ → Turns → Type 0
IsTurned n list t = AreTurned n t.counts list t.turns
