-- A command in a list of commands with different names.
use Rattle.std.specs.Prelude.{◌≡◌, ℕ, List, ◌∷◌}
use Rattle.sym_model.specs.Sum.{Among}
use Rattle.sym_model.specs.Form.{Has, Awaits}
use Rattle.sym_model.specs.Entry.{Entry}

-- Words that have the form of the command e begin with the name of e. Words after which an expression may be the next word of this form (`Awaits`)
-- also begin with the name of e.
pub record Named (e : Entry) : Type 0 where
  pub spells : (words : List (List ℕ)) → Has e.form words
      → (rest : List (List ℕ)) × (words ≡ e.name ∷ rest)
  pub awaits : (words : List (List ℕ)) → Awaits e.form words
      → (rest : List (List ℕ)) × (words ≡ e.name ∷ rest)

-- the command e is in the list, no other command of the list has the name of e, and words of each command of the list begin with the name of this
-- command (`Named`)
pub record Joined (e : Entry) (entries : List Entry) : Type 0 where
  pub among : Among e entries
  pub alone : (f : Entry) → Among f entries → f.name ≡ e.name → f ≡ e
  pub named : (f : Entry) → Among f entries → Named f
