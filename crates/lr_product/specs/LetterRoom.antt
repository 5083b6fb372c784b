-- The greatest number of letters from 1 to k in a filling of a skew shape with strictly increasing columns: a column of h cells has at most min(h, k)
-- of them, and these numbers are added up over the columns.
use Rattle.std.specs.Prelude.{◌≡◌, ℕ, ◌+◌, ◌-◌, ◌<◌, ◌≤◌, nat_lt, min, true, cond, List, length}
use Rattle.std.specs.Prelude.{get_or}
use Rattle.sym_model.specs.Partition.{size}
use Rattle.sym_model.specs.Schur.{contains}
use Rattle.schur_laws.proofs.Interlacing.{add_up}

-- the number of cells of row r of outer/inner, counted from 0, that have fewer than k cells above them in their columns
abbrev pub room_in_row : ℕ → List ℕ → List ℕ → ℕ → ℕ
room_in_row k outer inner r =
    cond (nat_lt r k) (get_or outer r 0) (min (get_or outer r 0) (get_or inner (r - k) 0))
    - get_or inner r 0

-- the number of cells of the first m rows of outer/inner that have fewer than k cells above them in their columns: in a filling with strictly
-- increasing columns, at most this number of the letters in these rows are from 1 to k
abbrev pub letter_room : ℕ → List ℕ → List ℕ → ℕ → ℕ
letter_room k outer inner m = add_up (room_in_row k outer inner) 0 m

-- the number of letters from 1 to k in a word with this content
abbrev pub letters_within : List ℕ → ℕ → ℕ
letters_within content k = add_up (λ i. get_or content i 0) 0 k

-- there is a k such that the content has more letters from 1 to k than the columns of outer/inner can have
abbrev pub IsOverfull : List ℕ → List ℕ → List ℕ → Type 0
IsOverfull outer inner content =
    (k : ℕ) × (k ≤ length content)
    × (letter_room k outer inner (length outer) < letters_within content k)

-- conditions that are necessary for a lattice tableau of outer/inner with this content: sizes, containment, and room for small letters; they are
-- symmetric in inner and content, like the number of these tableaux
pub record MayHaveContent (outer inner content : List ℕ) : Type 0 where
  pub sizes : size inner + size content ≡ size outer
  pub inner_inside : contains outer inner ≡ true
  pub content_inside : contains outer content ≡ true
  pub room : IsOverfull outer inner content → ⊥
  pub exchanged : IsOverfull outer content inner → ⊥
