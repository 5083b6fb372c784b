-- One reflection of a list whose first entry exceeds its last by more than n (n is subtracted from the first entry and added to the last), and the
-- result of all reflections.
use Rattle.std.proofs.Common.{◌≡◌, ℕ, ◌<◌, ◌≤◌, false, List, sym, ◌∙◌, ap, ap₂, arith, ℤ, Option}
use Rattle.sym_model.specs.BetaList.{has_equal_entries, sorted_falling, sorting_sign}
use Rattle.sym_model.specs.AlcoveReduction.{spread, squares, reflected, with_sign, reflected_into_alcove}
use Rattle.strip_laws.proofs.Reflections.{reflect_again, squares_fall, squares_sorted}

-- the first entry of `list` exceeds its last by more than n, and `next` is the reflection of `list` and has no two equal entries; `falling` is `next`
-- in decreasing order, and `sign` the sign of sorting `next`
pub record Reflects (n : ℕ) (list next falling : List ℕ) (sign : ℤ) : Type 0 where
  pub positive : 1 ≤ n
  pub far : n < spread list
  pub reflection : next ≡ reflected n list
  pub apart : has_equal_entries next ≡ false
  pub turn : sign ≡ sorting_sign next
  pub order : falling ≡ sorted_falling next

pub lower : (n : ℕ) (list next falling : List ℕ) (sign : ℤ) → Reflects n list next falling sign → squares falling < squares list
lower n list next falling sign h =
    let a = ap squares h.order in
    let b = squares_sorted next in
    let c = ap squares h.reflection in
    let d = squares_fall n list h.positive h.far in
    omega (arith, a, b, c, d)

pub again : (n : ℕ) (list next falling : List ℕ) (sign : ℤ) (answer : Option (List ℕ × ℤ)) → Reflects n list next falling sign
    → answer ≡ reflected_into_alcove n falling → with_sign sign answer ≡ reflected_into_alcove n list
again n list next falling sign answer h e =
    ap₂ with_sign (h.turn ∙ ap sorting_sign h.reflection) (e ∙ ap (reflected_into_alcove n) (h.order ∙ ap sorted_falling h.reflection))
    ∙ sym (reflect_again n list h.positive h.far (ap has_equal_entries (sym h.reflection) ∙ h.apart))
