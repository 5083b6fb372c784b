-- A beta list lifted once more: the last entry, raised by n, is moved to the front.
use Rattle.std.proofs.Common.{◌≡◌, ℕ, ◌+◌, List, [], ◌∷◌, ◌++◌, add-one, sym, ◌∙◌, ap, rules}
use Rattle.std.specs.List.{insert}
use Rattle.rotation_laws.specs.Lifting.{lifted_once, lifted}
use Rattle.rotation_laws.proofs.Lifts.{lifted-last}

pub insert_front : (l : List ℕ) (a : ℕ) → insert l 0 a ≡ a ∷ l
insert_front [] a = search rules
insert_front (b ∷ l) a = search rules

pub lift_more : (n p : ℕ) (b old rest new : List ℕ) (last first : ℕ) → old ≡ lifted n p b → old ≡ rest ++ (last ∷ []) → first ≡ last + n → new ≡ insert rest 0 first
    → new ≡ lifted n (p + 1) b
lift_more n p b old rest new last first before parts is made =
    made ∙ insert_front rest first ∙ ap (λ x. x ∷ rest) is ∙ sym (lifted-last n last rest) ∙ ap (lifted_once n) (sym parts ∙ before)
    ∙ ap (λ m. lifted n m b) (sym (add-one p))
