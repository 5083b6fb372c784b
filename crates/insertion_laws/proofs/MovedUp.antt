-- If a letter moves up from a row into the empty cell above it, the words of the letters of these two rows, before and after, are in the same Knuth
-- class (Fulton, 2.1).
use Rattle.std.proofs.Common.{ℕ, ◌<◌, List, [], ◌∷◌, ◌++◌, ap, sym, arith, append_assoc}
use Rattle.sym_model.specs.Knuth.{AreKnuthEquivalent}
use Rattle.insertion_laws.specs.Rows.{StandsOn}
use Rattle.insertion_laws.proofs.InsertedRows.{rises_lower}
use Rattle.insertion_laws.proofs.Classes.{◌⨾◌, one_word, same_word, behind, turned, second}
use Rattle.insertion_laws.proofs.ReadingWords.{through}
use Rattle.tableau_laws.specs.Rows.{RisesFrom}

-- the two words have the same length, and each letter of `upper` is smaller than the letter of `lower` at its place
abbrev pub IsOver : List ℕ → List ℕ → Type 0
IsOver [] [] = Unit {0}
IsOver [] (b ∷ lower) = ⊥
IsOver (a ∷ upper) [] = ⊥
IsOver (a ∷ upper) (b ∷ lower) = (a < b) × IsOver upper lower

goes_behind : (b c : ℕ) (lower right : List ℕ) → RisesFrom b right → RisesFrom c lower → StandsOn lower right
    → AreKnuthEquivalent (b ∷ (lower ++ right)) (lower ++ b ∷ right)
goes_behind b c [] right h k s = one_word (b ∷ right)
goes_behind b c (y ∷ lower) [] h k s = absurd s
goes_behind b c (y ∷ lower) (x ∷ right) h k s =
    behind (b ∷ []) (through y x lower right s.0 k.1) ⨾ second b x y (lower ++ right) h.0 s.0
    ⨾ behind (y ∷ b ∷ []) (goes_behind x y lower right h.1 k.1 s.1) ⨾ turned (through y b lower (x ∷ right) (omega (arith, h.0, s.0)) k.1)

rises_without : (c b : ℕ) (v y : List ℕ) → RisesFrom c (v ++ b ∷ y) → RisesFrom c (v ++ y)
rises_without c b [] y h = rises_lower c b y h.0 h.1
rises_without c b (a ∷ v) y h = (h.0, rises_without a b v y h.1)

pub moves_between :
    (c b : ℕ) (left below lower right : List ℕ) → IsOver left below → RisesFrom c (below ++ b ∷ lower) → RisesFrom b right
    → StandsOn lower right
    → AreKnuthEquivalent (below ++ b ∷ (lower ++ (left ++ right))) (below ++ (lower ++ (left ++ b ∷ right)))
moves_between c b [] [] lower right o h k s = goes_behind b b lower right k h.1 s
moves_between c b [] (v ∷ below) lower right o h k s = absurd o
moves_between c b (u ∷ left) [] lower right o h k s = absurd o
moves_between c b (u ∷ left) (v ∷ below) lower right o h k s =
    same_word (ap (λ (w : List ℕ). v ∷ w) (sym (append_assoc below (b ∷ lower) (u ∷ (left ++ right)))))
    ⨾ through v u (below ++ b ∷ lower) (left ++ right) o.0 h.1
    ⨾ same_word (ap (λ (w : List ℕ). v ∷ u ∷ w) (append_assoc below (b ∷ lower) (left ++ right)))
    ⨾ behind (v ∷ u ∷ []) (moves_between v b left below lower right o.1 h.1 k s)
    ⨾ same_word (ap (λ (w : List ℕ). v ∷ u ∷ w) (sym (append_assoc below lower (left ++ b ∷ right))))
    ⨾ turned (through v u (below ++ lower) (left ++ b ∷ right) o.0 (rises_without v b below lower h.1))
    ⨾ same_word (ap (λ (w : List ℕ). v ∷ w) (append_assoc below lower (u ∷ (left ++ b ∷ right))))
