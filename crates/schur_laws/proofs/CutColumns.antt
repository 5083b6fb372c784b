-- Let two rows of a filling each consist of letters up to n followed by greater letters. The columns of the two rows are strictly increasing if and
-- only if three conditions hold: the lower row has at most as many letters up to n as the upper row; the columns of the letters up to n are strictly
-- increasing; and the columns of the greater letters are strictly increasing.
use Rattle.std.proofs.Common.{◌≡◌, ℕ, suc, ◌+◌, ◌-◌, ◌≤◌, nat_le, nat_lt, ◌&&◌, List, [], ◌∷◌, ◌++◌, length, drop, refl, sym, ap, ap₂, ◌∙◌, arith, rules}
use Rattle.std.proofs.lemmas.Bool.{le-leb, lt-ltb}
use Rattle.sym_model.specs.Schur.{columns_rise}
use Rattle.sym_model.proofs.Lists.{drop-none}
use Rattle.schur_laws.proofs.RisingWords.{AreLetters, raised_by}
use Rattle.sym_model.specs.Bounded.{AreAtMost}
use Rattle.std.proofs.lemmas.List.{drop_all}
use Rattle.std.proofs.Math.Dec.{leb-suc-suc}
use Rattle.sym_model.proofs.Tableaux.{columns_rise-nothing}

pub letters_up_to : (n : ℕ) (w : List ℕ) → AreLetters n w → AreAtMost n w
letters_up_to n [] h = tt
letters_up_to n (a ∷ w) h = (h.1, letters_up_to n w h.2)

raise-lt : (n a b : ℕ) → nat_lt (n + a) (n + b) ≡ nat_lt a b
raise-lt n a b = search rules

rises-raised : (n : ℕ) (p w : List ℕ) → columns_rise (raised_by n p) (raised_by n w) ≡ columns_rise p w
rises-raised n [] w = refl
rises-raised n (a ∷ p) [] = refl
rises-raised n (a ∷ p) (b ∷ w) = ap₂ (λ s t. s && t) (raise-lt n a b) (rises-raised n p w)

pub columns_cut : (m n : ℕ) (p q v w : List ℕ) → AreAtMost n p → AreAtMost n v → AreLetters m w → length v + length w ≤ length p + length q
    → columns_rise (p ++ raised_by n q) (v ++ raised_by n w) ≡ nat_le (length v) (length p) && (columns_rise p v && columns_rise q (drop (length p - length v) w))
columns_cut m n [] q [] w f g h k = search (rules, rises-raised, le-leb, drop-none)
columns_cut m n [] [] (b ∷ v) w f g h k = absurd (omega arith)
columns_cut m n [] (a ∷ q) (b ∷ v) w f g h k = search rules
columns_cut m n (a ∷ p) q [] [] f g h k =
    sym (ap₂ (λ s t. s && t) (le-leb 0 (suc (length p)) (omega arith)) (ap (columns_rise q) (drop_all (suc (length p) - 0) [] (omega arith)) ∙ columns_rise-nothing q))
columns_cut m n (a ∷ p) q [] (b ∷ w) f g h k =
    let low = h.0 in
    let high = f.0 in
    let e : suc (length p) - 0 ≡ suc (length p) = omega arith in
    let d : length p - 0 ≡ length p = omega arith in
    ap₂ (λ s t. s && t) (lt-ltb a (n + b) (omega arith)) (columns_cut m n p q [] w f.1 tt h.2 (omega arith))
    ∙ ap₂ (λ s t. s && (t && columns_rise q (drop (length p - 0) w))) (le-leb 0 (length p) (omega arith)) (columns_rise-nothing p)
    ∙ ap (λ i. columns_rise q (drop i w)) d
    ∙ sym (ap₂ (λ s i. s && columns_rise q (drop i (b ∷ w))) (le-leb 0 (suc (length p)) (omega arith)) e)
columns_cut m n (a ∷ p) q (b ∷ v) w f g h k = search (rules, leb-suc-suc, (columns_cut m n p q v w f.1 g.1 h (omega arith)))
