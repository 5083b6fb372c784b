-- The rows of a filling, padded on the left with zeros at the cells of the inner shape, pass the test `is_padded_tableau` if and only if the filling
-- is semistandard.
use Rattle.std.proofs.Common.{◌≡◌, ℕ, zero, suc, ◌+◌, ◌-◌, ◌<◌, ◌≤◌, Bool, true, ◌&&◌, List, [], ◌∷◌, ◌++◌, drop, replicate, nat_le, nat_lt, sym, ◌∙◌, ap, ap₂, refl, arith, rules}
use Rattle.std.proofs.lemmas.Bool.{le-leb, lt-ltb}
use Rattle.std.proofs.Math.Bool.{and-true, and_assoc}
use Rattle.sym_model.specs.Partition.{Falls, ArePositive, part}
use Rattle.sym_model.specs.Schur.{row_rises, columns_rise, semistandard}
use Rattle.tableau_laws.specs.PaddedRows.{padded}
use Rattle.tableau_laws.proofs.Grids.{pass-nothing}
use Rattle.tableau_laws.specs.Grid.{is_chain, pass_by_place, may_stand_above, is_padded_tableau}
use Rattle.sym_model.proofs.Parts.{falls_after, part-drop}
use Rattle.sym_model.proofs.Tableaux.{columns_rise-nothing}

zero_first : (w : List ℕ) → is_chain nat_le (0 ∷ w) ≡ is_chain nat_le w
zero_first [] = refl
zero_first (b ∷ w) = ap (λ p. p && is_chain nat_le (b ∷ w)) (le-leb 0 b (omega arith))

pub zeros_first : (b : ℕ) (w : List ℕ) → is_chain nat_le (replicate b 0 ++ w) ≡ is_chain nat_le w
zeros_first zero w = refl
zeros_first (suc b) w = zero_first (replicate b 0 ++ w) ∙ zeros_first b w

pub chain_row : (w : List ℕ) → is_chain nat_le w ≡ row_rises w
chain_row [] = refl
chain_row (a ∷ []) = refl
chain_row (a ∷ b ∷ w) = ap (λ p. nat_le a b && p) (chain_row (b ∷ w))

-- ---- two neighbouring padded rows pass `may_stand_above` at each place if and only if their columns are strictly increasing

above_zero : (b : ℕ) → may_stand_above 0 b ≡ true
above_zero b = lt-ltb 0 (b + 1) (omega arith)

above_letter : (a b : ℕ) → 0 < a → may_stand_above a b ≡ nat_lt a b
above_letter a b h = let e : b + (1 - a) ≡ b = omega arith in ap (nat_lt a) e

pass_rows : (upper lower : List ℕ) → ArePositive upper → pass_by_place may_stand_above upper lower ≡ columns_rise upper lower
pass_rows [] lower h = refl
pass_rows (a ∷ upper) [] h = refl
pass_rows (a ∷ upper) (b ∷ lower) h = ap₂ (λ (p q : Bool). p && q) (above_letter a b h.0) (pass_rows upper lower h.1)

pass_shifted : (d : ℕ) (upper lower : List ℕ) → ArePositive upper → pass_by_place may_stand_above (replicate d 0 ++ upper) lower ≡ columns_rise upper (drop d lower)
pass_shifted zero upper lower h = pass_rows upper lower h
pass_shifted (suc d) upper [] h = sym (columns_rise-nothing upper)
pass_shifted (suc d) upper (b ∷ lower) h = ap₂ (λ (p q : Bool). p && q) (above_zero b) (pass_shifted d upper lower h)

pass_zeros : (c : ℕ) (v w : List ℕ) → pass_by_place may_stand_above (replicate c 0 ++ v) (replicate c 0 ++ w) ≡ pass_by_place may_stand_above v w
pass_zeros zero v w = refl
pass_zeros (suc c) v w = pass_zeros c v w

zeros_split : (c d : ℕ) (v : List ℕ) → replicate (c + d) 0 ++ v ≡ replicate c 0 ++ (replicate d 0 ++ v)
zeros_split zero d v = let e : 0 + d ≡ d = omega arith in ap (λ k. replicate k 0 ++ v) e
zeros_split (suc c) d v = let e : suc c + d ≡ suc (c + d) = omega arith in ap (λ k. replicate k 0 ++ v) e ∙ ap (λ l. 0 ∷ l) (zeros_split c d v)

pass_padded : (b c : ℕ) (upper lower : List ℕ) → c ≤ b → ArePositive upper
    → pass_by_place may_stand_above (replicate b 0 ++ upper) (replicate c 0 ++ lower) ≡ columns_rise upper (drop (b - c) lower)
pass_padded b c upper lower h p =
    let e : b ≡ c + (b - c) = omega arith in
    ap (λ (v : List ℕ). pass_by_place may_stand_above v (replicate c 0 ++ lower)) (ap (λ k. replicate k 0 ++ upper) e ∙ zeros_split c (b - c) upper)
    ∙ pass_zeros c (replicate (b - c) 0 ++ upper) lower
    ∙ pass_shifted (b - c) upper lower p

-- all letters of all rows of the filling are positive
abbrev pub ArePositiveRows : List (List ℕ) → Type 0
ArePositiveRows [] = Unit {0}
ArePositiveRows (row ∷ rows) = ArePositive row × ArePositiveRows rows

falls_first : (inner : List ℕ) → Falls inner → part inner 2 ≤ part inner 1
falls_first [] f = omega arith
falls_first (b ∷ []) f = omega arith
falls_first (b ∷ c ∷ inner) f = f.0

pub padded-semistandard : (inner : List ℕ) (rows : List (List ℕ)) → Falls inner → ArePositiveRows rows → is_padded_tableau (padded inner rows) ≡ semistandard inner rows
padded-semistandard inner [] f p = refl
padded-semistandard inner (row ∷ []) f p = search (rules, zeros_first, chain_row, pass-nothing, and-true)
padded-semistandard inner (row ∷ lower ∷ rows) f p =
    search (rules, zeros_first, chain_row, pass_padded, part-drop, falls_first, falls_after, and_assoc, (padded-semistandard (drop 1 inner) (lower ∷ rows) (falls_after inner f) p.1))
