-- Lists of numbers that the test `is_permutation_label` accepts are permutations.
use Rattle.std.proofs.Common.{◌≡◌, ℕ, ◌≤◌, true, false, ◌&&◌, not, List, [], ◌∷◌, length, inl, inr, arith, leb}
use Rattle.std.proofs.lemmas.Bool.{and_parts, leb-true, or_parts, not-true}
use Rattle.sym_model.specs.Sum.{Among, Once}
use Rattle.sym_model.specs.Bases.{has}
use Rattle.sym_model.specs.BetaList.{has_equal_entries}
use Rattle.sym_model.specs.Permutation.{IsOneLine}
use Rattle.sym_model.specs.LabelLimits.{are_letters, is_permutation_label}
use Rattle.sym_model.proofs.SortedParts.{has-among}

letters_tell : (n : ℕ) (w : List ℕ) → are_letters n w ≡ true → (a : ℕ) → Among a w → (1 ≤ a) × (a ≤ n)
letters_tell n [] h a m = absurd m
letters_tell n (b ∷ w) h a (inl e) =
    let p = and_parts (leb 1 b && leb b n) (are_letters n w) h in
    let q = and_parts (leb 1 b) (leb b n) p.0 in
    let l = leb-true 1 b q.0 in
    let u = leb-true b n q.1 in
    (omega arith, omega arith)
letters_tell n (b ∷ w) h a (inr m) = letters_tell n w (and_parts (leb 1 b && leb b n) (are_letters n w) h).1 a m

once_tells : (w : List ℕ) → has_equal_entries w ≡ false → Once w
once_tells [] h = tt
once_tells (a ∷ w) h =
    let p = or_parts (has a w) (has_equal_entries w) h in
    (λ m. let t = has-among a w m in let f = p.0 in cc, once_tells w p.1)

pub label_one_line : (w : List ℕ) → is_permutation_label w ≡ true → IsOneLine w
label_one_line w h =
    let a = (and_parts _ _ h).0 in
    let b = (and_parts _ _ a).0 in
    let c = (and_parts _ _ b).0 in
    let d = and_parts (are_letters (length w) w) (not (has_equal_entries w)) c in
    record { letters = letters_tell (length w) w d.0; once = once_tells w (not-true (has_equal_entries w) d.1) }

pub one_one_line : IsOneLine (1 ∷ [])
one_one_line = record { letters = λ a m. elim m [ inl e ↦ (omega arith, omega arith) | inr k ↦ absurd k ]; once = ((λ m. m), tt) }
