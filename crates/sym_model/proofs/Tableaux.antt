-- The lengths of the rows of a skew shape, the number of letters of a tableau, and the words that `words` lists.
use Rattle.std.proofs.Common.{List, [], arith, length, refl, ℕ, ◌∷◌, ◌≡◌, ap, suc, ◌++◌, nat_le, true, ◌-◌, get_or, zero, ◌≤◌, map, ◌∙◌, sym, subst, inl, inr}
use Rattle.std.proofs.lemmas.List.{length-append}
use Rattle.std.proofs.lemmas.Bool.{and_from, and_parts}
use Rattle.sym_model.specs.Schur.{letters_of, row_lengths, words, columns_rise}
use Rattle.sym_model.specs.Tableau.{shape_of, are_letters}
use Rattle.sym_model.specs.Partition.{size, after}
use Rattle.sym_model.specs.Sum.{Among}
use Rattle.sym_model.proofs.Sums.{Among_from_map, Among_from_each}
use Rattle.sym_model.proofs.AfterLists.{after_among}
use Rattle.sym_model.specs.Bounded.{AreLetters}

pub length-letters_of : (rows : List (List ℕ)) → length (letters_of rows) ≡ size (shape_of rows)
length-letters_of [] = refl
length-letters_of (row ∷ rows) = omega (arith, length-append row (letters_of rows), length-letters_of rows)

pub length-row_lengths : (outer inner : List ℕ) → length (row_lengths outer inner) ≡ length outer
length-row_lengths [] inner = refl
length-row_lengths (a ∷ outer) [] = ap suc (length-row_lengths outer [])
length-row_lengths (a ∷ outer) (b ∷ inner) = ap suc (length-row_lengths outer inner)

pub are_letters-append : (v w : List ℕ) → are_letters v ≡ true → are_letters w ≡ true → are_letters (v ++ w) ≡ true
are_letters-append [] w p q = q
are_letters-append (a ∷ v) w p q =
    let h = and_parts (nat_le 1 a) (are_letters v) p in
    and_from (nat_le 1 a) (are_letters (v ++ w)) h.0 (are_letters-append v w h.1 q)

pub get_or-row_lengths : (outer inner : List ℕ) (k : ℕ) → get_or (row_lengths outer inner) k 0 ≡ get_or outer k 0 - get_or inner k 0
get_or-row_lengths [] inner k = omega arith
get_or-row_lengths (a ∷ outer) [] zero = omega arith
get_or-row_lengths (a ∷ outer) [] (suc k) = get_or-row_lengths outer [] k
get_or-row_lengths (a ∷ outer) (b ∷ inner) zero = refl
get_or-row_lengths (a ∷ outer) (b ∷ inner) (suc k) = get_or-row_lengths outer inner k

pub row_lengths-none : (parts : List ℕ) → row_lengths parts [] ≡ parts
row_lengths-none [] = refl
row_lengths-none (a ∷ parts) = ap (λ l. a ∷ l) (row_lengths-none parts)

pub word_tells : (n k : ℕ) (w : List ℕ) → Among w (words n k) → (length w ≡ k) × AreLetters n w
word_tells n zero w (inl e) = (ap length e, subst (AreLetters n) (sym e) tt)
word_tells n zero w (inr m) = absurd m
word_tells n (suc k) w m =
    let found = Among_from_each (λ a. map (λ v. a ∷ v) (words n k)) w (after 0 n) m in
    let a = found.0 in
    let past = after_among 0 n a found.1 in
    let tail = Among_from_map (λ v. a ∷ v) w (words n k) found.2 in
    let rest = word_tells n k tail.0 tail.1 in
    let low : 1 ≤ found.0 = omega (arith, past.0) in
    let high : found.0 ≤ n = omega (arith, past.1) in
    (ap length tail.2 ∙ ap suc rest.0, subst (AreLetters n) (sym tail.2) ((low, high), rest.1))

pub columns_rise-nothing : (upper : List ℕ) → columns_rise upper [] ≡ true
columns_rise-nothing [] = refl
columns_rise-nothing (a ∷ upper) = refl
