-- The growth shapes of a permutation of at most 255 letters are partitions of at most 255 cells.
use Rattle.std.proofs.Common.{◌≡◌, ℕ, suc, ◌≤◌, Bool, true, false, cond, nat_le, List, [], ◌∷◌, length, take, sym, subst, arith}
use Rattle.std.proofs.lemmas.Bool.{and_from, and_parts}
use Rattle.std.proofs.lemmas.List.{length-take-le}
use Rattle.sym_model.specs.Insertion.{insertion_pair}
use Rattle.sym_model.specs.Partition.{size}
use Rattle.sym_model.specs.Permutation.{IsOneLine}
use Rattle.sym_model.specs.Tableau.{are_letters, shape_of}
use Rattle.sym_model.proofs.SortedParts.{rows_within_size}
use Rattle.insertion_laws.proofs.SlidLetters.{letters-taken}
use Rattle.insertion_laws.proofs.WordsAndPairs.{inserted_tableau, as_many_cells}
use Rattle.partitions.specs.Limits.{IsWithinLimits}
use Rattle.sym_model.specs.Growth.{at_most, growth_shape}
use Rattle.growth_diagrams.proofs.GrowthPairs.{growth-shape, perm_from}
use Rattle.sym_model.proofs.Sums.{letters_among}

few_at_most : (j : ℕ) (w : List ℕ) → length (at_most j w) ≤ length w
few_at_most j [] = omega arith
few_at_most j (a ∷ w) = by (nat_le a j) (few_at_most j w)
  where
    by : (t : Bool) → length (at_most j w) ≤ length w → length (cond t (a ∷ at_most j w) (at_most j w)) ≤ suc (length w)
    by true h = omega arith
    by false h = omega arith

letters_at_most : (j : ℕ) (w : List ℕ) → are_letters w ≡ true → are_letters (at_most j w) ≡ true
letters_at_most j [] h = h
letters_at_most j (a ∷ w) h =
    let p = and_parts (nat_le 1 a) (are_letters w) h in by (nat_le a j) (letters_at_most j w p.1)
  where
    by : (t : Bool) → are_letters (at_most j w) ≡ true → are_letters (cond t (a ∷ at_most j w) (at_most j w)) ≡ true
    by true r = and_from (nat_le 1 a) (are_letters (at_most j w)) (and_parts (nat_le 1 a) (are_letters w) h).0 r
    by false r = r

pub shape-limits : (w : List ℕ) (i j : ℕ) → IsOneLine w → length w ≤ 255 → i ≤ length w → j ≤ length w → IsWithinLimits (growth_shape w i j)
shape-limits w i j h f l m =
    let v = at_most j (take i w) in
    let letters = letters_at_most j (take i w) (letters-taken i w (letters_among w (λ a n. (h.letters a n).0))) in
    let t = inserted_tableau v letters in
    let small : size (shape_of (insertion_pair v).0) ≤ 255 =
    omega (arith, as_many_cells v, few_at_most j (take i w), length-take-le i w l) in
    subst IsWithinLimits (sym (growth-shape w i j (perm_from w h) l m))
    (record {
      partition = t.outside;
      few = omega (arith, rows_within_size (shape_of (insertion_pair v).0) t.outside.positive);
      small = omega arith;
    })
