-- The sum over a list does not depend on the order of its elements.
use Rattle.std.proofs.Common.{◌≡◌, ℕ, suc, List, [], ◌∷◌, refl, sym, ap₂, ◌∙◌, arith, ℤ, pos, negsuc, ◌-ℤ◌}
use Rattle.std.specs.List.Sorted.{IsPermutation}
use Rattle.std.proofs.lemmas.Int.{ints}
use Rattle.std.proofs.lemmas.List.Sorted.{sum_by-IsPermutation}
use Rattle.std.specs.List.{sum_by}
use Rattle.std.proofs.lemmas.List.Sums.{sum_by-cons}
use Rattle.sym_model.specs.Sum.{total}

abbrev above : ℤ → ℕ
above (pos n) = n
above (negsuc n) = 0

abbrev below : ℤ → ℕ
below (pos n) = 0
below (negsuc n) = suc n

parts : (z : ℤ) → z ≡ pos (above z) -ℤ pos (below z)
parts (pos n) = omega (arith, ints)
parts (negsuc n) = omega (arith, ints)

total_parts : {A : Type 0} (f : A → ℤ) (xs : List A) → total f xs ≡ pos (sum_by (λ x. above (f x)) xs) -ℤ pos (sum_by (λ x. below (f x)) xs)
total_parts f [] = refl
total_parts f (x ∷ xs) =
    let h = total_parts f xs in
    let e = parts (f x) in
    let a = sum_by-cons (λ x. above (f x)) x xs in
    let b = sum_by-cons (λ x. below (f x)) x xs in
    omega (arith, ints)

pub total_permuted : {A : Type 0} (f : A → ℤ) (xs ys : List A) → IsPermutation xs ys → total f ys ≡ total f xs
total_permuted f xs ys p =
    total_parts f ys
    ∙ ap₂ (λ m n. pos m -ℤ pos n) (sum_by-IsPermutation (λ x. above (f x)) xs ys p) (sum_by-IsPermutation (λ x. below (f x)) xs ys p)
    ∙ sym (total_parts f xs)
