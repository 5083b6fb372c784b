-- The combination of a list of numbers into one number for hashing, one number of the list after another.
use Rattle.std.proofs.Common.{◌≡◌, ℕ, zero, suc, ◌+◌, ◌*◌, ◌%◌, ◌^◌, ◌<◌, ◌≤◌, List, [], ◌∷◌, length, drop, get_or, refl, ap, ◌∙◌, arith}
use Rattle.calc_base.specs.Mixing.{mixed}

pub mixed_next : (xs : List ℕ) (i sum : ℕ) → i < length xs → mixed sum (drop i xs) ≡ mixed (((sum * 1000003) % 2 ^ 64 + get_or xs i 0) % 2 ^ 64) (drop (i + 1) xs)
mixed_next [] i sum l = absurd (omega arith)
mixed_next (x ∷ xs) zero sum l = refl
mixed_next (x ∷ xs) (suc i) sum l =
    let e : suc (i + 1) ≡ suc i + 1 = omega arith in
    mixed_next xs i sum (omega arith) ∙ ap (λ j. mixed (((sum * 1000003) % 2 ^ 64 + get_or xs i 0) % 2 ^ 64) (drop j (x ∷ xs))) e

pub mixed_all : (xs : List ℕ) (i sum : ℕ) → length xs ≤ i → mixed sum (drop i xs) ≡ sum
mixed_all [] zero sum l = refl
mixed_all [] (suc i) sum l = refl
mixed_all (x ∷ xs) zero sum l = absurd (omega arith)
mixed_all (x ∷ xs) (suc i) sum l = mixed_all xs i sum (omega arith)
