-- The reduction of a strictly decreasing list into the alcove repeats one step, for a fixed number n: subtract n from the first entry, add n to the
-- last entry (a reflection), and sort. Its definition bounds the number of reflections. The lemmas show that this bound is never reached.
--     `squares_fall`     if n is less than the spread (first entry minus last), a reflection lowers the sum of the squares of the entries
--     `enough`           any two bounds greater than the sum of the squares of the entries give the same result
--     `reflect_again`    reducing b has the same result as reflecting and sorting b and then reducing, up to the sign of sorting
use Rattle.std.proofs.Common.{◌≡◌, ℕ, zero, suc, ◌+◌, ◌-◌, ◌*◌, ◌<◌, ◌≤◌, nat_lt, true, false, List, [], ◌∷◌, length, get_or, sym, ◌∙◌, ap, refl, inl, inr, ◌⊎◌, arith, pos, Some, None, rules}
use Rattle.std.proofs.lemmas.Bool.{cases_Bool, cases_lt}
use Rattle.std.proofs.lemmas.Bool.Decides.{nat_tests}
use Rattle.sym_model.specs.Partition.{part}
use Rattle.sym_model.specs.BetaList.{has_equal_entries, put_falling, sorted_falling, sorting_sign}
use Rattle.sym_model.specs.AlcoveReduction.{spread, squares, last_raised, reflected, with_sign, reflected_within, reflected_into_alcove}
use Rattle.std.proofs.Math.Nat.{mul-pos}

-- ---- the sum of the squares of the entries of a list

squares_put : (a : ℕ) (b : List ℕ) → squares (put_falling a b) ≡ a * a + squares b
squares_put a [] = refl
squares_put a (c ∷ b) = search (rules, (squares_put a b))

pub squares_sorted : (b : List ℕ) → squares (sorted_falling b) ≡ squares b
squares_sorted [] = refl
squares_sorted (a ∷ b) = squares_put a (sorted_falling b) ∙ ap (λ n. a * a + n) (squares_sorted b)

-- the last entry of the list a ∷ b
abbrev pub last_of : ℕ → List ℕ → ℕ
last_of a [] = a
last_of a (c ∷ b) = last_of c b

pub last_is : (a : ℕ) (b : List ℕ) → get_or (a ∷ b) (length b) 0 ≡ last_of a b
last_is a [] = refl
last_is a (c ∷ b) = last_is c b

part_last : (a : ℕ) (b : List ℕ) → part (a ∷ b) (length (a ∷ b)) ≡ last_of a b
part_last a b = let e : length (a ∷ b) - 1 ≡ length b = omega arith in ap (λ k. get_or (a ∷ b) k 0) e ∙ last_is a b

squares_raised : (n a : ℕ) (b : List ℕ) → squares (last_raised n (a ∷ b)) + last_of a b * last_of a b ≡ squares (a ∷ b) + (last_of a b + n) * (last_of a b + n)
squares_raised n a [] = omega arith
squares_raised n a (c ∷ b) = let e = squares_raised n c b in omega (arith, e)

closer : (a l n d : ℕ) → a ≡ l + n + d → 1 ≤ n * d → (a - n) * (a - n) + (l + n) * (l + n) < a * a + l * l
closer a l n d e h =
    let p : a - n ≡ l + d = omega arith in
    rw (p, e) (omega (arith, h))

pub squares_fall : (n : ℕ) (b : List ℕ) → 1 ≤ n → n < spread b → squares (reflected n b) < squares b
squares_fall n [] h g = absurd (omega (arith, g))
squares_fall n (a ∷ []) h g = absurd (let e = part_last a [] in omega (arith, g))
squares_fall n (a ∷ c ∷ b) h g =
    let e = part_last a (c ∷ b) in
    let r = squares_raised n c b in
    let far : n < a - last_of c b = omega (arith, g, e) in
    let d = a - last_of c b - n in
    let s = closer a (last_of c b) n d (omega (arith, far)) (mul-pos h (omega (arith, far))) in
    omega (arith, r, s)

-- ---- the reduction with a bound for the number of reflections

step_again : (steps n : ℕ) (b : List ℕ) → n < spread b → has_equal_entries (reflected n b) ≡ false
    → reflected_within (suc steps) n b ≡ with_sign (sorting_sign (reflected n b)) (reflected_within steps n (sorted_falling (reflected n b)))
step_again steps n b h e = search rules

step_wall : (steps n : ℕ) (b : List ℕ) → spread b ≡ n → reflected_within (suc steps) n b ≡ None
step_wall steps n b h = search rules

step_equal : (steps n : ℕ) (b : List ℕ) → n < spread b → has_equal_entries (reflected n b) ≡ true → reflected_within (suc steps) n b ≡ None
step_equal steps n b h e = search rules

step_stays : (steps n : ℕ) (b : List ℕ) → spread b < n → reflected_within (suc steps) n b ≡ Some (b, pos 1)
step_stays steps n b h = let p : nat_lt (spread b) n ≡ true = grind (arith, nat_tests) in rw p refl

-- if s and t are greater than the sum of the squares of the entries of b, the reduction of b with at most s reflections and the reduction with at
-- most t reflections have the same result
pub enough : (s t n : ℕ) (b : List ℕ) → 1 ≤ n → squares b < s → squares b < t → reflected_within s n b ≡ reflected_within t n b
enough zero t n b h p q = absurd (omega arith)
enough (suc s) zero n b h p q = absurd (omega arith)
enough (suc s) (suc t) n b h p q =
    by (cases_lt (spread b) n) (cases_lt n (spread b)) (cases_Bool (has_equal_entries (reflected n b)))
    (λ less. enough s t n (sorted_falling (reflected n b)) h (less s p) (less t q))
  where
    below : n < spread b → (k : ℕ) → squares b < suc k → squares (sorted_falling (reflected n b)) < k
    below g k c = let e = squares_sorted (reflected n b) in let f = squares_fall n b h g in omega (arith, e, f)

    by : (spread b < n) ⊎ (n ≤ spread b) → (n < spread b) ⊎ (spread b ≤ n)
        → (has_equal_entries (reflected n b) ≡ true) ⊎ (has_equal_entries (reflected n b) ≡ false)
        → (((k : ℕ) → squares b < suc k → squares (sorted_falling (reflected n b)) < k)
        → reflected_within s n (sorted_falling (reflected n b)) ≡ reflected_within t n (sorted_falling (reflected n b)))
        → reflected_within (suc s) n b ≡ reflected_within (suc t) n b
    by (inl a) c d later = step_stays s n b a ∙ sym (step_stays t n b a)
    by (inr a) (inr c) d later = let e : spread b ≡ n = omega (arith, a, c) in step_wall s n b e ∙ sym (step_wall t n b e)
    by (inr a) (inl c) (inl d) later = step_equal s n b c d ∙ sym (step_equal t n b c d)
    by (inr a) (inl c) (inr d) later =
        step_again s n b c d
        ∙ ap (with_sign (sorting_sign (reflected n b))) (later (below c))
        ∙ sym (step_again t n b c d)

-- ---- the reduction into the alcove

pub reflect_stays : (n : ℕ) (b : List ℕ) → spread b < n → reflected_into_alcove n b ≡ Some (b, pos 1)
reflect_stays n b h = step_stays (squares b) n b h

pub reflect_wall : (n : ℕ) (b : List ℕ) → spread b ≡ n → reflected_into_alcove n b ≡ None
reflect_wall n b h = step_wall (squares b) n b h

pub reflect_equal : (n : ℕ) (b : List ℕ) → n < spread b → has_equal_entries (reflected n b) ≡ true → reflected_into_alcove n b ≡ None
reflect_equal n b h e = step_equal (squares b) n b h e

pub reflect_again : (n : ℕ) (b : List ℕ) → 1 ≤ n → n < spread b → has_equal_entries (reflected n b) ≡ false
    → reflected_into_alcove n b ≡ with_sign (sorting_sign (reflected n b)) (reflected_into_alcove n (sorted_falling (reflected n b)))
reflect_again n b h g e = search (rules, squares_sorted, squares_fall, step_again, enough)
