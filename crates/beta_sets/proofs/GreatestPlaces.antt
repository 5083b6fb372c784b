-- The places of the binary digits 1 of a number, from the greatest one on.
--     numbers-greatest, split_at  the greatest place, and the other places
--     places_strict               the places are strictly decreasing
use Rattle.std.proofs.Common.{◌≡◌, ◌⊎◌, ℕ, zero, suc, ◌+◌, ◌-◌, ◌*◌, ◌/◌, ◌%◌, ◌^◌, ◌<◌, ◌≤◌, Bool, true, false, List, [], ◌∷◌, ◌++◌, map, refl, sym, ap, ap₂, ◌∙◌, subst, inl, inr, arith}
use Rattle.std.specs.Prelude.{nat_eq}
use Rattle.std.proofs.lemmas.Bool.{cases_lt}
use Rattle.std.proofs.lemmas.Nat.Bits.{bit_at_above}
use Rattle.sym_model.specs.Bases.{has}
use Rattle.beta_list_laws.specs.StrictFall.{FallsStrictly}
use Rattle.beta_sets.specs.BetaSets.{numbers, places, IsSplit}
use Rattle.beta_sets.proofs.BinaryPlaces.{lowest, places-suc, places-none, places-more, has-places}
use Rattle.beta_sets.proofs.BetaSets.{below_power}

pub places-enough : (d k n : ℕ) → n < 2 ^ k → places (d + k) n ≡ places k n
places-enough zero k n h = ap (λ m. places m n) (let e : 0 + k ≡ k = omega arith in e)
places-enough (suc d) k n h =
    ap (λ m. places m n) (let e : suc d + k ≡ suc (d + k) = omega arith in e)
    ∙ places-more (d + k) n (below_power n k (d + k) h (omega arith))
    ∙ places-enough d k n h

places-one : (k m : ℕ) → m < 2 ^ k → places (suc k) (m + 2 ^ k) ≡ k ∷ places k m
places-one zero m h =
    let z : m ≡ 0 = omega arith in
    let r : (m + 2 ^ 0) % 2 ≡ 1 = omega arith in
    places-suc zero (m + 2 ^ 0)
    ∙ ap₂ (λ xs r. map suc xs ++ lowest (nat_eq r 1)) (places-none ((m + 2 ^ 0) / 2)) r
    ∙ ap (λ xs. 0 ∷ xs) (sym (places-none m))
places-one (suc k) m h =
    let p : 2 ^ suc k ≡ 2 * 2 ^ k = omega arith in
    let q : (m + 2 ^ suc k) / 2 ≡ m / 2 + 2 ^ k = omega arith in
    let r : (m + 2 ^ suc k) % 2 ≡ m % 2 = omega arith in
    places-suc (suc k) (m + 2 ^ suc k)
    ∙ ap₂ (λ n r. map suc (places (suc k) n) ++ lowest (nat_eq r 1)) q r
    ∙ ap (λ xs. map suc xs ++ lowest (nat_eq (m % 2) 1)) (places-one k (m / 2) (omega arith))
    ∙ ap (λ xs. suc k ∷ xs) (sym (places-suc k m))

-- for k < 64 and m < 2^k, the numbers in the set 2^k + m are k and then those in the set m
pub numbers-greatest : (k m : ℕ) → k < 64 → m < 2 ^ k → numbers (2 ^ k + m) ≡ k ∷ numbers m
numbers-greatest k m l h =
    let p : 2 ^ suc k ≡ 2 * 2 ^ k = omega arith in
    let s : 2 ^ k + m ≡ m + 2 ^ k = omega arith in
    ap numbers s
    ∙ ap (λ n. places n (m + 2 ^ k)) (let e : 64 ≡ (63 - k) + suc k = omega arith in e)
    ∙ places-enough (63 - k) (suc k) (m + 2 ^ k) (omega arith)
    ∙ places-one k m h
    ∙ ap (λ xs. k ∷ xs) (sym (ap (λ n. places n m) (let e : 64 ≡ (64 - k) + k = omega arith in e) ∙ places-enough (64 - k) k m h))

pub split_at : (set k : ℕ) → k < 64 → 2 ^ k ≤ set → set < 2 * 2 ^ k → IsSplit set k (set - 2 ^ k)
split_at set k l low high =
    let e : set ≡ 2 ^ k + (set - 2 ^ k) = omega arith in
    record {
      numbers = ap numbers e ∙ numbers-greatest k (set - 2 ^ k) l (omega arith);
      sum = e;
      less = omega arith;
      place = l;
    }

pub numbers-none : numbers 0 ≡ []
numbers-none = ap (λ n. places n 0) (let e : 64 ≡ 64 + 0 = omega arith in e) ∙ places-enough 64 0 0 (omega arith) ∙ places-none 0

raised_strict : (xs : List ℕ) (b : Bool) → FallsStrictly xs → FallsStrictly (map suc xs ++ lowest b)
raised_strict [] true f = tt
raised_strict [] false f = tt
raised_strict (x ∷ []) true f = (omega arith, tt)
raised_strict (x ∷ []) false f = tt
raised_strict (x ∷ y ∷ xs) b f = let h = f.0 in (omega arith, raised_strict (y ∷ xs) b f.1)

pub places_strict : (k n : ℕ) → FallsStrictly (places k n)
places_strict zero n = subst FallsStrictly (sym (places-none n)) tt
places_strict (suc k) n =
    subst FallsStrictly (sym (places-suc k n)) (raised_strict (places k (n / 2)) (nat_eq (n % 2) 1) (places_strict k (n / 2)))

pub digit_low : (set a : ℕ) → a < 64 → has a (numbers set) ≡ true → 2 ^ a ≤ set
digit_low set a l h = by (cases_lt set (2 ^ a))
  where
    by : (set < 2 ^ a) ⊎ (2 ^ a ≤ set) → 2 ^ a ≤ set
    by (inr g) = g
    by (inl g) =
        let z = bit_at_above set a a g (omega arith) in
        let t = sym h ∙ has-places 64 a set l ∙ ap (λ d. nat_eq d 1) z in
        absurd (let f : nat_eq 0 1 ≡ false = refl in cc)
