-- The places of the binary digits 1 of a number (specs/BetaSets).
--     places-more                 the places are the same if more digits above the highest 1 are read
--     places-even, places-odd     the places of 2n, and of 2n + 1
--     places-put                  the places after one more digit 1 is set
--     has-places, length-places, greater-places     membership in the places, their number, and the number of those above a given one
--     places-top                  the places of the k + 1 lowest digits: the highest one, and those of the k lowest digits
use Rattle.std.proofs.Common.{◌≡◌, ℕ, zero, suc, ◌+◌, ◌*◌, ◌/◌, ◌%◌, ◌^◌, ◌<◌, ◌≤◌, nat_le, Bool, true, false, ◌==◌, ◌||◌, cond, List, [], ◌∷◌, ◌++◌, map, length, refl, sym, ap, ap₂, ◌∙◌, arith, length-append}
use Rattle.std.specs.Prelude.{nat_eq, nat_lt, count_ones}
use Rattle.std.specs.Int.{bit_at}
use Rattle.std.proofs.lemmas.Nat.{ones_le_self, shr-shr, shr_le}
use Rattle.std.proofs.lemmas.Nat.Bits.{bit_at-suc, bit_at_lowest}
use Rattle.std.proofs.lemmas.Bool.Decides.{nat_tests}
use Rattle.std.proofs.lemmas.List.{append-nil, length-map}
use Rattle.sym_model.specs.Bases.{has}
use Rattle.sym_model.specs.BetaList.{put_falling, greater}
use Rattle.beta_sets.specs.BetaSets.{places}
use lib.Count.{ones_step}

-- the list of the one place 0 if the lowest binary digit is 1, otherwise the empty list
abbrev pub lowest : Bool → List ℕ
lowest b = cond b (0 ∷ []) []

pub places-suc : (k n : ℕ) → places (suc k) n ≡ map suc (places k (n / 2)) ++ lowest (nat_eq (n % 2) 1)
unfolding places
places-suc k n = refl

pub places-none : (n : ℕ) → places zero n ≡ []
unfolding places
places-none n = refl

pub places-more : (k n : ℕ) → n < 2 ^ k → places (suc k) n ≡ places k n
places-more zero n h =
    let z : n ≡ 0 = omega arith in
    places-suc zero n ∙ ap₂ (λ xs b. map suc xs ++ lowest b) (places-none (n / 2)) (ap (λ m. nat_eq (m % 2) 1) z) ∙ sym (places-none n)
places-more (suc k) n h =
    places-suc (suc k) n
    ∙ ap (λ xs. map suc xs ++ lowest (nat_eq (n % 2) 1)) (places-more k (n / 2) (omega arith))
    ∙ sym (places-suc k n)

pub places-even : (k n : ℕ) → places (suc k) (2 * n) ≡ map suc (places k n)
places-even k n =
    let h : (2 * n) / 2 ≡ n = omega arith in
    let r : (2 * n) % 2 ≡ 0 = omega arith in
    places-suc k (2 * n) ∙ ap₂ (λ m r. map suc (places k m) ++ lowest (nat_eq r 1)) h r ∙ append-nil (map suc (places k n))

pub places-odd : (k n : ℕ) → places (suc k) (2 * n + 1) ≡ map suc (places k n) ++ 0 ∷ []
places-odd k n =
    let h : (2 * n + 1) / 2 ≡ n = omega arith in
    let r : (2 * n + 1) % 2 ≡ 1 = omega arith in
    places-suc k (2 * n + 1) ∙ ap₂ (λ m r. map suc (places k m) ++ lowest (nat_eq r 1)) h r

put-zero : (xs : List ℕ) → put_falling 0 (map suc xs) ≡ map suc xs ++ 0 ∷ []
put-zero [] = refl
put-zero (x ∷ xs) = let e : nat_le (suc x) 0 ≡ false = grind (arith, nat_tests) in ap (λ b. cond b (0 ∷ suc x ∷ map suc xs) (suc x ∷ put_falling 0 (map suc xs))) e ∙ ap (λ l. suc x ∷ l) (put-zero xs)

put-suc : (a : ℕ) (xs : List ℕ) (b : Bool) → put_falling (suc a) (map suc xs ++ lowest b) ≡ map suc (put_falling a xs) ++ lowest b
put-suc a [] true = let e : nat_le 0 (suc a) ≡ true = grind (arith, nat_tests) in ap (λ b. cond b (suc a ∷ 0 ∷ []) (0 ∷ suc a ∷ [])) e
put-suc a [] false = refl
put-suc a (x ∷ xs) b =
    let e : nat_le (suc x) (suc a) ≡ nat_le x a = grind (arith, nat_tests) in
    ap (λ t. cond t (suc a ∷ suc x ∷ map suc xs ++ lowest b) (suc x ∷ put_falling (suc a) (map suc xs ++ lowest b))) e
    ∙ either (put-suc a xs b) (nat_le x a)
  where
    either : put_falling (suc a) (map suc xs ++ lowest b) ≡ map suc (put_falling a xs) ++ lowest b → (t : Bool)
        → cond t (suc a ∷ suc x ∷ map suc xs ++ lowest b) (suc x ∷ put_falling (suc a) (map suc xs ++ lowest b)) ≡ map suc (cond t (a ∷ x ∷ xs) (x ∷ put_falling a xs)) ++ lowest b
    either r true = refl
    either r false = ap (λ l. suc x ∷ l) r

pub places-put : (k a n : ℕ) → a < k → bit_at n a ≡ 0 → places k (n + 2 ^ a) ≡ put_falling a (places k n)
places-put zero a n l z = absurd (omega arith)
places-put (suc k) zero n l z =
    let e : n % 2 ≡ 0 = sym (bit_at_lowest n) ∙ z in
    let h : (n + 2 ^ 0) / 2 ≡ n / 2 = omega arith in
    let r : (n + 2 ^ 0) % 2 ≡ 1 = omega arith in
    places-suc k (n + 2 ^ 0)
    ∙ ap₂ (λ m r. map suc (places k m) ++ lowest (nat_eq r 1)) h r
    ∙ sym (put-zero (places k (n / 2)))
    ∙ ap (put_falling 0) (sym (append-nil (map suc (places k (n / 2)))) ∙ ap (λ r. map suc (places k (n / 2)) ++ lowest (nat_eq r 1)) (sym e) ∙ sym (places-suc k n))
places-put (suc k) (suc a) n l z =
    let p : 2 ^ suc a ≡ 2 * 2 ^ a = omega arith in
    let h : (n + 2 ^ suc a) / 2 ≡ n / 2 + 2 ^ a = omega arith in
    let r : (n + 2 ^ suc a) % 2 ≡ n % 2 = omega arith in
    places-suc k (n + 2 ^ suc a)
    ∙ ap₂ (λ m r. map suc (places k m) ++ lowest (nat_eq r 1)) h r
    ∙ ap (λ xs. map suc xs ++ lowest (nat_eq (n % 2) 1)) (places-put k a (n / 2) (omega arith) (sym (bit_at-suc n a) ∙ z))
    ∙ sym (put-suc a (places k (n / 2)) (nat_eq (n % 2) 1))
    ∙ ap (put_falling (suc a)) (sym (places-suc k n))

-- ---- membership in the places of the digits 1, and the number of these places

has-zero : (xs : List ℕ) (b : Bool) → has 0 (map suc xs ++ lowest b) ≡ b
has-zero [] true = refl
has-zero [] false = refl
has-zero (x ∷ xs) b = let e : (suc x == 0) ≡ false = grind (arith, nat_tests) in ap (λ t. t || has 0 (map suc xs ++ lowest b)) e ∙ has-zero xs b

has-suc : (a : ℕ) (xs : List ℕ) (b : Bool) → has (suc a) (map suc xs ++ lowest b) ≡ has a xs
has-suc a [] true = let e : (0 == suc a) ≡ false = grind (arith, nat_tests) in ap (λ t. t || false) e
has-suc a [] false = refl
has-suc a (x ∷ xs) b = let e : (suc x == suc a) ≡ (x == a) = grind (arith, nat_tests) in ap₂ ◌||◌ e (has-suc a xs b)

pub has-places : (k a n : ℕ) → a < k → has a (places k n) ≡ nat_eq (bit_at n a) 1
has-places zero a n l = absurd (omega arith)
has-places (suc k) zero n l = ap (has 0) (places-suc k n) ∙ has-zero (places k (n / 2)) (nat_eq (n % 2) 1) ∙ ap (λ r. nat_eq r 1) (sym (bit_at_lowest n))
has-places (suc k) (suc a) n l =
    ap (has (suc a)) (places-suc k n) ∙ has-suc a (places k (n / 2)) (nat_eq (n % 2) 1) ∙ has-places k a (n / 2) (omega arith) ∙ ap (λ r. nat_eq r 1) (sym (bit_at-suc n a))

length-lowest : (n : ℕ) → length (lowest (nat_eq (n % 2) 1)) ≡ n % 2
length-lowest n = by (n % 2) (let l : n % 2 < 2 = omega arith in l)
  where
    by : (r : ℕ) → r < 2 → length (lowest (nat_eq r 1)) ≡ r
    by zero l = refl
    by (suc zero) l = refl
    by (suc (suc r)) l = absurd (omega arith)

ones-none : (n : ℕ) → n ≡ 0 → count_ones n ≡ 0
ones-none n e = let h = ones_le_self n in omega arith

pub length-places : (k n : ℕ) → n < 2 ^ k → length (places k n) ≡ count_ones n
length-places zero n h = ap length (places-none n) ∙ sym (ones-none n (omega arith))
length-places (suc k) n h =
    let l = length-append (map suc (places k (n / 2))) (lowest (nat_eq (n % 2) 1)) in
    let m = length-map (places k (n / 2)) suc in
    let r = length-places k (n / 2) (omega arith) in
    let t = length-lowest n in
    let s = ones_step n in
    ap length (places-suc k n) ∙ (omega arith)

greater-lowest : (xs : List ℕ) (b : Bool) → greater 0 (map suc xs ++ lowest b) ≡ length xs
greater-lowest [] true = let e : nat_lt 0 0 ≡ false = grind (arith, nat_tests) in ap (λ t. cond {A = ℕ} t 1 0 + 0) e
greater-lowest [] false = refl
greater-lowest (x ∷ xs) b = let e : nat_lt 0 (suc x) ≡ true = grind (arith, nat_tests) in let r = greater-lowest xs b in ap (λ t. cond {A = ℕ} t 1 0 + greater 0 (map suc xs ++ lowest b)) e ∙ (omega arith)

greater-suc : (a : ℕ) (xs : List ℕ) (b : Bool) → greater (suc a) (map suc xs ++ lowest b) ≡ greater a xs
greater-suc a [] true = let e : nat_lt (suc a) 0 ≡ false = grind (arith, nat_tests) in ap (λ t. cond {A = ℕ} t 1 0 + 0) e
greater-suc a [] false = refl
greater-suc a (x ∷ xs) b = let e : nat_lt (suc a) (suc x) ≡ nat_lt a x = grind (arith, nat_tests) in ap₂ (λ t m. cond {A = ℕ} t 1 0 + m) e (greater-suc a xs b)

pub greater-places : (k a n : ℕ) → n < 2 ^ k → greater a (places k n) ≡ count_ones (n / 2 ^ a / 2)
greater-places zero a n h =
    let z : n ≡ 0 = omega arith in
    let l = shr_le n a in
    ap (greater a) (places-none n) ∙ sym (ones-none (n / 2 ^ a / 2) (omega arith))
greater-places (suc k) zero n h =
    let e : n / 2 ^ 0 / 2 ≡ n / 2 = omega arith in
    ap (greater 0) (places-suc k n) ∙ greater-lowest (places k (n / 2)) (nat_eq (n % 2) 1) ∙ length-places k (n / 2) (omega arith) ∙ ap count_ones (sym e)
greater-places (suc k) (suc a) n h =
    ap (greater (suc a)) (places-suc k n) ∙ greater-suc a (places k (n / 2)) (nat_eq (n % 2) 1) ∙ greater-places k a (n / 2) (omega arith)
    ∙ ap (λ m. count_ones (m / 2)) (shr-shr n 1 a ∙ ap (λ j. n / 2 ^ j) (let e : 1 + a ≡ suc a = omega arith in e))

pub places-top : (k n : ℕ) → places (suc k) n ≡ cond (nat_eq (bit_at n k) 1) (k ∷ []) [] ++ places k n
places-top zero n =
    places-suc zero n ∙ ap (λ xs. map suc xs ++ lowest (nat_eq (n % 2) 1)) (places-none (n / 2))
    ∙ ap (λ r. lowest (nat_eq r 1)) (sym (bit_at_lowest n))
    ∙ sym (append-nil (lowest (nat_eq (bit_at n 0) 1)))
    ∙ ap (λ xs. lowest (nat_eq (bit_at n 0) 1) ++ xs) (sym (places-none n))
places-top (suc k) n =
    places-suc (suc k) n
    ∙ ap (λ xs. map suc xs ++ lowest (nat_eq (n % 2) 1)) (places-top k (n / 2))
    ∙ either (nat_eq (bit_at (n / 2) k) 1)
    ∙ ap₂ (λ b xs. cond b (suc k ∷ []) [] ++ xs) (ap (λ r. nat_eq r 1) (sym (bit_at-suc n k))) (sym (places-suc k n))
  where
    either : (b : Bool) → map suc (cond b (k ∷ []) [] ++ places k (n / 2)) ++ lowest (nat_eq (n % 2) 1) ≡ cond b (suc k ∷ []) [] ++ (map suc (places k (n / 2)) ++ lowest (nat_eq (n % 2) 1))
    either true = refl
    either false = refl

pub length-bound : (k n : ℕ) → length (places k n) ≤ k
length-bound zero n = let e = ap length (places-none n) in omega arith
length-bound (suc k) n =
    let e = ap length (places-suc k n) in
    let l = length-append (map suc (places k (n / 2))) (lowest (nat_eq (n % 2) 1)) in
    let m = length-map (places k (n / 2)) suc in
    let r = length-bound k (n / 2) in
    let t = length-lowest n in
    omega arith
