-- A monomial times a variable: its exponents with one of them increased by 1.
--     set-raised          zeros appended to the exponents, and 1 added at an index
--     HasDegree-raised    the product is within the limits of a monomial
use Rattle.std.proofs.Common.{◌≡◌, ◌⊎◌, ℕ, zero, suc, ◌+◌, ◌-◌, ◌<◌, ◌≤◌, max, List, [], ◌∷◌, ◌++◌, length, get_or, set, take, drop, refl, sym, ap, ap₂, ◌∙◌, arith, add-one, add-zero, append-nil, length-append, take_all, rules}
use Rattle.std.specs.List.{refill}
use Rattle.std.proofs.lemmas.List.{length-replicate, take-append-le, length-append}
use Rattle.sym_model.specs.Polynomial.{join, no_exponents}
use Rattle.sym_model.specs.Partition.{size, in_front, without_last_zeros}
use Rattle.sym_model.proofs.Exponents.{join-nil, join_zeros, length-join, size-join}
use Rattle.sym_model.proofs.Parts.{in_front-more}
use Rattle.sparse_polys.specs.Limits.{HasDegree}
use Rattle.sparse_polys.specs.Raised.{raised}
use Rattle.sparse_polys.proofs.ExponentOrder.{front_tail}

-- the exponents of the variable x_(k+1)
abbrev unit : ℕ → List ℕ
unit k = no_exponents k ++ (1 ∷ [])

set-unit : (at : ℕ) (x : List ℕ) → at < length x → set x at (get_or x at 0 + 1) ≡ join x (unit at)
set-unit at [] h = absurd (omega arith)
set-unit zero (a ∷ x) h = ap (λ y. (a + 1) ∷ y) (sym (join-nil x))
set-unit (suc at) (a ∷ x) h = ap₂ ◌∷◌ (sym (add-zero a)) (set-unit at x (omega arith))

length-unit : (k : ℕ) → length (unit k) ≡ k + 1
length-unit k = omega (arith, length-append (no_exponents k) (1 ∷ []), length-replicate {A = ℕ} k 0)

join-padded : (k at : ℕ) (e : List ℕ) → length (e ++ no_exponents k) ≤ at + 1 → join (e ++ no_exponents k) (unit at) ≡ join e (unit at)
join-padded k at [] h = join_zeros k (unit at) (omega (arith, length-unit at, length-replicate {A = ℕ} k 0))
join-padded zero zero (a ∷ e) h = ap (λ y. join (a ∷ y) (unit 0)) (append-nil e)
join-padded (suc k) zero (a ∷ e) h = absurd (omega (arith, length-append e (no_exponents (suc k)), length-replicate {A = ℕ} (suc k) 0))
join-padded k (suc at) (a ∷ e) h = ap (λ y. (a + 0) ∷ y) (join-padded k at e (omega arith))

pub set-raised : (k at : ℕ) (old x : List ℕ) → x ≡ old ++ no_exponents k → (k ≡ 0) ⊎ (length x ≤ at + 1) → at < length x
    → set x at (get_or x at 0 + 1) ≡ raised (at + 1) old
set-raised k at old x e p h = search (rules, set-unit, append-nil, join-padded)

-- the list x is not empty
abbrev IsSome : List ℕ → Type 0
IsSome x = (b : ℕ) × (y : List ℕ) × (x ≡ b ∷ y)

in_front-is : (a : ℕ) (x : List ℕ) → IsSome x → in_front a x ≡ a ∷ x
in_front-is a x s = ap (in_front a) s.2 ∙ in_front-more a s.0 s.1 ∙ ap (λ z. a ∷ z) (sym s.2)

some-unit : (k : ℕ) → IsSome (unit k)
some-unit zero = (1, [], refl)
some-unit (suc k) = (0, unit k, refl)

some-join : (k : ℕ) (e : List ℕ) → IsSome (join e (unit k))
some-join k [] = some-unit k
some-join zero (a ∷ e) = (a + 1, join e [], refl)
some-join (suc k) (a ∷ e) = (a + 0, join e (unit k), refl)

trimmed-unit : (k : ℕ) → without_last_zeros (unit k) ≡ unit k
trimmed-unit zero = refl
trimmed-unit (suc k) = ap (in_front 0) (trimmed-unit k) ∙ in_front-is 0 (unit k) (some-unit k)

trimmed-join : (k : ℕ) (e : List ℕ) → without_last_zeros e ≡ e → without_last_zeros (join e (unit k)) ≡ join e (unit k)
trimmed-join k [] t = trimmed-unit k
trimmed-join zero (a ∷ e) t = search (rules, join-nil, add-one, front_tail)
trimmed-join (suc k) (a ∷ e) t = search (rules, front_tail, in_front-is, some-join, (trimmed-join k e))

size-unit : (k : ℕ) → size (unit k) ≡ 1
size-unit zero = refl
size-unit (suc k) = let h = size-unit k in omega arith

pub size-raised : (r : ℕ) (e : List ℕ) → size (raised r e) ≡ size e + 1
size-raised r e = omega (arith, size-join e (unit (r - 1)), size-unit (r - 1))

pub length-raised : (r : ℕ) (e : List ℕ) → 1 ≤ r → length (raised r e) ≡ max (length e) r
length-raised r e h = let m = length-join e (unit (r - 1)) in let u = length-unit (r - 1) in omega arith

pub HasDegree-raised : (r : ℕ) (e : List ℕ) (d : ℕ) → HasDegree e d → 1 ≤ r → r ≤ 255 → size e < 32385 → HasDegree (raised r e) (d + 1)
HasDegree-raised r e d h a b c = search (rules, trimmed-join, length-raised, size-raised)

pub refilled : (xs ws : List ℕ) → length ws ≡ length xs → refill (length xs) xs ws ≡ ws
refilled xs ws h = take-append-le (length xs) ws (drop (length ws) xs) (omega arith) ∙ ap (λ n. take n ws) (sym h) ∙ take_all (length ws) ws (omega arith)

-- the list with the number at index k decreased by 1
abbrev lowered : ℕ → List ℕ → List ℕ
lowered k [] = []
lowered zero (a ∷ x) = (a - 1) ∷ x
lowered (suc k) (a ∷ x) = a ∷ lowered k x

back : (k : ℕ) (e : List ℕ) → without_last_zeros (lowered k (join e (unit k))) ≡ without_last_zeros e
back zero [] = refl
back zero (a ∷ e) = ap₂ (λ (n : ℕ) (x : List ℕ). in_front n (without_last_zeros x)) (let s : a + 1 - 1 ≡ a = omega arith in s) (join-nil e)
back (suc k) [] = ap (in_front 0) (back k [])
back (suc k) (a ∷ e) = ap₂ in_front (add-zero a) (back k e)

pub raised-same : (r : ℕ) (e f : List ℕ) → without_last_zeros e ≡ e → without_last_zeros f ≡ f → raised r e ≡ raised r f → e ≡ f
raised-same r e f t u h = sym t ∙ sym (back (r - 1) e) ∙ ap (λ x. without_last_zeros (lowered (r - 1) x)) h ∙ back (r - 1) f ∙ u
