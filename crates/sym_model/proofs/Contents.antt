-- The number of times that a letter occurs in a word, and the content of a word: `times_in` and `content` of
-- specs/Schur.
use Rattle.std.proofs.Common.{◌+◌, Bool, List, ap, arith, cond, suc, ℕ, ◌∙◌, ◌∷◌, ◌≡◌, ◌++◌, [], map, refl, replicate, zero, length, ◌≤◌, ◌<◌, eqb, inl, inr, sym, rules}
use Rattle.std.proofs.lemmas.Bool.{eq-eqb, ne_eqb, cases_eq}
use Rattle.sym_model.specs.Schur.{times_in, content}
use Rattle.sym_model.specs.Partition.{after, size}
use Rattle.sym_model.proofs.Parts.{size-map_add}
use Rattle.sym_model.specs.Bounded.{AreLetters}
use Rattle.sym_model.specs.Sum.{Among}

pub times_in-here : (k c : ℕ) (l : List ℕ) → c ≡ k → times_in k (c ∷ l) ≡ suc (times_in k l)
times_in-here k c l e = ap (λ (b : Bool). cond {A = ℕ} b 1 0 + times_in k l) (eq-eqb c k e) ∙ omega arith

pub times_in-other : (k c : ℕ) (l : List ℕ) → (c ≡ k → ⊥) → times_in k (c ∷ l) ≡ times_in k l
times_in-other k c l n = ap (λ (b : Bool). cond {A = ℕ} b 1 0 + times_in k l) (ne_eqb c k n) ∙ omega arith

pub times_in-none : (k : ℕ) (w : List ℕ) → (Among k w → ⊥) → times_in k w ≡ 0
times_in-none k [] h = refl
times_in-none k (a ∷ w) h = times_in-other k a w (λ e. h (inl (sym e))) ∙ times_in-none k w (λ m. h (inr m))

pub times_in-append : (k : ℕ) (v w : List ℕ) → times_in k (v ++ w) ≡ times_in k v + times_in k w
times_in-append k [] w = omega arith
times_in-append k (a ∷ v) w = omega (arith, times_in-append k v w)

pub times_in-last : (k c : ℕ) (v : List ℕ) → c ≡ k → times_in k (v ++ c ∷ []) ≡ times_in k v + 1
times_in-last k c v e = omega (arith, times_in-append k v (c ∷ []), times_in-here k c [] e)

pub times_in-last_other : (k c : ℕ) (v : List ℕ) → (c ≡ k → ⊥) → times_in k (v ++ c ∷ []) ≡ times_in k v
times_in-last_other k c v n = omega (arith, times_in-append k v (c ∷ []), times_in-other k c [] n)

pub map-zeros : (m n : ℕ) → map {A = ℕ} {B = ℕ} (λ (k : ℕ). 0) (after m n) ≡ replicate n 0
map-zeros m zero = refl
map-zeros m (suc n) = ap (λ (l : List ℕ). 0 ∷ l) (map-zeros (m + 1) n)

pub content-none : (n : ℕ) → content n [] ≡ replicate n 0
content-none n = map-zeros 0 n

pub times_in-most : (j : ℕ) (v : List ℕ) → times_in j v ≤ length v
times_in-most j [] = omega arith
times_in-most j (a ∷ v) = search (rules, (times_in-most j v))

-- for letters a and j, in this order: 1 if a = j, and 0 otherwise
one_at : ℕ → ℕ → ℕ
one_at a j = cond (eqb a j) 1 0

none-after : (a m k : ℕ) → a ≤ m → size (map (one_at a) (after m k)) ≡ 0
unfolding one_at
none-after a m zero h = refl
none-after a m (suc k) h = search (rules, ne_eqb, (none-after a (m + 1) k (omega arith)))

one-after : (a m k : ℕ) → m < a → a ≤ m + k → size (map (one_at a) (after m k)) ≡ 1
unfolding one_at
one-after a m zero h l = absurd (omega arith)
one-after a m (suc k) h l = search (rules, cases_eq, eq-eqb, none-after, ne_eqb, (one-after a (m + 1) k))

pub size-content : (k : ℕ) (w : List ℕ) → AreLetters k w → size (content k w) ≡ length w
unfolding one_at
size-content k [] h = zeros (after 0 k)
  where
    zeros : (ks : List ℕ) → size (map (λ j. times_in j []) ks) ≡ 0
    zeros [] = refl
    zeros (j ∷ ks) = let e = zeros ks in omega arith
size-content k (a ∷ w) h =
    let low = h.0.0 in
    let high = h.0.1 in
    let one = one-after a 0 k (omega arith) (omega arith) in
    omega (arith, size-map_add (one_at a) (λ j. times_in j w) (after 0 k), one, size-content k w h.1)
