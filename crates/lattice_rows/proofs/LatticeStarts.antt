-- The first row of a lattice tableau: a row above it that is long enough for each letter restricts it as little as no row.
use Rattle.std.proofs.Common.{◌≡◌, ℕ, zero, suc, ◌+◌, ◌-◌, ◌<◌, ◌≤◌, ◌==◌, ◌⊎◌, inl, inr, nat_le, Bool, true, false, cond, List, [], ◌∷◌, ◌++◌, length, drop, get_or, replicate, refl, sym, ap, ◌∙◌, arith}
use Rattle.std.proofs.lemmas.Bool.{cases_lt, lt-leb, le-leb}
use Rattle.std.proofs.lemmas.List.{length-replicate, take-replicate}
use Rattle.sym_model.specs.Sum.{sum_by}
use Rattle.sym_model.specs.Partition.{part}
use Rattle.lr_product.specs.Extension.{numbers_from, mark}
use Rattle.lr_product.specs.RowExtension.{added, filled, next_row, over_rows, least_left, most_left}
use Rattle.lattice_rows.specs.LatticeRows.{fills, greatest_end, CountsEndings}
use Rattle.lr_product.proofs.Ranges.{numbers-ext}
use Rattle.lattice_rows.proofs.LatticeBounds.{ends_outside, row_outside}
use Rattle.lattice_rows.proofs.LatticeLaws.{over-first, ways-counts}

-- each number of the list is at least k
record AreLong (k : ℕ) (above : List ℕ) : Type 0 where
  long : (i : ℕ) → i < length above → k ≤ get_or above i 0

long-rest : (k left : ℕ) (above : List ℕ) → left ≤ k → AreLong k above → AreLong left (drop 1 above)
long-rest k left [] h l = record { long = λ i q. absurd (omega arith) }
long-rest k left (x ∷ above) h l = record { long = λ i q. let e = l.long (suc i) (omega arith) in omega arith }

long-most : (out t k : ℕ) (above : List ℕ) → AreLong k above → most_left out t k above ≡ most_left out t k []
long-most out zero k above l = refl
long-most out (suc t) k [] l = refl
long-most out (suc t) k (x ∷ above) l = let e = l.long 0 (omega arith) in omega arith

most-none : (out t k : ℕ) → out ≤ k → most_left out t k [] ≤ k
most-none out zero k h = h
most-none out (suc t) k h = omega arith

least-out : (out t k : ℕ) (s : List ℕ) → out ≤ least_left out t k s
least-out out zero k s = omega arith
least-out out (suc t) k s = omega arith

wide : (kept : Bool) (n out t k : ℕ) (above : List ℕ) (f : List ℕ → List ℕ → ℕ) (s : List ℕ) → out ≤ k → AreLong k above → filled kept n out t k above f s ≡ filled kept n out t k [] f s
wide kept n out zero k above f s o l = refl
wide kept n out (suc t) k above f s o l =
    ap (λ m. sum_by (λ x. filled kept n out t x (drop 1 above) f (added t (k - x) s ++ mark kept x)) (numbers_from (least_left out t k s) (m + 1 - least_left out t k s))) (long-most out t k above l)
    ∙ numbers-ext (λ x. filled kept n out t x (drop 1 above) f (added t (k - x) s ++ mark kept x)) (λ x. filled kept n out t x [] f (added t (k - x) s ++ mark kept x))
    (least_left out t k s) (most_left out t k [] + 1 - least_left out t k s)
    (λ x low high.
    let m = most-none out t k o in
    let b = least-out out t k s in
    wide kept n out t x (drop 1 above) f (added t (k - x) s ++ mark kept x) (omega arith) (long-rest k x above (omega arith) l))

long-replicate : (n b k : ℕ) → k ≤ b → AreLong k (replicate n b)
long-replicate n b k h = record { long = λ i q. reads n i q }
  where
    reads : (m i : ℕ) → i < length (replicate m b) → k ≤ get_or (replicate m b) i 0
    reads zero i q = absurd (omega arith)
    reads (suc m) zero q = h
    reads (suc m) (suc i) q = reads m i (omega arith)

get-copies : (n i : ℕ) → get_or {A = ℕ} (replicate n 0) i 0 ≡ 0
get-copies zero i = refl
get-copies (suc n) zero = refl
get-copies (suc n) (suc i) = get-copies n i

module _ (n : ℕ) (is_last : Bool) (μ : List ℕ) (f : List ℕ → List ℕ → ℕ) (counts : CountsEndings n is_last μ f) (some : 2 ≤ n) (full : length μ ≡ n) where
  few-first : (out t : ℕ) (U : List ℕ) → greatest_end n out μ (replicate n 0) U t ≤ out + get_or μ 0 0
  few-first out zero U = omega arith
  few-first out (suc zero) U = omega arith
  few-first out (suc (suc t)) U = let e = few-first out (suc t) U in let z = get-copies n t in omega arith

  start-row : (out a b : ℕ) → out + get_or μ 0 0 ≤ b → next_row n true out a f (replicate n 0) (replicate n b) ≡ next_row n true out a f (replicate n 0) []
  start-row out a b h = by (cases_lt a out) (cases_lt b a)
    where
      first : (m c : ℕ) → 2 ≤ m → out ≤ a → AreLong a (drop 1 (replicate m c)) → a ≤ c → next_row n true out a f (replicate n 0) (replicate m c) ≡ next_row n true out a f (replicate n 0) []
      first zero c q o l g = absurd (omega arith)
      first (suc m) c q o l g =
          ap (λ t. cond t (filled true n out n a (replicate m c) f (replicate n 0)) 0) (le-leb a c g) ∙ wide true n out n a (replicate m c) f (replicate n 0) o l

      rest-long : (m c : ℕ) → a ≤ c → AreLong a (drop 1 (replicate m c))
      rest-long zero c g = long-replicate zero c a g
      rest-long (suc m) c g = long-replicate m c a g

      refused : (m : ℕ) → 2 ≤ m → b < a → next_row n true out a f (replicate n 0) (replicate m b) ≡ 0
      refused zero q g = absurd (omega arith)
      refused (suc m) q g = ap (λ t. cond t (filled true n out n a (replicate m b) f (replicate n 0)) 0) (lt-leb a b g)

      empty-row : (m : ℕ) → a < out → 2 ≤ m → next_row n true out a f (replicate n 0) (replicate m b) ≡ 0
      empty-row zero g q = absurd (omega arith)
      empty-row (suc m) g q = ap (λ x. cond (nat_le a b) x 0) (ends_outside true n out a (replicate m b) (replicate n 0) f some g) ∙ nothing (nat_le a b)
        where
          nothing : (t : Bool) → cond {A = ℕ} t 0 0 ≡ 0
          nothing true = refl
          nothing false = refl

      by : (a < out) ⊎ (out ≤ a) → (b < a) ⊎ (a ≤ b) → next_row n true out a f (replicate n 0) (replicate n b) ≡ next_row n true out a f (replicate n 0) []
      by (inl g) q = empty-row n g some ∙ sym (ends_outside true n out a [] (replicate n 0) f some g)
      by (inr o) (inr q) = first n b some o (rest-long n b q) q
      by (inr o) (inl q) =
          refused n some q
          ∙ sym (sym (first n a some o (rest-long n a (omega arith)) (omega arith))
          ∙ ap (λ v. next_row n true out a f v (replicate n a)) (sym (take-replicate n n 0 (omega arith)))
          ∙ row_outside n is_last μ f counts some full out a (replicate n a) (replicate n 0) (length-replicate n a) (let e : length {A = ℕ} (replicate n 0) ≡ n = length-replicate n 0 in omega arith)
          (inr (let e = few-first out n (replicate n a) in omega arith)))

-- the ways to add all rows
pub start-ways : (n a b : ℕ) (label inner μ : List ℕ) → 2 ≤ n → length μ ≡ n → part inner 1 + get_or μ 0 0 ≤ b
    → over_rows n (a ∷ label) inner (fills μ) (replicate n 0) (replicate n b) ≡ over_rows n (a ∷ label) inner (fills μ) (replicate n 0) []
start-ways n a b label inner μ some full h =
    let w : length {A = ℕ} (replicate n 0) ≡ n = length-replicate n 0 in
    over-first n a label inner μ (replicate n 0) (replicate n b) (omega arith)
    ∙ start-row n (length label == 0) μ (over_rows n label (drop 1 inner) (fills μ)) (ways-counts n label (drop 1 inner) μ some full) some full (part inner 1) a b h
    ∙ sym (over-first n a label inner μ (replicate n 0) [] (omega arith))
