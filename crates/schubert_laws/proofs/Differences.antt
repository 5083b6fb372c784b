-- Divided differences of polynomials, described by the pairings of polynomials with functions φ of exponent lists: the pairing of φ with f is the sum
-- of c·φ(α) over the terms c·x^α of f.
--     along k φ              at α, the pairing of φ with ∂_(k+1) x^α, the divided difference in the two variables after the first k
--     pair_differences       the pairing of φ with ∂_(k+1) f is the pairing of `along k φ` with f
--     along_square, along_braid, along_commute                     the laws of divided differences, as equations of `along`
use Rattle.std.proofs.Common.{◌≡◌, ℕ, zero, suc, ◌+◌, ◌-◌, ◌≤◌, List, [], ◌∷◌, ◌++◌, refl, sym, ◌∙◌, ap, arith, ℤ, pos, ◌+ℤ◌, ◌*ℤ◌, neg_ℤ, inl, inr, rules}
use Rattle.std.proofs.lemmas.Int.{ints}
use Rattle.std.proofs.lemmas.Bool.{cases_lt}
use Rattle.std.specs.List.{range_with_len}
use Rattle.sym_model.specs.Sum.{total}
use Rattle.sym_model.specs.Polynomial.{Poly, pair}
use Rattle.sym_model.specs.DividedDifference.{powers_between, difference_after, differences_after}
use Rattle.sym_model.proofs.Sums.{total_ext, total_map, total_scale}
use Rattle.sym_model.proofs.Polynomials.{pair_plus, pair_each, pair_scale}
use Rattle.schubert_laws.proofs.Climbs.{climb, across, across_ext, across_add, across_neg, across_across}
use Rattle.schubert_laws.proofs.TripleClimbs.{front_back}

-- ---- the divided difference of x^a·y^b as a sum of monomials, and the pairing of a function with this sum (`across`)

range_more : (f : ℕ → ℤ) (p m n : ℕ) → total f (range_with_len p (m + n)) ≡ total f (range_with_len p m) +ℤ total f (range_with_len (p + m) n)
range_more f p zero n = search rules
range_more f p (suc m) n =
    let e : suc m + n ≡ suc (m + n) = omega arith in
    let d : p + suc m ≡ (p + 1) + m = omega arith in
    let r = range_more f (p + 1) m n in
    rw (e, d) (omega (arith, ints))

climb_range : (φ : ℕ → ℕ → ℤ) (a b s : ℕ) → a + b ≡ s → climb φ a b ≡ total (λ c. φ c (s - 1 - c)) (range_with_len 0 a)
climb_range φ zero b s e = refl
climb_range φ (suc a) b s e =
    let h = climb_range φ a (suc b) s (omega arith) in
    let f : a + 1 ≡ suc a = omega arith in
    let g : 0 + a ≡ a = omega arith in
    let d : s - 1 - a ≡ b = omega arith in
    let r = range_more (λ c. φ c (s - 1 - c)) 0 a 1 in
    let l = ap (λ n. total (λ c. φ c (s - 1 - c)) (range_with_len 0 n)) f in
    let m = ap (λ n. total (λ c. φ c (s - 1 - c)) (range_with_len n 1)) g in
    let k = ap (φ a) d in
    omega (arith, ints)

between : (φ : ℕ → ℕ → ℤ) (a b s : ℕ) → a + b ≡ s → b ≤ a → total (λ c. φ c (s - 1 - c)) (range_with_len b (a - b)) ≡ across φ a b
between φ a b s e h =
    let f : b + (a - b) ≡ a = omega arith in
    let r = range_more (λ c. φ c (s - 1 - c)) 0 b (a - b) in
    let l = ap (λ n. total (λ c. φ c (s - 1 - c)) (range_with_len 0 n)) f in
    let g : 0 + b ≡ b = omega arith in
    let m = ap (λ n. total (λ c. φ c (s - 1 - c)) (range_with_len n (a - b))) g in
    let p = climb_range φ a b s e in
    let q = climb_range φ b a s (omega arith) in
    omega (arith, ints)

pair_powers : (sign : ℤ) (a b : ℕ) (rest : List ℕ) (φ : List ℕ → ℤ)
    → pair (powers_between sign a b rest) φ ≡ sign *ℤ total (λ c. φ (c ∷ (a + b - 1 - c) ∷ rest)) (range_with_len b (a - b))
pair_powers sign a b rest φ = search (rules, total_map, total_scale)

none_between : (f : ℕ → ℤ) (a b : ℕ) → a ≤ b → total f (range_with_len b (a - b)) ≡ pos 0
none_between f a b h = let e : a - b ≡ 0 = omega arith in rw e refl

pair_two : (a b : ℕ) (rest : List ℕ) (φ : List ℕ → ℤ)
    → pair (powers_between (pos 1) a b rest ++ powers_between (neg_ℤ (pos 1)) b a rest) φ ≡ across (λ c d. φ (c ∷ d ∷ rest)) a b
pair_two a b rest φ =
    let s = pair_plus (powers_between (pos 1) a b rest) (powers_between (neg_ℤ (pos 1)) b a rest) φ in
    let p = pair_powers (pos 1) a b rest φ in
    let q = pair_powers (neg_ℤ (pos 1)) b a rest φ in
    elim (cases_lt a b) [
      | inl h ↦
          let z = none_between (λ c. φ (c ∷ (a + b - 1 - c) ∷ rest)) a b (omega arith) in
          let n = between (λ c d. φ (c ∷ d ∷ rest)) b a (b + a) refl (omega arith) in
          omega (arith, ints)
      | inr h ↦
          let z = none_between (λ c. φ (c ∷ (b + a - 1 - c) ∷ rest)) b a (omega arith) in
          let n = between (λ c d. φ (c ∷ d ∷ rest)) a b (a + b) refl (omega arith) in
          omega (arith, ints)
    ]

-- ---- the pairing of a function with a divided difference (`along`)

abbrev pub along : ℕ → (List ℕ → ℤ) → List ℕ → ℤ
along zero φ [] = pos 0
along zero φ (a ∷ []) = pos 0
along zero φ (a ∷ b ∷ rest) = across (λ c d. φ (c ∷ d ∷ rest)) a b
along (suc k) φ [] = pos 0
along (suc k) φ (a ∷ rest) = along k (λ β. φ (a ∷ β)) rest

pub pair_difference : (k : ℕ) (α : List ℕ) (φ : List ℕ → ℤ) → pair (difference_after k α) φ ≡ along k φ α
pair_difference zero [] φ = refl
pair_difference zero (a ∷ []) φ = refl
pair_difference zero (a ∷ b ∷ rest) φ = pair_two a b rest φ
pair_difference (suc k) [] φ = refl
pair_difference (suc k) (a ∷ rest) φ = search (rules, total_map, (pair_difference k rest))

pub pair_differences : (k : ℕ) (f : Poly) (φ : List ℕ → ℤ) → pair (differences_after k f) φ ≡ pair f (along k φ)
pair_differences k f φ = search (rules, pair_each, total_ext, pair_scale, pair_difference)

pub along_ext : (k : ℕ) (φ ψ : List ℕ → ℤ) → ((α : List ℕ) → φ α ≡ ψ α) → (α : List ℕ) → along k φ α ≡ along k ψ α
along_ext zero φ ψ e [] = refl
along_ext zero φ ψ e (a ∷ []) = refl
along_ext zero φ ψ e (a ∷ b ∷ rest) = across_ext (λ c d. φ (c ∷ d ∷ rest)) (λ c d. ψ (c ∷ d ∷ rest)) (λ c d. e (c ∷ d ∷ rest)) a b
along_ext (suc k) φ ψ e [] = refl
along_ext (suc k) φ ψ e (a ∷ rest) = along_ext k (λ β. φ (a ∷ β)) (λ β. ψ (a ∷ β)) (λ β. e (a ∷ β)) rest

pub along_zero : (k : ℕ) (α : List ℕ) → along k (λ β. pos 0) α ≡ pos 0
along_zero zero [] = refl
along_zero zero (a ∷ []) = refl
along_zero zero (a ∷ b ∷ rest) = let e = across_neg (λ c d. pos 0) a b in omega (arith, ints)
along_zero (suc k) [] = refl
along_zero (suc k) (a ∷ rest) = along_zero k rest

pub along_add : (k : ℕ) (φ ψ : List ℕ → ℤ) (α : List ℕ) → along k (λ β. φ β +ℤ ψ β) α ≡ along k φ α +ℤ along k ψ α
along_add zero φ ψ [] = refl
along_add zero φ ψ (a ∷ []) = refl
along_add zero φ ψ (a ∷ b ∷ rest) = across_add (λ c d. φ (c ∷ d ∷ rest)) (λ c d. ψ (c ∷ d ∷ rest)) a b
along_add (suc k) φ ψ [] = refl
along_add (suc k) φ ψ (a ∷ rest) = along_add k (λ β. φ (a ∷ β)) (λ β. ψ (a ∷ β)) rest

pub along_neg : (k : ℕ) (φ : List ℕ → ℤ) (α : List ℕ) → along k (λ β. neg_ℤ (φ β)) α ≡ neg_ℤ (along k φ α)
along_neg zero φ [] = refl
along_neg zero φ (a ∷ []) = refl
along_neg zero φ (a ∷ b ∷ rest) = across_neg (λ c d. φ (c ∷ d ∷ rest)) a b
along_neg (suc k) φ [] = refl
along_neg (suc k) φ (a ∷ rest) = along_neg k (λ β. φ (a ∷ β)) rest

pub along_square : (k : ℕ) (φ : List ℕ → ℤ) (α : List ℕ) → along k (along k φ) α ≡ pos 0
along_square zero φ [] = refl
along_square zero φ (a ∷ []) = refl
along_square zero φ (a ∷ b ∷ rest) = across_across (λ c d. φ (c ∷ d ∷ rest)) a b
along_square (suc k) φ [] = refl
along_square (suc k) φ (a ∷ rest) = along_square k (λ β. φ (a ∷ β)) rest

pub along_braid : (k : ℕ) (φ : List ℕ → ℤ) (α : List ℕ) → along k (along (suc k) (along k φ)) α ≡ along (suc k) (along k (along (suc k) φ)) α
along_braid zero φ [] = refl
along_braid zero φ (a ∷ []) = refl
along_braid zero φ (a ∷ b ∷ []) = along_zero 0 (a ∷ b ∷ [])
along_braid zero φ (a ∷ b ∷ c ∷ rest) = front_back (λ x y z. φ (x ∷ y ∷ z ∷ rest)) a b c
along_braid (suc k) φ [] = refl
along_braid (suc k) φ (a ∷ rest) = along_braid k (λ β. φ (a ∷ β)) rest

along_climb : (k : ℕ) (φ : ℕ → ℕ → List ℕ → ℤ) (a b : ℕ) (α : List ℕ)
    → along k (λ β. climb (λ c d. φ c d β) a b) α ≡ climb (λ c d. along k (φ c d) α) a b
along_climb k φ zero b α = along_zero k α
along_climb k φ (suc a) b α = along_add k (φ a b) (λ β. climb (λ c d. φ c d β) a (suc b)) α ∙ ap (λ n. along k (φ a b) α +ℤ n) (along_climb k φ a (suc b) α)

along_across : (k : ℕ) (φ : ℕ → ℕ → List ℕ → ℤ) (a b : ℕ) (α : List ℕ)
    → along k (λ β. across (λ c d. φ c d β) a b) α ≡ across (λ c d. along k (φ c d) α) a b
along_across k φ a b α =
    let m = along_ext k (λ β. across (λ c d. φ c d β) a b) (λ β. climb (λ c d. φ c d β) a b +ℤ neg_ℤ (climb (λ c d. φ c d β) b a)) (λ β. omega (arith, ints)) α in
    let s = along_add k (λ β. climb (λ c d. φ c d β) a b) (λ β. neg_ℤ (climb (λ c d. φ c d β) b a)) α in
    let n = along_neg k (λ β. climb (λ c d. φ c d β) b a) α in
    let e = along_climb k φ a b α in
    let f = along_climb k φ b a α in
    omega (arith, ints)

-- if j + 2 ≤ k, `along j` and `along k` commute: the divided differences share no variable
pub along_commute : (j k : ℕ) (φ : List ℕ → ℤ) (α : List ℕ) → j + 2 ≤ k → along j (along k φ) α ≡ along k (along j φ) α
along_commute j zero φ α h = absurd (omega arith)
along_commute zero (suc zero) φ α h = absurd (omega arith)
along_commute zero (suc (suc k)) φ [] h = refl
along_commute zero (suc (suc k)) φ (a ∷ []) h = refl
along_commute zero (suc (suc k)) φ (a ∷ b ∷ rest) h = sym (along_across k (λ c d β. φ (c ∷ d ∷ β)) a b rest)
along_commute (suc j) (suc k) φ [] h = refl
along_commute (suc j) (suc k) φ (a ∷ rest) h = along_commute j k (λ β. φ (a ∷ β)) rest (omega arith)
