-- Products with differences of two variables, as operators on functions φ of exponents. The pairing of φ with a polynomial is the sum of c·φ(α) over
-- its terms c·x^α. Variables are counted from 0.
--     less r s φ            the pairing of φ with (u - v)·x^α, for u the variable r and v the variable s
--     row r s c φ           the pairing of φ with x^α times the product of all u - v, for u the variable r and v each of the c variables from s on
--     diagram s r cs φ      the pairing of φ with x^α times a product of rows. Each entry c of the list cs gives one row of c factors, the first for
--                           the variable r, the next one for the variable r + 1, and so on
use Rattle.std.proofs.Common.{◌≡◌, ℕ, zero, suc, ◌+◌, ◌<◌, List, [], ◌∷◌, ◌++◌, length, get_or, replicate, refl, sym, ◌∙◌, ap, ap₂, arith, ℤ, ◌+ℤ◌, ◌-ℤ◌, neg_ℤ, rules}
use Rattle.std.proofs.lemmas.Int.{ints}
use Rattle.schubert_laws.proofs.AtOrigin.{along_zeros}
use Rattle.schubert_laws.proofs.Differences.{along, along_ext, along_add, along_neg}
use Rattle.schubert_laws.proofs.Exchanges.{raise}
use Rattle.schubert_laws.proofs.MonkStep.{jump_first, jump_second}
use Rattle.schubert_laws.proofs.Dominant.{IsOneUp}

abbrev pub less : ℕ → ℕ → (List ℕ → ℤ) → List ℕ → ℤ
less r s φ α = φ (raise r α) -ℤ φ (raise s α)

abbrev pub row : ℕ → ℕ → ℕ → (List ℕ → ℤ) → List ℕ → ℤ
row r s zero φ = φ
row r s (suc c) φ = row r (suc s) c (less r s φ)

abbrev pub diagram : ℕ → ℕ → List ℕ → (List ℕ → ℤ) → List ℕ → ℤ
diagram s r [] φ = φ
diagram s r (c ∷ cs) φ = diagram s (suc r) cs (row r s c φ)

-- ---- the operators of this file commute, and depend only on the values of φ

pub raise_raise : (r s : ℕ) (α : List ℕ) → raise r (raise s α) ≡ raise s (raise r α)
raise_raise r s [] = refl
raise_raise zero zero (a ∷ α) = refl
raise_raise zero (suc s) (a ∷ α) = refl
raise_raise (suc r) zero (a ∷ α) = refl
raise_raise (suc r) (suc s) (a ∷ α) = ap (λ β. a ∷ β) (raise_raise r s α)

pub less_ext : (r s : ℕ) (φ ψ : List ℕ → ℤ) → ((α : List ℕ) → φ α ≡ ψ α) → (α : List ℕ) → less r s φ α ≡ less r s ψ α
less_ext r s φ ψ e α = ap₂ ◌-ℤ◌ (e (raise r α)) (e (raise s α))

pub less_less : (r s p q : ℕ) (φ : List ℕ → ℤ) (α : List ℕ) → less r s (less p q φ) α ≡ less p q (less r s φ) α
less_less r s p q φ α =
    let a = ap φ (raise_raise p r α) in
    let b = ap φ (raise_raise q r α) in
    let c = ap φ (raise_raise p s α) in
    let d = ap φ (raise_raise q s α) in
    omega (arith, ints)

pub row_ext : (r s c : ℕ) (φ ψ : List ℕ → ℤ) → ((α : List ℕ) → φ α ≡ ψ α) → (α : List ℕ) → row r s c φ α ≡ row r s c ψ α
row_ext r s zero φ ψ e = e
row_ext r s (suc c) φ ψ e = row_ext r (suc s) c (less r s φ) (less r s ψ) (less_ext r s φ ψ e)

pub diagram_ext : (s r : ℕ) (cs : List ℕ) (φ ψ : List ℕ → ℤ) → ((α : List ℕ) → φ α ≡ ψ α) → (α : List ℕ) → diagram s r cs φ α ≡ diagram s r cs ψ α
diagram_ext s r [] φ ψ e = e
diagram_ext s r (c ∷ cs) φ ψ e = diagram_ext s (suc r) cs (row r s c φ) (row r s c ψ) (row_ext r s c φ ψ e)

pub row_less : (r s c p q : ℕ) (φ : List ℕ → ℤ) (α : List ℕ) → row r s c (less p q φ) α ≡ less p q (row r s c φ) α
row_less r s zero p q φ α = refl
row_less r s (suc c) p q φ α = search (rules, row_ext, less_less, (row_less r (suc s) c p q (less r s φ) α))

pub diagram_less : (s r : ℕ) (cs : List ℕ) (p q : ℕ) (φ : List ℕ → ℤ) (α : List ℕ) → diagram s r cs (less p q φ) α ≡ less p q (diagram s r cs φ) α
diagram_less s r [] p q φ α = refl
diagram_less s r (c ∷ cs) p q φ α = search (rules, diagram_ext, row_less, (diagram_less s (suc r) cs p q (row r s c φ) α))

pub row_last : (r s c : ℕ) (φ : List ℕ → ℤ) (α : List ℕ) → row r s (suc c) φ α ≡ less r (s + c) (row r s c φ) α
row_last r s zero φ α = let e : s ≡ s + 0 = omega arith in ap (λ t. less r t φ α) e
row_last r s (suc c) φ α = search (rules, (row_last r (suc s) c (less r s φ) α))

pub diagram_raise : (s r k i : ℕ) (cs : List ℕ) (φ : List ℕ → ℤ) (α : List ℕ) → k < length cs → i ≡ r + k
    → diagram s r (raise k cs) φ α ≡ less i (s + get_or cs k 0) (diagram s r cs φ) α
diagram_raise s r k i [] φ α h e = absurd (omega arith)
diagram_raise s r zero i (c ∷ cs) φ α h e =
    let d : r ≡ i = omega arith in
    diagram_ext s (suc r) cs (row r s (suc c) φ) (less r (s + c) (row r s c φ)) (row_last r s c φ) α
    ∙ diagram_less s (suc r) cs r (s + c) (row r s c φ) α
    ∙ ap (λ p. less p (s + c) (diagram s (suc r) cs (row r s c φ)) α) d
diagram_raise s r (suc k) i (c ∷ cs) φ α h e = diagram_raise s (suc r) k i cs (row r s c φ) α (omega arith) (omega arith)

pub diagram_added : (s r : ℕ) (cs : List ℕ) (φ : List ℕ → ℤ) (α : List ℕ) → diagram s r (cs ++ (0 ∷ [])) φ α ≡ diagram s r cs φ α
diagram_added s r [] φ α = refl
diagram_added s r (c ∷ cs) φ α = diagram_added s (suc r) cs (row r s c φ) α

-- ---- divided differences of products of x_i - y_j

-- the statement that r is neither k nor k + 1
abbrev pub Apart : ℕ → ℕ → Type 0
Apart zero zero = ⊥
Apart zero (suc zero) = ⊥
Apart zero (suc (suc r)) = Unit {0}
Apart (suc k) zero = Unit {0}
Apart (suc k) (suc r) = Apart k r

pub apart_after : (k r : ℕ) → suc k < r → Apart k r
apart_after k zero h = absurd (omega arith)
apart_after zero (suc zero) h = absurd (omega arith)
apart_after zero (suc (suc r)) h = tt
apart_after (suc k) (suc r) h = apart_after k r (omega arith)

pub apart_before : (k r : ℕ) → r < k → Apart k r
apart_before zero r h = absurd (omega arith)
apart_before (suc k) zero h = tt
apart_before (suc k) (suc r) h = apart_before k r (omega arith)

pub along_raised : (k r : ℕ) (φ : List ℕ → ℤ) (α : List ℕ) → Apart k r → along k (λ γ. φ (raise r γ)) α ≡ along k φ (raise r α)
along_raised zero r φ [] p = refl
along_raised (suc k) r φ [] p = refl
along_raised zero zero φ (a ∷ []) p = absurd p
along_raised zero (suc zero) φ (a ∷ []) p = absurd p
along_raised zero (suc (suc r)) φ (a ∷ []) p = refl
along_raised zero zero φ (a ∷ b ∷ α) p = absurd p
along_raised zero (suc zero) φ (a ∷ b ∷ α) p = absurd p
along_raised zero (suc (suc r)) φ (a ∷ b ∷ α) p = refl
along_raised (suc k) zero φ (a ∷ α) p = refl
along_raised (suc k) (suc r) φ (a ∷ α) p = along_raised k r (λ β. φ (a ∷ β)) α p

along_minus : (k : ℕ) (φ ψ : List ℕ → ℤ) (α : List ℕ) → along k (λ γ. φ γ -ℤ ψ γ) α ≡ along k φ α -ℤ along k ψ α
along_minus k φ ψ α =
    let e = along_ext k (λ γ. φ γ -ℤ ψ γ) (λ γ. φ γ +ℤ neg_ℤ (ψ γ)) (λ γ. omega (arith, ints)) α in
    let s = along_add k φ (λ γ. neg_ℤ (ψ γ)) α in
    let n = along_neg k ψ α in
    omega (arith, ints)

pub along_less : (k r s : ℕ) (φ : List ℕ → ℤ) (α : List ℕ) → Apart k r → Apart k s → along k (less r s φ) α ≡ less r s (along k φ) α
along_less k r s φ α p q =
    along_minus k (λ γ. φ (raise r γ)) (λ γ. φ (raise s γ)) α ∙ ap₂ ◌-ℤ◌ (along_raised k r φ α p) (along_raised k s φ α q)

along_both : (k : ℕ) (φ : List ℕ → ℤ) (α : List ℕ) → along k (λ γ. φ (raise k (raise (suc k) γ))) α ≡ along k φ (raise k (raise (suc k) α))
along_both zero φ [] = refl
along_both (suc k) φ [] = refl
along_both zero φ (a ∷ []) = refl
along_both zero φ (a ∷ b ∷ α) =
    let e = jump_first (λ c d. φ (c ∷ suc d ∷ α)) a b in
    let d = jump_second (λ c d. φ (c ∷ d ∷ α)) a (suc b) in
    omega (arith, ints)
along_both (suc k) φ (a ∷ α) = along_both k (λ β. φ (a ∷ β)) α

along_either : (k : ℕ) (φ : List ℕ → ℤ) (α : List ℕ)
    → along k (λ γ. φ (raise k γ)) α +ℤ along k (λ γ. φ (raise (suc k) γ)) α ≡ along k φ (raise k α) +ℤ along k φ (raise (suc k) α)
along_either zero φ [] = refl
along_either (suc k) φ [] = refl
along_either zero φ (a ∷ []) = refl
along_either zero φ (a ∷ b ∷ α) =
    let e = jump_first (λ c d. φ (c ∷ d ∷ α)) a b in
    let d = jump_second (λ c d. φ (c ∷ d ∷ α)) a b in
    omega (arith, ints)
along_either (suc k) φ (a ∷ α) = along_either k (λ β. φ (a ∷ β)) α

pub along_two : (k s : ℕ) (φ : List ℕ → ℤ) (α : List ℕ) → Apart k s → along k (less (suc k) s (less k s φ)) α ≡ less (suc k) s (less k s (along k φ)) α
along_two k s φ α p =
    let b = along_both k φ α in
    let ss = along_raised k s (λ γ. φ (raise s γ)) α p in
    let s2 = along_raised k s φ (raise s α) p in
    let e = along_either k (λ γ. φ (raise s γ)) α in
    let e1 = along_raised k s φ (raise k α) p in
    let e2 = along_raised k s φ (raise (suc k) α) p in
    let c = along_ext k (λ γ. φ (raise k (raise s γ))) (λ γ. φ (raise s (raise k γ))) (λ γ. ap φ (raise_raise k s γ)) α in
    let d = ap (along k φ) (raise_raise k s α) in
    let m = along_minus k (λ γ. less k s φ (raise (suc k) γ)) (λ γ. less k s φ (raise s γ)) α in
    let m1 = along_minus k (λ γ. φ (raise k (raise (suc k) γ))) (λ γ. φ (raise s (raise (suc k) γ))) α in
    let m2 = along_minus k (λ γ. φ (raise k (raise s γ))) (λ γ. φ (raise s (raise s γ))) α in
    omega (arith, ints)

pub row_along : (k r s c : ℕ) (φ : List ℕ → ℤ) (α : List ℕ) → Apart k r → suc k < s → row r s c (along k φ) α ≡ along k (row r s c φ) α
row_along k r s zero φ α p h = refl
row_along k r s (suc c) φ α p h = search (rules, row_ext, along, along_less, apart_after, (row_along k r (suc s) c (less r s φ) α p (omega arith)))

rows_along : (k s c : ℕ) (φ : List ℕ → ℤ) (α : List ℕ) → suc k < s
    → row (suc k) s c (row k s c (along k φ)) α ≡ along k (row (suc k) s c (row k s c φ)) α
rows_along k s zero φ α h = refl
rows_along k s (suc c) φ α h =
    row_ext (suc k) (suc s) c (less (suc k) s (row k (suc s) c (less k s (along k φ)))) (row k (suc s) c (less (suc k) s (less k s (along k φ))))
    (λ γ. sym (row_less k (suc s) c (suc k) s (less k s (along k φ)) γ)) α
    ∙ row_ext (suc k) (suc s) c (row k (suc s) c (less (suc k) s (less k s (along k φ)))) (row k (suc s) c (along k (less (suc k) s (less k s φ))))
    (row_ext k (suc s) c (less (suc k) s (less k s (along k φ))) (along k (less (suc k) s (less k s φ))) (λ γ. sym (along_two k s φ γ (apart_after k s h)))) α
    ∙ rows_along k (suc s) c (less (suc k) s (less k s φ)) α (omega arith)
    ∙ along_ext k (row (suc k) (suc s) c (row k (suc s) c (less (suc k) s (less k s φ)))) (row (suc k) (suc s) c (less (suc k) s (row k (suc s) c (less k s φ))))
    (row_ext (suc k) (suc s) c (row k (suc s) c (less (suc k) s (less k s φ))) (less (suc k) s (row k (suc s) c (less k s φ))) (row_less k (suc s) c (suc k) s (less k s φ))) α

diagram_along : (k s r : ℕ) (cs : List ℕ) (φ : List ℕ → ℤ) (α : List ℕ) → suc k < r → suc k < s → diagram s r cs (along k φ) α ≡ along k (diagram s r cs φ) α
diagram_along k s r [] φ α h l = refl
diagram_along k s r (c ∷ cs) φ α h l =
    search (rules, diagram_ext, along, row_along, apart_after, (diagram_along k s (suc r) cs (row r s c φ) α (omega arith) l))

-- the operators `along r` and `diagram s r (c ∷ c ∷ cs)` commute, since the product over these rows is symmetric in the variables r and r + 1. If
-- the first row has one factor more, this factor, `less r (s + c)`, is applied after `along r`.
along_rows : (s r c : ℕ) (cs : List ℕ) (φ : List ℕ → ℤ) (α : List ℕ) → suc r < s
    → diagram s r (suc c ∷ c ∷ cs) (along r φ) α ≡ less r (s + c) (along r (diagram s r (c ∷ c ∷ cs) φ)) α
along_rows s r c cs φ α h =
    diagram_ext s (suc (suc r)) cs (row (suc r) s c (row r s (suc c) (along r φ))) (less r (s + c) (along r (row (suc r) s c (row r s c φ)))) (λ γ.
    row_ext (suc r) s c (row r s (suc c) (along r φ)) (less r (s + c) (row r s c (along r φ))) (row_last r s c (along r φ)) γ
    ∙ row_less (suc r) s c r (s + c) (row r s c (along r φ)) γ
    ∙ less_ext r (s + c) (row (suc r) s c (row r s c (along r φ))) (along r (row (suc r) s c (row r s c φ))) (λ δ. rows_along r s c φ δ h) γ) α
    ∙ diagram_less s (suc (suc r)) cs r (s + c) (along r (row (suc r) s c (row r s c φ))) α
    ∙ less_ext r (s + c) (diagram s (suc (suc r)) cs (along r (row (suc r) s c (row r s c φ)))) (along r (diagram s (suc (suc r)) cs (row (suc r) s c (row r s c φ))))
    (λ δ. diagram_along r s (suc (suc r)) cs (row (suc r) s c (row r s c φ)) δ (omega arith) h) α

along_diagram : (s r k i : ℕ) (c d : List ℕ) (φ : List ℕ → ℤ) (α : List ℕ) → IsOneUp k c d → i ≡ r + k → suc i < s
    → diagram s r d (along i φ) α ≡ less i (s + get_or c k 0) (along i (diagram s r c φ)) α
along_diagram s r k i [] d φ α u e h = absurd u
along_diagram s r zero i (a ∷ []) d φ α u e h = absurd u
along_diagram s r zero i (a ∷ b ∷ c) d φ α u e h =
    let f : i ≡ r = omega arith in
    let g : b ≡ a = sym u.0 in
    ap (λ l. diagram s r l (along i φ) α) (u.1 ∙ ap (λ x. suc a ∷ x ∷ c) g)
    ∙ ap (λ j. diagram s r (suc a ∷ a ∷ c) (along j φ) α) f
    ∙ along_rows s r a c φ α (omega arith)
    ∙ ap₂ (λ j x. less j (s + a) (along j (diagram s r (a ∷ x ∷ c) φ)) α) (sym f) (sym g)
along_diagram s r (suc k) i (a ∷ c) [] φ α u e h = absurd u
along_diagram s r (suc k) i (a ∷ c) (b ∷ d) φ α u e h =
    search (rules, along, diagram_ext, row_along, apart_before, (along_diagram s (suc r) k i c d (row r s a φ) α u.1 (omega arith) h))

-- ---- the values at the exponents 0, .., 0 of `along k φ`, the divided difference of φ along k

pub along_unit : (k n : ℕ) (φ : List ℕ → ℤ) → suc k < n → along k φ (raise k (replicate n 0)) ≡ φ (replicate n 0)
along_unit k zero φ h = absurd (omega arith)
along_unit zero (suc zero) φ h = absurd (omega arith)
along_unit zero (suc (suc n)) φ h = omega (arith, ints)
along_unit (suc k) (suc n) φ h = along_unit k n (λ β. φ (0 ∷ β)) (omega arith)

pub less_along : (k s n : ℕ) (φ : List ℕ → ℤ) → suc k < s → suc k < n → less k s (along k φ) (replicate n 0) ≡ φ (replicate n 0)
less_along k s n φ h l =
    let a = along_unit k n φ l in
    let b = along_raised k s φ (replicate n 0) (apart_after k s h) in
    let c = along_zeros k n (λ γ. φ (raise s γ)) in
    omega (arith, ints)

-- if c has equal entries at the places k and k + 1, counted from 0, and d is c with the first of them increased by 1, the divided difference along k
-- takes the product over the diagram of d to that over the diagram of c
pub diagram_one_up : (s k n : ℕ) (c d : List ℕ) (φ : List ℕ → ℤ) → IsOneUp k c d → suc k < s → suc k < n → diagram s 0 d (along k φ) (replicate n 0) ≡ diagram s 0 c φ (replicate n 0)
diagram_one_up s k n c d φ u h l =
    along_diagram s 0 k k c d φ (replicate n 0) u (omega arith) h
    ∙ less_along k (s + get_or c k 0) n (diagram s 0 c φ) (omega arith) l
