-- Divided differences in two variables x and y as operators on functions φ of two numbers, the exponents of x and y. The pairing of φ with a
-- polynomial is the sum of c·φ(a, b) over the terms c·x^a·y^b of the polynomial.
--     climb φ a b       the sum of φ(c, a + b - 1 - c) over c = 0, .., a - 1
--     across φ a b      the pairing of φ with ∂(x^a y^b)
--     stepped φ a b     the pairing of φ with (x - y)·x^a·y^b; `stepped (climb φ)` is φ, and `climb (stepped φ)` at a, b is φ(a, b) - φ(0, a + b)
use Rattle.std.proofs.Common.{◌≡◌, ℕ, zero, suc, ◌+◌, refl, sym, ap, ap₂, arith, ℤ, pos, ◌+ℤ◌, ◌-ℤ◌, neg_ℤ}
use Rattle.std.proofs.lemmas.Int.{ints}

abbrev pub climb : (ℕ → ℕ → ℤ) → ℕ → ℕ → ℤ
climb φ zero b = pos 0
climb φ (suc a) b = φ a b +ℤ climb φ a (suc b)

abbrev pub across : (ℕ → ℕ → ℤ) → ℕ → ℕ → ℤ
across φ a b = climb φ a b -ℤ climb φ b a

abbrev pub stepped : (ℕ → ℕ → ℤ) → ℕ → ℕ → ℤ
stepped φ a b = φ (suc a) b -ℤ φ a (suc b)

pub climb_ext : (φ ψ : ℕ → ℕ → ℤ) → ((a b : ℕ) → φ a b ≡ ψ a b) → (a b : ℕ) → climb φ a b ≡ climb ψ a b
climb_ext φ ψ e zero b = refl
climb_ext φ ψ e (suc a) b = ap₂ ◌+ℤ◌ (e a b) (climb_ext φ ψ e a (suc b))

pub climb_add : (φ ψ : ℕ → ℕ → ℤ) (a b : ℕ) → climb (λ c d. φ c d +ℤ ψ c d) a b ≡ climb φ a b +ℤ climb ψ a b
climb_add φ ψ zero b = refl
climb_add φ ψ (suc a) b = let e = climb_add φ ψ a (suc b) in omega (arith, ints)

pub climb_neg : (φ : ℕ → ℕ → ℤ) (a b : ℕ) → climb (λ c d. neg_ℤ (φ c d)) a b ≡ neg_ℤ (climb φ a b)
climb_neg φ zero b = refl
climb_neg φ (suc a) b = let e = climb_neg φ a (suc b) in omega (arith, ints)

pub across_ext : (φ ψ : ℕ → ℕ → ℤ) → ((a b : ℕ) → φ a b ≡ ψ a b) → (a b : ℕ) → across φ a b ≡ across ψ a b
across_ext φ ψ e a b = ap₂ ◌-ℤ◌ (climb_ext φ ψ e a b) (climb_ext φ ψ e b a)

pub across_add : (φ ψ : ℕ → ℕ → ℤ) (a b : ℕ) → across (λ c d. φ c d +ℤ ψ c d) a b ≡ across φ a b +ℤ across ψ a b
across_add φ ψ a b = let e = climb_add φ ψ a b in let d = climb_add φ ψ b a in omega (arith, ints)

pub across_neg : (φ : ℕ → ℕ → ℤ) (a b : ℕ) → across (λ c d. neg_ℤ (φ c d)) a b ≡ neg_ℤ (across φ a b)
across_neg φ a b = let e = climb_neg φ a b in let d = climb_neg φ b a in omega (arith, ints)

pub across_minus : (φ ψ : ℕ → ℕ → ℤ) (a b : ℕ) → across (λ c d. φ c d -ℤ ψ c d) a b ≡ across φ a b -ℤ across ψ a b
across_minus φ ψ a b =
    let e = across_ext (λ c d. φ c d -ℤ ψ c d) (λ c d. φ c d +ℤ neg_ℤ (ψ c d)) (λ c d. omega (arith, ints)) a b in
    let s = across_add φ (λ c d. neg_ℤ (ψ c d)) a b in
    let n = across_neg ψ a b in
    omega (arith, ints)

pub stepped_climb : (φ : ℕ → ℕ → ℤ) (a b : ℕ) → stepped (climb φ) a b ≡ φ a b
stepped_climb φ a b = omega (arith, ints)

climb_stepped : (φ : ℕ → ℕ → ℤ) (a b n : ℕ) → a + b ≡ n → climb (stepped φ) a b ≡ φ a b -ℤ φ 0 n
climb_stepped φ zero b n e = let d : b ≡ n = omega arith in let f = ap (φ 0) d in omega (arith, ints)
climb_stepped φ (suc a) b n e = let h = climb_stepped φ a (suc b) n (omega arith) in omega (arith, ints)

-- `across (stepped φ) a b` is φ(a, b) - φ(b, a): ∂((x - y)·f) is f minus f with x and y exchanged
pub across_stepped : (φ : ℕ → ℕ → ℤ) (a b : ℕ) → across (stepped φ) a b ≡ φ a b -ℤ φ b a
across_stepped φ a b =
    let e = climb_stepped φ a b (a + b) refl in
    let d = climb_stepped φ b a (a + b) (omega arith) in
    omega (arith, ints)

-- if φ(b, a) = -φ(a, b) for all a and b, then `across φ` is 0
pub across_alternating : (φ : ℕ → ℕ → ℤ) → ((a b : ℕ) → φ b a ≡ neg_ℤ (φ a b)) → (a b : ℕ) → across φ a b ≡ pos 0
across_alternating φ h a b =
    let e = across_ext (λ c d. φ c d +ℤ φ c d) (stepped (λ c d. climb φ c d +ℤ climb φ d c)) (λ c d. let k = h c d in omega (arith, ints)) a b in
    let d = across_add φ φ a b in
    let f = across_stepped (λ c d. climb φ c d +ℤ climb φ d c) a b in
    omega (arith, ints)

-- `across φ` does not change if the two numbers of φ are exchanged: ∂ f is symmetric in x and y
pub across_exchanged : (φ : ℕ → ℕ → ℤ) (a b : ℕ) → across (λ c d. φ d c) a b ≡ across φ a b
across_exchanged φ a b =
    let z = across_alternating (λ c d. φ d c -ℤ φ c d) (λ c d. omega (arith, ints)) a b in
    let m = across_minus (λ c d. φ d c) φ a b in
    omega (arith, ints)

-- `across (across φ)` is 0: ∂(∂ f) = 0
pub across_across : (φ : ℕ → ℕ → ℤ) (a b : ℕ) → across (across φ) a b ≡ pos 0
across_across φ a b = across_alternating (across φ) (λ c d. omega (arith, ints)) a b

-- the Leibniz rule for products: ∂(f·g) = ∂f·g + f'·∂g for monomials f = x^a y^b and g = x^p y^q; f' is f with x and y exchanged
pub across_product : (φ : ℕ → ℕ → ℤ) (a b p q : ℕ)
    → across φ (a + p) (b + q) ≡ across (λ c d. φ (c + p) (d + q)) a b +ℤ across (λ c d. φ (b + c) (a + d)) p q
across_product φ a b p q =
    let all = across_of φ (a + p) (b + q) in
    let left = across_ext (λ c d. φ (c + p) (d + q)) (stepped (λ c d. climb φ (c + p) (d + q))) (λ c d. shift_left c d) a b in
    let right = across_ext (λ c d. φ (b + c) (a + d)) (stepped (λ c d. climb φ (b + c) (a + d))) (λ c d. shift_right c d) p q in
    let one = across_stepped (λ c d. climb φ (c + p) (d + q)) a b in
    let two = across_stepped (λ c d. climb φ (b + c) (a + d)) p q in
    omega (arith, ints)
  where
    across_of : (ψ : ℕ → ℕ → ℤ) (x y : ℕ) → across ψ x y ≡ climb ψ x y -ℤ climb ψ y x
    across_of ψ x y = refl

    shift_left : (c d : ℕ) → φ (c + p) (d + q) ≡ stepped (λ x y. climb φ (x + p) (y + q)) c d
    shift_left c d =
        let e : suc c + p ≡ suc (c + p) = omega arith in
        let f : suc d + q ≡ suc (d + q) = omega arith in
        rw (e, f) (sym (stepped_climb φ (c + p) (d + q)))

    shift_right : (c d : ℕ) → φ (b + c) (a + d) ≡ stepped (λ x y. climb φ (b + x) (a + y)) c d
    shift_right c d =
        let e : b + suc c ≡ suc (b + c) = omega arith in
        let f : a + suc d ≡ suc (a + d) = omega arith in
        rw (e, f) (sym (stepped_climb φ (b + c) (a + d)))
