-- Alternating sums, in which the entries of a list are inserted one by one: the form of an alternant that proofs use.
--     inserting x φ l         the sum of (-1)^i·φ(l with x inserted after i entries) over i = 0, .., length of l
--     alternating β φ         the sum of sign(w)·φ(β rearranged by w) over the orders w of the places of β, by inserting the entries one by one
--     alternating_exchange    exchanging two entries of β changes the sign of the sum
use Rattle.std.proofs.Common.{◌≡◌, ℕ, List, [], ◌∷◌, ◌++◌, map, ◌∙◌, ap, ap₂, refl, arith, ℤ, ◌-ℤ◌, neg_ℤ}
use Rattle.std.proofs.lemmas.Int.{ints}

abbrev pub inserting : ℕ → (List ℕ → ℤ) → List ℕ → ℤ
inserting x φ [] = φ (x ∷ [])
inserting x φ (y ∷ ys) = φ (x ∷ y ∷ ys) -ℤ inserting x (λ l. φ (y ∷ l)) ys

abbrev pub alternating : List ℕ → (List ℕ → ℤ) → ℤ
alternating [] φ = φ []
alternating (x ∷ xs) φ = alternating xs (inserting x φ)

pub inserting_ext : (x : ℕ) (φ ψ : List ℕ → ℤ) → ((l : List ℕ) → φ l ≡ ψ l) → (l : List ℕ) → inserting x φ l ≡ inserting x ψ l
inserting_ext x φ ψ e [] = e (x ∷ [])
inserting_ext x φ ψ e (y ∷ ys) = ap₂ ◌-ℤ◌ (e (x ∷ y ∷ ys)) (inserting_ext x (λ l. φ (y ∷ l)) (λ l. ψ (y ∷ l)) (λ l. e (y ∷ l)) ys)

pub alternating_ext : (β : List ℕ) (φ ψ : List ℕ → ℤ) → ((l : List ℕ) → φ l ≡ ψ l) → alternating β φ ≡ alternating β ψ
alternating_ext [] φ ψ e = e []
alternating_ext (x ∷ xs) φ ψ e = alternating_ext xs (inserting x φ) (inserting x ψ) (inserting_ext x φ ψ e)

pub inserting_minus : (x : ℕ) (φ ψ : List ℕ → ℤ) (l : List ℕ) → inserting x (λ w. φ w -ℤ ψ w) l ≡ inserting x φ l -ℤ inserting x ψ l
inserting_minus x φ ψ [] = refl
inserting_minus x φ ψ (y ∷ ys) = let e = inserting_minus x (λ l. φ (y ∷ l)) (λ l. ψ (y ∷ l)) ys in omega (arith, ints)

pub inserting_neg : (x : ℕ) (φ : List ℕ → ℤ) (l : List ℕ) → inserting x (λ w. neg_ℤ (φ w)) l ≡ neg_ℤ (inserting x φ l)
inserting_neg x φ [] = refl
inserting_neg x φ (y ∷ ys) = let e = inserting_neg x (λ l. φ (y ∷ l)) ys in omega (arith, ints)

pub alternating_neg : (β : List ℕ) (φ : List ℕ → ℤ) → alternating β (λ l. neg_ℤ (φ l)) ≡ neg_ℤ (alternating β φ)
alternating_neg [] φ = refl
alternating_neg (x ∷ xs) φ =
    alternating_ext xs (inserting x (λ w. neg_ℤ (φ w))) (λ l. neg_ℤ (inserting x φ l)) (inserting_neg x φ) ∙ alternating_neg xs (inserting x φ)

pub inserting_map : (f : ℕ → ℕ) (x : ℕ) (φ : List ℕ → ℤ) (l : List ℕ) → inserting (f x) φ (map f l) ≡ inserting x (λ w. φ (map f w)) l
inserting_map f x φ [] = refl
inserting_map f x φ (y ∷ ys) = ap (λ z. φ (f x ∷ f y ∷ map f ys) -ℤ z) (inserting_map f x (λ l. φ (f y ∷ l)) ys)

pub alternating_map : (f : ℕ → ℕ) (xs : List ℕ) (φ : List ℕ → ℤ) → alternating (map f xs) φ ≡ alternating xs (λ w. φ (map f w))
alternating_map f [] φ = refl
alternating_map f (x ∷ xs) φ =
    alternating_map f xs (inserting (f x) φ)
    ∙ alternating_ext xs (λ w. inserting (f x) φ (map f w)) (inserting x (λ w. φ (map f w))) (inserting_map f x φ)

-- ---- exchanging two entries of β changes the sign of an alternating sum

pub inserting_swap : (x y : ℕ) (φ : List ℕ → ℤ) (l : List ℕ) → inserting y (inserting x φ) l ≡ neg_ℤ (inserting x (inserting y φ) l)
inserting_swap x y φ [] = omega (arith, ints)
inserting_swap x y φ (z ∷ zs) =
    let a = inserting_minus y (λ l. φ (x ∷ z ∷ l)) (inserting x (λ l. φ (z ∷ l))) zs in
    let b = inserting_minus x (λ l. φ (y ∷ z ∷ l)) (inserting y (λ l. φ (z ∷ l))) zs in
    let c = inserting_swap x y (λ l. φ (z ∷ l)) zs in
    omega (arith, ints)

pub alternating_swap : (x y : ℕ) (zs : List ℕ) (φ : List ℕ → ℤ) → alternating (x ∷ y ∷ zs) φ ≡ neg_ℤ (alternating (y ∷ x ∷ zs) φ)
alternating_swap x y zs φ =
    alternating_ext zs (inserting y (inserting x φ)) (λ l. neg_ℤ (inserting x (inserting y φ) l)) (inserting_swap x y φ)
    ∙ alternating_neg zs (inserting x (inserting y φ))

exchange_first : (middle right : List ℕ) (a b : ℕ) (φ : List ℕ → ℤ) → alternating (a ∷ (middle ++ (b ∷ right))) φ ≡ neg_ℤ (alternating (b ∷ (middle ++ (a ∷ right))) φ)
exchange_first [] right a b φ = alternating_swap a b right φ
exchange_first (m ∷ middle) right a b φ =
    let p = alternating_swap a m (middle ++ (b ∷ right)) φ in
    let q = exchange_first middle right a b (inserting m φ) in
    let r = alternating_swap m b (middle ++ (a ∷ right)) φ in
    omega (arith, ints)

pub alternating_exchange : (left middle right : List ℕ) (a b : ℕ) (φ : List ℕ → ℤ)
    → alternating (left ++ (a ∷ (middle ++ (b ∷ right)))) φ ≡ neg_ℤ (alternating (left ++ (b ∷ (middle ++ (a ∷ right)))) φ)
alternating_exchange [] middle right a b φ = exchange_first middle right a b φ
alternating_exchange (x ∷ left) middle right a b φ = alternating_exchange left middle right a b (inserting x φ)
