-- Polynomials with integer coefficients, as formal sums of terms. A polynomial is determined by its coefficients: two
-- formal sums are the same polynomial if all coefficients agree.
use Rattle.std.specs.Prelude.{◌≡◌, ℕ, zero, suc, ◌+◌, ◌==◌, Bool, true, false, ◌&&◌, cond, ℤ, pos}
use Rattle.std.specs.Prelude.{neg_ℤ, ◌*ℤ◌, List, [], ◌∷◌, ◌++◌, map, length, replicate, filter}
use Rattle.std.specs.Prelude.{flat_map}
use Rattle.sym_model.specs.Sum.{total, Among}

-- a term: an exponent list, which has one exponent for each variable; and an integer, the coefficient
abbrev pub Term : Type 0
Term = List ℕ × ℤ

-- a polynomial, written as a formal sum of terms
abbrev pub Poly : Type 0
Poly = List Term

-- whether two lists of numbers are the same list
abbrev pub same : List ℕ → List ℕ → Bool
same [] [] = true
same [] (b ∷ bs) = false
same (a ∷ as') [] = false
same (a ∷ as') (b ∷ bs) = (a == b) && same as' bs

-- the coefficient of x^α in f: the sum of the coefficients of the terms of f with the exponents α
abbrev pub coefficient : Poly → List ℕ → ℤ
coefficient f α = total (λ (t : Term). cond (same t.0 α) t.1 (pos 0)) f

-- f and g are the same polynomial: all their coefficients agree
abbrev pub Same : Poly → Poly → Type 0
Same f g = (α : List ℕ) → coefficient f α ≡ coefficient g α

-- f is a polynomial in n variables: the exponent list of each term has n places
abbrev pub In : ℕ → Poly → Type 0
In n f = (t : Term) → Among t f → length t.0 ≡ n

-- the polynomial 0
abbrev pub nothing : Poly
nothing = []

-- the exponent list of the monomial 1 in n variables: n zeros
abbrev pub no_exponents : ℕ → List ℕ
no_exponents n = replicate n 0

-- the polynomial 1 in n variables
abbrev pub one : ℕ → Poly
one n = (no_exponents n, pos 1) ∷ []

-- the sum of two exponent lists, place by place, with 0 for a missing place: the exponents of the product of two
-- monomials
abbrev pub join : List ℕ → List ℕ → List ℕ
join [] β = β
join (a ∷ α) [] = a ∷ α
join (a ∷ α) (b ∷ β) = (a + b) ∷ join α β

-- the sum of two polynomials
abbrev pub plus : Poly → Poly → Poly
plus f g = f ++ g

-- the formal sum f, of labels of any type, times the integer c
abbrev pub scale : {Label : Type 0} → ℤ → List (Label × ℤ) → List (Label × ℤ)
scale {Label = Label} c f = map (λ (t : Label × ℤ). (t.0, c *ℤ t.1)) f

-- the polynomial -f: the sign of each coefficient is changed
abbrev pub negate : Poly → Poly
negate f = map (λ (t : Term). (t.0, neg_ℤ t.1)) f

-- the product of two polynomials: each term of f times each term of g
abbrev pub times : Poly → Poly → Poly
times f g = flat_map (λ (s : Term). map (λ (t : Term). (join s.0 t.0, s.1 *ℤ t.1)) g) f

-- the sum of c·φ(label) over the terms (label, c) of f
abbrev pub pair : {Label : Type 0} → List (Label × ℤ) → (Label → ℤ) → ℤ
pair {Label = Label} f φ = total (λ (t : Label × ℤ). t.1 *ℤ φ t.0) f

-- the exponent list cut to n places, or padded with zeros to n places
abbrev pub resize : ℕ → List ℕ → List ℕ
resize zero α = []
resize (suc n) [] = 0 ∷ resize n []
resize (suc n) (a ∷ α) = a ∷ resize n α

-- whether each exponent of the list is 0
abbrev pub all_zero : List ℕ → Bool
all_zero [] = true
all_zero (a ∷ α) = (a == 0) && all_zero α

-- whether no exponent of the list after place n is positive
abbrev pub fits_in : ℕ → List ℕ → Bool
fits_in zero α = all_zero α
fits_in (suc n) [] = true
fits_in (suc n) (a ∷ α) = fits_in n α

-- the polynomial restricted to n variables: the later variables are set to 0
abbrev pub restrict : ℕ → Poly → Poly
restrict n f = map (λ (t : Term). (resize n t.0, t.1)) (filter (λ (t : Term). fits_in n t.0) f)
