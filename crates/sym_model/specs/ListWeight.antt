-- The weight of a list of terms with fractions as coefficients, and lists of terms whose coefficients are bounded by
-- two numbers.
use Rattle.std.specs.Prelude.{◌≡◌, ℕ, ◌*◌, ◌/◌, ◌%◌, ◌≤◌, max, nat_abs, List, [], ◌∷◌, map}
use Rattle.sym_model.specs.Sum.{Among}
use Rattle.sym_model.specs.Partition.{size}
use Rattle.sym_model.specs.Expansion.{Fraction, Terms}
use Rattle.sym_model.specs.Expression.{lcm}
use Rattle.sym_model.specs.Weight.{factorial}

-- the least common multiple of the denominators of the coefficients; 1 for the empty list
abbrev pub common_denominator : {Label : Type 0} → Terms Label → ℕ
common_denominator [] = 1
common_denominator (t ∷ terms) = lcm t.1.1 (common_denominator terms)

-- d times the sum of the absolute values of the coefficients, for a number d that all their denominators divide
abbrev pub absolute_sum : {Label : Type 0} → ℕ → Terms Label → ℕ
absolute_sum {Label = Label} d terms =
    size (map (λ (t : Label × Fraction). nat_abs t.1.0 * (d / t.1.1)) terms)

-- the weight of a list of terms, max(1, D·A)·D: D is the least common multiple of the denominators of its
-- coefficients, and A the sum of the absolute values of its coefficients
abbrev pub list_weight : {Label : Type 0} → Terms Label → ℕ
list_weight terms =
    let d = common_denominator terms in
    max 1 (absolute_sum d terms) * d

-- the product of the factorials of the numbers of a list
abbrev pub factorials : List ℕ → ℕ
factorials [] = 1
factorials (a ∷ parts) = factorial a * factorials parts

-- The list of terms is bounded by the numbers n and d: for each term with the coefficient c and the label λ, the
-- denominator of c divides d, and |c|·d·λ_1!·λ_2!·.. is at most n·|λ|!.
abbrev pub IsBounded : ℕ → ℕ → Terms (List ℕ) → Type 0
IsBounded n d terms =
    (t : List ℕ × Fraction) → Among t terms
    → (d % t.1.1 ≡ 0) × (nat_abs t.1.0 * (d / t.1.1) * factorials t.0 ≤ n * factorial (size t.0))
