-- The monomials x^α, for exponent lists α of at most n places without zeros at the end, are linearly independent in n
-- variables.
use Rattle.std.proofs.Common.{◌≡◌, ℕ, zero, suc, ◌≤◌, cond, List, [], ◌∷◌, length, refl, ap, ◌∙◌, arith, ℤ, pos}
use Rattle.sym_model.specs.Polynomial.{pair, same, resize, fits_in}
use Rattle.sym_model.specs.Partition.{without_last_zeros, in_front}
use Rattle.sym_model.specs.DividedDifference.{x_to, x_to_in}
use Rattle.sym_model.proofs.Exponents.{fits_in_length}
use Rattle.sym_model.proofs.Polynomials.{pair_restrict}
use lib.IntN.{+ℤ_idr}
use Rattle.sym_model.proofs.Ring.{one-product}
use Rattle.independence_laws.specs.Independence.{AreIndependent, HasPlaces}
use Rattle.independence_laws.proofs.DualFunctions.{independent_by_duals}

pub pair_x_to : (α : List ℕ) (φ : List ℕ → ℤ) → pair (x_to α) φ ≡ φ α
pair_x_to α φ = +ℤ_idr _ ∙ one-product (φ α)

abbrev pub monomial_dual : List ℕ → List ℕ → ℤ
monomial_dual μ α = cond (same (without_last_zeros α) μ) (pos 1) (pos 0)

pub without_last_zeros-padded : (n : ℕ) (α : List ℕ) → length α ≤ n
    → without_last_zeros (resize n α) ≡ without_last_zeros α
without_last_zeros-padded zero [] h = refl
without_last_zeros-padded zero (a ∷ α) h = absurd (omega arith)
without_last_zeros-padded (suc n) [] h = ap (in_front 0) (without_last_zeros-padded n [] (omega arith))
without_last_zeros-padded (suc n) (a ∷ α) h = ap (in_front a) (without_last_zeros-padded n α (omega arith))

pub powers-dual : (n : ℕ) (x label : List ℕ) → HasPlaces n x → HasPlaces n label
    → pair (x_to_in x n) (monomial_dual label) ≡ cond (same x label) (pos 1) (pos 0)
powers-dual n x label p q =
    pair_restrict n (x_to x) (monomial_dual label)
    ∙ pair_x_to x (λ α. cond (fits_in n α) (monomial_dual label (resize n α)) (pos 0))
    ∙ ap (λ b. cond b (monomial_dual label (resize n x)) (pos 0)) (fits_in_length n x p.0)
    ∙ ap (λ α. cond (same α label) (pos 1) (pos 0)) (without_last_zeros-padded n x p.0 ∙ p.1)

pub powers-independent : (n : ℕ) → AreIndependent same (HasPlaces n) (λ exponents. x_to_in exponents n)
powers-independent n =
    independent_by_duals same (HasPlaces n) (λ exponents. x_to_in exponents n) monomial_dual (powers-dual n)
