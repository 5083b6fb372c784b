-- The m_λ of partitions with at most n rows are linearly independent in n variables.
use Rattle.std.proofs.Common.{◌≡◌, ℕ, zero, suc, ◌≤◌, cond, List, [], ◌∷◌, length, refl, sym, ap, ◌∙◌, arith, ℤ, pos}
use Rattle.std.proofs.lemmas.Bool.{eq-eqb}
use Rattle.sym_model.specs.Polynomial.{pair, same, resize, fits_in}
use Rattle.sym_model.specs.Partition.{sorted_parts, without_last_zeros, in_front, insert_part}
use Rattle.sym_model.specs.Bases.{monomial}
use Rattle.sym_model.specs.DividedDifference.{x_to, x_to_in}
use Rattle.sym_model.proofs.Exponents.{same_sym, fits_in_length, length-resize}
use Rattle.sym_model.proofs.Polynomials.{at_only, coefficient_pair, pair_restrict}
use Rattle.sym_model.proofs.Monomials.{coefficient-monomial}
use Rattle.sym_model.proofs.SortedParts.{sorted_parts-partition}
use Rattle.independence_laws.specs.Independence.{HasRows, AreIndependent}
use Rattle.independence_laws.proofs.DualFunctions.{independent_by_duals}

sorted_parts-resize : (n : ℕ) (α : List ℕ) → length α ≤ n → sorted_parts (resize n α) ≡ sorted_parts α
sorted_parts-resize zero [] h = refl
sorted_parts-resize zero (a ∷ α) h = absurd (omega arith)
sorted_parts-resize (suc n) [] h = sorted_parts-resize n [] (omega arith)
sorted_parts-resize (suc n) (a ∷ α) h = ap (insert_part a) (sorted_parts-resize n α (omega arith))

pub monomial-dual : (n : ℕ) (x label : List ℕ) → HasRows n x → HasRows n label
    → pair (monomial x n) (at_only (resize n label)) ≡ cond (same x label) (pos 1) (pos 0)
monomial-dual n x label p q =
    sym (coefficient_pair (monomial x n) (resize n label))
    ∙ coefficient-monomial x n (resize n label)
    ∙ ap (λ b. cond b (cond (same (sorted_parts (resize n label)) x) (pos 1) (pos 0)) (pos 0)) (eq-eqb (length (resize n label)) n (length-resize n label))
    ∙ ap (λ α. cond (same α x) (pos 1) (pos 0)) (sorted_parts-resize n label q.1 ∙ sorted_parts-partition label q.0)
    ∙ ap (λ b. cond b (pos 1) (pos 0)) (same_sym label x)

pub monomials-independent : (n : ℕ) → AreIndependent same (HasRows n) (λ parts. monomial parts n)
monomials-independent n =
    independent_by_duals same (HasRows n) (λ parts. monomial parts n) (λ label. at_only (resize n label)) (monomial-dual n)
