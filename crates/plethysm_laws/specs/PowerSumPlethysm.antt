-- The plethysms p_k[g] and p_λ[g] (Macdonald, I.8); and, for a list of terms (λ, c), the sum of |c|·|value(λ)| over the terms, which bounds the
-- absolute value of the sum of c·value(λ).
use Rattle.std.specs.Prelude.{ℕ, nat_abs, ℤ, List, map}
use Rattle.sym_model.specs.Polynomial.{Term, Poly}
use Rattle.sym_model.specs.Bases.{product_over}
use Rattle.sym_model.specs.Plethysm.{multiplied}
use Rattle.sym_model.specs.WholeTerms.{WholeTerms, weighed}

-- p_k[g]: the polynomial g with each variable replaced by its k-th power
abbrev pub dilated : ℕ → Poly → Poly
dilated k g = map (λ (t : Term). (multiplied k t.0, t.1)) g

-- p_λ[g], in n variables: the product of the p_k[g] over the parts k of λ
abbrev pub power_sum_plethysm : List ℕ → Poly → ℕ → Poly
power_sum_plethysm parts g n = product_over (λ k m. dilated k g) parts n

-- the sum of |c|·|value(λ)| over the terms (λ, c) of the list W
abbrev pub met : WholeTerms → (List ℕ → ℤ) → ℕ
met W value = weighed (λ label. nat_abs (value label)) W
