-- If a factor has more than k rows, the product in k variables is 0.
use Rattle.std.proofs.Common.{◌≡◌, ◌<◌, ◌≤◌, ◌⊎◌, inl, inr, ℕ, max, List, [], ◌∷◌, length, map, true, false, sym, ◌∙◌, ap, subst, arith, ℤ, pos, Option, Some, None, rules}
use Rattle.std.specs.Prelude.{IfSome}
use Rattle.std.proofs.lemmas.Bool.{cases_lt, cases_Bool, both_ways}
use Rattle.std.specs.Option.{unwrap_or}
use Rattle.sym_model.specs.Sum.{Among}
use Rattle.sym_model.specs.Polynomial.{Poly, Same, nothing, join, coefficient, times}
use Rattle.sym_model.specs.Partition.{IsPartition, size, rows}
use Rattle.sym_model.specs.Schur.{schur}
use Rattle.sym_model.specs.Alternant.{alternant, staircase, schur_coefficient}
use Rattle.sym_model.specs.LabelLimits.{is_partition}
use Rattle.sym_model.specs.WholeTerms.{WholeTerms, as_fractions}
use Rattle.sym_model.specs.Products.{schur_product, classical_product}
use Rattle.sym_model.proofs.Polynomials.{at_only, coefficient_pair, pair_times, pair_zero, Same_refl, Same_sym, times_respects}
use Rattle.sym_model.proofs.WholeTerms.{represents-whole}
use Rattle.sym_model.proofs.Orders.{is_partition-tells, is_partition-from}
use Rattle.sym_model.specs.Products.{ExpandsInSchurs}
use Rattle.sym_model.specs.PastLimit.{HasPast, IsCoefficientOfProduct}
use Rattle.alternant_laws.proofs.ClassicalProducts.{classical_product-coefficient, classical_product-term}
use Rattle.product_laws.proofs.Expanding.{product_nothing}
use Rattle.product_laws.specs.FactorSteps.{HasLong}
use Rattle.product_laws.proofs.CountLists.{no_label}

among_rows : (factors : List (List ℕ)) (parts : List ℕ) → Among parts factors → rows parts ≤ size (map rows factors)
among_rows [] parts m = absurd m
among_rows (x ∷ factors) parts (inl e) = let d = ap rows e in omega arith
among_rows (x ∷ factors) parts (inr m) = let h = among_rows factors parts m in omega arith

coefficient_of_nothing : (f g : Poly) (α : List ℕ) → Same g nothing → coefficient (times f g) α ≡ pos 0
coefficient_of_nothing f g α e =
    times_respects f f g nothing (Same_refl f) e α
    ∙ coefficient_pair (times f nothing) α ∙ pair_times f nothing (at_only α) ∙ pair_zero f

pub nothing_meets : (given : Option ℕ) (k : ℕ) (factors : List (List ℕ)) (terms : WholeTerms) → k ≡ unwrap_or given (max (size (map rows factors)) 1)
    → ((parts : List ℕ) → Among parts factors → IsPartition parts) → HasLong k factors → terms ≡ [] → ExpandsInSchurs given (schur_product factors) (as_fractions terms)
nothing_meets given k factors (t ∷ terms) e are h none = absurd (cc)
nothing_meets None k factors [] e are h none = let l = among_rows factors h.0 h.1 in let m = h.2 in absurd (omega arith)
nothing_meets (Some n) k factors [] e are h none = (
  represents-whole (λ label. schur label n) [] (schur_product factors n) tt
      (Same_sym (schur_product factors n) nothing (product_nothing n factors h.0 h.1 (are h.0 h.1) (let m = h.2 in omega arith))),
  λ t m. absurd m,
)

product_zero : (n : ℕ) (factors : List (List ℕ)) (parts : List ℕ) → ((shape : List ℕ) → Among shape factors → IsPartition shape) → HasLong n factors
    → schur_coefficient n parts (schur_product factors n) ≡ pos 0
product_zero n factors parts are h =
    coefficient_of_nothing (alternant (staircase n)) (schur_product factors n) (join parts (staircase n)) (product_nothing n factors h.0 h.1 (are h.0 h.1) (let m = h.2 in omega arith))

classical_zero : (n : ℕ) (factors : List (List ℕ)) → ((parts : List ℕ) → Among parts factors → IsPartition parts) → HasLong n factors → Same [] (classical_product n factors)
classical_zero n factors are h α = sym (by (cases_Bool (is_partition α)) (cases_lt n (rows α)))
  where
    none : ((t : List ℕ × ℤ) → Among t (classical_product n factors) → t.0 ≡ α → ⊥) → coefficient (classical_product n factors) α ≡ pos 0
    none g = no_label (classical_product n factors) α g

    by : (is_partition α ≡ true) ⊎ (is_partition α ≡ false) → (n < rows α) ⊎ (rows α ≤ n) → coefficient (classical_product n factors) α ≡ pos 0
    by (inl e) (inr l) = classical_product-coefficient n factors α (is_partition-tells α e) l ∙ product_zero n factors α are h
    by (inl e) (inl l) = none (λ t m d. let a = (classical_product-term n factors t m).few in let b = ap length d in absurd (omega arith))
    by (inr e) l = none (λ t m d. both_ways (is_partition α) e (is_partition-from α (subst IsPartition d (classical_product-term n factors t m).partition)))

pub nothing_classical : (given : Option ℕ) (k : ℕ) (factors : List (List ℕ)) (terms : WholeTerms) → k ≡ unwrap_or given (max (size (map rows factors)) 1)
    → ((parts : List ℕ) → Among parts factors → IsPartition parts) → HasLong k factors → terms ≡ [] → IfSome given (λ n. Same terms (classical_product n factors))
nothing_classical None k factors terms e are h none = tt
nothing_classical (Some n) k factors terms e are h none =
    subst (λ (ts : WholeTerms). Same ts (classical_product n factors)) (sym none) (classical_zero n factors are (h.0, h.1, let m = h.2 in omega arith))

pub classical_given : (given : Option ℕ) (k m : ℕ) (factors : List (List ℕ)) (terms : WholeTerms) → k ≡ unwrap_or given m
    → Same terms (classical_product k factors) → IfSome given (λ n. Same terms (classical_product n factors))
classical_given None k m factors terms e same = tt
classical_given (Some n) k m factors terms e same = subst (λ (j : ℕ). Same terms (classical_product j factors)) e same

pub nothing_fits : (given : Option ℕ) (k : ℕ) (factors : List (List ℕ)) → k ≡ unwrap_or given (max (size (map rows factors)) 1)
    → ((parts : List ℕ) → Among parts factors → IsPartition parts) → HasLong k factors → HasPast (IsCoefficientOfProduct given factors) → ⊥
nothing_fits None k factors e are h past = let l = among_rows factors h.0 h.1 in let m = h.2 in omega arith
nothing_fits (Some n) k factors e are h past = search (rules, product_zero)
