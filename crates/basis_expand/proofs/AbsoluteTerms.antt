-- Lists with the absolute values of their coefficients. Let a table T (a list in which no label occurs twice) and a list L have the same
-- coefficient at each label. Then for each function f ≥ 0 the sum of |c|·f(label) over the terms of T is at most the sum over the terms of L.
use Rattle.std.proofs.lemmas.Grind.{common_steps}
use Rattle.std.proofs.Common.{◌≡◌, ℕ, List, [], ◌∷◌, sym, ◌∙◌, ap, subst, refl, arith, ℤ, pos, negsuc, neg_ℤ, ◌*ℤ◌, rules}
use Rattle.std.specs.Prelude.{◌≤ℤ◌, nat_abs}
use Rattle.std.proofs.lemmas.Int.{ints}
use Rattle.sym_model.specs.Polynomial.{Term, coefficient, pair, Same}
use Rattle.sym_model.specs.WholeTerms.{WholeTerms}
use Rattle.sym_model.proofs.Polynomials.{pair_determined}
use Rattle.sym_model.proofs.Sums.{total_map, total_among}
use Rattle.monomial_laws.specs.ExpressionTerms.{absolute}
use Rattle.linear_combinations.proofs.Found.{coefficient_of_term}
use Rattle.sparse_polys.specs.Tables.{IsWholeTable}

-- `turn c f`: f if c is at least 0, and -f otherwise
abbrev turn : ℤ → ℤ → ℤ
turn (pos n) f = f
turn (negsuc n) f = neg_ℤ f

times-turn : (a f : ℤ) → pos (nat_abs a) *ℤ f ≡ a *ℤ turn a f
times-turn (pos n) f = refl
times-turn (negsuc n) f = search rules

more-times : (x y f : ℤ) → pos 0 ≤ℤ f → y ≤ℤ x → (y *ℤ f) ≤ℤ (x *ℤ f)
more-times x y f h k = grind (arith, common_steps)

turn-within : (x a f : ℤ) → pos 0 ≤ℤ f → (x *ℤ turn a f) ≤ℤ (pos (nat_abs x) *ℤ f)
turn-within x (pos n) f h = more-times (pos (nat_abs x)) x f h (omega (arith, ints))
turn-within x (negsuc n) f h = search rules

pair-turned : (W : WholeTerms) (c φ : List ℕ → ℤ) → ((label : List ℕ) → pos 0 ≤ℤ φ label) → pair W (λ label. turn (c label) (φ label)) ≤ℤ pair (absolute W) φ
pair-turned [] c φ h = omega (arith, ints)
pair-turned (t ∷ W) c φ h = search (rules, turn-within, ints, (pair-turned W c φ h))

pub table-within : (T W : WholeTerms) (φ : List ℕ → ℤ) → IsWholeTable T → Same T W → ((label : List ℕ) → pos 0 ≤ℤ φ label)
    → pair (absolute T) φ ≤ℤ pair (absolute W) φ
table-within T W φ is e h =
    subst (λ z. z ≤ℤ pair (absolute W) φ)
    (sym (turned ∙ pair_determined T W (λ label. turn (coefficient T label) (φ label)) e))
    (pair-turned W (coefficient T) φ h)
  where
    turned : pair (absolute T) φ ≡ pair T (λ label. turn (coefficient T label) (φ label))
    turned =
        total_map (λ (t : Term). t.1 *ℤ φ t.0) (λ (t : Term). (t.0, pos (nat_abs t.1))) T
        ∙ total_among (λ (t : Term). pos (nat_abs t.1) *ℤ φ t.0) (λ (t : Term). t.1 *ℤ turn (coefficient T t.0) (φ t.0)) T
        (λ t m. times-turn t.1 (φ t.0) ∙ ap (λ z. t.1 *ℤ turn z (φ t.0)) (sym (coefficient_of_term T is.distinct t m)))
