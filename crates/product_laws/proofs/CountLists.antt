-- Lists of terms, each a label (a partition) with an integer coefficient. `AreCounts` means that no coefficient is negative. If the sum of the
-- coefficients of a label in a list is not 0, some term of the list has this label.
use Rattle.std.proofs.Common.{◌≡◌, ◌⊎◌, inl, inr, cond, ℕ, List, [], ◌∷◌, map, refl, sym, ◌∙◌, ap, ap₂, subst, arith, ℤ, pos, ◌+ℤ◌, ◌*ℤ◌, flat_map, rules}
use Rattle.std.specs.Prelude.{◌≤ℤ◌}
use Rattle.std.proofs.lemmas.Int.{ints}
use Rattle.sym_model.specs.Sum.{Among, Once}
use Rattle.sym_model.specs.Polynomial.{Term, same, coefficient, scale}
use Rattle.sym_model.specs.WholeTerms.{WholeTerms}
use Rattle.sym_model.proofs.Sums.{total_none, Among-map, Among_from_map, Among_from_each}
use Rattle.sym_model.proofs.Exponents.{same_from, same_apart, same_or_not}
use Rattle.sym_model.proofs.Polynomials.{coefficient_plus}
use Rattle.sym_model.proofs.Integers.{product-nonnegative, cond-nonnegative}
use Rattle.sym_model.specs.WholeTerms.{AreCounts}
use lib.IntN.{+ℤ_idl, +ℤ_idr}

pub counts-coefficient : (terms : WholeTerms) (α : List ℕ) → AreCounts terms → pos 0 ≤ℤ coefficient terms α
counts-coefficient [] α h = omega (arith, ints)
counts-coefficient (t ∷ terms) α h =
    let r = counts-coefficient terms α (λ u m. h u (inr m)) in
    let c = cond-nonnegative (same t.0 α) t.1 (h t (inl refl)) in
    omega (arith, ints)

pub counts-scale : (c : ℤ) (terms : WholeTerms) → pos 0 ≤ℤ c → AreCounts terms → AreCounts (scale c terms)
counts-scale c terms h k t m =
    let s = Among_from_map (λ (u : Term). let scaled : Term = (u.0, c *ℤ u.1) in scaled) t terms m in
    subst (λ (z : ℤ). pos 0 ≤ℤ z) (sym (ap (λ (u : Term). u.1) s.2)) (product-nonnegative c s.0.1 h (k s.0 s.1))

pub counts-each : {A : Type 0} (h : A → WholeTerms) (xs : List A) → ((x : A) → Among x xs → AreCounts (h x)) → AreCounts (flat_map h xs)
counts-each h xs c t m = let s = Among_from_each h t xs m in c s.0 s.1 t s.2

-- if no list h(y) has a negative coefficient, and x is in xs, the coefficient of α in h(x) is at most the coefficient of α in the lists h(y) of all y
-- in xs together
pub coefficient-each : {A : Type 0} (h : A → WholeTerms) (xs : List A) (x : A) (α : List ℕ) → ((y : A) → Among y xs → AreCounts (h y)) → Among x xs
    → coefficient (h x) α ≤ℤ coefficient (flat_map h xs) α
coefficient-each h [] x α c m = absurd m
coefficient-each h (y ∷ xs) x α c (inl e) =
    let s = coefficient_plus (h y) (flat_map h xs) α in
    let r = counts-coefficient (flat_map h xs) α (counts-each h xs (λ z m. c z (inr m))) in
    let d : coefficient (h x) α ≡ coefficient (h y) α = ap (λ z. coefficient (h z) α) e in
    omega (arith, ints)
coefficient-each h (y ∷ xs) x α c (inr m) =
    let s = coefficient_plus (h y) (flat_map h xs) α in
    let r = coefficient-each h xs x α (λ z n. c z (inr n)) m in
    let d = counts-coefficient (h y) α (c y (inl refl)) in
    omega (arith, ints)

pub no_label : (terms : WholeTerms) (α : List ℕ) → ((t : Term) → Among t terms → t.0 ≡ α → ⊥) → coefficient terms α ≡ pos 0
no_label terms α h =
    total_none (λ (t : Term). cond (same t.0 α) t.1 (pos 0)) terms (λ t m. ap (λ b. cond b t.1 (pos 0)) (same_apart t.0 α (h t m)))

pub some_term : (terms : WholeTerms) (α : List ℕ) → (coefficient terms α ≡ pos 0 → ⊥) → (t : Term) × Among t terms × (t.0 ≡ α)
some_term [] α h = absurd (h refl)
some_term (t ∷ terms) α h = by (same_or_not t.0 α) (some_term terms α)
  where
    by : (t.0 ≡ α) ⊎ (t.0 ≡ α → ⊥) → ((coefficient terms α ≡ pos 0 → ⊥) → (u : Term) × Among u terms × (u.0 ≡ α))
        → (u : Term) × Among u (t ∷ terms) × (u.0 ≡ α)
    by (inl e) later = (t, inl refl, e)
    by (inr n) later =
        let found = later (λ z. h (ap₂ ◌+ℤ◌ (ap (λ b. cond b t.1 (pos 0)) (same_apart t.0 α n)) z ∙ +ℤ_idl (pos 0))) in
        (found.0, inr found.1, found.2)

-- if no label occurs twice in a list of terms, the coefficient of each term is the coefficient of its label in the whole list
pub coefficient_of_once : (terms : WholeTerms) → Once (map (λ (t : Term). t.0) terms) → (t : Term) → Among t terms → coefficient terms t.0 ≡ t.1
coefficient_of_once [] once t m = absurd m
coefficient_of_once (u ∷ terms) once t (inl e) = search (rules, same_from, no_label, Among-map, +ℤ_idr)
coefficient_of_once (u ∷ terms) once t (inr m) =
    ap₂ ◌+ℤ◌ (ap (λ b. cond b u.1 (pos 0)) (same_apart u.0 t.0 (λ d. once.0 (subst (λ label. Among label (map (λ (w : Term). w.0) terms)) (sym d) (Among-map (λ (w : Term). w.0) t terms m)))))
    (coefficient_of_once terms once.1 t m)
    ∙ +ℤ_idl t.1
