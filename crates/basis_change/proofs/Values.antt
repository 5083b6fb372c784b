-- The value of a label in a change of basis: the polynomial of its first partition in the target basis times the augmented monomial of its second.
--     value-last             converting the last part changes no value
--     value-conversion       replacing a label by the terms of its conversion changes no value
--     value-target           the terms in the target basis at the end have the same value
use Rattle.std.proofs.Common.{◌≡◌, ◌⊎◌, ℕ, ◌+◌, ◌-◌, ◌<◌, List, [], ◌∷◌, ◌++◌, length, refl, sym, ap, ap₂, ◌∙◌, subst, inl, inr, arith, ℤ, pos, negsuc, ◌+ℤ◌, ◌*ℤ◌, flat_map, rules}
use Rattle.std.proofs.lemmas.Int.{ints}
use Rattle.sym_model.specs.Sum.{total}
use Rattle.sym_model.specs.Polynomial.{Poly, Same, In, same, join, plus, pair, times, one, scale}
use Rattle.sym_model.specs.Partition.{IsPartition, size, insert_part, sorted_parts}
use Rattle.sym_model.specs.Bases.{product_over, power_sum_of, monomial}
use Rattle.sym_model.specs.RaisedPart.{raise}
use Rattle.sym_model.specs.WholeTerms.{WholeTerms}
use Rattle.sym_model.proofs.Sums.{total_ext, total_map}
use Rattle.sym_model.proofs.Polynomials.{pair_ext, pair_plus, pair_each, pair_times, pair_total, pair_scale, pair_determined, same_from_pair, Same_refl, Same_trans, times_respects, In_scale}
use Rattle.sym_model.proofs.Monomials.{In-monomials}
use Rattle.sym_model.proofs.PolynomialLaws.{times-plus, times-one}
use Rattle.sym_model.proofs.SortedParts.{sorted_parts-zeros}
use Rattle.monomial_laws.proofs.Powers.{In-product_over}
use Rattle.basis_change_laws.specs.AugmentedMonomial.{augmented, multiplicity_factorials}
use Rattle.basis_change_laws.specs.JoinedLists.{merged, row}
use Rattle.basis_change_laws.proofs.AugmentedMonomials.{power_sum_times_augmented}
use Rattle.basis_change_laws.proofs.MergedParts.{front, product_over-merged}
use Rattle.basis_change_laws.proofs.NewtonLists.{one-monomials}
use Rattle.linear_combinations.specs.Gains.{each_with, over}
use Rattle.linear_combinations.proofs.Gains.{over_append, each_over}
use Rattle.sparse_polys.specs.declared.family.Family.{Family}
use Rattle.sparse_polys.specs.Families.{polynomial_of}
use Rattle.sparse_polys.proofs.Families.{In-family}
use Rattle.family_lists.specs.FactorLists.{list_at}
use Rattle.basis_change.specs.AugmentedProducts.{MixedLabel, IsReady, products, raised, conversion, in_target}
use Rattle.basis_change.specs.Factors.{target_value, product_value, IsPowerSum, ArePowerSums}
use Rattle.basis_change.proofs.LastParts.{IsEnded}
use Rattle.basis_change.proofs.Conversions.{Stays, Ends, conversion-cases}
use Rattle.sym_model.proofs.Ring.{one-product}
use Rattle.sym_model.proofs.Integers.{single_term}

pub In-augmented : (parts : List ℕ) (n : ℕ) → In n (augmented parts n)
In-augmented parts n = In_scale n (pos (multiplicity_factorials parts)) (monomial parts n) (In-monomials (λ α. same (sorted_parts α) parts) n (size parts))

-- ---- a label whose augmented monomial has no parts

scale-one : (f : Poly) → Same (scale (pos 1) f) f
scale-one f = same_from_pair (scale (pos 1) f) f (λ φ. pair_scale (pos 1) f φ ∙ one-product (pair f φ))

augmented-none : (n : ℕ) → Same (augmented [] n) (one n)
augmented-none n = search (rules, scale-one, one-monomials, sorted_parts-zeros)

times-augmented-none : (n : ℕ) (f : Poly) → In n f → Same (times f (augmented [] n)) f
times-augmented-none n f i =
    Same_trans (times f (augmented [] n)) (times f (one n)) f
    (times_respects f f (augmented [] n) (one n) (Same_refl f) (augmented-none n))
    (times-one n f i)

target_value-is : (family : Family) (n : ℕ) (φ : List ℕ → ℤ) (label : List ℕ) → target_value family n φ label ≡ product_value family n φ (label, [])
target_value-is family n φ label = search (rules, pair_determined, times-augmented-none, In-product_over, In-family)

-- ---- p_a times the augmented monomial of the other parts

value-products : (family : Family) (n : ℕ) (φ : List ℕ → ℤ) (a : ℕ) (factor : WholeTerms) (converted rest : List ℕ) → IsPartition converted → IsPowerSum family a factor
    → over (product_value family n φ) (products factor converted rest) ≡ pair (times (power_sum_of a n) (times (product_over (polynomial_of family) converted n) (augmented rest n))) φ
value-products family n φ a factor converted rest p is =
    total_map (λ (t : MixedLabel × ℤ). t.1 *ℤ product_value family n φ t.0) (λ (t : List ℕ × ℤ). ((merged converted t.0, rest), t.1)) factor
    ∙ total_ext (λ (t : List ℕ × ℤ). t.1 *ℤ product_value family n φ (merged converted t.0, rest)) (λ (t : List ℕ × ℤ). t.1 *ℤ target_value family n ψ t.0)
    (λ t. ap (λ x. t.1 *ℤ x) (value t.0)) factor
    ∙ is n ψ
    ∙ sym (pair_times (power_sum_of a n) others φ)
  where
    C : Poly
    C = product_over (polynomial_of family) converted n

    others : Poly
    others = times (product_over (polynomial_of family) converted n) (augmented rest n)

    ψ : List ℕ → ℤ
    ψ α = pair others (λ β. φ (join α β))

    value : (label : List ℕ) → product_value family n φ (merged converted label, rest) ≡ target_value family n ψ label
    value label =
        let T = product_over (polynomial_of family) label n in
        pair_determined (times (product_over (polynomial_of family) (merged converted label) n) (augmented rest n)) (times T others) φ
        (Same_trans (times (product_over (polynomial_of family) (merged converted label) n) (augmented rest n)) (times C (times T (augmented rest n))) (times T others)
        (product_over-merged (polynomial_of family) n (In-family family n) converted label (augmented rest n) (In-augmented rest n) p.positive)
        (front C T (augmented rest n)))
        ∙ pair_times (product_over (polynomial_of family) label n) others φ

value-raised : (f : MixedLabel → ℤ) (converted : List ℕ) (a : ℕ) (rest numbers : List ℕ)
    → over f (each_with (negsuc 0) (raised converted a rest numbers)) ≡ negsuc 0 *ℤ total (λ (b : ℕ). f (converted, raise a b rest)) numbers
value-raised f converted a rest numbers = search (rules, each_over, total_map)

value-power_sum : (n a : ℕ) (C : Poly) (rest : List ℕ) (φ : List ℕ → ℤ) → 0 < a → IsPartition rest
    → pair (times (power_sum_of a n) (times C (augmented rest n))) φ ≡ pair (times C (augmented (insert_part a rest) n)) φ +ℤ total (λ (b : ℕ). pair (times C (augmented (raise a b rest) n)) φ) rest
value-power_sum n a C rest φ h p =
    let A = augmented rest n in
    let X = augmented (insert_part a rest) n in
    let Y = flat_map (λ b. augmented (raise a b rest) n) rest in
    pair_determined (times (power_sum_of a n) (times C A)) (times C (times (power_sum_of a n) A)) φ (front (power_sum_of a n) C A)
    ∙ pair_determined (times C (times (power_sum_of a n) A)) (times C (plus X Y)) φ
    (times_respects C C (times (power_sum_of a n) A) (plus X Y) (Same_refl C) (power_sum_times_augmented a n rest h p))
    ∙ pair_determined (times C (plus X Y)) (plus (times C X) (times C Y)) φ (times-plus C X Y)
    ∙ pair_plus (times C X) (times C Y) φ
    ∙ ap (λ z. pair (times C X) φ +ℤ z) spread
  where
    spread : pair (times C (flat_map (λ b. augmented (raise a b rest) n) rest)) φ ≡ total (λ (b : ℕ). pair (times C (augmented (raise a b rest) n)) φ) rest
    spread =
        pair_times C (flat_map (λ b. augmented (raise a b rest) n) rest) φ
        ∙ pair_ext C (λ α. pair (flat_map (λ b. augmented (raise a b rest) n) rest) (λ β. φ (join α β))) (λ α. total (λ (b : ℕ). pair (augmented (raise a b rest) n) (λ β. φ (join α β))) rest)
        (λ α. pair_each (λ b. augmented (raise a b rest) n) rest (λ β. φ (join α β)))
        ∙ pair_total C (λ (b : ℕ) α. pair (augmented (raise a b rest) n) (λ β. φ (join α β))) rest
        ∙ total_ext (λ (b : ℕ). pair C (λ α. pair (augmented (raise a b rest) n) (λ β. φ (join α β)))) (λ (b : ℕ). pair (times C (augmented (raise a b rest) n)) φ)
        (λ b. sym (pair_times C (augmented (raise a b rest) n) φ)) rest

value-last : (family : Family) (n : ℕ) (φ : List ℕ → ℤ) (factor : WholeTerms) (converted : List ℕ) (a : ℕ) (rest parts : List ℕ) → IsPartition converted → IsPowerSum family a factor → IsEnded a rest parts
    → over (product_value family n φ) (products factor converted rest ++ each_with (negsuc 0) (raised converted a rest rest)) ≡ product_value family n φ (converted, parts)
value-last family n φ factor converted a rest parts p is e =
    let f = product_value family n φ in
    let C = product_over (polynomial_of family) converted n in
    over_append f (products factor converted rest) (each_with (negsuc 0) (raised converted a rest rest))
    ∙ ap₂ ◌+ℤ◌ (value-products family n φ a factor converted rest p is ∙ value-power_sum n a C rest φ e.positive e.before) (value-raised f converted a rest rest)
    ∙ left (f (converted, insert_part a rest)) (total (λ (b : ℕ). f (converted, raise a b rest)) rest)
    ∙ ap (λ (l : List ℕ). product_value family n φ (converted, l)) e.put
  where
    left : (x y : ℤ) → (x +ℤ y) +ℤ negsuc 0 *ℤ y ≡ x
    left x y = omega (arith, ints)

-- if a label l satisfies `IsReady` and `factors` are the lists of p_1, p_2 and so on, replacing l by the terms of its conversion does not change the
-- value
pub value-conversion : (family : Family) (most count n : ℕ) (φ : List ℕ → ℤ) (factors : List WholeTerms) (l : MixedLabel) → ArePowerSums family factors → IsReady (length factors) most l
    → over (product_value family n φ) (conversion factors count l) ≡ product_value family n φ l
value-conversion family most count n φ factors l are ready = by (conversion-cases factors count l ready.augmented)
  where
    by : Stays factors count l ⊎ Ends factors count l → over (product_value family n φ) (conversion factors count l) ≡ product_value family n φ l
    by (inl s) = ap (over (product_value family n φ)) s.is ∙ single_term (product_value family n φ l)
    by (inr e) =
        let p = e.ended in
        let low = ready.low in
        let cells = p.cells in
        let positive = p.positive in
        let j : e.a - 1 + 1 ≡ e.a = omega arith in
        let i : e.a - 1 < length factors = omega arith in
        ap (over (product_value family n φ)) e.is
        ∙ value-last family n φ (list_at factors (e.a - 1)) l.0 e.a e.rest l.1 ready.converted (subst (λ k. IsPowerSum family k (list_at factors (e.a - 1))) j (are (e.a - 1) i)) p

-- if the augmented monomial of a label has at most one part, the terms in the target basis for this label (`in_target`) have the value of the label
pub value-target : (family : Family) (n : ℕ) (φ : List ℕ → ℤ) (factors : List WholeTerms) (l : MixedLabel) → ArePowerSums family factors → IsReady (length factors) 1 l
    → over (target_value family n φ) (in_target factors l) ≡ product_value family n φ l
value-target family n φ factors (converted, []) are ready =
    single_term (target_value family n φ converted) ∙ target_value-is family n φ converted
value-target family n φ factors (converted, (a ∷ b ∷ rest)) are ready = absurd (let few = ready.few in omega arith)
value-target family n φ factors (converted, (a ∷ [])) are ready =
    in-row (list_at factors (a - 1))
    ∙ sym (over_append (product_value family n φ) (products (list_at factors (a - 1)) converted []) [] ∙ none (over (product_value family n φ) (products (list_at factors (a - 1)) converted [])))
    ∙ value-conversion family 1 1 n φ factors (converted, (a ∷ [])) are ready
  where
    none : (x : ℤ) → x +ℤ pos 0 ≡ x
    none x = omega (arith, ints)

    in-row : (V : WholeTerms) → over (target_value family n φ) (row converted (pos 1) V) ≡ over (product_value family n φ) (products V converted [])
    in-row [] = refl
    in-row (t ∷ V) = ap₂ ◌+ℤ◌ (ap₂ (λ x y. x *ℤ y) (one-product t.1) (target_value-is family n φ (merged converted t.0))) (in-row V)
