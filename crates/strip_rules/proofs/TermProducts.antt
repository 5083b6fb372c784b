-- The products of h_k, e_k or p_k with one Schur polynomial, and with a linear combination of Schur polynomials (a list in s) (specs/Adding).
-- For a function φ of exponent lists, the pairing of a polynomial with φ is the sum of c·φ(α) over its terms c·x^α.
--     strips_value, hooks_value                 the pairing of the product with φ is a sum over the partitions with an added strip or rim hook
--     horizontal_product, vertical_, hooks_     the list of these partitions, each with its sign, expands the product in s (`IsProduct`)
--     list_value                                the product of a polynomial f and a list is the sum of the products of f and the terms of the list
--     expansion                                 let d be a common denominator of a list, and f a polynomial: if d times the list and f have the same
--                                               pairings, then the list expands f/d
use Rattle.std.proofs.Common.{◌≡◌, ℕ, suc, ◌+◌, ◌-◌, ◌*◌, ◌^◌, ◌≤◌, List, [], ◌∷◌, length, refl, sym, ap, ap₂, ◌∙◌, subst, arith, ℤ, pos, ◌*ℤ◌, flat_map, rules}
use Rattle.std.specs.Prelude.{nat_eq, nat_abs}
use Rattle.std.specs.Int.{◌∣◌}
use Rattle.std.specs.Cmp.Lexicographic.{pointwise}
use Rattle.std.proofs.Math.Nat.{pow-le-pow_right}
use Rattle.sym_model.specs.Sum.{total, Among, Once}
use Rattle.sym_model.specs.Partition.{IsPartition, size, rows}
use Rattle.sym_model.specs.Polynomial.{Poly, Same, join, pair, times, scale}
use Rattle.sym_model.specs.Bases.{complete_of, elementary_of, power_sum_of}
use Rattle.sym_model.specs.Schur.{schur}
use Rattle.sym_model.specs.Strip.{height}
use Rattle.sym_model.specs.PlaceOrders.{minus_one_to}
use Rattle.sym_model.specs.Expansion.{Basis, Fraction, Terms, denominators, cleared, value, basis_polynomial, IsExpansionOf}
use Rattle.sym_model.proofs.Ring.{one-product}
use Rattle.sym_model.proofs.Sums.{total_ext, total_map, Among_from_map}
use Rattle.sym_model.proofs.Polynomials.{pair_ext, pair_plus, pair_scale, pair_each, pair_times, pair_total, pair_factor, pair_determined, same_from_pair}
use Rattle.linear_combinations.specs.Gains.{mass, mass_at}
use Rattle.monomial_laws.specs.ExpressionTerms.{over}
use Rattle.sparse_polys.proofs.Expansions.{common-denominators}
use Rattle.sparse_polys.proofs.PolynomialValues.{two_denominators}
use Rattle.product_laws.specs.StripLists.{ListsEach, AddsRimHook}
use Rattle.product_laws.proofs.Pieri.{horizontal, vertical}
use Rattle.product_laws.proofs.RimHookSums.{rim_hooks}
use Rattle.product_laws.proofs.StripCounts.{horizontal_count, vertical_count, hooks_within}
use Rattle.skew_shapes.specs.HorizontalStrips.{AreHorizontalStrips}
use Rattle.skew_shapes.specs.VerticalStrips.{AreVerticalStrips}
use Rattle.skew_shapes.specs.HookLists.{AreHooksAdded}
use Rattle.sparse_polys.specs.Tables.{IsFractionTable}
use Rattle.strip_rules.specs.Adding.{IsProduct}
use Rattle.strip_rules.proofs.ShapeLists.{IsAround, rows_around, horizontal_list, vertical_list, hook_list, horizontal_around, vertical_around, hook_around}
use Rattle.sym_model.proofs.Integers.{sign_size}
use Rattle.linear_combinations.specs.Gains.{each_by}
use native.Mathlib.Nat.{pow-suc, pow-zero}

pub strips_value : (f : Poly) (n : ℕ) (parts : List ℕ) (list : List (List ℕ)) (φ : List ℕ → ℤ) → Same (times f (schur parts n)) (flat_map (λ ν. schur ν n) list)
    → total (λ ν. pos 1 *ℤ pair (schur ν n) φ) list ≡ pair (times f (schur parts n)) φ
strips_value f n parts list φ h =
    total_ext (λ (ν : List ℕ). pos 1 *ℤ pair (schur ν n) φ) (λ (ν : List ℕ). pair (schur ν n) φ) (λ ν. one-product (pair (schur ν n) φ)) list
    ∙ sym (pair_each (λ (ν : List ℕ). schur ν n) list φ)
    ∙ sym (pair_determined (times f (schur parts n)) (flat_map (λ (ν : List ℕ). schur ν n) list) φ h)

pub hooks_value : (k n : ℕ) (parts : List ℕ) (list : List (List ℕ)) (φ : List ℕ → ℤ) → 1 ≤ k → IsPartition parts → ListsEach (AddsRimHook k parts) list
    → total (λ ν. minus_one_to (height ν parts - 1) *ℤ pair (schur ν n) φ) list ≡ pair (times (power_sum_of k n) (schur parts n)) φ
hooks_value k n parts list φ h p l =
    let sign : List ℕ → ℤ = λ ν. minus_one_to (height ν parts - 1) in
    total_ext (λ (ν : List ℕ). sign ν *ℤ pair (schur ν n) φ) (λ (ν : List ℕ). pair (scale (sign ν) (schur ν n)) φ) (λ ν. sym (pair_scale (sign ν) (schur ν n) φ)) list
    ∙ sym (pair_each (λ (ν : List ℕ). scale (sign ν) (schur ν n)) list φ)
    ∙ sym (pair_determined (times (power_sum_of k n) (schur parts n)) (flat_map (λ (ν : List ℕ). scale (sign ν) (schur ν n)) list) φ (rim_hooks n k parts list h p l))

hook_count : (k : ℕ) (parts : List ℕ) (list : List (List ℕ)) → 1 ≤ k → IsPartition parts → ListsEach (AddsRimHook k parts) list → length list ≤ (size parts + k) ^ k
hook_count k parts list h p l =
    let c = hooks_within k parts list p l in
    let g = pow-le-pow_right {n = size parts + k} (omega arith) {i = 1} {j = k} h in
    let one : (size parts + k) ^ 1 ≡ size parts + k = first_power (size parts + k) in
    omega arith
  where
    first_power : (n : ℕ) → n ^ 1 ≡ n
    first_power n = let a = pow-suc n 0 in let b = pow-zero n in let c = ap (λ m. m * n) b in omega arith

-- ---- the partitions in the product of h_k, e_k or p_k and one Schur polynomial, with their signs

module _ (sign : List ℕ → ℤ) (unit : (ν : List ℕ) → nat_abs (sign ν) ≡ 1) where
  mass_signs : (shapes : List (List ℕ)) → mass (each_by sign shapes) ≡ length shapes
  mass_signs [] = refl
  mass_signs (ν ∷ shapes) = ap₂ (λ a b. a + b) (unit ν) (mass_signs shapes) ∙ (let e : 1 + length shapes ≡ suc (length shapes) = omega arith in e)

  none_signs : (ν : List ℕ) (shapes : List (List ℕ)) → (Among ν shapes → ⊥) → mass_at (pointwise nat_eq) ν (each_by sign shapes) ≡ 0
  none_signs ν [] h = refl
  none_signs ν (μ ∷ shapes) h = search (rules, (none_signs ν shapes))

  once_signs : (ν : List ℕ) (shapes : List (List ℕ)) → Once shapes → mass_at (pointwise nat_eq) ν (each_by sign shapes) ≤ 1
  once_signs ν [] o = omega arith
  once_signs ν (μ ∷ shapes) o = search (rules, none_signs, (once_signs ν shapes o.1))

  signs_product : (f : ℕ → Poly) (k : ℕ) (label : List ℕ) (shapes : List (List ℕ)) → IsPartition label
      → ((n : ℕ) (φ : List ℕ → ℤ) → total (λ ν. sign ν *ℤ pair (schur ν n) φ) shapes ≡ pair (times (f n) (schur label n)) φ)
      → length shapes ≤ (size label + k) ^ k → Once shapes → ((ν : List ℕ) → Among ν shapes → IsAround k label ν)
      → IsProduct f k label (each_by sign shapes)
  signs_product f k label shapes p values few once around = record {
    value = λ n φ. total_map (λ (t : List ℕ × ℤ). t.1 *ℤ pair (schur t.0 n) φ) (λ (ν : List ℕ). (ν, sign ν)) shapes ∙ values n φ;
    once = λ ν. once_signs ν shapes once;
    few = let m = mass_signs shapes in omega arith;
    small =
        λ t m.
        let u = Among_from_map (λ (ν : List ℕ). (ν, sign ν)) t shapes m in
        let a = around u.0 u.1 in
        let c = a.cells in
        let r = rows_around k label u.0 p a in
        subst (λ (l : List ℕ). (size l ≤ size label + k) × (rows l ≤ rows label + k)) (sym (ap (λ (v : List ℕ × ℤ). v.0) u.2)) (omega arith, r);
  }

pub horizontal_product : (k : ℕ) (parts : List ℕ) (list : List (List ℕ)) → IsPartition parts → AreHorizontalStrips parts k list
    → IsProduct (complete_of k) k parts (each_by (λ ν. pos 1) list)
horizontal_product k parts list p strips =
    let l = horizontal_list k parts list strips in
    signs_product (λ ν. pos 1) (λ ν. refl) (complete_of k) k parts list p (λ n φ. strips_value (complete_of k n) n parts list φ (horizontal n k parts list p l))
    (horizontal_count k parts list p l) l.once (horizontal_around k parts list l)

pub vertical_product : (k : ℕ) (parts : List ℕ) (list : List (List ℕ)) → IsPartition parts → AreVerticalStrips parts k list
    → IsProduct (elementary_of k) k parts (each_by (λ ν. pos 1) list)
vertical_product k parts list p strips =
    let l = vertical_list k parts list strips in
    signs_product (λ ν. pos 1) (λ ν. refl) (elementary_of k) k parts list p (λ n φ. strips_value (elementary_of k n) n parts list φ (vertical n k parts list p l))
    (vertical_count k parts list p l) l.once (vertical_around k parts list l)

pub hooks_product : (k : ℕ) (parts base : List ℕ) (list : List (List ℕ)) → 1 ≤ k → IsPartition parts → base ≡ parts → AreHooksAdded parts k list
    → IsProduct (power_sum_of k) k parts (each_by (λ ν. minus_one_to (height ν base - 1)) list)
hooks_product k parts base list h p e hooks =
    let l = hook_list k parts list hooks in
    subst (λ b. IsProduct (power_sum_of k) k parts (each_by (λ ν. minus_one_to (height ν b - 1)) list)) (sym e)
    (signs_product (λ ν. minus_one_to (height ν parts - 1)) (λ ν. sign_size (height ν parts - 1)) (power_sum_of k) k parts list p
    (λ n φ. hooks_value k n parts list φ h p l) (hook_count k parts list h p l) l.once (hook_around k parts list l))

pair_cleared : (n q : ℕ) (terms : Terms (List ℕ)) (φ : List ℕ → ℤ)
    → pair (cleared (λ ν. basis_polynomial Basis.schurs ν n) q terms) φ ≡ pair (over q terms) (λ ν. pair (schur ν n) φ)
pair_cleared n q [] φ = refl
pair_cleared n q (t ∷ terms) φ = search (rules, pair_plus, pair_scale, (pair_cleared n q terms φ))

pub list_value : (f : Poly) (n : ℕ) (terms : Terms (List ℕ)) (φ : List ℕ → ℤ)
    → pair (over (denominators terms) terms) (λ label. pair (times f (schur label n)) φ) ≡ pair (times f (value Basis.schurs terms n)) φ
list_value f n terms φ =
    let list = over (denominators terms) terms in
    sym
    (pair_times f (value Basis.schurs terms n) φ
    ∙ pair_ext f (λ α. pair (value Basis.schurs terms n) (λ β. φ (join α β))) (λ α. pair list (λ ν. pair (schur ν n) (λ β. φ (join α β)))) (λ α. pair_cleared n (denominators terms) terms (λ β. φ (join α β)))
    ∙ pair_total f (λ (t : List ℕ × ℤ) (α : List ℕ). t.1 *ℤ pair (schur t.0 n) (λ β. φ (join α β))) list
    ∙ total_ext (λ (t : List ℕ × ℤ). pair f (λ α. t.1 *ℤ pair (schur t.0 n) (λ β. φ (join α β)))) (λ (t : List ℕ × ℤ). t.1 *ℤ pair (times f (schur t.0 n)) φ)
    (λ t.
    pair_factor t.1 f (λ α. pair (schur t.0 n) (λ β. φ (join α β)))
    ∙ ap (λ z. t.1 *ℤ z) (sym (pair_times f (schur t.0 n) φ))) list)

pub expansion : (terms : Terms (List ℕ)) (d n : ℕ) (f : Poly) → IsFractionTable terms → ((t : List ℕ × Fraction) → Among t terms → t.1.1 ∣ d)
    → ((φ : List ℕ → ℤ) → pair (over d terms) (λ ν. pair (schur ν n) φ) ≡ pair f φ) → IsExpansionOf Basis.schurs terms n f d
expansion terms d n f is divides sums =
    let q = denominators terms in
    let common = common-denominators terms is in
    record {
      positive = common.positive;
      equal =
          same_from_pair (scale (pos d) (value Basis.schurs terms n)) (scale (pos q) f) (λ φ.
          pair_scale (pos d) (value Basis.schurs terms n) φ
          ∙ ap (λ z. pos d *ℤ z) (pair_cleared n q terms φ)
          ∙ two_denominators d q (λ ν. pair (schur ν n) φ) terms divides common.multiple
          ∙ ap (λ z. pos q *ℤ z) (sums φ)
          ∙ sym (pair_scale (pos q) f φ));
    }
