-- Laws of the values of expressions, for every target: e - f has the value of e + (-f), and the weight increases weakly with the numerator, the
-- denominator and the degree.
use Rattle.std.proofs.Common.{◌≡◌, ◌≤◌, ◌*◌, ◌/◌, ◌^◌, ◌∙◌, ℕ, List, ap, sym, ℤ, pos, neg_ℤ, ◌*ℤ◌}
use Rattle.std.proofs.lemmas.Nat.{mul-le}
use Rattle.std.proofs.Math.Nat.{le_trans}
use Rattle.sym_model.specs.Polynomial.{Poly, Same, coefficient, negate, scale}
use Rattle.sym_model.specs.Expansion.{Basis, schurs, Terms, denominators, value, IsExpansionOf}
use Rattle.sym_model.specs.Expression.{Tree, atom, negation, sum, difference, denominator, degree, lcm, cleared_value}
use Rattle.sym_model.specs.Weight.{growth, numerator, weight}
use Rattle.sym_model.proofs.Polynomials.{coefficient_scale, coefficient_negate, Same_refl, Same_trans, plus_respects, scale_respects}
use Rattle.sym_model.proofs.Ring.{product-negation}

negated_multiple : (q : ℤ) (g : Poly) → Same (scale q (negate g)) (negate (scale q g))
negated_multiple q g α =
    coefficient_scale q (negate g) α
    ∙ ap (λ z. q *ℤ z) (coefficient_negate g α)
    ∙ product-negation q (coefficient g α)
    ∙ ap neg_ℤ (sym (coefficient_scale q g α))
    ∙ sym (coefficient_negate (scale q g) α)

-- e + (-f) and e - f, each times its denominator, are the same polynomial
pub difference-value : (e f : Tree) (n : ℕ) → Same (cleared_value (sum e (negation f)) n) (cleared_value (difference e f) n)
difference-value e f n =
    let q = lcm (denominator e) (denominator f) / denominator e in
    let r = lcm (denominator e) (denominator f) / denominator f in
    plus_respects
    (scale (pos q) (cleared_value e n)) (scale (pos q) (cleared_value e n))
    (scale (pos r) (negate (cleared_value f n))) (negate (scale (pos r) (cleared_value f n)))
    (Same_refl (scale (pos q) (cleared_value e n)))
    (negated_multiple (pos r) (cleared_value f n))

-- if `growth target d` increases weakly with the degree d, and the numerator, the denominator and the degree of e are at most those of f, then the
-- weight of e is at most that of f
pub weight-more : (target : Basis) → ((d e : ℕ) → d ≤ e → growth target d ≤ growth target e) → (e f : Tree) → numerator e ≤ numerator f
    → denominator e ≤ denominator f → degree e ≤ degree f → weight target e ≤ weight target f
weight-more target mono e f num den deg =
    mul-le (numerator e * denominator e) (growth target (degree e)) (numerator f * denominator f) (growth target (degree f))
    (mul-le (numerator e) (denominator e) (numerator f) (denominator f) num den) (mono (degree e) (degree f) deg)

pub heavy-more : (target : Basis) → ((d e : ℕ) → d ≤ e → growth target d ≤ growth target e) → (e f : Tree) → numerator e ≤ numerator f
    → denominator e ≤ denominator f → degree e ≤ degree f → 2 ^ 127 ≤ weight target e → 2 ^ 127 ≤ weight target f
heavy-more target mono e f num den deg k = le_trans k (weight-more target mono e f num den deg)

-- if f and g are the same polynomial (`Same`), an expansion of f/d in Schur polynomials is also an expansion of g/d
pub expansion_respects : (terms : Terms (List ℕ)) (n : ℕ) (f g : Poly) (d : ℕ) → Same f g
    → IsExpansionOf schurs terms n f d → IsExpansionOf schurs terms n g d
expansion_respects terms n f g d e h = record {
  positive = h.positive;
  equal =
      Same_trans (scale (pos d) (value schurs terms n)) (scale (pos (denominators terms)) f)
      (scale (pos (denominators terms)) g)
      h.equal (scale_respects (pos (denominators terms)) f g e);
}

pub sum-not_atom : (e f : Tree) (basis : Basis) (label : List ℕ) → sum e f ≡ atom basis label → ⊥
sum-not_atom e f basis label same = cc
