-- The value of a sum of two expressions that are expanded in the basis e, h or p: a list of terms in this basis, a denominator and a degree. For an
-- expression t of degree d, the absolute values of the coefficients of the list add up to at most `numerator t` times `grown d`, which is d!·(2d)^d.
use Rattle.std.proofs.Common.{◌≡◌, ◌⊎◌, ℕ, ◌+◌, ◌*◌, ◌/◌, ◌^◌, ◌<◌, ◌≤◌, max, sym, ◌∙◌, ap, ap₂, subst, inl, inr, arith, ℤ, pos, ◌*ℤ◌}
use Rattle.std.specs.Prelude.{nat_abs}
use Rattle.std.proofs.lemmas.Nat.{mul-le}
use Rattle.sym_model.specs.Polynomial.{Poly, Same, plus, scale}
use Rattle.sym_model.specs.Expansion.{Basis}
use Rattle.sym_model.specs.Expression.{Tree, sum, degree, lcm, denominator, cleared_value}
use Rattle.sym_model.specs.Weight.{factorial, numerator, weight}
use Rattle.sym_model.specs.WholeTerms.{WholeTerms, absolute_total}
use Rattle.monomial_laws.specs.ExpressionTerms.{HasDenominators}
use Rattle.monomial_laws.proofs.WeightBounds.{numerator-positive}
use Rattle.sparse_polys.specs.Large.{SumIsLarge}
use Rattle.monomial_laws.proofs.Growths.{factorial-positive}
use Rattle.expand_in_families.specs.declared.node.Node.{Node}
use Rattle.basis_change_laws.specs.JoinedLists.{Stands}
use Rattle.expand_in_families.specs.Nodes.{ClearsTo}
use Rattle.basis_change_laws.proofs.JoinedLists.{absolute-scale, stands-plus, stands-scale, stands-raised, stands-weaken}
use Rattle.basis_change_laws.proofs.GrowthBounds.{grown, grown-raised, grown-positive}
use Rattle.basis_change_laws.proofs.NewtonLists.{scale-scale}
use Rattle.family_lists.proofs.Totals.{coefficient-few}
use Rattle.family_lists.proofs.TableLists.{table-stands}
use Rattle.expand_in_families.proofs.Nodes.{growth-within_weight, denominator-within_weight}
use Rattle.sym_model.proofs.WholeTerms.{absolute-append}
use native.Mathlib.Nat.{mul-le-mul_left, mul-pos}
use Rattle.std.proofs.Math.Nat.{mul_assoc, add-mul}

sum-large : (A B : WholeTerms) (p q : ℤ) → SumIsLarge A B p q → 2 ^ 127 ≤ nat_abs p * absolute_total A + nat_abs q * absolute_total B
sum-large A B p q (inl l) =
    let a = coefficient-few (scale p A) l.label in let b = absolute-scale p A in let g = l.large in omega arith
sum-large A B p q (inr (inl l)) =
    let a = coefficient-few (scale q B) l.label in let b = absolute-scale q B in let g = l.large in omega arith
sum-large A B p q (inr (inr l)) =
    let a = coefficient-few (plus (scale p A) (scale q B)) l.label in
    let b = absolute-append (scale p A) (scale q B) in
    let c = absolute-scale p A in
    let d = absolute-scale q B in
    let g = l.large in
    omega arith

part-bound : (e : Tree) (l k d : ℕ) → degree e ≤ d → k * factorial (degree e) ≡ factorial d → (l * k) * (numerator e * grown (degree e)) ≤ (numerator e * l) * grown d
part-bound e l k d h w =
    let g = grown-raised (degree e) d k h w in
    let m = mul-le-mul_left (numerator e * l) g in
    let r = regroup l k (numerator e) (grown (degree e)) in
    omega arith
  where
    regroup : (l k n b : ℕ) → (l * k) * (n * b) ≡ (n * l) * (k * b)
    regroup l k n b = omega arith

part-stands : (P : ℕ → ℕ → Poly) (e : Tree) (c : Node) (l k d : ℕ) → degree e ≤ d → k * factorial (degree e) ≡ factorial d → ClearsTo P e c
    → Stands P (factorial d) ((numerator e * l) * grown d) d (λ n. scale (pos l) (cleared_value e n)) (scale (pos l *ℤ pos k) c.terms)
part-stands P e c l k d h w i =
    let N = numerator e * grown (degree e) in
    let raised =
    stands-raised P (factorial (degree e)) (numerator e * grown (degree e)) (k * (numerator e * grown (degree e))) (degree e) (factorial d) k (cleared_value e) c.terms i.stands w (omega arith) in
    let wide = stands-weaken P (factorial d) (k * (numerator e * grown (degree e))) (k * (numerator e * grown (degree e))) (degree e) d (cleared_value e) (scale (pos k) c.terms) raised (omega arith) h in
    let b = part-bound e l k d h w in
    let g : l * (k * (numerator e * grown (degree e))) ≡ (l * k) * (numerator e * grown (degree e)) = sym (mul_assoc l k (numerator e * grown (degree e))) in
    subst (λ W. Stands P (factorial d) ((numerator e * l) * grown d) d (λ n. scale (pos l) (cleared_value e n)) W) (scale-scale (pos l) (pos k) c.terms)
    (stands-scale P (factorial d) (k * (numerator e * grown (degree e))) ((numerator e * l) * grown d) d (pos l) (cleared_value e) (scale (pos k) c.terms) wide (omega arith))

-- let c and d be values of e and f (`ClearsTo`), and k and j the factors by which the factorials of the degrees of e and f are multiplied to give the
-- factorial of the greater degree
module _ (P : ℕ → ℕ → Poly) (e f : Tree) (c d : Node) (k j : ℕ) (he : HasDenominators e) (hf : HasDenominators f) (x : ClearsTo P e c) (y : ClearsTo P f d)
    (kw : k * factorial c.degree ≡ factorial (max c.degree d.degree)) (jw : j * factorial d.degree ≡ factorial (max c.degree d.degree)) where
  kd : k * factorial (degree e) ≡ factorial (max (degree e) (degree f))
  kd = ap (λ a. k * factorial a) (sym x.degree_is) ∙ kw ∙ ap₂ (λ a b. factorial (max a b)) x.degree_is y.degree_is

  jd : j * factorial (degree f) ≡ factorial (max (degree e) (degree f))
  jd = ap (λ a. j * factorial a) (sym y.degree_is) ∙ jw ∙ ap₂ (λ a b. factorial (max a b)) x.degree_is y.degree_is

  pub clears-sum : (s : Node) (p q : ℤ) → s.den ≡ lcm c.den d.den → s.degree ≡ max c.degree d.degree
      → p ≡ pos (lcm c.den d.den / c.den) *ℤ pos k → q ≡ pos (lcm c.den d.den / d.den) *ℤ pos j
      → Same s.terms (plus (scale p c.terms) (scale q d.terms)) → ClearsTo P (sum e f) s
  clears-sum s p q m g pi qi h =
      let l = lcm (denominator e) (denominator f) / denominator e in
      let r = lcm (denominator e) (denominator f) / denominator f in
      let D = max (degree e) (degree f) in
      let pe : p ≡ pos (lcm (denominator e) (denominator f) / denominator e) *ℤ pos k = pi ∙ ap₂ (λ (a b : ℕ). pos (lcm a b / a) *ℤ pos k) x.den_is y.den_is in
      let qe : q ≡ pos (lcm (denominator e) (denominator f) / denominator f) *ℤ pos j = qi ∙ ap₂ (λ (a b : ℕ). pos (lcm a b / b) *ℤ pos j) x.den_is y.den_is in
      let left = part-stands P e c (lcm (denominator e) (denominator f) / denominator e) k (max (degree e) (degree f)) (omega arith) kd x in
      let right = part-stands P f d (lcm (denominator e) (denominator f) / denominator f) j (max (degree e) (degree f)) (omega arith) jd y in
      let both = stands-plus P (factorial D) ((numerator e * l) * grown D) ((numerator f * r) * grown D) ((numerator e * l + numerator f * r) * grown D) D
      (λ n. scale (pos (lcm (denominator e) (denominator f) / denominator e)) (cleared_value e n)) (λ n. scale (pos (lcm (denominator e) (denominator f) / denominator f)) (cleared_value f n))
      (scale (pos (lcm (denominator e) (denominator f) / denominator e) *ℤ pos k) c.terms) (scale (pos (lcm (denominator e) (denominator f) / denominator f) *ℤ pos j) d.terms)
      left right (spread (numerator e * l) (numerator f * r) (grown D)) in
      record {
        den_is = m ∙ ap₂ lcm x.den_is y.den_is;
        degree_is = g ∙ ap₂ max x.degree_is y.degree_is;
        stands =
            table-stands s.terms (plus (scale (pos l *ℤ pos k) c.terms) (scale (pos r *ℤ pos j) d.terms)) s.table
            (subst (λ z. Same s.terms (plus (scale z c.terms) (scale (pos (lcm (denominator e) (denominator f) / denominator f) *ℤ pos j) d.terms))) pe
            (subst (λ z. Same s.terms (plus (scale p c.terms) (scale z d.terms))) qe h))
            P (factorial D) ((numerator e * l + numerator f * r) * grown D) D (cleared_value (sum e f)) both;
      }
    where
      spread : (a b g : ℕ) → a * g + b * g ≤ (a + b) * g
      spread a b g = omega arith

  met : (l r : ℕ) → l ≡ lcm (denominator e) (denominator f) / denominator e → r ≡ lcm (denominator e) (denominator f) / denominator f
      → (l * k) * (numerator e * grown (degree e)) + (r * j) * (numerator f * grown (degree f)) ≤ weight Basis.completes (sum e f)
  met l r li ri =
      let a = part-bound e l k (max (degree e) (degree f)) (omega arith) kd in
      let b = part-bound f r j (max (degree e) (degree f)) (omega arith) jd in
      let w = growth-within_weight (sum e f) (he, hf) in
      let s = add-mul (numerator e * l) (numerator f * r) (grown (max (degree e) (degree f))) in
      let t = ap₂ (λ u v. (numerator e * u + numerator f * v) * grown (max (degree e) (degree f))) li ri in
      omega arith

  pub large-factors : (p q : ℤ) → p ≡ pos (lcm c.den d.den / c.den) *ℤ pos k → q ≡ pos (lcm c.den d.den / d.den) *ℤ pos j
      → (2 ^ 127 ≤ nat_abs p) ⊎ (2 ^ 127 ≤ nat_abs q) → 2 ^ 127 ≤ weight Basis.completes (sum e f)
  large-factors p q pi qi large =
      let l = lcm c.den d.den / c.den in
      let r = lcm c.den d.den / d.den in
      let m = met (lcm c.den d.den / c.den) (lcm c.den d.den / d.den) (ap₂ (λ (a b : ℕ). lcm a b / a) x.den_is y.den_is) (ap₂ (λ (a b : ℕ). lcm a b / b) x.den_is y.den_is) in
      let some : 0 < numerator e * grown (degree e) = mul-pos (numerator-positive e he) (grown-positive (degree e)) in
      let also : 0 < numerator f * grown (degree f) = mul-pos (numerator-positive f hf) (grown-positive (degree f)) in
      let u : l * k * 1 ≤ l * k * (numerator e * grown (degree e)) = mul-le-mul_left (l * k) some in
      let v : r * j * 1 ≤ r * j * (numerator f * grown (degree f)) = mul-le-mul_left (r * j) also in
      let a = ap nat_abs pi in
      let b = ap nat_abs qi in
      by large u v m a b
    where
      by : (2 ^ 127 ≤ nat_abs p) ⊎ (2 ^ 127 ≤ nat_abs q) → lcm c.den d.den / c.den * k * 1 ≤ lcm c.den d.den / c.den * k * (numerator e * grown (degree e)) → lcm c.den d.den / d.den * j * 1 ≤ lcm c.den d.den / d.den * j * (numerator f * grown (degree f))
          → (lcm c.den d.den / c.den * k) * (numerator e * grown (degree e)) + (lcm c.den d.den / d.den * j) * (numerator f * grown (degree f)) ≤ weight Basis.completes (sum e f)
          → nat_abs p ≡ lcm c.den d.den / c.den * k → nat_abs q ≡ lcm c.den d.den / d.den * j → 2 ^ 127 ≤ weight Basis.completes (sum e f)
      by (inl h) u v m a b = omega arith
      by (inr h) u v m a b = omega arith

  pub large-sum : (p q : ℤ) → p ≡ pos (lcm c.den d.den / c.den) *ℤ pos k → q ≡ pos (lcm c.den d.den / d.den) *ℤ pos j
      → SumIsLarge c.terms d.terms p q → 2 ^ 127 ≤ weight Basis.completes (sum e f)
  large-sum p q pi qi large =
      let m = met (lcm c.den d.den / c.den) (lcm c.den d.den / d.den) (ap₂ (λ (a b : ℕ). lcm a b / a) x.den_is y.den_is) (ap₂ (λ (a b : ℕ). lcm a b / b) x.den_is y.den_is) in
      let s = sum-large c.terms d.terms p q large in
      let a = ap nat_abs pi in
      let b = ap nat_abs qi in
      let u = mul-le (nat_abs p) (absolute_total c.terms) (lcm c.den d.den / c.den * k) (numerator e * grown (degree e)) (omega arith) x.stands.few in
      let v = mul-le (nat_abs q) (absolute_total d.terms) (lcm c.den d.den / d.den * j) (numerator f * grown (degree f)) (omega arith) y.stands.few in
      omega arith

pub large-sum_denominator : (P : ℕ → ℕ → Poly) (e f : Tree) (c d : Node) → HasDenominators e → HasDenominators f → ClearsTo P e c → ClearsTo P f d → 2 ^ 127 ≤ lcm c.den d.den → 2 ^ 127 ≤ weight Basis.completes (sum e f)
large-sum_denominator P e f c d i j h k l =
    let w = denominator-within_weight (sum e f) (i, j) in
    let same : lcm c.den d.den ≡ lcm (denominator e) (denominator f) = ap₂ lcm h.den_is k.den_is in
    let t : lcm (denominator e) (denominator f) * 1 ≤ lcm (denominator e) (denominator f) * factorial (max (degree e) (degree f)) = mul-le-mul_left (lcm (denominator e) (denominator f)) (factorial-positive (max (degree e) (degree f))) in
    omega arith
