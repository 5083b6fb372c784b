-- The numerator, the denominator and the degree of a subexpression are at most those of the expression.
use Rattle.std.proofs.Common.{◌≡◌, ◌<◌, ◌≤◌, ◌/◌, ℕ, [], ◌∷◌, ℤ, pos, negsuc, arith, true, rules}
use Rattle.std.specs.List.{All}
use Rattle.std.specs.Prelude.{IsTrue, nat_abs}
use lib.Signed.{le_z, lt_z}
use Rattle.std.proofs.lemmas.Bool.{and_parts, ltb-true}
use Rattle.std.proofs.lemmas.List.Elements.{All-nil, All-cons}
use Rattle.expression_reading.specs.declared.expr.Expr.{Expr, Number, Fraction, Atom, Negation', Sum', Difference', Product'}
use Rattle.expression_reading.specs.Trees.{tree_of, has_no_signs}
use Rattle.basis_expand.specs.Postorder.{operands}
use Rattle.sym_model.specs.Expression.{Tree, negation, sum, difference, product, denominator, degree, lcm}
use Rattle.sym_model.specs.Weight.{numerator}
use Rattle.sym_model.proofs.Numbers.{times-more}
use Rattle.monomial_laws.specs.ExpressionTerms.{HasDenominators}
use Rattle.monomial_laws.proofs.WeightBounds.{numerator-positive, denominator-positive, complement_left, complement_right, lcm-left, lcm-right}
use Rattle.basis_expand.specs.Values.{IsTaken, IsNoHeavier}

positive_size : (z : ℤ) → lt_z (pos 0) z ≡ true → 0 < nat_abs z
positive_size (pos n) h = ltb-true 0 n h
positive_size (negsuc n) h = omega arith

pub HasDenominators-plain : (t : Expr) → IsTrue (has_no_signs t) → HasDenominators (tree_of t)
HasDenominators-plain (Number num) h = tt
HasDenominators-plain (Fraction num den) h = positive_size den (and_parts (le_z (pos 0) num) (lt_z (pos 0) den) h).1
HasDenominators-plain (Atom basis label) h = tt
HasDenominators-plain (Negation' p inner) h = HasDenominators-plain inner h
HasDenominators-plain (Sum' p left q right) h =
    let s = and_parts (has_no_signs left) (has_no_signs right) h in (HasDenominators-plain left s.0, HasDenominators-plain right s.1)
HasDenominators-plain (Difference' p left q right) h =
    let s = and_parts (has_no_signs left) (has_no_signs right) h in (HasDenominators-plain left s.0, HasDenominators-plain right s.1)
HasDenominators-plain (Product' p left q right) h =
    let s = and_parts (has_no_signs left) (has_no_signs right) h in (HasDenominators-plain left s.0, HasDenominators-plain right s.1)

pub taken-plain : (limit : ℕ) (t : Expr) → IsTrue (has_no_signs t) → degree (tree_of t) ≤ limit → IsTaken limit (tree_of t)
taken-plain limit t h k = record { plain = HasDenominators-plain t h; low = k }

pub taken-inner : (limit : ℕ) (e : Tree) → IsTaken limit (negation e) → IsTaken limit e
taken-inner limit e h = record { plain = h.plain; low = h.low }

pub taken-right : (limit : ℕ) (e f : Tree) → IsTaken limit (difference e f) → IsTaken limit f
taken-right limit e f h = let l = h.low in record { plain = h.plain.1; low = omega arith }

pub taken-sum : (limit : ℕ) (e f : Tree) → IsTaken limit (difference e f) → IsTaken limit (sum e (negation f))
taken-sum limit e f h = record { plain = (h.plain.0, h.plain.1); low = h.low }

pub within-itself : (e : Tree) → IsNoHeavier e e
within-itself e = record { num = omega arith; den = omega arith; deg = omega arith }

within_trans : (e f g : Tree) → IsNoHeavier e f → IsNoHeavier f g → IsNoHeavier e g
within_trans e f g h k = search rules

within_left : (e f : Tree) → HasDenominators e → HasDenominators f → IsNoHeavier e (sum e f)
within_left e f h k =
    let q = lcm (denominator e) (denominator f) / denominator e in
    let n = times-more (numerator e) q (complement_left e f h k) in
    let m = lcm-left (denominator e) (denominator f) (denominator-positive e h) in
    let d = times-more (denominator e) q (complement_left e f h k) in
    record { num = omega arith; den = omega arith; deg = omega arith }

within_right : (e f : Tree) → HasDenominators e → HasDenominators f → IsNoHeavier f (sum e f)
within_right e f h k =
    let r = lcm (denominator e) (denominator f) / denominator f in
    let n = times-more (numerator f) r (complement_right e f h k) in
    let m = lcm-right (denominator e) (denominator f) in
    let d = times-more (denominator f) r (complement_right e f h k) in
    record { num = omega arith; den = omega arith; deg = omega arith }

pub within-difference : (e f : Tree) → IsNoHeavier (sum e f) (difference e f)
within-difference e f = record { num = omega arith; den = omega arith; deg = omega arith }

pub within-subtracted : (e f : Tree) → HasDenominators e → HasDenominators f → IsNoHeavier (negation f) (difference e f)
within-subtracted e f h k = let w = within_right e f h k in record { num = w.num; den = w.den; deg = w.deg }

within_left_factor : (e f : Tree) → HasDenominators e → HasDenominators f → IsNoHeavier e (product e f)
within_left_factor e f h k = search (rules, times-more, numerator-positive, denominator-positive)

within_right_factor : (e f : Tree) → HasDenominators e → HasDenominators f → IsNoHeavier f (product e f)
within_right_factor e f h k = search (rules, times-more, numerator-positive, denominator-positive)

-- ---- `IsPart goal e`: the numbers of e have no minus signs, and the numerator, denominator and degree of e are at most those of `goal`

pub record IsPart (goal e : Expr) : Type 0 where
  pub plain : IsTrue (has_no_signs e)
  pub light : IsNoHeavier (tree_of e) (tree_of goal)

part_of : (goal whole e : Expr) → IsPart goal whole → IsTrue (has_no_signs e) → IsNoHeavier (tree_of e) (tree_of whole) → IsPart goal e
part_of goal whole e h p w = record { plain = p; light = within_trans (tree_of e) (tree_of whole) (tree_of goal) w h.light }

two_parts : (goal left right : Expr) → IsPart goal left → IsPart goal right → All (IsPart goal) (left ∷ right ∷ [])
two_parts goal left right h k = All-cons (IsPart goal) left (right ∷ []) h (All-cons (IsPart goal) right [] k (All-nil (IsPart goal)))

pub parts-operands : (goal e : Expr) → IsPart goal e → All (IsPart goal) (operands e)
parts-operands goal (Number num) h = All-nil (IsPart goal)
parts-operands goal (Fraction num den) h = All-nil (IsPart goal)
parts-operands goal (Atom basis label) h = All-nil (IsPart goal)
parts-operands goal (Negation' p inner) h = search rules
parts-operands goal (Sum' p left q right) h = search (rules, and_parts, HasDenominators-plain, two_parts, part_of, within_left, within_right)
parts-operands goal (Difference' p left q right) h =
    search (rules, and_parts, HasDenominators-plain, within-difference, two_parts, part_of, within_trans, within_left, within_right)
parts-operands goal (Product' p left q right) h =
    search (rules, and_parts, HasDenominators-plain, two_parts, part_of, within_left_factor, within_right_factor)
