-- If an expression has no negative number and no denominator 0, its numerator and denominator are positive; and if the numerator or the denominator
-- of an operand is 2^127 or more, then the numerator or the denominator of the whole is 2^127 or more.
use Rattle.std.proofs.Common.{◌≡◌, ℕ, ◌+◌, ◌*◌, ◌/◌, ◌^◌, ◌<◌, ◌≤◌, ◌⊎◌, inl, inr, max, Bool, ◌&&◌, IsTrue, Option, None, refl, sym, subst, arith, pos, ℤ, negsuc}
use Rattle.std.specs.Prelude.{nat_abs}
use lib.Signed.{le_z, lt_z}
use Rattle.std.proofs.lemmas.Bool.{and_parts, false≢true, ltb-true}
use Rattle.calc_base.specs.declared.words.Weight.{Weight}
use Rattle.sym_model.specs.Canonical.{gcd}
use Rattle.sym_model.specs.Expression.{Tree, sum, product, denominator, lcm}
use Rattle.sym_model.specs.Weight.{numerator}
use Rattle.sym_model.proofs.Numbers.{times-more}
use Rattle.coeff_rings.proofs.CommonMultiples.{times-positive, parts_of, lcm-over_first, lcm-over_second, lcm-at_least_first, lcm-at_least_second}
use Rattle.expression_reading.specs.declared.expr.Expr.{Expr, Number, Fraction, Atom, Negation', Sum', Difference', Product'}
use Rattle.expression_reading.specs.Trees.{tree_of, has_no_signs}
use Rattle.expression_reading.specs.Weights.{IsWeighed}

abbrev pub Positive : Tree → Type 0
Positive e = (0 < numerator e) × (0 < denominator e)

abbrev pub Wide : Tree → Type 0
Wide e = (2 ^ 127 ≤ numerator e) ⊎ (2 ^ 127 ≤ denominator e)

pos_at_least : (a : ℕ) → 0 < max 1 a
pos_at_least a = omega arith

abs_positive : (n : ℤ) → IsTrue (lt_z (pos 0) n) → 0 < nat_abs n
abs_positive (pos n) h = ltb-true 0 n h
abs_positive (negsuc n) h = absurd (false≢true h)

one_of : (p q : Bool) → IsTrue (p && q) → IsTrue p × IsTrue q
one_of p q h = and_parts p q h

product-positive : (e f : Tree) → Positive e → Positive f → Positive (product e f)
product-positive e f h k =
    (times-positive (numerator e) (numerator f) h.0 k.0, times-positive (denominator e) (denominator f) h.1 k.1)

-- the numerator of n/d + m/k over the least common denominator of d and k
abbrev joined : ℕ → ℕ → ℕ → ℕ → ℕ
joined n m d k = n * (lcm d k / d) + m * (lcm d k / k)

joined-at_least_first : (n m d k : ℕ) → 0 < d → 0 < k → n ≤ joined n m d k
joined-at_least_first n m d k hd hk =
    let one : 0 < lcm d k / d = rw (lcm-over_first d k hd hk) (parts_of d k hd hk).second_positive in
    omega (arith, times-more n (lcm d k / d) one)

joined-at_least_second : (n m d k : ℕ) → 0 < d → 0 < k → m ≤ joined n m d k
joined-at_least_second n m d k hd hk =
    let one : 0 < lcm d k / k = rw (lcm-over_second d k hd hk) (parts_of d k hd hk).first_positive in
    omega (arith, times-more m (lcm d k / k) one)

pub joined-by_parts : (n m d k : ℕ) → 0 < d → 0 < k → joined n m d k ≡ n * (k / gcd d k) + m * (d / gcd d k)
joined-by_parts n m d k hd hk = rw (lcm-over_first d k hd hk, lcm-over_second d k hd hk) refl

abbrev JoinedPositive : Tree → Tree → Type 0
JoinedPositive e f =
    (0 < joined (numerator e) (numerator f) (denominator e) (denominator f)) × (0 < lcm (denominator e) (denominator f))

joined-positive : (e f : Tree) → Positive e → Positive f → JoinedPositive e f
joined-positive e f h k = (
  omega (arith, h.0, joined-at_least_first (numerator e) (numerator f) (denominator e) (denominator f) h.1 k.1),
  omega (arith, h.1, lcm-at_least_first (denominator e) (denominator f) h.1 k.1),
)

-- if an expression has no negative number and no denominator 0, its numerator and its denominator are positive
pub positive : (e : Expr) → IsTrue (has_no_signs e) → Positive (tree_of e)
positive (Number num) h = (pos_at_least (nat_abs num), omega arith)
positive (Fraction num den) h =
    (pos_at_least (nat_abs num), abs_positive den (one_of (le_z (pos 0) num) (lt_z (pos 0) den) h).1)
positive (Atom basis label) h = (omega arith, omega arith)
positive (Negation' p inner) h = positive inner h
positive (Sum' p left q right) h =
    let s = one_of (has_no_signs left) (has_no_signs right) h in
    joined-positive (tree_of left) (tree_of right) (positive left s.0) (positive right s.1)
positive (Difference' p left q right) h =
    let s = one_of (has_no_signs left) (has_no_signs right) h in
    joined-positive (tree_of left) (tree_of right) (positive left s.0) (positive right s.1)
positive (Product' p left q right) h =
    let s = one_of (has_no_signs left) (has_no_signs right) h in
    product-positive (tree_of left) (tree_of right) (positive left s.0) (positive right s.1)

-- if the numerator and the denominator of f are positive, and one of those of e is 2^127 or more, then one of those of e·f is 2^127 or more
pub wide-product_left : (e f : Tree) → Positive f → Wide e → Wide (product e f)
wide-product_left e f h (inl w) = inl (omega (arith, w, times-more (numerator e) (numerator f) h.0))
wide-product_left e f h (inr w) = inr (omega (arith, w, times-more (denominator e) (denominator f) h.1))

pub wide-product_right : (e f : Tree) → Positive e → Wide f → Wide (product e f)
wide-product_right e f h (inl w) = inl (omega (arith, w, times-more (numerator f) (numerator e) h.0))
wide-product_right e f h (inr w) = inr (omega (arith, w, times-more (denominator f) (denominator e) h.1))

abbrev pub WideJoined : Tree → Tree → Type 0
WideJoined e f =
    (2 ^ 127 ≤ joined (numerator e) (numerator f) (denominator e) (denominator f))
    ⊎ (2 ^ 127 ≤ lcm (denominator e) (denominator f))

pub wide-joined_left : (e f : Tree) → Positive e → Positive f → Wide e → WideJoined e f
wide-joined_left e f h k (inl w) = inl (omega (arith, w, joined-at_least_first (numerator e) (numerator f) (denominator e) (denominator f) h.1 k.1))
wide-joined_left e f h k (inr w) = inr (omega (arith, w, lcm-at_least_first (denominator e) (denominator f) h.1 k.1))

pub wide-joined_right : (e f : Tree) → Positive e → Positive f → Wide f → WideJoined e f
wide-joined_right e f h k (inl w) = inl (omega (arith, w, joined-at_least_second (numerator e) (numerator f) (denominator e) (denominator f) h.1 k.1))
wide-joined_right e f h k (inr w) = inr (omega (arith, w, lcm-at_least_second (denominator e) (denominator f) h.1 k.1))

-- l and r have no negative number and no denominator 0
abbrev pub Signless : Expr → Expr → Type 0
Signless l r = IsTrue (has_no_signs l && has_no_signs r)

pub none-product_right : (answer : Option Weight) (l r : Expr) → Signless l r → answer ≡ None → Wide (tree_of r)
    → IsWeighed answer (numerator (product (tree_of l) (tree_of r))) (denominator (product (tree_of l) (tree_of r)))
none-product_right answer l r h e w =
    let s = one_of (has_no_signs l) (has_no_signs r) h in
    subst (λ a. IsWeighed a (numerator (product (tree_of l) (tree_of r))) (denominator (product (tree_of l) (tree_of r)))) (sym e)
    (wide-product_right (tree_of l) (tree_of r) (positive l s.0) w)

pub none-product_left : (answer : Option Weight) (l r : Expr) → Signless l r → answer ≡ None → Wide (tree_of l)
    → IsWeighed answer (numerator (product (tree_of l) (tree_of r))) (denominator (product (tree_of l) (tree_of r)))
none-product_left answer l r h e w =
    let s = one_of (has_no_signs l) (has_no_signs r) h in
    subst (λ a. IsWeighed a (numerator (product (tree_of l) (tree_of r))) (denominator (product (tree_of l) (tree_of r)))) (sym e)
    (wide-product_left (tree_of l) (tree_of r) (positive r s.1) w)

pub none-joined_left : (answer : Option Weight) (l r : Expr) → Signless l r → answer ≡ None → Wide (tree_of l)
    → IsWeighed answer (numerator (sum (tree_of l) (tree_of r))) (denominator (sum (tree_of l) (tree_of r)))
none-joined_left answer l r h e w =
    let s = one_of (has_no_signs l) (has_no_signs r) h in
    subst (λ a. IsWeighed a (numerator (sum (tree_of l) (tree_of r))) (denominator (sum (tree_of l) (tree_of r)))) (sym e)
    (wide-joined_left (tree_of l) (tree_of r) (positive l s.0) (positive r s.1) w)

pub none-joined_right : (answer : Option Weight) (l r : Expr) → Signless l r → answer ≡ None → Wide (tree_of r)
    → IsWeighed answer (numerator (sum (tree_of l) (tree_of r))) (denominator (sum (tree_of l) (tree_of r)))
none-joined_right answer l r h e w =
    let s = one_of (has_no_signs l) (has_no_signs r) h in
    subst (λ a. IsWeighed a (numerator (sum (tree_of l) (tree_of r))) (denominator (sum (tree_of l) (tree_of r)))) (sym e)
    (wide-joined_right (tree_of l) (tree_of r) (positive l s.0) (positive r s.1) w)

-- the weight w has the numerator and the denominator of e, both below 2^127
abbrev pub Gives : Expr → Weight → Type 0
Gives e w =
    (w.num ≡ numerator (tree_of e)) × (w.den ≡ denominator (tree_of e)) × (numerator (tree_of e) < 2 ^ 127) × (denominator (tree_of e) < 2 ^ 127)

pub given-positive : (l r : Expr) (w : Weight) → Signless l r → Gives l w → 0 < w.den
given-positive l r w h g =
    let s = one_of (has_no_signs l) (has_no_signs r) h in
    subst (λ n. 0 < n) (sym g.1) (positive l s.0).1

pub some-joined : (answer : Option Weight) (l r : Expr) (v w : Weight) → Signless l r → Gives l v → Gives r w
    → IsWeighed answer (v.num * (w.den / gcd v.den w.den) + w.num * (v.den / gcd v.den w.den)) (v.den / gcd v.den w.den * w.den)
    → IsWeighed answer (numerator (sum (tree_of l) (tree_of r))) (denominator (sum (tree_of l) (tree_of r)))
some-joined answer l r v w h a b k =
    let s = one_of (has_no_signs l) (has_no_signs r) h in
    let same = joined-by_parts (numerator (tree_of l)) (numerator (tree_of r)) (denominator (tree_of l)) (denominator (tree_of r)) (positive l s.0).1 (positive r s.1).1 in
    subst (λ n. IsWeighed answer n (denominator (sum (tree_of l) (tree_of r)))) (sym same)
    (rw (a.0, a.1, b.0, b.1) at k)
