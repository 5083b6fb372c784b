-- The first error of a list of errors is in the list, and no error of the list comes before it.
use Rattle.std.proofs.Common.{◌≡◌, ℕ, ◌<◌, ◌==◌, nat_le, nat_lt, Bool, true, false, ◌&&◌, ◌||◌, List, [], ◌∷◌, refl, sym, ap, ◌∙◌, subst, arith, Option, Some, None, ◌⊎◌, inl, inr, rules}
use Rattle.std.proofs.lemmas.Bool.Decides.{nat_tests}
use Rattle.sym_model.specs.Sum.{Among}
use Rattle.sym_model.specs.CommandOffence.{Offence, is_no_later, ComesBefore, earlier_of, first_offence}
use Rattle.sym_model.specs.ExpressionOffence.{rank}
use Rattle.expression_laws.proofs.FirstOffences.{one_of}

never_itself : (o : Offence) → ComesBefore o o → ⊥
never_itself o (inl h) = omega arith
never_itself o (inr h) = search rules

-- the triple (a, b, c) is lexicographically before (d, e, f): this is the order of errors, with a and d their words, b and e their bytes, and c and f
-- the ranks of their kinds
abbrev Before : ℕ → ℕ → ℕ → ℕ → ℕ → ℕ → Type 0
Before a b c d e f = (a < d) ⊎ ((a ≡ d) × ((b < e) ⊎ ((b ≡ e) × (c < f))))

abbrev goes_first : ℕ → ℕ → ℕ → ℕ → ℕ → ℕ → Bool
goes_first a b c d e f = nat_lt a d || ((a == d) && (nat_lt b e || ((b == e) && nat_le c f)))

before_first : (a b c d e f g h i : ℕ) → Before a b c d e f → goes_first d e f g h i ≡ true → Before a b c g h i
before_first a b c d e f g h i (inl x) k = grind (arith, nat_tests)
before_first a b c d e f g h i (inr (x, inl y)) k = grind (arith, nat_tests)
before_first a b c d e f g h i (inr (x, inr y)) k = grind (arith, nat_tests)

first_before : (a b c d e f : ℕ) → Before a b c d e f → goes_first a b c d e f ≡ true
first_before a b c d e f (inl x) = grind (arith, nat_tests)
first_before a b c d e f (inr (x, inl y)) = grind (arith, nat_tests)
first_before a b c d e f (inr (x, inr y)) = grind (arith, nat_tests)

before-first : (p x y : Offence) → ComesBefore p x → is_no_later x y ≡ true → ComesBefore p y
before-first p x y h k = before_first p.0 p.1 (rank p.2) x.0 x.1 (rank x.2) y.0 y.1 (rank y.2) h k

comes_no_later : (x y : Offence) → ComesBefore x y → is_no_later x y ≡ true
comes_no_later x y h = first_before x.0 x.1 (rank x.2) y.0 y.1 (rank y.2) h

pub first_none : (os : List Offence) → first_offence os ≡ None → os ≡ []
first_none [] h = refl
first_none (x ∷ os) h = search rules

pub none-empty : (os : List Offence) → os ≡ [] → first_offence os ≡ None
none-empty os h = ap first_offence h

-- the first error of a list (`first_offence`), if there is one, is in the list
pub first-among : (os : List Offence) (o : Offence) → first_offence os ≡ Some o → Among o os
first-among [] o h = cc
first-among (x ∷ os) o h = search (rules, one_of, (first-among os))

pub none-before : (os : List Offence) (o p : Offence) → first_offence os ≡ Some o → Among p os → ComesBefore p o → ⊥
none-before [] o p h a b = a
none-before (x ∷ os) o p h a b = by (first_offence os) refl h a (none-before os)
  where
    by : (rest : Option Offence) → first_offence os ≡ rest → earlier_of x rest ≡ Some o → Among p (x ∷ os)
        → ((q r : Offence) → first_offence os ≡ Some q → Among r os → ComesBefore r q → ⊥) → ⊥
    by None e h (inl s) ih =
        let same : p ≡ o = cc in never_itself o (subst (λ q. ComesBefore q o) same b)
    by None e h (inr s) ih = subst (Among p) (first_none os e) s
    by (Some y) e h a ih = chosen (one_of x y o (is_no_later x y) h) a
      where
        chosen : ((is_no_later x y ≡ true) × (o ≡ x)) ⊎ ((is_no_later x y ≡ false) × (o ≡ y)) → Among p (x ∷ os) → ⊥
        chosen (inl k) (inl s) = let same : p ≡ o = cc in never_itself o (subst (λ q. ComesBefore q o) same b)
        chosen (inl k) (inr s) = ih y p e s (before-first p x y (subst (ComesBefore p) k.1 b) k.0)
        chosen (inr k) (inl s) =
            let first : ComesBefore x y = subst (ComesBefore x) k.1 (subst (λ q. ComesBefore q o) s b) in
            let c : is_no_later x y ≡ true = comes_no_later x y first in cc
        chosen (inr k) (inr s) = ih o p (e ∙ ap Some (sym k.1)) s b
