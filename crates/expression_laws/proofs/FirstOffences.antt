-- The errors of a word that is read as an expression are ordered by their places in the word (`ComesBefore`). The first error of a list of errors
-- is an element of the list, and no error of the list comes before it.
use Rattle.std.proofs.Common.{◌≡◌, ℕ, ◌<◌, ◌==◌, nat_le, nat_lt, Bool, true, false, ◌&&◌, ◌||◌, cond, List, [], ◌∷◌, refl, sym, ap, ◌∙◌, subst, arith, Option, Some, None, ◌⊎◌, inl, inr, rules}
use Rattle.std.proofs.lemmas.Bool.Decides.{nat_tests}
use Rattle.sym_model.specs.Sum.{Among}
use Rattle.sym_model.specs.ExpressionOffence.{WordOffence, rank, comes_first, ComesBefore, earlier, first_of}

never_itself : (o : WordOffence) → ComesBefore o o → ⊥
never_itself o (inl h) = omega arith
never_itself o (inr h) = omega arith

-- the pair (a, b) comes before (c, d) in the lexicographic order; two errors are compared in this way, with the byte of an error as the first number
-- and the rank of its kind as the second
abbrev pub Before : ℕ → ℕ → ℕ → ℕ → Type 0
Before a b c d = (a < c) ⊎ ((a ≡ c) × (b < d))

abbrev pub goes_first : ℕ → ℕ → ℕ → ℕ → Bool
goes_first a b c d = nat_lt a c || ((a == c) && nat_le b d)

pub before_first : (a b c d e f : ℕ) → Before a b c d → goes_first c d e f ≡ true → Before a b e f
before_first a b c d e f (inl h) k = grind (arith, nat_tests)
before_first a b c d e f (inr h) k = grind (arith, nat_tests)

pub first_before : (a b c d : ℕ) → Before a b c d → goes_first a b c d ≡ true
first_before a b c d (inl h) = grind (arith, nat_tests)
first_before a b c d (inr h) = grind (arith, nat_tests)

before-first : (p x y : WordOffence) → ComesBefore p x → comes_first x y ≡ true → ComesBefore p y
before-first p x y h k = before_first p.0 (rank p.1) x.0 (rank x.1) y.0 (rank y.1) h k

pub first_none : (os : List WordOffence) → first_of os ≡ None → os ≡ []
first_none [] h = refl
first_none (x ∷ os) h = search rules

pub none-empty : (os : List WordOffence) → os ≡ [] → first_of os ≡ None
none-empty os h = ap first_of h

pub one_of : {A : Type 0} (x y o : A) (c : Bool) → cond c (Some x) (Some y) ≡ Some o → ((c ≡ true) × (o ≡ x)) ⊎ ((c ≡ false) × (o ≡ y))
one_of x y o true h = inl (refl, cc)
one_of x y o false h = inr (refl, cc)

pub first-among : (os : List WordOffence) (o : WordOffence) → first_of os ≡ Some o → Among o os
first-among [] o h = cc
first-among (x ∷ os) o h = search (rules, one_of, (first-among os))

pub none-before : (os : List WordOffence) (o p : WordOffence) → first_of os ≡ Some o → Among p os → ComesBefore p o → ⊥
none-before [] o p h a b = a
none-before (x ∷ os) o p h a b = by (first_of os) refl h a (none-before os)
  where
    by : (rest : Option WordOffence) → first_of os ≡ rest → earlier (Some x) rest ≡ Some o → Among p (x ∷ os)
        → ((q r : WordOffence) → first_of os ≡ Some q → Among r os → ComesBefore r q → ⊥) → ⊥
    by None e h (inl s) ih =
        let same : p ≡ o = cc in never_itself o (subst (λ q. ComesBefore q o) same b)
    by None e h (inr s) ih = subst (Among p) (first_none os e) s
    by (Some y) e h a ih = chosen (one_of x y o (comes_first x y) h) a
      where
        chosen : ((comes_first x y ≡ true) × (o ≡ x)) ⊎ ((comes_first x y ≡ false) × (o ≡ y)) → Among p (x ∷ os) → ⊥
        chosen (inl k) (inl s) = let same : p ≡ o = cc in never_itself o (subst (λ q. ComesBefore q o) same b)
        chosen (inl k) (inr s) = ih y p e s (before-first p x y (subst (ComesBefore p) k.1 b) k.0)
        chosen (inr k) (inl s) =
            let first : ComesBefore x y = subst (ComesBefore x) k.1 (subst (λ q. ComesBefore q o) s b) in
            let c : comes_first x y ≡ true = first_before x.0 (rank x.1) y.0 (rank y.1) first in cc
        chosen (inr k) (inr s) = ih o p (e ∙ ap Some (sym k.1)) s b
