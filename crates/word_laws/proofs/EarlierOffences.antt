-- The first error of two lists together, and the first error of a list, which depends only on the multiplicity of each error in the list.
use Rattle.std.proofs.lemmas.Grind.{common_steps}
use Rattle.std.proofs.Common.{◌≡◌, ℕ, ◌+◌, ◌<◌, ◌==◌, nat_le, nat_lt, Bool, true, false, not, ◌&&◌, ◌||◌, cond, List, [], ◌∷◌, ◌++◌, refl, sym, ap, ◌∙◌, subst, arith, Option, Some, None, inl, inr, rules}
use Rattle.std.proofs.lemmas.Bool.Decides.{nat_tests}
use Rattle.std.proofs.lemmas.Bool.{and_parts}
use Rattle.sym_model.specs.Sum.{Among}
use Rattle.sym_model.specs.ExpressionOffence.{rank}
use Rattle.sym_model.specs.CommandOffence.{Offence, is_no_later, earlier_of, first_offence}
use Rattle.sym_model.proofs.Numbers.{nat_le-trans}
use Rattle.word_laws.proofs.FirstOffences.{first-among, first_none}
use Rattle.word_laws.specs.JudgedRows.{earlier}

-- ---- the order of errors (`is_no_later`): by word, then byte, then kind

abbrev goes : ℕ → ℕ → Bool → Bool
goes a c test = nat_lt a c || ((a == c) && test)

goes_on : (a b c : ℕ) (s t u : Bool) → (s ≡ true → t ≡ true → u ≡ true) → goes a b s ≡ true → goes b c t ≡ true → goes a c u ≡ true
goes_on a b c true true true f h k = grind (arith, nat_tests)
goes_on a b c true true false f h k = absurd (let e = f refl refl in cc)
goes_on a b c true false true f h k = grind (arith, nat_tests)
goes_on a b c true false false f h k = grind (arith, nat_tests)
goes_on a b c false true true f h k = grind (arith, nat_tests)
goes_on a b c false true false f h k = grind (arith, nat_tests)
goes_on a b c false false true f h k = grind (arith, nat_tests)
goes_on a b c false false false f h k = grind (arith, nat_tests)

abbrev inner : Offence → Offence → Bool
inner o p = goes o.1 p.1 (nat_le (rank o.2) (rank p.2))

pub later_on : (o p q : Offence) → is_no_later o p ≡ true → is_no_later p q ≡ true → is_no_later o q ≡ true
later_on o p q = search (rules, goes_on, nat_le-trans)

pub later_not : (o p q : Offence) → is_no_later o p ≡ false → is_no_later p q ≡ false → is_no_later o q ≡ false
later_not o p q = grind (arith, common_steps)

pub one_place : (o p : Offence) → is_no_later o p ≡ true → is_no_later p o ≡ true → o ≡ p
one_place o p h k = grind (arith, common_steps)

itself : (q : Offence) → is_no_later q q ≡ true
itself q = grind (arith, nat_tests)

pub or_later : (o p : Offence) → is_no_later o p ≡ false → is_no_later p o ≡ true
or_later o p h = grind (arith, common_steps)

regrouped : (x a b : Offence) (xa ab xb : Bool) → is_no_later x a ≡ xa → is_no_later a b ≡ ab → is_no_later x b ≡ xb
    → (xa ≡ true → ab ≡ true → xb ≡ true) → (xa ≡ false → ab ≡ false → xb ≡ false)
    → earlier_of x (cond ab (Some a) (Some b)) ≡ earlier (cond xa (Some x) (Some a)) (Some b)
regrouped x a b true true true e f g t n = ap (λ c. cond c (Some x) (Some a)) e ∙ sym (ap (λ c. cond c (Some x) (Some b)) g)
regrouped x a b true true false e f g t n = absurd (let z = t refl refl in cc)
regrouped x a b true false xb e f g t n = refl
regrouped x a b false true xb e f g t n = ap (λ c. cond c (Some x) (Some a)) e ∙ sym (ap (λ c. cond c (Some a) (Some b)) f)
regrouped x a b false false true e f g t n = absurd (let z = n refl refl in cc)
regrouped x a b false false false e f g t n = ap (λ c. cond c (Some x) (Some b)) g ∙ sym (ap (λ c. cond c (Some a) (Some b)) f)

earlier_both : (x : Offence) (p q : Option Offence) → earlier_of x (earlier p q) ≡ earlier (earlier_of x p) q
earlier_both x None q = refl
earlier_both x (Some a) None = search rules
earlier_both x (Some a) (Some b) =
    regrouped x a b (is_no_later x a) (is_no_later a b) (is_no_later x b) refl refl refl (later_on x a b) (later_not x a b)

pub first_of_both : (xs ys : List Offence) → first_offence (xs ++ ys) ≡ earlier (first_offence xs) (first_offence ys)
first_of_both [] ys = refl
first_of_both (x ∷ xs) ys = ap (earlier_of x) (first_of_both xs ys) ∙ earlier_both x (first_offence xs) (first_offence ys)

-- ---- the sum of f over a list of errors; two lists of errors with equal sums for every f have the same first error

abbrev pub tally : (Offence → ℕ) → List Offence → ℕ
tally f [] = 0
tally f (o ∷ os) = f o + tally f os

abbrev pub Alike : List Offence → List Offence → Type 0
Alike xs ys = (f : Offence → ℕ) → tally f xs ≡ tally f ys

pub tally_append : (f : Offence → ℕ) (xs ys : List Offence) → tally f (xs ++ ys) ≡ tally f xs + tally f ys
tally_append f [] ys = omega arith
tally_append f (x ∷ xs) ys = let e = tally_append f xs ys in omega (arith, e)

first_least : (os : List Offence) (o p : Offence) → first_offence os ≡ Some o → Among p os → is_no_later o p ≡ true
first_least [] o p h m = absurd m
first_least (x ∷ os) o p h m = by (first_offence os) refl h m (first_least os)
  where
    first_is : (c : Bool) (y : Offence) → is_no_later x y ≡ c → cond c (Some x) (Some y) ≡ Some o → Among p (x ∷ os)
        → (Among p os → is_no_later y p ≡ true) → is_no_later o p ≡ true
    first_is true y e h (inl s) ih = let xo : x ≡ o = cc in subst (λ q. is_no_later o q ≡ true) (sym xo ∙ sym s) (itself o)
    first_is true y e h (inr s) ih = let xo : x ≡ o = cc in subst (λ q. is_no_later q p ≡ true) xo (later_on x y p e (ih s))
    first_is false y e h (inl s) ih =
        let yo : y ≡ o = cc in subst (λ q. is_no_later o q ≡ true) (sym s) (subst (λ q. is_no_later q x ≡ true) yo (or_later x y e))
    first_is false y e h (inr s) ih = let yo : y ≡ o = cc in subst (λ q. is_no_later q p ≡ true) yo (ih s)

    by : (rest : Option Offence) → first_offence os ≡ rest → earlier_of x rest ≡ Some o → Among p (x ∷ os)
        → ((q r : Offence) → first_offence os ≡ Some q → Among r os → is_no_later q r ≡ true) → is_no_later o p ≡ true
    by None e h (inl s) ih = let xo : x ≡ o = cc in subst (λ q. is_no_later o q ≡ true) (sym xo ∙ sym s) (itself o)
    by None e h (inr s) ih = absurd (subst (Among p) (first_none os e) s)
    by (Some y) e h m ih = first_is (is_no_later x y) y refl h m (ih y p e)

-- an error of a list that is no later than any of its errors is the first error of the list (`first_offence`)
pub first_is_least : (os : List Offence) (o : Offence) → Among o os → ((p : Offence) → Among p os → is_no_later o p ≡ true)
    → first_offence os ≡ Some o
first_is_least os o m h = by (first_offence os) refl
  where
    by : (rest : Option Offence) → first_offence os ≡ rest → rest ≡ Some o
    by None e = absurd (subst (Among o) (first_none os e) m)
    by (Some q) e = ap Some (one_place q o (first_least os q o e m) (h q (first-among os q e)))

-- 1 if the test b is true, and otherwise 0
abbrev pub one_if : Bool → ℕ
one_if b = cond b 1 0

abbrev is_at : Offence → Offence → Bool
is_at o p = is_no_later o p && is_no_later p o

some_at : (o : Offence) (os : List Offence) → Among o os → 0 < tally (λ p. one_if (is_at o p)) os
some_at o [] m = absurd m
some_at o (x ∷ os) (inl e) = search rules
some_at o (x ∷ os) (inr m) = let r = some_at o os m in omega (arith, r)

at_some : (o : Offence) (os : List Offence) → 0 < tally (λ p. one_if (is_at o p)) os → Among o os
at_some o [] h = absurd (omega (arith, h))
at_some o (x ∷ os) h = by (is_at o x) refl (λ l. at_some o os l)
  where
    by : (b : Bool) → is_at o x ≡ b → (0 < tally (λ p. one_if (is_at o p)) os → Among o os) → Among o (x ∷ os)
    by true e again = let p = and_parts (is_no_later o x) (is_no_later x o) e in inl (one_place o x p.0 p.1)
    by false e again =
        let k : one_if (is_at o x) ≡ 0 = ap one_if e in
        inr (again (omega (arith, h, k)))

none_before : (o : Offence) (os : List Offence) → ((p : Offence) → Among p os → is_no_later o p ≡ true)
    → tally (λ p. one_if (not (is_no_later o p))) os ≡ 0
none_before o [] h = refl
none_before o (x ∷ os) h = search (rules, (none_before o os))

before_none : (o : Offence) (os : List Offence) → tally (λ p. one_if (not (is_no_later o p))) os ≡ 0
    → (p : Offence) → Among p os → is_no_later o p ≡ true
before_none o [] h p m = absurd m
before_none o (x ∷ os) h p m = by (is_no_later o x) refl m (λ l s. before_none o os l p s)
  where
    by : (b : Bool) → is_no_later o x ≡ b → Among p (x ∷ os)
        → (tally (λ p. one_if (not (is_no_later o p))) os ≡ 0 → Among p os → is_no_later o p ≡ true) → is_no_later o p ≡ true
    by true e (inl s) again = subst (λ q. is_no_later o q ≡ true) (sym s) e
    by true e (inr s) again = again (let k : one_if (not (is_no_later o x)) ≡ 0 = ap (λ b. one_if (not b)) e in omega (arith, h, k)) s
    by false e s again = absurd (let k : one_if (not (is_no_later o x)) ≡ 1 = ap (λ b. one_if (not b)) e in omega (arith, h, k))

pub first_alike : (xs ys : List Offence) → Alike xs ys → first_offence xs ≡ first_offence ys
first_alike xs ys h = by (first_offence xs) refl
  where
    no_more : (zs : List Offence) → tally (λ p. 1) zs ≡ 0 → zs ≡ []
    no_more [] e = refl
    no_more (z ∷ zs) e = absurd (omega (arith, e))

    by : (first : Option Offence) → first_offence xs ≡ first → first ≡ first_offence ys
    by None e =
        let none : xs ≡ [] = first_none xs e in
        sym (ap first_offence (no_more ys (sym (h (λ p. 1)) ∙ ap (tally (λ p. 1)) none)))
    by (Some o) e =
        let among = some_at o xs (first-among xs o e) in
        let same = h (λ p. one_if (is_at o p)) in
        let before = h (λ p. one_if (not (is_no_later o p))) in
        sym
        (first_is_least ys o (at_some o ys (omega (arith, among, same)))
        (before_none o ys (sym before ∙ none_before o xs (λ p m. first_least xs o p e m))))
