-- The coefficients in a list of terms whose labels are pairs, after the terms of a list have been appended to it. The label ν of each appended term
-- is replaced by the pair (inner, ν), and no earlier pair has the first partition `inner`.
use Rattle.std.proofs.Common.{◌≡◌, ℕ, Bool, true, false, ◌&&◌, cond, List, [], ◌∷◌, ◌++◌, refl, ap, ◌∙◌, inl, inr, arith, ℤ, pos, ◌+ℤ◌, sym}
use Rattle.std.proofs.lemmas.Int.{ints}
use Rattle.std.proofs.Math.IntN.{+ℤ_idl, +ℤ_idr}
use Rattle.sym_model.specs.Sum.{Among}
use Rattle.sym_model.specs.Polynomial.{same, coefficient}
use Rattle.sym_model.specs.WholeTerms.{WholeTermsOf, WholeTerms}
use Rattle.sym_model.proofs.Exponents.{same_apart, same_refl}
use Rattle.lr_coproduct.specs.PairTerms.{pair_coefficient, with_first, AreBefore}
use Rattle.lr_coproduct.proofs.Lookups.{not_before}
use Rattle.sym_model.proofs.Integers.{nothing_either}

appended : (old more : WholeTermsOf (List ℕ × List ℕ)) (first second : List ℕ) → pair_coefficient (old ++ more) first second ≡ pair_coefficient old first second +ℤ pair_coefficient more first second
appended [] more first second = let z = pair_coefficient more first second in omega (arith, ints)
appended (t ∷ old) more first second = let r = appended old more first second in omega (arith, ints)

-- let each label ν of a list be replaced by the pair (inner, ν) (`with_first`): the coefficient of the pair (first, second) is that of `second` in
-- the list if first = inner, and otherwise 0
behind_one : (inner : List ℕ) (list : WholeTerms) (first second : List ℕ) → pair_coefficient (with_first inner list) first second ≡ cond (same inner first) (coefficient list second) (pos 0)
behind_one inner [] first second = sym (nothing_either (same inner first))
behind_one inner (t ∷ list) first second = by (same inner first) (behind_one inner list first second)
  where
    by : (b : Bool) → pair_coefficient (with_first inner list) first second ≡ cond b (coefficient list second) (pos 0)
        → cond (b && same t.0 second) t.1 (pos 0) +ℤ pair_coefficient (with_first inner list) first second
        ≡ cond b (cond (same t.0 second) t.1 (pos 0) +ℤ coefficient list second) (pos 0)
    by true e = ap (λ z. cond (same t.0 second) t.1 (pos 0) +ℤ z) e
    by false e = +ℤ_idl (pair_coefficient (with_first inner list) first second) ∙ e

none_behind : (old : WholeTermsOf (List ℕ × List ℕ)) (first second : List ℕ) → ((t : (List ℕ × List ℕ) × ℤ) → Among t old → t.0.0 ≡ first → ⊥) → pair_coefficient old first second ≡ pos 0
none_behind [] first second apart = refl
none_behind (t ∷ old) first second apart =
    ap (λ b. cond (b && same t.0.1 second) t.1 (pos 0) +ℤ pair_coefficient old first second) (same_apart t.0.0 first (apart t (inl refl)))
    ∙ +ℤ_idl (pair_coefficient old first second)
    ∙ none_behind old first second (λ u m. apart u (inr m))

pub count_here : (inner second : List ℕ) (list : WholeTerms) (old new : WholeTermsOf (List ℕ × List ℕ)) → new ≡ old ++ with_first inner list → AreBefore old inner
    → pair_coefficient new inner second ≡ coefficient list second
count_here inner second list old new e before =
    ap (λ (l : WholeTermsOf (List ℕ × List ℕ)). pair_coefficient l inner second) e
    ∙ appended old (with_first inner list) inner second
    ∙ ap (λ z. z +ℤ pair_coefficient (with_first inner list) inner second) (none_behind old inner second (λ t m d. not_before t.0.0 inner (before t m) d))
    ∙ +ℤ_idl (pair_coefficient (with_first inner list) inner second)
    ∙ behind_one inner list inner second
    ∙ ap (λ b. cond b (coefficient list second) (pos 0)) (same_refl inner)

pub count_kept : (inner first second : List ℕ) (list : WholeTerms) (old new : WholeTermsOf (List ℕ × List ℕ)) → new ≡ old ++ with_first inner list → (inner ≡ first → ⊥)
    → pair_coefficient new first second ≡ pair_coefficient old first second
count_kept inner first second list old new e other =
    ap (λ (l : WholeTermsOf (List ℕ × List ℕ)). pair_coefficient l first second) e
    ∙ appended old (with_first inner list) first second
    ∙ ap (λ z. pair_coefficient old first second +ℤ z)
    (behind_one inner list first second ∙ ap (λ b. cond b (coefficient list second) (pos 0)) (same_apart inner first other))
    ∙ +ℤ_idr (pair_coefficient old first second)
