-- Lists of terms with integer coefficients: the coefficient of a label, and lists that have the same sum Σ c·φ(label) for every function φ of labels.
use Rattle.std.proofs.Common.{◌≡◌, ◌⊎◌, inl, inr, ℕ, ◌+◌, ◌^◌, ◌≤◌, Bool, true, false, cond, List, [], ◌∷◌, ◌++◌, refl, sym, ap, ◌∙◌, arith, ℤ, pos, negsuc, ◌+ℤ◌, ◌*ℤ◌}
use Rattle.std.specs.Prelude.{Option, nat_abs, nat_eq, ◌≤ℤ◌}
use Rattle.std.specs.Cmp.Lexicographic.{pointwise, nat_list_eq_equiv}
use Rattle.std.specs.Option.{unwrap_or}
use Rattle.std.specs.List.{IsDistinct}
use Rattle.std.specs.Map.{keys_of}
use Rattle.std.proofs.lemmas.Int.{ints}
use Rattle.std.proofs.lemmas.Bool.{both_ways}
use Rattle.sym_model.specs.Sum.{Among}
use Rattle.sym_model.specs.WholeTerms.{AreCounts}
use Rattle.sym_model.specs.Polynomial.{Same, same, coefficient as coefficient_of}
use Rattle.sym_model.proofs.Sums.{total_ext}
use Rattle.sym_model.proofs.Ring.{product-one}
use Rattle.sym_model.proofs.Exponents.{same_from, same_apart, same_or_not}
use Rattle.sym_model.proofs.Polynomials.{at_only, coefficient_pair, same_from_pair}
use Rattle.linear_combinations.specs.Entries.{coefficient}
use Rattle.linear_combinations.specs.Gains.{WholeTermsOf, over, only, mass_at, Gains, Overflows}
use Rattle.printing_laws.proofs.Labels.{same_partition}
use Rattle.linear_combinations.proofs.Gains.{over_at, over_append}
use Rattle.linear_combinations.proofs.Totals.{found-among}
use lib.IntN.{*ℤ-zero, +ℤ_idl}

pub counts_at : {L : Type 0} (eq : L → L → Bool) (x : L) (g : WholeTermsOf L) → AreCounts g → over (only eq x) g ≡ pos (mass_at eq x g)
counts_at eq x [] h = refl
counts_at {L} eq x (t ∷ g) h = by (eq x t.0) t.1 (h t (inl refl)) (counts_at eq x g (λ u m. h u (inr m)))
  where
    by : (b : Bool) (c : ℤ) → pos 0 ≤ℤ c → over (only eq x) g ≡ pos (mass_at eq x g) → c *ℤ cond b (pos 1) (pos 0) +ℤ over (only eq x) g ≡ pos (cond b (nat_abs c) 0 + mass_at eq x g)
    by true (pos n) l r = let e = product-one (pos n) in omega (arith, ints)
    by true (negsuc n) l r = absurd (omega (arith, ints))
    by false c l r = let e = *ℤ-zero c in omega (arith, ints)

-- ---- lists whose labels are lists of numbers

only_same : (x y : List ℕ) → only (pointwise nat_eq) x y ≡ at_only x y
only_same x y = by (pointwise nat_eq x y) refl (same_or_not y x)
  where
    by : (b : Bool) → pointwise nat_eq x y ≡ b → (y ≡ x) ⊎ (y ≡ x → ⊥) → cond b (pos 1) (pos 0) ≡ cond (same y x) (pos 1) (pos 0)
    by true p (inl e) = sym (ap (λ b. cond b (pos 1) (pos 0)) (same_from y x e))
    by true p (inr n) = absurd (n (sym (same_partition x y p)))
    by false p (inl e) = absurd (both_ways (pointwise nat_eq x y) p (ap (pointwise nat_eq x) e ∙ nat_list_eq_equiv.refl x))
    by false p (inr n) = sym (ap (λ b. cond b (pos 1) (pos 0)) (same_apart y x n))

-- the coefficient of g at x is the sum of c·φ(label) over the terms of g, for φ the function `only` of x, which is 1 at x and 0 elsewhere
pub coefficient_over : (g : WholeTermsOf (List ℕ)) (x : List ℕ) → coefficient_of g x ≡ over (only (pointwise nat_eq) x) g
coefficient_over g x =
    coefficient_pair g x ∙ total_ext (λ (t : List ℕ × ℤ). t.1 *ℤ at_only x t.0) (λ (t : List ℕ × ℤ). t.1 *ℤ only (pointwise nat_eq) x t.0) (λ t. ap (λ z. t.1 *ℤ z) (sym (only_same x t.0))) g

-- if no label occurs twice in a list, the coefficient of x, as a sum over all terms, is the one that the function `coefficient` looks up
pub coefficient_found : (terms : WholeTermsOf (List ℕ)) → IsDistinct (pointwise nat_eq) (keys_of terms) → (x : List ℕ) → coefficient_of terms x ≡ coefficient (pointwise nat_eq) (pos 0) terms x
coefficient_found terms distinct x = coefficient_over terms x ∙ over_at nat_list_eq_equiv same_partition terms distinct x

pub coefficient_of_term : (terms : WholeTermsOf (List ℕ)) → IsDistinct (pointwise nat_eq) (keys_of terms) → (t : List ℕ × ℤ) → Among t terms → coefficient_of terms t.0 ≡ t.1
coefficient_of_term terms distinct t m =
    coefficient_found terms distinct t.0
    ∙ ap (λ (o : Option ℤ). unwrap_or o (pos 0)) (found-among nat_list_eq_equiv same_partition terms distinct t m)

-- if `new` is `old` plus the terms `gained` (`Gains`), each label has the same coefficient in `new` as in the list `old ++ gained`
pub gains_same : (old gained new : WholeTermsOf (List ℕ)) → Gains old gained new → Same new (old ++ gained)
gains_same old gained new a = same_from_pair new (old ++ gained) (λ φ. a.sums φ ∙ sym (over_append φ old gained))

pub coefficient_gained : (old gained new : WholeTermsOf (List ℕ)) (x : List ℕ) → old ≡ [] → Gains old gained new
    → coefficient_of new x ≡ over (only (pointwise nat_eq) x) gained
coefficient_gained old gained new x none a =
    coefficient_over new x ∙ a.sums (only (pointwise nat_eq) x)
    ∙ ap (λ ts. over (only (pointwise nat_eq) x) ts +ℤ over (only (pointwise nat_eq) x) gained) none
    ∙ +ℤ_idl (over (only (pointwise nat_eq) x) gained)

pub mass_overflows : {L : Type 0} (eq : L → L → Bool) (old gained : WholeTermsOf L) → old ≡ [] → Overflows eq old gained
    → (x : L) × (2 ^ 127 ≤ mass_at eq x gained)
mass_overflows eq old gained none o =
    let e = ap (λ ts. nat_abs (over (only eq o.0) ts)) none in
    let l = o.1 in
    (o.0, omega (arith, e, l))
