-- A table of beta sets as a list of terms: the label of each term is the partition of its set.
--     coefficient-before     the partition of a term's set is not among those of the terms before it
--     same_quotients         if two tables have the same coefficients, and a list has the coefficients of one table divided by d, then it has those
--                            of the other table divided by d
use Rattle.std.proofs.Common.{◌≡◌, ℕ, true, cond, List, ◌∷◌, ◌++◌, refl, sym, ap, ap₂, ◌∙◌, subst, inl, ℤ, pos}
use Rattle.std.specs.Prelude.{nat_eq, Option, Some}
use Rattle.std.specs.Option.{unwrap_or}
use Rattle.std.specs.List.{IsDistinct}
use Rattle.std.specs.Map.{keys_of}
use Rattle.std.specs.Cmp.{nat_eq_equiv}
use Rattle.fraction_laws.specs.Fractions.{whole, lowest_terms}
use Rattle.sym_model.specs.Sum.{Among, Once}
use Rattle.sym_model.specs.Expansion.{Terms}
use Rattle.sym_model.specs.Polynomial.{same, coefficient}
use Rattle.sym_model.specs.WholeTerms.{WholeTermsOf}
use Rattle.sym_model.proofs.Sums.{total_none, Among_from_map, Among-append_left, Among-append_right}
use Rattle.sym_model.proofs.Exponents.{same_apart}
use Rattle.sym_model.proofs.Polynomials.{at_only, coefficient_pair}
use Rattle.linear_combinations.specs.Entries.{IsCombination, HasSameCoefficients}
use Rattle.linear_combinations.specs.Gains.{HaveLabels}
use Rattle.linear_combinations.proofs.Totals.{carried, found-among, once}
use Rattle.linear_combinations.proofs.Masses.{over_same}
use Rattle.sparse_polys.proofs.Quotients.{Quotients}
use Rattle.beta_sets.specs.BetaSets.{shape, shapes, IsInRows}
use Rattle.linear_combinations.proofs.Labels.{same_number}
use Rattle.beta_sets.proofs.ShapeSums.{over-shapes}
use Rattle.beta_sets.proofs.SetNumbers.{same_shape}
use Rattle.sparse_polys.proofs.PartitionTerms.{once_before}

same_term : (terms : WholeTermsOf ℕ) → IsDistinct nat_eq (keys_of terms) → (t u : ℕ × ℤ) → Among t terms → Among u terms → t.0 ≡ u.0 → t ≡ u
same_term terms d t u m n e =
    let f = found-among nat_eq_equiv same_number terms d t m in
    let g = found-among nat_eq_equiv same_number terms d u n in
    let v : Some t.1 ≡ Some u.1 = cc in
    ap₂ (λ (a : ℕ) (b : ℤ). (a, b)) e (ap (λ (o : Option ℤ). unwrap_or o (pos 0)) v)

pub coefficient-before : (terms : WholeTermsOf ℕ) → IsCombination nat_eq (λ s. true) whole terms → HaveLabels (IsInRows 20 20) terms → (done rest : WholeTermsOf ℕ) (k : ℕ) (v : ℤ) → done ++ (k, v) ∷ rest ≡ terms
    → coefficient (shapes done) (shape k) ≡ pos 0
coefficient-before terms is within done rest k v e =
    total_none (λ (t : List ℕ × ℤ). cond (same t.0 (shape k)) t.1 (pos 0)) (shapes done)
    (λ t m. ap (λ b. cond b t.1 (pos 0)) (same_apart t.0 (shape k) (λ i.
    let r = Among_from_map (λ (u : ℕ × ℤ). (shape u.0, u.1)) t done m in
    let there = subst (Among r.0) e (Among-append_left r.0 done ((k, v) ∷ rest) r.1) in
    let here = subst (Among (k, v)) e (Among-append_right (k, v) done ((k, v) ∷ rest) (inl refl)) in
    let label = same_shape 20 20 r.0.0 k (within r.0 there) (within (k, v) here) (sym (ap (λ (u : List ℕ × ℤ). u.0) r.2) ∙ i) in
    once_before done rest (k, v) (subst (λ (l : WholeTermsOf ℕ). Once l) (sym e) (once nat_eq_equiv same_number terms is.distinct)) (subst (λ (x : ℕ × ℤ). Among x done) (same_term terms is.distinct r.0 (k, v) there here label) r.1))))

same_sums : (first second : WholeTermsOf ℕ) → IsCombination nat_eq (λ s. true) whole first → IsCombination nat_eq (λ s. true) whole second → HasSameCoefficients nat_eq (pos 0) first second
    → (label : List ℕ) → coefficient (shapes second) label ≡ coefficient (shapes first) label
same_sums first second is also equal label =
    coefficient_pair (shapes second) label
    ∙ over-shapes (at_only label) second
    ∙ sym (over_same nat_eq_equiv same_number first second is also equal (λ s. at_only label (shape s)))
    ∙ sym (over-shapes (at_only label) first)
    ∙ sym (coefficient_pair (shapes first) label)

pub same_quotients : (d : ℕ) (first second : WholeTermsOf ℕ) (answer : Terms (List ℕ)) → IsCombination nat_eq (λ s. true) whole first → IsCombination nat_eq (λ s. true) whole second
    → HasSameCoefficients nat_eq (pos 0) first second → Quotients d answer (shapes second) → Quotients d answer (shapes first)
same_quotients d first second answer is also equal q label = q label ∙ ap (λ z. lowest_terms z d) (same_sums first second is also equal label)

pub same_labels : (P : ℕ → Type 0) (first second : WholeTermsOf ℕ) → IsCombination nat_eq (λ s. true) whole first → IsCombination nat_eq (λ s. true) whole second
    → HasSameCoefficients nat_eq (pos 0) first second → HaveLabels P first → HaveLabels P second
same_labels P first second is also equal held t m =
    held t (carried nat_eq_equiv same_number (pos 0) whole refl second first also t m (sym (equal t.0)))
