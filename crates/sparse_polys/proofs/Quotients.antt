-- Lists of terms with integer coefficients, divided by one positive number, with the quotients in lowest terms.
--     Quotients-next         a list of quotients to which the quotient of one more term is added
--     IsDivided-quotients    the list of all quotients is the list divided by the number
use Rattle.std.proofs.Common.{◌≡◌, ◌⊎◌, ℕ, ◌*◌, ◌<◌, true, cond, List, [], ◌∷◌, ◌++◌, refl, sym, ◌∙◌, ap, subst, inl, inr, arith, ℤ, pos, ◌+ℤ◌, ◌*ℤ◌}
use Rattle.std.proofs.lemmas.Int.{ints}
use Rattle.std.proofs.lemmas.List.{map-append}
use Rattle.fraction_laws.specs.Fractions.{whole, lowest_terms, fraction_sum}
use Rattle.fraction_laws.specs.Checked.{IsFraction, checked_fraction_sum}
use Rattle.fraction_laws.proofs.Fractions.{Stands-same, Stands-whole, Stands-sum, Stands-lowest_terms}
use Rattle.fraction_laws.proofs.FractionAnswers.{sum_answers_fraction}
use Rattle.sym_model.specs.Sum.{Among, Once}
use Rattle.sym_model.specs.Polynomial.{Term, same, coefficient}
use Rattle.sym_model.specs.Expansion.{Fraction, Terms, denominators}
use Rattle.sym_model.specs.Canonical.{is_reduced}
use Rattle.sym_model.specs.LabelLimits.{is_label}
use Rattle.sym_model.specs.WholeTerms.{WholeTerms, labels}
use Rattle.sym_model.proofs.Ring.{ring}
use Rattle.sym_model.proofs.Sums.{total_none, Among-map}
use Rattle.sym_model.proofs.Exponents.{same_from, same_apart, same_or_not}
use Rattle.sym_model.proofs.Orders.{is_reduced-tells}
use Rattle.sym_model.proofs.Polynomials.{coefficient_plus}
use Rattle.std.proofs.lemmas.Bool.{and_parts}
use Rattle.sparse_polys.specs.Combination.{are_terms, HasMoreAt}
use Rattle.linear_combinations.specs.Entries.{IsRefused}
use Rattle.sparse_polys.proofs.ValueLists.{refused_values}
use Rattle.sparse_polys.proofs.Steps.{fits-zero_left}
use Rattle.monomial_laws.proofs.DividedTerms.{IsDivided}
use Rattle.sparse_polys.specs.Tables.{equal, found, IsFractionTable, IsWholeTable}
use Rattle.sparse_polys.proofs.WholeLists.{found-among, found-absent, Once-keys, Once-labels}
use Rattle.sparse_polys.proofs.PartitionTerms.{once_before}
use lib.IntN.{+ℤ_idr}
use native.Mathlib.Nat.{mul-pos}
use Rattle.linear_combinations.proofs.LabelTests.{equal_from, equal_apart}

cross : (a b x : ℤ) → (a *ℤ x +ℤ b *ℤ x) *ℤ x ≡ (a +ℤ b) *ℤ (x *ℤ x)
cross a b x = simp ring

sum-lowest : (a b : ℤ) (d : ℕ) → 0 < d → fraction_sum (lowest_terms a d) (lowest_terms b d) ≡ lowest_terms (a +ℤ b) d
sum-lowest a b d h =
    Stands-same _ _ (a *ℤ pos d +ℤ b *ℤ pos d) (a +ℤ b) (d * d) d
    (Stands-sum (lowest_terms a d) (lowest_terms b d) a b d d (Stands-lowest_terms a d h) (Stands-lowest_terms b d h))
    (Stands-lowest_terms (a +ℤ b) d h)
    (cross a b (pos d))

pub lowest-zero : (d : ℕ) → 0 < d → lowest_terms (pos 0) d ≡ whole (pos 0)
lowest-zero d h =
    Stands-same _ _ (pos 0) (pos 0) d 1 (Stands-lowest_terms (pos 0) d h) (Stands-whole (pos 0))
    (let a : 0 * 1 ≡ 0 * d = omega arith in ap pos a)

-- for each label, the coefficient in the list `terms` of fractions is the coefficient in the list W divided by d, in lowest terms
abbrev pub Quotients : ℕ → Terms (List ℕ) → WholeTerms → Type 0
Quotients d terms W = (label : List ℕ) → found terms label ≡ lowest_terms (coefficient W label) d

pub Quotients-none : (d : ℕ) → 0 < d → Quotients d [] []
Quotients-none d h label = sym (lowest-zero d h)

pub Quotients-next : (d : ℕ) (old new : Terms (List ℕ)) (W : WholeTerms) (label : List ℕ) (c : ℤ) → 0 < d → Quotients d old W → HasMoreAt equal old label (lowest_terms c d) new → Quotients d new (W ++ (label, c) ∷ [])
Quotients-next d old new W label c h q more l = more l ∙ by (same_or_not label l)
  where
    by : (label ≡ l) ⊎ (label ≡ l → ⊥) → cond (equal label l) (fraction_sum (found old label) (lowest_terms c d)) (found old l) ≡ lowest_terms (coefficient (W ++ (label, c) ∷ []) l) d
    by (inl e) =
        ap (λ b. cond b (fraction_sum (found old label) (lowest_terms c d)) (found old l)) (equal_from label l e)
        ∙ ap (λ (r : Fraction). fraction_sum r (lowest_terms c d)) (ap (found old) e ∙ q l)
        ∙ sum-lowest (coefficient W l) c d h
        ∙ ap (λ z. lowest_terms z d)
        (sym (coefficient_plus W ((label, c) ∷ []) l
        ∙ ap (λ z. coefficient W l +ℤ z) (ap (λ b. cond b c (pos 0) +ℤ pos 0) (same_from label l e) ∙ +ℤ_idr c)))
    by (inr n) =
        ap (λ b. cond b (fraction_sum (found old label) (lowest_terms c d)) (found old l)) (equal_apart label l n)
        ∙ q l
        ∙ ap (λ z. lowest_terms z d)
        (sym (coefficient_plus W ((label, c) ∷ []) l
        ∙ ap (λ z. coefficient W l +ℤ z) (ap (λ b. cond b c (pos 0) +ℤ pos 0) (same_apart label l n))
        ∙ +ℤ_idr (coefficient W l)))

pub coefficient-before : (terms : WholeTerms) → IsWholeTable terms → (done rest : WholeTerms) (k : List ℕ) (v : ℤ) → done ++ (k, v) ∷ rest ≡ terms → coefficient done k ≡ pos 0
coefficient-before terms is done rest k v e =
    total_none (λ (t : Term). cond (same t.0 k) t.1 (pos 0)) done
    (λ t m. ap (λ b. cond b t.1 (pos 0)) (same_apart t.0 k (λ i. once_before (labels done) (labels rest) k once (subst (λ l. Among l (labels done)) i (Among-map (λ (u : Term). u.0) t done m)))))
  where
    once : Once (labels done ++ (k ∷ labels rest))
    once = subst (λ (ls : List (List ℕ)). Once ls) (ap labels (sym e) ∙ map-append (λ (u : Term). u.0) done ((k, v) ∷ rest)) (Once-labels terms is)

pub not_refused_quotient : (d : ℕ) (a b : Fraction) (z : ℤ) → 0 < d → z ≡ pos 0 → a ≡ lowest_terms z d → IsRefused IsFraction checked_fraction_sum a b → ⊥
not_refused_quotient d a b z h e q r =
    fits-zero_left {is_held = IsFraction} {value = λ (r : Fraction). r} {checked = checked_fraction_sum} sum_answers_fraction a b
    (q ∙ ap (λ z. lowest_terms z d) e ∙ lowest-zero d h)
    (refused_values (λ (r : Fraction). r) IsFraction checked_fraction_sum a b a b refl refl r)

pub denominators-positive : (terms : Terms (List ℕ)) → are_terms is_label terms ≡ true → 0 < denominators terms
denominators-positive [] h = omega arith
denominators-positive (t ∷ terms) h =
    let p = and_parts _ (are_terms is_label terms) h in
    let r = and_parts (is_reduced t.1) (is_label t.0) p.0 in
    mul-pos ((is_reduced-tells t.1 r.0).denominator) (denominators-positive terms p.1)

pub IsDivided-quotients : (d : ℕ) (W : WholeTerms) (terms : Terms (List ℕ)) → 0 < d → IsFractionTable terms → Quotients d terms W → IsDivided d W terms
IsDivided-quotients d W terms h is q = record {
  once = Once-keys terms is;
  positive = denominators-positive terms is.proper;
  there = λ t m.
      subst (λ (r : Fraction). r.0 *ℤ pos d ≡ coefficient W t.0 *ℤ pos r.1) (sym (q t.0) ∙ found-among terms is.distinct t m)
      ((Stands-lowest_terms (coefficient W t.0) d h).is);
  missing = λ label n.
      let none : found terms label ≡ whole (pos 0) = found-absent terms label n in
      let stands = (Stands-lowest_terms (coefficient W label) d h).is in
      zero_of d (coefficient W label) (subst (λ (r : Fraction). r.0 *ℤ pos d ≡ coefficient W label *ℤ pos r.1) (sym (q label) ∙ none) stands);
}
  where
    zero_of : (d : ℕ) (z : ℤ) → pos 0 *ℤ pos d ≡ z *ℤ pos 1 → z ≡ pos 0
    zero_of d z e = let a : pos 0 *ℤ pos d ≡ pos 0 = (let n : 0 * d ≡ 0 = omega arith in ap pos n) in omega (arith, ints)
