-- Restriction of the polynomials of specs/Bases to fewer variables.
--     coefficient_restrict_padded    a coefficient of f restricted to k variables is the coefficient of f at the exponents padded with zeros
--     restrict-monomials             sums of the monomials that pass a test which does not depend on zeros at the end
--     restrict-product_over          products of polynomials over a list of parts
use Rattle.std.proofs.Common.{◌≡◌, ℕ, zero, suc, ◌+◌, ◌-◌, ◌<◌, ◌≤◌, Bool, true, false, ◌&&◌, ◌||◌, cond, eqb, leb, List, [], ◌∷◌, ◌++◌, length, replicate, sym, ◌∙◌, ap, subst, refl, inl, inr, arith, pos, length-append, rules}
use Rattle.std.proofs.lemmas.List.{length-replicate}
use Rattle.std.proofs.lemmas.Bool.{eq-eqb, ne_eqb, eqb-true}
use Rattle.std.proofs.Math.Bool.{and-true, and-false}
use Rattle.sym_model.specs.Sum.{Among}
use Rattle.sym_model.specs.Polynomial.{Poly, same, coefficient, Same, In, nothing, pair, resize, all_zero, fits_in, restrict}
use Rattle.sym_model.specs.Partition.{ArePositive, size, sorted_parts, rows}
use Rattle.sym_model.specs.Bases.{monomials, at_most_one, has, monomial, elementary_of, complete_of, power_sum_of, product_over, elementary, complete, power_sum}
use Rattle.sym_model.proofs.Exponents.{same_true}
use Rattle.sym_model.proofs.Polynomials.{at_only, coefficient_pair, coefficient_restrict, pair_in, pair_zero, times_respects}
use Rattle.sym_model.proofs.PolynomialLaws.{restrict-times, restrict-one}
use Rattle.sym_model.proofs.SortedParts.{sorted_parts-padded, rows-sorted_parts, has_past}
use Rattle.sym_model.proofs.Monomials.{coefficient-monomials, coefficient-monomial, In-monomials}
use Rattle.std.proofs.Math.Dec.{eqb-suc-suc}
use Rattle.sym_model.proofs.Integers.{nested_tests}

all_zero-same : (m : ℕ) (β : List ℕ) → length β ≡ m → all_zero β ≡ same β (replicate m 0)
all_zero-same zero [] l = refl
all_zero-same zero (b ∷ β) l = absurd (omega arith)
all_zero-same (suc m) [] l = absurd (omega arith)
all_zero-same (suc m) (b ∷ β) l = ap (λ t. eqb b 0 && t) (all_zero-same m β (omega arith))

pub and_middle : (x y z : Bool) → (x && (y && z)) ≡ (y && (x && z))
and_middle true true z = refl
and_middle true false z = refl
and_middle false true z = refl
and_middle false false z = refl

restricts_to : (k m : ℕ) (β γ : List ℕ) → length β ≡ k + m → (fits_in k β && same (resize k β) γ) ≡ (eqb (length γ) k && same β (γ ++ replicate m 0))
restricts_to zero m β [] l = and-true (all_zero β) ∙ all_zero-same m β (omega arith)
restricts_to zero m β (c ∷ γ) l = and-false (all_zero β) ∙ rw (ne_eqb (suc (length γ)) 0 (λ e. omega arith)) refl
restricts_to (suc k) m [] γ l = absurd (omega arith)
restricts_to (suc k) m (b ∷ β) [] l = and-false (fits_in k β) ∙ rw (ne_eqb 0 (suc k) (λ e. omega arith)) refl
restricts_to (suc k) m (b ∷ β) (c ∷ γ) l = search (rules, and_middle, eqb-suc-suc, (restricts_to k m β γ (omega arith)))

-- for f in k + m variables: the coefficient at γ of f restricted to k variables is the coefficient of f at γ followed
-- by m zeros if γ has k places, and 0 otherwise
pub coefficient_restrict_padded : (k m : ℕ) (f : Poly) (γ : List ℕ) → In (k + m) f → coefficient (restrict k f) γ ≡ cond (eqb (length γ) k) (coefficient f (γ ++ replicate m 0)) (pos 0)
coefficient_restrict_padded k m f γ i =
    coefficient_restrict k f γ
    ∙ pair_in (k + m) f (λ β. cond (fits_in k β) (at_only γ (resize k β)) (pos 0)) (λ β. cond (eqb (length γ) k) (at_only (γ ++ replicate m 0) β) (pos 0)) i
    (λ β l. nested_tests (fits_in k β) (same (resize k β) γ) (pos 1) ∙ ap (λ t. cond t (pos 1) (pos 0)) (restricts_to k m β γ l) ∙ sym (nested_tests (eqb (length γ) k) (same β (γ ++ replicate m 0)) (pos 1)))
    ∙ by (eqb (length γ) k)
  where
    by : (b : Bool) → pair f (λ β. cond b (at_only (γ ++ replicate m 0) β) (pos 0)) ≡ cond b (coefficient f (γ ++ replicate m 0)) (pos 0)
    by true = sym (coefficient_pair f (γ ++ replicate m 0))
    by false = pair_zero f

-- ---- sums of the monomials that pass a test, restricted to fewer variables

pub size-padded : (γ : List ℕ) (m : ℕ) → size (γ ++ replicate m 0) ≡ size γ
size-padded [] zero = refl
size-padded [] (suc m) = omega (arith, size-padded [] m)
size-padded (c ∷ γ) m = ap (λ n. c + n) (size-padded γ m)

-- zeros appended to an exponent list do not change whether it passes the test
abbrev pub SeesNoZeros : (List ℕ → Bool) → Type 0
SeesNoZeros test = (γ : List ℕ) (m : ℕ) → test (γ ++ replicate m 0) ≡ test γ

restrict-monomials_more : (test : List ℕ → Bool) (k m d : ℕ) → SeesNoZeros test → Same (restrict k (monomials test (k + m) d)) (monomials test k d)
restrict-monomials_more test k m d s γ =
    coefficient_restrict_padded k m (monomials test (k + m) d) γ (In-monomials test (k + m) d)
    ∙ by (eqb (length γ) k) refl
    ∙ sym (coefficient-monomials test k d γ)
  where
    by : (b : Bool) → eqb (length γ) k ≡ b → cond b (coefficient (monomials test (k + m) d) (γ ++ replicate m 0)) (pos 0) ≡ cond (b && eqb (size γ) d) (cond (test γ) (pos 1) (pos 0)) (pos 0)
    by false e = refl
    by true e =
        let l : length (γ ++ replicate m 0) ≡ k + m = omega (arith, length-append γ (replicate m 0), length-replicate {A = ℕ} m 0, eqb-true (length γ) k e) in
        coefficient-monomials test (k + m) d (γ ++ replicate m 0)
        ∙ rw (eq-eqb (length (γ ++ replicate m 0)) (k + m) l, size-padded γ m, s γ m) refl

pub restrict-monomials : (test : List ℕ → Bool) (k n d : ℕ) → SeesNoZeros test → k ≤ n → Same (restrict k (monomials test n d)) (monomials test k d)
restrict-monomials test k n d s h = let e : k + (n - k) ≡ n = omega arith in subst (λ j. Same (restrict k (monomials test j d)) (monomials test k d)) e (restrict-monomials_more test k (n - k) d s)

at_most_one-padded : SeesNoZeros at_most_one
at_most_one-padded [] zero = refl
at_most_one-padded [] (suc m) = at_most_one-padded [] m
at_most_one-padded (c ∷ γ) m = ap (λ t. leb c 1 && t) (at_most_one-padded γ m)

has-padded : (k : ℕ) → 0 < k → SeesNoZeros (has k)
has-padded k h [] zero = refl
has-padded k h [] (suc m) = has_past k 0 (replicate m 0) (λ e. omega arith) ∙ has-padded k h [] m
has-padded k h (c ∷ γ) m = ap (λ t. eqb c k || t) (has-padded k h γ m)

-- ---- m_λ, e_λ, h_λ and p_λ restricted to fewer variables

pub restrict-monomial : (parts : List ℕ) (k n : ℕ) → k ≤ n → Same (restrict k (monomial parts n)) (monomial parts k)
restrict-monomial parts k n h = restrict-monomials (λ α. same (sorted_parts α) parts) k n (size parts) (λ γ m. ap (λ l. same l parts) (sorted_parts-padded γ m)) h

pub restrict-elementary_of : (d k n : ℕ) → k ≤ n → Same (restrict k (elementary_of d n)) (elementary_of d k)
restrict-elementary_of d k n h = restrict-monomials at_most_one k n d at_most_one-padded h

pub restrict-complete_of : (d k n : ℕ) → k ≤ n → Same (restrict k (complete_of d n)) (complete_of d k)
restrict-complete_of d k n h = restrict-monomials (λ α. true) k n d (λ γ m. refl) h

pub restrict-power_sum_of : (d k n : ℕ) → 0 < d → k ≤ n → Same (restrict k (power_sum_of d n)) (power_sum_of d k)
restrict-power_sum_of d k n p h = restrict-monomials (has d) k n d (has-padded d p) h

pub restrict-product_over : (f : ℕ → ℕ → Poly) (parts : List ℕ) (k n : ℕ) → ((d : ℕ) → Among d parts → Same (restrict k (f d n)) (f d k)) → Same (restrict k (product_over f parts n)) (product_over f parts k)
restrict-product_over f [] k n h = restrict-one k n
restrict-product_over f (d ∷ parts) k n h = search (rules, restrict-times, times_respects, (restrict-product_over f parts k n))

pub positive_among : (d : ℕ) (parts : List ℕ) → ArePositive parts → Among d parts → 0 < d
positive_among d [] p m = absurd m
positive_among d (c ∷ parts) p (inl e) = let l = p.0 in omega arith
positive_among d (c ∷ parts) p (inr m) = positive_among d parts p.1 m

pub restrict-elementary : (parts : List ℕ) (k n : ℕ) → k ≤ n → Same (restrict k (elementary parts n)) (elementary parts k)
restrict-elementary parts k n h = restrict-product_over elementary_of parts k n (λ d m. restrict-elementary_of d k n h)

pub restrict-complete : (parts : List ℕ) (k n : ℕ) → k ≤ n → Same (restrict k (complete parts n)) (complete parts k)
restrict-complete parts k n h = restrict-product_over complete_of parts k n (λ d m. restrict-complete_of d k n h)

pub restrict-power_sum : (parts : List ℕ) (k n : ℕ) → ArePositive parts → k ≤ n → Same (restrict k (power_sum parts n)) (power_sum parts k)
restrict-power_sum parts k n p h = restrict-product_over power_sum_of parts k n (λ d m. restrict-power_sum_of d k n (positive_among d parts p m) h)

-- if the list `parts` has more than n numbers, no exponents of n variables sort to it, so its monomial symmetric
-- polynomial in n variables is 0
pub monomial_few_variables : (parts : List ℕ) (n : ℕ) → n < rows parts → Same (monomial parts n) nothing
monomial_few_variables parts n h γ = coefficient-monomial parts n γ ∙ by (eqb (length γ) n) refl (same (sorted_parts γ) parts) refl
  where
    by : (x : Bool) → eqb (length γ) n ≡ x → (y : Bool) → same (sorted_parts γ) parts ≡ y → cond x (cond y (pos 1) (pos 0)) (pos 0) ≡ pos 0
    by false d y e = refl
    by true d false e = refl
    by true d true e = absurd (omega (arith, eqb-true (length γ) n d, ap length (same_true (sorted_parts γ) parts e), rows-sorted_parts γ))
