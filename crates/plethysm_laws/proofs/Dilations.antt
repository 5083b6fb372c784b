-- For k > 0, m_λ with each variable replaced by its k-th power is m_{kλ}.
use Rattle.std.proofs.Common.{◌≡◌, ◌⊎◌, ℕ, zero, suc, ◌*◌, ◌/◌, ◌<◌, ◌≤◌, true, false, Bool, cond, eqb, List, [], ◌∷◌, map, length, sym, ◌∙◌, ap, ap₂, subst, refl, inl, inr, arith, pos, rules}
use Rattle.std.proofs.lemmas.Bool.{cases_lt}
use Rattle.std.proofs.Math.Nat.{mul-div_cancel_left, mul-le-mul_left}
use Rattle.sym_model.specs.Polynomial.{same, coefficient, Same, pair}
use Rattle.sym_model.specs.Partition.{insert_part, sorted_parts}
use Rattle.sym_model.specs.Bases.{monomial}
use Rattle.sym_model.specs.WholeTerms.{WholeTerms}
use Rattle.sym_model.proofs.Exponents.{tests_agree, same_true, same_from, same_apart, same_or_not}
use Rattle.sym_model.proofs.Polynomials.{at_only, coefficient_pair, pair_ext, pair_zero, pair_determined, same_from_pair}
use Rattle.sym_model.proofs.SortedParts.{insert_part_above, insert_part_below}
use Rattle.sym_model.proofs.Monomials.{coefficient-monomial}
use Rattle.sym_model.proofs.WholeTerms.{pair-combined}
use Rattle.monomial_laws.specs.ExpressionTerms.{in_monomials}
use Rattle.sym_model.specs.Plethysm.{multiplied}
use Rattle.plethysm_laws.specs.PowerSumPlethysm.{dilated}
use Rattle.plethysm_laws.proofs.Substitutions.{pair-dilated, length-multiplied}

-- `divided k α`: each entry of α divided by k, rounded down
abbrev divided : ℕ → List ℕ → List ℕ
divided k α = map (λ a. a / k) α

divided-multiplied : (k : ℕ) (α : List ℕ) → 0 < k → divided k (multiplied k α) ≡ α
divided-multiplied k [] h = refl
divided-multiplied k (a ∷ α) h = ap₂ ◌∷◌ (mul-div_cancel_left a h) (divided-multiplied k α h)

multiplied_cancel : (k : ℕ) (α β : List ℕ) → 0 < k → multiplied k α ≡ multiplied k β → α ≡ β
multiplied_cancel k α β h e = sym (divided-multiplied k α h) ∙ ap (divided k) e ∙ divided-multiplied k β h

-- ---- sorting and multiplying all entries by k > 0 can be exchanged

insert_front : (x b : ℕ) (parts : List ℕ) → 0 < x → b ≤ x → insert_part x (b ∷ parts) ≡ x ∷ b ∷ parts
insert_front zero b parts h k = absurd (omega arith)
insert_front (suc x) b parts h k = insert_part_above x b parts k

insert_behind : (x b : ℕ) (parts : List ℕ) → 0 < x → x < b → insert_part x (b ∷ parts) ≡ b ∷ insert_part x parts
insert_behind zero b parts h k = absurd (omega arith)
insert_behind (suc x) b parts h k = insert_part_below x b parts k

insert_alone : (x : ℕ) → 0 < x → insert_part x [] ≡ x ∷ []
insert_alone zero h = absurd (omega arith)
insert_alone (suc x) h = refl

multiple_positive : (k a : ℕ) → 0 < k → 0 < k * suc a
multiple_positive k a h = omega (arith, mul-le-mul_left k (let e : 1 ≤ suc a = omega arith in e))

insert-multiplied : (k a : ℕ) (parts : List ℕ) → 0 < k → insert_part (k * a) (multiplied k parts) ≡ multiplied k (insert_part a parts)
insert-multiplied k zero parts h = ap (λ x. insert_part x (multiplied k parts)) (let e : k * 0 ≡ 0 = omega arith in e)
insert-multiplied k (suc a) [] h = insert_alone (k * suc a) (multiple_positive k a h)
insert-multiplied k (suc a) (b ∷ parts) h = by (cases_lt (suc a) b) (insert-multiplied k (suc a) parts h)
  where
    by : (suc a < b) ⊎ (b ≤ suc a) → insert_part (k * suc a) (multiplied k parts) ≡ multiplied k (insert_part (suc a) parts)
        → insert_part (k * suc a) (multiplied k (b ∷ parts)) ≡ multiplied k (insert_part (suc a) (b ∷ parts))
    by (inl l) r =
        let m = mul-le-mul_left k (let e : suc (suc a) ≤ b = omega arith in e) in
        insert_behind (k * suc a) (k * b) (multiplied k parts) (multiple_positive k a h) (omega arith)
        ∙ ap (λ x. (k * b) ∷ x) r
        ∙ ap (multiplied k) (sym (insert_part_below a b parts l))
    by (inr l) r =
        insert_front (k * suc a) (k * b) (multiplied k parts) (multiple_positive k a h) (mul-le-mul_left k l)
        ∙ ap (multiplied k) (sym (insert_part_above a b parts l))

pub sorted_parts-multiplied : (k : ℕ) (α : List ℕ) → 0 < k → sorted_parts (multiplied k α) ≡ multiplied k (sorted_parts α)
sorted_parts-multiplied k [] h = refl
sorted_parts-multiplied k (a ∷ α) h = ap (insert_part (k * a)) (sorted_parts-multiplied k α h) ∙ insert-multiplied k a (sorted_parts α) h

-- each entry of the list is a multiple of k
abbrev AreMultiples : ℕ → List ℕ → Type 0
AreMultiples k [] = Unit {0}
AreMultiples k (a ∷ α) = (k * (a / k) ≡ a) × AreMultiples k α

AreMultiples-multiplied : (k : ℕ) (α : List ℕ) → 0 < k → AreMultiples k (multiplied k α)
AreMultiples-multiplied k [] h = tt
AreMultiples-multiplied k (a ∷ α) h = (ap (λ x. k * x) (mul-div_cancel_left a h), AreMultiples-multiplied k α h)

multiplied-divided : (k : ℕ) (α : List ℕ) → AreMultiples k α → multiplied k (divided k α) ≡ α
multiplied-divided k [] m = refl
multiplied-divided k (a ∷ α) m = ap₂ ◌∷◌ m.0 (multiplied-divided k α m.1)

inserted_multiples : (k a : ℕ) (parts : List ℕ) → 0 < k → AreMultiples k (insert_part a parts) → (k * (a / k) ≡ a) × AreMultiples k parts
inserted_multiples k zero parts h m = (ap (λ x. k * x) (ap (λ x. x / k) (let e : 0 ≡ k * 0 = omega arith in e) ∙ mul-div_cancel_left 0 h) ∙ (let e : k * 0 ≡ 0 = omega arith in e), m)
inserted_multiples k (suc a) [] h m = m
inserted_multiples k (suc a) (b ∷ parts) h m = search (rules, cases_lt, insert_part_below, insert_part_above, (inserted_multiples k (suc a) parts h))

sorted_multiples : (k : ℕ) (α : List ℕ) → 0 < k → AreMultiples k (sorted_parts α) → AreMultiples k α
sorted_multiples k [] h m = tt
sorted_multiples k (a ∷ α) h m =
    let r = inserted_multiples k a (sorted_parts α) h m in
    (r.0, sorted_multiples k α h r.1)

-- ---- m_λ and lists of terms in the monomial basis m, with each variable replaced by its k-th power

pub dilated-monomial : (k : ℕ) (parts : List ℕ) (n : ℕ) → 0 < k → Same (dilated k (monomial parts n)) (monomial (multiplied k parts) n)
dilated-monomial k parts n h β =
    coefficient_pair (dilated k (monomial parts n)) β
    ∙ pair-dilated k (monomial parts n) (at_only β)
    ∙ by (same_or_not (multiplied k (divided k β)) β)
    ∙ sym (coefficient-monomial (multiplied k parts) n β)
  where
    there : (γ : List ℕ) → pair (monomial parts n) (λ α. at_only (multiplied k γ) (multiplied k α))
        ≡ cond (eqb (length (multiplied k γ)) n) (cond (same (sorted_parts (multiplied k γ)) (multiplied k parts)) (pos 1) (pos 0)) (pos 0)
    there γ =
        pair_ext (monomial parts n) (λ α. at_only (multiplied k γ) (multiplied k α)) (at_only γ)
        (λ α. ap (λ b. cond b (pos 1) (pos 0)) (agree α γ))
        ∙ sym (coefficient_pair (monomial parts n) γ)
        ∙ coefficient-monomial parts n γ
        ∙ ap₂ (λ (d : ℕ) (b : Bool). cond (eqb d n) (cond b (pos 1) (pos 0)) (pos 0)) (sym (length-multiplied k γ))
        (sym (ap (λ l. same l (multiplied k parts)) (sorted_parts-multiplied k γ h) ∙ agree (sorted_parts γ) parts))
      where
        agree : (α γ : List ℕ) → same (multiplied k α) (multiplied k γ) ≡ same α γ
        agree α γ =
            tests_agree (same (multiplied k α) (multiplied k γ)) (same α γ)
            (λ t. same_from α γ (multiplied_cancel k α γ h (same_true (multiplied k α) (multiplied k γ) t)))
            (λ t. same_from (multiplied k α) (multiplied k γ) (ap (multiplied k) (same_true α γ t)))

    nothing_there : (x : Bool) → cond x (cond false (pos 1) (pos 0)) (pos 0) ≡ pos 0
    nothing_there true = refl
    nothing_there false = refl

    by : (multiplied k (divided k β) ≡ β) ⊎ (multiplied k (divided k β) ≡ β → ⊥)
        → pair (monomial parts n) (λ α. at_only β (multiplied k α))
        ≡ cond (eqb (length β) n) (cond (same (sorted_parts β) (multiplied k parts)) (pos 1) (pos 0)) (pos 0)
    by (inl e) =
        subst
        (λ δ. pair (monomial parts n) (λ α. at_only δ (multiplied k α)) ≡ cond (eqb (length δ) n) (cond (same (sorted_parts δ) (multiplied k parts)) (pos 1) (pos 0)) (pos 0))
        e (there (divided k β))
    by (inr d) =
        pair_ext (monomial parts n) (λ α. at_only β (multiplied k α)) (λ α. pos 0)
        (λ α. ap (λ b. cond b (pos 1) (pos 0)) (same_apart (multiplied k α) β (λ e. d (ap (λ x. multiplied k (divided k x)) (sym e) ∙ ap (multiplied k) (divided-multiplied k α h) ∙ e))))
        ∙ pair_zero (monomial parts n)
        ∙ sym
        (ap (λ b. cond (eqb (length β) n) (cond b (pos 1) (pos 0)) (pos 0))
        (same_apart (sorted_parts β) (multiplied k parts)
        (λ e. d (multiplied-divided k β (sorted_multiples k β h (subst (AreMultiples k) (sym e) (AreMultiples-multiplied k parts h))))))
        ∙ nothing_there (eqb (length β) n))

-- for k > 0 and a list of terms c·m_λ: if each part of each label is multiplied by k, then each variable of the polynomial of the list is replaced by
-- its k-th power
pub dilated-list : (k : ℕ) (terms : WholeTerms) (n : ℕ) → 0 < k → Same (dilated k (in_monomials terms n)) (in_monomials (dilated k terms) n)
dilated-list k terms n h =
    same_from_pair (dilated k (in_monomials terms n)) (in_monomials (dilated k terms) n)
    (λ φ.
    pair-dilated k (in_monomials terms n) φ
    ∙ pair-combined (λ label. monomial label n) terms (λ α. φ (multiplied k α))
    ∙ pair_ext terms (λ label. pair (monomial label n) (λ α. φ (multiplied k α))) (λ label. pair (monomial (multiplied k label) n) φ)
    (λ label. sym (pair-dilated k (monomial label n) φ) ∙ pair_determined (dilated k (monomial label n)) (monomial (multiplied k label) n) φ (dilated-monomial k label n h))
    ∙ sym (pair-dilated k terms (λ label. pair (monomial label n) φ))
    ∙ sym (pair-combined (λ label. monomial label n) (dilated k terms) φ))

-- for k > 0 and a list W of terms c·m_λ: if each part of each label of W is multiplied by k, then the new coefficient of the label k·λ is the
-- coefficient of λ in W
pub coefficient-dilated : (k : ℕ) (W : WholeTerms) (label : List ℕ) → 0 < k → coefficient (dilated k W) (multiplied k label) ≡ coefficient W label
coefficient-dilated k W label h =
    coefficient_pair (dilated k W) (multiplied k label)
    ∙ pair-dilated k W (at_only (multiplied k label))
    ∙ pair_ext W (λ α. at_only (multiplied k label) (multiplied k α)) (at_only label)
    (λ α. ap (λ b. cond b (pos 1) (pos 0))
    (tests_agree (same (multiplied k α) (multiplied k label)) (same α label)
    (λ t. same_from α label (multiplied_cancel k α label h (same_true (multiplied k α) (multiplied k label) t)))
    (λ t. same_from (multiplied k α) (multiplied k label) (ap (multiplied k) (same_true α label t)))))
    ∙ sym (coefficient_pair W label)
