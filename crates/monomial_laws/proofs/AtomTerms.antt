-- e_k, h_k and p_k as lists of terms c·m_λ of the monomial basis (`elementary_terms`, `complete_terms`, `power_sum_terms_of`).
use Rattle.std.proofs.Common.{◌≡◌, ◌⊎◌, ℕ, zero, suc, ◌+◌, ◌<◌, ◌≤◌, Bool, true, cond, eqb, leb, List, [], ◌∷◌, length, replicate, sym, ◌∙◌, ap, ap₂, refl, inl, inr, arith, ℤ, pos, rules}
use Rattle.std.proofs.lemmas.Bool.{cases_eq, cases_lt, eq-eqb, ne_eqb, eqb-true, le-leb, leb-true, and_parts, and_from, and_right}
use Rattle.std.proofs.lemmas.List.{length-replicate}
use Rattle.sym_model.specs.Sum.{total}
use Rattle.sym_model.specs.Polynomial.{Term, same, Same}
use Rattle.sym_model.specs.Partition.{Falls, size, insert_part, sorted_parts}
use Rattle.sym_model.specs.Bases.{monomials, at_most_one, has, elementary_of, complete_of, power_sum_of}
use Rattle.sym_model.specs.PartitionList.{partitions_of}
use Rattle.sym_model.specs.Schur.{times_in}
use Rattle.monomial_laws.specs.ExpressionTerms.{in_monomials, IsList, elementary_terms, complete_terms, power_sum_terms_of}
use Rattle.sym_model.proofs.Sums.{total_map, total_only, total_none}
use Rattle.sym_model.proofs.Exponents.{tests_agree, same_true, same_from, same_apart}
use Rattle.sym_model.proofs.Polynomials.{same_in}
use Rattle.sym_model.proofs.SortedParts.{insert_part-front, rows-insert_part, size-sorted_parts, IsPartition-sorted_parts, times_in-sorted_parts, has_from-times_in, has_past}
use Rattle.sym_model.proofs.PartitionLists.{partitions_of-tells, Among-partitions_of, Once-FallsLexicographically, FallsLexicographically-partitions_within}
use Rattle.sym_model.proofs.Monomials.{is_exponent_list, coefficient-monomials, In-monomials, has_above_size}
use Rattle.sym_model.proofs.Parts.{size-ones}
use Rattle.monomial_laws.proofs.PowerSumCoefficients.{coefficient-monomial_terms}
use Rattle.monomial_laws.proofs.Splits.{In-monomial_terms}
use Rattle.monomial_laws.proofs.ExpressionTerms.{list-monomial}

monomials_agree : (test other : List ℕ → Bool) (n d : ℕ) → ((γ : List ℕ) → size γ ≡ d → test γ ≡ other γ) → Same (monomials test n d) (monomials other n d)
monomials_agree test other n d h γ = search (rules, coefficient-monomials, is_exponent_list, eqb-true, and_parts)

list-one : (parts : List ℕ) (d : ℕ) (test : List ℕ → Bool) → size parts ≡ d → ((γ : List ℕ) → size γ ≡ d → same (sorted_parts γ) parts ≡ test γ) → IsList ((parts, pos 1) ∷ []) (λ n. monomials test n d)
list-one parts d test s h n = search (rules, list-monomial, monomials_agree)

-- ---- e_k is m_λ for the partition λ of k ones

pub Falls-ones : (k : ℕ) → Falls (replicate k 1)
Falls-ones zero = tt
Falls-ones (suc zero) = tt
Falls-ones (suc (suc k)) = (omega arith, Falls-ones (suc k))

sorted-at_most_one : (γ : List ℕ) → at_most_one γ ≡ true → sorted_parts γ ≡ replicate (size γ) 1
sorted-at_most_one [] h = refl
sorted-at_most_one (zero ∷ γ) h = sorted-at_most_one γ (and_parts (leb 0 1) (at_most_one γ) h).1 ∙ ap (λ k. replicate k 1) (let e : size γ ≡ 0 + size γ = omega arith in e)
sorted-at_most_one (suc a ∷ γ) h =
    let p = and_parts (leb (suc a) 1) (at_most_one γ) h in
    let l = leb-true (suc a) 1 p.0 in
    let z : a ≡ 0 = omega arith in
    ap₂ insert_part (ap suc z) (sorted-at_most_one γ p.1)
    ∙ insert_part-front 1 (replicate (size γ) 1) (omega arith) (Falls-ones (suc (size γ)))
    ∙ ap (λ k. replicate k 1) (let e : suc (size γ) ≡ suc a + size γ = omega arith in e)

rows-few : (γ : List ℕ) → length (sorted_parts γ) ≤ size γ
rows-few [] = omega arith
rows-few (zero ∷ γ) = omega (arith, rows-few γ)
rows-few (suc a ∷ γ) = omega (arith, rows-few γ, rows-insert_part (suc a) (sorted_parts γ))

at_most_one-from : (γ : List ℕ) → size γ ≤ length (sorted_parts γ) → at_most_one γ ≡ true
at_most_one-from [] h = refl
at_most_one-from (zero ∷ γ) h = and_from (leb 0 1) (at_most_one γ) refl (at_most_one-from γ (omega arith))
at_most_one-from (suc a ∷ γ) h =
    let r = rows-insert_part (suc a) (sorted_parts γ) in
    let f = rows-few γ in
    and_from (leb (suc a) 1) (at_most_one γ) (le-leb (suc a) 1 (omega arith)) (at_most_one-from γ (omega arith))

pub list-elementary : (k : ℕ) → IsList (elementary_terms k) (elementary_of k)
list-elementary k = search (rules, list-one, size-ones, tests_agree, at_most_one-from, same_true, length-replicate, same_from, sorted-at_most_one)

-- ---- p_k is m_λ for the partition λ = (k)

sorted-none : (γ : List ℕ) → size γ ≡ 0 → sorted_parts γ ≡ []
sorted-none [] e = refl
sorted-none (zero ∷ γ) e = sorted-none γ (omega arith)
sorted-none (suc a ∷ γ) e = absurd (omega arith)

has-within_size : (k : ℕ) (γ : List ℕ) → has k γ ≡ true → k ≤ size γ
has-within_size k γ h = search (rules, cases_lt, has_above_size)

sorted-has : (k : ℕ) (γ : List ℕ) → 0 < k → size γ ≡ k → has k γ ≡ true → sorted_parts γ ≡ k ∷ []
sorted-has k [] h e m = absurd (cc)
sorted-has k (a ∷ γ) h e m = by (cases_eq a k) (λ z t. sorted-has k γ h z t)
  where
    by : (a ≡ k) ⊎ (a ≡ k → ⊥) → (size γ ≡ k → has k γ ≡ true → sorted_parts γ ≡ k ∷ []) → insert_part a (sorted_parts γ) ≡ k ∷ []
    by (inl i) r =
        ap₂ insert_part i (sorted-none γ (omega arith))
        ∙ insert_part-front k [] h tt
    by (inr n) r =
        let t : has k γ ≡ true = sym (has_past k a γ n) ∙ m in
        let l = has-within_size k γ t in
        let z : a ≡ 0 = omega arith in
        ap (λ b. insert_part b (sorted_parts γ)) z ∙ r (omega arith) t

pub list-power_sum : (k : ℕ) → 0 < k → IsList (power_sum_terms_of k) (power_sum_of k)
list-power_sum k h =
    list-one (k ∷ []) k (has k) (omega arith)
    (λ γ e.
    tests_agree (same (sorted_parts γ) (k ∷ [])) (has k γ)
    (λ t. has_from-times_in k γ (positive γ (same_true (sorted_parts γ) (k ∷ []) t)))
    (λ t. same_from (sorted_parts γ) (k ∷ []) (sorted-has k γ h e t)))
  where
    once : times_in k (k ∷ []) ≡ suc zero
    once = rw (eq-eqb k k refl) refl

    positive : (γ : List ℕ) → sorted_parts γ ≡ k ∷ [] → 0 < times_in k γ
    positive γ e = omega (arith, times_in-sorted_parts k γ h, ap (times_in k) e, once)

pub list-complete : (k : ℕ) → IsList (complete_terms k) (complete_of k)
list-complete k n =
    same_in n (in_monomials (complete_terms k) n) (complete_of k n) (In-monomial_terms (complete_terms k) n) (In-monomials (λ α. true) n k)
    (λ γ long.
    coefficient-monomial_terms (complete_terms k) n γ long
    ∙ total_map (λ (t : Term). cond (same t.0 (sorted_parts γ)) t.1 (pos 0)) (λ (parts : List ℕ). (parts, pos 1)) (partitions_of k)
    ∙ by γ long (cases_eq (size γ) k)
    ∙ sym (coefficient-monomials (λ α. true) n k γ))
  where
    counted : List ℕ → List ℕ → ℤ
    counted γ parts = cond (same parts (sorted_parts γ)) (pos 1) (pos 0)

    by : (γ : List ℕ) → length γ ≡ n → (size γ ≡ k) ⊎ (size γ ≡ k → ⊥) → total (counted γ) (partitions_of k) ≡ cond (is_exponent_list n k γ) (pos 1) (pos 0)
    by γ long (inl e) =
        total_only (counted γ) (sorted_parts γ) (partitions_of k) (Once-FallsLexicographically (partitions_of k) (FallsLexicographically-partitions_within k k k))
        (Among-partitions_of k (sorted_parts γ) (IsPartition-sorted_parts γ) (size-sorted_parts γ ∙ e))
        (λ parts m n. ap (λ b. cond b (pos 1) (pos 0)) (same_apart parts (sorted_parts γ) n))
        ∙ ap (λ b. cond b (pos 1) (pos 0)) (same_from (sorted_parts γ) (sorted_parts γ) refl)
        ∙ sym (ap (λ b. cond b (pos 1) (pos 0)) (and_from (eqb (length γ) n) (eqb (size γ) k) (eq-eqb (length γ) n long) (eq-eqb (size γ) k e)))
    by γ long (inr z) =
        total_none (counted γ) (partitions_of k)
        (λ parts m.
        ap (λ b. cond b (pos 1) (pos 0)) (same_apart parts (sorted_parts γ) (λ i. z (sym (size-sorted_parts γ) ∙ ap size (sym i) ∙ (partitions_of-tells k parts m).1))))
        ∙ sym (ap (λ b. cond b (pos 1) (pos 0)) (and_right (eqb (length γ) n) (eqb (size γ) k) (ne_eqb (size γ) k z)))
