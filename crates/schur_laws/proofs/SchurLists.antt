-- Lists of terms in the basis m of monomial symmetric polynomials whose coefficients are Kostka numbers, and bounds of Kostka numbers.
--     list-schur            if the coefficients of a list of terms in m are the Kostka numbers K(λ,κ) of λ, the list is s_λ
--     kostka-other_size     a Kostka number is 0 if the content does not have the size of the shape
--     kostka-not_negative, -within     a Kostka number is not negative, and is at most d^d for the size d of the shape, or 1 if d = 0
--     kostka-ones           each shape has at least one standard tableau
use Rattle.std.proofs.Common.{◌≡◌, ℕ, zero, suc, ◌+◌, ◌-◌, ◌*◌, ◌≤◌, eqb, min, List, [], ◌∷◌, ◌++◌, map, length, replicate, length-append, sym, ◌∙◌, ap, subst, refl, inl, inr, arith, ℤ, pos}
use Rattle.std.specs.Prelude.{◌≤ℤ◌, nat_abs}
use Rattle.std.proofs.lemmas.Bool.{eq-eqb, cond-true}
use Rattle.std.proofs.lemmas.Int.{ints}
use Rattle.std.proofs.lemmas.List.{length-replicate}
use Rattle.sym_model.specs.Sum.{total, Among}
use Rattle.sym_model.specs.Partition.{IsPartition, size, part, in_front, sorted_parts}
use Rattle.sym_model.specs.Polynomial.{coefficient, In}
use Rattle.sym_model.specs.Schur.{schur}
use Rattle.sym_model.specs.Expansion.{Basis}
use Rattle.sym_model.specs.Weight.{growth}
use Rattle.sym_model.specs.WholeTerms.{WholeTerms}
use Rattle.sym_model.proofs.Sums.{total_none, Among-each, Among-map, total_not_negative}
use Rattle.sym_model.proofs.Polynomials.{same_in, at_only-nonnegative}
use Rattle.sym_model.proofs.Restrictions.{coefficient_restrict_padded}
use Rattle.sym_model.proofs.SortedParts.{IsPartition-none, IsPartition-sorted_parts}
use Rattle.tableau_laws.proofs.FewerLetters.{restrict-skew_schur}
use Rattle.alternant_laws.proofs.TableauInvolution.{symmetric-skew_schur}
use Rattle.monomial_laws.specs.ExpressionTerms.{in_monomials, IsList}
use Rattle.monomial_laws.proofs.PowerSumCoefficients.{coefficient-monomial_terms}
use Rattle.monomial_laws.proofs.Splits.{In-monomial_terms}
use Rattle.monomial_laws.proofs.SchurMajorants.{In-schur}
use Rattle.monomial_laws.proofs.Majorants.{bounded-atom}
use Rattle.monomial_laws.proofs.WeightBounds.{coefficient_within_growth}
use Rattle.schur_laws.specs.Kostka.{below, strips_off, kostka}
use Rattle.schur_laws.proofs.Exchanged.{coefficient-sorted}
use Rattle.schur_laws.proofs.KostkaNumbers.{Among-below, partition_tail, strips_off-tell, coefficient-kostka}

coefficient-schur_sorted : (n : ℕ) (parts α : List ℕ) → IsPartition parts → length α ≡ n
    → coefficient (schur parts n) α ≡ coefficient (schur parts (length (sorted_parts α))) (sorted_parts α)
coefficient-schur_sorted n parts α p long =
    let s = coefficient-sorted (schur parts n) α (symmetric-skew_schur n parts [] p IsPartition-none) in
    let r = length (sorted_parts α) in
    let e : n ≡ length (sorted_parts α) + s.0 = omega (arith, length-append (sorted_parts α) (replicate s.0 0), length-replicate {A = ℕ} s.0 0) in
    s.1
    ∙ sym
    (coefficient_restrict_padded (length (sorted_parts α)) s.0 (schur parts n) (sorted_parts α) (subst (λ k. In k (schur parts n)) e (In-schur parts n))
    ∙ cond-true (eqb (length (sorted_parts α)) (length (sorted_parts α))) (coefficient (schur parts n) (sorted_parts α ++ replicate s.0 0)) (pos 0) (eq-eqb (length (sorted_parts α)) (length (sorted_parts α)) refl))
    ∙ restrict-skew_schur parts [] (length (sorted_parts α)) n (omega arith) IsPartition-none (sorted_parts α)

pub list-schur : (parts : List ℕ) (terms : WholeTerms) → IsPartition parts
    → ((κ : List ℕ) → IsPartition κ → coefficient terms κ ≡ kostka parts κ) → IsList terms (schur parts)
list-schur parts terms p h n =
    same_in n (in_monomials terms n) (schur parts n) (In-monomial_terms terms n) (In-schur parts n)
    (λ α long.
    coefficient-monomial_terms terms n α long
    ∙ h (sorted_parts α) (IsPartition-sorted_parts α)
    ∙ coefficient-kostka parts (sorted_parts α) p
    ∙ sym (coefficient-schur_sorted n parts α p long))

-- ---- Kostka numbers are 0 for contents of another size, are not negative, and are at most d^d (or 1 if d = 0) for the size d of the shape

pub kostka-other_size : (parts content : List ℕ) → IsPartition parts → (size content ≡ size parts → ⊥) → kostka parts content ≡ pos 0
kostka-other_size [] [] p h = absurd (h refl)
kostka-other_size (a ∷ parts) [] p h = refl
kostka-other_size parts (k ∷ content) p h =
    total_none (λ rest. kostka rest content) (strips_off k parts)
    (λ rest m. let l = strips_off-tell k parts rest p m in kostka-other_size rest content l.partition (λ e. h (let s = l.size_is in omega arith)))

total-at_least : {A : Type 0} (f : A → ℤ) (xs : List A) (x : A) → ((x : A) → pos 0 ≤ℤ f x) → Among x xs → f x ≤ℤ total f xs
total-at_least f [] x h m = absurd m
total-at_least f (y ∷ ys) x h (inl e) = let r = total_not_negative f ys h in let k : f x ≡ f y = ap f e in omega (arith, ints)
total-at_least f (y ∷ ys) x h (inr m) = let r = total-at_least f ys x h m in let k = h y in omega (arith, ints)

pub kostka-not_negative : (content parts : List ℕ) → pos 0 ≤ℤ kostka parts content
kostka-not_negative [] parts = at_only-nonnegative [] parts
kostka-not_negative (k ∷ content) parts = total_not_negative (λ rest. kostka rest content) (strips_off k parts) (λ rest. kostka-not_negative content rest)

pub kostka-within : (parts content : List ℕ) → IsPartition parts → nat_abs (kostka parts content) ≤ growth Basis.monomials (size parts)
kostka-within parts content p =
    subst (λ z. nat_abs z ≤ growth Basis.monomials (size parts)) (sym (coefficient-kostka parts content p))
    (let h = coefficient_within_growth 1 (size parts) (length content) (schur parts (length content)) (bounded-atom Basis.schurs parts (length content)) content refl in
    one_times (nat_abs (coefficient (schur parts (length content)) content)) (growth Basis.monomials (size parts)) h)
  where
    one_times : (a b : ℕ) → a ≤ 1 * b → a ≤ b
    one_times a b h = omega arith

-- if k is at most the number of columns of a partition, some horizontal strip of k cells can be removed from it
pub some_strip : (k : ℕ) (parts : List ℕ) → k ≤ part parts 1 → IsPartition parts → (rest : List ℕ) × Among rest (strips_off k parts)
some_strip zero [] h p = ([], inl refl)
some_strip (suc k) [] h p = absurd (omega arith)
some_strip k (a ∷ parts) h p =
    let t = partition_tail a parts p in
    let i : ℕ = min k (a - part parts 1) in
    let r = some_strip (k - min k (a - part parts 1)) parts (let g = t.1 in omega arith) t.0 in
    let f : ℕ → List (List ℕ) = λ i. map (λ rest. in_front (a - i) rest) (strips_off (k - i) parts) in (
      in_front (a - min k (a - part parts 1)) r.0,
      Among-each f (min k (a - part parts 1)) (in_front (a - min k (a - part parts 1)) r.0) (below (suc (min k (a - part parts 1)))) (Among-below (min k (a - part parts 1)))
          (Among-map (λ rest. in_front (a - min k (a - part parts 1)) rest) r.0 (strips_off (k - min k (a - part parts 1)) parts) r.1),
    )

pub kostka-ones : (d : ℕ) (parts : List ℕ) → IsPartition parts → size parts ≡ d → pos 1 ≤ℤ kostka parts (replicate d 1)
kostka-ones zero [] p e = omega (arith, ints)
kostka-ones zero (a ∷ parts) p e = absurd (let h = p.positive.0 in omega arith)
kostka-ones (suc d) parts p e =
    let s = some_strip 1 parts (columns parts p e) p in
    let l = strips_off-tell 1 parts s.0 p s.1 in
    at_least (kostka s.0 (replicate d 1)) (kostka parts (1 ∷ replicate d 1))
    (kostka-ones d s.0 l.partition (let q = l.size_is in omega arith))
    (total-at_least (λ rest. kostka rest (replicate d 1)) (strips_off 1 parts) s.0 (λ rest. kostka-not_negative (replicate d 1) rest) s.1)
  where
    columns : (parts : List ℕ) → IsPartition parts → size parts ≡ suc d → 1 ≤ part parts 1
    columns [] p e = absurd (omega arith)
    columns (a ∷ parts) p e = p.positive.0

    at_least : (x y : ℤ) → pos 1 ≤ℤ x → x ≤ℤ y → pos 1 ≤ℤ y
    at_least x y h k = omega (arith, ints)
