-- The product of two Schur polynomials of partitions with at most k rows is not 0 in k variables, so its expansion has a label: if all variables are
-- 1, each Schur polynomial has as its value the number of its tableaux, which is positive.
use Rattle.std.proofs.Common.{◌≡◌, ℕ, suc, ◌≤◌, inl, inr, cond, List, [], ◌∷◌, length, map, refl, sym, ◌∙◌, ap, subst, arith, ℤ, pos, ◌*ℤ◌}
use Rattle.std.proofs.lemmas.Int.{ints}
use Rattle.std.proofs.Math.Nat.{mul-suc}
use Rattle.sym_model.specs.Sum.{Among}
use Rattle.sym_model.specs.Polynomial.{Poly, Term, Same, nothing, join, times, pair}
use Rattle.sym_model.specs.Partition.{IsPartition, rows, ArePartitions}
use Rattle.sym_model.specs.Schur.{schur, tableaux, content, letters_of}
use Rattle.sym_model.specs.Alternant.{alternant, staircase, schur_coefficient}
use Rattle.sym_model.specs.WholeTerms.{WholeTerms}
use Rattle.sym_model.specs.Products.{classical_product}
use Rattle.sym_model.proofs.Ring.{product-one}
use Rattle.sym_model.proofs.Exponents.{same_refl}
use Rattle.sym_model.proofs.Polynomials.{at_only, coefficient_pair, pair_factor, pair_times, pair_zero, pair_determined, same_from_pair, In_times}
use Rattle.alternant_laws.proofs.Staircase.{staircase_cancels}
use Rattle.alternant_laws.proofs.GoodAlternants.{In-skew_schur}
use Rattle.alternant_laws.proofs.CountedTerms.{schur_coefficient_of_schur}
use Rattle.product_laws.proofs.ManyFactors.{classical_pairing}
use Rattle.alternant_laws.proofs.FailingColumns.{at_sum}

-- ---- the values of Schur polynomials if all variables are 1

abbrev term_of : ℕ → List (List ℕ) → Term
term_of k filling = (content k (letters_of filling), pos 1)

value_of_fillings : (k : ℕ) (fillings : List (List (List ℕ))) → pair (map (term_of k) fillings) (λ α. pos 1) ≡ pos (length fillings)
value_of_fillings k [] = refl
value_of_fillings k (filling ∷ fillings) = let r = value_of_fillings k fillings in omega (arith, ints)

times_nothing : (f : Poly) (φ : List ℕ → ℤ) → pair (times f nothing) φ ≡ pos 0
times_nothing f φ = pair_times f nothing φ ∙ pair_zero f

not_nothing : (k : ℕ) (parts : List ℕ) → IsPartition parts → rows parts ≤ k → schur parts k ≡ [] → ⊥
not_nothing k parts p h e =
    let one : schur_coefficient k parts (schur parts k) ≡ pos 1 = schur_coefficient_of_schur k parts parts p p h ∙ ap (λ b. cond b (pos 1) (pos 0)) (same_refl parts) in
    let none : schur_coefficient k parts (schur parts k) ≡ pos 0 =
    ap (λ f. schur_coefficient k parts f) e
    ∙ coefficient_pair (times (alternant (staircase k)) nothing) (join parts (staircase k))
    ∙ times_nothing (alternant (staircase k)) (at_only (join parts (staircase k))) in
    absurd (omega (arith, ints))

value_at_ones : (k : ℕ) (parts : List ℕ) → IsPartition parts → rows parts ≤ k → (m : ℕ) × (pair (schur parts k) (λ α. pos 1) ≡ pos (suc m))
value_at_ones k parts p h = by (tableaux k parts []) refl
  where
    by : (fillings : List (List (List ℕ))) → tableaux k parts [] ≡ fillings → (m : ℕ) × (pair (schur parts k) (λ α. pos 1) ≡ pos (suc m))
    by [] e = absurd (not_nothing k parts p h (ap (λ l. map (term_of k) l) e))
    by (filling ∷ fillings) e = (length fillings, ap (λ l. pair (map (term_of k) l) (λ α. pos 1)) e ∙ value_of_fillings k (filling ∷ fillings))

not_zero : (a b : ℕ) → pos (suc a) *ℤ pos (suc b) ≡ pos 0 → ⊥
not_zero a b h = let e = mul-suc (suc a) b in omega (arith, ints)

product_at_ones : (k : ℕ) (left right : List ℕ) → IsPartition left → IsPartition right → rows left ≤ k → rows right ≤ k
    → pair (times (schur left k) (schur right k)) (λ α. pos 1) ≡ pos 0 → ⊥
product_at_ones k left right p q h l none =
    let a = value_at_ones k left p h in
    let b = value_at_ones k right q l in
    let value : pair (times (schur left k) (schur right k)) (λ α. pos 1) ≡ pos (suc b.0) *ℤ pos (suc a.0) =
    pair_times (schur left k) (schur right k) (λ α. pos 1)
    ∙ ap (λ z. pair (schur left k) (λ α. z)) (b.1 ∙ sym (product-one (pos (suc b.0))))
    ∙ pair_factor (pos (suc b.0)) (schur left k) (λ α. pos 1)
    ∙ ap (λ z. pos (suc b.0) *ℤ z) a.1 in
    not_zero b.0 a.0 (sym value ∙ none)

pub are_two : (left right : List ℕ) → IsPartition left → IsPartition right → ArePartitions (left ∷ right ∷ [])
are_two left right p q parts (inl e) = subst IsPartition (sym e) p
are_two left right p q parts (inr (inl e)) = subst IsPartition (sym e) q
are_two left right p q parts (inr (inr m)) = absurd m

pub some_label : (k : ℕ) (left right : List ℕ) → IsPartition left → IsPartition right → rows left ≤ k → rows right ≤ k
    → (t : Term) × Among t (classical_product k (left ∷ right ∷ []))
some_label k left right p q h l = by (classical_product k (left ∷ right ∷ [])) refl
  where
    f : Poly
    f = times (schur left k) (schur right k)

    empty : classical_product k (left ∷ right ∷ []) ≡ [] → Same f nothing
    empty e =
        staircase_cancels k f nothing (In_times k (schur left k) (schur right k) (In-skew_schur k left []) (In-skew_schur k right [])) (λ t m. absurd m)
        (same_from_pair (times (alternant (staircase k)) f) (times (alternant (staircase k)) nothing) (λ φ.
        sym (classical_pairing k (left ∷ right ∷ []) φ (are_two left right p q))
        ∙ ap (λ (terms : WholeTerms). pair terms (at_sum k φ)) e
        ∙ sym (times_nothing (alternant (staircase k)) φ)))

    by : (terms : WholeTerms) → classical_product k (left ∷ right ∷ []) ≡ terms → (t : Term) × Among t (classical_product k (left ∷ right ∷ []))
    by [] e = absurd (product_at_ones k left right p q h l (pair_determined f nothing (λ α. pos 1) (empty e)))
    by (t ∷ terms) e = (t, subst (Among t) (sym e) (inl refl))
