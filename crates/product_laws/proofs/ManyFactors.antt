-- The *classical product* of some partitions in k variables is the list of terms that expands the product of their Schur polynomials. Here it is
-- multiplied by one factor after another.
--     classical_pairing    the sum of c·a_(ν + ρ) over the terms c·s_ν of the classical product is a_ρ times the product of the Schur polynomials
--     classical_step       the classical product with one more factor is the sum, over the terms c·s_ν of the product without it, of c times
--                          the classical product of ν and this factor
use Rattle.std.proofs.Common.{◌≡◌, ℕ, List, [], ◌∷◌, ◌++◌, length, refl, sym, ◌∙◌, ap, subst, inl, inr, arith, ℤ, ◌*ℤ◌, rules}
use Rattle.sym_model.specs.Polynomial.{Poly, Term, In, Same, join, one, times, pair, no_exponents, scale}
use Rattle.sym_model.specs.Partition.{IsPartition, ArePartitions}
use Rattle.sym_model.specs.Schur.{schur}
use Rattle.sym_model.specs.Alternant.{alternant, staircase}
use Rattle.sym_model.specs.BetaList.{beta, from_beta}
use Rattle.sym_model.specs.Products.{schur_product, classical_product}
use Rattle.sym_model.proofs.Sums.{total_ext, total_among}
use Rattle.sym_model.proofs.Exponents.{length-join_same, join_assoc, join_comm, join_zeros}
use Rattle.sym_model.proofs.SortedParts.{IsPartition-none}
use Rattle.sym_model.proofs.Polynomials.{at_only, coefficient_pair, pair_ext, pair_in, pair_one, pair_times, pair_each, pair_scale, pair_determined, same_from_pair, Same_refl, Same_sym, times_respects, In_one, In_times}
use Rattle.sym_model.proofs.PolynomialLaws.{times_assoc, one-times, times-one}
use Rattle.sym_model.proofs.Parts.{length-staircase}
use Rattle.alternant_laws.proofs.TableauInvolution.{symmetric-skew_schur}
use Rattle.alternant_laws.proofs.Alternants.{In_alternant}
use Rattle.alternant_laws.proofs.AlternantProducts.{alternant_times, pair_alternants_over}
use Rattle.alternant_laws.proofs.GoodAlternants.{In-skew_schur}
use Rattle.alternant_laws.proofs.SchurProducts.{bialternant}
use Rattle.alternant_laws.proofs.ClassicalProducts.{classical_product-coefficient, classical_product-term}
use Rattle.beta_list_laws.proofs.BetaLists.{beta_strict, from_beta-beta, length-beta}
use Rattle.alternant_laws.proofs.SortedAlternants.{from_beta-join}
use Rattle.product_laws.specs.FactorSteps.{multiplied}
use Rattle.product_laws.proofs.Straightened.{IsShape, on_strict, pair-value, straightened_sum, pair-straightened, straightened-shape, coefficient-straightened, same_shapes}
use Rattle.alternant_laws.proofs.FailingColumns.{at_sum}

-- ---- the product of an alternant and a polynomial, as a sum of alternants

-- f is a polynomial in k variables, and for every β with k entries, a_β·f is the sum of c·a_(β + α) over the terms c·x^α of f
pub record SumsAlternants (k : ℕ) (f : Poly) : Type 0 where
  pub within : In k f
  pub sums : (β : List ℕ) (φ : List ℕ → ℤ) → length β ≡ k → pair (times (alternant β) f) φ ≡ pair f (λ α. pair (alternant (join β α)) φ)

pub sums-schur : (k : ℕ) (parts : List ℕ) → IsPartition parts → SumsAlternants k (schur parts k)
sums-schur k parts p = record {
  within = In-skew_schur k parts [];
  sums = λ β φ e.
      pair_determined (times (alternant β) (schur parts k)) _ φ (alternant_times k β (schur parts k) e (In-skew_schur k parts []) (symmetric-skew_schur k parts [] p IsPartition-none))
      ∙ pair_alternants_over k β (schur parts k) φ e (In-skew_schur k parts []);
}

sums-one : (k : ℕ) → SumsAlternants k (one k)
sums-one k = record {
  within = In_one k;
  sums = λ β φ e.
      pair_determined (times (alternant β) (one k)) (alternant β) φ (times-one k (alternant β) (In_alternant k β e))
      ∙ ap (λ l. pair (alternant l) φ) (sym (join_comm β (no_exponents k) ∙ join_zeros k β (omega arith)))
      ∙ sym (pair_one k (λ α. pair (alternant (join β α)) φ));
}

sums-times : (k : ℕ) (f g : Poly) → SumsAlternants k f → SumsAlternants k g → SumsAlternants k (times f g)
sums-times k f g p q = record {
  within = In_times k f g p.within q.within;
  sums = λ β φ e.
      pair_determined (times (alternant β) (times f g)) (times (times (alternant β) f) g) φ (Same_sym _ _ (times_assoc (alternant β) f g))
      ∙ pair_times (times (alternant β) f) g φ
      ∙ p.sums β (λ γ. pair g (λ δ. φ (join γ δ))) e
      ∙ pair_in k f (λ α. pair (alternant (join β α)) (λ γ. pair g (λ δ. φ (join γ δ)))) (λ α. pair g (λ δ. pair (alternant (join β (join α δ))) φ)) p.within
      (λ α l.
      sym (pair_times (alternant (join β α)) g φ)
      ∙ q.sums (join β α) φ (length-join_same k β α e l)
      ∙ pair_ext g (λ δ. pair (alternant (join (join β α) δ)) φ) (λ δ. pair (alternant (join β (join α δ))) φ) (λ δ. ap (λ l. pair (alternant l) φ) (join_assoc β α δ)))
      ∙ sym (pair_times f g (λ α. pair (alternant (join β α)) φ));
}

pub sums-product : (k : ℕ) (factors : List (List ℕ)) → ArePartitions factors → SumsAlternants k (schur_product factors k)
sums-product k [] p = sums-one k
sums-product k (parts ∷ []) p = sums-schur k parts (p parts (inl refl))
sums-product k (parts ∷ next ∷ factors) p =
    sums-times k (schur parts k) (schur_product (next ∷ factors) k) (sums-schur k parts (p parts (inl refl))) (sums-product k (next ∷ factors) (λ x m. p x (inr m)))

classical_straightened : (k : ℕ) (factors : List (List ℕ)) → ArePartitions factors → Same (classical_product k factors) (straightened_sum (staircase k) (schur_product factors k))
classical_straightened k factors p =
    same_shapes k (classical_product k factors) (straightened_sum (staircase k) f)
    (λ t m. let c = classical_product-term k factors t m in record { partition = c.partition; few = c.few })
    (λ t m. straightened-shape k (staircase k) f t (length-staircase k) s.within m)
    (λ label q.
    classical_product-coefficient k factors label q.partition q.few
    ∙ coefficient_pair (times (alternant (staircase k)) f) (join label (staircase k))
    ∙ s.sums (staircase k) (at_only (join label (staircase k))) (length-staircase k)
    ∙ sym (coefficient-straightened k (staircase k) label f (length-staircase k) s.within q))
  where
    f : Poly
    f = schur_product factors k

    s : SumsAlternants k f
    s = sums-product k factors p

pub classical_pairing : (k : ℕ) (factors : List (List ℕ)) (φ : List ℕ → ℤ) → ArePartitions factors
    → pair (classical_product k factors) (at_sum k φ) ≡ pair (times (alternant (staircase k)) (schur_product factors k)) φ
classical_pairing k factors φ p =
    let s = sums-product k factors p in
    pair_determined (classical_product k factors) (straightened_sum (staircase k) (schur_product factors k)) (at_sum k φ) (classical_straightened k factors p)
    ∙ pair-straightened k (staircase k) (schur_product factors k) φ (length-staircase k) s.within
    ∙ sym (s.sums (staircase k) φ (length-staircase k))

-- ---- the classical product with one more factor

pub product-last : (k : ℕ) (front : List (List ℕ)) (next : List ℕ) → Same (schur_product (front ++ (next ∷ [])) k) (times (schur_product front k) (schur next k))
product-last k [] next = Same_sym _ _ (one-times k (schur next k) (In-skew_schur k next []))
product-last k (parts ∷ []) next = Same_refl (times (schur parts k) (schur next k))
product-last k (parts ∷ second ∷ front) next = search (rules, times_respects, times_assoc, (product-last k (second ∷ front) next))

-- the sum of c·φ(γ + δ) over the terms c·x^δ of s_next in k variables
abbrev pub added : ℕ → List ℕ → (List ℕ → ℤ) → List ℕ → ℤ
added k next φ γ = pair (schur next k) (λ δ. φ (join γ δ))

moved_out : (k : ℕ) (f : Poly) (next : List ℕ) (φ : List ℕ → ℤ)
    → pair (times (alternant (staircase k)) (times f (schur next k))) φ ≡ pair (times (alternant (staircase k)) f) (added k next φ)
moved_out k f next φ =
    pair_determined (times (alternant (staircase k)) (times f (schur next k))) (times (times (alternant (staircase k)) f) (schur next k)) φ
    (Same_sym _ _ (times_assoc (alternant (staircase k)) f (schur next k)))
    ∙ pair_times (times (alternant (staircase k)) f) (schur next k) φ

pub are_more : (front : List (List ℕ)) (next : List ℕ) → ArePartitions front → IsPartition next → ArePartitions (front ++ (next ∷ []))
are_more [] next p q parts (inl e) = subst IsPartition (sym e) q
are_more [] next p q parts (inr m) = absurd m
are_more (x ∷ front) next p q parts (inl e) = p parts (inl e)
are_more (x ∷ front) next p q parts (inr m) = are_more front next (λ y n. p y (inr n)) q parts m

pub step_pairing : (k : ℕ) (front : List (List ℕ)) (next : List ℕ) (φ : List ℕ → ℤ) → ArePartitions front → IsPartition next
    → pair (classical_product k (front ++ (next ∷ []))) (at_sum k φ) ≡ pair (classical_product k front) (at_sum k (added k next φ))
step_pairing k front next φ p q =
    classical_pairing k (front ++ (next ∷ [])) φ (are_more front next p q)
    ∙ pair_determined (times (alternant (staircase k)) (schur_product (front ++ (next ∷ [])) k)) (times (alternant (staircase k)) (times (schur_product front k) (schur next k))) φ
    (times_respects (alternant (staircase k)) (alternant (staircase k)) _ _ (Same_refl (alternant (staircase k))) (product-last k front next))
    ∙ moved_out k (schur_product front k) next φ
    ∙ sym (classical_pairing k front (added k next φ) p)

pub two_pairing : (k : ℕ) (parts next : List ℕ) (φ : List ℕ → ℤ) → IsShape k parts → IsPartition next
    → pair (classical_product k (parts ∷ next ∷ [])) (at_sum k φ) ≡ at_sum k (added k next φ) parts
two_pairing k parts next φ p q =
    classical_pairing k (parts ∷ next ∷ []) φ are_two
    ∙ moved_out k (schur parts k) next φ
    ∙ pair_determined (times (alternant (staircase k)) (schur parts k)) (alternant (join parts (staircase k))) (added k next φ) (bialternant k parts p.partition p.few)
  where
    are_two : ArePartitions (parts ∷ next ∷ [])
    are_two x (inl e) = subst IsPartition (sym e) p.partition
    are_two x (inr (inl e)) = subst IsPartition (sym e) q
    are_two x (inr (inr m)) = absurd m

-- ---- λ + ρ, with k entries, is the beta list of λ

pub join-beta : (k : ℕ) (parts : List ℕ) → IsShape k parts → join parts (staircase k) ≡ beta k parts
join-beta k parts p =
    let b = from_beta-join (beta k parts) (beta_strict k parts p.partition.falls) in
    sym (ap (λ l. join l (staircase k)) (from_beta-beta k parts p.partition p.few))
    ∙ ap (λ m. join (from_beta (beta k parts)) (staircase m)) (sym (length-beta k parts))
    ∙ b

pub at_shape-value : (k : ℕ) (χ : List ℕ → ℤ) (parts : List ℕ) → IsShape k parts → at_sum k (on_strict χ) parts ≡ χ parts
at_shape-value k χ parts p = search (rules, on_strict, join-beta, pair-value, beta_strict, from_beta-beta)

pub pair_shapes : (k : ℕ) (factors : List (List ℕ)) (χ ψ : List ℕ → ℤ) → ((parts : List ℕ) → IsShape k parts → χ parts ≡ ψ parts)
    → pair (classical_product k factors) χ ≡ pair (classical_product k factors) ψ
pair_shapes k factors χ ψ e = search (rules, total_among, classical_product-term)

pub two_value : (k : ℕ) (parts next : List ℕ) (χ : List ℕ → ℤ) → IsShape k parts → IsPartition next
    → pair (classical_product k (parts ∷ next ∷ [])) χ ≡ at_sum k (added k next (on_strict χ)) parts
two_value k parts next χ p q =
    pair_shapes k (parts ∷ next ∷ []) χ (at_sum k (on_strict χ)) (λ x s. sym (at_shape-value k χ x s))
    ∙ two_pairing k parts next (on_strict χ) p q

pub step_value : (k : ℕ) (front : List (List ℕ)) (next : List ℕ) (χ : List ℕ → ℤ) → ArePartitions front → IsPartition next
    → pair (classical_product k (front ++ (next ∷ []))) χ ≡ pair (classical_product k front) (at_sum k (added k next (on_strict χ)))
step_value k front next χ p q =
    pair_shapes k (front ++ (next ∷ [])) χ (at_sum k (on_strict χ)) (λ x s. sym (at_shape-value k χ x s))
    ∙ step_pairing k front next (on_strict χ) p q

pub classical_step : (k : ℕ) (front : List (List ℕ)) (next : List ℕ) → ArePartitions front → IsPartition next
    → Same (classical_product k (front ++ (next ∷ []))) (multiplied k next (classical_product k front))
classical_step k front next p q =
    same_from_pair (classical_product k (front ++ (next ∷ []))) (multiplied k next (classical_product k front)) (λ χ.
    step_value k front next χ p q
    ∙ pair_shapes k front (at_sum k (added k next (on_strict χ))) (λ parts. pair (classical_product k (parts ∷ next ∷ [])) χ) (λ x s. sym (two_value k x next χ s q))
    ∙ total_ext (λ (t : Term). t.1 *ℤ pair (classical_product k (t.0 ∷ next ∷ [])) χ) (λ (t : Term). pair (scale t.1 (classical_product k (t.0 ∷ next ∷ []))) χ)
    (λ t. sym (pair_scale t.1 (classical_product k (t.0 ∷ next ∷ [])) χ)) (classical_product k front)
    ∙ sym (pair_each (λ (t : Term). scale t.1 (classical_product k (t.0 ∷ next ∷ []))) (classical_product k front) χ))
