-- Monomial symmetric polynomials as sums of Schur polynomials. The arrangements α of λ in n places, whose entries are the parts of λ and zeros, are
-- straightened: to 0 if two entries of α + ρ are equal, and otherwise to the Schur polynomial s_μ, with a sign, such that μ + ρ is α + ρ sorted.
use Rattle.std.proofs.Common.{◌≡◌, ℕ, Bool, true, false, cond, eqb, List, [], ◌∷◌, ◌++◌, length, refl, sym, ◌∙◌, ap, ap₂, arith, ℤ, pos, ◌+ℤ◌, ◌*ℤ◌, flat_map}
use Rattle.std.specs.Prelude.{Some, None}
use Rattle.sym_model.specs.Sum.{total}
use Rattle.sym_model.specs.Partition.{IsPartition, size, insert_part, sorted_parts}
use Rattle.sym_model.specs.Polynomial.{Poly, Same, In, same, join, pair, times, scale}
use Rattle.sym_model.specs.Symmetric.{Symmetric}
use Rattle.sym_model.specs.Arrangement.{arrangements}
use Rattle.sym_model.specs.Bases.{monomial, exponent_lists}
use Rattle.sym_model.specs.Schur.{schur}
use Rattle.sym_model.specs.Alternant.{alternant, alternants_over, staircase}
use Rattle.sym_model.specs.Straightening.{shifted, straightened}
use Rattle.sym_model.specs.BetaList.{has_equal_entries, sorted_falling, sorting_sign, from_beta}
use Rattle.sym_model.specs.WholeTerms.{WholeTerms, combined}
use Rattle.sym_model.proofs.Sums.{total_ext, total_among, total_each, Among_from_select}
use Rattle.sym_model.proofs.SortedParts.{insert_part_comm}
use Rattle.sym_model.proofs.Exponents.{join_comm, length-join_same}
use Rattle.sym_model.proofs.Polynomials.{pair_ext, pair_zero, pair_factor, pair_total, pair_times, pair_monomials, pair_determined, same_from_pair, In_each, In_scale}
use Rattle.sym_model.proofs.Monomials.{coefficient-monomial, members_of-exponent_lists, In-monomials}
use Rattle.sym_model.proofs.WholeTerms.{pair_of_combined}
use Rattle.sym_model.proofs.Parts.{length-staircase}
use Rattle.monomial_laws.proofs.SchurMajorants.{In-schur}
use Rattle.beta_list_laws.proofs.NeighbourExchanges.{length-exchange, length-sorted}
use Rattle.beta_list_laws.proofs.SortedLists.{sorted_strict}
use Rattle.beta_list_laws.proofs.BetaLists.{from_beta_partition, rows-from_beta}
use Rattle.alternant_laws.proofs.AlternantProducts.{alternant_times, pair_alternants_over}
use Rattle.alternant_laws.proofs.Staircase.{staircase_cancels}
use Rattle.alternant_laws.proofs.SchurProducts.{bialternant}
use Rattle.alternant_laws.specs.StraightenedTerms.{straightened_term, straightened_terms}
use Rattle.alternant_laws.proofs.SortedAlternants.{alternant-equal, alternant-sorted, from_beta-join}
use Rattle.std.proofs.Math.IntN.{+ℤ_idr}

pub sorted-exchange : (left : List ℕ) (a b : ℕ) (right : List ℕ) → sorted_parts (left ++ (a ∷ b ∷ right)) ≡ sorted_parts (left ++ (b ∷ a ∷ right))
sorted-exchange [] a b right = insert_part_comm a b (sorted_parts right)
sorted-exchange (c ∷ left) a b right = ap (insert_part c) (sorted-exchange left a b right)

symmetric-monomial : (parts : List ℕ) (n : ℕ) → Symmetric (monomial parts n)
symmetric-monomial parts n left a b right =
    coefficient-monomial parts n (left ++ (a ∷ b ∷ right))
    ∙ ap₂ (λ k (l : List ℕ). cond (eqb k n) (cond (same l parts) (pos 1) (pos 0)) (pos 0)) (length-exchange left a b right) (sorted-exchange left a b right)
    ∙ sym (coefficient-monomial parts n (left ++ (b ∷ a ∷ right)))

pair-times_terms : {A : Type 0} (f : Poly) (g : List ℕ → Poly) (h : A → WholeTerms) (xs : List A) (φ : List ℕ → ℤ)
    → pair (times f (combined g (flat_map h xs))) φ ≡ total (λ (x : A). pair (times f (combined g (h x))) φ) xs
pair-times_terms {A} f g h xs φ =
    pair_times f (combined g (flat_map h xs)) φ
    ∙ pair_ext f (λ α. pair (combined g (flat_map h xs)) (λ β. φ (join α β))) (λ α. total (λ (x : A). pair (combined g (h x)) (λ β. φ (join α β))) xs)
    (λ α.
    pair_of_combined g (flat_map h xs) (λ β. φ (join α β))
    ∙ total_each (λ (t : List ℕ × ℤ). t.1 *ℤ pair (g t.0) (λ β. φ (join α β))) h xs
    ∙ total_ext (λ (x : A). total (λ (t : List ℕ × ℤ). t.1 *ℤ pair (g t.0) (λ β. φ (join α β))) (h x)) (λ (x : A). pair (combined g (h x)) (λ β. φ (join α β)))
    (λ x. sym (pair_of_combined g (h x) (λ β. φ (join α β)))) xs)
    ∙ pair_total f (λ (x : A) α. pair (combined g (h x)) (λ β. φ (join α β))) xs
    ∙ total_ext (λ (x : A). pair f (λ α. pair (combined g (h x)) (λ β. φ (join α β)))) (λ (x : A). pair (times f (combined g (h x))) φ) (λ x. sym (pair_times f (combined g (h x)) φ)) xs

pair-times_none : (f : Poly) (g : List ℕ → Poly) (φ : List ℕ → ℤ) → pair (times f (combined g [])) φ ≡ pos 0
pair-times_none f g φ = pair_times f (combined g []) φ ∙ pair_zero f

pair-times_single : (f : Poly) (g : List ℕ → Poly) (label : List ℕ) (c : ℤ) (φ : List ℕ → ℤ) → pair (times f (combined g ((label, c) ∷ []))) φ ≡ c *ℤ pair (times f (g label)) φ
pair-times_single f g label c φ =
    pair_times f (combined g ((label, c) ∷ [])) φ
    ∙ pair_ext f (λ α. pair (combined g ((label, c) ∷ [])) (λ β. φ (join α β))) (λ α. c *ℤ pair (g label) (λ β. φ (join α β)))
    (λ α. pair_of_combined g ((label, c) ∷ []) (λ β. φ (join α β)) ∙ +ℤ_idr (c *ℤ pair (g label) (λ β. φ (join α β))))
    ∙ pair_factor c f (λ α. pair (g label) (λ β. φ (join α β)))
    ∙ ap (λ z. c *ℤ z) (sym (pair_times f (g label) φ))

straight : (n : ℕ) (α : List ℕ) (φ : List ℕ → ℤ) → length α ≡ n
    → pair (alternant (join (staircase n) α)) φ ≡ pair (times (alternant (staircase n)) (combined (λ label. schur label n) (straightened_term (straightened α)))) φ
straight n α φ e = ap (λ l. pair (alternant l) φ) is ∙ by (has_equal_entries (shifted α)) refl
  where
    is : join (staircase n) α ≡ shifted α
    is = join_comm (staircase n) α ∙ ap (λ k. join α (staircase k)) (sym e)

    long : length (shifted α) ≡ n
    long = length-join_same n α (staircase (length α)) e (length-staircase (length α) ∙ e)

    by : (t : Bool) → has_equal_entries (shifted α) ≡ t
        → pair (alternant (shifted α)) φ ≡ pair (times (alternant (staircase n)) (combined (λ label. schur label n) (straightened_term (cond t None (Some (sorting_sign (shifted α), from_beta (sorted_falling (shifted α)))))))) φ
    by true h = alternant-equal (shifted α) φ h ∙ sym (pair-times_none (alternant (staircase n)) (λ label. schur label n) φ)
    by false h =
        let b = sorted_falling (shifted α) in
        let ν = from_beta (sorted_falling (shifted α)) in
        let strict = sorted_strict (shifted α) h in
        let l : length (sorted_falling (shifted α)) ≡ n = length-sorted (shifted α) ∙ long in
        let r = rows-from_beta (sorted_falling (shifted α)) in
        let joined : sorted_falling (shifted α) ≡ join (from_beta (sorted_falling (shifted α))) (staircase n) = sym (from_beta-join (sorted_falling (shifted α)) strict) ∙ ap (λ k. join (from_beta (sorted_falling (shifted α))) (staircase k)) l in
        alternant-sorted (shifted α) φ h
        ∙ ap (λ z. sorting_sign (shifted α) *ℤ z)
        (ap (λ m. pair (alternant m) φ) joined
        ∙ sym (pair_determined (times (alternant (staircase n)) (schur ν n)) (alternant (join ν (staircase n))) φ (bialternant n ν (from_beta_partition (sorted_falling (shifted α)) strict) (omega arith))))
        ∙ sym (pair-times_single (alternant (staircase n)) (λ label. schur label n) ν (sorting_sign (shifted α)) φ)

In-combined : (n : ℕ) (terms : WholeTerms) → In n (combined (λ label. schur label n) terms)
In-combined n terms = In_each n (λ (t : List ℕ × ℤ). scale t.1 (schur t.0 n)) terms (λ t m. In_scale n t.1 (schur t.0 n) (In-schur t.0 n))

pub straightens : (n : ℕ) (parts : List ℕ) → IsPartition parts → Same (monomial parts n) (combined (λ label. schur label n) (straightened_terms (arrangements parts n)))
straightens n parts p =
    staircase_cancels n (monomial parts n) (combined (λ label. schur label n) (straightened_terms (arrangements parts n))) inside (In-combined n (straightened_terms (arrangements parts n)))
    (same_from_pair (times (alternant (staircase n)) (monomial parts n)) (times (alternant (staircase n)) (combined (λ label. schur label n) (straightened_terms (arrangements parts n)))) (λ φ.
    pair_determined (times (alternant (staircase n)) (monomial parts n)) (alternants_over (staircase n) (monomial parts n)) φ
    (alternant_times n (staircase n) (monomial parts n) (length-staircase n) inside (symmetric-monomial parts n))
    ∙ pair_alternants_over n (staircase n) (monomial parts n) φ (length-staircase n) inside
    ∙ pair_monomials (arrangements parts n) (λ α. pair (alternant (join (staircase n) α)) φ)
    ∙ total_among (λ (α : List ℕ). pair (alternant (join (staircase n) α)) φ) (λ (α : List ℕ). pair (times (alternant (staircase n)) (combined (λ label. schur label n) (straightened_term (straightened α)))) φ) (arrangements parts n)
    (λ α m. straight n α φ (members_of-exponent_lists α n (size parts) (Among_from_select (λ α. same (sorted_parts α) parts) α (exponent_lists n (size parts)) m).0).0)
    ∙ sym (pair-times_terms (alternant (staircase n)) (λ label. schur label n) (λ (α : List ℕ). straightened_term (straightened α)) (arrangements parts n) φ)))
  where
    inside : In n (monomial parts n)
    inside = In-monomials (λ α. same (sorted_parts α) parts) n (size parts)
