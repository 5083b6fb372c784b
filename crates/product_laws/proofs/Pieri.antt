-- Pieri's rules, by alternants. The product a_(μ + ρ)·h_k is the sum of a_(μ + ρ + α) over all lists α of exponents with the sum k; the terms for
-- which μ + α is not μ with a horizontal strip added cancel. The product a_(μ + ρ)·e_k is the sum over those α whose exponents are at most 1; here
-- only the terms are left for which μ + α is μ with a vertical strip added.
use Rattle.std.proofs.Common.{◌≡◌, ℕ, ◌+◌, ◌≤◌, Bool, true, false, ◌&&◌, cond, nat_le, List, length, refl, sym, ◌∙◌, ap, ℤ, pos, ◌*ℤ◌, filter, flat_map}
use Rattle.std.proofs.lemmas.Bool.{leb-true}
use Rattle.sym_model.specs.Sum.{total}
use Rattle.sym_model.specs.Partition.{Falls, IsPartition, Holds, rows, size, without_last_zeros}
use Rattle.sym_model.specs.Polynomial.{Same, join, resize, pair, times}
use Rattle.sym_model.specs.Strip.{IsHorizontalStrip, IsVerticalStrip}
use Rattle.sym_model.specs.Bases.{exponent_lists, at_most_one, complete_of, elementary_of}
use Rattle.sym_model.specs.Schur.{schur}
use Rattle.sym_model.specs.Alternant.{alternant, staircase}
use Rattle.sym_model.specs.GoodTableau.{is_falling}
use Rattle.sym_model.proofs.Sums.{total_ext, total_among, total_select, Among_from_select}
use Rattle.sym_model.proofs.FirstPlaces.{Falls-resize}
use Rattle.sym_model.proofs.Exponents.{join_comm, join_assoc, length-resize}
use Rattle.sym_model.proofs.Polynomials.{pair_monomials}
use Rattle.sym_model.proofs.Monomials.{members_of-exponent_lists, In-monomials}
use Rattle.monomial_laws.proofs.SchurMajorants.{In-schur}
use Rattle.alternant_laws.proofs.FallingAlternants.{join_padded}
use Rattle.alternant_laws.proofs.SortedAlternants.{alternant-equal}
use Rattle.product_laws.specs.StripLists.{ListsEach, AddsHorizontalStrip, AddsVerticalStrip}
use Rattle.product_laws.proofs.StripShapes.{keeps_below, adds_column, shapes_total, horizontal_sound, horizontal_complete, vertical_sound, vertical_complete}
use Rattle.product_laws.proofs.StaircaseProducts.{strip_product}
use Rattle.product_laws.proofs.Overlaps.{alternants_turn, strips_remain, equal_found}
use Rattle.sym_model.proofs.Ring.{one-product}
use Rattle.schur_laws.proofs.SymmetricPolynomials.{symmetric-monomials, at_most_one-exchange}

-- ---- sums over lists α of exponents as sums over the partitions μ + α that are obtained by adding a strip

turned_sum : (n : ℕ) (m α : List ℕ) → join (join m (staircase n)) α ≡ join (join m α) (staircase n)
turned_sum n m α = join_assoc m (staircase n) α ∙ ap (join m) (join_comm (staircase n) α) ∙ sym (join_assoc m α (staircase n))

-- let μ be `parts`, and let `list` have exactly the partitions ν of |μ| + k cells with the property S (for example: ν/μ is a horizontal strip). If an
-- exponent list α passes the test if and only if μ + α is a partition with the property S, then the sum of a_(μ + ρ + α) over these α is the sum of
-- a_(ν + ρ) over the ν of `list` with at most n rows
pub strips_total : (n k : ℕ) (parts : List ℕ) → IsPartition parts → rows parts ≤ n → (test : List ℕ → Bool) (S : List ℕ → Type 0)
    → ((α : List ℕ) → length α ≡ n → test α ≡ true → Falls (join (resize n parts) α) × S (without_last_zeros (join (resize n parts) α)))
    → ((α : List ℕ) → length α ≡ n → Falls (join (resize n parts) α) → S (without_last_zeros (join (resize n parts) α)) → test α ≡ true)
    → ((ν : List ℕ) → S ν → Holds ν parts)
    → (list : List (List ℕ)) → ListsEach (λ ν. IsPartition ν × (size ν ≡ size parts + k) × S ν) list
    → (φ : List ℕ → ℤ)
    → total (λ (α : List ℕ). pair (alternant (join (join (resize n parts) (staircase n)) α)) φ) (filter test (exponent_lists n k))
    ≡ total (λ (ν : List ℕ). pos 1 *ℤ pair (alternant (join ν (staircase n))) φ) (filter (λ (ν : List ℕ). nat_le (rows ν) n) list)
strips_total n k parts p few test S sound complete held list l φ =
    total_ext (λ (α : List ℕ). pair (alternant (join (join (resize n parts) (staircase n)) α)) φ) (λ (α : List ℕ). pair (alternant (join (join (resize n parts) α) (staircase n))) φ)
    (λ α. ap (λ β. pair (alternant β) φ) (turned_sum n (resize n parts) α)) (filter test (exponent_lists n k))
    ∙ shapes_total n k parts p few test S sound complete held list l (λ γ. pair (alternant (join γ (staircase n))) φ)
    ∙ total_among (λ (ν : List ℕ). pair (alternant (join (resize n ν) (staircase n))) φ) (λ (ν : List ℕ). pos 1 *ℤ pair (alternant (join ν (staircase n))) φ) (filter (λ (ν : List ℕ). nat_le (rows ν) n) list)
    (λ ν i.
    ap (λ β. pair (alternant β) φ) (join_padded n ν (leb-true (rows ν) n (Among_from_select (λ (ν : List ℕ). nat_le (rows ν) n) ν list i).1))
    ∙ sym (one-product (pair (alternant (join ν (staircase n))) φ)))

pub horizontal : (n k : ℕ) (parts : List ℕ) (list : List (List ℕ)) → IsPartition parts
    → ListsEach (AddsHorizontalStrip k parts) list
    → Same (times (complete_of k n) (schur parts n)) (flat_map (λ ν. schur ν n) list)
horizontal n k parts list p l =
    strip_product n parts (complete_of k n) (λ ν. schur ν n) (λ ν. pos 1) list p (In-monomials (λ α. true) n k) (symmetric-monomials (λ α. true) n k (λ left a b right. refl))
    (λ ν. In-schur ν n) (λ ν φ. sym (one-product (pair (schur ν n) φ))) (λ ν i. let q = (l.members ν).0 i in (q.0, q.2.holds))
    (λ few φ.
    pair_monomials (filter (λ (α : List ℕ). true) (exponent_lists n k)) (λ α. pair (alternant (join (join parts (staircase n)) α)) φ)
    ∙ total_select (λ (α : List ℕ). pair (alternant (join (join parts (staircase n)) α)) φ) (λ (α : List ℕ). true) (exponent_lists n k)
    ∙ total_ext (λ (α : List ℕ). pair (alternant (join (join parts (staircase n)) α)) φ) (λ (α : List ℕ). pair (alternant (join (join (resize n parts) (staircase n)) α)) φ)
    (λ α. ap (λ β. pair (alternant (join β α)) φ) (sym (join_padded n parts few))) (exponent_lists n k)
    ∙ strips_remain n (resize n parts) (λ β. pair (alternant β) φ) (length-resize n parts) (Falls-resize n parts p.falls) (alternants_turn φ) k
    ∙ strips_total n k parts p few (keeps_below (resize n parts)) (λ ν. IsHorizontalStrip ν parts)
    (λ α e t. horizontal_sound n parts α few e t) (λ α e f s. horizontal_complete n parts α p.falls few e f s) (λ ν s. s.holds) list l φ)

pub vertical : (n k : ℕ) (parts : List ℕ) (list : List (List ℕ)) → IsPartition parts
    → ListsEach (AddsVerticalStrip k parts) list
    → Same (times (elementary_of k n) (schur parts n)) (flat_map (λ ν. schur ν n) list)
vertical n k parts list p l =
    strip_product n parts (elementary_of k n) (λ ν. schur ν n) (λ ν. pos 1) list p (In-monomials at_most_one n k) (symmetric-monomials at_most_one n k at_most_one-exchange)
    (λ ν. In-schur ν n) (λ ν φ. sym (one-product (pair (schur ν n) φ))) (λ ν i. let q = (l.members ν).0 i in (q.0, q.2.holds))
    (λ few φ.
    pair_monomials (filter at_most_one (exponent_lists n k)) (λ α. pair (alternant (join (join parts (staircase n)) α)) φ)
    ∙ total_ext (λ (α : List ℕ). pair (alternant (join (join parts (staircase n)) α)) φ) (λ (α : List ℕ). pair (alternant (join (join (resize n parts) (staircase n)) α)) φ)
    (λ α. ap (λ β. pair (alternant (join β α)) φ) (sym (join_padded n parts few))) (filter at_most_one (exponent_lists n k))
    ∙ columns_remain φ
    ∙ strips_total n k parts p few (adds_column (resize n parts)) (λ ν. IsVerticalStrip ν parts)
    (λ α e t. vertical_sound n parts α few e t) (λ α e f s. vertical_complete n parts α few e f s) (λ ν s. s.holds) list l φ)
  where
    m : List ℕ
    m = resize n parts

    columns_remain : (φ : List ℕ → ℤ) → total (λ (α : List ℕ). pair (alternant (join (join m (staircase n)) α)) φ) (filter at_most_one (exponent_lists n k))
        ≡ total (λ (α : List ℕ). pair (alternant (join (join m (staircase n)) α)) φ) (filter (adds_column m) (exponent_lists n k))
    columns_remain φ =
        total_select F at_most_one (exponent_lists n k)
        ∙ total_among (λ (α : List ℕ). cond (at_most_one α) (F α) (pos 0)) (λ (α : List ℕ). cond (adds_column m α) (F α) (pos 0)) (exponent_lists n k)
        (λ α i. by (at_most_one α) (is_falling (join m α)) (F α) (λ o e. alternant-equal (join (join m (staircase n)) α) φ
        (equal_found n m α (length-resize n parts) (members_of-exponent_lists α n k i).0 (Falls-resize n parts p.falls) o e)))
        ∙ sym (total_select F (adds_column m) (exponent_lists n k))
      where
        F : List ℕ → ℤ
        F α = pair (alternant (join (join m (staircase n)) α)) φ

        by : (o f : Bool) (z : ℤ) → (o ≡ true → f ≡ false → z ≡ pos 0) → cond o z (pos 0) ≡ cond (o && f) z (pos 0)
        by true true z h = refl
        by true false z h = h refl refl
        by false f z h = refl
