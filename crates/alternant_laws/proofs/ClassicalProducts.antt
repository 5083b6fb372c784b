-- The coefficient of the classical product of partitions (`classical_product k factors`) at a partition with at most k rows is the Schur coefficient,
-- at that partition, of the product of their Schur polynomials in k variables.
use Rattle.std.proofs.Common.{◌≡◌, ℕ, ◌+◌, ◌≤◌, Bool, true, false, cond, ltb, leb, eqb, List, [], ◌∷◌, map, ℤ, pos, negsuc, nat_abs, ◌+ℤ◌, refl, sym, ap, ◌∙◌, subst, arith, filter}
use Rattle.std.proofs.lemmas.Bool.{cond-true, cond-false, ltb-false, leb-true, le-leb, eq-eqb, eqb-true}
use Rattle.sym_model.specs.Sum.{total, Among, Once}
use Rattle.sym_model.specs.Polynomial.{Poly, same, join, coefficient, times}
use Rattle.sym_model.specs.Partition.{IsPartition, size, rows}
use Rattle.sym_model.specs.PartitionList.{partitions_of}
use Rattle.sym_model.specs.Alternant.{alternant, staircase, schur_coefficient}
use Rattle.sym_model.specs.WholeTerms.{WholeTerms}
use Rattle.sym_model.specs.Products.{schur_product, nonzero, classical_product}
use Rattle.sym_model.proofs.Sums.{total_none, total_only, total_map, Among-select, Among_from_select, Among_from_map, Once-select, Once-map}
use Rattle.sym_model.proofs.Exponents.{same_refl, same_apart, size-join}
use Rattle.sym_model.proofs.PartitionLists.{partitions_of-tells, Among-partitions_of, FallsLexicographically-partitions_within, Once-FallsLexicographically}
use Rattle.alternant_laws.proofs.Degrees.{coefficient-other_degree, times-of_degree, alternant-of_degree, schur_product-of_degree}
use lib.IntN.{+ℤ_idl}
use Rattle.independence_laws.proofs.Degrees.{OfDegree}

coefficient-nonzero : (terms : WholeTerms) (α : List ℕ) → coefficient (nonzero terms) α ≡ coefficient terms α
coefficient-nonzero [] α = refl
coefficient-nonzero (t ∷ terms) α = by (ltb 0 (nat_abs t.1)) refl (coefficient-nonzero terms α)
  where
    none : (b : Bool) (c : ℤ) → nat_abs c ≤ 0 → pos 0 ≡ cond b c (pos 0)
    none true (pos c) h = ap pos (omega arith)
    none true (negsuc c) h = absurd (omega arith)
    none false c h = refl

    by : (b : Bool) → ltb 0 (nat_abs t.1) ≡ b → coefficient (nonzero terms) α ≡ coefficient terms α
        → coefficient (cond b (t ∷ nonzero terms) (nonzero terms)) α ≡ coefficient (t ∷ terms) α
    by true e rest = ap (λ z. cond (same t.0 α) t.1 (pos 0) +ℤ z) rest
    by false e rest =
        rest
        ∙ sym (+ℤ_idl (coefficient terms α))
        ∙ ap (λ z. z +ℤ coefficient terms α) (none (same t.0 α) t.1 (ltb-false 0 (nat_abs t.1) e))

-- the partitions with at most k rows whose size is the sum of the sizes of the factors
abbrev candidates : ℕ → List (List ℕ) → List (List ℕ)
candidates k factors = filter (λ parts. leb (rows parts) k) (partitions_of (size (map size factors)))

candidates-once : (k : ℕ) (factors : List (List ℕ)) → Once (candidates k factors)
candidates-once k factors =
    let d = size (map size factors) in
    Once-select (λ parts. leb (rows parts) k) (partitions_of d) (Once-FallsLexicographically _ (FallsLexicographically-partitions_within d d d))

schur_coefficient-other : (k d : ℕ) (parts : List ℕ) (f : Poly) → OfDegree d f → (size parts ≡ d → ⊥) → schur_coefficient k parts f ≡ pos 0
schur_coefficient-other k d parts f h other =
    coefficient-other_degree (size (staircase k) + d) (times (alternant (staircase k)) f) (join parts (staircase k))
    (times-of_degree (size (staircase k)) d (alternant (staircase k)) f (alternant-of_degree (staircase k)) h)
    (λ e. other (let s = size-join parts (staircase k) in omega arith))

-- at a partition with at most k rows, the coefficient of the classical product is the Schur coefficient of the product of the Schur polynomials of
-- the factors in k variables
pub classical_product-coefficient : (k : ℕ) (factors : List (List ℕ)) (parts : List ℕ) → IsPartition parts → rows parts ≤ k → coefficient (classical_product k factors) parts ≡ schur_coefficient k parts (schur_product factors k)
classical_product-coefficient k factors parts p few =
    coefficient-nonzero (map (λ (shape : List ℕ). (shape, c shape)) (candidates k factors)) parts
    ∙ (total_map (λ (t : List ℕ × ℤ). cond (same t.0 parts) t.1 (pos 0)) (λ (shape : List ℕ). (shape, c shape)) (candidates k factors)
    ∙ by (eqb (size parts) d) refl)
  where
    d : ℕ
    d = size (map size factors)

    c : List ℕ → ℤ
    c shape = schur_coefficient k shape (schur_product factors k)

    by : (b : Bool) → eqb (size parts) d ≡ b → total (λ (shape : List ℕ). cond (same shape parts) (c shape) (pos 0)) (candidates k factors) ≡ c parts
    by true e =
        let listed = Among-select (λ shape. leb (rows shape) k) parts (partitions_of d) (Among-partitions_of d parts p (eqb-true (size parts) d e)) (le-leb (rows parts) k few) in
        total_only (λ (shape : List ℕ). cond (same shape parts) (c shape) (pos 0)) parts (candidates k factors) (candidates-once k factors) listed
        (λ shape m differ. cond-false (same shape parts) (c shape) (pos 0) (same_apart shape parts differ))
        ∙ cond-true (same parts parts) (c parts) (pos 0) (same_refl parts)
    by false e =
        let other : size parts ≡ d → ⊥ = λ is. let same_size = eq-eqb (size parts) d is in cc in
        let differs : (shape : List ℕ) → Among shape (candidates k factors) → shape ≡ parts → ⊥ = λ shape m is. other (ap size (sym is) ∙ (partitions_of-tells d shape (Among_from_select (λ x. leb (rows x) k) shape (partitions_of d) m).0).1) in
        total_none (λ (shape : List ℕ). cond (same shape parts) (c shape) (pos 0)) (candidates k factors)
        (λ shape m. cond-false (same shape parts) (c shape) (pos 0) (same_apart shape parts (differs shape m)))
        ∙ sym (schur_coefficient-other k d parts (schur_product factors k) (schur_product-of_degree factors k) other)

-- the label `t.0` of the term t is a partition with at most k rows, and its coefficient `t.1` is not 0
pub record IsClassicalTerm (k : ℕ) (t : List ℕ × ℤ) : Type 0 where
  pub partition : IsPartition t.0
  pub few : rows t.0 ≤ k
  pub counts : t.1 ≡ pos 0 → ⊥

-- the term with the label `shape` whose coefficient is the Schur coefficient of `shape` in the product of the Schur polynomials of the factors in k
-- variables
abbrev term_of : ℕ → List (List ℕ) → List ℕ → List ℕ × ℤ
term_of k factors shape = (shape, schur_coefficient k shape (schur_product factors k))

member : (k : ℕ) (factors : List (List ℕ)) (t : List ℕ × ℤ) → Among t (classical_product k factors)
    → (shape : List ℕ) × Among shape (candidates k factors) × (t ≡ term_of k factors shape)
member k factors t m =
    Among_from_map (term_of k factors) t (candidates k factors)
    (Among_from_select (λ (u : List ℕ × ℤ). ltb 0 (nat_abs u.1)) t (map (term_of k factors) (candidates k factors)) m).0

pub classical_product-term : (k : ℕ) (factors : List (List ℕ)) (t : List ℕ × ℤ) → Among t (classical_product k factors) → IsClassicalTerm k t
classical_product-term k factors t m =
    let s = member k factors t m in
    let d = size (map size factors) in
    let candidate = Among_from_select (λ (x : List ℕ). leb (rows x) k) s.0 (partitions_of d) s.1 in
    let label : t.0 ≡ s.0 = ap (λ (u : List ℕ × ℤ). u.0) s.2 in
    let positive = (Among_from_select (λ (u : List ℕ × ℤ). ltb 0 (nat_abs u.1)) t (map (term_of k factors) (candidates k factors)) m).1 in
    record {
      partition = subst IsPartition (sym label) (partitions_of-tells d s.0 candidate.0).0;
      few = subst (λ x. rows x ≤ k) (sym label) (leb-true (rows s.0) k candidate.1);
      counts = λ zero. let none : ltb 0 (nat_abs t.1) ≡ false = ap (λ c. ltb 0 (nat_abs c)) zero in cc;
    }

pub classical_product-once : (k : ℕ) (factors : List (List ℕ)) → Once (map (λ (t : List ℕ × ℤ). t.0) (classical_product k factors))
classical_product-once k factors =
    Once-map (λ (t : List ℕ × ℤ). t.0) (classical_product k factors) apart
    (Once-select (λ (t : List ℕ × ℤ). ltb 0 (nat_abs t.1)) (map (term_of k factors) (candidates k factors))
    (Once-map (term_of k factors) (candidates k factors) (λ x y m n e. ap (λ (u : List ℕ × ℤ). u.0) e) (candidates-once k factors)))
  where
    apart : (t u : List ℕ × ℤ) → Among t (classical_product k factors) → Among u (classical_product k factors) → t.0 ≡ u.0 → t ≡ u
    apart t u m n e =
        let v = member k factors t m in
        let w = member k factors u n in
        let same_label : v.0 ≡ w.0 = sym (ap (λ (x : List ℕ × ℤ). x.0) v.2) ∙ (e ∙ ap (λ (x : List ℕ × ℤ). x.0) w.2) in
        v.2 ∙ (ap (term_of k factors) same_label ∙ sym w.2)
