-- Upper bounds for the number of strips and of rim hooks of k cells that can be added to a partition.
use Rattle.std.proofs.lemmas.Grind.{common_steps}
use Rattle.std.proofs.Common.{◌≡◌, ℕ, zero, suc, ◌+◌, ◌-◌, ◌*◌, ◌^◌, ◌≤◌, List, ◌∷◌, map, length, refl, ◌∙◌, ap, subst, arith, length-append, pow-suc, flat_map, rules}
use Rattle.std.proofs.lemmas.List.{length-map}
use Rattle.std.proofs.Math.Nat.{pow-zero, one-le-pow}
use Rattle.sym_model.specs.Sum.{Among, Within}
use Rattle.sym_model.specs.Partition.{IsPartition, Holds, rows, size, without_last_zeros}
use Rattle.sym_model.specs.Polynomial.{join, resize}
use Rattle.sym_model.specs.Bases.{down_from, exponent_lists}
use Rattle.sym_model.specs.Schur.{row_lengths}
use Rattle.sym_model.specs.BetaList.{beta}
use Rattle.sym_model.specs.Strip.{IsHorizontalStrip, IsVerticalStrip}
use Rattle.sym_model.specs.RimHookReduction.{IsRemoval}
use Rattle.sym_model.proofs.Sums.{length_within, Among-map}
use Rattle.sym_model.proofs.Exponents.{size-join, length-resize}
use Rattle.sym_model.proofs.SortedParts.{rows_within_size}
use Rattle.sym_model.proofs.Monomials.{one_place}
use Rattle.sym_model.proofs.Tableaux.{length-row_lengths}
use Rattle.alternant_laws.proofs.FallingAlternants.{without_last_zeros-resize}
use Rattle.product_laws.specs.StripLists.{ListsEach, AddsHorizontalStrip, AddsVerticalStrip, AddsRimHook}
use Rattle.product_laws.proofs.ExponentLists.{among_exponent_lists}
use Rattle.product_laws.proofs.StripShapes.{join_less, size-padded}
use Rattle.product_laws.proofs.RimHookSums.{raised_shape, found}
use Rattle.strip_laws.proofs.Containment.{Holds-get_or}

-- ---- there are at most n^d lists of n exponents with the sum d

next_power : (n p q s t : ℕ) → 1 ≤ p → s ≤ q → t ≤ p * (q * n) → s + t ≤ p * suc n * q
next_power n p q s t h l m = search rules

abbrev lists_of : ℕ → ℕ → ℕ → List (List ℕ)
lists_of n d c = map (λ (α : List ℕ). c ∷ α) (exponent_lists n (d - c))

firsts_within : (n : ℕ) → ((j : ℕ) → length (exponent_lists n j) ≤ n ^ j) → (d e whole : ℕ) → whole ≡ d + e
    → length (flat_map (lists_of n whole) (down_from d)) ≤ suc n ^ d * n ^ e
firsts_within n r zero e whole h = grind (arith, common_steps)
firsts_within n r (suc d) e whole h =
    search (rules, length-append, length-map, pow-suc, next_power, one-le-pow, (firsts_within n r d (suc e) whole (omega arith)))

pub lists_within : (n d : ℕ) → length (exponent_lists n d) ≤ n ^ d
lists_within zero zero = omega (arith, pow-zero 0)
lists_within zero (suc d) = search rules
lists_within (suc n) d =
    let a = firsts_within n (λ j. lists_within n j) d 0 d (omega arith) in
    let e : suc n ^ d * n ^ 0 ≡ suc n ^ d = ap (λ x. suc n ^ d * x) (pow-zero n) ∙ omega arith in
    omega (arith, a, e)

length_one_place : (k n : ℕ) → length (one_place k n) ≡ n
length_one_place k zero = refl
length_one_place k (suc n) = ap suc (length-map (one_place k n) (λ (α : List ℕ). 0 ∷ α) ∙ length_one_place k n)

pub shapes_within : (k : ℕ) (parts : List ℕ) (S : List ℕ → Type 0) (list : List (List ℕ)) → IsPartition parts → ((ν : List ℕ) → S ν → Holds ν parts)
    → ListsEach (λ ν. IsPartition ν × (size ν ≡ size parts + k) × S ν) list → length list ≤ (size parts + k) ^ k
shapes_within k parts S list p held l =
    let a = length_within (map to (exponent_lists n k)) list l.once within in
    let b = length-map (exponent_lists n k) to in
    let c = lists_within n k in
    omega (arith, a, b, c)
  where
    n : ℕ
    n = size parts + k

    m : List ℕ
    m = resize (size parts + k) parts

    to : List ℕ → List ℕ
    to α = without_last_zeros (join m α)

    from : List ℕ → List ℕ
    from ν = row_lengths (resize n ν) m

    few : rows parts ≤ size parts + k
    few = let h = rows_within_size parts p.positive in omega arith

    within : Within list (map to (exponent_lists n k))
    within ν i =
        let q = (l.members ν).0 i in
        let h : rows ν ≤ size parts + k = let r = rows_within_size ν q.0.positive in let s = q.1 in omega arith in
        let whole : join m (from ν) ≡ resize n ν = join_less n parts ν (Holds-get_or ν parts (held ν q.2)) in
        let again : to (from ν) ≡ ν = ap without_last_zeros whole ∙ without_last_zeros-resize n ν q.0.positive h in
        let a = size-join m (from ν) in
        let b = ap size whole in
        let c = size-padded n parts p.positive few in
        let d = size-padded n ν q.0.positive h in
        let e = q.1 in
        let sized : size (from ν) ≡ k = omega arith in
        subst (λ z. Among z (map to (exponent_lists n k))) again
        (Among-map to (from ν) (exponent_lists n k) (among_exponent_lists (from ν) n k (length-row_lengths (resize n ν) m ∙ length-resize n ν) sized))

pub hooks_within : (k : ℕ) (parts : List ℕ) (list : List (List ℕ)) → IsPartition parts → ListsEach (AddsRimHook k parts) list → length list ≤ size parts + k
hooks_within k parts list p l =
    let a = length_within (map (raised_shape (beta n parts)) (one_place k n)) list l.once within in
    let b = length-map (one_place k n) (raised_shape (beta n parts)) in
    let c = length_one_place k n in
    omega (arith, a, b, c)
  where
    n : ℕ
    n = size parts + k

    within : Within list (map (raised_shape (beta n parts)) (one_place k n))
    within ν i =
        let q = (l.members ν).0 i in
        let h : rows ν ≤ size parts + k = let r = rows_within_size ν q.0.positive in let s = q.1 in omega arith in
        let removal : IsRemoval k ν parts = record { partition = p; hook = q.2; cells = q.1 } in
        let f = found n k parts ν p q.0 h removal in
        subst (λ z. Among z (map (raised_shape (beta n parts)) (one_place k n))) f.3 (Among-map (raised_shape (beta n parts)) f.0 (one_place k n) f.1)

pub horizontal_count : (k : ℕ) (parts : List ℕ) (list : List (List ℕ)) → IsPartition parts → ListsEach (AddsHorizontalStrip k parts) list → length list ≤ (size parts + k) ^ k
horizontal_count k parts list p l = shapes_within k parts (λ ν. IsHorizontalStrip ν parts) list p (λ ν s. s.holds) l

pub vertical_count : (k : ℕ) (parts : List ℕ) (list : List (List ℕ)) → IsPartition parts → ListsEach (AddsVerticalStrip k parts) list → length list ≤ (size parts + k) ^ k
vertical_count k parts list p l = shapes_within k parts (λ ν. IsVerticalStrip ν parts) list p (λ ν s. s.holds) l
