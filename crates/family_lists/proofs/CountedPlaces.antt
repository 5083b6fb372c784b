-- The product of the factorials of the multiplicities of the parts of a partition, computed from the last part to the first.
--     counted-end, counted-next, counted-all     the invariant of this loop over the parts (`Counted`)
--     multiplicities-low, centralizer-low        bounds for the products
use Rattle.std.proofs.Common.{◌≡◌, ◌⊎◌, ℕ, zero, suc, ◌+◌, ◌*◌, ◌<◌, ◌≤◌, ◌^◌, List, [], ◌∷◌, length, get_or, drop, refl, sym, ap, ap₂, ◌∙◌, subst, inl, inr, arith, lit<, drop-cons}
use Rattle.std.proofs.Math.ListN.{drop_of_length-le, get_or-eq_default}
use Rattle.std.proofs.lemmas.List.{get_or-drop}
use Rattle.std.proofs.lemmas.Bool.{cases_eq}
use Rattle.sym_model.specs.Partition.{IsPartition, Falls, size}
use Rattle.sym_model.specs.Schur.{times_in}
use Rattle.sym_model.specs.Weight.{factorial}
use Rattle.sym_model.proofs.Numbers.{times-more}
use Rattle.sym_model.proofs.Contents.{times_in-here, times_in-other, times_in-most}
use Rattle.sym_model.proofs.SortedParts.{rows_within_size}
use Rattle.monomial_laws.proofs.Growths.{factorial-mono, factorial-positive}
use Rattle.basis_change_laws.specs.AugmentedMonomial.{multiplicity_factorials}
use Rattle.basis_change_laws.proofs.AugmentedMonomials.{multiplicity_factorials-cons}
use Rattle.family_list_laws.specs.OnePartLists.{orders_of_parts, cycle_type_count, centralizer, product_of_parts}
use Rattle.family_list_laws.proofs.PartQuotients.{multiplicities-positive, centralizer-positive, orders-whole, cycles-whole}
use Rattle.family_lists.proofs.MergedLists.{positive-drop, falls-drop}
use Rattle.std.proofs.Math.Nat.{mul_comm, mul_assoc}
use Rattle.sym_model.proofs.Parts.{size-drop}

factor-low : (n m whole most : ℕ) → n * m ≡ whole → 0 < whole → whole ≤ most → m ≤ most
factor-low zero m whole most e h l = absurd (let z : 0 * m ≡ 0 = omega arith in omega arith)
factor-low (suc n) m whole most e h l =
    let s : suc n * m ≡ m + n * m = omega arith in omega arith

pub multiplicities-low : (label : List ℕ) → IsPartition label → size label ≤ 20
    → multiplicity_factorials label ≤ factorial 20
multiplicities-low label p low =
    let r = rows_within_size label p.positive in
    factor-low (orders_of_parts label) (multiplicity_factorials label) (factorial (length label))
    (factorial 20) (orders-whole label p) (factorial-positive (length label))
    (factorial-mono (length label) 20 (omega arith))

pub centralizer-low : (label : List ℕ) → IsPartition label → size label ≤ 20
    → centralizer label ≤ factorial 20
centralizer-low label p low =
    factor-low (cycle_type_count label) (centralizer label) (factorial (size label)) (factorial 20)
    (cycles-whole label p) (factorial-positive (size label)) (factorial-mono (size label) 20 low)

pub product-low : (label : List ℕ) → IsPartition label → size label ≤ 20
    → product_of_parts label ≤ factorial 20
product-low label p low =
    let c = centralizer-low label p low in
    let m = times-more (product_of_parts label) (multiplicity_factorials label)
    (multiplicities-positive label) in
    omega arith

pub rest-partition : (i : ℕ) (parts : List ℕ) → IsPartition parts → IsPartition (drop i parts)
rest-partition i parts p =
    record { falls = falls-drop i parts p.falls; positive = positive-drop i parts p.positive }

pub rest-low : (i : ℕ) (parts : List ℕ) → IsPartition parts → size parts ≤ 20
    → multiplicity_factorials (drop i parts) ≤ factorial 20
rest-low i parts p low =
    multiplicities-low (drop i parts)
    (rest-partition i parts p) (let s = size-drop i parts in omega arith)

-- ---- the invariant `Counted` of the loop over the parts

none_above : (a : ℕ) (parts : List ℕ) → Falls parts → get_or parts 0 0 < a → times_in a parts ≡ 0
none_above a [] f h = refl
none_above a (b ∷ []) f h = times_in-other a b [] (λ e. omega arith)
none_above a (b ∷ c ∷ parts) f h =
    times_in-other a b (c ∷ parts) (λ e. omega arith)
    ∙ none_above a (c ∷ parts) f.1 (let g = f.0 in omega arith)

-- for the parts from index `at` on: `product` is the product of the factorials of their multiplicities, `next` is the first of them, and `times` is
-- the multiplicity of `next` among them
pub record Counted (parts : List ℕ) (product next times at : ℕ) : Type 0 where
  pub product_is : product ≡ multiplicity_factorials (drop at parts)
  pub next_is : next ≡ get_or parts at 0
  pub times_is : times ≡ times_in next (drop at parts)

pub counted-end : (parts : List ℕ) (at : ℕ) → at ≡ length parts → Counted parts 1 0 0 at
counted-end parts at e =
    let none = drop_of_length-le parts {i = at} (omega arith) in
    record {
      product_is = sym (ap multiplicity_factorials none);
      next_is = sym (get_or-eq_default parts 0 {n = at} (omega arith));
      times_is = sym (ap (times_in 0) none);
    }

module _ (parts : List ℕ) (product next times i at now : ℕ) (p : IsPartition parts)
    (e : at ≡ suc i) (h : i < length parts) (inv : Counted parts product next times at)
    (same : get_or parts i 0 ≡ next → now ≡ times + 1)
    (other : (get_or parts i 0 ≡ next → ⊥) → now ≡ 1) where
  split : drop i parts ≡ get_or parts i 0 ∷ drop at parts
  split = drop-cons parts i 0 h ∙ ap (λ k. get_or parts i 0 ∷ drop k parts) (sym e)

  first : next ≡ get_or (drop at parts) 0 0
  first = inv.next_is
      ∙ sym (get_or-drop at parts 0 0 ∙ ap (λ k. get_or parts k 0) (let z : at + 0 ≡ at = omega arith in z))

  pub now-is : now ≡ times_in (get_or parts i 0) (drop i parts)
  now-is = by (cases_eq (get_or parts i 0) next)
    where
      by : (get_or parts i 0 ≡ next) ⊎ (get_or parts i 0 ≡ next → ⊥)
          → now ≡ times_in (get_or parts i 0) (drop i parts)
      by (inl s) =
          same s
          ∙ (let t = inv.times_is in
          let u : times + 1 ≡ suc (times_in next (drop at parts)) = omega arith in u)
          ∙ ap (λ k. suc (times_in k (drop at parts))) (sym s)
          ∙ sym (ap (times_in (get_or parts i 0)) split
          ∙ times_in-here (get_or parts i 0) (get_or parts i 0) (drop at parts) refl)
      by (inr n) =
          other n
          ∙ sym (ap (times_in (get_or parts i 0)) split
          ∙ times_in-here (get_or parts i 0) (get_or parts i 0) (drop at parts) refl
          ∙ ap suc (none_above (get_or parts i 0) (drop at parts) (falls-drop at parts p.falls)
          (above (drop at parts) (subst Falls split (falls-drop i parts p.falls)) first)))
        where
          above : (rest : List ℕ) → Falls (get_or parts i 0 ∷ rest) → next ≡ get_or rest 0 0
              → get_or rest 0 0 < get_or parts i 0
          above [] f s = omega (arith, n, s)
          above (b ∷ rest) f s = let g = f.0 in omega (arith, n, s)

  pub counted-product : product * now ≡ multiplicity_factorials (drop i parts)
  counted-product =
      ap₂ ◌*◌ inv.product_is now-is
      ∙ mul_comm (multiplicity_factorials (drop at parts)) (times_in (get_or parts i 0) (drop i parts))
      ∙ ap (λ l. times_in (get_or parts i 0) l * multiplicity_factorials (drop at parts)) split
      ∙ sym (ap multiplicity_factorials split
      ∙ multiplicity_factorials-cons (get_or parts i 0) (drop at parts))

  pub counted-next : Counted parts (product * now) (get_or parts i 0) now i
  counted-next = record { product_is = counted-product; next_is = refl; times_is = now-is }

  pub counted-fits : size parts ≤ 20 → product * now < 2 ^ 128
  counted-fits low =
      let r = rest-low i parts p low in
      let e = counted-product in
      let top : factorial 20 < 2 ^ 128 = lit< tt in
      omega arith

pub counted-few : (parts : List ℕ) (product next times at : ℕ) → IsPartition parts → size parts ≤ 20
    → Counted parts product next times at → times < 2 ^ 64
counted-few parts product next times at p low inv =
    let t = times_in-most next (drop at parts) in
    let e = inv.times_is in
    let l = length_drop at parts in
    let r = rows_within_size parts p.positive in
    let top : 20 < 2 ^ 64 = lit< tt in
    omega arith
  where
    length_drop : (i : ℕ) (xs : List ℕ) → length (drop i xs) ≤ length xs
    length_drop zero xs = omega arith
    length_drop (suc i) [] = omega arith
    length_drop (suc i) (x ∷ xs) = let h = length_drop i xs in omega arith

pub counted-all : (parts : List ℕ) (product next times at : ℕ) → at ≡ 0
    → Counted parts product next times at → product ≡ multiplicity_factorials parts
counted-all parts product next times at e inv =
    inv.product_is ∙ ap (λ k. multiplicity_factorials (drop k parts)) e

pub product-next : (product whole : ℕ) (parts : List ℕ) (at : ℕ) → at < length parts
    → product * product_of_parts (drop at parts) ≡ whole
    → (product * get_or parts at 0) * product_of_parts (drop (suc at) parts) ≡ whole
product-next product whole parts at h e =
    mul_assoc product (get_or parts at 0) (product_of_parts (drop (suc at) parts))
    ∙ ap (λ l. product * product_of_parts l) (sym (drop-cons parts at 0 h)) ∙ e

-- for a partition of at most 20 cells, the product of the parts at the indices 0 to `at` is below 2^128
pub product-fits : (product : ℕ) (parts : List ℕ) (at : ℕ) → IsPartition parts → size parts ≤ 20
    → at < length parts → product * product_of_parts (drop at parts) ≡ product_of_parts parts
    → product * get_or parts at 0 < 2 ^ 128
product-fits product parts at p low h e =
    let r = rest-partition (suc at) parts p in
    let c = centralizer-positive (drop (suc at) parts) r in
    let m = product-low parts p low in
    let n = product-next product (product_of_parts parts) parts at h e in
    let t = times-more (product * get_or parts at 0) (product_of_parts (drop (suc at) parts))
    (factor-some (product_of_parts (drop (suc at) parts))
    (multiplicity_factorials (drop (suc at) parts)) c) in
    let top : factorial 20 < 2 ^ 128 = lit< tt in
    omega arith
  where
    factor-some : (n m : ℕ) → 0 < n * m → 0 < n
    factor-some zero m h = absurd (let z : 0 * m ≡ 0 = omega arith in omega arith)
    factor-some (suc n) m h = omega arith

pub product-all : (product : ℕ) (parts : List ℕ) (at : ℕ) → length parts ≤ at
    → product * product_of_parts (drop at parts) ≡ product_of_parts parts
    → product ≡ product_of_parts parts
product-all product parts at h e =
    let none = ap product_of_parts (drop_of_length-le parts {i = at} h) in
    (let o : product ≡ product * 1 = omega arith in o) ∙ ap (λ n. product * n) (sym none) ∙ e
