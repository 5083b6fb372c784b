-- The loop over the special rim hooks of a shape of d cells. It computes d! times the Schur polynomial of the shape as a list of terms, from the
-- shape that remains without a hook and from the summand of a hook: its sign times h_k or e_k times the Schur polynomial of the remaining shape.
--     left-numbers, left-limits      the rows of the remaining shape
--     left-rest                      the remaining shape is a partition of the cells outside the hook
--     peeled-term, peeled-next, peeled-large      the summand of the hook
use Rattle.std.proofs.Common.{◌≡◌, ℕ, zero, suc, ◌+◌, ◌-◌, ◌*◌, ◌^◌, ◌<◌, ◌≤◌, List, [], ◌∷◌, ◌++◌, map, length, get_or, take, drop, refl, sym, ap, ◌∙◌, subst, arith, ℤ, pos, ◌*ℤ◌, Ok, Err, flat_map}
use Rattle.std.specs.Prelude.{nat_abs, ◌≢◌, Result, IfOk}
use Rattle.calc_base.specs.declared.faults.SumFault.{SumFault}
use Rattle.sym_model.specs.Conjugate.{conjugate}
use Rattle.sym_model.specs.Schur.{schur}
use Rattle.sym_model.proofs.Conjugates.{size-conjugate, under_columns}
use Rattle.expand_in_families.proofs.ConjugateStrips.{conjugate_twice}
use Rattle.std.proofs.lemmas.Int.{unsigned_abs-mul}
use Rattle.std.proofs.lemmas.Nat.{mul-le}
use Rattle.sym_model.specs.Partition.{Falls, IsPartition, ArePositive, columns, size, in_front, without_last_zeros}
use Rattle.sym_model.specs.PlaceOrders.{minus_one_to}
use Rattle.sym_model.specs.Polynomial.{Poly, Same, one, scale}
use Rattle.sym_model.specs.Weight.{factorial}
use Rattle.sym_model.specs.WholeTerms.{WholeTerms, absolute_total}
use Rattle.sym_model.proofs.Parts.{in_front-positive, get_or-without_last_zeros}
use Rattle.sym_model.proofs.Contents.{map-zeros}
use Rattle.sym_model.proofs.Polynomials.{Same_refl}
use Rattle.sym_model.proofs.SortedParts.{rows_within_size}
use Rattle.partitions.specs.Limits.{IsWithinLimits}
use Rattle.linear_combinations.specs.Gains.{Gains, Overflows}
use Rattle.linear_combinations.proofs.Found.{gains_same}
use Rattle.sparse_polys.specs.Tables.{equal, IsWholeTable}
use Rattle.basis_change_laws.specs.JoinedLists.{joined, Stands}
use Rattle.basis_change_laws.proofs.GrowthBounds.{grown}
use Rattle.basis_change_laws.proofs.JoinedLists.{stands-same}
use Rattle.family_lists.proofs.RowSteps.{large-products}
use Rattle.expand_in_families.specs.SpecialHooks.{SpecialHook, shortened, special_hooks}
use Rattle.expand_in_families.proofs.HookShapes.{IsRest}
use Rattle.sparse_polys.specs.declared.family.Family.{Family}
use Rattle.sparse_polys.specs.declared.family.Family.TheVariants.{Elementary, Complete, PowerSum}
use Rattle.sparse_polys.specs.Families.{polynomial_of}
use Rattle.sparse_polys.proofs.Families.{In-family}
use Rattle.family_lists.specs.FactorLists.{list_at, AreFactors}
use Rattle.expand_in_families.specs.SchurLists.{schur_in, IsSchurList}
use Rattle.expand_in_families.proofs.HookProducts.{hook_of, hook-at, hook-rest, hook_term, peeled, peeled-all, peeled-part, hook-product, hooks-next}
use Rattle.family_lists.proofs.PartLists.{parts-none}
use Rattle.family_lists.proofs.PlacedLists.{list_at-index}
use Rattle.family_lists.proofs.TableLists.{table-stands}
use Rattle.sym_model.proofs.Integers.{sign_size}
use native.Mathlib.Nat.{mul-le-mul_left, mul-le-mul_right}
use Rattle.std.proofs.Math.Nat.{mul_assoc}

-- ---- the shape that remains after a special rim hook is removed

front-kept : (parts : List ℕ) (i : ℕ) (ys : List ℕ) → ArePositive parts → without_last_zeros (take i parts ++ ys) ≡ take i parts ++ without_last_zeros ys
front-kept parts zero ys p = refl
front-kept [] (suc i) ys p = refl
front-kept (a ∷ parts) (suc i) ys p = ap (in_front a) (front-kept parts i ys p.1) ∙ in_front-positive a (take i parts ++ without_last_zeros ys) p.0

pub left-numbers : (parts : List ℕ) (i : ℕ) → IsPartition parts → without_last_zeros (take i parts ++ map (λ a. a - 1) (drop (i + 1) parts)) ≡ take i parts ++ shortened (drop (i + 1) parts)
left-numbers parts i p = front-kept parts i (map (λ a. a - 1) (drop (i + 1) parts)) p.positive

-- the special rim hook that ends in row i, counted from 0, and leaves the shape `rest`
abbrev pub left_by : List ℕ → ℕ → List ℕ → SpecialHook
left_by parts i rest = record { sign = minus_one_to (length parts - 1 - i); cells = get_or parts i 0 + (length parts - 1 - i); rest = rest }

pub left-rest : (parts : List ℕ) (i : ℕ) (rest : List ℕ) → IsPartition parts → i < length parts → rest ≡ take i parts ++ shortened (drop (i + 1) parts) → IsRest parts (left_by parts i rest)
left-rest parts i rest p h e = subst (λ (r : List ℕ). IsRest parts (left_by parts i r)) (sym e) (hook-rest parts i p h)

pub left-sized : (parts : List ℕ) (i : ℕ) (rest : List ℕ) → IsPartition parts → i < length parts → rest ≡ take i parts ++ shortened (drop (i + 1) parts)
    → get_or parts i 0 + (length parts - 1 - i) + size rest ≡ size parts
left-sized parts i rest p h e = let s = (left-rest parts i rest p h e).sized in omega arith

pub left-limits : (parts : List ℕ) (i : ℕ) (numbers : List ℕ) → IsPartition parts → i < length parts → size parts ≤ 20 → numbers ≡ take i parts ++ map (λ a. a - 1) (drop (i + 1) parts) → IsWithinLimits (without_last_zeros numbers)
left-limits parts i numbers p h low e =
    let is = ap without_last_zeros e ∙ left-numbers parts i p in
    let r = left-rest parts i (without_last_zeros numbers) p h is in
    let q = r.partition in
    let k = rows_within_size (without_last_zeros numbers) q.positive in
    let s = r.sized in
    record { partition = r.partition; few = omega arith; small = omega arith }

-- if the numbers of columns and of rows of `parts` add up to at most m, each special rim hook has fewer than m cells
pub cells-within : (parts : List ℕ) (i m : ℕ) → IsPartition parts → i < length parts → columns parts + length parts ≤ m
    → get_or parts i 0 + (length parts - 1 - i) < m
cells-within parts i m p h e = let b = under_columns parts p.falls i in omega arith

first : (parts : List ℕ) → columns parts ≡ get_or parts 0 0
first [] = refl
first (a ∷ parts) = refl

shorter-columns : (parts : List ℕ) → columns (shortened parts) ≤ columns parts
shorter-columns parts =
    let e = first (shortened parts) ∙ get_or-without_last_zeros (map (λ a. a - 1) parts) 0 in
    let l = lowered parts in
    omega arith
  where
    lowered : (parts : List ℕ) → get_or (map (λ a. a - 1) parts) 0 0 ≤ columns parts
    lowered [] = omega arith
    lowered (a ∷ parts) = omega arith

left-columns : (parts : List ℕ) (i : ℕ) → Falls parts → i < length parts
    → columns (take i parts ++ shortened (drop (i + 1) parts)) ≤ columns parts
left-columns [] i f h = absurd (omega arith)
left-columns (a ∷ parts) zero f h =
    let s = shorter-columns parts in
    let b = under_columns (a ∷ parts) f 1 in
    let e = first parts in
    omega arith
left-columns (a ∷ parts) (suc i) f h = omega arith

-- if the numbers of columns and of rows of `parts` add up to at most m, so do those of the shape that remains without a special rim hook
pub left-within : (parts : List ℕ) (i m : ℕ) (rest : List ℕ) → IsPartition parts → i < length parts
    → rest ≡ take i parts ++ shortened (drop (i + 1) parts) → columns parts + length parts ≤ m
    → columns rest + length rest ≤ m
left-within parts i m rest p h e w =
    let r = (left-rest parts i rest p h e).fewer in
    let c = left-columns parts i p.falls h in
    let s = ap columns e in
    omega arith

pub factor-at : (P : ℕ → ℕ → Poly) (family : Family) → family ≢ PowerSum → (lists : List WholeTerms) → AreFactors P family (length lists) lists → (k i : ℕ) (d W : WholeTerms) → 0 < k → k < length lists → i ≡ k → W ≡ get_or lists i d
    → Stands P (factorial k) (factorial k * 2 ^ k) k (λ n. polynomial_of family k n) W
factor-at P family f lists are k i d W some h e is =
    let at : list_at lists k ≡ W = ap (list_at lists) (sym e) ∙ list_at-index lists i d W (omega arith) is in
    subst (λ (ts : WholeTerms). Stands P (factorial k) (factorial k * 2 ^ k) k (λ n. polynomial_of family k n) ts) at (by family f are)
  where
    by : (family : Family) → family ≢ PowerSum → AreFactors P family (length lists) lists → Stands P (factorial k) (factorial k * 2 ^ k) k (λ n. polynomial_of family k n) (list_at lists k)
    by Elementary g a = a k some h
    by Complete g a = a k some h
    by PowerSum g a = absurd (g refl)

module _ (target family : Family) (newton : family ≢ PowerSum) (parts : List ℕ) (i c : ℕ) (z : ℤ) (rest : List ℕ) (W V : WholeTerms) (p : IsPartition parts) (lo : i < length parts)
    (e : rest ≡ take i parts ++ shortened (drop (i + 1) parts)) (many : c * (factorial (get_or parts i 0 + (length parts - 1 - i)) * factorial (size rest)) ≡ factorial (get_or parts i 0 + (length parts - 1 - i) + size rest))
    (signed : z ≡ pos c *ℤ minus_one_to (length parts - 1 - i))
    (w : Stands (polynomial_of target) (factorial (get_or parts i 0 + (length parts - 1 - i))) (factorial (get_or parts i 0 + (length parts - 1 - i)) * 2 ^ (get_or parts i 0 + (length parts - 1 - i))) (get_or parts i 0 + (length parts - 1 - i)) (λ n. polynomial_of family (get_or parts i 0 + (length parts - 1 - i)) n) W)
    (v : IsSchurList (polynomial_of target) family rest V) where
  sized : get_or parts i 0 + (length parts - 1 - i) + size rest ≡ size parts
  sized = left-sized parts i rest p lo e

  some : 1 ≤ get_or parts i 0 + (length parts - 1 - i)
  some = (left-rest parts i rest p lo e).some

  peeled-term : Stands (polynomial_of target) (factorial (size parts)) (peeled (size parts)) (size parts) (λ n. hook_term family n (hook_of parts i)) (joined (scale z W) V)
  peeled-term =
      subst (λ (r : List ℕ). Stands (polynomial_of target) (factorial (size parts)) (peeled (size parts)) (size parts) (λ n. hook_term family n (left_by parts i r)) (joined (scale z W) V)) e
      (subst (λ d. Stands (polynomial_of target) (factorial d) (peeled d) d (λ n. hook_term family n (left_by parts i rest)) (joined (scale z W) V)) sized
      (hook-product (polynomial_of target) (In-family target) (get_or parts i 0 + (length parts - 1 - i)) (size rest) c (minus_one_to (length parts - 1 - i)) z
      (λ n. polynomial_of family (get_or parts i 0 + (length parts - 1 - i)) n) (schur_in family rest) W V some (sign_size (length parts - 1 - i)) signed many w v))

  pub peeled-next : (S N : WholeTerms) → IsWholeTable N
      → Stands (polynomial_of target) (factorial (size parts)) (i * peeled (size parts)) (size parts) (λ n. flat_map (hook_term family n) (take i (special_hooks parts))) S
      → Gains S (joined (scale z W) V) N
      → Stands (polynomial_of target) (factorial (size parts)) ((i + 1) * peeled (size parts)) (size parts) (λ n. flat_map (hook_term family n) (take (i + 1) (special_hooks parts))) N
  peeled-next S N is s h =
      table-stands N (S ++ joined (scale z W) V) is (gains_same S (joined (scale z W) V) N h) (polynomial_of target) (factorial (size parts)) ((i + 1) * peeled (size parts)) (size parts)
      (λ n. flat_map (hook_term family n) (take (i + 1) (special_hooks parts)))
      (hooks-next (polynomial_of target) (factorial (size parts)) (peeled (size parts)) (size parts) (hook_term family) (special_hooks parts) i (hook_of parts i) S (joined (scale z W) V)
      (hook-at parts i lo) s peeled-term)

  pub peeled-large : (S : WholeTerms) → absolute_total S ≤ i * peeled (size parts)
      → Overflows equal S (joined (scale z W) V) → 2 ^ 127 ≤ grown (size parts)
  peeled-large S s large =
      let k = get_or parts i 0 + (length parts - 1 - i) in
      let l = large-products S z W V (grown (size rest)) large v.few in
      let b = peeled-part (get_or parts i 0 + (length parts - 1 - i)) (size rest) c some many in
      let u : nat_abs z ≡ c = ap nat_abs signed ∙ unsigned_abs-mul (pos c) (minus_one_to (length parts - 1 - i)) ∙ ap (λ x. c * x) (sign_size (length parts - 1 - i)) ∙ (let o : c * 1 ≡ c = omega arith in o) in
      let t = mul-le-mul_left c w.few in
      let r = mul-le-mul_right (grown (size rest)) t in
      let n : nat_abs z * absolute_total W * grown (size rest) ≡ c * absolute_total W * grown (size rest) = ap (λ x. x * absolute_total W * grown (size rest)) u in
      let g = mul_assoc c (factorial (get_or parts i 0 + (length parts - 1 - i)) * 2 ^ (get_or parts i 0 + (length parts - 1 - i))) (grown (size rest)) in
      let q = ap peeled sized in
      let rows = rows_within_size parts p.positive in
      let m : (i + 1) * peeled (size parts) ≤ size parts * peeled (size parts) = mul-le (i + 1) (peeled (size parts)) (size parts) (peeled (size parts)) (omega arith) (omega arith) in
      let a = peeled-all (size parts) (omega arith) in
      let o = one_more i (peeled (size parts)) in
      omega arith
    where
      one_more : (i x : ℕ) → (i + 1) * x ≡ i * x + x
      one_more i x = omega arith

nothing-schur : (family : Family) (n : ℕ) → schur_in family [] n ≡ one n
nothing-schur Elementary n = ap (λ (l : List ℕ). (l, pos 1) ∷ []) (map-zeros 0 n)
nothing-schur Complete n = ap (λ (l : List ℕ). (l, pos 1) ∷ []) (map-zeros 0 n)
nothing-schur PowerSum n = ap (λ (l : List ℕ). (l, pos 1) ∷ []) (map-zeros 0 n)

pub nothing-list : (P : ℕ → ℕ → Poly) (family : Family) (parts : List ℕ) (terms : WholeTerms) → length parts ≡ 0 → IsWholeTable terms → Same terms (([], pos 1) ∷ []) → IsSchurList P family parts terms
nothing-list P family [] terms e is h =
    stands-same P 1 1 0 (λ n. one n) (schur_in family []) terms (λ n. subst (Same (one n)) (sym (nothing-schur family n)) (Same_refl (one n))) (parts-none P P terms is h)
nothing-list P family (a ∷ parts) terms e is h = absurd (omega arith)

pub conjugate-list : (P : ℕ → ℕ → Poly) (parts shape : List ℕ) (r : Result WholeTerms SumFault) → IsPartition parts → shape ≡ conjugate parts → IfOk r (IsSchurList P Elementary shape)
    → IfOk r (λ terms. Stands P (factorial (size parts)) (grown (size parts)) (size parts) (λ n. schur parts n) terms)
conjugate-list P parts shape (Ok terms) p e h =
    subst (λ (κ : List ℕ). Stands P (factorial (size parts)) (grown (size parts)) (size parts) (λ n. schur κ n) terms) (ap conjugate e ∙ conjugate_twice parts p)
    (subst (λ d. Stands P (factorial d) (grown d) d (λ n. schur (conjugate shape) n) terms) (ap size e ∙ size-conjugate parts p.falls) h)
conjugate-list P parts shape (Err y) p e h = tt
