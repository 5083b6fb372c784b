-- Fusion products with a factor that is lifted: the last entry of its beta list, raised by n, is moved to the front.
--     lifted_back       a lifted partition, reduced by rim hooks, is the partition, with as many removals as it was lifted
--     fusion_turned     the fusion product of a lifted partition and others is that of the partition and the others, lifted as often
use Rattle.std.proofs.Common.{◌≡◌, ℕ, zero, suc, ◌+◌, ◌*◌, ◌%◌, ◌<◌, ◌≤◌, nat_lt, cond, List, [], ◌∷◌, ◌++◌, length, refl, sym, ◌∙◌, ap, ap₂, subst, arith, ℤ, pos, Some, append-nil}
use Rattle.std.proofs.lemmas.Bool.Decides.{nat_tests}
use Rattle.std.proofs.lemmas.List.{length-append, length-map, map-append}
use Rattle.std.proofs.Math.Nat.{add-mod_right}
use Rattle.sym_model.specs.Partition.{size, ArePartitions}
use Rattle.sym_model.specs.Bounded.{AreBelow}
use Rattle.sym_model.specs.PlaceOrders.{smaller}
use Rattle.sym_model.specs.BetaList.{beta, greater, sorted_falling, rising_pairs}
use Rattle.sym_model.specs.ReductionSteps.{with_power}
use Rattle.sym_model.proofs.Signs.{sign-even}
use Rattle.beta_list_laws.specs.StrictFall.{FallsStrictly}
use Rattle.beta_list_laws.specs.AlcoveEnd.{remainders}
use Rattle.beta_list_laws.specs.LowestList.{reduction_by_remainders}
use Rattle.beta_list_laws.proofs.BetaLists.{length-beta, beta_strict, from_beta-beta}
use Rattle.beta_list_laws.proofs.Lowest.{strict_falls, strict_pairs}
use Rattle.beta_list_laws.proofs.NeighbourExchanges.{sorted-falling}
use Rattle.beta_list_laws.proofs.Remainders.{between_unlike}
use Rattle.beta_list_laws.proofs.Windows.{LieIn}
use Rattle.product_laws.specs.FactorSteps.{reduced_product}
use Rattle.product_laws.proofs.Straightened.{IsShape, shape_of_strict}
use Rattle.rotation_laws.specs.Rotation.{IsInside}
use Rattle.rotation_laws.specs.Lifting.{lifted_once, lifted, lifted_label}
use Rattle.rotation_laws.proofs.Rotated.{AreAbove, AreParts, strict_parts, strict_front, sorted_moved, size_append, window_reduced, inside_below, below_itself, below_lies}
use Rattle.rotation_laws.proofs.Lifts.{Avoids, lifted-last, pairs_with}
use Rattle.rotation_laws.proofs.Rotations.{with_image, Alike}

-- a list that is not empty, as its last entry x and the list m of the others
record EndsIn (c : List ℕ) : Type 0 where
  others : List ℕ
  last : ℕ
  is : c ≡ others ++ (last ∷ [])

ends_in : (a : ℕ) (c : List ℕ) → EndsIn (a ∷ c)
ends_in a [] = record { others = []; last = a; is = refl }
ends_in a (d ∷ c) = let e = ends_in d c in record { others = a ∷ e.others; last = e.last; is = ap (λ l. a ∷ l) e.is }

-- c is b, lifted p times
record IsLiftOf (k n p : ℕ) (b c : List ℕ) : Type 0 where
  long : length c ≡ k
  strict : FallsStrictly c
  start : ℕ
  lies : LieIn n start c
  sorts : sorted_falling (remainders n c) ≡ b
  sum : size c ≡ size b + p * n
  parity : (rising_pairs (remainders n c) + p * (k + 1)) % 2 ≡ 0

window_parts : (n t x : ℕ) (m : List ℕ) → LieIn n t (m ++ (x ∷ [])) → AreBelow (x + n) m × (t ≤ x)
window_parts n t x [] w = (tt, w.0)
window_parts n t x (y ∷ m) w =
    let r = window_parts n t x m w.2 in
    let a = w.1 in
    let d = r.1 in
    ((omega arith, r.0), r.1)

next_window : (n x : ℕ) (m : List ℕ) → AreAbove x m → AreBelow (x + n) m → LieIn n (x + 1) m
next_window n x [] a b = tt
next_window n x (y ∷ m) a b = let h = a.0 in let g : y < x + n = b.0 in (omega arith, omega arith, next_window n x m a.1 b.1)

other_remainders : (n x : ℕ) (m : List ℕ) → AreAbove x m → AreBelow (x + n) m → Avoids (x % n) (remainders n m)
other_remainders n x [] a b = tt
other_remainders n x (y ∷ m) a b = ((λ e. between_unlike n y x a.0 b.0 e), other_remainders n x m a.1 b.1)

smaller_greater : (x : ℕ) (l : List ℕ) → Avoids x l → greater x l + smaller x l ≡ length l
smaller_greater x [] a = omega arith
smaller_greater x (y ∷ l) a =
    let r = smaller_greater x l a.1 in
    let one : cond {A = ℕ} (nat_lt x y) 1 0 + cond {A = ℕ} (nat_lt y x) 1 0 ≡ 1 = grind (arith, nat_tests) in
    omega arith

next_parity : (r s a k q : ℕ) → (r + q) % 2 ≡ 0 → s + r ≡ a * 2 + k → (s + (q + (suc k + 1))) % 2 ≡ 0
next_parity r s a k q h e = omega arith

lift_at : (k n p : ℕ) (b m : List ℕ) (x : ℕ) → 1 ≤ n → IsLiftOf k n p b (m ++ (x ∷ [])) → IsLiftOf k n (suc p) b ((x + n) ∷ m)
lift_at k n p b m x h v = record {
  long = let e = length-append m (x ∷ []) in let f = v.long in omega arith;
  strict = strict_front (x + n) m w.0 (subst FallsStrictly (append-nil m) q.strict);
  start = x + 1;
  lies = (omega arith, omega arith, next_window n x m q.above w.0);
  sorts =
      ap (λ y. sorted_falling (y ∷ remainders n m)) (add-mod_right x n)
      ∙ ap (λ l. sorted_falling ((x % n) ∷ l)) (sym (append-nil (remainders n m)))
      ∙ sorted_moved (x % n) (remainders n m) []
      ∙ ap sorted_falling (sym (map-append (λ y. y % n) m (x ∷ [])))
      ∙ v.sorts;
  sum = let a = size_append m (x ∷ []) in let f = v.sum in omega arith;
  parity =
      let r : rising_pairs (remainders n (m ++ (x ∷ []))) ≡ rising_pairs (remainders n m) + smaller (x % n) (remainders n m) =
      ap rising_pairs (map-append (λ y. y % n) m (x ∷ [])) ∙ pairs_with (x % n) (remainders n m) []
      ∙ ap (λ l. rising_pairs l + (smaller (x % n) (remainders n m) + 0)) (append-nil (remainders n m)) ∙ omega arith in
      let s : rising_pairs (remainders n ((x + n) ∷ m)) ≡ greater (x % n) (remainders n m) + rising_pairs (remainders n m) =
      ap (λ y. greater y (remainders n m) + rising_pairs (remainders n m)) (add-mod_right x n) in
      let g = smaller_greater (x % n) (remainders n m) (other_remainders n x m q.above w.0) in
      let l : length (remainders n m) ≡ length m = length-map m (λ y. y % n) in
      let e = length-append m (x ∷ []) in
      let f = v.long in
      let k_is : k ≡ suc (length m) = omega arith in
      let next : suc p * (k + 1) ≡ p * (k + 1) + (suc (length m) + 1) = omega arith in
      ap (λ z. (rising_pairs (remainders n ((x + n) ∷ m)) + z) % 2) next
      ∙ next_parity (rising_pairs (remainders n (m ++ (x ∷ [])))) (rising_pairs (remainders n ((x + n) ∷ m))) (rising_pairs (remainders n m)) (length m) (p * (k + 1)) v.parity (omega arith);
}
  where
    q : AreParts x m []
    q = strict_parts x m [] v.strict

    w : AreBelow (x + n) m × (v.start ≤ x)
    w = window_parts n v.start x m v.lies

lift_next : (k n p : ℕ) (b c : List ℕ) → 1 ≤ n → 1 ≤ k → IsLiftOf k n p b c → IsLiftOf k n (suc p) b (lifted_once n c)
lift_next k n p b [] h g v = let e = v.long in absurd (omega arith)
lift_next k n p b (a ∷ c) h g v =
    let e = ends_in a c in
    subst (λ l. IsLiftOf k n (suc p) b (lifted_once n l)) (sym e.is)
    (subst (IsLiftOf k n (suc p) b) (sym (lifted-last n e.last e.others)) (lift_at k n p b e.others e.last h (subst (IsLiftOf k n p b) e.is v)))

lift_list : (k n p : ℕ) (parts : List ℕ) → 1 ≤ n → 1 ≤ k → IsInside k n parts → IsLiftOf k n p (beta k parts) (lifted n p (beta k parts))
lift_list k n zero parts h g q =
    let b = beta k parts in
    let f = beta_strict k parts q.partition.falls in
    let rest = below_itself n b (inside_below k n parts q) in
    let none : rising_pairs (remainders n b) ≡ 0 = ap rising_pairs rest ∙ strict_pairs b f in
    record {
      long = length-beta k parts;
      strict = f;
      start = 0;
      lies = below_lies n b (inside_below k n parts q);
      sorts = ap sorted_falling rest ∙ sorted-falling b (strict_falls b f);
      sum = omega arith;
      parity = let e : rising_pairs (remainders n b) + 0 * (k + 1) ≡ 0 = omega arith in ap (λ m. m % 2) e;
    }
lift_list k n (suc p) parts h g q = lift_next k n p (beta k parts) (lifted n p (beta k parts)) h g (lift_list k n p parts h g q)

shape_lifted : (k n p : ℕ) (parts : List ℕ) → 1 ≤ n → 1 ≤ k → IsInside k n parts → IsShape k (lifted_label k n (p, parts))
shape_lifted k n p parts h g q = let v = lift_list k n p parts h g q in shape_of_strict k (lifted n p (beta k parts)) v.long v.strict

lifted_back : (k n p : ℕ) (parts : List ℕ) → 1 ≤ n → 1 ≤ k → IsInside k n parts → reduction_by_remainders k n (lifted_label k n (p, parts)) ≡ Some (parts, pos 1, p)
lifted_back k n p parts h g q =
    let v = lift_list k n p parts h g q in
    let b = beta k parts in
    let c = lifted n p (beta k parts) in
    let even : (p * (k + 1) + rising_pairs (remainders n c)) % 2 ≡ 0 =
    ap (λ m. m % 2) (let e : p * (k + 1) + rising_pairs (remainders n c) ≡ rising_pairs (remainders n c) + p * (k + 1) = omega arith in e) ∙ v.parity in
    window_reduced k n v.start p c b h (let l = q.narrow in omega arith) v.long v.strict v.lies v.sorts (beta_strict k parts q.partition.falls) (length-beta k parts) (inside_below k n parts q) v.sum
    ∙ ap₂ (λ (l : List ℕ) (z : ℤ). let term : List ℕ × ℤ × ℕ = (l, z, p) in Some term) (from_beta-beta k parts q.partition q.few) (sign-even (p * (k + 1) + rising_pairs (remainders n c)) even)

-- the clause `factor` of the law `fusion_lifting_law`
pub product_lifted : (k n p : ℕ) (parts : List ℕ) (others : List (List ℕ)) → 1 ≤ n → 1 ≤ k → IsInside k n parts → ArePartitions others
    → Alike (with_power p (pos 1) (reduced_product k n (parts ∷ others))) (reduced_product k n (lifted_label k n (p, parts) ∷ others))
product_lifted k n p parts others h g q a =
    with_image k n p (lifted_label k n (p, parts)) parts others h (shape_lifted k n p parts h g q) q (lifted_back k n p parts h g q) a
