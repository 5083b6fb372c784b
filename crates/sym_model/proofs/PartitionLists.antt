-- The list `partitions_of d` has each partition of d exactly once and nothing else, in decreasing lexicographic
-- order.
use Rattle.std.proofs.Common.{◌≡◌, ℕ, zero, suc, ◌-◌, ◌<◌, ◌≤◌, min, List, [], ◌∷◌, ◌++◌, map, length, sym, ◌∙◌, ap, ap₂, subst, refl, inl, inr, ⊎_elim, arith, flat_map, rules}
use Rattle.std.proofs.Math.Nat.{eq-or-lt_of_le, min-le_left, min-le_right, le-min}
use Rattle.std.proofs.lemmas.Cmp.{nat_cmp_total, tied_itself}
use Rattle.std.specs.Cmp.{nat_cmp_is}
use Rattle.std.specs.Ordering.{ordering_then}
use Rattle.std.specs.declared.cmp.Ordering.TheVariants.{Less}
use Rattle.sym_model.specs.Sum.{Among, Once}
use Rattle.sym_model.specs.Partition.{IsPartition, Falls, ArePositive, size, columns}
use Rattle.sym_model.specs.PrintedOrder.{falling_lexicographic}
use Rattle.sym_model.specs.PartitionList.{down_to_one, partitions_within, partitions_of, FallsLexicographically}
use Rattle.sym_model.proofs.Sums.{Among-map, Among_from_map, Among-each, Among_from_each, Among_from_append}
use Rattle.sym_model.proofs.Orders.{falling_lexicographic-total}
use Rattle.sym_model.proofs.SortedParts.{rows_within_size, Falls_tail, Falls_first}

pub down_to_one-tells : (k a : ℕ) → Among a (down_to_one k) → (0 < a) × (a ≤ k)
down_to_one-tells zero a m = absurd m
down_to_one-tells (suc k) a (inl e) = (omega arith, omega arith)
down_to_one-tells (suc k) a (inr m) = let h = down_to_one-tells k a m in (h.0, omega (arith, h.1))

pub Among-down_to_one : (k a : ℕ) → 0 < a → a ≤ k → Among a (down_to_one k)
Among-down_to_one zero a p h = absurd (omega arith)
Among-down_to_one (suc k) a p h =
    ⊎_elim (λ e. inl e) (λ l. inr (Among-down_to_one k a p (omega arith))) (eq-or-lt_of_le {n = a} {m = suc k} h)

-- ---- the list `partitions_of d` has exactly the partitions of d

-- `parts` is a partition of d with no part greater than `most`
pub record IsWithin (d most : ℕ) (parts : List ℕ) : Type 0 where
  pub falls : Falls parts
  pub positive : ArePositive parts
  pub sum : size parts ≡ d
  pub first : columns parts ≤ most

IsWithin-cons : (d most a : ℕ) (parts : List ℕ) → 0 < a → a ≤ most → a ≤ d → IsWithin (d - a) a parts → IsWithin d most (a ∷ parts)
IsWithin-cons d most a [] p h l w =
    record { falls = tt; positive = (p, tt); sum = omega (arith, w.sum); first = h }
IsWithin-cons d most a (b ∷ parts) p h l w =
    record { falls = (w.first, w.falls); positive = (p, w.positive); sum = omega (arith, w.sum); first = h }

pub partitions_within-tells :
    (rows d most : ℕ) (parts : List ℕ) → Among parts (partitions_within d most rows) → IsWithin d most parts
unfolding partitions_within
partitions_within-tells rows zero most parts (inl e) =
    subst (IsWithin 0 most) (sym e) (record { falls = tt; positive = tt; sum = refl; first = omega arith })
partitions_within-tells rows zero most parts (inr m) = absurd m
partitions_within-tells zero (suc d) most parts m = absurd m
partitions_within-tells (suc rows) (suc d) most parts m =
    let top = min most (suc d) in
    let found = Among_from_each (λ a. map (λ rest. a ∷ rest) (partitions_within (suc d - a) a rows)) parts (down_to_one top) m in
    let a : ℕ = found.0 in
    let range = down_to_one-tells top a found.1 in
    let tail = Among_from_map (λ rest. a ∷ rest) parts (partitions_within (suc d - a) a rows) found.2 in
    let within = partitions_within-tells rows (suc d - a) a tail.0 tail.1 in
    let low : a ≤ most = omega (arith, range.1, min-le_left most (suc d)) in
    let few : a ≤ suc d = omega (arith, range.1, min-le_right most (suc d)) in
    subst (IsWithin (suc d) most) (sym tail.2) (IsWithin-cons (suc d) most a tail.0 range.0 low few within)

pub no_part : (parts : List ℕ) → ArePositive parts → size parts ≡ 0 → parts ≡ []
no_part [] p s = refl
no_part (a ∷ parts) p s = absurd (omega (arith, p.0))

pub Among-partitions_within :
    (rows d most : ℕ) (parts : List ℕ) → IsWithin d most parts → length parts ≤ rows
    → Among parts (partitions_within d most rows)
unfolding partitions_within
Among-partitions_within rows zero most parts w h = inl (no_part parts w.positive w.sum)
Among-partitions_within zero (suc d) most [] w h = absurd (omega (arith, w.sum))
Among-partitions_within zero (suc d) most (a ∷ parts) w h = absurd (omega arith)
Among-partitions_within (suc rows) (suc d) most [] w h = absurd (omega (arith, w.sum))
Among-partitions_within (suc rows) (suc d) most (a ∷ parts) w h =
    let top = min most (suc d) in
    let few : a ≤ suc d = omega (arith, w.sum) in
    let here : Among a (down_to_one top) = Among-down_to_one top a w.positive.0 (le-min w.first few) in
    let rest : IsWithin (suc d - a) a parts = record {
      falls = Falls_tail a parts w.falls;
      positive = w.positive.1;
      sum = omega (arith, w.sum);
      first = Falls_first a parts w.falls;
    } in
    let tail = Among-partitions_within rows (suc d - a) a parts rest (omega arith) in
    Among-each (λ b. map (λ rest. b ∷ rest) (partitions_within (suc d - b) b rows)) a (a ∷ parts) (down_to_one top) here
    (Among-map (λ rest. a ∷ rest) parts (partitions_within (suc d - a) a rows) tail)

columns_few : (parts : List ℕ) → columns parts ≤ size parts
columns_few [] = omega arith
columns_few (a ∷ parts) = omega arith

pub partitions_of-tells :
    (d : ℕ) (parts : List ℕ) → Among parts (partitions_of d) → IsPartition parts × (size parts ≡ d)
partitions_of-tells d parts m =
    let w = partitions_within-tells d d d parts m in (record { falls = w.falls; positive = w.positive }, w.sum)

pub Among-partitions_of :
    (d : ℕ) (parts : List ℕ) → IsPartition parts → size parts ≡ d → Among parts (partitions_of d)
Among-partitions_of d parts p s = search (rules, columns_few, Among-partitions_within, rows_within_size)

-- ---- the list `partitions_of d` is in strictly decreasing lexicographic order, so no partition occurs twice in it

pub FallsLexicographically-append :
    (xs ys : List (List ℕ)) → FallsLexicographically xs → FallsLexicographically ys
    → ((x y : List ℕ) → Among x xs → Among y ys → falling_lexicographic x y ≡ Less)
    → FallsLexicographically (xs ++ ys)
FallsLexicographically-append [] ys f g c = g
FallsLexicographically-append (x ∷ xs) ys f g c = (
  λ y m. ⊎_elim (λ n. f.0 y n) (λ n. c x y (inl refl) n) (Among_from_append y xs ys m),
  FallsLexicographically-append xs ys f.1 g (λ a b m n. c a b (inr m) n),
)

same_first : (a : ℕ) (x y : List ℕ) → falling_lexicographic (a ∷ x) (a ∷ y) ≡ falling_lexicographic x y
same_first a x y = ap (λ o. ordering_then o (falling_lexicographic x y)) (tied_itself nat_cmp_total a)

pub greater_first : (a b : ℕ) (x y : List ℕ) → b < a → falling_lexicographic (a ∷ x) (b ∷ y) ≡ Less
greater_first a b x y h = ap (λ o. ordering_then o (falling_lexicographic x y)) (sym (nat_cmp_is b a Less h))

pub FallsLexicographically-map :
    (a : ℕ) (xs : List (List ℕ)) → FallsLexicographically xs → FallsLexicographically (map (λ x. a ∷ x) xs)
FallsLexicographically-map a [] f = tt
FallsLexicographically-map a (x ∷ xs) f = (
  λ y m.
      let found = Among_from_map (λ z. a ∷ z) y xs m in
      subst (λ z. falling_lexicographic (a ∷ x) z ≡ Less) (sym found.2)
      (same_first a x found.0 ∙ f.0 found.0 found.1),
  FallsLexicographically-map a xs f.1,
)

FallsLexicographically-each :
    (rest : ℕ → List (List ℕ)) (k : ℕ)
    → ((a : ℕ) → 0 < a → FallsLexicographically (rest a))
    → FallsLexicographically (flat_map (λ a. map (λ x. a ∷ x) (rest a)) (down_to_one k))
FallsLexicographically-each rest zero f = tt
FallsLexicographically-each rest (suc k) f =
    FallsLexicographically-append (map (λ x. suc k ∷ x) (rest (suc k)))
    (flat_map (λ a. map (λ x. a ∷ x) (rest a)) (down_to_one k))
    (FallsLexicographically-map (suc k) (rest (suc k)) (f (suc k) (omega arith)))
    (FallsLexicographically-each rest k f)
    (λ x y m n.
    let left = Among_from_map (λ z. suc k ∷ z) x (rest (suc k)) m in
    let found = Among_from_each (λ a. map (λ z. a ∷ z) (rest a)) y (down_to_one k) n in
    let b : ℕ = found.0 in
    let right = Among_from_map (λ z. b ∷ z) y (rest b) found.2 in
    let below = down_to_one-tells k b found.1 in
    let less = greater_first (suc k) b left.0 right.0 (omega (arith, below.1)) in
    subst (λ z. falling_lexicographic z y ≡ Less) (sym left.2)
    (subst (λ z. falling_lexicographic (suc k ∷ left.0) z ≡ Less) (sym right.2) less))

pub FallsLexicographically-partitions_within :
    (rows d most : ℕ) → FallsLexicographically (partitions_within d most rows)
unfolding partitions_within
FallsLexicographically-partitions_within rows zero most = (λ y m. absurd m, tt)
FallsLexicographically-partitions_within zero (suc d) most = tt
FallsLexicographically-partitions_within (suc rows) (suc d) most =
    FallsLexicographically-each (λ a. partitions_within (suc d - a) a rows) (min most (suc d))
    (λ a p. FallsLexicographically-partitions_within rows (suc d - a) a)

falling_lexicographic-itself : (x : List ℕ) → falling_lexicographic x x ≡ Less → ⊥
falling_lexicographic-itself x h = let e = tied_itself falling_lexicographic-total x in cc

pub Once-FallsLexicographically : (xs : List (List ℕ)) → FallsLexicographically xs → Once xs
Once-FallsLexicographically [] f = tt
Once-FallsLexicographically (x ∷ xs) f =
    (λ m. falling_lexicographic-itself x (f.0 x m), Once-FallsLexicographically xs f.1)

pub Once-partitions_of : (d : ℕ) → Once (partitions_of d)
Once-partitions_of d =
    Once-FallsLexicographically (partitions_of d) (FallsLexicographically-partitions_within d d d)

each-among :
    (f g : ℕ → List (List ℕ)) (xs : List ℕ) → ((a : ℕ) → Among a xs → f a ≡ g a) → flat_map f xs ≡ flat_map g xs
each-among f g [] h = refl
each-among f g (x ∷ xs) h = ap₂ (λ a b. a ++ b) (h x (inl refl)) (each-among f g xs (λ a m. h a (inr m)))

pub partitions_within-rows :
    (r s d most : ℕ) → d ≤ r → d ≤ s → partitions_within d most r ≡ partitions_within d most s
unfolding partitions_within
partitions_within-rows r s zero most h g = refl
partitions_within-rows zero s (suc d) most h g = absurd (omega arith)
partitions_within-rows (suc r) zero (suc d) most h g = absurd (omega arith)
partitions_within-rows (suc r) (suc s) (suc d) most h g =
    each-among (λ a. map (λ x. a ∷ x) (partitions_within (suc d - a) a r))
    (λ a. map (λ x. a ∷ x) (partitions_within (suc d - a) a s)) (down_to_one (min most (suc d)))
    (λ a m.
    let positive = (down_to_one-tells (min most (suc d)) a m).0 in
    ap (map (λ x. a ∷ x)) (partitions_within-rows r s (suc d - a) a (omega arith) (omega arith)))
