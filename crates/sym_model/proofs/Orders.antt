-- The printed order, in which the partitions of an answer are printed, is a total order, and partitions that compare as
-- equal are equal. The tests `is_partition`, `is_label` and `is_reduced` are true if and only if `IsPartition`, `IsLabel`
-- and `IsReduced` hold.
use Rattle.std.proofs.Common.{◌≡◌, ℕ, zero, suc, ◌+◌, ◌<◌, ◌≤◌, true, ◌&&◌, List, [], ◌∷◌, length, eqb, leb, ltb, nat_abs, refl, sym, ap, ◌∙◌, subst, arith}
use Rattle.std.specs.Int.{IsGcd}
use Rattle.std.specs.Cmp.{IsTotalOrder}
use Rattle.std.specs.Cmp.Lexicographic.{slice_cmp}
use Rattle.std.specs.Ordering.{nat_cmp, ordering_then, ordering_reverse, flip_args, MatchOrdering}
use Rattle.std.specs.declared.cmp.Ordering.{Ordering}
use Rattle.std.specs.declared.cmp.Ordering.TheVariants.{Less, Equal, Greater}
use Rattle.std.proofs.lemmas.Cmp.{ranked, nat_cmp_total, back_total, lists_total, on_total, then_total}
use Rattle.std.proofs.lemmas.Bool.{eq-eqb, eqb-true, leb-true, ltb-true, lt-ltb, le-leb, and_parts, and_from}
use Rattle.sym_model.specs.Polynomial.{resize}
use Rattle.sym_model.specs.Partition.{ArePositive, IsPartition, size, rows}
use Rattle.sym_model.specs.PrintedOrder.{falling_lexicographic, printed_order}
use Rattle.sym_model.specs.Expansion.{Fraction}
use Rattle.sym_model.specs.Canonical.{gcd, is_reduced, is_partition, is_label}
use Rattle.sym_model.proofs.GreatestCommonDivisors.{IsGcd-gcd, gcd-only}

-- the order of natural numbers, reversed
abbrev falling : ℕ → ℕ → Ordering
falling = flip_args nat_cmp

falling_lexicographic-padded : (n : ℕ) (xs ys : List ℕ) → length xs ≤ n → length ys ≤ n → falling_lexicographic xs ys ≡ slice_cmp falling (resize n xs) (resize n ys)
falling_lexicographic-padded zero [] [] h k = refl
falling_lexicographic-padded zero [] (y ∷ ys) h k = absurd (omega arith)
falling_lexicographic-padded zero (x ∷ xs) ys h k = absurd (omega arith)
falling_lexicographic-padded (suc n) [] [] h k = falling_lexicographic-padded n [] [] (omega arith) (omega arith)
falling_lexicographic-padded (suc n) [] (y ∷ ys) h k =
    ap (ordering_then (nat_cmp y 0)) (falling_lexicographic-padded n [] ys (omega arith) (omega arith))
falling_lexicographic-padded (suc n) (x ∷ xs) [] h k =
    ap (ordering_then (nat_cmp 0 x)) (falling_lexicographic-padded n xs [] (omega arith) (omega arith))
falling_lexicographic-padded (suc n) (x ∷ xs) (y ∷ ys) h k =
    ap (ordering_then (nat_cmp y x)) (falling_lexicographic-padded n xs ys (omega arith) (omega arith))

-- decreasing lexicographic order is a total order, in which lists that differ only in zeros at the end are equal
pub falling_lexicographic-total : IsTotalOrder falling_lexicographic
falling_lexicographic-total = record { antisymm = antisymm; trans = trans; congr = congr }
  where
    total : IsTotalOrder (slice_cmp falling)
    total = lists_total (back_total nat_cmp_total)

    antisymm : (x y : List ℕ) → falling_lexicographic x y ≡ ordering_reverse (falling_lexicographic y x)
    antisymm x y =
        let n : ℕ = length x + length y in
        let p = resize n x in
        let q = resize n y in
        falling_lexicographic-padded n x y (omega arith) (omega arith) ∙ (total.antisymm p q ∙ ap ordering_reverse (sym (falling_lexicographic-padded n y x (omega arith) (omega arith))))

    trans : (x y z : List ℕ) → falling_lexicographic x y ≡ Less → falling_lexicographic y z ≡ Less → falling_lexicographic x z ≡ Less
    trans x y z h k =
        let n : ℕ = length x + (length y + length z) in
        falling_lexicographic-padded n x z (omega arith) (omega arith) ∙ total.trans (resize n x) (resize n y) (resize n z) (sym (falling_lexicographic-padded n x y (omega arith) (omega arith)) ∙ h) (sym (falling_lexicographic-padded n y z (omega arith) (omega arith)) ∙ k)

    congr : (x y z : List ℕ) → falling_lexicographic x y ≡ Equal → falling_lexicographic x z ≡ falling_lexicographic y z
    congr x y z h =
        let n : ℕ = length x + (length y + length z) in
        falling_lexicographic-padded n x z (omega arith) (omega arith) ∙ (total.congr (resize n x) (resize n y) (resize n z) (sym (falling_lexicographic-padded n x y (omega arith) (omega arith)) ∙ h) ∙ sym (falling_lexicographic-padded n y z (omega arith) (omega arith)))

-- the printed order is a total order: it is antisymmetric and transitive, and two lists that compare as equal give
-- the same result in a comparison with any third list
pub printed_order-total : IsTotalOrder printed_order
printed_order-total = then_total (on_total size (back_total nat_cmp_total)) falling_lexicographic-total

pub then-equal : (o p : Ordering) → ordering_then o p ≡ Equal → (o ≡ Equal) × (p ≡ Equal)
then-equal Less p h = cc
then-equal Equal p h = (refl, h)
then-equal Greater p h = cc

pub nat_cmp-equal : (a b : ℕ) → nat_cmp a b ≡ Equal → a ≡ b
nat_cmp-equal a b h = subst (λ o. MatchOrdering o (a < b) (a ≡ b) (b < a)) h (ranked a b (nat_cmp a b) refl)

pub falling_lexicographic-equal : (x y : List ℕ) → ArePositive x → ArePositive y → falling_lexicographic x y ≡ Equal → x ≡ y
falling_lexicographic-equal [] [] h k e = refl
falling_lexicographic-equal [] (b ∷ y) h k e =
    let z = nat_cmp-equal b 0 (then-equal (nat_cmp b 0) _ e).0 in absurd (omega (arith, k.0))
falling_lexicographic-equal (a ∷ x) [] h k e =
    let z = nat_cmp-equal 0 a (then-equal (nat_cmp 0 a) _ e).0 in absurd (omega (arith, h.0))
falling_lexicographic-equal (a ∷ x) (b ∷ y) h k e =
    let p = then-equal (nat_cmp b a) (falling_lexicographic x y) e in
    ap (λ c. c ∷ x) (sym (nat_cmp-equal b a p.0)) ∙ ap (λ z. b ∷ z) (falling_lexicographic-equal x y h.1 k.1 p.1)

-- if two lists of positive numbers compare as equal in the printed order, they are equal
pub printed_order-equal : (x y : List ℕ) → ArePositive x → ArePositive y → printed_order x y ≡ Equal → x ≡ y
printed_order-equal x y h k e =
    falling_lexicographic-equal x y h k (then-equal (nat_cmp (size y) (size x)) _ e).1

pub is_partition-tells : (parts : List ℕ) → is_partition parts ≡ true → IsPartition parts
is_partition-tells [] h = record { falls = tt; positive = tt }
is_partition-tells (a ∷ []) h = record { falls = tt; positive = (ltb-true 0 a h, tt) }
is_partition-tells (a ∷ b ∷ parts) h =
    let p = and_parts (leb b a) (is_partition (b ∷ parts)) h in
    let rest = is_partition-tells (b ∷ parts) p.1 in
    let le : b ≤ a = leb-true b a p.0 in
    let low : 0 < b = rest.positive.0 in
    record { falls = (le, rest.falls); positive = (omega arith, rest.positive) }

pub is_partition-from : (parts : List ℕ) → IsPartition parts → is_partition parts ≡ true
is_partition-from [] h = refl
is_partition-from (a ∷ []) h = lt-ltb 0 a h.positive.0
is_partition-from (a ∷ b ∷ parts) h =
    and_from (leb b a) (is_partition (b ∷ parts)) (le-leb b a h.falls.0) (is_partition-from (b ∷ parts) (record { falls = h.falls.1; positive = h.positive.1 }))

-- the list may be the label of a term: it is a partition with at most 512 rows and at most 4096 cells
pub record IsLabel (parts : List ℕ) : Type 0 where
  pub partition : IsPartition parts
  pub rows : rows parts ≤ 512
  pub size : size parts ≤ 4096

pub is_label-tells : (parts : List ℕ) → is_label parts ≡ true → IsLabel parts
is_label-tells parts h =
    let p = and_parts (is_partition parts && leb (rows parts) 512) (leb (size parts) 4096) h in
    let q = and_parts (is_partition parts) (leb (rows parts) 512) p.0 in
    record { partition = is_partition-tells parts q.0; rows = leb-true _ _ q.1; size = leb-true _ _ p.1 }

pub is_label-from : (parts : List ℕ) → IsLabel parts → is_label parts ≡ true
is_label-from parts h =
    and_from (is_partition parts && leb (rows parts) 512) (leb (size parts) 4096) (and_from (is_partition parts) (leb (rows parts) 512) (is_partition-from parts h.partition) (le-leb _ _ h.rows)) (le-leb _ _ h.size)

-- the fraction c is not 0 and in lowest terms, with a positive denominator
pub record IsReduced (c : Fraction) : Type 0 where
  pub denominator : 0 < c.1
  pub nonzero : 0 < nat_abs c.0
  pub lowest : IsGcd (nat_abs c.0) c.1 1

pub is_reduced-tells : (c : Fraction) → is_reduced c ≡ true → IsReduced c
is_reduced-tells c h =
    let p = and_parts (ltb 0 c.1 && ltb 0 (nat_abs c.0)) (eqb (gcd (nat_abs c.0) c.1) 1) h in
    let q = and_parts (ltb 0 c.1) (ltb 0 (nat_abs c.0)) p.0 in
    record { denominator = ltb-true _ _ q.0; nonzero = ltb-true _ _ q.1; lowest = subst (IsGcd (nat_abs c.0) c.1) (eqb-true _ _ p.1) (IsGcd-gcd (nat_abs c.0) c.1) }

pub is_reduced-from : (c : Fraction) → IsReduced c → is_reduced c ≡ true
is_reduced-from c h =
    and_from (ltb 0 c.1 && ltb 0 (nat_abs c.0)) (eqb (gcd (nat_abs c.0) c.1) 1) (and_from (ltb 0 c.1) (ltb 0 (nat_abs c.0)) (lt-ltb 0 c.1 h.denominator) (lt-ltb 0 (nat_abs c.0) h.nonzero)) (eq-eqb _ _ (gcd-only (nat_abs c.0) c.1 1 h.lowest))
