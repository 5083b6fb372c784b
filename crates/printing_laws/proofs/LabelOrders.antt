-- The labels of the terms of an answer are, for example, partitions or permutations, depending on the kind of answer. For each kind the order of the
-- labels is total, and labels within the limits that compare as equal are equal.
use Rattle.std.proofs.Common.{◌≡◌, ℕ, zero, suc, ◌+◌, ◌≤◌, true, List, [], ◌∷◌, length, eqb, ltb, refl, sym, ap, ap₂, ◌∙◌, arith, rules}
use Rattle.std.specs.Cmp.{IsTotalOrder}
use Rattle.std.specs.Cmp.Lexicographic.{slice_cmp}
use Rattle.std.specs.Ordering.{nat_cmp, ordering_then, ordering_reverse}
use Rattle.std.specs.declared.cmp.Ordering.TheVariants.{Less, Equal}
use Rattle.std.proofs.lemmas.Cmp.{nat_cmp_total, lists_total, on_total, then_total, tied_itself, nat_list_cmp_total}
use Rattle.std.proofs.lemmas.Bool.{and_parts, eq-eqb, cond-true}
use Rattle.sym_model.specs.Partition.{size, without_last_zeros, in_front}
use Rattle.sym_model.specs.PlaceOrders.{inversions}
use Rattle.sym_model.specs.Permutation.{kept, without_fixed_from, in_front_unless_fixed}
use Rattle.sym_model.specs.PrintedOrder.{falling_lexicographic, printed_order, pair_order, power_order, rising_letters, permutation_order, shifted_order}
use Rattle.sym_model.specs.LabelLimits.{is_label, is_pair_label, is_power_label, is_permutation_label, is_monomial_label, is_shifted_label}
use Rattle.sym_model.specs.Kind.{Kind, number, expansion, product, pairs, powers, permutations, polynomial, shifts, Label, label_rules}
use Rattle.sym_model.proofs.Orders.{printed_order-total, printed_order-equal, nat_cmp-equal, is_partition-tells, then-equal}
use Rattle.sym_model.proofs.Exponents.{same_true}

-- ---- the order of the labels of each kind is total

padded : ℕ → ℕ → List ℕ → List ℕ
padded zero i w = []
padded (suc n) i [] = (i + 1) ∷ padded n (i + 1) []
padded (suc n) i (a ∷ w) = a ∷ padded n (i + 1) w

rising_letters-padded : (n i : ℕ) (v w : List ℕ) → length v ≤ n → length w ≤ n → rising_letters i v w ≡ slice_cmp nat_cmp (padded n i v) (padded n i w)
unfolding padded
rising_letters-padded zero i [] [] h k = refl
rising_letters-padded zero i [] (b ∷ w) h k = absurd (omega arith)
rising_letters-padded zero i (a ∷ v) w h k = absurd (omega arith)
rising_letters-padded (suc n) i [] [] h k = sym (tied_itself (lists_total nat_cmp_total) (padded (suc n) i []))
rising_letters-padded (suc n) i [] (b ∷ w) h k = ap (ordering_then (nat_cmp (i + 1) b)) (rising_letters-padded n (i + 1) [] w (omega arith) (omega arith))
rising_letters-padded (suc n) i (a ∷ v) [] h k = ap (ordering_then (nat_cmp a (i + 1))) (rising_letters-padded n (i + 1) v [] (omega arith) (omega arith))
rising_letters-padded (suc n) i (a ∷ v) (b ∷ w) h k = ap (ordering_then (nat_cmp a b)) (rising_letters-padded n (i + 1) v w (omega arith) (omega arith))

rising_letters-total : (i : ℕ) → IsTotalOrder (rising_letters i)
rising_letters-total i = record { antisymm = antisymm; trans = trans; congr = congr }
  where
    antisymm : (x y : List ℕ) → rising_letters i x y ≡ ordering_reverse (rising_letters i y x)
    antisymm x y =
        let n : ℕ = length x + length y in
        rising_letters-padded n i x y (omega arith) (omega arith) ∙ (nat_list_cmp_total.antisymm (padded n i x) (padded n i y) ∙ ap ordering_reverse (sym (rising_letters-padded n i y x (omega arith) (omega arith))))

    trans : (x y z : List ℕ) → rising_letters i x y ≡ Less → rising_letters i y z ≡ Less → rising_letters i x z ≡ Less
    trans x y z h k =
        let n : ℕ = length x + (length y + length z) in
        rising_letters-padded n i x z (omega arith) (omega arith) ∙ nat_list_cmp_total.trans (padded n i x) (padded n i y) (padded n i z) (sym (rising_letters-padded n i x y (omega arith) (omega arith)) ∙ h) (sym (rising_letters-padded n i y z (omega arith) (omega arith)) ∙ k)

    congr : (x y z : List ℕ) → rising_letters i x y ≡ Equal → rising_letters i x z ≡ rising_letters i y z
    congr x y z h =
        let n : ℕ = length x + (length y + length z) in
        rising_letters-padded n i x z (omega arith) (omega arith) ∙ (nat_list_cmp_total.congr (padded n i x) (padded n i y) (padded n i z) (sym (rising_letters-padded n i x y (omega arith) (omega arith)) ∙ h) ∙ sym (rising_letters-padded n i y z (omega arith) (omega arith)))

one_label-total : IsTotalOrder (label_rules number).order
one_label-total = record { antisymm = λ x y. refl; trans = λ x y z h k. h; congr = λ x y z h. refl }

pub label_order-total : (kind : Kind) → IsTotalOrder (label_rules kind).order
label_order-total number = one_label-total
label_order-total expansion = printed_order-total
label_order-total product = printed_order-total
label_order-total pairs = then_total (on_total (λ (p : List ℕ × List ℕ). p.0) printed_order-total) (on_total (λ (p : List ℕ × List ℕ). p.1) printed_order-total)
label_order-total powers = then_total (on_total (λ (p : ℕ × List ℕ). p.0) nat_cmp_total) (on_total (λ (p : ℕ × List ℕ). p.1) printed_order-total)
label_order-total permutations = then_total (on_total inversions nat_cmp_total) (rising_letters-total 0)
label_order-total polynomial = printed_order-total
label_order-total shifts =
    then_total (on_total (λ (p : List ℕ × List ℕ). p.0) (then_total (on_total inversions nat_cmp_total) (rising_letters-total 0)))
    (on_total (λ (p : List ℕ × List ℕ). p.1) printed_order-total)

-- ---- labels that compare as equal are equal

partitions-tie : (x y : List ℕ) → is_label x ≡ true → is_label y ≡ true → printed_order x y ≡ Equal → x ≡ y
partitions-tie x y h k e =
    let p = is_partition-tells x (and_parts _ _ (and_parts _ _ h).0).0 in
    let q = is_partition-tells y (and_parts _ _ (and_parts _ _ k).0).0 in
    printed_order-equal x y p.positive q.positive e

falling_lexicographic-ties : (x y : List ℕ) → falling_lexicographic x y ≡ Equal → without_last_zeros x ≡ without_last_zeros y
falling_lexicographic-ties [] [] e = refl
falling_lexicographic-ties [] (b ∷ y) e =
    let p = then-equal (nat_cmp b 0) (falling_lexicographic [] y) e in
    ap₂ in_front (sym (nat_cmp-equal b 0 p.0)) (falling_lexicographic-ties [] y p.1)
falling_lexicographic-ties (a ∷ x) [] e = search (rules, then-equal, nat_cmp-equal, (falling_lexicographic-ties x))
falling_lexicographic-ties (a ∷ x) (b ∷ y) e =
    let p = then-equal (nat_cmp b a) (falling_lexicographic x y) e in
    ap₂ in_front (sym (nat_cmp-equal b a p.0)) (falling_lexicographic-ties x y p.1)

monomials-tie : (x y : List ℕ) → is_monomial_label x ≡ true → is_monomial_label y ≡ true → printed_order x y ≡ Equal → x ≡ y
monomials-tie x y h k e =
    let p = same_true (without_last_zeros x) x (and_parts _ _ (and_parts _ _ h).0).0 in
    let q = same_true (without_last_zeros y) y (and_parts _ _ (and_parts _ _ k).0).0 in
    sym p ∙ (falling_lexicographic-ties x y (then-equal (nat_cmp (size y) (size x)) (falling_lexicographic x y) e).1 ∙ q)

fixed-nothing : (i a : ℕ) → a ≡ i → in_front_unless_fixed i a [] ≡ []
fixed-nothing i a e = cond-true (eqb a i) [] (a ∷ []) (eq-eqb a i e)

rising_letters-ties : (i : ℕ) (x y : List ℕ) → rising_letters i x y ≡ Equal → without_fixed_from (i + 1) x ≡ without_fixed_from (i + 1) y
rising_letters-ties i [] [] e = refl
rising_letters-ties i [] (b ∷ y) e =
    let p = then-equal (nat_cmp (i + 1) b) (rising_letters (i + 1) [] y) e in
    sym (ap (in_front_unless_fixed (i + 1) b) (sym (rising_letters-ties (i + 1) [] y p.1)) ∙ fixed-nothing (i + 1) b (sym (nat_cmp-equal (i + 1) b p.0)))
rising_letters-ties i (a ∷ x) [] e = search (rules, then-equal, fixed-nothing, nat_cmp-equal, (rising_letters-ties (i + 1) x))
rising_letters-ties i (a ∷ x) (b ∷ y) e =
    let p = then-equal (nat_cmp a b) (rising_letters (i + 1) x y) e in
    ap₂ (in_front_unless_fixed (i + 1)) (nat_cmp-equal a b p.0) (rising_letters-ties (i + 1) x y p.1)

kept-ties : (x y : List ℕ) → ltb 0 (length x) ≡ true → ltb 0 (length y) ≡ true → rising_letters 0 x y ≡ Equal → kept x ≡ kept y
kept-ties [] y h k e = cc
kept-ties (a ∷ x) [] h k e = cc
kept-ties (a ∷ x) (b ∷ y) h k e = search (rules, then-equal, nat_cmp-equal, rising_letters-ties)

permutations-tie : (x y : List ℕ) → is_permutation_label x ≡ true → is_permutation_label y ≡ true → permutation_order x y ≡ Equal → x ≡ y
permutations-tie x y h k e =
    let fore = and_parts _ _ (and_parts _ _ h).0 in
    let back = and_parts _ _ (and_parts _ _ k).0 in
    let letters = (then-equal (nat_cmp (inversions x) (inversions y)) (rising_letters 0 x y) e).1 in
    sym (same_true (kept x) x fore.1) ∙ (kept-ties x y (and_parts _ _ fore.0).1 (and_parts _ _ back.0).1 letters ∙ same_true (kept y) y back.1)

pairs-tie : (x y : List ℕ × List ℕ) → is_pair_label x ≡ true → is_pair_label y ≡ true → pair_order x y ≡ Equal → x ≡ y
pairs-tie x y h k e =
    let p = then-equal (printed_order x.0 y.0) (printed_order x.1 y.1) e in
    let first = partitions-tie x.0 y.0 (and_parts _ _ h).0 (and_parts _ _ k).0 p.0 in
    let second = partitions-tie x.1 y.1 (and_parts _ _ h).1 (and_parts _ _ k).1 p.1 in
    ap₂ (λ a b. (a, b)) first second

powers-tie : (x y : ℕ × List ℕ) → is_power_label x ≡ true → is_power_label y ≡ true → power_order x y ≡ Equal → x ≡ y
powers-tie x y h k e =
    let p = then-equal (nat_cmp x.0 y.0) (printed_order x.1 y.1) e in
    ap₂ (λ a b. (a, b)) (nat_cmp-equal x.0 y.0 p.0) (partitions-tie x.1 y.1 (and_parts _ _ h).1 (and_parts _ _ k).1 p.1)

shifted-tie : (x y : List ℕ × List ℕ) → is_shifted_label x ≡ true → is_shifted_label y ≡ true → shifted_order x y ≡ Equal → x ≡ y
shifted-tie x y h k e =
    let p = then-equal (permutation_order x.0 y.0) (printed_order x.1 y.1) e in
    let first = permutations-tie x.0 y.0 (and_parts _ _ h).0 (and_parts _ _ k).0 p.0 in
    let second = monomials-tie x.1 y.1 (and_parts _ _ h).1 (and_parts _ _ k).1 p.1 in
    ap₂ (λ a b. (a, b)) first second

pub label_order-ties : (kind : Kind) (x y : Label kind) → (label_rules kind).is_within_limits x ≡ true → (label_rules kind).is_within_limits y ≡ true → (label_rules kind).order x y ≡ Equal → x ≡ y
label_order-ties number x y h k e = refl
label_order-ties expansion x y h k e = partitions-tie x y h k e
label_order-ties product x y h k e = partitions-tie x y h k e
label_order-ties pairs x y h k e = pairs-tie x y h k e
label_order-ties powers x y h k e = powers-tie x y h k e
label_order-ties permutations x y h k e = permutations-tie x y h k e
label_order-ties polynomial x y h k e = monomials-tie x y h k e
label_order-ties shifts x y h k e = shifted-tie x y h k e
