-- Lemmas for the contracts of the types of labels. The equality test of each kind of label is true only of equal labels. The order in which terms are
-- printed is total, and only equal labels compare as equal in it.
use Rattle.std.proofs.Common.{◌≡◌, ℕ, true, List, ◌&&◌, sym, ap, ap₂, ◌∙◌}
use Rattle.std.specs.Prelude.{nat_eq, IsTrue}
use Rattle.std.specs.Cmp.{IsTotalOrder, unsigned_tied, unsigned_Decides}
use Rattle.std.specs.Cmp.Lexicographic.{pointwise, slice_cmp}
use Rattle.std.specs.Ordering.{nat_cmp, is_eq}
use Rattle.std.specs.declared.cmp.Ordering.TheVariants.{Equal}
use Rattle.std.proofs.lemmas.Bool.{and_parts, eqb-true}
use Rattle.std.proofs.lemmas.Cmp.{back_total, nat_cmp_total, nat_list_cmp_total}
use Rattle.std.proofs.lemmas.Map.Text.{is_eq-slice_cmp}
use Rattle.std.proofs.lemmas.Slice.Eq.{bytes_eq-Decides}
use Rattle.sym_model.specs.Canonical.{is_label}
use Rattle.sym_model.specs.LabelLimits.{is_permutation_label, is_pair_label, is_power_label, is_monomial_label, is_shifted_label}
use Rattle.sym_model.specs.Kind.{permutations, pairs, powers, polynomial, shifts}
use Rattle.sym_model.specs.PrintedOrder.{printed_order, permutation_order, pair_order, power_order, shifted_order}
use Rattle.sym_model.proofs.Orders.{is_label-tells, printed_order-equal}
use Rattle.printing_laws.proofs.LabelOrders.{label_order-total, label_order-ties}

-- ---- partitions and permutations

pub same_partition : (a b : List ℕ) → pointwise nat_eq a b ≡ true → a ≡ b
same_partition a b h = (bytes_eq-Decides a b).0 h

pub partition_order_equal : (a b : List ℕ) → IsTrue (is_label a) → IsTrue (is_label b)
    → printed_order a b ≡ Equal → a ≡ b
partition_order_equal a b h k e =
    printed_order-equal a b (is_label-tells a h).partition.positive
    (is_label-tells b k).partition.positive e

pub permutation_order_is_total : IsTotalOrder permutation_order
permutation_order_is_total = label_order-total permutations

pub permutation_order_equal :
    (a b : List ℕ) → IsTrue (is_permutation_label a) → IsTrue (is_permutation_label b)
    → permutation_order a b ≡ Equal → a ≡ b
permutation_order_equal a b h k e = label_order-ties permutations a b h k e

-- ---- pairs of partitions, and partitions with a power of q

pub same_pair : (a b : List ℕ × List ℕ)
    → (pointwise nat_eq a.0 b.0 && pointwise nat_eq a.1 b.1) ≡ true → a ≡ b
same_pair a b h =
    let p = and_parts _ _ h in
    ap₂ (λ x y. (x, y)) (same_partition a.0 b.0 p.0) (same_partition a.1 b.1 p.1)

pub pair_order_is_total : IsTotalOrder pair_order
pair_order_is_total = label_order-total pairs

pub pair_order_equal :
    (a b : List ℕ × List ℕ) → IsTrue (is_pair_label a) → IsTrue (is_pair_label b)
    → pair_order a b ≡ Equal → a ≡ b
pair_order_equal a b h k e = label_order-ties pairs a b h k e

pub same_power : (a b : ℕ × List ℕ) → (nat_eq a.0 b.0 && pointwise nat_eq a.1 b.1) ≡ true → a ≡ b
same_power a b h =
    let p = and_parts _ _ h in
    ap₂ (λ x y. (x, y)) (eqb-true a.0 b.0 p.0) (same_partition a.1 b.1 p.1)

pub power_order_is_total : IsTotalOrder power_order
power_order_is_total = label_order-total powers

pub power_order_equal :
    (a b : ℕ × List ℕ) → IsTrue (is_power_label a) → IsTrue (is_power_label b)
    → power_order a b ≡ Equal → a ≡ b
power_order_equal a b h k e = label_order-ties powers a b h k e

-- ---- monomials, and pairs of a permutation and a monomial in y

pub monomial_order_equal :
    (a b : List ℕ) → IsTrue (is_monomial_label a) → IsTrue (is_monomial_label b)
    → printed_order a b ≡ Equal → a ≡ b
monomial_order_equal a b h k e = label_order-ties polynomial a b h k e

pub shifted_order_is_total : IsTotalOrder shifted_order
shifted_order_is_total = label_order-total shifts

pub shifted_order_equal :
    (a b : List ℕ × List ℕ) → IsTrue (is_shifted_label a) → IsTrue (is_shifted_label b)
    → shifted_order a b ≡ Equal → a ≡ b
shifted_order_equal a b h k e = label_order-ties shifts a b h k e

-- ---- numbers and lists of numbers, the greater one first

pub same_number : (a b : ℕ) → nat_eq a b ≡ true → a ≡ b
same_number a b h = (unsigned_Decides a b).0 h

pub falling_numbers_total : IsTotalOrder (λ (a b : ℕ). nat_cmp b a)
falling_numbers_total = back_total nat_cmp_total

pub falling_numbers_equal : (a b : ℕ) → IsTrue true → IsTrue true → nat_cmp b a ≡ Equal → a ≡ b
falling_numbers_equal a b s t e = sym (same_number b a (sym (unsigned_tied b a) ∙ ap is_eq e))

pub falling_lists_total : IsTotalOrder (λ (a b : List ℕ). slice_cmp nat_cmp b a)
falling_lists_total = back_total nat_list_cmp_total

pub falling_lists_equal : (a b : List ℕ) → IsTrue true → IsTrue true → slice_cmp nat_cmp b a ≡ Equal → a ≡ b
falling_lists_equal a b s t e = sym (same_partition b a (sym (is_eq-slice_cmp b a) ∙ ap is_eq e))
