-- Values of the label types satisfy the tests `is_label` and `is_permutation_label`.
use Rattle.std.proofs.Common.{◌≡◌, ℕ, ◌≤◌, inl, inr, true, false, ◌&&◌, List, [], ◌∷◌, length, eqb, refl, sym, ap, subst}
use Rattle.std.specs.Prelude.{not, nat_le, nat_lt, nat_eq}
use Rattle.std.proofs.lemmas.Bool.{and_from, le-leb, lt-ltb, ne_eqb, or_from, false_from_ne_true}
use Rattle.sym_model.specs.Polynomial.{same}
use Rattle.sym_model.specs.Bases.{has}
use Rattle.sym_model.specs.BetaList.{has_equal_entries}
use Rattle.sym_model.specs.Sum.{Among, Once}
use Rattle.sym_model.specs.Permutation.{kept}
use Rattle.sym_model.specs.Canonical.{is_label}
use Rattle.sym_model.specs.LabelLimits.{is_permutation_label, are_letters}
use Rattle.sym_model.proofs.Exponents.{same_from}
use Rattle.sym_model.proofs.Orders.{is_label-from}
use Rattle.partitions.specs.Limits.{IsWithinLimits}
use Rattle.perm_codes.specs.Limits.{IsWithinLimits as IsShortKept}
use Rattle.std.specs.Cmp.Lexicographic.{pointwise, nat_list_eq_equiv}
use Rattle.printing_laws.proofs.Labels.{same_partition}

-- a partition with at most 512 rows and 4096 cells passes the test of a label
pub is_label-limits : (parts : List ℕ) → IsWithinLimits parts → is_label parts ≡ true
is_label-limits parts l = is_label-from parts (record { partition = l.partition; rows = l.few; size = l.small })

are_letters-from : (n : ℕ) (w : List ℕ) → ((a : ℕ) → Among a w → (1 ≤ a) × (a ≤ n)) → are_letters n w ≡ true
are_letters-from n [] h = refl
are_letters-from n (a ∷ w) h =
    let p = h a (inl refl) in
    and_from (nat_le 1 a && nat_le a n) (are_letters n w)
    (and_from (nat_le 1 a) (nat_le a n) (le-leb 1 a p.0) (le-leb a n p.1))
    (are_letters-from n w (λ b k. h b (inr k)))

has_not : (a : ℕ) (w : List ℕ) → (Among a w → ⊥) → has a w ≡ false
has_not a [] h = refl
has_not a (b ∷ w) h =
    or_from (eqb b a) (has a w) (ne_eqb b a (λ e. h (inl (sym e)))) (has_not a w (λ k. h (inr k)))

apart-from : (w : List ℕ) → Once w → has_equal_entries w ≡ false
apart-from [] h = refl
apart-from (a ∷ w) h = or_from (has a w) (has_equal_entries w) (has_not a w h.0) (apart-from w h.1)

-- a permutation passes the test of a label if it has at most 255 letters and no fixed letter at its end, or is the identity, written as 1
pub is_permutation_label-limits : (w : List ℕ) → IsShortKept w → is_permutation_label w ≡ true
is_permutation_label-limits w l =
    let letters = are_letters-from (length w) w l.kept.one_line.letters in
    let apart = ap not (apart-from w l.kept.one_line.once) in
    and_from _ (nat_le (length w) 255)
    (and_from _ (same (kept w) w)
    (and_from _ (nat_lt 0 (length w))
    (and_from (are_letters (length w) w) (not (has_equal_entries w)) letters apart)
    (lt-ltb 0 (length w) l.kept.some))
    (same_from (kept w) w l.kept.unfixed))
    (le-leb (length w) 255 l.few)

pub equal_from : (a b : List ℕ) → a ≡ b → pointwise nat_eq a b ≡ true
equal_from a b e = subst (λ x. pointwise nat_eq a x ≡ true) e (nat_list_eq_equiv.refl a)

pub equal_apart : (a b : List ℕ) → (a ≡ b → ⊥) → pointwise nat_eq a b ≡ false
equal_apart a b n = false_from_ne_true (pointwise nat_eq a b) (λ e. n (same_partition a b e))
