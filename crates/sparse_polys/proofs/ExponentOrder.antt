-- The printed order of monomials is the reverse of the order by degree and then by list of exponents. For lists without zeros at the end: if one list
-- is a proper prefix of another, the rest of the longer list has an exponent that is not 0.
use Rattle.std.proofs.Common.{◌≡◌, ℕ, zero, suc, List, [], ◌∷◌, refl, sym, ap, ◌∙◌, inl, inr, ◌⊎◌, rules}
use Rattle.std.specs.Cmp.Lexicographic.{slice_cmp}
use Rattle.std.specs.Ordering.{nat_cmp, ordering_then}
use Rattle.std.specs.declared.cmp.Ordering.TheVariants.{Less, Greater}
use Rattle.sym_model.specs.Partition.{in_front, size, without_last_zeros}
use Rattle.sym_model.specs.PrintedOrder.{falling_lexicographic, printed_order}

-- either the list u of exponents comes before the empty list in decreasing lexicographic order, since it has a positive exponent, or all its
-- exponents are zeros
abbrev HasPositive : List ℕ → Type 0
HasPositive u = ((falling_lexicographic [] u ≡ Greater) × (falling_lexicographic u [] ≡ Less)) ⊎ (without_last_zeros u ≡ [])

has_positive : (u : List ℕ) → HasPositive u
has_positive [] = inr refl
has_positive (suc a ∷ u) = search rules
has_positive (zero ∷ u) = search (rules, (has_positive u))

pub front_tail : (a : ℕ) (u w : List ℕ) → in_front a u ≡ a ∷ w → u ≡ w
front_tail zero [] w e = cc
front_tail (suc a) [] w e = cc
front_tail zero (b ∷ u) w e = cc
front_tail (suc a) (b ∷ u) w e = cc

pub falling_lexicographic-trimmed :
    (x y : List ℕ) → without_last_zeros x ≡ x → without_last_zeros y ≡ y → falling_lexicographic x y ≡ slice_cmp nat_cmp y x
falling_lexicographic-trimmed [] [] p q = refl
falling_lexicographic-trimmed [] (b ∷ y) p q = search (rules, has_positive)
falling_lexicographic-trimmed (a ∷ x) [] p q = by (has_positive (a ∷ x))
  where
    by : HasPositive (a ∷ x) → falling_lexicographic (a ∷ x) [] ≡ Less
    by (inl h) = h.1
    by (inr e) = let n : a ∷ x ≡ [] = sym p ∙ e in cc
falling_lexicographic-trimmed (a ∷ x) (b ∷ y) p q = search (rules, front_tail, (falling_lexicographic-trimmed x y))

pub printed_order-trimmed :
    (x y : List ℕ) → without_last_zeros x ≡ x → without_last_zeros y ≡ y
    → ordering_then (nat_cmp (size y) (size x)) (slice_cmp nat_cmp y x) ≡ printed_order x y
printed_order-trimmed x y p q = ap (ordering_then (nat_cmp (size y) (size x))) (sym (falling_lexicographic-trimmed x y p q))

pub trimmed_once : (x : List ℕ) → without_last_zeros (without_last_zeros x) ≡ without_last_zeros x
trimmed_once [] = refl
trimmed_once (a ∷ x) = search (rules, (trimmed_once x))
