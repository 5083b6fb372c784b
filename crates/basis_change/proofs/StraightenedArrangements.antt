-- The list to which the arrangements of a partition straighten, computed from the lists for the partition without one part. An arrangement in n
-- places is a list of n exponents: the parts of the partition and zeros, in some order.
--     last_part          the list is the sum, over the different parts a, of the results of adding special rim hooks of a cells to the partitions in
--                        the list for the partition without one a
--     no_part            the list for the empty partition is the empty partition with the coefficient 1
use Rattle.std.proofs.Common.{◌≡◌, ℕ, zero, suc, ◌+◌, ◌-◌, ◌<◌, cond, nat_le, List, [], ◌∷◌, ◌++◌, length, refl, sym, ap, ap₂, subst, ◌∙◌, arith, ℤ, pos, ◌+ℤ◌, ◌*ℤ◌, rules}
use Rattle.std.proofs.lemmas.Bool.Decides.{nat_tests}
use Rattle.sym_model.specs.Sum.{total, Among}
use Rattle.sym_model.specs.Polynomial.{pair}
use Rattle.sym_model.specs.Partition.{IsPartition, ArePositive, rows, after}
use Rattle.sym_model.specs.Alternant.{staircase}
use Rattle.sym_model.specs.Arrangement.{arrangements}
use Rattle.sym_model.specs.RaisedPart.{without_one, distinct}
use Rattle.sym_model.specs.Straightening.{shifted}
use Rattle.sym_model.specs.WholeTerms.{WholeTerms}
use Rattle.sym_model.proofs.Sums.{total_ext, total_among, total_none, total_add, total_map, Among-map}
use Rattle.sym_model.proofs.Exponents.{length-join_same, join_zeros}
use Rattle.sym_model.proofs.Ring.{one-product, distributes_left}
use Rattle.std.proofs.lemmas.List.{length-replicate}
use Rattle.sym_model.proofs.AfterLists.{after_among}
use Rattle.sym_model.proofs.Parts.{length-staircase}
use Rattle.sym_model.proofs.SortedParts.{without_one-zero, has-zero}
use Rattle.monomial_laws.proofs.PowerSumLists.{has_from-distinct}
use Rattle.basis_change.specs.SpecialRimHooks.{straight_value, arranged_value, hooked, hooks_value, within_rows, IsStraightening, AreStraightenings, all_hooks}
use Rattle.basis_change.proofs.LastPlaces.{arrangement, arrangements-few, arrangements-last, arrangements-none}
use Rattle.basis_change.proofs.FrontSorting.{above, value-front, value-zero}
use Rattle.basis_change.proofs.HookRows.{value-rows, value-far, total_after-cut}
use lib.IntN.{+ℤ_idr, *ℤ-zero}
use Rattle.std.proofs.lemmas.Bool.{lt-leb}
use Rattle.alternant_laws.proofs.EnoughPlaces.{staircase-raised}

-- ---- straightening a list of exponents whose last number is a

length-shifted : (α : List ℕ) → length (shifted α) ≡ length α
length-shifted α = length-join_same (length α) α (staircase (length α)) refl (length-staircase (length α))

shifted-last : (α : List ℕ) (a : ℕ) → shifted (α ++ a ∷ []) ≡ above a (shifted α)
shifted-last [] a = let e : a + 0 ≡ a = omega arith in ap (λ k. k ∷ []) e
shifted-last (b ∷ α) a = ap₂ (λ (k : ℕ) (l : List ℕ). k ∷ l) (let e = long α in let d : b + length (α ++ a ∷ []) ≡ suc (b + length α) = omega arith in d) (shifted-last α a)
  where
    long : (α : List ℕ) → length (α ++ a ∷ []) ≡ suc (length α)
    long [] = refl
    long (b ∷ α) = ap suc (long α)

ending_value : (g : List ℕ → ℤ) (parts : List ℕ) (terms : WholeTerms) (n a : ℕ) → IsStraightening parts terms
    → total (λ α. straight_value g (shifted (α ++ a ∷ []))) (arrangements parts n) ≡ pair terms (within_rows n (λ ν. straight_value g (hooked ν (suc n) a)))
ending_value g parts terms n a s = search (rules, total_among, shifted-last, value-front, above, length-shifted, arrangement)

zero_value : (g : List ℕ → ℤ) (parts : List ℕ) (n : ℕ) → total (λ α. straight_value g (shifted (α ++ 0 ∷ []))) (arrangements parts n) ≡ arranged_value g parts n
zero_value g parts n = search (rules, total_ext, shifted-last, value-zero)

hooks_within : (n : ℕ) (g : List ℕ → ℤ) (a : ℕ) (ν : List ℕ) → 0 < a
    → hooks_value (within_rows n g) a ν ≡ total (λ (count : ℕ). cond (nat_le count n) (straight_value g (hooked ν count a)) (pos 0)) (after (rows ν) a)
hooks_within n g a ν p =
    total_among (λ (count : ℕ). straight_value (within_rows n g) (hooked ν count a)) (λ (count : ℕ). cond (nat_le count n) (straight_value g (hooked ν count a)) (pos 0)) (after (rows ν) a)
    (λ count m. let h = (after_among (rows ν) a count m).0 in value-rows n g ν count a (omega arith) p)

hooks_none : (g : List ℕ → ℤ) (a : ℕ) (ν : List ℕ) → 0 < a → hooks_value (within_rows 0 g) a ν ≡ pos 0
hooks_none g a ν p =
    hooks_within 0 g a ν p
    ∙ total_none (λ (count : ℕ). cond (nat_le count 0) (straight_value g (hooked ν count a)) (pos 0)) (after (rows ν) a)
    (λ count m. let h = (after_among (rows ν) a count m).0 in ap (λ b. cond b (straight_value g (hooked ν count a)) (pos 0)) (lt-leb count 0 (omega arith)))

hooks_more : (n : ℕ) (g : List ℕ → ℤ) (a : ℕ) (ν : List ℕ) → 0 < a
    → hooks_value (within_rows (suc n) g) a ν ≡ hooks_value (within_rows n g) a ν +ℤ within_rows n (λ μ. straight_value g (hooked μ (suc n) a)) ν
hooks_more n g a ν p =
    hooks_within (suc n) g a ν p
    ∙ total_after-cut (λ count. straight_value g (hooked ν count a)) (rows ν) a n (λ count h. value-far g ν count a p h)
    ∙ ap (λ z. z +ℤ within_rows n (λ μ. straight_value g (hooked μ (suc n) a)) ν) (sym (hooks_within n g a ν p))

-- ---- the sum over all parts that can be the last number of an arrangement

part_more : (n : ℕ) (g : List ℕ → ℤ) (terms : WholeTerms) (a : ℕ) → 0 < a
    → pair terms (hooks_value (within_rows (suc n) g) a) ≡ pair terms (hooks_value (within_rows n g) a) +ℤ pair terms (within_rows n (λ ν. straight_value g (hooked ν (suc n) a)))
part_more n g terms a p = search (rules, total_ext, hooks_more, distributes_left, total_add)

pub distinct-positive : (parts : List ℕ) (a : ℕ) → ArePositive parts → Among a (distinct parts) → 0 < a
distinct-positive parts zero p m = absurd (let h = has_from-distinct 0 parts m in let z = has-zero parts p in cc)
distinct-positive parts (suc a) p m = omega arith

module _ (parts : List ℕ) (lists : List (ℕ × WholeTerms)) (p : IsPartition parts) (l : 0 < length parts) (s : AreStraightenings parts lists) where
  positive : (x : ℕ × WholeTerms) → Among x lists → 0 < x.0
  positive x m = distinct-positive parts x.0 p.positive (subst (Among x.0) s.parts_are (Among-map (λ (l : ℕ × WholeTerms). l.0) x lists m))

  arranged-is : (n : ℕ) (g : List ℕ → ℤ) → arranged_value g parts n ≡ all_hooks (within_rows n g) lists
  arranged-is zero g = search (rules, arrangements-few, total_none, hooks_none, positive, *ℤ-zero)
  arranged-is (suc n) g =
      arrangements-last (λ α. straight_value g (shifted α)) parts n p
      ∙ ap₂ ◌+ℤ◌
      (ap (λ σ. total (λ α. straight_value g (shifted (α ++ 0 ∷ []))) (arrangements σ n)) (without_one-zero parts p.positive)
      ∙ zero_value g parts n
      ∙ arranged-is n g)
      (ap (total (λ (a : ℕ). total (λ α. straight_value g (shifted (α ++ a ∷ []))) (arrangements (without_one a parts) n))) (sym s.parts_are)
      ∙ total_map (λ (a : ℕ). total (λ α. straight_value g (shifted (α ++ a ∷ []))) (arrangements (without_one a parts) n)) (λ (x : ℕ × WholeTerms). x.0) lists
      ∙ total_among (λ (x : ℕ × WholeTerms). total (λ α. straight_value g (shifted (α ++ x.0 ∷ []))) (arrangements (without_one x.0 parts) n)) (λ (x : ℕ × WholeTerms). pair x.1 (within_rows n (λ ν. straight_value g (hooked ν (suc n) x.0)))) lists
      (λ x m. ending_value g (without_one x.0 parts) x.1 n x.0 (s.straightens x m)))
      ∙ sym (total_among (λ (x : ℕ × WholeTerms). pair x.1 (hooks_value (within_rows (suc n) g) x.0))
      (λ (x : ℕ × WholeTerms). pair x.1 (hooks_value (within_rows n g) x.0) +ℤ pair x.1 (within_rows n (λ ν. straight_value g (hooked ν (suc n) x.0)))) lists
      (λ x m. part_more n g x.1 x.0 (positive x m))
      ∙ total_add (λ (x : ℕ × WholeTerms). pair x.1 (hooks_value (within_rows n g) x.0)) (λ (x : ℕ × WholeTerms). pair x.1 (within_rows n (λ ν. straight_value g (hooked ν (suc n) x.0)))) lists)

pub last_part : (parts : List ℕ) (lists : List (ℕ × WholeTerms)) (terms : WholeTerms) → IsPartition parts → 0 < length parts
    → AreStraightenings parts lists → ((g : List ℕ → ℤ) → pair terms g ≡ all_hooks g lists) → IsStraightening parts terms
last_part parts lists terms p l s e n g = arranged-is parts lists p l s n g ∙ sym (e (within_rows n g))

staircase_value : (g : List ℕ → ℤ) (n : ℕ) → straight_value g (staircase n) ≡ g []
staircase_value g zero = one-product (g [])
staircase_value g (suc n) = ap (straight_value g) (staircase-raised n) ∙ value-zero g (staircase n) ∙ staircase_value g n

pub no_part : IsStraightening [] (([], pos 1) ∷ [])
no_part n g = search (rules, arrangements-none, length-replicate, join_zeros, length-staircase, staircase_value, one-product, +ℤ_idr, nat_tests)
