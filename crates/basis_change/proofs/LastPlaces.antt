-- Sums over the arrangements of a partition in n places, by the number in the last place. An arrangement is a list of n numbers: the parts of the
-- partition and zeros, in some order.
--     arrangement           the properties of an arrangement
--     arrangements-last     0 or one of the different parts is in the last place
--     arrangements-few      there is no arrangement in fewer places than parts
--     arrangements-none     the empty partition has only one arrangement
use Rattle.std.proofs.Common.{◌≡◌, ◌⊎◌, ℕ, zero, suc, ◌+◌, ◌-◌, ◌<◌, ◌≤◌, true, false, cond, eqb, nat_le, List, [], ◌∷◌, ◌++◌, map, length, replicate, refl, sym, ap, ◌∙◌, inl, inr, arith, ℤ, pos, ◌+ℤ◌, rules}
use Rattle.std.proofs.lemmas.Bool.{cases_eq, le-leb, eq-eqb, ne_eqb}
use Rattle.std.proofs.lemmas.Bool.Decides.{nat_tests}
use Rattle.sym_model.specs.Sum.{total, Among}
use Rattle.sym_model.specs.Polynomial.{same}
use Rattle.sym_model.specs.Partition.{IsPartition, size, insert_part, sorted_parts}
use Rattle.sym_model.specs.Bases.{has, down_from, exponent_lists}
use Rattle.sym_model.specs.RaisedPart.{without_one, distinct}
use Rattle.sym_model.specs.Arrangement.{arrangements}
use Rattle.sym_model.proofs.Sums.{total_ext, total_among, total_none, total_map, total_each, total_select, total_exchange, Among_from_select, down_from-below}
use Rattle.sym_model.proofs.Exponents.{tests_agree, same_from, same_true, same_apart}
use Rattle.sym_model.proofs.Monomials.{total_down_from-only, total_exponent_lists-zero, members_of-exponent_lists}
use Rattle.sym_model.proofs.SortedParts.{insert_part_comm, without_one-insert_part, insert_part-without_one, has-insert_part, without_one-zero, zero_or_has, has-zero_or, rows-sorted_parts, sorted_parts-zeros, size-taken, distinct-zero}
use Rattle.monomial_laws.proofs.PowerSums.{total_distinct-only}
use Rattle.monomial_laws.proofs.PowerSumLists.{has_from-distinct}
use lib.IntN.{+ℤ_idl}

-- ---- the length, the sum and the sorted parts of an arrangement

pub record IsArrangement (parts : List ℕ) (n : ℕ) (α : List ℕ) : Type 0 where
  pub long : length α ≡ n
  pub sum : size α ≡ size parts
  pub sorts : sorted_parts α ≡ parts

pub arrangement : (parts : List ℕ) (n : ℕ) (α : List ℕ) → Among α (arrangements parts n) → IsArrangement parts n α
arrangement parts n α m =
    let s = Among_from_select (λ α. same (sorted_parts α) parts) α (exponent_lists n (size parts)) m in
    let e = members_of-exponent_lists α n (size parts) s.0 in
    record { long = e.0; sum = e.1; sorts = same_true (sorted_parts α) parts s.1 }

pub arrangements-few : (F : List ℕ → ℤ) (parts : List ℕ) (n : ℕ) → n < length parts → total F (arrangements parts n) ≡ pos 0
arrangements-few F parts n h = search (rules, total_none, arrangement, rows-sorted_parts)

pub arrangements-none : (F : List ℕ → ℤ) (n : ℕ) → total F (arrangements [] n) ≡ F (replicate n 0)
arrangements-none F n = search (rules, total_select, total_exponent_lists-zero, sorted_parts-zeros)

cut : (f : ℕ → ℤ) (b e d : ℕ) → d ≡ b + e → total f (down_from e) ≡ total (λ (a : ℕ). cond (nat_le a e) (f a) (pos 0)) (down_from d)
cut f zero e d h =
    total_among f (λ (a : ℕ). cond (nat_le a e) (f a) (pos 0)) (down_from e)
    (λ a m. let l = down_from-below e a m in sym (ap (λ t. cond t (f a) (pos 0)) (le-leb a e l)))
    ∙ let same : e ≡ d = omega arith in ap (λ k. total (λ (a : ℕ). cond (nat_le a e) (f a) (pos 0)) (down_from k)) same
cut f (suc b) e d h =
    let next : suc (b + e) ≡ d = omega arith in
    cut f b e (b + e) refl
    ∙ sym (+ℤ_idl (total (λ (a : ℕ). cond (nat_le a e) (f a) (pos 0)) (down_from (b + e))))
    ∙ ap (λ t. cond t (f (suc (b + e))) (pos 0) +ℤ total (λ (a : ℕ). cond (nat_le a e) (f a) (pos 0)) (down_from (b + e))) (sym (past b e))
    ∙ ap (λ k. total (λ (a : ℕ). cond (nat_le a e) (f a) (pos 0)) (down_from k)) next
  where
    past : (b e : ℕ) → nat_le (suc (b + e)) e ≡ false
    past b e = grind (arith, nat_tests)

triangle : (f : ℕ → ℕ → ℤ) (d : ℕ)
    → total (λ (b : ℕ). total (λ (a : ℕ). f b a) (down_from (d - b))) (down_from d) ≡ total (λ (a : ℕ). total (λ (b : ℕ). f b a) (down_from (d - a))) (down_from d)
triangle f d =
    total_among (λ (b : ℕ). total (λ (a : ℕ). f b a) (down_from (d - b))) (λ (b : ℕ). total (λ (a : ℕ). cond (nat_le a (d - b)) (f b a) (pos 0)) (down_from d)) (down_from d)
    (λ b m. let h = down_from-below d b m in cut (f b) b (d - b) d (omega arith))
    ∙ total_exchange (λ (b a : ℕ). cond (nat_le a (d - b)) (f b a) (pos 0)) (down_from d) (down_from d)
    ∙ total_among (λ (a : ℕ). total (λ (b : ℕ). cond (nat_le a (d - b)) (f b a) (pos 0)) (down_from d)) (λ (a : ℕ). total (λ (b : ℕ). f b a) (down_from (d - a))) (down_from d)
    (λ a m. let h = down_from-below d a m in
    total_among (λ (b : ℕ). cond (nat_le a (d - b)) (f b a) (pos 0)) (λ (b : ℕ). cond (nat_le b (d - a)) (f b a) (pos 0)) (down_from d)
    (λ b i. let k = down_from-below d b i in ap (λ t. cond t (f b a) (pos 0)) (turned a b d h k))
    ∙ sym (cut (λ (b : ℕ). f b a) a (d - a) d (omega arith)))
  where
    turned : (a b d : ℕ) → a ≤ d → b ≤ d → nat_le a (d - b) ≡ nat_le b (d - a)
    turned a b d h k = grind (arith, nat_tests)

exponent_lists-last : (F : List ℕ → ℤ) (n d : ℕ)
    → total F (exponent_lists (suc n) d) ≡ total (λ (a : ℕ). total (λ α. F (α ++ a ∷ [])) (exponent_lists n (d - a))) (down_from d)
exponent_lists-last F zero d = search (rules, total_each, total_ext)
exponent_lists-last F (suc n) d =
    total_each F (λ a. map (λ α. a ∷ α) (exponent_lists (suc n) (d - a))) (down_from d)
    ∙ total_ext (λ (b : ℕ). total F (map (λ (α : List ℕ). b ∷ α) (exponent_lists (suc n) (d - b)))) (λ (b : ℕ). total (λ (a : ℕ). inner b a (d - b - a)) (down_from (d - b)))
    (λ b. total_map F (λ (α : List ℕ). b ∷ α) (exponent_lists (suc n) (d - b)) ∙ exponent_lists-last (λ α. F (b ∷ α)) n (d - b)) (down_from d)
    ∙ triangle (λ b a. inner b a (d - b - a)) d
    ∙ total_ext (λ (a : ℕ). total (λ (b : ℕ). inner b a (d - b - a)) (down_from (d - a))) (λ (a : ℕ). total (λ α. F (α ++ a ∷ [])) (exponent_lists (suc n) (d - a)))
    (λ a.
    total_ext (λ (b : ℕ). inner b a (d - b - a)) (λ (b : ℕ). total (λ (α : List ℕ). F (α ++ a ∷ [])) (map (λ (α : List ℕ). b ∷ α) (exponent_lists n (d - a - b))))
    (λ b. let e : d - b - a ≡ d - a - b = omega arith in ap (inner b a) e ∙ sym (total_map (λ (α : List ℕ). F (α ++ a ∷ [])) (λ (α : List ℕ). b ∷ α) (exponent_lists n (d - a - b))))
    (down_from (d - a))
    ∙ sym (total_each (λ (α : List ℕ). F (α ++ a ∷ [])) (λ b. map (λ α. b ∷ α) (exponent_lists n (d - a - b))) (down_from (d - a))))
    (down_from d)
  where
    inner : ℕ → ℕ → ℕ → ℤ
    inner b a k = total (λ (α : List ℕ). F (b ∷ (α ++ a ∷ []))) (exponent_lists n k)

-- ---- sums over the arrangements of a partition, by their last number

sorted_parts-last : (α : List ℕ) (a : ℕ) → sorted_parts (α ++ a ∷ []) ≡ insert_part a (sorted_parts α)
sorted_parts-last [] a = refl
sorted_parts-last (b ∷ α) a = ap (insert_part b) (sorted_parts-last α a) ∙ insert_part_comm b a (sorted_parts α)

put_test : (a : ℕ) (parts σ : List ℕ) → IsPartition parts → has a (0 ∷ parts) ≡ true → same (insert_part a σ) parts ≡ same σ (without_one a parts)
put_test zero parts σ p h = ap (λ l. same σ l) (sym (without_one-zero parts p.positive))
put_test (suc a) parts σ p h =
    tests_agree (same (insert_part (suc a) σ) parts) (same σ (without_one (suc a) parts))
    (λ e. same_from σ (without_one (suc a) parts) (sym (without_one-insert_part (suc a) σ (omega arith)) ∙ ap (without_one (suc a)) (same_true (insert_part (suc a) σ) parts e)))
    (λ e. same_from (insert_part (suc a) σ) parts (ap (insert_part (suc a)) (same_true σ (without_one (suc a) parts) e) ∙ insert_part-without_one (suc a) parts (omega arith) p.falls (there (zero_or_has (suc a) parts h))))
  where
    there : (suc a ≡ 0) ⊎ (has (suc a) parts ≡ true) → has (suc a) parts ≡ true
    there (inl e) = absurd (omega arith)
    there (inr e) = e

no_test : (a : ℕ) (parts σ : List ℕ) → has a (0 ∷ parts) ≡ false → same (insert_part a σ) parts ≡ false
no_test zero parts σ h = absurd (cc)
no_test (suc a) parts σ h =
    same_apart (insert_part (suc a) σ) parts
    (λ e. let t : has (suc a) parts ≡ true = ap (has (suc a)) (sym e) ∙ has-insert_part (suc a) σ (omega arith) in
    let u = has-zero_or (suc a) parts (inr t) in absurd (cc))

-- the sum of F(α ++ [a]) over the arrangements α, in n places, of `parts` without one a
abbrev ending : (List ℕ → ℤ) → List ℕ → ℕ → ℕ → ℤ
ending F parts n a = total (λ α. F (α ++ a ∷ [])) (arrangements (without_one a parts) n)

-- the sum of F(α ++ [a]) over the lists α of n numbers for which α ++ [a] sorts to `parts`
abbrev chosen : (List ℕ → ℤ) → List ℕ → ℕ → ℕ → ℤ
chosen F parts n a = total (λ α. cond (same (sorted_parts (α ++ a ∷ [])) parts) (F (α ++ a ∷ [])) (pos 0)) (exponent_lists n (size parts - a))

chosen-is : (F : List ℕ → ℤ) (parts : List ℕ) (n a : ℕ) → IsPartition parts → chosen F parts n a ≡ cond (has a (0 ∷ parts)) (ending F parts n a) (pos 0)
chosen-is F parts n a p = search (rules, size-taken, total_ext, sorted_parts-last, put_test, total_select, total_none, no_test)

within_size : (b : ℕ) (parts : List ℕ) → IsPartition parts → has b (0 ∷ parts) ≡ true → b ≤ size parts
within_size b parts p h = let e = size-taken b parts p h in omega arith

pub arrangements-last : (F : List ℕ → ℤ) (parts : List ℕ) (n : ℕ) → IsPartition parts
    → total F (arrangements parts (suc n)) ≡ total (λ (a : ℕ). total (λ α. F (α ++ a ∷ [])) (arrangements (without_one a parts) n)) (0 ∷ distinct parts)
arrangements-last F parts n p =
    total_select F (λ α. same (sorted_parts α) parts) (exponent_lists (suc n) (size parts))
    ∙ exponent_lists-last (λ α. cond (same (sorted_parts α) parts) (F α) (pos 0)) n (size parts)
    ∙ total_ext (chosen F parts n) (λ (a : ℕ). total (λ (b : ℕ). cond (eqb b a) (J b) (pos 0)) (distinct (0 ∷ parts)))
    (λ a. chosen-is F parts n a p ∙ sym (total_distinct-only J a (0 ∷ parts)))
    (down_from (size parts))
    ∙ total_exchange (λ (a b : ℕ). cond (eqb b a) (J b) (pos 0)) (down_from (size parts)) (distinct (0 ∷ parts))
    ∙ total_among (λ (b : ℕ). total (λ (a : ℕ). cond (eqb b a) (J b) (pos 0)) (down_from (size parts))) J (distinct (0 ∷ parts))
    (λ b m.
    total_ext (λ (a : ℕ). cond (eqb b a) (J b) (pos 0)) (λ (a : ℕ). cond (eqb a b) (J a) (pos 0)) (λ a. turned a b (cases_eq a b)) (down_from (size parts))
    ∙ total_down_from-only J b (size parts)
    ∙ ap (λ t. cond t (J b) (pos 0)) (le-leb b (size parts) (within_size b parts p (has_from-distinct b (0 ∷ parts) m))))
    ∙ ap (total J) (distinct-zero parts p.positive)
  where
    J : ℕ → ℤ
    J = ending F parts n

    turned : (a b : ℕ) → (a ≡ b) ⊎ (a ≡ b → ⊥) → cond (eqb b a) (J b) (pos 0) ≡ cond (eqb a b) (J a) (pos 0)
    turned a b (inl e) = rw (eq-eqb a b e, eq-eqb b a (sym e)) (ap J (sym e))
    turned a b (inr n) = rw (ne_eqb a b n, ne_eqb b a (λ e. n (sym e))) refl
