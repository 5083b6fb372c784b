-- The coefficients of Schur polynomials are Kostka numbers. A *strip* is a horizontal strip that is removed from a partition λ.
--     strips_off-removals     `strips_off k` lists the shapes in `removals` (λ without a strip of any size) for which the strip has k cells
--     coefficient-schur_last  the coefficient of x^α in s_λ, as a sum over the partitions that are λ without a strip of k cells; k is the last
--                             exponent in α
--     coefficient-kostka      the coefficient of x^κ in s_λ is `kostka λ κ`
use Rattle.std.proofs.Common.{◌<◌, ◌⊎◌, ◌≡◌, ℕ, zero, suc, ◌+◌, ◌-◌, ◌≤◌, Bool, true, false, cond, ◌&&◌, ◌==◌, min, List, [], ◌∷◌, ◌++◌, map, length, sym, ◌∙◌, ap, subst, refl, inl, inr, arith, ℤ, pos, ◌+ℤ◌, rules}
use Rattle.std.proofs.lemmas.Bool.{ne_eqb, eq-eqb, eqb-true}
use Rattle.sym_model.specs.Sum.{total, Among}
use Rattle.sym_model.specs.Partition.{Falls, IsPartition, size, part, in_front, without_last_zeros}
use Rattle.sym_model.specs.Polynomial.{same, coefficient}
use Rattle.sym_model.specs.Bases.{down_from}
use Rattle.sym_model.specs.Schur.{schur}
use Rattle.sym_model.proofs.Sums.{total_append, Among_from_append, Among-append_right, total_ext, total_among, total_zero, total_map, total_each, Among_from_each, Among_from_map}
use Rattle.sym_model.proofs.Exponents.{tests_agree}
use Rattle.sym_model.proofs.Polynomials.{at_only, coefficient_pair, pair_zero}
use Rattle.alternant_laws.proofs.TableauInvolution.{symmetric-skew_schur}
use Rattle.sym_model.proofs.SortedParts.{IsPartition-none}
use Rattle.sym_model.proofs.Parts.{length-in_front, size-in_front, part-in_front}
use Rattle.schur_laws.specs.Kostka.{below, strips_off, kostka}
use Rattle.schur_laws.proofs.GreatestLetters.{total_down_from-ext, total_down_from-cut}
use Rattle.schur_laws.proofs.TableauRows.{over_rows, over_rows-ext, over_rows-zeros, pair-schur_rows}
use Rattle.schur_laws.proofs.StripsRemoved.{removals, over_rows-greatest}
use Rattle.schur_laws.proofs.Exchanged.{coefficient-last_first}
use lib.IntN.{+ℤ_idr, +ℤ_comm}
use Rattle.sym_model.proofs.Restrictions.{and_middle}

pub below-tells : (n i : ℕ) → Among i (below n) → i < n
below-tells zero i m = absurd m
below-tells (suc n) i m = by (Among_from_append i (below n) (n ∷ []) m) (below-tells n i)
  where
    by : Among i (below n) ⊎ Among i (n ∷ []) → (Among i (below n) → i < n) → i < suc n
    by (inl h) rec = let l = rec h in omega arith
    by (inr (inl e)) rec = omega arith
    by (inr (inr none)) rec = absurd none

pub Among-below : (n : ℕ) → Among n (below (suc n))
Among-below n = Among-append_right n (below n) (n ∷ []) (inl refl)

total_below : (f : ℕ → ℤ) (n : ℕ) → total f (below (suc n)) ≡ total f (down_from n)
total_below f zero = refl
total_below f (suc n) = search (rules, total_append, +ℤ_idr, +ℤ_comm, (total_below f n))

pub strips_off-removals : (k : ℕ) (parts : List ℕ) (χ : List ℕ → ℤ)
    → total χ (strips_off k parts) ≡ total (λ (r : List ℕ × ℕ). cond (r.1 == k) (χ (without_last_zeros r.0)) (pos 0)) (removals parts)
strips_off-removals zero [] χ = refl
strips_off-removals (suc k) [] χ = search rules
strips_off-removals k (a ∷ parts) χ =
    total_each χ (λ (i : ℕ). map (λ (rest : List ℕ). in_front (a - i) rest) (strips_off (k - i) parts)) (below (suc few))
    ∙ total_below (λ (i : ℕ). total χ (map (λ (rest : List ℕ). in_front (a - i) rest) (strips_off (k - i) parts))) few
    ∙ total_ext (λ (i : ℕ). total χ (map (λ (rest : List ℕ). in_front (a - i) rest) (strips_off (k - i) parts))) of_size
    (λ i. total_map χ (λ (rest : List ℕ). in_front (a - i) rest) (strips_off (k - i) parts) ∙ strips_off-removals (k - i) parts (λ rest. χ (in_front (a - i) rest)))
    (down_from few)
    ∙ total_down_from-ext of_size by_size few
    (λ i h. total_ext (λ (r : List ℕ × ℕ). cond (r.1 == k - i) (χ (in_front (a - i) (without_last_zeros r.0))) (pos 0)) (λ (r : List ℕ × ℕ). cond (i + r.1 == k) (χ (in_front (a - i) (without_last_zeros r.0))) (pos 0))
    (λ r. ap (λ b. cond b (χ (in_front (a - i) (without_last_zeros r.0))) (pos 0)) (tests i r.1 (omega arith))) (removals parts))
    ∙ sym (total_down_from-cut by_size few (all - few)
    (λ i l m. total_ext (λ (r : List ℕ × ℕ). cond (i + r.1 == k) (χ (in_front (a - i) (without_last_zeros r.0))) (pos 0)) (λ (r : List ℕ × ℕ). pos 0)
    (λ r. ap (λ b. cond b (χ (in_front (a - i) (without_last_zeros r.0))) (pos 0)) (ne_eqb (i + r.1) k (λ e. absurd (omega arith)))) (removals parts)
    ∙ total_zero (removals parts)))
    ∙ ap (λ d. total by_size (down_from d)) (let e : all - few + few ≡ all = omega arith in e)
    ∙ sym (total_each value (λ (i : ℕ). map (λ (r : List ℕ × ℕ). ((a - i) ∷ r.0, i + r.1)) (removals parts)) (down_from all)
    ∙ total_ext (λ (i : ℕ). total value (map (λ (r : List ℕ × ℕ). ((a - i) ∷ r.0, i + r.1)) (removals parts))) by_size
    (λ i. total_map value (λ (r : List ℕ × ℕ). ((a - i) ∷ r.0, i + r.1)) (removals parts)) (down_from all))
  where
    all : ℕ
    all = a - part parts 1

    few : ℕ
    few = min k (a - part parts 1)

    value : List ℕ × ℕ → ℤ
    value r = cond (r.1 == k) (χ (without_last_zeros r.0)) (pos 0)

    of_size : ℕ → ℤ
    of_size i = total (λ (r : List ℕ × ℕ). cond (r.1 == k - i) (χ (in_front (a - i) (without_last_zeros r.0))) (pos 0)) (removals parts)

    by_size : ℕ → ℤ
    by_size i = total (λ (r : List ℕ × ℕ). cond (i + r.1 == k) (χ (in_front (a - i) (without_last_zeros r.0))) (pos 0)) (removals parts)

    tests : (i s : ℕ) → i ≤ k → (s == k - i) ≡ (i + s == k)
    tests i s h =
        tests_agree (s == k - i) (i + s == k)
        (λ e. eq-eqb (i + s) k (let d = eqb-true s (k - i) e in omega arith))
        (λ e. eq-eqb s (k - i) (let d = eqb-true (i + s) k e in omega arith))

-- ---- the coefficient of x^α in s_λ, by the last exponent of α

same-last : (γ α : List ℕ) (s k : ℕ) → same (γ ++ (s ∷ [])) (α ++ (k ∷ [])) ≡ ((s == k) && same γ α)
same-last [] [] s k = refl
same-last [] (b ∷ α) s k = longer (s == b) (s == k) α
  where
    longer : (p q : Bool) (α : List ℕ) → (p && same [] (α ++ (k ∷ []))) ≡ (q && false)
    longer true true [] = refl
    longer true true (c ∷ α) = refl
    longer true false [] = refl
    longer true false (c ∷ α) = refl
    longer false true α = refl
    longer false false α = refl
same-last (c ∷ γ) [] s k = longer (c == k) (s == k) γ
  where
    longer : (p q : Bool) (γ : List ℕ) → (p && same (γ ++ (s ∷ [])) []) ≡ (q && false)
    longer true true [] = refl
    longer true true (c ∷ γ) = refl
    longer true false [] = refl
    longer true false (c ∷ γ) = refl
    longer false true γ = refl
    longer false false γ = refl
same-last (c ∷ γ) (b ∷ α) s k = ap (λ t. (c == b) && t) (same-last γ α s k) ∙ and_middle (c == b) (s == k) (same γ α)

coefficient-rows : (n : ℕ) (parts α : List ℕ) → coefficient (schur parts n) α ≡ over_rows n [] parts (at_only α)
coefficient-rows n parts α = coefficient_pair (schur parts n) α ∙ pair-schur_rows n parts (at_only α)

coefficient-zeros : (n : ℕ) (parts α : List ℕ) → coefficient (schur parts n) α ≡ coefficient (schur (without_last_zeros parts) n) α
coefficient-zeros n parts α = coefficient-rows n parts α ∙ sym (over_rows-zeros n [] parts (at_only α)) ∙ sym (coefficient-rows n (without_last_zeros parts) α)

rows_under : (n : ℕ) (parts α : List ℕ) (b : Bool) → over_rows n [] parts (λ γ. cond (b && same γ α) (pos 1) (pos 0)) ≡ cond b (coefficient (schur parts n) α) (pos 0)
rows_under n parts α true = sym (coefficient-rows n parts α)
rows_under n parts α false = sym (pair-schur_rows n parts (λ γ. pos 0)) ∙ pair_zero (schur parts n)

pub coefficient-schur_last : (n k : ℕ) (parts α : List ℕ) → Falls parts
    → coefficient (schur parts (suc n)) (α ++ (k ∷ [])) ≡ total (λ (rest : List ℕ). coefficient (schur rest n) α) (strips_off k parts)
coefficient-schur_last n k parts α f =
    coefficient-rows (suc n) parts (α ++ (k ∷ []))
    ∙ over_rows-greatest n parts (at_only (α ++ (k ∷ []))) f
    ∙ total_ext (λ (r : List ℕ × ℕ). over_rows n [] r.0 (λ γ. at_only (α ++ (k ∷ [])) (γ ++ (r.1 ∷ []))))
    (λ (r : List ℕ × ℕ). cond (r.1 == k) (coefficient (schur (without_last_zeros r.0) n) α) (pos 0))
    (λ r.
    over_rows-ext n [] r.0 (λ γ. at_only (α ++ (k ∷ [])) (γ ++ (r.1 ∷ []))) (λ γ. cond ((r.1 == k) && same γ α) (pos 1) (pos 0))
    (λ γ l. ap (λ b. cond b (pos 1) (pos 0)) (same-last γ α r.1 k))
    ∙ rows_under n r.0 α (r.1 == k)
    ∙ ap (λ z. cond (r.1 == k) z (pos 0)) (coefficient-zeros n r.0 α))
    (removals parts)
    ∙ sym (strips_off-removals k parts (λ rest. coefficient (schur rest n) α))

-- `rest` is a partition with k cells less than `parts`; it does not have more rows than `parts`, and its first part is not greater
pub record IsLeft (k : ℕ) (parts rest : List ℕ) : Type 0 where
  pub partition : IsPartition rest
  pub few : length rest ≤ length parts
  pub first : part rest 1 ≤ part parts 1
  pub size_is : size rest + k ≡ size parts

pub IsPartition-in_front : (a : ℕ) (parts : List ℕ) → IsPartition parts → part parts 1 ≤ a → IsPartition (in_front a parts)
IsPartition-in_front zero [] p h = p
IsPartition-in_front zero (b ∷ parts) p h = absurd (let q = p.positive.0 in omega arith)
IsPartition-in_front (suc a) [] p h = record { falls = tt; positive = (omega arith, tt) }
IsPartition-in_front (suc a) (b ∷ parts) p h = record { falls = (h, p.falls); positive = (omega arith, p.positive) }

pub partition_tail : (a : ℕ) (parts : List ℕ) → IsPartition (a ∷ parts) → IsPartition parts × (part parts 1 ≤ a)
partition_tail a [] p = (IsPartition-none, omega arith)
partition_tail a (b ∷ parts) p = (record { falls = p.falls.1; positive = p.positive.1 }, p.falls.0)

pub strips_off-tell : (k : ℕ) (parts rest : List ℕ) → IsPartition parts → Among rest (strips_off k parts) → IsLeft k parts rest
strips_off-tell zero [] rest p (inl e) = subst (λ r. IsLeft 0 [] r) (sym e) (record { partition = IsPartition-none; few = omega arith; first = omega arith; size_is = refl })
strips_off-tell zero [] rest p (inr m) = absurd m
strips_off-tell (suc k) [] rest p m = absurd (subst (λ b. Among rest (cond b ([] ∷ []) [])) (ne_eqb (suc k) 0 (λ e. absurd (omega arith))) m)
strips_off-tell k (a ∷ parts) rest p m =
    let i = Among_from_each (λ (i : ℕ). map (λ (rest : List ℕ). in_front (a - i) rest) (strips_off (k - i) parts)) rest (below (suc (min k (a - part parts 1)))) m in
    let r = Among_from_map (λ (rest : List ℕ). in_front (a - i.0) rest) rest (strips_off (k - i.0) parts) i.2 in
    let t = partition_tail a parts p in
    let l = strips_off-tell (k - i.0) parts r.0 t.0 r.1 in
    let few = below-tells (suc (min k (a - part parts 1))) i.0 i.1 in
    subst (λ u. IsLeft k (a ∷ parts) u) (sym r.2)
    (record {
      partition = IsPartition-in_front (a - i.0) r.0 l.partition (let f = l.first in let h = t.1 in omega arith);
      few = let e = length-in_front (a - i.0) r.0 in let f = l.few in omega arith;
      first = let e = part-in_front (a - i.0) r.0 in omega arith;
      size_is = let e = size-in_front (a - i.0) r.0 in let s = l.size_is in let h = t.1 in omega arith;
    })

pub coefficient-kostka : (parts content : List ℕ) → IsPartition parts → kostka parts content ≡ coefficient (schur parts (length content)) content
coefficient-kostka [] [] p = refl
coefficient-kostka (zero ∷ parts) [] p = absurd (let h = p.positive.0 in omega arith)
coefficient-kostka (suc a ∷ parts) [] p = refl
coefficient-kostka parts (k ∷ content) p =
    total_among (λ (rest : List ℕ). kostka rest content) (λ (rest : List ℕ). coefficient (schur rest (length content)) content) (strips_off k parts)
    (λ rest m. coefficient-kostka rest content (strips_off-tell k parts rest p m).partition)
    ∙ sym (coefficient-schur_last (length content) k parts content p.falls)
    ∙ sym (coefficient-last_first (schur parts (suc (length content))) k content (symmetric-skew_schur (suc (length content)) parts [] p IsPartition-none))
