-- The coefficients of a product f·g, and of m_λ·m_μ. The number `arrangements λ μ ν` counts the pairs (β, γ) of exponent lists with β + γ = ν such
-- that β sorts to λ and γ sorts to μ.
--     coefficient_times        the coefficient of x^α in f·g as a sum over the pairs (β, γ) with β + γ = α
--     monomial_product         if a list of terms has at each partition ν the coefficient `arrangements λ μ ν`, the sum of its terms c·m_ν is m_λ·m_μ
use Rattle.std.proofs.Common.{◌≡◌, ◌⊎◌, ℕ, zero, suc, ◌+◌, ◌-◌, ◌<◌, ◌≤◌, Bool, true, false, ◌&&◌, cond, eqb, leb, List, [], ◌∷◌, map, length, sym, ◌∙◌, ap, ap₂, refl, inl, inr, arith, ℤ, pos, ◌+ℤ◌, ◌*ℤ◌, rules}
use Rattle.std.proofs.lemmas.Bool.{cases_lt, le-leb, lt-leb, eq-eqb, ne_eqb, eqb-true}
use Rattle.sym_model.specs.Sum.{total, Among}
use Rattle.sym_model.specs.Polynomial.{Poly, same, coefficient, Same, In, join, pair, times, scale}
use Rattle.sym_model.specs.Partition.{IsPartition, size, insert_part, sorted_parts}
use Rattle.sym_model.specs.Bases.{down_from, monomial}
use Rattle.sym_model.specs.WholeTerms.{WholeTerms, combined}
use Rattle.monomial_laws.specs.MonomialProduct.{splits, arrangements, product_coefficient}
use Rattle.sym_model.proofs.Ring.{one-product}
use Rattle.sym_model.proofs.Sums.{total_ext, total_among, total_map, total_each, total_exchange, Among_from_each, Among_from_map, total_cond, length-select}
use Rattle.sym_model.proofs.Exponents.{tests_agree, same_sym}
use Rattle.sym_model.proofs.Polynomials.{at_only, coefficient_pair, pair_ext, pair_in, pair_times, pair_total, pair_factor, same_from_pair, Same_sym, Same_trans, times_respects, same_in, In_each, In_scale, In_times}
use Rattle.sym_model.proofs.SortedParts.{insert_part_comm, IsPartition-sorted_parts}
use Rattle.sym_model.proofs.WholeTerms.{pair-combined}
use Rattle.monomial_laws.proofs.PowerSumCoefficients.{coefficient-monomial_terms}
use Rattle.sym_model.proofs.Monomials.{total_down_from-only, In-monomials}
use lib.IntN.{+ℤ_idr, zero-*ℤ, *ℤ_comm}
use Rattle.sym_model.proofs.Integers.{nested_tests}

pub tests-product : (p q : Bool) → cond (p && q) (pos 1) (pos 0) ≡ cond p (pos 1) (pos 0) *ℤ cond q (pos 1) (pos 0)
tests-product true true = refl
tests-product true false = refl
tests-product false q = sym (zero-*ℤ (cond q (pos 1) (pos 0)))

-- the sum of φ over the pairs of lists that add up to c ∷ ν is a double sum: over b ≤ c, and over the pairs that add up to ν, with b in front of the
-- first list and c - b in front of the second
pub total_splits : (φ : List ℕ → List ℕ → ℤ) (c : ℕ) (ν : List ℕ)
    → total (λ (s : List ℕ × List ℕ). φ s.0 s.1) (splits (c ∷ ν))
    ≡ total (λ (b : ℕ). total (λ (s : List ℕ × List ℕ). φ (b ∷ s.0) ((c - b) ∷ s.1)) (splits ν)) (down_from c)
total_splits φ c ν = search (rules, total_each, total_ext, total_map)

pub length-splits : (ν : List ℕ) (s : List ℕ × List ℕ) → Among s (splits ν) → (length s.0 ≡ length ν) × (length s.1 ≡ length ν)
length-splits [] s (inl e) = (ap (λ (p : List ℕ × List ℕ). length p.0) e, ap (λ (p : List ℕ × List ℕ). length p.1) e)
length-splits [] s (inr m) = absurd m
length-splits (c ∷ ν) s m =
    let r = Among_from_each (λ (b : ℕ). map (λ (t : List ℕ × List ℕ). (b ∷ t.0, (c - b) ∷ t.1)) (splits ν)) s (down_from c) m in
    let u = Among_from_map (λ (t : List ℕ × List ℕ). (r.0 ∷ t.0, (c - r.0) ∷ t.1)) s (splits ν) r.2 in
    let k = length-splits ν u.0 u.1 in
    (ap (λ (p : List ℕ × List ℕ). length p.0) u.2 ∙ ap suc k.0, ap (λ (p : List ℕ × List ℕ). length p.1) u.2 ∙ ap suc k.1)

-- 1 if the pair is (β, γ), and 0 otherwise
abbrev both_only : List ℕ → List ℕ → List ℕ × List ℕ → ℤ
both_only β γ s = cond (same β s.0) (cond (same γ s.1) (pos 1) (pos 0)) (pos 0)

-- if β and γ have the length of α, `splits α` lists the pair (β, γ) once if β + γ = α, and otherwise not at all
total_splits-only : (α β γ : List ℕ) → length β ≡ length α → length γ ≡ length α
    → total (both_only β γ) (splits α) ≡ at_only α (join β γ)
total_splits-only [] [] [] h k = refl
total_splits-only [] (b ∷ β) γ h k = absurd (omega arith)
total_splits-only [] [] (c ∷ γ) h k = absurd (omega arith)
total_splits-only (a ∷ α) [] γ h k = absurd (omega arith)
total_splits-only (a ∷ α) (b ∷ β) [] h k = absurd (omega arith)
total_splits-only (a ∷ α) (b ∷ β) (c ∷ γ) h k =
    total_splits (λ x y. both_only (b ∷ β) (c ∷ γ) (x, y)) a α
    ∙ total_ext
    (λ (x : ℕ). total (λ (s : List ℕ × List ℕ). both_only (b ∷ β) (c ∷ γ) (x ∷ s.0, (a - x) ∷ s.1)) (splits α))
    (λ (x : ℕ). cond (eqb x b) (cond (eqb c (a - x)) (at_only α (join β γ)) (pos 0)) (pos 0))
    (λ x. row x (total_splits-only α β γ (omega arith) (omega arith)))
    (down_from a)
    ∙ total_down_from-only (λ x. cond (eqb c (a - x)) (at_only α (join β γ)) (pos 0)) b a
    ∙ by (cases_lt a b)
  where
    regroup : (p q r s : Bool) → cond (p && r) (cond (q && s) (pos 1) (pos 0)) (pos 0) ≡ cond p (cond q (cond r (cond s (pos 1) (pos 0)) (pos 0)) (pos 0)) (pos 0)
    regroup true true true s = refl
    regroup true true false s = refl
    regroup true false true s = refl
    regroup true false false s = refl
    regroup false q r s = refl

    row : (x : ℕ) → total (both_only β γ) (splits α) ≡ at_only α (join β γ)
        → total (λ (s : List ℕ × List ℕ). both_only (b ∷ β) (c ∷ γ) (x ∷ s.0, (a - x) ∷ s.1)) (splits α)
        ≡ cond (eqb x b) (cond (eqb c (a - x)) (at_only α (join β γ)) (pos 0)) (pos 0)
    row x e =
        total_ext
        (λ (s : List ℕ × List ℕ). cond (eqb b x && same β s.0) (cond (eqb c (a - x) && same γ s.1) (pos 1) (pos 0)) (pos 0))
        (λ (s : List ℕ × List ℕ). cond (eqb b x) (cond (eqb c (a - x)) (both_only β γ s) (pos 0)) (pos 0))
        (λ s. regroup (eqb b x) (eqb c (a - x)) (same β s.0) (same γ s.1))
        (splits α)
        ∙ total_cond (eqb b x) (λ (s : List ℕ × List ℕ). cond (eqb c (a - x)) (both_only β γ s) (pos 0)) (splits α)
        ∙ ap (λ z. cond (eqb b x) z (pos 0)) (total_cond (eqb c (a - x)) (both_only β γ) (splits α))
        ∙ ap (λ z. cond (eqb b x) (cond (eqb c (a - x)) z (pos 0)) (pos 0)) e
        ∙ ap (λ z. cond z (cond (eqb c (a - x)) (at_only α (join β γ)) (pos 0)) (pos 0))
        (tests_agree (eqb b x) (eqb x b) (λ t. eq-eqb x b (sym (eqb-true b x t))) (λ t. eq-eqb b x (sym (eqb-true x b t))))

    by : (a < b) ⊎ (b ≤ a) → cond (leb b a) (cond (eqb c (a - b)) (at_only α (join β γ)) (pos 0)) (pos 0) ≡ cond (eqb (b + c) a && same (join β γ) α) (pos 1) (pos 0)
    by (inl l) = rw (lt-leb b a l, ne_eqb (b + c) a (λ e. omega arith)) refl
    by (inr l) =
        let e : eqb c (a - b) ≡ eqb (b + c) a =
        tests_agree (eqb c (a - b)) (eqb (b + c) a)
        (λ t. let u = eqb-true c (a - b) t in eq-eqb (b + c) a (omega arith))
        (λ t. let u = eqb-true (b + c) a t in eq-eqb c (a - b) (omega arith)) in
        rw (le-leb b a l, e) (nested_tests (eqb (b + c) a) (same (join β γ) α) (pos 1))

-- the coefficient of x^α in f·g is the sum, over the pairs (β, γ) with β + γ = α, of the coefficient of f at β times that of g at γ
pub coefficient_times : (n : ℕ) (f g : Poly) (α : List ℕ) → In n f → In n g → length α ≡ n
    → coefficient (times f g) α ≡ total (λ (s : List ℕ × List ℕ). coefficient f s.0 *ℤ coefficient g s.1) (splits α)
coefficient_times n f g α i j long =
    coefficient_pair (times f g) α
    ∙ pair_times f g (at_only α)
    ∙ pair_in n f (λ β. pair g (λ γ. at_only α (join β γ))) (λ β. total (λ (s : List ℕ × List ℕ). at_only s.0 β *ℤ coefficient g s.1) (splits α)) i
    (λ β k.
    pair_in n g (λ γ. at_only α (join β γ)) (λ γ. total (λ (s : List ℕ × List ℕ). at_only s.0 β *ℤ at_only s.1 γ) (splits α)) j
    (λ γ l.
    sym (total_splits-only α β γ (k ∙ sym long) (l ∙ sym long))
    ∙ total_ext (both_only β γ) (λ (s : List ℕ × List ℕ). at_only s.0 β *ℤ at_only s.1 γ) (λ s. nested_tests (same β s.0) (same γ s.1) (pos 1) ∙ tests-product (same β s.0) (same γ s.1)) (splits α))
    ∙ pair_total g (λ (s : List ℕ × List ℕ) (γ : List ℕ). at_only s.0 β *ℤ at_only s.1 γ) (splits α)
    ∙ total_ext
    (λ (s : List ℕ × List ℕ). pair g (λ γ. at_only s.0 β *ℤ at_only s.1 γ))
    (λ (s : List ℕ × List ℕ). at_only s.0 β *ℤ coefficient g s.1)
    (λ s. pair_factor (at_only s.0 β) g (at_only s.1) ∙ ap (λ z. at_only s.0 β *ℤ z) (sym (coefficient_pair g s.1)))
    (splits α))
    ∙ pair_total f (λ (s : List ℕ × List ℕ) (β : List ℕ). at_only s.0 β *ℤ coefficient g s.1) (splits α)
    ∙ total_ext
    (λ (s : List ℕ × List ℕ). pair f (λ β. at_only s.0 β *ℤ coefficient g s.1))
    (λ (s : List ℕ × List ℕ). coefficient f s.0 *ℤ coefficient g s.1)
    (λ s.
    pair_ext f (λ β. at_only s.0 β *ℤ coefficient g s.1) (λ β. coefficient g s.1 *ℤ at_only s.0 β) (λ β. *ℤ_comm (at_only s.0 β) (coefficient g s.1))
    ∙ pair_factor (coefficient g s.1) f (at_only s.0)
    ∙ ap (λ z. coefficient g s.1 *ℤ z) (sym (coefficient_pair f s.0))
    ∙ *ℤ_comm (coefficient g s.1) (coefficient f s.0))
    (splits α)

-- ---- sums over the pairs (β, γ) with β + γ = ν: if the summand depends only on β sorted and γ sorted, the sum depends only on ν sorted

-- the sum of ψ(β sorted, γ sorted) over the pairs (β, γ) with β + γ = ν
abbrev pub sorted_total : (List ℕ → List ℕ → ℤ) → List ℕ → ℤ
sorted_total ψ ν = total (λ (s : List ℕ × List ℕ). ψ (sorted_parts s.0) (sorted_parts s.1)) (splits ν)

sorted_total-ext : (ψ χ : List ℕ → List ℕ → ℤ) → ((x y : List ℕ) → ψ x y ≡ χ x y) → (ν : List ℕ) → sorted_total ψ ν ≡ sorted_total χ ν
sorted_total-ext ψ χ e ν =
    total_ext (λ (s : List ℕ × List ℕ). ψ (sorted_parts s.0) (sorted_parts s.1)) (λ (s : List ℕ × List ℕ). χ (sorted_parts s.0) (sorted_parts s.1)) (λ s. e (sorted_parts s.0) (sorted_parts s.1)) (splits ν)

sorted_total-cons : (ψ : List ℕ → List ℕ → ℤ) (c : ℕ) (ν : List ℕ)
    → sorted_total ψ (c ∷ ν) ≡ total (λ (b : ℕ). sorted_total (λ x y. ψ (insert_part b x) (insert_part (c - b) y)) ν) (down_from c)
sorted_total-cons ψ c ν = total_splits (λ x y. ψ (sorted_parts x) (sorted_parts y)) c ν

sorted_total-zero : (ψ : List ℕ → List ℕ → ℤ) (ν : List ℕ) → sorted_total ψ (0 ∷ ν) ≡ sorted_total ψ ν
sorted_total-zero ψ ν = sorted_total-cons ψ 0 ν ∙ +ℤ_idr (sorted_total ψ ν)

sorted_total-rest : (ν ρ : List ℕ) → ((ψ : List ℕ → List ℕ → ℤ) → sorted_total ψ ν ≡ sorted_total ψ ρ) → (ψ : List ℕ → List ℕ → ℤ) (c : ℕ) → sorted_total ψ (c ∷ ν) ≡ sorted_total ψ (c ∷ ρ)
sorted_total-rest ν ρ e ψ c = search (rules, sorted_total-cons, total_ext)

sorted_total-two : (ψ : List ℕ → List ℕ → ℤ) (a b : ℕ) (ν : List ℕ)
    → sorted_total ψ (a ∷ b ∷ ν)
    ≡ total (λ (x : ℕ). total (λ (y : ℕ). sorted_total (λ p q. ψ (insert_part x (insert_part y p)) (insert_part (a - x) (insert_part (b - y) q))) ν) (down_from b)) (down_from a)
sorted_total-two ψ a b ν = search (rules, sorted_total-cons, total_ext)

sorted_total-exchange : (ψ : List ℕ → List ℕ → ℤ) (a b : ℕ) (ν : List ℕ) → sorted_total ψ (a ∷ b ∷ ν) ≡ sorted_total ψ (b ∷ a ∷ ν)
sorted_total-exchange ψ a b ν =
    sorted_total-two ψ a b ν
    ∙ total_exchange (λ (x y : ℕ). sorted_total (λ p q. ψ (insert_part x (insert_part y p)) (insert_part (a - x) (insert_part (b - y) q))) ν) (down_from a) (down_from b)
    ∙ total_ext
    (λ (y : ℕ). total (λ (x : ℕ). sorted_total (λ p q. ψ (insert_part x (insert_part y p)) (insert_part (a - x) (insert_part (b - y) q))) ν) (down_from a))
    (λ (y : ℕ). total (λ (x : ℕ). sorted_total (λ p q. ψ (insert_part y (insert_part x p)) (insert_part (b - y) (insert_part (a - x) q))) ν) (down_from a))
    (λ y.
    total_ext
    (λ (x : ℕ). sorted_total (λ p q. ψ (insert_part x (insert_part y p)) (insert_part (a - x) (insert_part (b - y) q))) ν)
    (λ (x : ℕ). sorted_total (λ p q. ψ (insert_part y (insert_part x p)) (insert_part (b - y) (insert_part (a - x) q))) ν)
    (λ x.
    sorted_total-ext
    (λ p q. ψ (insert_part x (insert_part y p)) (insert_part (a - x) (insert_part (b - y) q)))
    (λ p q. ψ (insert_part y (insert_part x p)) (insert_part (b - y) (insert_part (a - x) q)))
    (λ p q. ap₂ ψ (insert_part_comm x y p) (insert_part_comm (a - x) (b - y) q))
    ν)
    (down_from a))
    (down_from b)
    ∙ sym (sorted_total-two ψ b a ν)

sorted_total-insert : (a : ℕ) (ν : List ℕ) (ψ : List ℕ → List ℕ → ℤ) → sorted_total ψ (insert_part a ν) ≡ sorted_total ψ (a ∷ ν)
sorted_total-insert zero ν ψ = sym (sorted_total-zero ψ ν)
sorted_total-insert (suc a) [] ψ = refl
sorted_total-insert (suc a) (b ∷ ν) ψ = by (leb b (suc a)) (sorted_total-insert (suc a) ν)
  where
    by : (t : Bool) → ((χ : List ℕ → List ℕ → ℤ) → sorted_total χ (insert_part (suc a) ν) ≡ sorted_total χ (suc a ∷ ν))
        → sorted_total ψ (cond t (suc a ∷ b ∷ ν) (b ∷ insert_part (suc a) ν)) ≡ sorted_total ψ (suc a ∷ b ∷ ν)
    by true r = refl
    by false r = sorted_total-rest (insert_part (suc a) ν) (suc a ∷ ν) r ψ b ∙ sorted_total-exchange ψ b (suc a) ν

sorted_total-sorted : (ν : List ℕ) (ψ : List ℕ → List ℕ → ℤ) → sorted_total ψ (sorted_parts ν) ≡ sorted_total ψ ν
sorted_total-sorted [] ψ = refl
sorted_total-sorted (a ∷ ν) ψ = sorted_total-insert a (sorted_parts ν) ψ ∙ sorted_total-rest (sorted_parts ν) ν (sorted_total-sorted ν) ψ a

-- ---- the coefficients of the product of two lists of terms in the monomial basis m, by `arrangements`

pub arrangements-total : (left right ν : List ℕ)
    → pos (arrangements left right ν) ≡ total (λ (s : List ℕ × List ℕ). at_only (sorted_parts s.0) left *ℤ at_only (sorted_parts s.1) right) (splits ν)
arrangements-total left right ν = search (rules, length-select, total_ext, at_only, tests-product, same_sym)

-- the coefficient at ν of the product of two lists of terms in the monomial basis m is the sum, over the labels l of the first list and r of the
-- second, of the product of the coefficients of l and r and `arrangements l r ν`
pub product_coefficient-arrangements : (left right : WholeTerms) (ν : List ℕ)
    → product_coefficient left right ν ≡ pair left (λ l. pair right (λ r. pos (arrangements l r ν)))
product_coefficient-arrangements left right ν =
    sym
    (pair_ext left
    (λ l. pair right (λ r. pos (arrangements l r ν)))
    (λ l. total (λ (s : List ℕ × List ℕ). at_only (sorted_parts s.0) l *ℤ coefficient right (sorted_parts s.1)) (splits ν))
    (λ l.
    pair_ext right (λ r. pos (arrangements l r ν)) (λ r. total (λ (s : List ℕ × List ℕ). at_only (sorted_parts s.0) l *ℤ at_only (sorted_parts s.1) r) (splits ν)) (λ r. arrangements-total l r ν)
    ∙ pair_total right (λ (s : List ℕ × List ℕ) (r : List ℕ). at_only (sorted_parts s.0) l *ℤ at_only (sorted_parts s.1) r) (splits ν)
    ∙ total_ext
    (λ (s : List ℕ × List ℕ). pair right (λ r. at_only (sorted_parts s.0) l *ℤ at_only (sorted_parts s.1) r))
    (λ (s : List ℕ × List ℕ). at_only (sorted_parts s.0) l *ℤ coefficient right (sorted_parts s.1))
    (λ s. pair_factor (at_only (sorted_parts s.0) l) right (at_only (sorted_parts s.1)) ∙ ap (λ z. at_only (sorted_parts s.0) l *ℤ z) (sym (coefficient_pair right (sorted_parts s.1))))
    (splits ν))
    ∙ pair_total left (λ (s : List ℕ × List ℕ) (l : List ℕ). at_only (sorted_parts s.0) l *ℤ coefficient right (sorted_parts s.1)) (splits ν)
    ∙ total_ext
    (λ (s : List ℕ × List ℕ). pair left (λ l. at_only (sorted_parts s.0) l *ℤ coefficient right (sorted_parts s.1)))
    (λ (s : List ℕ × List ℕ). coefficient left (sorted_parts s.0) *ℤ coefficient right (sorted_parts s.1))
    (λ s.
    pair_ext left (λ l. at_only (sorted_parts s.0) l *ℤ coefficient right (sorted_parts s.1)) (λ l. coefficient right (sorted_parts s.1) *ℤ at_only (sorted_parts s.0) l) (λ l. *ℤ_comm (at_only (sorted_parts s.0) l) (coefficient right (sorted_parts s.1)))
    ∙ pair_factor (coefficient right (sorted_parts s.1)) left (at_only (sorted_parts s.0))
    ∙ ap (λ z. coefficient right (sorted_parts s.1) *ℤ z) (sym (coefficient_pair left (sorted_parts s.0)))
    ∙ *ℤ_comm (coefficient right (sorted_parts s.1)) (coefficient left (sorted_parts s.0)))
    (splits ν))

pub product_coefficient-sorted : (left right : WholeTerms) (ν : List ℕ) → product_coefficient left right (sorted_parts ν) ≡ product_coefficient left right ν
product_coefficient-sorted left right ν = sorted_total-sorted ν (λ x y. coefficient left x *ℤ coefficient right y)

pub In-monomial_terms : (terms : WholeTerms) (n : ℕ) → In n (combined (λ label. monomial label n) terms)
In-monomial_terms terms n =
    In_each n (λ (t : List ℕ × ℤ). scale t.1 (monomial t.0 n)) terms
    (λ t m. In_scale n t.1 (monomial t.0 n) (In-monomials (λ α. same (sorted_parts α) t.0) n (size t.0)))

-- if the coefficient of `terms` at every partition ν is `product_coefficient left right ν`, then the sum of the terms c·m_ν of `terms` is the
-- product of the corresponding sums for the lists `left` and `right`, in every number of variables
pub terms_product : (left right terms : WholeTerms) → ((ν : List ℕ) → IsPartition ν → coefficient terms ν ≡ product_coefficient left right ν)
    → (n : ℕ) → Same (times (combined (λ label. monomial label n) left) (combined (λ label. monomial label n) right)) (combined (λ label. monomial label n) terms)
terms_product left right terms h n =
    let f = combined (λ label. monomial label n) left in
    let g = combined (λ label. monomial label n) right in
    same_in n (times f g) (combined (λ label. monomial label n) terms) (In_times n f g (In-monomial_terms left n) (In-monomial_terms right n)) (In-monomial_terms terms n)
    (λ α long.
    coefficient_times n f g α (In-monomial_terms left n) (In-monomial_terms right n) long
    ∙ total_among
    (λ (s : List ℕ × List ℕ). coefficient f s.0 *ℤ coefficient g s.1)
    (λ (s : List ℕ × List ℕ). coefficient left (sorted_parts s.0) *ℤ coefficient right (sorted_parts s.1))
    (splits α)
    (λ s m.
    let k = length-splits α s m in
    ap₂ ◌*ℤ◌ (coefficient-monomial_terms left n s.0 (k.0 ∙ long)) (coefficient-monomial_terms right n s.1 (k.1 ∙ long)))
    ∙ sym (product_coefficient-sorted left right α)
    ∙ sym (h (sorted_parts α) (IsPartition-sorted_parts α))
    ∙ sym (coefficient-monomial_terms terms n α long))

single : (label : List ℕ) (n : ℕ) → Same (combined (λ l. monomial l n) ((label, pos 1) ∷ [])) (monomial label n)
single label n =
    same_from_pair (combined (λ l. monomial l n) ((label, pos 1) ∷ [])) (monomial label n)
    (λ φ.
    pair-combined (λ l. monomial l n) ((label, pos 1) ∷ []) φ
    ∙ +ℤ_idr (pos 1 *ℤ pair (monomial label n) φ)
    ∙ one-product (pair (monomial label n) φ))

-- if the coefficient of `terms` at each partition ν is `arrangements left right ν`, then m_λ·m_μ for λ = `left` and μ = `right` is the polynomial of
-- the list `terms` in m
pub monomial_product : (left right : List ℕ) (terms : WholeTerms) → ((ν : List ℕ) → IsPartition ν → coefficient terms ν ≡ pos (arrangements left right ν))
    → (n : ℕ) → Same (times (monomial left n) (monomial right n)) (combined (λ label. monomial label n) terms)
monomial_product left right terms h n =
    Same_trans (times (monomial left n) (monomial right n)) (times (alone left) (alone right)) (combined (λ label. monomial label n) terms)
    (times_respects (monomial left n) (alone left) (monomial right n) (alone right) (Same_sym (alone left) (monomial left n) (single left n)) (Same_sym (alone right) (monomial right n) (single right n)))
    (terms_product ((left, pos 1) ∷ []) ((right, pos 1) ∷ []) terms
    (λ ν p.
    h ν p
    ∙ sym (one (pos (arrangements left right ν)))
    ∙ sym (product_coefficient-arrangements ((left, pos 1) ∷ []) ((right, pos 1) ∷ []) ν))
    n)
  where
    alone : List ℕ → Poly
    alone label = combined (λ l. monomial l n) ((label, pos 1) ∷ [])

    one : (z : ℤ) → pos 1 *ℤ (pos 1 *ℤ z +ℤ pos 0) +ℤ pos 0 ≡ z
    one z = +ℤ_idr (pos 1 *ℤ (pos 1 *ℤ z +ℤ pos 0)) ∙ one-product (pos 1 *ℤ z +ℤ pos 0) ∙ +ℤ_idr (pos 1 *ℤ z) ∙ one-product z
