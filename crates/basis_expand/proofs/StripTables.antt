-- Tables of the shapes that remain after horizontal strips are removed, and bounds for the sums of their coefficients times Kostka numbers.
use Rattle.std.proofs.Common.{◌≡◌, ℕ, ◌+◌, ◌^◌, ◌≤◌, Bool, true, false, cond, List, [], ◌∷◌, ◌++◌, replicate, sym, ◌∙◌, ap, subst, refl, inl, inr, arith, append_assoc, ℤ, pos, ◌+ℤ◌, ◌*ℤ◌, rules}
use Rattle.std.specs.Prelude.{◌≤ℤ◌, nat_abs}
use Rattle.std.proofs.lemmas.Int.{ints}
use Rattle.std.proofs.lemmas.List.{map-append}
use Rattle.sym_model.specs.Sum.{total}
use Rattle.sym_model.specs.Partition.{IsPartition, size}
use Rattle.sym_model.specs.Polynomial.{pair, Same}
use Rattle.sym_model.specs.Expansion.{Basis}
use Rattle.sym_model.specs.Weight.{growth}
use Rattle.sym_model.specs.WholeTerms.{WholeTerms}
use Rattle.sym_model.proofs.Ring.{one-product, product-one}
use Rattle.sym_model.proofs.Sums.{total_ext}
use Rattle.sym_model.proofs.Polynomials.{pair_determined}
use Rattle.sym_model.proofs.Integers.{product-at_least, product-nonnegative, le_trans_ℤ}
use Rattle.monomial_laws.specs.ExpressionTerms.{absolute}
use Rattle.schur_laws.specs.Kostka.{strips_off, kostka}
use Rattle.schur_laws.proofs.KostkaNumbers.{strips_off-tell}
use Rattle.schur_laws.proofs.SchurLists.{kostka-not_negative, kostka-within, kostka-ones}
use Rattle.linear_combinations.specs.Gains.{mass_at, scaled, each_with, HaveLabels, Overflows}
use Rattle.linear_combinations.proofs.Labels.{same_partition}
use Rattle.linear_combinations.proofs.Gains.{each_over, replaced_over}
use Rattle.linear_combinations.proofs.Masses.{scaled_each, labels_each, labels_replaced}
use Rattle.sparse_polys.specs.Tables.{equal, IsWholeTable}
use Rattle.basis_expand.specs.Contents.{HasManyWays, Leads}
use Rattle.basis_expand.specs.Strips.{strips, strip_terms}
use Rattle.basis_expand.proofs.AbsoluteTerms.{table-within}
use lib.IntN.{+ℤ_idr}

-- if a table has only the term 1 at a shape, the sum of c·K(λ, rest) over its terms (λ, c) is K(shape, rest), with K the Kostka number
pub ways-alone : (shape : List ℕ) (terms : WholeTerms) → Same terms ((shape, pos 1) ∷ []) → (rest : List ℕ) → pair terms (λ left. kostka left rest) ≡ kostka shape rest
ways-alone shape terms e rest =
    pair_determined terms ((shape, pos 1) ∷ []) (λ left. kostka left rest) e
    ∙ +ℤ_idr (pos 1 *ℤ kostka shape rest) ∙ one-product (kostka shape rest)

pub scaled-strips : (c : ℤ) (k : ℕ) (shape : List ℕ) → scaled c (strips k shape) ≡ each_with c (strips_off k shape)
scaled-strips c k shape = scaled_each c (pos 1) (strips_off k shape) ∙ ap (λ z. each_with z (strips_off k shape)) (product-one c)

-- the sum of c·φ over the shapes that remain of the terms after one strip of k cells is the sum, over the terms (shape, c), of c times the sum of φ
-- over the shapes that remain of `shape`
pub pair-strip_terms : (k : ℕ) (terms : WholeTerms) (φ : List ℕ → ℤ) → pair (strip_terms k terms) φ ≡ pair terms (λ shape. total φ (strips_off k shape))
pair-strip_terms k terms φ = search (rules, replaced_over, total_ext, each_over, one-product)

absolute-each : (c : ℤ) (shapes : List (List ℕ)) → absolute (each_with c shapes) ≡ each_with (pos (nat_abs c)) shapes
absolute-each c [] = refl
absolute-each c (shape ∷ shapes) = ap (λ (W : WholeTerms). (shape, pos (nat_abs c)) ∷ W) (absolute-each c shapes)

absolute-strips : (k : ℕ) (W : WholeTerms) → absolute (strip_terms k W) ≡ strip_terms k (absolute W)
absolute-strips k [] = refl
absolute-strips k (t ∷ W) = search (rules, map-append, scaled-strips, absolute-each, (absolute-strips k W))

ways-stripped : (k : ℕ) (terms : WholeTerms) (rest : List ℕ)
    → pair (absolute (strip_terms k terms)) (λ left. kostka left rest) ≡ pair (absolute terms) (λ shape. kostka shape (k ∷ rest))
ways-stripped k terms rest =
    ap (λ (W : WholeTerms). pair W (λ left. kostka left rest)) (absolute-strips k terms) ∙ pair-strip_terms k (absolute terms) (λ left. kostka left rest)

pub leads-start : (terms : WholeTerms) → Leads terms [] terms
leads-start terms rest = omega (arith, ints)

pub leads-next : (start : WholeTerms) (content : List ℕ) (k : ℕ) (old new : WholeTerms) → Leads start content old → IsWholeTable new
    → Same new (strip_terms k old) → Leads start (content ++ k ∷ []) new
leads-next start content k old new h is e rest =
    le_trans_ℤ (pair (absolute new) (λ left. kostka left rest)) (pair (absolute old) (λ shape. kostka shape (k ∷ rest))) (pair (absolute start) (λ shape. kostka shape ((content ++ k ∷ []) ++ rest))) (subst (λ z. pair (absolute new) (λ left. kostka left rest) ≤ℤ z) (ways-stripped k old rest)
    (table-within new (strip_terms k old) (λ left. kostka left rest) is e (kostka-not_negative rest))) (subst (λ (l : List ℕ). pair (absolute old) (λ shape. kostka shape (k ∷ rest)) ≤ℤ pair (absolute start) (λ shape. kostka shape l))
    (sym (append_assoc content (k ∷ []) rest)) (h (k ∷ rest)))

mass-ways : (W : WholeTerms) (x : List ℕ) → HaveLabels IsPartition W
    → pos (mass_at equal x W) ≤ℤ pair (absolute W) (λ shape. kostka shape (replicate (size x) 1))
mass-ways [] x h = omega (arith, ints)
mass-ways (t ∷ W) x h = by (equal x t.0) refl (mass-ways W x (λ u m. h u (inr m)))
  where
    natural : (n : ℕ) → pos 0 ≤ℤ pos n
    natural n = omega (arith, ints)

    by : (b : Bool) → equal x t.0 ≡ b → pos (mass_at equal x W) ≤ℤ pair (absolute W) (λ shape. kostka shape (replicate (size x) 1))
        → pos (cond b (nat_abs t.1) 0 + mass_at equal x W)
        ≤ℤ (pos (nat_abs t.1) *ℤ kostka t.0 (replicate (size x) 1) +ℤ pair (absolute W) (λ shape. kostka shape (replicate (size x) 1)))
    by true e r =
        let one = kostka-ones (size x) t.0 (h t (inl refl)) (ap size (sym (same_partition x t.0 e))) in
        let g = product-at_least (pos (nat_abs t.1)) (kostka t.0 (replicate (size x) 1)) (natural (nat_abs t.1)) one in
        omega (arith, ints)
    by false e r =
        let g = product-nonnegative (pos (nat_abs t.1)) (kostka t.0 (replicate (size x) 1)) (natural (nat_abs t.1)) (kostka-not_negative (replicate (size x) 1) t.0) in
        omega (arith, ints)

pub large-lead : (start : WholeTerms) (content : List ℕ) (k : ℕ) (terms : WholeTerms) → HaveLabels IsPartition terms → Leads start content terms
    → Overflows equal [] (strip_terms k terms) → HasManyWays start
large-lead start content k terms partitions h (x, l) =
    let ones : List ℕ = replicate (size x) 1 in (
      content ++ (k ∷ ones),
      past (mass_at equal x (strip_terms k terms)) (pair (absolute (strip_terms k terms)) (λ left. kostka left (replicate (size x) 1)))
          (pair (absolute start) (λ shape. kostka shape (content ++ (k ∷ replicate (size x) 1))))
          (mass-ways (strip_terms k terms) x labels)
          (subst (λ z. z ≤ℤ pair (absolute start) (λ shape. kostka shape (content ++ (k ∷ replicate (size x) 1)))) (sym (ways-stripped k terms ones)) (h (k ∷ ones)))
          (omega arith),
    )
  where
    labels : HaveLabels IsPartition (strip_terms k terms)
    labels =
        labels_replaced (strips k) IsPartition terms
        (λ t m. labels_each IsPartition (pos 1) (strips_off k t.0) (λ rest n. (strips_off-tell k t.0 rest (partitions t m) n).partition))

    past : (a : ℕ) (b c : ℤ) → pos a ≤ℤ b → b ≤ℤ c → 2 ^ 127 ≤ a → pos (2 ^ 127) ≤ℤ c
    past a b c h k l = omega (arith, ints)

-- if a table has only the term 1 at `shape`, and the number of ways to remove this shape by the strips of some content is 2^127 or more
-- (`HasManyWays`), then d^d, the growth into m at the size d of `shape`, is 2^127 or more
pub many-alone : (shape : List ℕ) (terms : WholeTerms) → IsPartition shape → IsWholeTable terms → Same terms ((shape, pos 1) ∷ [])
    → HasManyWays terms → 2 ^ 127 ≤ growth Basis.monomials (size shape)
many-alone shape terms p is e many =
    below (pair (absolute terms) (λ left. kostka left many.0)) (pair (absolute ((shape, pos 1) ∷ [])) (λ left. kostka left many.0))
    (kostka shape many.0) (growth Basis.monomials (size shape)) many.1
    (table-within terms ((shape, pos 1) ∷ []) (λ left. kostka left many.0) is e (kostka-not_negative many.0))
    (+ℤ_idr (pos 1 *ℤ kostka shape many.0) ∙ one-product (kostka shape many.0)) (kostka-within shape many.0 p)
  where
    below : (a b c : ℤ) (n : ℕ) → pos (2 ^ 127) ≤ℤ a → a ≤ℤ b → b ≡ c → nat_abs c ≤ n → 2 ^ 127 ≤ n
    below a b c n h k e l = omega (arith, ints)
