-- A sum of alternants as a sum over partitions, by sorting the exponents (straightening). The pairing of a polynomial with a function φ of exponents
-- is the sum of c·φ(α) over its terms c·x^α.
--     `straightened_sum`     the terms of the sum of c·a_(β + α) over the terms c·x^α of f, with partitions as labels
--     pair-straightened      the sum of c·a_(ν + ρ) over these terms is the given sum of alternants, as an equality of pairings
--     pair-value             the pairing of the alternant of a strictly decreasing list with `on_strict χ` is χ at its partition
use Rattle.std.proofs.Common.{◌≡◌, ◌⊎◌, ℕ, ◌<◌, ◌≤◌, Bool, true, false, ◌&&◌, cond, nat_lt, List, [], ◌∷◌, length, refl, sym, ◌∙◌, ap, subst, inl, inr, arith, ℤ, pos, ◌+ℤ◌, ◌*ℤ◌, flat_map, rules}
use Rattle.std.proofs.lemmas.Bool.{and_parts, cond-true, cond-false}
use Rattle.std.proofs.lemmas.Bool.Decides.{nat_tests}
use Rattle.std.proofs.Math.IntN.{*ℤ-zero, +ℤ_idl, +ℤ_idr}
use Rattle.sym_model.specs.Sum.{Among}
use Rattle.sym_model.specs.Polynomial.{Poly, Term, In, Same, same, join, coefficient, pair, resize}
use Rattle.sym_model.specs.Partition.{IsPartition, rows}
use Rattle.sym_model.specs.Alternant.{alternant, staircase}
use Rattle.sym_model.specs.BetaList.{has_equal_entries, sorted_falling, sorting_sign, from_beta}
use Rattle.sym_model.specs.WholeTerms.{WholeTerms}
use Rattle.sym_model.proofs.Ring.{product_assoc, product-one}
use Rattle.sym_model.proofs.Sums.{total_among, Among_from_each}
use Rattle.sym_model.proofs.Exponents.{same_or_not, same_refl, same_apart, length-join_same, length-resize}
use Rattle.sym_model.proofs.Polynomials.{at_only, coefficient_pair, pair_agree, pair_each, pair_factor}
use Rattle.beta_list_laws.specs.StrictFall.{FallsStrictly}
use Rattle.beta_list_laws.proofs.NeighbourExchanges.{length-sorted}
use Rattle.beta_list_laws.proofs.SortedLists.{sorted_strict}
use Rattle.beta_list_laws.proofs.BetaLists.{from_beta_partition, rows-from_beta}
use Rattle.alternant_laws.proofs.FallingAlternants.{Descends, coefficient_descending, coefficient_at_partition, join_padded, without_last_zeros-resize}
use Rattle.tableau_laws.proofs.ColumnCounts.{falling-resize}
use Rattle.alternant_laws.proofs.SortedAlternants.{alternant-equal, alternant-sorted, from_beta-join}
use Rattle.sym_model.specs.Bounded.{AreBelow}
use Rattle.alternant_laws.proofs.FailingColumns.{at_sum}

-- ---- the test `is_strict` and the definition of a strictly decreasing list

below_raise : (a b : ℕ) (l : List ℕ) → b < a → AreBelow b l → AreBelow a l
below_raise a b [] h u = tt
below_raise a b (c ∷ l) h u = let g : c < b = u.0 in (omega arith, below_raise a b l h u.1)

pub strict_descends : (b : List ℕ) → FallsStrictly b → Descends b
strict_descends [] f = tt
strict_descends (a ∷ []) f = (tt, tt)
strict_descends (a ∷ b ∷ l) f = let d = strict_descends (b ∷ l) f.1 in ((f.0, below_raise a b l f.0 d.0), d)

-- whether a list is strictly decreasing
abbrev pub is_strict : List ℕ → Bool
is_strict [] = true
is_strict (a ∷ []) = true
is_strict (a ∷ b ∷ l) = nat_lt b a && is_strict (b ∷ l)

strict_true : (b : List ℕ) → is_strict b ≡ true → FallsStrictly b
strict_true [] e = tt
strict_true (a ∷ []) e = tt
strict_true (a ∷ b ∷ l) e = let p = and_parts (nat_lt b a) (is_strict (b ∷ l)) e in let q = p.0 in (grind (arith, nat_tests), strict_true (b ∷ l) p.1)

is_strict_from : (b : List ℕ) → FallsStrictly b → is_strict b ≡ true
is_strict_from [] f = refl
is_strict_from (a ∷ []) f = refl
is_strict_from (a ∷ b ∷ l) f = let r = is_strict_from (b ∷ l) f.1 in let h : b < a = f.0 in grind (arith, nat_tests)

-- `on_strict χ b`: χ at the partition with the beta list b, if the list b of exponents is strictly decreasing; otherwise 0
abbrev pub on_strict : (List ℕ → ℤ) → List ℕ → ℤ
on_strict χ b = cond (is_strict b) (χ (from_beta b)) (pos 0)

pub pair-value : (b : List ℕ) (χ : List ℕ → ℤ) → FallsStrictly b → pair (alternant b) (on_strict χ) ≡ χ (from_beta b)
pair-value b χ f =
    pair_agree (alternant b) (on_strict χ) (λ α. χ (from_beta b) *ℤ at_only b α) (λ α. by α (is_strict α) refl (same_or_not b α))
    ∙ pair_factor (χ (from_beta b)) (alternant b) (at_only b)
    ∙ ap (λ z. χ (from_beta b) *ℤ z) (sym (coefficient_pair (alternant b) b) ∙ coefficient_descending b b d d ∙ ap (λ t. cond t (pos 1) (pos 0)) (same_refl b))
    ∙ product-one (χ (from_beta b))
  where
    d : Descends b
    d = strict_descends b f

    by : (α : List ℕ) (t : Bool) → is_strict α ≡ t → (b ≡ α) ⊎ (b ≡ α → ⊥) → (coefficient (alternant b) α ≡ pos 0) ⊎ (on_strict χ α ≡ χ (from_beta b) *ℤ at_only b α)
    by α t e (inl i) =
        inr (subst (λ l. on_strict χ l ≡ χ (from_beta b) *ℤ at_only b l) i
        (cond-true (is_strict b) (χ (from_beta b)) (pos 0) (is_strict_from b f)
        ∙ sym (ap (λ u. χ (from_beta b) *ℤ cond u (pos 1) (pos 0)) (same_refl b) ∙ product-one (χ (from_beta b)))))
    by α true e (inr n) =
        inl (coefficient_descending α b (strict_descends α (strict_true α e)) d ∙ cond-false (same b α) (pos 1) (pos 0) (same_apart b α n))
    by α false e (inr n) =
        inr (cond-false (is_strict α) (χ (from_beta α)) (pos 0) e
        ∙ sym (ap (λ u. χ (from_beta b) *ℤ cond u (pos 1) (pos 0)) (same_apart α b (λ i. n (sym i))) ∙ *ℤ-zero (χ (from_beta b))))

-- ---- the alternants a_(λ + ρ) of partitions λ with at most k rows

-- a partition with at most k rows
pub record IsShape (k : ℕ) (parts : List ℕ) : Type 0 where
  pub partition : IsPartition parts
  pub few : rows parts ≤ k

pub shape_of_strict : (k : ℕ) (b : List ℕ) → length b ≡ k → FallsStrictly b → IsShape k (from_beta b)
shape_of_strict k b e f = let r = rows-from_beta b in record { partition = from_beta_partition b f; few = omega arith }

pub at_strict : (k : ℕ) (b : List ℕ) (φ : List ℕ → ℤ) → length b ≡ k → FallsStrictly b → at_sum k φ (from_beta b) ≡ pair (alternant b) φ
at_strict k b φ e f = ap (λ l. pair (alternant l) φ) (ap (λ m. join (from_beta b) (staircase m)) (sym e) ∙ from_beta-join b f)

-- if `parts` and `label` are partitions with at most k rows, the coefficient of x^(label + ρ) in the alternant a_(parts + ρ) is 1 if `label` is
-- `parts`, and 0 otherwise
pub at_shape-only : (k : ℕ) (label parts : List ℕ) → IsShape k label → IsShape k parts → at_sum k (at_only (join label (staircase k))) parts ≡ at_only label parts
at_shape-only k label parts p q =
    sym (coefficient_pair (alternant (join parts (staircase k))) (join label (staircase k)))
    ∙ ap (λ l. coefficient (alternant l) (join label (staircase k))) (sym (join_padded k parts q.few))
    ∙ coefficient_at_partition k (resize k parts) label (length-resize k parts) (falling-resize k parts q.partition.falls) p.partition p.few (falling-resize k label p.partition.falls)
    ∙ ap (λ l. cond (same l label) (pos 1) (pos 0)) (without_last_zeros-resize k parts q.partition.positive q.few)

-- the term of c·a_b: its label is the partition whose beta list is b sorted, its coefficient is c times the sign of sorting b; no term if two entries
-- of b are equal
abbrev pub straight : List ℕ → ℤ → WholeTerms
straight b c = cond (has_equal_entries b) [] ((from_beta (sorted_falling b), c *ℤ sorting_sign b) ∷ [])

-- the terms, with partitions as labels, of the sum of c·a_(β + α) over the terms c·x^α of f
abbrev pub straightened_sum : List ℕ → Poly → WholeTerms
straightened_sum β f = flat_map (λ (u : Term). straight (join β u.0) u.1) f

pair-straight : (k : ℕ) (b : List ℕ) (c : ℤ) (φ : List ℕ → ℤ) → length b ≡ k → pair (straight b c) (at_sum k φ) ≡ c *ℤ pair (alternant b) φ
pair-straight k b c φ e =
    search (rules, +ℤ_idr, product_assoc, at_sum, alternant-equal, *ℤ-zero, at_strict, length-sorted, sorted_strict, alternant-sorted)

pub pair-straightened : (k : ℕ) (β : List ℕ) (f : Poly) (φ : List ℕ → ℤ) → length β ≡ k → In k f
    → pair (straightened_sum β f) (at_sum k φ) ≡ pair f (λ α. pair (alternant (join β α)) φ)
pair-straightened k β f φ e i = search (rules, pair_each, at_sum, total_among, pair-straight, length-join_same)

pub straightened-shape : (k : ℕ) (β : List ℕ) (f : Poly) (t : Term) → length β ≡ k → In k f → Among t (straightened_sum β f) → IsShape k t.0
straightened-shape k β f t e i m =
    let u = Among_from_each (λ (u : Term). straight (join β u.0) u.1) t f m in
    by (join β u.0.0) u.0.1 (has_equal_entries (join β u.0.0)) (length-join_same k β u.0.0 e (i u.0 u.1)) refl u.2
  where
    by : (b : List ℕ) (c : ℤ) (q : Bool) → length b ≡ k → has_equal_entries b ≡ q → Among t (cond q [] ((from_beta (sorted_falling b), c *ℤ sorting_sign b) ∷ [])) → IsShape k t.0
    by b c true l h n = absurd n
    by b c false l h (inl x) = subst (IsShape k) (sym (ap (λ (u : Term). u.0) x)) (shape_of_strict k (sorted_falling b) (length-sorted b ∙ l) (sorted_strict b h))
    by b c false l h (inr n) = absurd n

pub coefficient-straightened : (k : ℕ) (β label : List ℕ) (f : Poly) → length β ≡ k → In k f → IsShape k label
    → coefficient (straightened_sum β f) label ≡ pair f (λ α. pair (alternant (join β α)) (at_only (join label (staircase k))))
coefficient-straightened k β label f e i p =
    coefficient_pair (straightened_sum β f) label
    ∙ total_among (λ (t : Term). t.1 *ℤ at_only label t.0) (λ (t : Term). t.1 *ℤ at_sum k (at_only (join label (staircase k))) t.0) (straightened_sum β f)
    (λ t m. ap (λ z. t.1 *ℤ z) (sym (at_shape-only k label t.0 p (straightened-shape k β f t e i m))))
    ∙ pair-straightened k β f (at_only (join label (staircase k))) e i

found : (label : List ℕ) (xs : WholeTerms) → ((t : Term) × Among t xs × (t.0 ≡ label)) ⊎ (coefficient xs label ≡ pos 0)
found label [] = inr refl
found label (x ∷ xs) = by (same_or_not x.0 label) (found label xs)
  where
    by : (x.0 ≡ label) ⊎ (x.0 ≡ label → ⊥) → ((t : Term) × Among t xs × (t.0 ≡ label)) ⊎ (coefficient xs label ≡ pos 0) → ((t : Term) × Among t (x ∷ xs) × (t.0 ≡ label)) ⊎ (coefficient (x ∷ xs) label ≡ pos 0)
    by (inl e) r = inl (x, inl refl, e)
    by (inr n) (inl t) = inl (t.0, inr t.1, t.2)
    by (inr n) (inr e) = inr (ap (λ b. cond b x.1 (pos 0) +ℤ coefficient xs label) (same_apart x.0 label n) ∙ +ℤ_idl (coefficient xs label) ∙ e)

-- if all labels of f and g are partitions with at most k rows, and f and g have the same coefficients at these partitions, then f and g have the same
-- coefficients
pub same_shapes : (k : ℕ) (f g : WholeTerms) → ((t : Term) → Among t f → IsShape k t.0) → ((t : Term) → Among t g → IsShape k t.0)
    → ((label : List ℕ) → IsShape k label → coefficient f label ≡ coefficient g label) → Same f g
same_shapes k f g p q e label = search (rules, found)
