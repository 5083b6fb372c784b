-- The transition rule keeps a sum of Schur polynomials, and tables of permutations still to be expanded, each with a count (specs/Walk). Let p be a
-- permutation in which no letter has more than m greater letters before it. If adding c ≥ 0 to the count of p overflows, then the sum, plus the
-- Schubert polynomials of the tables times their counts, plus c times the Schubert polynomial of p, has a Schur coefficient of 2^127 or more.
use Rattle.std.proofs.Common.{◌≡◌, ℕ, zero, suc, ◌+◌, ◌≤◌, Bool, true, false, cond, List, [], ◌∷◌, get_or, refl, ◌∙◌, ap, subst, arith, inl, inr, ℤ, pos, ◌+ℤ◌, ◌*ℤ◌, ◌≤ℤ◌}
use Rattle.std.specs.Prelude.{nat_eq}
use Rattle.std.specs.Cmp.Lexicographic.{pointwise}
use Rattle.std.proofs.lemmas.Int.{ints}
use Rattle.sym_model.specs.Partition.{IsPartition, rows}
use Rattle.sym_model.specs.Polynomial.{pair}
use Rattle.sym_model.specs.Schubert.{schubert_in}
use Rattle.sym_model.specs.WholeTerms.{WholeTerms, AreCounts}
use Rattle.sym_model.proofs.Integers.{product-nonnegative, product-at_least}
use Rattle.sym_model.proofs.Ring.{distributes_right, product-one}
use Rattle.linear_combinations.specs.Gains.{over, only, Overflows, HaveLabels}
use Rattle.linear_combinations.proofs.Labels.{same_partition}
use Rattle.stanley_expand.specs.GreaterBefore.{HasMoreBefore}
use Rattle.stanley_expand.specs.Grassmannian.{IsRising}
use Rattle.stanley_expand.specs.SchurPositive.{schur_test}
use Rattle.stanley_expand.specs.Walk.{WaitsAt, waited, OverflowsWith}
use Rattle.stanley_expand.proofs.FewBefore.{some_shape}
use Rattle.stanley_expand.proofs.Steps.{over_schurs, large_at}
use Rattle.stanley_expand.proofs.Tables.{over_natural, rising_natural, table_natural, tables_natural, only_natural}
use lib.IntN.{*ℤ-zero, zero-*ℤ}

at_least_one : (f : List ℕ → ℤ) (p : List ℕ) (table : WholeTerms) → AreCounts table → HaveLabels (λ x. pos 0 ≤ℤ f x) table
    → (over (only (pointwise nat_eq) p) table *ℤ f p) ≤ℤ over f table
at_least_one f p [] counts values = let z = zero-*ℤ (f p) in omega (arith, ints)
at_least_one f p (t ∷ table) counts values =
    let r = at_least_one f p table (λ u i. counts u (inr i)) (λ u i. values u (inr i)) in
    let d = distributes_right (t.1 *ℤ only (pointwise nat_eq) p t.0) (over (only (pointwise nat_eq) p) table) (f p) in
    let a = by (pointwise nat_eq p t.0) refl in
    omega (arith, ints)
  where
    by : (b : Bool) → pointwise nat_eq p t.0 ≡ b → ((t.1 *ℤ cond b (pos 1) (pos 0)) *ℤ f p) ≤ℤ (t.1 *ℤ f t.0)
    by true e =
        let s = ap f (same_partition p t.0 e) in
        let o = ap (λ z. z *ℤ f p) (product-one t.1) in
        let q = ap (λ z. t.1 *ℤ z) s in
        omega (arith, ints)
    by false e =
        let o = ap (λ z. z *ℤ f p) (*ℤ-zero t.1) ∙ zero-*ℤ (f p) in
        let n = product-nonnegative t.1 (f t.0) (counts t (inl refl)) (values t (inl refl)) in
        omega (arith, ints)

module _ (m : ℕ) (κ : List ℕ) (q : IsPartition κ) (few : rows κ ≤ m) where
  one_table : (at : ℕ) (todo : List WholeTerms) → ((k : ℕ) → HaveLabels (IsRising m (m + 16)) (get_or todo k [])) → ((k : ℕ) → AreCounts (get_or todo k []))
      → over (λ p. pair (schubert_in p m) (schur_test m κ)) (get_or todo at []) ≤ℤ waited m (schur_test m κ) todo
  one_table at [] labels counts = omega (arith, ints)
  one_table zero (table ∷ todo) labels counts =
      let b = tables_natural m κ q few todo (λ k. labels (suc k)) (λ k. counts (suc k)) in
      omega (arith, ints)
  one_table (suc at) (table ∷ todo) labels counts =
      let a = table_natural m κ q few table (labels 0) (counts 0) in
      let b = one_table at todo (λ k. labels (suc k)) (λ k. counts (suc k)) in
      omega (arith, ints)

-- let no letter of p have more than m greater letters before it. If adding c ≥ 0 to the count of p overflows, then `sum`, plus the Schubert
-- polynomials of the tables times their counts, plus c times the Schubert polynomial of p, has a Schur coefficient of 2^127 or more.
pub large_waiting : (m at : ℕ) (p : List ℕ) (c : ℤ) (sum : WholeTerms) (todo : List WholeTerms) (table : WholeTerms) → WaitsAt m at p → (HasMoreBefore m p → ⊥) → pos 0 ≤ℤ c
    → table ≡ get_or todo at [] → Overflows (pointwise nat_eq) table ((p, c) ∷ []) → OverflowsWith m sum todo (λ φ. c *ℤ pair (schubert_in p m) φ)
large_waiting m at p c sum todo table waits few positive e overflow waiting shapes =
    let s = some_shape m p waits.rising few in
    let o = subst (λ t. Overflows (pointwise nat_eq) t ((p, c) ∷ [])) e overflow in
    let natural : (ν : List ℕ) → pos 0 ≤ℤ over (only (pointwise nat_eq) ν) (get_or todo at []) =
    λ ν. over_natural (only (pointwise nat_eq) ν) (get_or todo at []) (waiting.counts at) (λ t i. only_natural ν t.0) in
    let l = large_at p c (get_or todo at []) (waiting.distinct at) (waiting.held at) natural positive o in
    let one = at_least_one (λ x. pair (schubert_in x m) (schur_test m s.0)) p (get_or todo at []) (waiting.counts at)
    (λ t i. rising_natural m s.0 s.1 s.2 t.0 (waiting.labels at t i).rising) in
    let all = one_table m s.0 s.1 s.2 at todo (λ k t i. (waiting.labels k t i).rising) waiting.counts in
    let far = over_schurs m s.0 sum shapes.table s.1 s.2 in
    let near = shapes.natural s.0 in
    let n = natural p in
    let d = distributes_right (over (only (pointwise nat_eq) p) (get_or todo at [])) c (pair (schubert_in p m) (schur_test m s.0)) in
    let t = product-at_least (over (only (pointwise nat_eq) p) (get_or todo at []) +ℤ c) (pair (schubert_in p m) (schur_test m s.0)) (omega (arith, ints)) s.3 in
    (s.0, s.1, s.2, omega (arith, ints))
