-- One step of the transition rule in m variables: a permutation w is replaced by the covers v·t_ir, i < r, of v = w·t_rs; or, if w has no descent
-- after place m, its Schur polynomial is added to the sum of the Schur polynomials found so far. The laws are about the sum of c·φ(α) over the terms
-- c·x^α of a polynomial, for any function φ of exponents.
use Rattle.std.proofs.Common.{◌≡◌, ℕ, ◌+◌, ◌-◌, ◌*◌, ◌^◌, ◌<◌, ◌≤◌, List, [], ◌∷◌, ◌∙◌, refl, sym, ap, subst, arith, inl, inr, Bool, true, false, cond, ℤ, pos, ◌+ℤ◌, ◌*ℤ◌, ◌≤ℤ◌, unwrap_or}
use Rattle.std.specs.Prelude.{nat_abs, nat_eq}
use Rattle.std.specs.Cmp.Lexicographic.{pointwise, nat_list_eq_equiv}
use Rattle.std.specs.List.{IsDistinct}
use Rattle.std.specs.Map.{keys_of}
use Rattle.std.proofs.lemmas.Int.{ints}
use Rattle.std.proofs.lemmas.Bool.{and_parts, cases_lt, lt-ltb, le-ltb}
use Rattle.sym_model.proofs.Integers.{cond-nonnegative, product-nonnegative}
use Rattle.sym_model.proofs.Ring.{product-one}
use Rattle.sym_model.specs.Sum.{total, Among}
use Rattle.sym_model.specs.Polynomial.{pair}
use Rattle.sym_model.specs.Partition.{IsPartition, rows}
use Rattle.sym_model.specs.Schur.{schur}
use Rattle.sym_model.specs.Permutation.{IsTransition, letter, last_descent_place, times_swap, covers_down}
use Rattle.sym_model.specs.Schubert.{schubert_in, schuberts_in}
use Rattle.sym_model.specs.WholeTerms.{WholeTerms}
use Rattle.sym_model.specs.LabelLimits.{is_label}
use Rattle.sym_model.proofs.Sums.{total_among}
use Rattle.sym_model.proofs.Exponents.{same_refl}
use Rattle.sym_model.proofs.Polynomials.{at_only, coefficient_pair, pair_each, pair_determined}
use Rattle.sym_model.proofs.Orders.{is_label-tells}
use Rattle.schubert_laws.proofs.LowerPermutations.{transition_covers_lower, transition_inversions}
use Rattle.schubert_laws.proofs.Members.{cover_inversions}
use Rattle.schubert_laws.proofs.Ranks.{rank_lower}
use Rattle.fraction_laws.specs.Fractions.{whole}
use Rattle.linear_combinations.specs.Gains.{over, only, Gains, Overflows}
use Rattle.linear_combinations.proofs.Labels.{same_partition}
use Rattle.linear_combinations.proofs.Found.{coefficient_over}
use Rattle.linear_combinations.proofs.Gains.{over_at}
use Rattle.linear_combinations.proofs.Masses.{labels_gained}
use Rattle.linear_combinations.proofs.Totals.{term-among}
use Rattle.stanley_expand.specs.Grassmannian.{IsRising, front_shape}
use Rattle.stanley_expand.specs.SchurPositive.{schur_test}
use Rattle.stanley_expand.proofs.FirstPlaces.{dropped, leaf}
use Rattle.stanley_expand.proofs.SchurPositive.{front_partition, front_rows, rising_covers, schur_pairs}
use Rattle.stanley_expand.specs.Walk.{AreShapes, IsHeld, IsWorkedOff, OverflowsWith, number}
use Rattle.stanley_expand.proofs.Tables.{waited_natural}
use Rattle.linear_combinations.specs.Entries.{IsWholeTable}
use Rattle.transition_walk.proofs.Shares.{natural}

-- for κ of at most m rows, the Schur coefficient at κ of a sum of Schur polynomials is the coefficient of κ in the list of its terms
pub over_schurs : (m : ℕ) (κ : List ℕ) (terms : WholeTerms) → IsWholeTable terms → IsPartition κ → rows κ ≤ m
    → over (λ ν. pair (schur ν m) (schur_test m κ)) terms ≡ over (only (pointwise nat_eq) κ) terms
over_schurs m κ terms is q few =
    total_among (λ (t : List ℕ × ℤ). t.1 *ℤ pair (schur t.0 m) (schur_test m κ)) (λ (t : List ℕ × ℤ). t.1 *ℤ at_only κ t.0) terms
    (λ t k. ap (λ z. t.1 *ℤ z) (schur_pairs m t.0 κ (is_label-tells t.0 (and_parts _ _ (term-among is_label whole terms is.proper t k)).1).partition q few))
    ∙ sym (coefficient_pair terms κ) ∙ coefficient_over terms κ

-- let `old` be a table of partitions of at most m rows, with coefficients ≥ 0 (`AreShapes`). If c ≥ 0 is added without overflow at a partition κ of
-- at most m rows, the result is a table with the same property.
pub more_shapes : (m : ℕ) (κ : List ℕ) (c : ℤ) (old new : WholeTerms) → rows κ ≤ m → pos 0 ≤ℤ c → Gains old ((κ, c) ∷ []) new → IsWholeTable new → IsHeld new
    → AreShapes m old → AreShapes m new
more_shapes m κ c old new few natural gains table held was = record {
  table = table;
  held = held;
  few = labels_gained nat_list_eq_equiv same_partition old ((κ, c) ∷ []) new table gains (λ ν. rows ν ≤ m) was.few
      (λ t k. elim k [ inl e ↦ subst (λ ν. rows ν ≤ m) (sym (ap (λ (u : List ℕ × ℤ). u.0) e)) few | inr none ↦ absurd none ]);
  natural = λ ν.
      let a = gains.sums (only (pointwise nat_eq) ν) in
      let b = was.natural ν in
      let d = product-nonnegative c (only (pointwise nat_eq) ν κ) natural (cond-nonnegative (pointwise nat_eq ν κ) (pos 1) (omega (arith, ints))) in
      omega (arith, ints);
}

-- if no coefficient of `old` is negative, and adding c ≥ 0 at κ overflows, the coefficient of κ in `old` plus c is at least 2^127
pub large_at : (κ : List ℕ) (c : ℤ) (old : WholeTerms) → IsDistinct (pointwise nat_eq) (keys_of old) → IsHeld old
    → ((ν : List ℕ) → pos 0 ≤ℤ over (only (pointwise nat_eq) ν) old) → pos 0 ≤ℤ c
    → Overflows (pointwise nat_eq) old ((κ, c) ∷ []) → pos (2 ^ 127) ≤ℤ (over (only (pointwise nat_eq) κ) old +ℤ c)
large_at κ c old distinct held counts positive o = by (pointwise nat_eq o.0 κ) refl o.1
  where
    by : (b : Bool) → pointwise nat_eq o.0 κ ≡ b → 2 ^ 127 ≤ nat_abs (over (only (pointwise nat_eq) o.0) old) + (cond b (nat_abs c) 0 + 0)
        → pos (2 ^ 127) ≤ℤ (over (only (pointwise nat_eq) κ) old +ℤ c)
    by true e l =
        let s = ap (λ ν. over (only (pointwise nat_eq) ν) old) (same_partition o.0 κ e) in
        let n = counts o.0 in
        let a = sym (natural (over (only (pointwise nat_eq) o.0) old) n) in
        let b = sym (natural c positive) in
        omega (arith, ints)
    by false e l =
        let d = over_at nat_list_eq_equiv same_partition old distinct o.0 in
        let h = held.at_label o.0 in
        let n = counts o.0 in
        let a = sym (natural (over (only (pointwise nat_eq) o.0) old) n) in
        absurd (omega (arith, ints))

-- if p is increasing at the first m places and r > m, the Schubert polynomial of p in m variables is the sum of those of the covers v·t_ir, i < r, of
-- v = p·t_rs
pub covers_pair : (m n r s : ℕ) (p : List ℕ) (φ : List ℕ → ℤ) → IsRising m n p → IsTransition p r s → m < r
    → pair (schubert_in p m) φ ≡ total (λ x. pair (schubert_in x m) φ) (covers_down r (times_swap r s p))
covers_pair m n r s p φ i t h =
    pair_determined (schubert_in p m) (schuberts_in (covers_down r (times_swap r s p)) m) φ (dropped p r s m i.short.one_line t h)
    ∙ pair_each (λ (x : List ℕ). schubert_in x m) (covers_down r (times_swap r s p)) φ

pub put_pair : (m n r s : ℕ) (p : List ℕ) (c : ℤ) (φ : List ℕ → ℤ) (covers : List (List ℕ)) → covers ≡ covers_down r (times_swap r s p) → IsRising m n p → IsTransition p r s → m < r
    → c *ℤ total (λ x. pair (schubert_in x m) φ) covers ≡ c *ℤ pair (schubert_in p m) φ
put_pair m n r s p c φ covers e i t h =
    ap (λ xs. c *ℤ total (λ x. pair (schubert_in x m) φ) xs) e ∙ ap (λ z. c *ℤ z) (sym (covers_pair m n r s p φ i t h))

-- let p be increasing at the first m places, and let v = p·t_rs be its transition, with r > m. Each cover x = v·t_ir, i < r, is increasing at these
-- places too, and is kept in a table with a smaller number than the table of p (`number`).
pub covers_number : (m r s : ℕ) (p x : List ℕ) → m ≤ 64 → IsRising m (m + 16) p → IsTransition p r s → m < r → Among x (covers_down r (times_swap r s p))
    → IsRising m (m + 16) x × (number m x < number m p)
covers_number m r s p x few i t h mem =
    let rising = rising_covers m (m + 16) r s p x i t h mem in
    let short = rising.short.few in
    let place = ap (λ d. unwrap_or d 0) t.descent in
    let as_many = cover_inversions r (times_swap r s p) x mem ∙ sym (transition_inversions p r s i.short.one_line t) in
    let less = rank_lower 81 x p rising.short.one_line (omega arith) (transition_covers_lower p r s i.short.one_line t x mem) in
    let here = ap (λ b. cond b ((last_descent_place p - m) * 81 + letter p (last_descent_place p)) 0) (lt-ltb m (last_descent_place p) (omega arith)) in (
      rising,
      elim (cases_lt m (last_descent_place x)) [
        | inl a ↦
            let there = ap (λ b. cond b ((last_descent_place x - m) * 81 + letter x (last_descent_place x)) 0) (lt-ltb m (last_descent_place x) a) in
            omega arith
        | inr a ↦
            let there = ap (λ b. cond b ((last_descent_place x - m) * 81 + letter x (last_descent_place x)) 0) (le-ltb m (last_descent_place x) a) in
            omega arith
      ],
    )

module _ (m n : ℕ) (p : List ℕ) (i : IsRising m n p) (h : last_descent_place p ≤ m) where
  pub shape_pairs : (φ : List ℕ → ℤ) → pair (schubert_in p m) φ ≡ pair (schur (front_shape m p) m) φ
  shape_pairs φ = pair_determined (schubert_in p m) (schur (front_shape m p) m) φ (leaf m p (record { one_line = i.short.one_line; rises = i.rises; last = h }))

  pub shape_step : (c : ℤ) (old new : WholeTerms) (todo : List WholeTerms) → pos 0 ≤ℤ c → Gains old ((front_shape m p, c) ∷ []) new → IsWholeTable new → IsHeld new
      → IsWorkedOff m old todo (λ φ. c *ℤ pair (schubert_in p m) φ) new todo
  shape_step c old new todo natural gains table held = record {
    value = λ φ.
        let a = gains.sums (λ κ. pair (schur κ m) φ) in
        let b = ap (λ z. c *ℤ z) (shape_pairs φ) in
        omega (arith, ints);
    tables = refl;
    waiting = λ w. w;
    shapes = more_shapes m (front_shape m p) c old new (front_rows m p) natural gains table held;
  }

  pub large_shape : (c : ℤ) (old : WholeTerms) (todo : List WholeTerms) → pos 0 ≤ℤ c → Overflows (pointwise nat_eq) old ((front_shape m p, c) ∷ [])
      → OverflowsWith m old todo (λ φ. c *ℤ pair (schubert_in p m) φ)
  large_shape c old todo positive overflow waiting is =
      let q = front_partition m p i.short.one_line i.rises in
      let few = front_rows m p in
      let large = large_at (front_shape m p) c old is.table.distinct is.held is.natural positive overflow in
      let a = over_schurs m (front_shape m p) old is.table q few in
      let b = waited_natural m (front_shape m p) q few todo waiting in
      let d = shape_pairs (schur_test m (front_shape m p)) ∙ schur_pairs m (front_shape m p) (front_shape m p) q q few
      ∙ ap (λ (b : Bool). cond b (pos 1) (pos 0)) (same_refl (front_shape m p)) in
      let e = ap (λ z. c *ℤ z) d ∙ product-one c in
      (front_shape m p, q, few, omega (arith, ints))
