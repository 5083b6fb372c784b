-- Stanley polynomials are sums of Schur polynomials.
--     rising_covers    if w is increasing at places 1 to m and r > m, so are the covers v·t_ir, i < r, of v = w·t_rs
--     schur_positive   the Schubert polynomial in m variables of a permutation increasing at places 1 to m is a sum of Schur polynomials
--     natural          a sum of Schur polynomials has no negative Schur coefficient
use Rattle.std.proofs.Common.{◌≡◌, ℕ, zero, suc, ◌+◌, ◌<◌, ◌≤◌, List, [], ◌∷◌, ◌++◌, length, refl, sym, ◌∙◌, ap, ap₂, subst, arith, inl, inr, pos, ◌+ℤ◌, ◌≤ℤ◌, Some, None, Option, unwrap_or, flat_map}
use Rattle.std.proofs.lemmas.Int.{ints}
use Rattle.std.proofs.lemmas.Bool.{cases_lt}
use Rattle.sym_model.specs.Sum.{total, Among}
use Rattle.sym_model.specs.Polynomial.{Poly, Same, same, nothing, plus, pair, join, times}
use Rattle.sym_model.specs.Partition.{IsPartition, rows}
use Rattle.sym_model.specs.Alternant.{alternant, staircase, schur_coefficient}
use Rattle.sym_model.specs.Schur.{schur}
use Rattle.sym_model.specs.Permutation.{IsOneLine, IsTransition, letter, last_descent, last_descent_place, kept, times_swap, covers_down}
use Rattle.sym_model.specs.Schubert.{schubert_in, schuberts_in}
use Rattle.sym_model.specs.Stanley.{behind, stanley_in}
use Rattle.std.proofs.lemmas.List.{append-nil}
use Rattle.sym_model.proofs.Sums.{total_append, Among_from_append}
use Rattle.sym_model.proofs.Polynomials.{at_only, coefficient_pair, pair_times, pair_exchange, pair_each, pair_determined, Same_refl, Same_sym, Same_trans, same_of_equal, same_from_pair, pair_plus}
use Rattle.beta_list_laws.specs.StrictFall.{FallsStrictly}
use Rattle.beta_list_laws.proofs.BetaLists.{from_beta_partition, rows-from_beta}
use Rattle.alternant_laws.proofs.CountedTerms.{schur_coefficient_of_schur}
use Rattle.schubert_laws.specs.TransitionOrder.{rank}
use Rattle.schubert_laws.proofs.LowerPermutations.{transition_exists, transition_covers_lower}
use Rattle.schubert_laws.proofs.Ranks.{letter_counts, rank_lower}
use Rattle.schubert_laws.proofs.Members.{short_transition, short_cover, place_within}
use Rattle.stanley_expand.specs.Grassmannian.{RisesTo, IsRising, front_beta, front_shape}
use Rattle.stanley_expand.specs.SchurPositive.{IsSchurPositive, schur_test}
use Rattle.stanley_expand.proofs.FirstPlaces.{dropped, still_rising, leaf}
use Rattle.stanley_expand.proofs.FixedFront.{rising_behind, schubert_behind}
use Rattle.sym_model.proofs.Integers.{cond-nonnegative}

-- ---- if the letters at the places 1 to m are increasing, the list of these letters from place m down to 1, each minus 1, is strictly decreasing

pub front_strict : (m : ℕ) (u : List ℕ) → IsOneLine u → RisesTo m u → FallsStrictly (front_beta m u)
front_strict zero u o r = tt
front_strict (suc zero) u o r = tt
front_strict (suc (suc m)) u o r =
    let a = r (suc m) (omega arith) (omega arith) in
    let b = letter_counts u (suc m) o (omega arith) in
    let e : suc m + 1 ≡ suc (suc m) = omega arith in
    let d = ap (letter u) e in
    (omega arith, front_strict (suc m) u o (λ i f k. r i f (omega arith)))

pub length_front : (m : ℕ) (u : List ℕ) → length (front_beta m u) ≡ m
length_front zero u = refl
length_front (suc m) u = ap suc (length_front m u)

pub front_partition : (m : ℕ) (u : List ℕ) → IsOneLine u → RisesTo m u → IsPartition (front_shape m u)
front_partition m u o r = from_beta_partition (front_beta m u) (front_strict m u o r)

pub front_rows : (m : ℕ) (u : List ℕ) → rows (front_shape m u) ≤ m
front_rows m u = let a = rows-from_beta (front_beta m u) in let l = length_front m u in omega arith

pub rising_covers : (m n r s : ℕ) (w x : List ℕ) → IsRising m n w → IsTransition w r s → m < r → Among x (covers_down r (times_swap r s w)) → IsRising m n x
rising_covers m n r s w x i t h mem =
    let few = i.short.few in
    let p = place_within w r s i.short.one_line t in
    let p1 = p.1 in
    record { short = short_cover n r (times_swap r s w) x (short_transition n w r s i.short t) (omega arith) mem; rises = still_rising w r s m i.short.one_line t h i.rises x mem }

-- ---- a polynomial that is equal to a sum of Schur polynomials, and sums of such polynomials

positive_same : (m : ℕ) (f g : Poly) → Same f g → IsSchurPositive m g → IsSchurPositive m f
positive_same m f g e p = record { shapes = p.shapes; partitions = p.partitions; sum = Same_trans f g (flat_map (λ κ. schur κ m) p.shapes) e p.sum }

positive_schur : (m : ℕ) (κ : List ℕ) → IsPartition κ → rows κ ≤ m → IsSchurPositive m (schur κ m)
positive_schur m κ p h = record {
  shapes = κ ∷ [];
  partitions = λ ν i. elim i [ inl e ↦ subst (λ μ. IsPartition μ × (rows μ ≤ m)) (sym e) (p, h) | inr e ↦ absurd e ];
  sum = same_of_equal (schur κ m) (schur κ m ++ []) (sym (append-nil (schur κ m)));
}

positive_each : (m : ℕ) (f : List ℕ → Poly) (xs : List (List ℕ)) → ((x : List ℕ) → Among x xs → IsSchurPositive m (f x)) → IsSchurPositive m (flat_map f xs)
positive_each m f [] h = record { shapes = []; partitions = λ ν i. absurd i; sum = Same_refl nothing }
positive_each m f (x ∷ xs) h =
    let p = h x (inl refl) in
    let q = positive_each m f xs (λ y i. h y (inr i)) in
    record {
      shapes = p.shapes ++ q.shapes;
      partitions = λ ν i. elim (Among_from_append ν p.shapes q.shapes i) [ inl a ↦ p.partitions ν a | inr a ↦ q.partitions ν a ];
      sum = same_from_pair (plus (f x) (flat_map f xs)) (flat_map (λ κ. schur κ m) (p.shapes ++ q.shapes)) (λ φ.
          pair_plus (f x) (flat_map f xs) φ
          ∙ ap₂ ◌+ℤ◌ (pair_determined (f x) (flat_map (λ κ. schur κ m) p.shapes) φ p.sum ∙ pair_each (λ κ. schur κ m) p.shapes φ)
          (pair_determined (flat_map f xs) (flat_map (λ κ. schur κ m) q.shapes) φ q.sum ∙ pair_each (λ κ. schur κ m) q.shapes φ)
          ∙ sym (pair_each (λ κ. schur κ m) (p.shapes ++ q.shapes) φ ∙ total_append (λ κ. pair (schur κ m) φ) p.shapes q.shapes));
    }

positive_within : (k m n : ℕ) (u : List ℕ) → rank (suc n) u < k → IsRising m n u → IsSchurPositive m (schubert_in u m)
positive_within zero m n u b i = absurd (omega arith)
positive_within (suc k) m n u b i = by (last_descent u) refl (λ x c j. positive_within k m n x c j)
  where
    at_leaf : last_descent_place u ≤ m → IsSchurPositive m (schubert_in u m)
    at_leaf d =
        positive_same m (schubert_in u m) (schur (front_shape m u) m) (leaf m u (record { one_line = i.short.one_line; rises = i.rises; last = d }))
        (positive_schur m (front_shape m u) (front_partition m u i.short.one_line i.rises) (front_rows m u))

    by : (d : Option ℕ) → last_descent u ≡ d → ((x : List ℕ) → rank (suc n) x < k → IsRising m n x → IsSchurPositive m (schubert_in x m)) → IsSchurPositive m (schubert_in u m)
    by None e rec = at_leaf (let q = ap (λ t. unwrap_or t 0) e in omega arith)
    by (Some r) e rec = elim (cases_lt m r) [
      | inr f ↦ at_leaf (let q = ap (λ t. unwrap_or t 0) e in omega arith)
      | inl f ↦
          let t = transition_exists u r i.short.one_line e in
          positive_same m (schubert_in u m) (schuberts_in (covers_down r (times_swap r t.0 u)) m) (dropped u r t.0 m i.short.one_line t.1 f)
          (positive_each m (λ x. schubert_in x m) (covers_down r (times_swap r t.0 u)) (λ x mem.
          let j = rising_covers m n r t.0 u x i t.1 f mem in
          let few = j.short.few in
          let l = rank_lower (suc n) x u j.short.one_line (omega arith) (transition_covers_lower u r t.0 i.short.one_line t.1 x mem) in
          rec x (omega arith) j))
    ]

pub schur_positive : (m n : ℕ) (u : List ℕ) → IsRising m n u → IsSchurPositive m (schubert_in u m)
schur_positive m n u i = positive_within (suc (rank (suc n) u)) m n u (omega arith) i

pub stanley_positive : (w : List ℕ) (m : ℕ) → IsOneLine w → IsSchurPositive m (stanley_in w m)
stanley_positive w m o =
    positive_same m (stanley_in w m) (schubert_in (kept (behind m w)) m) (Same_sym (schubert_in (kept (behind m w)) m) (stanley_in w m) (schubert_behind m w o))
    (schur_positive m (m + length w) (kept (behind m w)) (rising_behind m (length w) w o (omega arith)))

-- ---- the Schur coefficients of a sum of Schur polynomials are not negative

pub schur_coefficient_is : (m : ℕ) (κ : List ℕ) (f : Poly) → schur_coefficient m κ f ≡ pair f (schur_test m κ)
schur_coefficient_is m κ f =
    coefficient_pair (times (alternant (staircase m)) f) (join κ (staircase m))
    ∙ pair_times (alternant (staircase m)) f (at_only (join κ (staircase m)))
    ∙ pair_exchange (alternant (staircase m)) f (λ β α. at_only (join κ (staircase m)) (join β α))

pub schur_pairs : (m : ℕ) (ν κ : List ℕ) → IsPartition ν → IsPartition κ → rows κ ≤ m → pair (schur ν m) (schur_test m κ) ≡ at_only κ ν
schur_pairs m ν κ p q h = sym (schur_coefficient_is m κ (schur ν m)) ∙ schur_coefficient_of_schur m ν κ p q h

counts_natural : (m : ℕ) (κ : List ℕ) → IsPartition κ → rows κ ≤ m → (shapes : List (List ℕ)) → ((ν : List ℕ) → Among ν shapes → IsPartition ν × (rows ν ≤ m))
    → pos 0 ≤ℤ total (λ ν. pair (schur ν m) (schur_test m κ)) shapes
counts_natural m κ p h [] g = omega (arith, ints)
counts_natural m κ p h (ν ∷ shapes) g =
    let a = schur_pairs m ν κ (g ν (inl refl)).0 p h in
    let b = counts_natural m κ p h shapes (λ μ i. g μ (inr i)) in
    let c = cond-nonnegative (same ν κ) (pos 1) (omega (arith, ints)) in
    omega (arith, ints)

pub natural : (m : ℕ) (f : Poly) (κ : List ℕ) → IsSchurPositive m f → IsPartition κ → rows κ ≤ m → pos 0 ≤ℤ pair f (schur_test m κ)
natural m f κ s p h =
    subst (λ z. pos 0 ≤ℤ z) (sym (pair_determined f (flat_map (λ ν. schur ν m) s.shapes) (schur_test m κ) s.sum ∙ pair_each (λ ν. schur ν m) s.shapes (schur_test m κ)))
    (counts_natural m κ p h s.shapes s.partitions)

pub schur_coefficient_natural : (m : ℕ) (f : Poly) (κ : List ℕ) → IsSchurPositive m f → IsPartition κ → rows κ ≤ m → pos 0 ≤ℤ schur_coefficient m κ f
schur_coefficient_natural m f κ s p h = subst (λ z. pos 0 ≤ℤ z) (sym (schur_coefficient_is m κ f)) (natural m f κ s p h)
