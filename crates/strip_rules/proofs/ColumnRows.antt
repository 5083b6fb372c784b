-- The coefficient of m_ν in m_μ·e_k for a vertical strip ν/μ, computed row by row.
--     `rises`     if i ≤ n, the coefficient for the first i rows is at most that for the first n rows
--     `at_end`    the coefficient for all rows is that of m_ν in m_μ·e_k
--     fraction, row_.., next_..   how the coefficient changes if one more row is counted
use Rattle.std.proofs.Common.{◌≡◌, ◌⊎◌, ℕ, zero, suc, ◌+◌, ◌-◌, ◌*◌, ◌<◌, ◌≤◌, List, [], ◌∷◌, ◌++◌, length, get_or, refl, sym, ap, ap₂, ◌∙◌, inl, inr, arith, rules}
use Rattle.std.proofs.lemmas.Bool.{cases_lt, cases_eq}
use Rattle.sym_model.specs.Sum.{Among}
use Rattle.sym_model.specs.Partition.{IsPartition, size, sorted_parts}
use Rattle.sym_model.specs.Polynomial.{resize}
use Rattle.sym_model.specs.Schur.{times_in}
use Rattle.sym_model.specs.Strip.{IsVerticalStrip}
use Rattle.sym_model.proofs.Contents.{times_in-last, times_in-last_other, times_in-none}
use Rattle.sym_model.proofs.Exponents.{length-resize, resize_same}
use Rattle.sym_model.proofs.FirstPlaces.{resize-next, size-resize_next, Falls-resize, next-resize, last-resize, sorted_parts-resize}
use Rattle.sym_model.proofs.Numbers.{other_factor, grows_from_steps}
use Rattle.sym_model.proofs.Parts.{part-get_or, positive-at, positive_within, size-append, ArePositive_from}
use Rattle.sym_model.proofs.SortedParts.{sorted_parts-partition, size-sorted_parts}
use Rattle.strip_laws.proofs.Strips.{falls_get, falls_far, vertical_rows}
use Rattle.monomial_laws.specs.MonomialProduct.{arrangements}
use Rattle.strip_rules.specs.StripProduct.{column}
use Rattle.strip_rules.proofs.ColumnArrangements.{column-kept, column-raised}

-- the coefficient of m_ν' in m_μ'·e_j, where μ' and ν' are the first i rows of μ and ν, and j is the number of cells of ν'/μ'
abbrev pub so_far : List ℕ → List ℕ → ℕ → ℕ
so_far μ ν i =
    arrangements (sorted_parts (resize i μ)) (column (size (resize i ν) - size (resize i μ)))
    (resize i ν)

-- before row i + 1 is counted: `count` is the coefficient for the first i rows (`so_far`), `run` is the number of these rows that are as long in ν as
-- row i + 1 of ν, and `longer` is the number of these rows of μ that are shorter by one than row i + 1 of ν (if that row is not empty)
pub record IsCounted (μ ν : List ℕ) (i count run longer : ℕ) : Type 0 where
  pub count_is : count ≡ so_far μ ν i
  pub run_is : run ≡ times_in (get_or ν i 0) (resize i ν)
  pub longer_is : (c : ℕ) → get_or ν i 0 ≡ suc c → longer ≡ times_in c (resize i μ)
  pub few_rows : run ≤ i
  pub few_longer : longer ≤ i

-- after row i + 1 is counted: `count` is the coefficient for the first i + 1 rows (`so_far`), `run` is the number of these rows that are as long in ν
-- as row i + 1 of ν, and `longer` is the number of these first rows that are shorter in μ by one than row i + 1 of ν (if that row is not empty)
pub record IsRow (μ ν : List ℕ) (i count run longer : ℕ) : Type 0 where
  pub count_is : count ≡ so_far μ ν (suc i)
  pub run_is : run ≡ times_in (get_or ν i 0) (resize (suc i) ν)
  pub longer_is : (c : ℕ) → get_or ν i 0 ≡ suc c → longer ≡ times_in c (resize (suc i) μ)
  pub few_rows : run ≤ suc i
  pub few_longer : longer ≤ suc i

pub counted-none : (μ ν : List ℕ) → IsCounted μ ν 0 1 0 0
counted-none μ ν = search rules

module _ (μ ν : List ℕ) (p : IsPartition μ) (q : IsPartition ν) (s : IsVerticalStrip ν μ) where
  within : (i : ℕ) → get_or μ i 0 ≤ get_or ν i 0
  within i = omega (arith, part-get_or μ i, part-get_or ν i, s.holds (i + 1))

  near : (i : ℕ) → get_or ν i 0 ≤ get_or μ i 0 + 1
  near i = omega
      (arith, part-get_or μ i, part-get_or ν i, vertical_rows ν μ s (i + 1) (omega arith))

  sizes-first : (i : ℕ) → size (resize i μ) ≤ size (resize i ν)
  sizes-first zero = omega arith
  sizes-first (suc i) = omega
      (arith, sizes-first i, within i, size-resize_next i μ, size-resize_next i ν)

  both-first : (i : ℕ) → length (resize i μ) ≡ length (resize i ν)
  both-first i = length-resize i μ ∙ sym (length-resize i ν)

  one_row_more : (i : ℕ) → so_far μ ν (suc i)
      ≡ arrangements (sorted_parts (resize i μ ++ get_or μ i 0 ∷ []))
      (column (size (resize i ν ++ get_or ν i 0 ∷ []) - size (resize i μ ++ get_or μ i 0 ∷ [])))
      (resize i ν ++ get_or ν i 0 ∷ [])
  one_row_more i = search (rules, resize-next)

  kept : (i : ℕ) → i < length ν → get_or μ i 0 ≡ get_or ν i 0 → so_far μ ν (suc i) ≡ so_far μ ν i
  kept i h e =
      let c = get_or ν i 0 in
      let some : 0 < get_or ν i 0 = positive-at ν i q.positive h in
      let k = size (resize i ν) - size (resize i μ) in
      let above : (d : ℕ) → Among d (resize i μ) → get_or ν i 0 ≤ d = λ d m. omega
      (arith, next-resize i μ d p.falls m, e) in
      let is : IsPartition (resize i μ) = record {
        falls = Falls-resize i μ p.falls;
        positive = ArePositive_from (resize i μ) (λ d m. omega (arith, above d m, some));
      } in
      let same : size (resize i ν ++ get_or ν i 0 ∷ []) - size (resize i μ ++ get_or μ i 0 ∷ [])
      ≡ size (resize i ν) - size (resize i μ) = omega (
        arith,
        size-append (resize i μ) (get_or μ i 0 ∷ []),
        size-append (resize i ν) (get_or ν i 0 ∷ []),
      ) in
      one_row_more i
      ∙ ap₂ (λ (n a : ℕ). arrangements (sorted_parts (resize i μ ++ a ∷ [])) (column n)
      (resize i ν ++ get_or ν i 0 ∷ [])) same e
      ∙ column-kept c k (resize i μ) (resize i ν) some is (both-first i) above
      ∙ ap (λ l. arrangements l (column k) (resize i ν))
      (sym (sorted_parts-partition (resize i μ) is))

  raised : (i c : ℕ) → get_or ν i 0 ≡ suc c → get_or μ i 0 ≡ c
      → so_far μ ν (suc i) * suc (times_in c (resize i μ))
      ≡ so_far μ ν i * suc (times_in (suc c) (resize i ν))
  raised i c e f =
      let k = size (resize i ν) - size (resize i μ) in
      let more : size (resize i ν ++ get_or ν i 0 ∷ []) - size (resize i μ ++ get_or μ i 0 ∷ [])
      ≡ suc (size (resize i ν) - size (resize i μ)) = omega (
        arith,
        sizes-first i,
        size-append (resize i μ) (get_or μ i 0 ∷ []),
        size-append (resize i ν) (get_or ν i 0 ∷ []),
      ) in
      ap (λ n. n * suc (times_in c (resize i μ))) (one_row_more i)
      ∙ ap (λ n. arrangements (sorted_parts (resize i μ ++ get_or μ i 0 ∷ [])) (column n)
      (resize i ν ++ get_or ν i 0 ∷ []) * suc (times_in c (resize i μ))) more
      ∙ ap₂ (λ (a b : ℕ). arrangements (sorted_parts (resize i μ ++ a ∷ [])) (column (suc k))
      (resize i ν ++ b ∷ []) * suc (times_in c (resize i μ))) f e
      ∙ column-raised c k (resize i μ) (resize i ν) (both-first i)
      (λ d m. omega (arith, next-resize i ν d q.falls m))

  few : (i c j : ℕ) → get_or ν i 0 ≡ suc c → j ≤ i
      → times_in c (resize j μ) ≤ times_in (suc c) (resize j ν)
  few i c zero e h = omega arith
  few i c (suc j) e h = by (cases_eq (get_or μ j 0) c) (cases_eq (get_or ν j 0) (suc c))
      (few i c j e (omega arith))
    where
      far : get_or ν i 0 ≤ get_or ν j 0
      far = omega (
        arith,
        part-get_or ν i,
        part-get_or ν j,
        falls_far ν q.falls (j + 1) (i + 1) (omega arith) (omega arith),
      )

      by : (get_or μ j 0 ≡ c) ⊎ (get_or μ j 0 ≡ c → ⊥) → (get_or ν j 0 ≡ suc c) ⊎ (get_or ν j 0 ≡ suc c → ⊥)
          → times_in c (resize j μ) ≤ times_in (suc c) (resize j ν)
          → times_in c (resize (suc j) μ) ≤ times_in (suc c) (resize (suc j) ν)
      by (inl a) (inl b) r = omega (
        arith,
        ap (times_in c) (resize-next j μ),
        ap (times_in (suc c)) (resize-next j ν),
        times_in-last c (get_or μ j 0) (resize j μ) a,
        times_in-last (suc c) (get_or ν j 0) (resize j ν) b,
      )
      by (inl a) (inr b) r = absurd (b (omega (arith, far, near j)))
      by (inr a) (inl b) r = omega (
        arith,
        ap (times_in c) (resize-next j μ),
        ap (times_in (suc c)) (resize-next j ν),
        times_in-last_other c (get_or μ j 0) (resize j μ) a,
        times_in-last (suc c) (get_or ν j 0) (resize j ν) b,
      )
      by (inr a) (inr b) r = omega (
        arith,
        ap (times_in c) (resize-next j μ),
        ap (times_in (suc c)) (resize-next j ν),
        times_in-last_other c (get_or μ j 0) (resize j μ) a,
        times_in-last_other (suc c) (get_or ν j 0) (resize j ν) b,
      )

  rises_once : (i : ℕ) → i < length ν → so_far μ ν i ≤ so_far μ ν (suc i)
  rises_once i h = by (cases_lt (get_or μ i 0) (get_or ν i 0))
    where
      by : (get_or μ i 0 < get_or ν i 0) ⊎ (get_or ν i 0 ≤ get_or μ i 0)
          → so_far μ ν i ≤ so_far μ ν (suc i)
      by (inl l) =
          let c = get_or μ i 0 in
          let e : get_or ν i 0 ≡ suc (get_or μ i 0) = omega (arith, near i) in
          other_factor (so_far μ ν (suc i)) (suc (times_in c (resize i μ))) (so_far μ ν i)
          (suc (times_in (suc c) (resize i ν))) (raised i c e refl) (omega arith)
          (omega (arith, few i c i e (omega arith)))
      by (inr l) = omega (arith, kept i h (omega (arith, within i)))

  pub rises : (i n : ℕ) → i ≤ n → n ≤ length ν → so_far μ ν i ≤ so_far μ ν n
  rises i n h l = grows_from_steps (so_far μ ν) (length ν) rises_once i n h l

  rows-few : length μ ≤ length ν
  rows-few = by (cases_lt 0 (length μ))
    where
      by : (0 < length μ) ⊎ (length μ ≤ 0) → length μ ≤ length ν
      by (inl l) =
          let some : 0 < get_or μ (length μ - 1) 0 = positive-at μ (length μ - 1) p.positive
          (omega arith) in
          omega (
            arith,
            positive_within ν (length μ - 1) (omega (arith, some, within (length μ - 1))),
          )
      by (inr l) = omega arith

  pub at_end : (k : ℕ) → size ν ≡ size μ + k → so_far μ ν (length ν) ≡ arrangements μ (column k) ν
  at_end k e = search (rules, sorted_parts-resize, rows-few, resize_same, size-sorted_parts)

  -- ---- the loop over the rows of ν that computes the coefficient

  pub fraction : (i count run longer : ℕ) → IsCounted μ ν i count run longer
      → get_or μ i 0 < get_or ν i 0
      → so_far μ ν (suc i) * (longer + 1) ≡ count * (run + 1)
  fraction i count run longer h l =
      let c = get_or μ i 0 in
      let e : get_or ν i 0 ≡ suc (get_or μ i 0) = omega (arith, near i) in
      let a : longer + 1 ≡ suc (times_in (get_or μ i 0) (resize i μ)) = omega
      (arith, h.longer_is c e) in
      let b : suc (times_in (suc (get_or μ i 0)) (resize i ν)) ≡ run + 1 = omega
      (arith, h.run_is, ap (λ r. times_in r (resize i ν)) e) in
      ap (λ n. so_far μ ν (suc i) * n) a ∙ raised i c e refl
      ∙ ap₂ (λ (m n : ℕ). m * n) (sym h.count_is) b

  row_run : (i run : ℕ) → run ≡ times_in (get_or ν i 0) (resize i ν)
      → run + 1 ≡ times_in (get_or ν i 0) (resize (suc i) ν)
  row_run i run e = search (rules, resize-next, times_in-last)

  pub row_raised : (i count run longer more : ℕ) → IsCounted μ ν i count run longer
      → get_or μ i 0 < get_or ν i 0 → more ≡ so_far μ ν (suc i)
      → IsRow μ ν i more (run + 1) (longer + 1)
  row_raised i count run longer more h l e = search (rules, row_run, resize-next, times_in-last, near)

  pub row_kept : (i count run longer : ℕ) → IsCounted μ ν i count run longer → i < length ν
      → get_or ν i 0 ≤ get_or μ i 0 → IsRow μ ν i count (run + 1) longer
  row_kept i count run longer h n l = search (rules, within, kept, row_run, resize-next, times_in-last_other)

  pub next_shorter : (i count run longer : ℕ) → IsRow μ ν i count run longer
      → get_or ν (suc i) 0 < get_or ν i 0 → IsCounted μ ν (suc i) count 0 0
  next_shorter i count run longer h l = record {
    count_is = h.count_is;
    run_is = sym
        (times_in-none (get_or ν (suc i) 0) (resize (suc i) ν)
        (λ m. omega (arith, l, last-resize i ν (get_or ν (suc i) 0) q.falls m)));
    longer_is = λ c f. sym
        (times_in-none c (resize (suc i) μ)
        (λ m. omega (arith, l, f, near i, last-resize i μ c p.falls m)));
    few_rows = omega arith;
    few_longer = omega arith;
  }

  pub next_same : (i count run longer : ℕ) → IsRow μ ν i count run longer
      → get_or ν i 0 ≤ get_or ν (suc i) 0 → IsCounted μ ν (suc i) count run longer
  next_same i count run longer h l = search (rules, falls_get)
