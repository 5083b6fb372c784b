-- The partitions that result if the beads of a partition, that is, the numbers of its beta set, move up as a horizontal or vertical strip allows
-- (specs/BeadMoves).
--     strip_lists     the lists of moved beads are the beta lists of the partitions that result from adding a strip, each listed once
use Rattle.std.proofs.Common.{◌≡◌, ℕ, zero, suc, ◌+◌, ◌-◌, ◌<◌, ◌≤◌, List, [], ◌∷◌, map, length, get_or, refl, sym, ap, ◌∙◌, subst, arith, rules}
use Rattle.sym_model.specs.Sum.{Among, Once}
use Rattle.sym_model.specs.Partition.{IsPartition, Holds, part, after, size, rows}
use Rattle.sym_model.specs.BetaList.{beta, from_beta, less_the_rest}
use Rattle.sym_model.proofs.Sums.{Among-map, Among_from_map, Once-map}
use Rattle.sym_model.proofs.Parts.{get_or-le-size}
use Rattle.strip_laws.proofs.Strips.{falls_part, horizontal_from_rows, horizontal_rows, vertical_from_rows, vertical_rows}
use Rattle.beta_list_laws.specs.StrictFall.{FallsStrictly}
use Rattle.beta_list_laws.proofs.BetaLists.{length-beta, from_beta-beta, beta-from_beta, from_beta_partition, part-from_beta, size-from_beta, size-beta}
use Rattle.product_laws.specs.StripLists.{ListsEach, AddsHorizontalStrip, AddsVerticalStrip}
use Rattle.strip_rules.specs.declared.bead_strips.Strip.{Strip}
use Rattle.strip_rules.specs.declared.bead_strips.Strip.TheVariants.{Horizontal, Vertical}
use Rattle.strip_rules.proofs.ShapeLists.{IsAround, rows_around}
use Rattle.strip_rules.proofs.BeadLists.{barrier, AreMoved, falls_strictly, length-moved, moved_falls}
use Rattle.strip_rules.proofs.CellMoves.{different}

rows_up : (strip : Strip) (limit : ℕ) (beads moved : List ℕ) → AreMoved strip limit beads moved → (i : ℕ) → get_or (less_the_rest beads) i 0 ≤ get_or (less_the_rest moved) i 0
rows_up strip limit [] [] a i = omega arith
rows_up strip limit [] (c ∷ moved) a i = absurd a
rows_up strip limit (b ∷ beads) [] a i = absurd a
rows_up strip limit (b ∷ beads) (c ∷ moved) a zero = let u = a.0.up in let l = length-moved strip (barrier strip b c) beads moved a.1 in omega arith
rows_up strip limit (b ∷ beads) (c ∷ moved) a (suc i) = rows_up strip (barrier strip b c) beads moved a.1 i

rows_apart : (limit : ℕ) (beads moved : List ℕ) → AreMoved Horizontal limit beads moved → (i : ℕ) → get_or (less_the_rest moved) (suc i) 0 ≤ get_or (less_the_rest beads) i 0
rows_apart limit [] [] a i = omega arith
rows_apart limit [] (c ∷ moved) a i = absurd a
rows_apart limit (b ∷ beads) [] a i = absurd a
rows_apart limit (b ∷ []) (c ∷ []) a zero = omega arith
rows_apart limit (b ∷ []) (c ∷ d ∷ moved) a zero = absurd a.1
rows_apart limit (b ∷ e ∷ beads) (c ∷ []) a zero = absurd a.1
rows_apart limit (b ∷ e ∷ beads) (c ∷ d ∷ moved) a zero = let h = a.1.0.below in let l = length-moved Horizontal e beads moved a.1.1 in omega arith
rows_apart limit (b ∷ beads) (c ∷ moved) a (suc i) = rows_apart b beads moved a.1 i

rows_near : (limit : ℕ) (beads moved : List ℕ) → AreMoved Vertical limit beads moved → (i : ℕ) → get_or (less_the_rest moved) i 0 ≤ get_or (less_the_rest beads) i 0 + 1
rows_near limit [] [] a i = omega arith
rows_near limit [] (c ∷ moved) a i = absurd a
rows_near limit (b ∷ beads) [] a i = absurd a
rows_near limit (b ∷ beads) (c ∷ moved) a zero = let o = a.0.one refl in let l = length-moved Vertical c beads moved a.1 in omega arith
rows_near limit (b ∷ beads) (c ∷ moved) a (suc i) = rows_near c beads moved a.1 i

-- ---- the beads of the partitions that result from adding a strip

moved_after : (strip : Strip) (f g : ℕ → ℕ) (a k limit : ℕ) → ((i : ℕ) → a < i → i ≤ a + k → (f i ≤ g i) × (strip ≡ Vertical → g i ≤ f i + 1))
    → ((i : ℕ) → a < i → i < a + k → g (i + 1) < barrier strip (f i) (g i)) → g (a + 1) < limit → AreMoved strip limit (map f (after a k)) (map g (after a k))
moved_after strip f g a zero limit up below first = tt
moved_after strip f g a (suc zero) limit up below first =
    let u = up (a + 1) (omega arith) (omega arith) in (record { up = u.0; below = first; one = u.1 }, tt)
moved_after strip f g a (suc (suc k)) limit up below first =
    let u = up (a + 1) (omega arith) (omega arith) in (
      record { up = u.0; below = first; one = u.1 },
      moved_after strip f g (a + 1) (suc k) (barrier strip (f (a + 1)) (g (a + 1))) (λ i h l. up i (omega arith) (omega arith)) (λ i h l. below i (omega arith) (omega arith)) (below (a + 1) (omega arith) (omega arith)),
    )

-- ν results from the partition `inner` by adding a horizontal or vertical strip of k cells, as `strip` says
abbrev pub AddsStrip : Strip → ℕ → List ℕ → List ℕ → Type 0
AddsStrip Horizontal = AddsHorizontalStrip
AddsStrip Vertical = AddsVerticalStrip

module _ (n k limit : ℕ) (parts : List ℕ) (p : IsPartition parts) (few : rows parts + k ≤ n) (wide : size parts + k + n < limit) where
  fits : rows parts ≤ n
  fits = omega arith

  old_row : (i : ℕ) → part parts i ≡ part (less_the_rest (beta n parts)) i
  old_row i = ap (λ l. part l i) (sym (from_beta-beta n parts p fits)) ∙ part-from_beta (beta n parts) i

  module _ (strip : Strip) (m : List ℕ) (a : AreMoved strip limit (beta n parts) m) (sum : size m ≡ size (beta n parts) + k) where
    strict : FallsStrictly m
    strict = falls_strictly limit m (moved_falls strip limit (beta n parts) m a)

    long : length m ≡ n
    long = length-moved strip limit (beta n parts) m a ∙ length-beta n parts

    cells : size (from_beta m) ≡ size parts + k
    cells = search (rules, size-from_beta, strict, size-beta, fits, long)

    held : Holds (from_beta m) parts
    held i = search (rules, rows_up, old_row, part-from_beta)

  horizontal_sound : (m : List ℕ) → AreMoved Horizontal limit (beta n parts) m → size m ≡ size (beta n parts) + k → AddsHorizontalStrip k parts (from_beta m)
  horizontal_sound m a sum =
      let q = from_beta_partition m (strict Horizontal m a sum) in
      (q, cells Horizontal m a sum, horizontal_from_rows (from_beta m) parts q.falls (held Horizontal m a sum) apart)
    where
      apart : (i : ℕ) → 1 ≤ i → part (from_beta m) (i + 1) ≤ part parts i
      apart i h =
          let u = rows_apart limit (beta n parts) m a (i - 1) in
          let j = ap (λ x. get_or (less_the_rest m) x 0) (let e : i + 1 - 1 ≡ suc (i - 1) = omega arith in e) in
          let e = old_row i in
          let f = part-from_beta m (i + 1) in
          omega arith

  vertical_sound : (m : List ℕ) → AreMoved Vertical limit (beta n parts) m → size m ≡ size (beta n parts) + k → AddsVerticalStrip k parts (from_beta m)
  vertical_sound m a sum = search (rules, from_beta_partition, strict, cells, vertical_from_rows, held, rows_near, old_row, part-from_beta)

  sound : (strip : Strip) (m : List ℕ) → AreMoved strip limit (beta n parts) m → size m ≡ size (beta n parts) + k → AddsStrip strip k parts (from_beta m)
  sound Horizontal = horizontal_sound
  sound Vertical = vertical_sound

  around : (strip : Strip) (ν : List ℕ) → AddsStrip strip k parts ν → IsAround k parts ν
  around Horizontal ν s = record { partition = s.0; cells = s.1; holds = s.2.holds }
  around Vertical ν s = record { partition = s.0; cells = s.1; holds = s.2.holds }

  one_more : (strip : Strip) (ν : List ℕ) → AddsStrip strip k parts ν → strip ≡ Vertical → (i : ℕ) → 1 ≤ i → part ν i ≤ part parts i + 1
  one_more Horizontal ν s e i h = absurd (different e)
  one_more Vertical ν s e i h = vertical_rows ν parts s.2 i h

  next_below : (strip : Strip) (ν : List ℕ) → AddsStrip strip k parts ν → (i : ℕ) → 1 ≤ i → i < n → part ν (i + 1) + (n - (i + 1)) < barrier strip (part parts i + (n - i)) (part ν i + (n - i))
  next_below Horizontal ν s i h l = let r = horizontal_rows ν parts s.0.falls p.falls s.2 i h in omega arith
  next_below Vertical ν s i h l = let r = falls_part ν s.0.falls i h in omega arith

  moved : (strip : Strip) (ν : List ℕ) → AddsStrip strip k parts ν → AreMoved strip limit (beta n parts) (beta n ν) × (size (beta n ν) ≡ size (beta n parts) + k) × (from_beta (beta n ν) ≡ ν)
  moved strip ν s =
      let r = around strip ν s in
      let q = r.partition in
      let c = r.cells in
      let rows_fit = rows_around k parts ν p r in
      let fit : rows ν ≤ n = omega arith in
      let t = size-beta n parts p fits in
      let u = size-beta n ν q fit in (
        moved_after strip (λ i. part parts i + (n - i)) (λ i. part ν i + (n - i)) 0 n limit
            (λ i h l. (let o = r.holds i in omega arith, λ e. let o = one_more strip ν s e i (omega arith) in omega arith))
            (λ i h l. next_below strip ν s i (omega arith) (omega arith)) (let z = get_or-le-size ν (0 + 1 - 1) in omega arith),
        omega arith,
        from_beta-beta n ν q fit,
      )

  pub strip_lists : (strip : Strip) (lists : List (List ℕ)) → Once lists → ((m : List ℕ) → Among m lists → AreMoved strip limit (beta n parts) m × (size m ≡ size (beta n parts) + k))
      → ((m : List ℕ) → AreMoved strip limit (beta n parts) m → size m ≡ size (beta n parts) + k → Among m lists) → ListsEach (AddsStrip strip k parts) (map from_beta lists)
  strip_lists strip lists once tells there = record {
    once = Once-map from_beta lists same once;
    members = λ ν. (one_of ν, made ν);
  }
    where
      back : (m : List ℕ) → Among m lists → beta n (from_beta m) ≡ m
      back m i =
          let t = tells m i in
          ap (λ j. beta j (from_beta m)) (sym (long strip m t.0 t.1)) ∙ beta-from_beta m (strict strip m t.0 t.1)

      same : (x y : List ℕ) → Among x lists → Among y lists → from_beta x ≡ from_beta y → x ≡ y
      same x y i j e = sym (back x i) ∙ ap (beta n) e ∙ back y j

      one_of : (ν : List ℕ) → Among ν (map from_beta lists) → AddsStrip strip k parts ν
      one_of ν i =
          let f = Among_from_map from_beta ν lists i in
          let t = tells f.0 f.1 in
          subst (AddsStrip strip k parts) (sym f.2) (sound strip f.0 t.0 t.1)

      made : (ν : List ℕ) → AddsStrip strip k parts ν → Among ν (map from_beta lists)
      made ν s =
          let m = moved strip ν s in
          subst (λ (l : List ℕ). Among l (map from_beta lists)) m.2 (Among-map from_beta (beta n ν) lists (there (beta n ν) m.0 m.1))
