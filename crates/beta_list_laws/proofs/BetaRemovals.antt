-- The removal of a rim hook of n cells by beta lists. Let an entry y + n of a strictly decreasing list be replaced by y and moved to the right, so
-- that the list is again strictly decreasing. Then the partition of the new list is that of the old list without a rim hook of n cells. The parts of
-- a list (`less_the_rest`) are its entries, each minus the number of the entries after it.
use Rattle.std.proofs.Common.{◌≡◌, ℕ, zero, suc, ◌+◌, ◌-◌, ◌<◌, ◌≤◌, List, [], ◌∷◌, ◌++◌, length, get_or, refl, sym, ◌∙◌, ap, arith, length-append, rules}
use Rattle.sym_model.specs.Partition.{size, part}
use Rattle.sym_model.specs.Alternant.{staircase}
use Rattle.sym_model.specs.BetaList.{less_the_rest, from_beta}
use Rattle.sym_model.specs.Strip.{height}
use Rattle.sym_model.specs.RimHookReduction.{IsRemoval}
use Rattle.sym_model.proofs.Parts.{size-append}
use Rattle.strip_laws.specs.HookRows.{IsHookRows}
use Rattle.strip_laws.proofs.RimHooks.{hook_from_rows, height_of_rows}
use Rattle.beta_list_laws.specs.StrictFall.{FallsStrictly}
use Rattle.beta_list_laws.proofs.BetaLists.{strict_tail, rest_within, from_beta_partition, part-from_beta, size-from_beta}

-- `before n y left middle right`: the lists `left`, `middle` and `right` joined, with the entry y + n between `left` and `middle`. The list `lowered`
-- has instead the entry y between `middle` and `right`
abbrev pub before : ℕ → ℕ → List ℕ → List ℕ → List ℕ → List ℕ
before n y left middle right = left ++ ((y + n) ∷ (middle ++ right))

abbrev pub lowered : ℕ → List ℕ → List ℕ → List ℕ → List ℕ
lowered y left middle right = left ++ (middle ++ (y ∷ right))

strict_drop : (left c : List ℕ) → FallsStrictly (left ++ c) → FallsStrictly c
strict_drop [] c f = f
strict_drop (a ∷ left) c f = strict_drop left c (strict_tail a (left ++ c) f)

-- ---- the parts of a beta list (`less_the_rest`): each entry minus the number of the entries after it

same_front : (left c d : List ℕ) (i : ℕ) → length c ≡ length d → i < length left → get_or (less_the_rest (left ++ c)) i 0 ≡ get_or (less_the_rest (left ++ d)) i 0
same_front [] c d i e h = absurd (omega arith)
same_front (a ∷ left) c d zero e h = let p = length-append left c in let q = length-append left d in ap (λ n. a - n) (omega arith)
same_front (a ∷ left) c d (suc i) e h = same_front left c d i e (omega arith)

past_front : (left c : List ℕ) (i : ℕ) → get_or (less_the_rest (left ++ c)) (length left + i) 0 ≡ get_or (less_the_rest c) i 0
past_front [] c i = let e : 0 + i ≡ i = omega arith in ap (λ n. get_or (less_the_rest c) n 0) e
past_front (a ∷ left) c i = search (rules, (past_front left c i))

chained_middle : (x y : ℕ) (middle right : List ℕ) (i : ℕ) → FallsStrictly (middle ++ (y ∷ right)) → i < length middle
    → get_or (less_the_rest (x ∷ (middle ++ right))) (suc i) 0 ≡ get_or (less_the_rest (middle ++ (y ∷ right))) i 0 + 1
chained_middle x y [] right i f h = absurd (omega arith)
chained_middle x y (p ∷ middle) right zero f h = search (rules, length-append, rest_within)
chained_middle x y (p ∷ middle) right (suc i) f h = chained_middle p y middle right i (strict_tail p (middle ++ (y ∷ right)) f) (omega arith)

same_back : (x y : ℕ) (middle right : List ℕ) (i : ℕ) → length middle < i → get_or (less_the_rest (x ∷ (middle ++ right))) i 0 ≡ get_or (less_the_rest (middle ++ (y ∷ right))) i 0
same_back x y middle right zero h = absurd (omega arith)
same_back x y [] right (suc i) h = refl
same_back x y (p ∷ middle) right (suc i) h = same_back p y middle right i (omega arith)

pub above_lowered : (y z : ℕ) (middle back : List ℕ) → FallsStrictly (z ∷ (middle ++ (y ∷ back))) → y < z
above_lowered y z [] back f = f.0
above_lowered y z (m ∷ middle) back f = let p = f.0 in let q = above_lowered y m middle back f.1 in omega arith

below_last : (x y : ℕ) (middle right : List ℕ) → y < x → FallsStrictly (middle ++ (y ∷ right))
    → get_or (less_the_rest (middle ++ (y ∷ right))) (length middle) 0 < get_or (less_the_rest (x ∷ (middle ++ right))) (length middle) 0
below_last x y [] right h f = let w = rest_within y right f in omega arith
below_last x y (p ∷ middle) right h f = below_last p y middle right (above_lowered y p middle right f) (strict_tail p (middle ++ (y ∷ right)) f)

-- ---- the partitions of `before` and of `lowered` satisfy the conditions on the rows of a rim hook (`IsHookRows`)

abbrev outer_of : ℕ → ℕ → List ℕ → List ℕ → List ℕ → List ℕ
outer_of n y left middle right = from_beta (before n y left middle right)

abbrev inner_of : ℕ → List ℕ → List ℕ → List ℕ → List ℕ
inner_of y left middle right = from_beta (lowered y left middle right)

same_length : (x y : ℕ) (middle right : List ℕ) → length (x ∷ (middle ++ right)) ≡ length (middle ++ (y ∷ right))
same_length x y middle right = let a = length-append middle right in let b = length-append middle (y ∷ right) in omega arith

outer_at : (n y : ℕ) (left middle right : List ℕ) (i j : ℕ) → i - 1 ≡ length left + j → part (outer_of n y left middle right) i ≡ get_or (less_the_rest ((y + n) ∷ (middle ++ right))) j 0
outer_at n y left middle right i j e = search (rules, part-from_beta, past_front)

inner_at : (y : ℕ) (left middle right : List ℕ) (i j : ℕ) → i - 1 ≡ length left + j → part (inner_of y left middle right) i ≡ get_or (less_the_rest (middle ++ (y ∷ right))) j 0
inner_at y left middle right i j e = search (rules, part-from_beta, past_front)

shown_rows : (n y : ℕ) (left middle right : List ℕ) → 1 ≤ n → FallsStrictly (lowered y left middle right)
    → IsHookRows (outer_of n y left middle right) (inner_of y left middle right) (length left + 1) (length left + 1 + length middle)
shown_rows n y left middle right h f = record {
  counts = omega arith;
  ordered = omega arith;
  above = λ i a b.
      part-from_beta (before n y left middle right) i
      ∙ same_front left ((y + n) ∷ (middle ++ right)) (middle ++ (y ∷ right)) (i - 1) (same_length (y + n) y middle right) (omega arith)
      ∙ sym (part-from_beta (lowered y left middle right) i);
  below = λ i a.
      outer_at n y left middle right i (i - 1 - length left) (omega arith)
      ∙ same_back (y + n) y middle right (i - 1 - length left) (omega arith)
      ∙ sym (inner_at y left middle right i (i - 1 - length left) (omega arith));
  chained = λ i a b.
      outer_at n y left middle right (i + 1) (suc (i - 1 - length left)) (omega arith)
      ∙ chained_middle (y + n) y middle right (i - 1 - length left) (strict_drop left (middle ++ (y ∷ right)) f) (omega arith)
      ∙ ap (λ p. p + 1) (sym (inner_at y left middle right i (i - 1 - length left) (omega arith)));
  end =
      let o = outer_at n y left middle right (length left + 1 + length middle) (length middle) (omega arith) in
      let p = inner_at y left middle right (length left + 1 + length middle) (length middle) (omega arith) in
      let l = below_last (y + n) y middle right (omega arith) (strict_drop left (middle ++ (y ∷ right)) f) in
      omega arith;
}

pub shown_removal : (n y : ℕ) (left middle right : List ℕ) → 1 ≤ n → FallsStrictly (before n y left middle right) → FallsStrictly (lowered y left middle right)
    → IsRemoval n (from_beta (before n y left middle right)) (from_beta (lowered y left middle right))
shown_removal n y left middle right h g f =
    let outer = from_beta_partition (before n y left middle right) g in
    record {
      partition = from_beta_partition (lowered y left middle right) f;
      hook = hook_from_rows (outer_of n y left middle right) (inner_of y left middle right) (length left + 1) (length left + 1 + length middle) outer.falls (shown_rows n y left middle right h f);
      cells =
          let a = size-from_beta (before n y left middle right) g in
          let b = size-from_beta (lowered y left middle right) f in
          let c = size-append left ((y + n) ∷ (middle ++ right)) in
          let d = size-append left (middle ++ (y ∷ right)) in
          let p = size-append middle right in
          let q = size-append middle (y ∷ right) in
          let l = length-append left ((y + n) ∷ (middle ++ right)) in
          let m = length-append left (middle ++ (y ∷ right)) in
          let s = same_length (y + n) y middle right in
          let e : length (before n y left middle right) ≡ length (lowered y left middle right) = omega arith in
          let t = ap (λ k. size (staircase k)) e in
          omega arith;
    }

pub shown_height : (n y : ℕ) (left middle right : List ℕ) → 1 ≤ n → FallsStrictly (before n y left middle right) → FallsStrictly (lowered y left middle right)
    → height (from_beta (before n y left middle right)) (from_beta (lowered y left middle right)) ≡ length middle + 1
shown_height n y left middle right h g f =
    let outer = from_beta_partition (before n y left middle right) g in
    let e = height_of_rows (outer_of n y left middle right) (inner_of y left middle right) (length left + 1) (length left + 1 + length middle) outer.falls (shown_rows n y left middle right h f) in
    omega arith
