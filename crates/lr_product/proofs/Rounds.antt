-- The loop of `with_columns`: its start, one pass, in which one column of the shape is added, and its end. The loop works on a table of states with
-- counts; a *state* is a *sum*, which is a list of n numbers, followed by the column added last. The *weighed sum* of a table, for a function f, is
-- the sum of count·f(state). Two numbers *agree* if they are equal or both at least 2^127. A function f *vanishes outside* a bound, which is a list
-- of numbers, if it is 0 at each sum in which some number is greater than the number of the bound at the same index.
use Rattle.std.proofs.Common.{◌≡◌, ℕ, zero, suc, ◌+◌, ◌-◌, ◌<◌, ◌≤◌, ◌⊎◌, inl, inr, nat_le, nat_lt, Bool, true, false, ◌&&◌, cond, List, [], ◌∷◌, ◌++◌, length, take, drop, refl, sym, subst, ap, ap₂, ◌∙◌, arith, rules}
use Rattle.std.proofs.lemmas.Bool.{cases_lt, lt-ltb, le-ltb, lt-leb, le-leb, and_right}
use Rattle.std.proofs.Math.Seq.{take-length, drop-length}
use Rattle.sym_model.specs.Partition.{Falls, IsPartition, size, columns}
use Rattle.sym_model.specs.Polynomial.{join, resize}
use Rattle.sym_model.specs.Schur.{contains, content}
use Rattle.sym_model.proofs.Exponents.{length-resize}
use Rattle.tableau_laws.specs.PaddedRows.{words_over}
use Rattle.tableau_laws.specs.Grid.{pass_by_place}
use Rattle.tableau_laws.specs.ColumnFold.{column_lines, may_be_next}
use Rattle.tableau_laws.proofs.ColumnCounts.{falling-resize}
use Rattle.lr_product.specs.ColumnLine.{column_line}
use Rattle.lr_product.specs.WeighedSum.{at_state, weighed, next_states, over_states, seen, unreached, places, VanishesOutside}
use Rattle.lr_product.specs.Capped.{Agree}
use Rattle.lr_product.proofs.Agreeing.{agree_same, agree_then}
use Rattle.lr_product.proofs.Reaching.{reached, weighed-weaker}
use Rattle.sym_model.proofs.NumberSums.{sum_by-ext, sum_by-zero}
use Rattle.lr_product.proofs.Heights.{column-cons, column-none, places-drop, places-lines}
use Rattle.sym_model.proofs.Lists.{drop-none}
use Rattle.sym_model.proofs.Numbers.{second_false, zero_either}

pub agree_zero : (a b : ℕ) → Agree a b → b ≡ 0 → a ≡ 0
agree_zero a b p e = search rules

size-resize : (n : ℕ) (s : List ℕ) → size (resize n s) ≤ size s
size-resize zero s = omega arith
size-resize (suc n) [] = let i = size-resize n [] in omega arith
size-resize (suc n) (a ∷ s) = let i = size-resize n s in omega arith

pub start_within : (n m : ℕ) (start right : List ℕ) → IsPartition start → size start ≤ m → unreached n m (resize n start) right ≡ 0
start_within n m start right p room = search (rules, size-resize, reached, length-resize, falling-resize)

pub resize-zero : (n : ℕ) (s : List ℕ) → length s < n → resize n (s ++ 0 ∷ []) ≡ resize n s
resize-zero zero s h = absurd (omega arith)
resize-zero (suc n) [] h = refl
resize-zero (suc n) (a ∷ s) h = ap (λ l. a ∷ l) (resize-zero n s (omega arith))

pub resize-full : (n : ℕ) (s : List ℕ) → length s ≤ n → n ≤ length s → resize n s ≡ s
resize-full zero [] h l = refl
resize-full zero (a ∷ s) h l = absurd (omega arith)
resize-full (suc n) [] h l = absurd (omega arith)
resize-full (suc n) (a ∷ s) h l = ap (λ x. a ∷ x) (resize-full n s (omega arith) (omega arith))

within-more : (ν κ bound : List ℕ) → pass_by_place nat_le ν bound ≡ false → pass_by_place nat_le (join ν κ) bound ≡ false
within-more [] κ [] h = absurd (cc)
within-more [] κ (b ∷ bound) h = absurd (cc)
within-more (a ∷ ν) κ [] h = absurd (cc)
within-more (a ∷ ν) [] (b ∷ bound) h = h
within-more (a ∷ ν) (x ∷ κ) (b ∷ bound) h = by (cases_lt b a) (λ g. within-more ν κ bound g)
  where
    by : (b < a) ⊎ (a ≤ b) → (pass_by_place nat_le ν bound ≡ false → pass_by_place nat_le (join ν κ) bound ≡ false) → nat_le (a + x) b && pass_by_place nat_le (join ν κ) bound ≡ false
    by (inl l) rec = ap (λ t. t && pass_by_place nat_le (join ν κ) bound) (lt-leb (a + x) b (omega arith))
    by (inr l) rec = and_right (nat_le (a + x) b) _ (rec (second_false (nat_le a b) (le-leb a b l) h))

pub vanishes-next : (n : ℕ) (line : List Bool) (bound : List ℕ) (kept : Bool) (f : List ℕ → List ℕ → ℕ) → VanishesOutside bound f → VanishesOutside bound (next_states n line (seen kept f))
vanishes-next n line bound kept f v ν right h =
    sum_by-ext (λ c. cond (may_be_next n ν right c) (seen kept f (join ν (content n c)) c) 0) (λ c. 0) (λ c. zero_either (may_be_next n ν right c) (seen_zero kept (join ν (content n c)) c (within-more ν (content n c) bound h))) (words_over n line)
    ∙ sum_by-zero (words_over n line)
  where
    seen_zero : (k : Bool) (ν' r : List ℕ) → pass_by_place nat_le ν' bound ≡ false → seen k f ν' r ≡ 0
    seen_zero true ν' r e = v ν' r e
    seen_zero false ν' r e = v ν' [] e

vanishes-seen : (kept : Bool) (bound : List ℕ) (f : List ℕ → List ℕ → ℕ) → VanishesOutside bound f → VanishesOutside bound (seen kept f)
vanishes-seen true bound f v ν right h = v ν right h
vanishes-seen false bound f v ν right h = v ν [] h

-- ---- the table at the start of the loop, and after one more column is added

-- before the first pass, `at` is the number of columns, and no column has been added: the weighed sum of the table `starts` agrees with the sum over
-- all ways to add the columns after the first `at`, that is, no columns
pub start_counts : (n : ℕ) (outer inner : List ℕ) (starts : List (List ℕ × ℕ)) (at : ℕ) → Falls outer
    → contains outer inner ≡ true → at ≡ columns outer → (f : List ℕ → List ℕ → ℕ)
    → Agree (weighed n (seen (nat_lt 0 at) f) starts)
    (weighed n (over_states n (drop at (column_lines outer inner)) (seen (nat_lt 0 at) f)) starts)
start_counts n outer inner starts at fall c e f =
    let none : drop at (column_lines outer inner) ≡ [] =
    ap (λ k. drop k (column_lines outer inner)) e ∙ column-none outer inner fall c in
    agree_same _ _ (ap (λ ls. weighed n (over_states n ls (seen (nat_lt 0 at) f)) starts) (sym none))

pub start_reached : (n m : ℕ) (outer inner : List ℕ) (starts : List (List ℕ × ℕ)) (at : ℕ)
    → weighed n (unreached n m) starts ≡ 0
    → weighed n (unreached n (m + places (drop at (column_lines outer inner)))) starts ≡ 0
start_reached n m outer inner starts at z =
    weighed-weaker n m (m + places (drop at (column_lines outer inner))) starts (omega arith) z

-- let size start ≤ m, and let, for each f, the weighed sum of a table agree with the value of f at the state that consists of `start` and no column:
-- then the states of positive count in the table have weakly decreasing sums of size at most m
pub first_reached : (n m : ℕ) (start : List ℕ) (es : List (List ℕ × ℕ)) → IsPartition start → size start ≤ m
    → ((f : List ℕ → List ℕ → ℕ) → Agree (weighed n f es) (f (resize n start) []))
    → weighed n (unreached n m) es ≡ 0
first_reached n m start es p room agree =
    agree_zero _ _ (agree (unreached n m)) (start_within n m start [] p room)

last_column : (outer inner : List ℕ) (at : ℕ) → Falls outer → contains outer inner ≡ true → 0 < at → at ≤ columns outer
    → drop (at - 1) (column_lines outer inner) ≡ column_line at outer inner ∷ drop at (column_lines outer inner)
last_column outer inner at fall c h k = search (rules, column-cons)

places_last : (outer inner : List ℕ) (at : ℕ) (line : List Bool) → Falls outer → contains outer inner ≡ true → 0 < at → at ≤ columns outer → line ≡ column_line at outer inner
    → places (drop (at - 1) (column_lines outer inner)) ≡ length line + places (drop at (column_lines outer inner))
places_last outer inner at line fall c h k is =
    ap places (last_column outer inner at fall c h k) ∙ ap (λ (l : List Bool). length l + places (drop at (column_lines outer inner))) (sym is)

-- before column `at` is added, the sums of the table have sizes of at most 4096 minus the number of places of this column
pub round_room : (n m : ℕ) (outer inner : List ℕ) (es : List (List ℕ × ℕ)) (at : ℕ) (line : List Bool) → Falls outer
    → contains outer inner ≡ true → 0 < at → at ≤ columns outer → m + size outer ≤ 4096
    → line ≡ column_line at outer inner
    → weighed n (unreached n (m + places (drop at (column_lines outer inner)))) es ≡ 0
    → (weighed n (unreached n (4096 - length line)) es ≡ 0) × (length line ≤ 4096)
round_room n m outer inner es at line fall c h k room is z =
    let p = places_last outer inner at line fall c h k is in
    let r = places-drop (at - 1) (column_lines outer inner) in
    let s = places-lines outer inner c in
    (weighed-weaker n _ (4096 - length line) es (omega arith) z, omega arith)

-- if the table counts the ways to add the columns after column `at`, and `new` is the table with column `at` added, then `new` counts the ways to add
-- the columns from `at` on, for sums within the bound
pub round_counts : (n : ℕ) (outer inner bound : List ℕ) (starts es new : List (List ℕ × ℕ)) (at : ℕ)
    (line : List Bool) (kept : Bool) → Falls outer → contains outer inner ≡ true → 0 < at → at ≤ columns outer
    → line ≡ column_line at outer inner → kept ≡ nat_lt 1 at
    → ((f : List ℕ → List ℕ → ℕ) → VanishesOutside bound f → Agree (weighed n (seen (nat_lt 0 at) f) es)
    (weighed n (over_states n (drop at (column_lines outer inner)) (seen (nat_lt 0 at) f)) starts))
    → ((f : List ℕ → List ℕ → ℕ) → VanishesOutside bound f
    → Agree (weighed n f new) (weighed n (next_states n line (seen kept f)) es))
    → (f : List ℕ → List ℕ → ℕ) → VanishesOutside bound f
    → Agree (weighed n (seen (nat_lt 0 (at - 1)) f) new)
    (weighed n (over_states n (drop (at - 1) (column_lines outer inner)) (seen (nat_lt 0 (at - 1)) f)) starts)
round_counts n outer inner bound starts es new at line kept fall c h k is last agree more f v =
    let b = nat_lt 0 (at - 1) in
    let w = vanishes-seen b bound f v in
    let g = next_states n line (seen kept (seen b f)) in
    let before = agree g (vanishes-next n line bound kept (seen b f) w) in
    agree_then _ _ _ (more (seen b f) w) (agree_then _ _ _
    (subst (λ t. Agree (weighed n (seen t g) es) (weighed n (over_states n rest (seen t g)) starts)) (lt-ltb 0 at h) before)
    (agree_same _ _
    (ap₂ (λ (l : List Bool) (t : Bool). weighed n (over_states n (l ∷ rest) (seen t (seen b f))) starts) is (last ∙ fewer (cases_lt 1 at))
    ∙ twice (column_line at outer inner) b
    ∙ sym (ap (λ ls. weighed n (over_states n ls (seen b f)) starts) (last_column outer inner at fall c h k)))))
  where
    rest : List (List Bool)
    rest = drop at (column_lines outer inner)

    fewer : (1 < at) ⊎ (at ≤ 1) → nat_lt 1 at ≡ nat_lt 0 (at - 1)
    fewer (inl l) = lt-ltb 1 at l ∙ sym (lt-ltb 0 (at - 1) (omega arith))
    fewer (inr l) = le-ltb 1 at l ∙ sym (le-ltb 0 (at - 1) (omega arith))

    twice : (l : List Bool) (t : Bool) → weighed n (over_states n (l ∷ rest) (seen t (seen t f))) starts ≡ weighed n (over_states n (l ∷ rest) (seen t f)) starts
    twice l true = refl
    twice l false = refl

pub round_reached : (n m : ℕ) (outer inner : List ℕ) (new : List (List ℕ × ℕ)) (at : ℕ) (line : List Bool) → Falls outer
    → contains outer inner ≡ true → 0 < at → at ≤ columns outer → line ≡ column_line at outer inner
    → weighed n (unreached n (m + places (drop at (column_lines outer inner)) + length line)) new ≡ 0
    → weighed n (unreached n (m + places (drop (at - 1) (column_lines outer inner)))) new ≡ 0
round_reached n m outer inner new at line fall c h k is z =
    let p = places_last outer inner at line fall c h k is in
    weighed-weaker n _ (m + places (drop (at - 1) (column_lines outer inner))) new (omega arith) z

-- after the last column is added (at = 0), the weighed sums of the table agree with the sums over all ways to add the columns
pub last_counts : (n : ℕ) (outer inner : List ℕ) (starts es : List (List ℕ × ℕ)) (at : ℕ) (f : List ℕ → ℕ) → at ≤ 0
    → Agree (weighed n (seen (nat_lt 0 at) (λ ν right. f ν)) es)
    (weighed n (over_states n (drop at (column_lines outer inner)) (seen (nat_lt 0 at) (λ ν right. f ν))) starts)
    → Agree (weighed n (λ ν right. f ν) es) (weighed n (over_states n (column_lines outer inner) (λ ν right. f ν)) starts)
last_counts n outer inner starts es at f h agree =
    let lines = column_lines outer inner in
    let z : at ≡ 0 = omega arith in
    subst (λ ls. Agree (weighed n (λ ν right. f ν) es) (weighed n (over_states n ls (λ ν right. f ν)) starts)) (drop-none lines)
    (subst (λ k. Agree (weighed n (seen (nat_lt 0 k) (λ ν right. f ν)) es) (weighed n (over_states n (drop k lines) (seen (nat_lt 0 k) (λ ν right. f ν))) starts)) z agree)

pub last_reached : (n m : ℕ) (outer inner : List ℕ) (es : List (List ℕ × ℕ)) (at : ℕ) → contains outer inner ≡ true
    → m + size outer ≤ 4096 → weighed n (unreached n (m + places (drop at (column_lines outer inner)))) es ≡ 0
    → weighed n (unreached n 4096) es ≡ 0
last_reached n m outer inner es at c room z =
    let r = places-drop at (column_lines outer inner) in
    let s = places-lines outer inner c in
    weighed-weaker n _ 4096 es (omega arith) z

pub at_whole : (n : ℕ) (f : List ℕ → List ℕ → ℕ) (s : List ℕ) → length s ≡ n → at_state n f s ≡ f s []
at_whole n f s e = ap₂ f (ap (λ k. take k s) (sym e) ∙ take-length s) (ap (λ k. drop k s) (sym e) ∙ drop-length s)
