-- A tableau T of the skew shape outer/inner is good for the partition `start` if start plus the content of the last j columns of T is a partition for
-- each j. No letter of row i of such a T is greater than i plus the number of rows of `start`. So start + content(T) has at most as many rows as
-- `start` and outer have together.
use Rattle.std.proofs.Common.{◌≡◌, ℕ, zero, suc, ◌+◌, ◌-◌, ◌<◌, ◌≤◌, ◌⊎◌, Bool, true, false, cond, ◌&&◌, List, [], ◌∷◌, ◌++◌, map, length, reverse, drop, get_or, nat_le, sym, ◌∙◌, ap, subst, refl, inl, inr, arith, ℤ, pos}
use Rattle.std.proofs.lemmas.Bool.{cases_lt, cases_Bool, and_parts, leb-true}
use Rattle.std.proofs.lemmas.List.{reverse-append, reverse-reverse, get_or_past}
use Rattle.sym_model.specs.Partition.{Falls, rows, in_front, without_last_zeros}
use Rattle.sym_model.specs.Polynomial.{same, join, resize}
use Rattle.sym_model.specs.Schur.{times_in, content}
use Rattle.sym_model.specs.GoodTableau.{is_falling}
use Rattle.sym_model.proofs.Sums.{total_none}
use Rattle.sym_model.proofs.Exponents.{same_apart, length-resize, get_or-join}
use Rattle.sym_model.proofs.Contents.{times_in-here, times_in-other}
use Rattle.tableau_laws.specs.PaddedRows.{put_row, transposed, words_over, pattern_of}
use Rattle.tableau_laws.specs.Grid.{may_precede, is_chain, pass_by_place, may_stand_above}
use Rattle.tableau_laws.specs.ColumnFold.{may_be_next, over_columns, column_lines, is_sum}
use Rattle.tableau_laws.proofs.PatternFillings.{Fits, word_tells, fits_length}
use Rattle.tableau_laws.proofs.ColumnSums.{over_columns-last}
use Rattle.alternant_laws.proofs.LeftColumns.{AreLong, falls_last, falls-transposed}
use Rattle.alternant_laws.proofs.FailingColumns.{none_below}
use Rattle.alternant_laws.proofs.StraightShapes.{falls_places, EndsAt, at_content, past_content, at_resize, long_last, long_anyway}

-- ---- upper bounds for the letters of one column of a good tableau

AreBounded : ℕ → List ℕ → Type 0
AreBounded d [] = Unit {0}
AreBounded d (v ∷ w) = (v ≤ d + 1) × AreBounded (d + 1) w

bounded : (d : ℕ) (c right : List ℕ) → is_chain may_stand_above c ≡ true → pass_by_place nat_le c right ≡ true → AreBounded d right
    → ((k : ℕ) → d + length right < k → times_in (suc k) c ≤ times_in k c) → AreBounded d c
unfolding AreBounded
bounded d [] right e p b o = tt
bounded d (v ∷ w) (r ∷ right) e p b o =
    let q = and_parts (nat_le v r) (pass_by_place nat_le w right) p in
    let l = leb-true v r q.0 in
    let g = b.0 in
    let s = and_parts (may_precede may_stand_above v w) (is_chain may_stand_above w) e in
    (omega arith, bounded (d + 1) w right s.1 q.1 b.1 (λ k h. let t = o k (omega arith) in let x = times_in-other k v w (λ i. absurd (omega arith)) in let y = times_in-other (suc k) v w (λ i. absurd (omega arith)) in omega arith))
bounded d (v ∷ w) [] e p b o =
    let l = first (cases_lt (d + 1) v) in
    let s = and_parts (may_precede may_stand_above v w) (is_chain may_stand_above w) e in
    (l, bounded (d + 1) w [] s.1 (nothing_right w) tt (λ k h. let t = o k (omega arith) in let x = times_in-other k v w (λ i. absurd (omega arith)) in let y = times_in-other (suc k) v w (λ i. absurd (omega arith)) in omega arith))
  where
    nothing_right : (u : List ℕ) → pass_by_place nat_le u [] ≡ true
    nothing_right [] = refl
    nothing_right (x ∷ u) = refl

    gap : (j : ℕ) → v ≡ suc j → d < j → ⊥
    gap j i h =
        let g = o j (omega arith) in
        let x = times_in-here (suc j) v w i in
        let y = times_in-other j v w (λ q. absurd (omega arith)) in
        let z = none_below j v w (omega arith) (omega arith) e in
        absurd (omega arith)

    first : (d + 1 < v) ⊎ (v ≤ d + 1) → v ≤ d + 1
    first (inl h) = absurd (gap (v - 1) (omega arith) (omega arith))
    first (inr h) = h

bounded_none : (d k : ℕ) (c : List ℕ) → AreBounded d c → d + length c < k → times_in k c ≡ 0
unfolding AreBounded
bounded_none d k [] b h = refl
bounded_none d k (v ∷ w) b h = let g = b.0 in times_in-other k v w (λ e. absurd (omega arith)) ∙ bounded_none (d + 1) k w b.1 (omega arith)

none_past_letters : (n k : ℕ) (line : List Bool) (w : List ℕ) → Fits n line w → n < k → times_in k w ≡ 0
none_past_letters n k line [] f h = refl
none_past_letters n k [] (v ∷ w) f h = absurd f
none_past_letters n k (true ∷ line) (v ∷ w) f h = let g = f.0.1 in times_in-other k v w (λ e. absurd (omega arith)) ∙ none_past_letters n k line w f.1 h
none_past_letters n k (false ∷ line) (v ∷ w) f h = let g = f.0 in times_in-other k v w (λ e. absurd (omega arith)) ∙ none_past_letters n k line w f.1 h

next_bounded : (n b : ℕ) (line : List Bool) (ν right c : List ℕ) → Fits n line c → EndsAt (b + length right) ν → AreBounded b right → may_be_next n ν right c ≡ true → AreBounded b c
next_bounded n b line ν right c f ends bound e =
    let p = and_parts (is_chain may_stand_above c) (pass_by_place nat_le c right && is_falling (join ν (content n c))) e in
    let q = and_parts (pass_by_place nat_le c right) (is_falling (join ν (content n c))) p.1 in
    bounded b c right p.0 q.0 bound (λ k h. falls k h (falls_places (join ν (content n c)) q.1) (cases_lt k n))
  where
    falls : (k : ℕ) → b + length right < k → ((i : ℕ) → get_or (join ν (content n c)) (suc i) 0 ≤ get_or (join ν (content n c)) i 0) → (k < n) ⊎ (n ≤ k) → times_in (suc k) c ≤ times_in k c
    falls zero h t d = absurd (omega arith)
    falls (suc k) h t (inl l) =
        let g = t k in
        let a = get_or-join ν (content n c) k in
        let m = get_or-join ν (content n c) (suc k) in
        let x = at_content n k c (omega arith) in
        let y = at_content n (suc k) c l in
        let z = ends k (omega arith) in
        omega arith
    falls (suc k) h t (inr l) = let x = none_past_letters n (suc (suc k)) line c f (omega arith) in omega arith

next_ends_at : (n b : ℕ) (ν right c : List ℕ) → EndsAt (b + length right) ν → length right ≤ length c → AreBounded b c → EndsAt (b + length c) (join ν (content n c))
next_ends_at n b ν right c ends l bound i g =
    let a = get_or-join ν (content n c) i in
    let z = ends i (omega arith) in
    let t = none (cases_lt i n) in
    omega arith
  where
    none : (i < n) ⊎ (n ≤ i) → get_or (content n c) i 0 ≡ 0
    none (inl h) = at_content n i c h ∙ bounded_none b (suc i) c bound (omega arith)
    none (inr h) = past_content n i c h

AreGrowing : ℕ → ℕ → List (List Bool) → Type 0
AreGrowing k m [] = m ≤ k
AreGrowing k m (line ∷ back) = (m ≤ length line) × AreGrowing k (length line) back

over_bounded : (n b k : ℕ) (g : List ℕ → ℤ) (back : List (List Bool)) (ν right : List ℕ) → ((s : List ℕ) → EndsAt (b + k) s → g s ≡ pos 0)
    → EndsAt (b + length right) ν → AreBounded b right → AreGrowing k (length right) back → over_columns n (reverse back) (λ s d. g s) ν right ≡ pos 0
unfolding AreGrowing
over_bounded n b k g [] ν right z ends bound grow = z ν (λ i h. ends i (omega arith))
over_bounded n b k g (line ∷ back) ν right z ends bound grow =
    ap (λ (ls : List (List Bool)). over_columns n ls (λ s d. g s) ν right) (reverse-append (line ∷ []) back)
    ∙ over_columns-last n (reverse back) line (λ s d. g s) ν right
    ∙ total_none (λ (c : List ℕ). cond (may_be_next n ν right c) (over_columns n (reverse back) (λ s d. g s) (join ν (content n c)) c) (pos 0)) (words_over n line)
    (λ c m. by c (word_tells n line c m) (cases_Bool (may_be_next n ν right c))
    (λ x y w. over_bounded n b k g back (join ν (content n c)) c z x y w))
  where
    by : (c : List ℕ) → Fits n line c → (may_be_next n ν right c ≡ true) ⊎ (may_be_next n ν right c ≡ false)
        → (EndsAt (b + length c) (join ν (content n c)) → AreBounded b c → AreGrowing k (length c) back → over_columns n (reverse back) (λ s d. g s) (join ν (content n c)) c ≡ pos 0)
        → cond (may_be_next n ν right c) (over_columns n (reverse back) (λ s d. g s) (join ν (content n c)) c) (pos 0) ≡ pos 0
    by c f (inl e) later =
        let bc = next_bounded n b line ν right c f ends bound e in
        let l = fits_length n line c f in
        let h = grow.0 in
        ap (λ (t : Bool). cond t (over_columns n (reverse back) (λ s d. g s) (join ν (content n c)) c) (pos 0)) e
        ∙ later (next_ends_at n b ν right c ends (omega arith) bc) bc (subst (λ i. AreGrowing k i back) (sym l) grow.1)
    by c f (inr e) later = ap (λ (t : Bool). cond t (over_columns n (reverse back) (λ s d. g s) (join ν (content n c)) c) (pos 0)) e

-- ---- the lengths of the columns of a shape

AreShort : ℕ → List (List Bool) → Type 0
AreShort k [] = Unit {0}
AreShort k (line ∷ lines) = (length line ≤ k) × AreShort k lines

short_put : (k : ℕ) (row : List Bool) (lines : List (List Bool)) → AreShort k lines → AreShort (suc k) (put_row row lines)
unfolding AreShort
short_put k [] [] a = tt
short_put k [] (c ∷ lines) a = let h = a.0 in (omega arith, short_put k [] lines a.1)
short_put k (x ∷ row) [] a = (omega arith, short_put k row [] tt)
short_put k (x ∷ row) (c ∷ lines) a = let h = a.0 in (omega arith, short_put k row lines a.1)

short_transposed : (lines : List (List Bool)) → AreShort (length lines) (transposed lines)
unfolding AreShort
short_transposed [] = tt
short_transposed (line ∷ lines) = short_put (length lines) line (transposed lines) (short_transposed lines)

short_last : (k : ℕ) (lines : List (List Bool)) (line : List Bool) → AreShort k (lines ++ (line ∷ [])) → AreShort k lines × (length line ≤ k)
unfolding AreShort
short_last k [] line a = (tt, a.0)
short_last k (first ∷ lines) line a = let r = short_last k lines line a.1 in ((a.0, r.0), r.1)

growing_from : (k m : ℕ) (back : List (List Bool)) → m ≤ k → Falls (map length (reverse back)) → AreLong m (reverse back) → AreShort k (reverse back) → AreGrowing k m back
unfolding AreGrowing
growing_from k m [] h f l a = h
growing_from k m (line ∷ back) h f l a =
    let e : reverse (line ∷ back) ≡ reverse back ++ (line ∷ []) = reverse-append (line ∷ []) back in
    let p = falls_last (reverse back) line (subst (λ (ls : List (List Bool)). Falls (map length ls)) e f) in
    let s = short_last k (reverse back) line (subst (λ (ls : List (List Bool)). AreShort k ls) e a) in
    (long_last m (reverse back) line (subst (λ (ls : List (List Bool)). AreLong m ls) e l), growing_from k (length line) back s.1 p.0 p.1 s.0)

length_pattern : (outer inner : List ℕ) → length (pattern_of outer inner) ≡ length outer
length_pattern [] inner = refl
length_pattern (a ∷ outer) inner = ap suc (length_pattern outer (drop 1 inner))

over_shape : (n b : ℕ) (g : List ℕ → ℤ) (outer inner ν : List ℕ) → ((s : List ℕ) → EndsAt (b + length outer) s → g s ≡ pos 0) → EndsAt b ν
    → over_columns n (column_lines outer inner) (λ s d. g s) ν [] ≡ pos 0
unfolding AreBounded
over_shape n b g outer inner ν z ends =
    ap (λ (ls : List (List Bool)). over_columns n ls (λ s d. g s) ν []) (sym (reverse-reverse (column_lines outer inner)))
    ∙ over_bounded n b (length outer) g (reverse (column_lines outer inner)) ν [] z (λ i h. ends i (omega arith)) tt
    (growing_from (length outer) 0 (reverse (column_lines outer inner)) (omega arith)
    (subst (λ (ls : List (List Bool)). Falls (map length ls)) (sym (reverse-reverse (column_lines outer inner))) (falls-transposed (pattern_of outer inner)))
    (long_anyway (reverse (reverse (column_lines outer inner))))
    (subst (λ (ls : List (List Bool)). AreShort (length outer) ls) (sym (reverse-reverse (column_lines outer inner)))
    (subst (λ i. AreShort i (column_lines outer inner)) (length_pattern outer inner) (short_transposed (pattern_of outer inner)))))

rows_at : (m : ℕ) (s : List ℕ) → EndsAt m s → rows (without_last_zeros s) ≤ m
rows_at m [] e = omega arith
rows_at zero (zero ∷ s) e =
    let h = rows_at 0 s (λ i g. e (suc i) (omega arith)) in
    nothing (without_last_zeros s) h
  where
    nothing : (l : List ℕ) → length l ≤ 0 → length (in_front 0 l) ≤ 0
    nothing [] h = omega arith
    nothing (b ∷ l) h = absurd (omega arith)
rows_at zero (suc a ∷ s) e = let z = e 0 (omega arith) in absurd (omega arith)
rows_at (suc m) (a ∷ s) e =
    let h = rows_at m s (λ i g. e (suc i) (omega arith)) in
    more a (without_last_zeros s) h
  where
    more : (x : ℕ) (l : List ℕ) → length l ≤ m → length (in_front x l) ≤ suc m
    more zero [] h = omega arith
    more zero (b ∷ l) h = omega arith
    more (suc x) l h = omega arith

start_ends : (n : ℕ) (start : List ℕ) → EndsAt (length start) (resize n start)
start_ends n start i h = by (cases_lt i n)
  where
    by : (i < n) ⊎ (n ≤ i) → get_or (resize n start) i 0 ≡ 0
    by (inl l) = at_resize n i start l ∙ get_or_past start i 0 h
    by (inr l) = get_or_past (resize n start) i 0 (omega (arith, length-resize n start))

pub too_many_rows : (n : ℕ) (start outer inner ν : List ℕ) → rows start + rows outer < rows ν → over_columns n (column_lines outer inner) (is_sum ν) (resize n start) [] ≡ pos 0
too_many_rows n start outer inner ν h =
    over_shape n (length start) (λ s. cond (same (without_last_zeros s) ν) (pos 1) (pos 0)) outer inner (resize n start)
    (λ s e. ap (λ (b : Bool). cond b (pos 1) (pos 0)) (same_apart (without_last_zeros s) ν (λ d. let r = rows_at (length start + length outer) s e in let l = ap length d in omega arith)))
    (start_ends n start)
