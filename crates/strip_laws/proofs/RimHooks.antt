-- Rim hooks outer/inner by their rows (`IsHookRows`): in each row of the hook except the first, the part of outer is the part of inner in the row
-- above, plus 1.
--     `hook_from_rows`      a shape outer/inner that satisfies `IsHookRows` is a rim hook
--     `hook_rows`           each rim hook satisfies `IsHookRows`
--     `height_of_rows`      the height of a rim hook is the number of its rows
use Rattle.std.proofs.Common.{◌≡◌, ℕ, zero, suc, ◌+◌, ◌-◌, ◌<◌, ◌≤◌, min, max, ◌⊎◌, List, [], ◌∷◌, ◌++◌, length, Bool, true, false, nat_lt, sym, subst, refl, inl, inr, arith, filter, rules}
use Rattle.std.proofs.lemmas.Bool.{cases_lt}
use Rattle.std.proofs.lemmas.Bool.Decides.{nat_tests}
use Rattle.sym_model.specs.Partition.{Falls, part, rows, after, Holds, IsCell}
use Rattle.strip_laws.specs.HookRows.{IsHookRows}
use Rattle.sym_model.specs.Strip.{AreNeighbours, ShareEdge, IsPath, IsConnected, HasNoSquare, IsRimHook, height}
use Rattle.strip_laws.proofs.Strips.{falls_part}
use Rattle.std.proofs.lemmas.List.{get_or_past}
use Rattle.sym_model.specs.RimHookReduction.{IsRemoval}
use Rattle.sym_model.proofs.Parts.{at_least_one, part-get_or}

-- ---- pairs of cells of a skew shape that are joined by a path of neighbouring cells

abbrev Linked : List ℕ → List ℕ → ℕ → ℕ → ℕ → ℕ → Type 0
Linked outer inner i j k l = (path : List (ℕ × ℕ)) × IsPath outer inner i j path k l

path_append : (outer inner : List ℕ) (i j : ℕ) (p : List (ℕ × ℕ)) (k l : ℕ) (q : List (ℕ × ℕ)) (m n : ℕ)
    → IsPath outer inner i j p k l → IsPath outer inner k l q m n → IsPath outer inner i j (p ++ q) m n
path_append outer inner i j [] k l q m n h g =
    subst (λ a. IsPath outer inner a j q m n) (sym h.0) (subst (λ b. IsPath outer inner k b q m n) (sym h.1) g)
path_append outer inner i j (c ∷ p) k l q m n h g = (h.0, h.1, path_append outer inner c.0 c.1 p k l q m n h.2 g)

neighbours_back : (a b : ℕ) → AreNeighbours a b → AreNeighbours b a
neighbours_back a b (inl e) = inr e
neighbours_back a b (inr e) = inl e

share_back : (i j k l : ℕ) → ShareEdge i j k l → ShareEdge k l i j
share_back i j k l (inl h) = inl (sym h.0, neighbours_back j l h.1)
share_back i j k l (inr h) = inr (sym h.0, neighbours_back i k h.1)

path_back : (outer inner : List ℕ) (i j : ℕ) (p : List (ℕ × ℕ)) (k l : ℕ) → IsCell outer inner i j → IsPath outer inner i j p k l → Linked outer inner k l i j
path_back outer inner i j [] k l c h = ([], (sym h.0, sym h.1))
path_back outer inner i j (d ∷ p) k l c h =
    let r = path_back outer inner d.0 d.1 p k l h.0 h.2 in
    let back : IsPath outer inner d.0 d.1 ((i, j) ∷ []) i j = (c, share_back i j d.0 d.1 h.1, (refl, refl)) in
    (r.0 ++ ((i, j) ∷ []), path_append outer inner k l r.0 d.0 d.1 ((i, j) ∷ []) i j r.1 back)

linked_then : (outer inner : List ℕ) (i j k l m n : ℕ) → Linked outer inner i j k l → Linked outer inner k l m n → Linked outer inner i j m n
linked_then outer inner i j k l m n p q = (p.0 ++ q.0, path_append outer inner i j p.0 k l q.0 m n p.1 q.1)

-- ---- a shape that satisfies `IsHookRows` is a rim hook

right_link : (outer inner : List ℕ) (d i j l : ℕ) → l ≡ j + d → IsCell outer inner i j → IsCell outer inner i l → Linked outer inner i j i l
right_link outer inner zero i j l e a b = ([], (refl, omega arith))
right_link outer inner (suc d) i j l e a b =
    let p = a.outside in
    let q = b.within in
    let c : IsCell outer inner i (j + 1) = record { row_counts = a.row_counts; outside = omega (arith, p); within = omega (arith, q, e) } in
    let r = right_link outer inner d i (j + 1) l (omega arith) c b in
    ((i, j + 1) ∷ r.0, (c, inl (refl, inl refl), r.1))

row_link : (outer inner : List ℕ) (i j l : ℕ) → IsCell outer inner i j → IsCell outer inner i l → Linked outer inner i j i l
row_link outer inner i j l a b = by (cases_lt l j)
  where
    by : (l < j) ⊎ (j ≤ l) → Linked outer inner i j i l
    by (inl h) = let r = right_link outer inner (j - l) i l j (omega arith) b a in path_back outer inner i l r.0 i j b r.1
    by (inr h) = right_link outer inner (l - j) i j l (omega arith) a b

row_has_cells : (outer inner : List ℕ) (first last i : ℕ) → Falls outer → IsHookRows outer inner first last → first ≤ i → i ≤ last → part inner i < part outer i
row_has_cells outer inner first last i f h a b = search (rules, cases_lt, falls_part)

cell_in_rows : (outer inner : List ℕ) (first last i j : ℕ) → IsHookRows outer inner first last → IsCell outer inner i j → (first ≤ i) × (i ≤ last)
cell_in_rows outer inner first last i j h c = search rules

down_link : (outer inner : List ℕ) (first last d i j k l : ℕ) → Falls outer → IsHookRows outer inner first last → k ≡ i + d → first ≤ i → k ≤ last
    → IsCell outer inner i j → IsCell outer inner k l → Linked outer inner i j k l
down_link outer inner first last zero i j k l f h e a b c g =
    let d : k ≡ i = omega arith in
    subst (λ n. Linked outer inner i j n l) (sym d) (row_link outer inner i j l c (subst (λ n. IsCell outer inner n l) d g))
down_link outer inner first last (suc d) i j k l f h e a b c g =
    let m = part outer (i + 1) in
    let p = h.chained i a (omega arith) in
    let q = falls_part outer f i c.row_counts in
    let r = row_has_cells outer inner first last (i + 1) f h (omega arith) (omega arith) in
    let corner : IsCell outer inner i m = record { row_counts = c.row_counts; outside = omega (arith, p); within = q } in
    let below : IsCell outer inner (i + 1) m = record { row_counts = omega arith; outside = r; within = omega arith } in
    let step : Linked outer inner i m (i + 1) m = ((i + 1, m) ∷ [], (below, inr (refl, inl refl), (refl, refl))) in
    linked_then outer inner i j i m k l
    (row_link outer inner i j m c corner)
    (linked_then outer inner i m (i + 1) m k l step (down_link outer inner first last d (i + 1) m k l f h (omega arith) (omega arith) b below g))

pub hook_from_rows : (outer inner : List ℕ) (first last : ℕ) → Falls outer → IsHookRows outer inner first last → IsRimHook outer inner
hook_from_rows outer inner first last f h = record {
  holds = holds;
  nonempty = (last, part outer last, end);
  connected = connected;
  thin = thin;
}
  where
    holds_after : (i : ℕ) → (i < first) ⊎ (first ≤ i) → (last < i) ⊎ (i ≤ last) → 1 ≤ i → part inner i ≤ part outer i
    holds_after i (inl l) b c = let e = h.above i c l in omega (arith, e)
    holds_after i (inr l) (inl m) c = let e = h.below i m in omega (arith, e)
    holds_after i (inr l) (inr m) c = let e = row_has_cells outer inner first last i f h l m in omega (arith, e)

    holds : Holds outer inner
    holds zero = holds_after 1 (cases_lt 1 first) (cases_lt last 1) (omega arith)
    holds (suc i) = holds_after (suc i) (cases_lt (suc i) first) (cases_lt last (suc i)) (omega arith)

    end : IsCell outer inner last (part outer last)
    end = let a = h.counts in let b = h.ordered in record { row_counts = omega arith; outside = h.end; within = omega arith }

    connected : IsConnected outer inner
    connected i j k l c g = by (cases_lt k i) (cell_in_rows outer inner first last i j h c) (cell_in_rows outer inner first last k l h g)
      where
        by : (k < i) ⊎ (i ≤ k) → (first ≤ i) × (i ≤ last) → (first ≤ k) × (k ≤ last) → Linked outer inner i j k l
        by (inl m) p q =
            let r = down_link outer inner first last (i - k) k l i j f h (omega arith) q.0 p.1 g c in
            path_back outer inner k l r.0 i j g r.1
        by (inr m) p q = down_link outer inner first last (k - i) i j k l f h (omega arith) p.0 q.1 c g

    thin : HasNoSquare outer inner
    thin i j a b c d =
        let p = cell_in_rows outer inner first last i j h a in
        let q = cell_in_rows outer inner first last (i + 1) (j + 1) h d in
        let e = h.chained i p.0 (omega arith) in
        let r = a.outside in
        let s = d.within in
        omega (arith, e, r, s)

-- if a path of cells of outer/inner leads from a row at or above row r to a row below r, then row r + 1 of outer is longer than row r of inner
pub crosses : (outer inner : List ℕ) (r i j : ℕ) (path : List (ℕ × ℕ)) (k l : ℕ) → IsCell outer inner i j → IsPath outer inner i j path k l → i ≤ r → r < k
    → part inner r < part outer (r + 1)
crosses outer inner r i j [] k l c h a b = let e = h.0 in absurd (omega arith)
crosses outer inner r i j (d ∷ path) k l c h a b = by (cases_lt r d.0) h.1 (λ m. crosses outer inner r d.0 d.1 path k l h.0 h.2 m b)
  where
    by : (r < d.0) ⊎ (d.0 ≤ r) → ShareEdge i j d.0 d.1 → (d.0 ≤ r → part inner r < part outer (r + 1)) → part inner r < part outer (r + 1)
    by (inr m) s later = later m
    by (inl m) (inl s) later = let e = s.0 in absurd (omega arith)
    by (inl m) (inr (e, inr n)) later = absurd (omega arith)
    by (inl m) (inr (e, inl n)) later =
        let g : IsCell outer inner d.0 d.1 = h.0 in
        let p : i ≡ r = omega arith in
        let q : d.0 ≡ r + 1 = omega arith in
        let u : part inner r < j = subst (λ x. part inner x < j) p c.outside in
        let v : d.1 ≤ part outer (r + 1) = subst (λ x. d.1 ≤ part outer x) q g.within in
        omega (arith, u, v, e)

square_free_rows : (outer inner : List ℕ) → Falls outer → Falls inner → HasNoSquare outer inner → (r : ℕ) → 1 ≤ r → part outer (r + 1) ≤ part inner r + 1
square_free_rows outer inner f g t r h = by (cases_lt (part inner r + 1) (part outer (r + 1)))
  where
    by : (part inner r + 1 < part outer (r + 1)) ⊎ (part outer (r + 1) ≤ part inner r + 1) → part outer (r + 1) ≤ part inner r + 1
    by (inr m) = m
    by (inl m) =
        let p = falls_part outer f r h in
        let q = falls_part inner g r h in
        let j = part inner r + 1 in
        let a : IsCell outer inner r j = record { row_counts = h; outside = omega arith; within = omega (arith, m, p) } in
        let b : IsCell outer inner r (j + 1) = record { row_counts = h; outside = omega arith; within = omega (arith, m, p) } in
        let c : IsCell outer inner (r + 1) j = record { row_counts = omega arith; outside = omega (arith, q); within = omega (arith, m) } in
        let d : IsCell outer inner (r + 1) (j + 1) = record { row_counts = omega arith; outside = omega (arith, q); within = omega (arith, m) } in
        absurd (t r j a b c d)

-- row i of outer/inner has a cell
abbrev HasCells : List ℕ → List ℕ → ℕ → Type 0
HasCells outer inner i = part inner i < part outer i

record IsFirstRow (outer inner : List ℕ) (first : ℕ) : Type 0 where
  counts : 1 ≤ first
  cells : HasCells outer inner first
  least : (i : ℕ) → 1 ≤ i → i < first → part outer i ≤ part inner i

record IsLastRow (outer inner : List ℕ) (last : ℕ) : Type 0 where
  counts : 1 ≤ last
  cells : HasCells outer inner last
  greatest : (i : ℕ) → last < i → part outer i ≤ part inner i

first_from : (outer inner : List ℕ) (d i r : ℕ) → r ≡ i + d → 1 ≤ i → ((k : ℕ) → 1 ≤ k → k < i → part outer k ≤ part inner k) → HasCells outer inner r
    → (first : ℕ) × IsFirstRow outer inner first
first_from outer inner zero i r e h n c = let d : r ≡ i = omega arith in (i, record { counts = h; cells = subst (HasCells outer inner) d c; least = n })
first_from outer inner (suc d) i r e h n c =
    by (cases_lt (part inner i) (part outer i)) (λ m. first_from outer inner d (i + 1) r (omega arith) (omega arith) (more m) c)
  where
    more : part outer i ≤ part inner i → (k : ℕ) → 1 ≤ k → k < i + 1 → part outer k ≤ part inner k
    more m k a b = elim (cases_lt k i) [ inl l ↦ n k a l | inr l ↦ (let s : i ≡ k = omega arith in subst (λ x. part outer x ≤ part inner x) s m) ]

    by : (part inner i < part outer i) ⊎ (part outer i ≤ part inner i) → (part outer i ≤ part inner i → (first : ℕ) × IsFirstRow outer inner first)
        → (first : ℕ) × IsFirstRow outer inner first
    by (inl m) later = (i, record { counts = h; cells = m; least = n })
    by (inr m) later = later m

last_from : (outer inner : List ℕ) (d i r : ℕ) → i ≡ r + d → 1 ≤ r → ((k : ℕ) → i < k → part outer k ≤ part inner k) → HasCells outer inner r
    → (last : ℕ) × IsLastRow outer inner last
last_from outer inner zero i r e h n c = search rules
last_from outer inner (suc d) i r e h n c =
    by (cases_lt (part inner i) (part outer i)) (λ m. last_from outer inner d (r + d) r refl h (more m) c)
  where
    more : part outer i ≤ part inner i → (k : ℕ) → r + d < k → part outer k ≤ part inner k
    more m k a = elim (cases_lt i k) [ inl l ↦ n k l | inr l ↦ (let s : i ≡ k = omega arith in subst (λ x. part outer x ≤ part inner x) s m) ]

    by : (part inner i < part outer i) ⊎ (part outer i ≤ part inner i) → (part outer i ≤ part inner i → (last : ℕ) × IsLastRow outer inner last)
        → (last : ℕ) × IsLastRow outer inner last
    by (inl m) later = (i, record { counts = omega arith; cells = m; greatest = n })
    by (inr m) later = later m

pub hook_rows : (outer inner : List ℕ) → Falls outer → Falls inner → IsRimHook outer inner → (first : ℕ) × (last : ℕ) × IsHookRows outer inner first last
hook_rows outer inner f g h =
    let r = h.nonempty.0 in
    let c : IsCell outer inner r h.nonempty.1 = h.nonempty.2 in
    let a = c.outside in
    let b = c.within in
    let full : HasCells outer inner r = omega (arith, a, b) in
    let u = first_from outer inner (r - 1) 1 r (let p = c.row_counts in omega (arith, p)) (omega arith) (λ k x y. absurd (omega arith)) full in
    let v = last_from outer inner (length outer) (r + length outer) r refl c.row_counts (λ k l. let s = get_or_past outer (k - 1) 0 (let p = c.row_counts in omega (arith, p)) in omega (arith, s)) full in
    (u.0, v.0, rows u.0 v.0 u.1 v.1)
  where
    rows : (first last : ℕ) → IsFirstRow outer inner first → IsLastRow outer inner last → IsHookRows outer inner first last
    rows first last p q = record {
      counts = p.counts;
      ordered = elim (cases_lt last first) [ inl l ↦ absurd (let a = p.least last q.counts l in let b = q.cells in omega (arith, a, b)) | inr l ↦ l ];
      above = λ i a b. let x = p.least i a b in let y = h.holds i in omega (arith, x, y);
      below = λ i b. let x = q.greatest i b in let y = h.holds i in omega (arith, x, y);
      chained = chained;
      end = q.cells;
    }
      where
        top : IsCell outer inner first (part outer first)
        top = record { row_counts = p.counts; outside = p.cells; within = omega arith }

        bottom : IsCell outer inner last (part outer last)
        bottom = record { row_counts = q.counts; outside = q.cells; within = omega arith }

        chained : (i : ℕ) → first ≤ i → i < last → part outer (i + 1) ≡ part inner i + 1
        chained i a b =
            let w = h.connected first (part outer first) last (part outer last) top bottom in
            let x = crosses outer inner i first (part outer first) w.0 last (part outer last) top w.1 a b in
            let n = p.counts in
            let y = square_free_rows outer inner f g h.thin i (omega arith) in
            omega (arith, x, y)

counted : (test : ℕ → Bool) (first last a k : ℕ) → ((i : ℕ) → 1 ≤ i → first ≤ i → i ≤ last → test i ≡ true) → ((i : ℕ) → 1 ≤ i → (i < first) ⊎ (last < i) → test i ≡ false)
    → first ≤ last + 1 → length (filter test (after a k)) ≡ (min last (a + k) + 1) - max first (a + 1)
counted test first last a zero yes' no' o = omega arith
counted test first last a (suc k) yes' no' o = search (rules, cases_lt, (counted test first last (a + 1) k yes' no' o))

pub height_of_rows : (outer inner : List ℕ) (first last : ℕ) → Falls outer → IsHookRows outer inner first last → height outer inner ≡ last + 1 - first
height_of_rows outer inner first last f h =
    let e = counted (λ row. nat_lt (part inner row) (part outer row)) first last 0 (rows outer) inside outside (let a = h.ordered in omega (arith, a)) in
    let a = h.ordered in
    let b = h.counts in
    let c = last_row_within in
    omega (arith, a, b, c, e)
  where
    inside : (i : ℕ) → 1 ≤ i → first ≤ i → i ≤ last → nat_lt (part inner i) (part outer i) ≡ true
    inside i n a b = let c = row_has_cells outer inner first last i f h a b in grind (arith, nat_tests)

    outside : (i : ℕ) → 1 ≤ i → (i < first) ⊎ (last < i) → nat_lt (part inner i) (part outer i) ≡ false
    outside i n (inl a) = let c = h.above i n a in grind (arith, nat_tests)
    outside i n (inr a) = let c = h.below i a in grind (arith, nat_tests)

    last_row_within : last ≤ rows outer
    last_row_within = elim (cases_lt (rows outer) last) [ inl l ↦ absurd (let e = get_or_past outer (last - 1) 0 (omega arith) in let g = h.end in omega (arith, e, g)) | inr l ↦ l ]

pub fewer_rows : (n : ℕ) (shape left : List ℕ) → IsRemoval n shape left → rows left ≤ rows shape
fewer_rows n shape left r = elim (cases_lt (length shape) (length left)) [
  | inr h ↦ h
  | inl h ↦ (
      let a = at_least_one left r.partition.positive (length shape) h in
      let b = get_or_past shape (length shape) 0 (omega arith) in
      let c = r.hook.holds (length shape + 1) in
      let d = part-get_or left (length shape) in
      let e = part-get_or shape (length shape) in
      absurd (omega (arith, a, b, c, d, e)))
]
