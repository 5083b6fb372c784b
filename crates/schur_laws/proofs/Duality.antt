-- The number of good tableaux T of λ/μ for the start σ with σ + content(T) = τ equals the number of good tableaux U of τ/σ for the start μ with μ +
-- content(U) = λ. A tableau is good for the start σ, a partition, if, for each column, σ plus the content of this column and of the columns to its
-- right is a partition.
use Rattle.std.proofs.Common.{◌≡◌, ℕ, zero, suc, ◌<◌, ◌≤◌, ◌⊎◌, ◌==◌, true, cond, ◌&&◌, List, [], ◌∷◌, map, length, get_or, nat_le, sym, ◌∙◌, ap, subst, refl, inl, inr, arith, pos, filter}
use Rattle.std.proofs.lemmas.List.{length-map, get_or_past}
use Rattle.std.proofs.lemmas.Bool.{and_parts, cases_lt, leb-true, eqb-true}
use Rattle.sym_model.specs.Sum.{Among, Once, Within}
use Rattle.sym_model.specs.Partition.{Falls, IsPartition, rows, without_last_zeros}
use Rattle.sym_model.specs.Polynomial.{same, resize}
use Rattle.sym_model.specs.Schur.{contains}
use Rattle.sym_model.specs.GoodTableau.{is_falling}
use Rattle.sym_model.proofs.Sums.{total_ext, Among-select, Among_from_select, Among_from_map, Once-map, Once-select, length_within, length-select}
use Rattle.tableau_laws.specs.PaddedRows.{transposed, fillings_over, pattern_of}
use Rattle.tableau_laws.specs.Grid.{are_tableau_columns}
use Rattle.tableau_laws.specs.ColumnFold.{sum_reached, is_good_by_columns, over_columns, column_lines, is_sum}
use Rattle.tableau_laws.proofs.PatternFillings.{filling_tells, filling_from, fillings_once}
use Rattle.tableau_laws.proofs.Transposing.{transposed-sum}
use Rattle.tableau_laws.proofs.ColumnSums.{of_good_columns, total_good_columns}
use Rattle.tableau_laws.proofs.ColumnCounts.{sum_at_start, falling-resize}
use Rattle.schur_laws.proofs.GoodTableaux.{is_counted, IsTableau, tableau_tells, tableau_back}
use Rattle.schur_laws.proofs.Companions.{companion, length_companion, IsCompanion, companion_tells, companion_tableau, told_by_companion}
use Rattle.sym_model.proofs.Parts.{positive-at}
use Rattle.sym_model.proofs.Integers.{nested_tests}

-- the good tableaux of outer/inner for start, with entries from 1 to n, for which start plus the content is `end`; each tableau is given by its
-- padded rows, which have a zero in each cell of `inner`
abbrev pub counted : ℕ → List ℕ → List ℕ → List ℕ → List ℕ → List (List (List ℕ))
counted n start outer inner end = filter (is_counted n start end) (fillings_over n (pattern_of outer inner))

-- ---- the parts of a partition and of a partition inside it

pub contains_places : (outer inner : List ℕ) → contains outer inner ≡ true → (r : ℕ) → get_or inner r 0 ≤ get_or outer r 0
contains_places outer [] h r = let e = get_or_past {X = ℕ} [] r 0 (omega arith) in omega arith
contains_places [] (b ∷ inner) h zero =
    let p = and_parts (b == 0) (contains [] inner) h in
    let e = eqb-true b 0 p.0 in
    omega arith
contains_places [] (b ∷ inner) h (suc r) =
    let p = and_parts (b == 0) (contains [] inner) h in
    let e = contains_places [] inner p.1 r in
    let f = get_or_past {X = ℕ} [] r 0 (omega arith) in
    omega arith
contains_places (a ∷ outer) (b ∷ inner) h zero = leb-true b a (and_parts (nat_le b a) (contains outer inner) h).0
contains_places (a ∷ outer) (b ∷ inner) h (suc r) = contains_places outer inner (and_parts (nat_le b a) (contains outer inner) h).1 r

pub rows_inside : (outer inner : List ℕ) → IsPartition inner → contains outer inner ≡ true → rows inner ≤ rows outer
rows_inside outer inner p c = by (cases_lt (length outer) (length inner))
  where
    by : (length outer < length inner) ⊎ (length inner ≤ length outer) → length inner ≤ length outer
    by (inl l) =
        let a = positive-at inner (length outer) p.positive l in
        let b = contains_places outer inner c (length outer) in
        let d = get_or_past outer (length outer) 0 (omega arith) in
        absurd (omega arith)
    by (inr l) = l

-- each tableau in the list `counted` satisfies `IsTableau`, which describes a good tableau by the number of times that each letter occurs in its rows

pub counted_tells : (n : ℕ) (start outer inner end : List ℕ) (P : List (List ℕ)) → Falls outer → contains outer inner ≡ true → length start ≤ n → length end ≤ n
    → Among P (counted n start outer inner end) → IsTableau n start outer inner end P
counted_tells n start outer inner end P f h s t m =
    let a = Among_from_select (is_counted n start end) P (fillings_over n (pattern_of outer inner)) m in
    tableau_tells n start outer inner end P f h (contains_places outer inner h) s t (filling_tells n (pattern_of outer inner) P a.0) a.1

pub counted_back : (n : ℕ) (start outer inner end : List ℕ) (P : List (List ℕ)) → Falls outer → contains outer inner ≡ true → length start ≤ n → IsPartition end → length end ≤ n
    → IsTableau n start outer inner end P → Among P (counted n start outer inner end)
counted_back n start outer inner end P f h s e t T =
    let a = tableau_back n start outer inner end P f h (contains_places outer inner h) s t e.positive T in
    Among-select (is_counted n start end) P (fillings_over n (pattern_of outer inner)) (filling_from n (pattern_of outer inner) P a.0) a.1

counted_once : (n : ℕ) (start outer inner end : List ℕ) → Once (counted n start outer inner end)
counted_once n start outer inner end = Once-select (is_counted n start end) (fillings_over n (pattern_of outer inner)) (fillings_once n (pattern_of outer inner))

at_most : (start outer inner end : List ℕ) → IsPartition start → IsPartition outer → IsPartition inner → IsPartition end
    → contains outer inner ≡ true → contains end start ≡ true → length start ≤ length end → length inner ≤ length outer
    → length (counted (length end) start outer inner end) ≤ length (counted (length outer) inner end start outer)
at_most start outer inner end s o i e h g ls li =
    let xs = counted (length end) start outer inner end in
    let ys = counted (length outer) inner end start outer in
    let l = length_within ys (map (companion (length end) start) xs) (Once-map (companion (length end) start) xs injective (counted_once (length end) start outer inner end)) within in
    let m = length-map xs (companion (length end) start) in
    omega arith
  where
    tableau : (P : List (List ℕ)) → Among P (counted (length end) start outer inner end) → IsTableau (length end) start outer inner end P
    tableau P m = counted_tells (length end) start outer inner end P o.falls h ls (omega arith) m

    tells : (P : List (List ℕ)) → Among P (counted (length end) start outer inner end) → IsCompanion start P (companion (length end) start P)
    tells P m = companion_tells (length end) start outer inner end P ls (tableau P m)

    injective : (P P' : List (List ℕ)) → Among P (counted (length end) start outer inner end) → Among P' (counted (length end) start outer inner end)
        → companion (length end) start P ≡ companion (length end) start P' → P ≡ P'
    injective P P' m m' q =
        told_by_companion (length end) start outer inner end P P' (companion (length end) start P) (tableau P m) (tableau P' m') (tells P m)
        (subst (IsCompanion start P') (sym q) (tells P' m'))

    within : Within (map (companion (length end) start) (counted (length end) start outer inner end)) (counted (length outer) inner end start outer)
    within Q m =
        let p = Among_from_map (companion (length end) start) Q (counted (length end) start outer inner end) m in
        subst (λ (R : List (List ℕ)). Among R (counted (length outer) inner end start outer)) (sym p.2)
        (counted_back (length outer) inner end start outer (companion (length end) start p.0) e.falls g li o (omega arith)
        (companion_tableau (length end) start outer inner end p.0 (companion (length end) start p.0) (length_companion (length end) start p.0) refl (tableau p.0 p.1) (tells p.0 p.1)))

pub same_counts : (start outer inner end : List ℕ) → IsPartition start → IsPartition outer → IsPartition inner → IsPartition end
    → contains outer inner ≡ true → contains end start ≡ true → length start ≤ length end → length inner ≤ length outer
    → length (counted (length end) start outer inner end) ≡ length (counted (length outer) inner end start outer)
same_counts start outer inner end s o i e h g ls li =
    let a = at_most start outer inner end s o i e h g ls li in
    let b = at_most inner end start outer i e s o g h li ls in
    omega arith

-- the length of the list `counted` is the sum `over_columns`, which counts the same tableaux by choosing their columns one by one

pub counted_by_columns : (n : ℕ) (start outer inner end : List ℕ) → IsPartition start → length start ≤ n
    → pos (length (counted n start outer inner end)) ≡ over_columns n (column_lines outer inner) (is_sum end) (resize n start) []
counted_by_columns n start outer inner end s h =
    length-select (is_counted n start end) (fillings_over n (pattern_of outer inner))
    ∙ total_ext (λ (P : List (List ℕ)). cond (is_counted n start end P) (pos 1) (pos 0)) (λ (P : List (List ℕ)). of_good_columns n start (is_sum end) (transposed P))
    (λ P. sym (nested_tests (are_tableau_columns (transposed P) && is_good_by_columns n start (transposed P)) (same (without_last_zeros (sum_reached n start (transposed P))) end) (pos 1)))
    (fillings_over n (pattern_of outer inner))
    ∙ transposed-sum n (pattern_of outer inner) (of_good_columns n start (is_sum end))
    ∙ total_good_columns n start (column_lines outer inner) (is_sum end)
    ∙ ap (λ ν. cond (is_falling ν) (over_columns n (column_lines outer inner) (is_sum end) ν []) (pos 0)) (sum_at_start n start h)
    ∙ ap (λ b. cond b (over_columns n (column_lines outer inner) (is_sum end) (resize n start) []) (pos 0)) (falling-resize n start s.falls)

pub duality : (start outer inner end : List ℕ) → IsPartition start → IsPartition outer → IsPartition inner → IsPartition end
    → contains outer inner ≡ true → contains end start ≡ true
    → over_columns (rows end) (column_lines outer inner) (is_sum end) (resize (rows end) start) []
    ≡ over_columns (rows outer) (column_lines end start) (is_sum outer) (resize (rows outer) inner) []
duality start outer inner end s o i e h g =
    let ls = rows_inside end start s g in
    let li = rows_inside outer inner i h in
    sym (counted_by_columns (length end) start outer inner end s ls)
    ∙ ap pos (same_counts start outer inner end s o i e h g ls li)
    ∙ counted_by_columns (length outer) inner end start outer i li
