-- Lists of the shapes `shape i` for those numbers i that pass a test, and partitions given by the lengths of their rows.
--     none_fits, one_fits, among_fitting, from_fitting    the list of the shapes whose numbers pass the test, and its members
--     fall_after, fall_fitting                            lists of shapes in decreasing lexicographic order
--     before_by_row                                       two shapes are ordered by the first row in which they differ
--     same_rows                                           a partition is determined by the lengths of its rows
--     part_within                                         no row is longer than the size of the partition
--     rows_at, rows_fall, rows_next                       the list f(1), .., f(n) of row lengths, without zeros at its end
use Rattle.std.proofs.Common.{◌≡◌, ℕ, zero, suc, ◌+◌, ◌-◌, ◌<◌, ◌≤◌, Bool, true, false, cond, List, [], ◌∷◌, ◌++◌, map, get_or, refl, sym, ap, ap₂, ◌∙◌, subst, inl, inr, arith, flat_map, rules}
use Rattle.std.proofs.lemmas.Bool.{cases_lt, false_from_ne_true as not_true}
use Rattle.std.proofs.lemmas.Cmp.{nat_cmp_total, tied_itself}
use Rattle.std.proofs.lemmas.List.{length-map, get_or_past}
use Rattle.std.specs.Cmp.{nat_cmp_is}
use Rattle.std.specs.Ordering.{nat_cmp, ordering_then}
use Rattle.std.specs.declared.cmp.Ordering.TheVariants.{Less}
use Rattle.sym_model.specs.Sum.{Among, Once}
use Rattle.sym_model.specs.Partition.{Falls, ArePositive, after, part, size, without_last_zeros}
use Rattle.sym_model.specs.PartitionList.{FallsLexicographically}
use Rattle.sym_model.specs.PrintedOrder.{falling_lexicographic}
use Rattle.sym_model.proofs.AfterLists.{length_after, after_among}
use Rattle.sym_model.proofs.Sums.{Among-each, Among_from_each}
use Rattle.sym_model.proofs.Parts.{get_or-without_last_zeros, part-get_or, get_or-le-size}
use Rattle.sym_model.proofs.PartitionLists.{FallsLexicographically-append, greater_first}
use Rattle.skew_shapes.proofs.CellRows.{map_after-at}

-- ---- the list of the shapes whose numbers pass a test

abbrev pub fitting : (ℕ → Bool) → (ℕ → List ℕ) → List ℕ → List (List ℕ)
fitting test shape xs = flat_map (λ i. cond (test i) (shape i ∷ []) []) xs

pub none_fits : (test : ℕ → Bool) (shape : ℕ → List ℕ) (xs : List ℕ) → ((i : ℕ) → Among i xs → test i ≡ false) → fitting test shape xs ≡ []
none_fits test shape [] h = refl
none_fits test shape (x ∷ xs) h =
    ap₂ (λ (b : Bool) l. cond b (shape x ∷ []) [] ++ l) (h x (inl refl)) (none_fits test shape xs (λ i m. h i (inr m)))

pub one_fits : (test : ℕ → Bool) (shape : ℕ → List ℕ) (i : ℕ) (xs : List ℕ) → Once xs → Among i xs → test i ≡ true
    → ((j : ℕ) → Among j xs → test j ≡ true → j ≡ i) → fitting test shape xs ≡ shape i ∷ []
one_fits test shape i [] o m t h = absurd m
one_fits test shape i (x ∷ xs) o (inl e) t h = search (rules, none_fits, not_true)
one_fits test shape i (x ∷ xs) o (inr m) t h = search (rules, not_true, (one_fits test shape i xs o.1 m t))

pub among_fitting : (test : ℕ → Bool) (shape : ℕ → List ℕ) (i : ℕ) (xs : List ℕ) → Among i xs → test i ≡ true → Among (shape i) (fitting test shape xs)
among_fitting test shape i xs m t =
    Among-each (λ i. cond (test i) (shape i ∷ []) []) i (shape i) xs m
    (subst (λ (b : Bool). Among (shape i) (cond b (shape i ∷ []) [])) (sym t) (inl refl))

pub from_fitting : (test : ℕ → Bool) (shape : ℕ → List ℕ) (ν : List ℕ) (xs : List ℕ) → Among ν (fitting test shape xs)
    → (i : ℕ) × Among i xs × (test i ≡ true) × (ν ≡ shape i)
from_fitting test shape ν xs m =
    let f = Among_from_each (λ i. cond (test i) (shape i ∷ []) []) ν xs m in
    let g = by f.0 (test f.0) refl f.2 in
    (f.0, f.1, g.0, g.1)
  where
    by : (i : ℕ) (b : Bool) → test i ≡ b → Among ν (cond b (shape i ∷ []) []) → (test i ≡ true) × (ν ≡ shape i)
    by i true e (inl h) = (e, h)
    by i true e (inr h) = absurd h
    by i false e h = absurd h

-- ---- lists of shapes, each in decreasing lexicographic order, joined into one list

pub fall_after : (f : ℕ → List (List ℕ)) (a n : ℕ) → ((i : ℕ) → a < i → i ≤ a + n → FallsLexicographically (f i))
    → ((i j : ℕ) (x y : List ℕ) → a < i → i < j → j ≤ a + n → Among x (f i) → Among y (f j) → falling_lexicographic x y ≡ Less)
    → FallsLexicographically (flat_map f (after a n))
fall_after f a zero h c = tt
fall_after f a (suc n) h c =
    FallsLexicographically-append (f (a + 1)) (flat_map f (after (a + 1) n)) (h (a + 1) (omega arith) (omega arith))
    (fall_after f (a + 1) n (λ i l m. h i (omega arith) (omega arith)) (λ i j x y l m o. c i j x y (omega arith) m (omega arith)))
    (λ x y m o.
    let r = Among_from_each f y (after (a + 1) n) o in
    let s = after_among (a + 1) n r.0 r.1 in
    let s0 = s.0 in
    let s1 = s.1 in
    c (a + 1) r.0 x y (omega arith) (omega arith) (omega arith) m r.2)

-- if at most one of the numbers a + 1, .., a + n passes the test, the list of the shapes whose numbers pass is in decreasing lexicographic order
pub fall_fitting : (test : ℕ → Bool) (shape : ℕ → List ℕ) (a n : ℕ)
    → ((i j : ℕ) → a < i → i < j → j ≤ a + n → test i ≡ true → test j ≡ true → ⊥) → FallsLexicographically (fitting test shape (after a n))
fall_fitting test shape a n h = search (rules, fall_after)

before_at : (n : ℕ) (x y : List ℕ) → ((j : ℕ) → j < n → get_or x j 0 ≡ get_or y j 0) → get_or y n 0 < get_or x n 0 → falling_lexicographic x y ≡ Less
before_at zero [] y e h = absurd (omega arith)
before_at zero (a ∷ x) [] e h = ap (λ o. ordering_then o (falling_lexicographic x [])) (sym (nat_cmp_is 0 a Less h))
before_at zero (a ∷ x) (b ∷ y) e h = greater_first a b x y h
before_at (suc n) [] [] e h = absurd (omega arith)
before_at (suc n) [] (b ∷ y) e h = absurd (omega arith)
before_at (suc n) (a ∷ x) [] e h =
    ap (λ o. ordering_then o (falling_lexicographic x [])) (ap (λ k. nat_cmp 0 k) (e 0 (omega arith)) ∙ tied_itself nat_cmp_total 0)
    ∙ before_at n x [] (λ j l. e (suc j) (omega arith)) h
before_at (suc n) (a ∷ x) (b ∷ y) e h =
    ap (λ o. ordering_then o (falling_lexicographic x y)) (ap (λ k. nat_cmp b k) (e 0 (omega arith)) ∙ tied_itself nat_cmp_total b)
    ∙ before_at n x y (λ j l. e (suc j) (omega arith)) h

pub before_by_row : (row : ℕ) (x y : List ℕ) → 1 ≤ row → ((i : ℕ) → 1 ≤ i → i < row → part x i ≡ part y i) → part y row < part x row → falling_lexicographic x y ≡ Less
before_by_row row x y h e l = before_at (row - 1) x y (λ j m. sym (part-get_or x j) ∙ e (j + 1) (omega arith) (omega arith) ∙ part-get_or y j) l

-- ---- partitions given by the lengths of their rows

same_places : (x y : List ℕ) → ArePositive x → ArePositive y → ((j : ℕ) → get_or x j 0 ≡ get_or y j 0) → x ≡ y
same_places [] [] p q e = refl
same_places [] (b ∷ y) p q e = let h = q.0 in absurd (let z = e 0 in omega arith)
same_places (a ∷ x) [] p q e = let h = p.0 in absurd (let z = e 0 in omega arith)
same_places (a ∷ x) (b ∷ y) p q e = ap₂ (λ (c : ℕ) l. c ∷ l) (e 0) (same_places x y p.1 q.1 (λ j. e (suc j)))

pub same_rows : (x y : List ℕ) → ArePositive x → ArePositive y → ((i : ℕ) → 1 ≤ i → part x i ≡ part y i) → x ≡ y
same_rows x y p q e = same_places x y p q (λ j. sym (part-get_or x j) ∙ e (j + 1) (omega arith) ∙ part-get_or y j)

pub part_within : (parts : List ℕ) (i : ℕ) → part parts i ≤ size parts
part_within parts i = get_or-le-size parts (i - 1)

pub rows_at : (f : ℕ → ℕ) (n i : ℕ) → 1 ≤ i → (n < i → f i ≡ 0) → part (without_last_zeros (map f (after 0 n))) i ≡ f i
rows_at f n i h z = search (rules, get_or-without_last_zeros, cases_lt, get_or_past, length-map, length_after, map_after-at)

pub rows_fall : (f : ℕ → ℕ) (a n : ℕ) → ((i : ℕ) → a < i → f (i + 1) ≤ f i) → Falls (map f (after a n))
rows_fall f a zero h = tt
rows_fall f a (suc zero) h = tt
rows_fall f a (suc (suc n)) h = (h (a + 1) (omega arith), rows_fall f (a + 1) (suc n) (λ i l. h i (omega arith)))

pub rows_next : (f : ℕ → ℕ) (a n : ℕ) → map f (after a (n + 1)) ≡ map f (after a n) ++ (f (a + n + 1) ∷ [])
rows_next f a zero = ap (λ i. f i ∷ []) (omega arith)
rows_next f a (suc n) = search (rules, (rows_next f (a + 1) n))
