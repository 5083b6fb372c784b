-- The partitions made by adding a horizontal strip to a partition (specs/HorizontalStrips).
--     `strips_on-tell`, `Among-strips_on`  the list `strips_on` has exactly the partitions that have `left` cells more than inner, a first row of at
--                                          most `most` cells, and the row lengths required for a horizontal strip (`IsGrown`)
--     `strips_on-fall`                     the list is in decreasing lexicographic order
--     `horizontal_strips`                  the list has exactly the partitions ν such that ν/inner is a horizontal strip of k cells
use Rattle.std.proofs.Common.{◌≡◌, ℕ, zero, suc, ◌+◌, ◌-◌, ◌<◌, ◌≤◌, min, max, List, [], ◌∷◌, ◌++◌, map, length, get_or, drop, refl, sym, ap, ap₂, ◌∙◌, subst, inl, inr, arith, append_assoc, add-one, flat_map, rules}
use Rattle.std.specs.Prelude.{Option, Some, None, IsSome, slice_get}
use Rattle.std.specs.Option.{option_to_list}
use Rattle.std.proofs.lemmas.Bool.{cases_eq}
use Rattle.std.specs.declared.cmp.Ordering.TheVariants.{Less}
use Rattle.sym_model.specs.Sum.{Among}
use Rattle.sym_model.specs.Partition.{IsPartition, Falls, ArePositive, part, size, rows}
use Rattle.sym_model.specs.PartitionList.{FallsLexicographically}
use Rattle.sym_model.specs.PrintedOrder.{falling_lexicographic}
use Rattle.sym_model.proofs.Sums.{Among-map, Among_from_map, Among-each, Among_from_each}
use Rattle.sym_model.proofs.Parts.{part-get_or, sizes_within}
use Rattle.sym_model.proofs.PartitionLists.{FallsLexicographically-append, FallsLexicographically-map, greater_first}
use Rattle.strip_laws.proofs.Strips.{horizontal_from_rows, horizontal_rows}
use Rattle.partitions.specs.Limits.{IsWithinLimits}
use Rattle.skew_shapes.specs.HorizontalStrips.{counting_down, strips_on, last_of, AreHorizontalStrips}
use Rattle.std.proofs.lemmas.Grind.{flat_map-append}
use Rattle.std.proofs.lemmas.List.{map-append, append-nil, drop_all}
use Rattle.std.proofs.lemmas.Option.{slice_get_past}

pub down-tells : (high n a : ℕ) → n ≤ high + 1 → Among a (counting_down high n) → (a ≤ high) × (high < a + n)
down-tells high zero a h m = absurd m
down-tells high (suc n) a h (inl e) = (omega arith, omega arith)
down-tells high (suc n) a h (inr m) = let r = down-tells (high - 1) n a (omega arith) m in let r0 = r.0 in let r1 = r.1 in (omega arith, omega arith)

pub among-down : (high n a : ℕ) → a ≤ high → high < a + n → Among a (counting_down high n)
among-down high zero a h l = absurd (omega arith)
among-down high (suc n) a h l = elim (cases_eq a high) [ inl e ↦ inl e | inr o ↦ inr (among-down (high - 1) n a (omega arith) (omega arith)) ]

down-next : (high n : ℕ) → counting_down high (n + 1) ≡ counting_down high n ++ ((high - n) ∷ [])
down-next high zero = ap (λ a. a ∷ []) (let e : high ≡ high - 0 = omega arith in e)
down-next high (suc n) = search (rules, (down-next (high - 1) n))

-- ---- partitions that are made by adding a horizontal strip to inner, and their list `strips_on`

-- each row of outer is at least as long as that of inner and at most as long as the row of inner above it, and the first row is at most `most`
abbrev IsOver : ℕ → List ℕ → List ℕ → Type 0
IsOver most [] [] = Unit {0}
IsOver most [] (b ∷ outer) = (0 < b) × (b ≤ most) × (outer ≡ [])
IsOver most (a ∷ inner) [] = ⊥
IsOver most (a ∷ inner) (b ∷ outer) = (a ≤ b) × (b ≤ most) × IsOver a inner outer

over_size : (most : ℕ) (inner outer : List ℕ) → IsOver most inner outer → (size inner ≤ size outer) × (size outer ≤ most + size inner)
over_size most [] [] o = (omega arith, omega arith)
over_size most [] (b ∷ outer) o = let e = ap size o.2 in let l = o.1 in (omega arith, omega arith)
over_size most (a ∷ inner) [] o = absurd o
over_size most (a ∷ inner) (b ∷ outer) o = search (rules, (over_size a inner outer o.2))

-- `IsOver most inner outer` holds, and outer has exactly `left` cells more than inner and at most `left` rows more
pub record IsGrown (most left : ℕ) (inner outer : List ℕ) : Type 0 where
  pub over : IsOver most inner outer
  pub cells : size outer ≡ size inner + left
  pub few : rows outer ≤ rows inner + left

pub strips_on-tell : (most left : ℕ) (inner outer : List ℕ) → Falls (most ∷ inner) → left ≤ most → Among outer (strips_on most left inner) → IsGrown most left inner outer
strips_on-tell most left [] outer f h m = search rules
strips_on-tell most left (a ∷ inner) outer f h m =
    let high = min most (a + left) in
    let fall = f.0 in
    let found = Among_from_each (λ row. map (λ rest. row ∷ rest) (strips_on a (left + a - row) inner)) outer (counting_down (min most (a + left)) (min most (a + left) + 1 - max left a)) m in
    let b : ℕ = found.0 in
    let range = down-tells (min most (a + left)) (min most (a + left) + 1 - max left a) found.0 (omega arith) found.1 in
    let low = range.0 in
    let top = range.1 in
    let tail = Among_from_map (λ rest. found.0 ∷ rest) outer (strips_on a (left + a - found.0) inner) found.2 in
    let r = strips_on-tell a (left + a - found.0) inner tail.0 f.1 (omega arith) tail.1 in
    let s = r.cells in
    let t = r.few in
    subst (IsGrown most left (a ∷ inner)) (sym tail.2)
    (record { over = (omega arith, omega arith, r.over); cells = omega arith; few = omega arith })

pub Among-strips_on : (most left : ℕ) (inner outer : List ℕ) → Falls (most ∷ inner) → IsOver most inner outer → size outer ≡ size inner + left → Among outer (strips_on most left inner)
Among-strips_on most left [] [] f o s = search rules
Among-strips_on most left [] (b ∷ outer) f o s = search rules
Among-strips_on most left (a ∷ inner) [] f o s = absurd o
Among-strips_on most left (a ∷ inner) (b ∷ outer) f o s =
    let fall = f.0 in
    let l = o.0 in
    let m = o.1 in
    let z = over_size a inner outer o.2 in
    let x = z.0 in
    let y = z.1 in
    Among-each (λ row. map (λ rest. row ∷ rest) (strips_on a (left + a - row) inner)) b (b ∷ outer) (counting_down (min most (a + left)) (min most (a + left) + 1 - max left a))
    (among-down (min most (a + left)) (min most (a + left) + 1 - max left a) b (omega arith) (omega arith))
    (Among-map (λ rest. b ∷ rest) outer (strips_on a (left + a - b) inner) (Among-strips_on a (left + a - b) inner outer f.1 o.2 (omega arith)))

pub fall-each : (rest : ℕ → List (List ℕ)) (high n : ℕ) → n ≤ high + 1 → ((a : ℕ) → Among a (counting_down high n) → FallsLexicographically (rest a))
    → FallsLexicographically (flat_map (λ a. map (λ x. a ∷ x) (rest a)) (counting_down high n))
fall-each rest high zero h f = tt
fall-each rest high (suc n) h f =
    FallsLexicographically-append (map (λ x. high ∷ x) (rest high)) (flat_map (λ a. map (λ x. a ∷ x) (rest a)) (counting_down (high - 1) n))
    (FallsLexicographically-map high (rest high) (f high (inl refl)))
    (fall-each rest (high - 1) n (omega arith) (λ a m. f a (inr m)))
    (λ x y m p.
    let left = Among_from_map (λ z. high ∷ z) x (rest high) m in
    let found = Among_from_each (λ a. map (λ z. a ∷ z) (rest a)) y (counting_down (high - 1) n) p in
    let b : ℕ = found.0 in
    let right = Among_from_map (λ z. found.0 ∷ z) y (rest found.0) found.2 in
    let below = down-tells (high - 1) n found.0 (omega arith) found.1 in
    let b0 = below.0 in
    let b1 = below.1 in
    let less = greater_first high found.0 left.0 right.0 (omega arith) in
    subst (λ z. falling_lexicographic z y ≡ Less) (sym left.2)
    (subst (λ z. falling_lexicographic (high ∷ left.0) z ≡ Less) (sym right.2) less))

pub strips_on-fall : (most left : ℕ) (inner : List ℕ) → FallsLexicographically (strips_on most left inner)
strips_on-fall most left [] = search rules
strips_on-fall most left (a ∷ inner) =
    fall-each (λ row. strips_on a (left + a - row) inner) (min most (a + left)) (min most (a + left) + 1 - max left a) (omega arith)
    (λ row m. strips_on-fall a (left + a - row) inner)

over-falls : (most : ℕ) (inner outer : List ℕ) → ArePositive inner → IsOver most inner outer → IsPartition outer
over-falls most [] [] p o = record { falls = tt; positive = tt }
over-falls most [] (b ∷ outer) p o = subst (λ l. IsPartition (b ∷ l)) (sym o.2) (record { falls = tt; positive = (o.0, tt) })
over-falls most (a ∷ inner) [] p o = absurd o
over-falls most (a ∷ inner) (b ∷ outer) p o =
    let r = over-falls a inner outer p.1 o.2 in
    record { falls = first inner outer o.2 r.falls; positive = (let x = p.0 in let y = o.0 in omega arith, r.positive) }
  where
    first : (inner outer : List ℕ) → IsOver a inner outer → Falls outer → Falls (b ∷ outer)
    first inner [] q f = tt
    first [] (c ∷ outer) q f = (let x = q.1 in let y = o.0 in omega arith, f)
    first (d ∷ inner) (c ∷ outer) q f = (let x = q.1 in let y = o.0 in omega arith, f)

over-holds : (most : ℕ) (inner outer : List ℕ) → IsOver most inner outer → (j : ℕ) → get_or inner j 0 ≤ get_or outer j 0
over-holds most [] outer o j = omega arith
over-holds most (a ∷ inner) [] o j = absurd o
over-holds most (a ∷ inner) (b ∷ outer) o zero = o.0
over-holds most (a ∷ inner) (b ∷ outer) o (suc j) = over-holds a inner outer o.2 j

over-first : (most : ℕ) (inner outer : List ℕ) → IsOver most inner outer → get_or outer 0 0 ≤ most
over-first most [] [] o = omega arith
over-first most [] (b ∷ outer) o = o.1
over-first most (a ∷ inner) [] o = absurd o
over-first most (a ∷ inner) (b ∷ outer) o = o.1

over-below : (most : ℕ) (inner outer : List ℕ) → IsOver most inner outer → (j : ℕ) → get_or outer (suc j) 0 ≤ get_or inner j 0
over-below most [] [] o j = omega arith
over-below most [] (b ∷ outer) o j = let e = ap (λ l. get_or l j 0) o.2 in omega arith
over-below most (a ∷ inner) [] o j = absurd o
over-below most (a ∷ inner) (b ∷ outer) o zero = over-first a inner outer o.2
over-below most (a ∷ inner) (b ∷ outer) o (suc j) = over-below a inner outer o.2 j

rows-over : (most : ℕ) (inner outer : List ℕ) → ArePositive outer → ((j : ℕ) → get_or inner j 0 ≤ get_or outer j 0) → ((j : ℕ) → get_or outer (suc j) 0 ≤ get_or inner j 0)
    → ArePositive inner → get_or outer 0 0 ≤ most → IsOver most inner outer
rows-over most [] [] p holds below q l = tt
rows-over most [] (b ∷ []) p holds below q l = (p.0, l, refl)
rows-over most [] (b ∷ c ∷ outer) p holds below q l = absurd (let x = below 0 in let y = p.1.0 in omega arith)
rows-over most (a ∷ inner) [] p holds below q l = absurd (let x = holds 0 in let y = q.0 in omega arith)
rows-over most (a ∷ inner) (b ∷ outer) p holds below q l =
    (holds 0, l, rows-over a inner outer p.1 (λ j. holds (suc j)) (λ j. below (suc j)) q.1 (below 0))

first_within : (inner outer : List ℕ) (k : ℕ) → ((j : ℕ) → get_or inner j 0 ≤ get_or outer j 0) → size outer ≡ size inner + k → get_or outer 0 0 ≤ get_or inner 0 0 + k
first_within inner [] k h s = omega arith
first_within [] (b ∷ outer) k h s = omega arith
first_within (a ∷ inner) (b ∷ outer) k h s = let r = sizes_within inner outer (λ j. h (suc j)) in omega arith

pub most_falls : (inner : List ℕ) (k : ℕ) → IsPartition inner → Falls ((part inner 1 + k) ∷ inner)
most_falls [] k p = tt
most_falls (a ∷ inner) k p = (omega arith, p.falls)

pub horizontal_strips : (inner : List ℕ) (k : ℕ) → IsPartition inner → AreHorizontalStrips inner k (strips_on (part inner 1 + k) k inner)
horizontal_strips inner k p = record {
  falls = strips_on-fall (part inner 1 + k) k inner;
  members = λ ν. (
    λ m.
        let g = strips_on-tell (part inner 1 + k) k inner ν (most_falls inner k p) (omega arith) m in
        let is = over-falls (part inner 1 + k) inner ν p.positive g.over in (
          is,
          g.cells,
          horizontal_from_rows ν inner is.falls (λ i. over-holds (part inner 1 + k) inner ν g.over (i - 1))
              (λ i h. let e = part-get_or ν i in let b = over-below (part inner 1 + k) inner ν g.over (i - 1) in let s : suc (i - 1) ≡ i = omega arith in
              let f = ap (λ n. get_or ν n 0) s in omega arith),
        ),
    λ is.
        let holds = λ (j : ℕ). (let h = is.2.holds (j + 1) in let a = part-get_or inner j in let b = part-get_or ν j in let l : get_or inner j 0 ≤ get_or ν j 0 = omega arith in l) in
        let below = λ (j : ℕ). (let h = horizontal_rows ν inner is.0.falls p.falls is.2 (j + 1) (omega arith) in let a = part-get_or inner j in let b = part-get_or ν (j + 1) in
        let e : j + 1 ≡ suc j = omega arith in let f = ap (λ n. get_or ν n 0) e in let l : get_or ν (suc j) 0 ≤ get_or inner j 0 = omega arith in l) in
        Among-strips_on (part inner 1 + k) k inner ν (most_falls inner k p)
        (rows-over (part inner 1 + k) inner ν is.0.positive holds below p.positive (first_within inner ν k holds is.1)) is.1,
  );
}

-- ---- the list `strips_on`, split by the lengths of the first rows

pub prefix_longer : (rows : List ℕ) (row : ℕ) (xs : List (List ℕ)) → map (λ rest. (rows ++ (row ∷ [])) ++ rest) xs ≡ map (λ rest. rows ++ rest) (map (λ rest. row ∷ rest) xs)
prefix_longer rows row [] = refl
prefix_longer rows row (x ∷ xs) = ap₂ ◌∷◌ (append_assoc rows (row ∷ []) x) (prefix_longer rows row xs)

-- the partitions with the first row `row` that `strips_on` lists for a ∷ inner, if `left` cells are added in all
abbrev pub grown : ℕ → ℕ → List ℕ → ℕ → List (List ℕ)
grown a left inner row = map (λ rest. row ∷ rest) (strips_on a (left + a - row) inner)

pub each-next : (later : ℕ → List (List ℕ)) (high n : ℕ) (rows longer : List ℕ) (before cur new : List (List ℕ))
    → cur ≡ before ++ map (λ rest. rows ++ rest) (flat_map (λ row. map (λ rest. row ∷ rest) (later row)) (counting_down high n))
    → longer ≡ rows ++ ((high - n) ∷ []) → new ≡ cur ++ map (λ rest. longer ++ rest) (later (high - n))
    → new ≡ before ++ map (λ rest. rows ++ rest) (flat_map (λ row. map (λ rest. row ∷ rest) (later row)) (counting_down high (n + 1)))
each-next later high n rows longer before cur new c l e =
    e
    ∙ ap₂ (λ (x : List (List ℕ)) (y : List ℕ). x ++ map (λ rest. y ++ rest) (later (high - n))) c l
    ∙ ap (λ x. (before ++ map (λ rest. rows ++ rest) (flat_map (λ row. map (λ rest. row ∷ rest) (later row)) (counting_down high n))) ++ x) (prefix_longer rows (high - n) (later (high - n)))
    ∙ append_assoc before (map (λ rest. rows ++ rest) (flat_map (λ row. map (λ rest. row ∷ rest) (later row)) (counting_down high n))) (map (λ rest. rows ++ rest) (map (λ rest. (high - n) ∷ rest) (later (high - n))))
    ∙ ap (λ x. before ++ x)
    (sym (map-append (λ rest. rows ++ rest) (flat_map (λ row. map (λ rest. row ∷ rest) (later row)) (counting_down high n)) (map (λ rest. (high - n) ∷ rest) (later (high - n))))
    ∙ ap (map (λ rest. rows ++ rest))
    (ap (λ x. flat_map (λ row. map (λ rest. row ∷ rest) (later row)) (counting_down high n) ++ x) (sym (append-nil (map (λ rest. (high - n) ∷ rest) (later (high - n)))))
    ∙ sym (flat_map-append (λ row. map (λ rest. row ∷ rest) (later row)) (counting_down high n) ((high - n) ∷ []))
    ∙ ap (flat_map (λ row. map (λ rest. row ∷ rest) (later row))) (sym (down-next high n))))

-- let `row` be a length that the first row can have in the list `strips_on most left (a ∷ inner)`. If `rest` is in the list of partitions made from
-- inner by adding a horizontal strip of left + a - row cells, with a first row of at most a cells, then row ∷ rest is in the list for a ∷ inner
pub listed_further : (most left a row n : ℕ) (inner rest : List ℕ) → n < min most (a + left) + 1 - max left a → row ≡ min most (a + left) - n → Among rest (strips_on a (left + a - row) inner)
    → Among (row ∷ rest) (strips_on most left (a ∷ inner))
listed_further most left a row n inner rest h e m =
    Among-each (λ r. map (λ rest. r ∷ rest) (strips_on a (left + a - r) inner)) row (row ∷ rest) (counting_down (min most (a + left)) (min most (a + left) + 1 - max left a))
    (among-down (min most (a + left)) (min most (a + left) + 1 - max left a) row (omega arith) (omega arith))
    (Among-map (λ rest. row ∷ rest) rest (strips_on a (left + a - row) inner) m)

pub map_rest : (xs : List (List ℕ)) → map (λ (rest : List ℕ). [] ++ rest) xs ≡ xs
map_rest [] = refl
map_rest (x ∷ xs) = ap (λ l. x ∷ l) (map_rest xs)

-- if |inner| + k ≤ 4096 and inner has at most 512 - k rows, each partition made by adding a horizontal strip of k cells to inner is within the limits
pub grown_limits : (inner : List ℕ) (k : ℕ) → IsPartition inner → size inner + k ≤ 4096 → rows inner + k ≤ 512
    → (rest : List ℕ) → Among rest (strips_on (part inner 1 + k) k inner) → IsWithinLimits rest
grown_limits inner k p cells few rest m =
    let g = strips_on-tell (part inner 1 + k) k inner rest (most_falls inner k p) (omega arith) m in
    let a = g.cells in
    let b = g.few in
    record { partition = over-falls (part inner 1 + k) inner rest p.positive g.over; few = omega arith; small = omega arith }

pub last_empty : (left : ℕ) → left ≡ 0 → strips_on left left [] ≡ [] ∷ []
last_empty left e = ap (λ n. strips_on n n []) e

pub last_row : (left : ℕ) → 0 < left → strips_on left left [] ≡ (left ∷ []) ∷ []
last_row left h = search rules

-- the end of a loop over the possible lengths of the first row: let n be the number of these lengths. If `cur` is `before`, followed by rows ++ ν for
-- the partitions ν of `strips_on` with the n greatest first rows, then `cur` is `before`, followed by rows ++ ν for all ν in `strips_on`
pub grown_all : (most left a n : ℕ) (below rows inner : List ℕ) (before cur : List (List ℕ)) → a ∷ below ≡ inner → n ≡ min most (a + left) + 1 - max left a
    → cur ≡ before ++ map (λ rest. rows ++ rest) (flat_map (grown a left below) (counting_down (min most (a + left)) n)) → cur ≡ before ++ map (λ rest. rows ++ rest) (strips_on most left inner)
grown_all most left a n below rows inner before cur split e c = search rules

-- ---- the next shape of an iterator whose shapes are all in one list

next_here : (i : ℕ) (xs : List (List ℕ)) → i < length xs → drop i xs ≡ option_to_list (slice_get xs i) ++ drop (suc i) xs
next_here i [] h = absurd (omega arith)
next_here zero (x ∷ xs) h = refl
next_here (suc i) (x ∷ xs) h = next_here i xs (omega arith)

pub next_shape : (i : ℕ) (xs : List (List ℕ)) → i < length xs → drop i xs ≡ option_to_list (last_of (i + 1) xs) ++ drop (i + 1) xs
next_shape i xs h = subst (λ j. drop i xs ≡ option_to_list (last_of j xs) ++ drop j xs) (sym (add-one i)) (next_here i xs h)

some_here : (i : ℕ) (xs : List (List ℕ)) → i < length xs → IsSome (slice_get xs i)
some_here i [] h = absurd (omega arith)
some_here zero (x ∷ xs) h = refl
some_here (suc i) (x ∷ xs) h = some_here i xs (omega arith)

pub some_shape : (i : ℕ) (xs : List (List ℕ)) → i < length xs → IsSome (last_of (i + 1) xs)
some_shape i xs h = subst (λ j. IsSome (last_of j xs)) (sym (add-one i)) (some_here i xs h)

pub none_shape : (n : ℕ) (xs : List (List ℕ)) → n ≡ length xs → last_of (n + 1) xs ≡ None
none_shape n xs e = subst (λ j. last_of j xs ≡ None) (sym (add-one n)) (slice_get_past xs n (omega arith))

pub ended : (i n : ℕ) (xs : List (List ℕ)) → length xs ≤ i → n ≡ length xs → drop i xs ≡ option_to_list (last_of (n + 1) xs) ++ drop (n + 1) xs
ended i n xs h e = drop_all i xs h ∙ sym (ap₂ (λ (o : Option (List ℕ)) (l : List (List ℕ)). option_to_list o ++ l) (none_shape n xs e) (drop_all (n + 1) xs (omega arith)))

pub no_some : (o : Option (List ℕ)) → o ≡ None → IsSome o → ⊥
no_some None e s = cc
no_some (Some x) e s = cc
