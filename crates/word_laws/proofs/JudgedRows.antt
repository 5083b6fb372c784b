-- The errors of rows of numbers. Several rules can be combined into one rule that is applied to each number in turn. The combined rule finds the
-- same errors, with the same multiplicities, as the single rules find if each of them is applied to all rows.
use Rattle.std.proofs.Common.{◌≡◌, ℕ, ◌+◌, Bool, List, [], ◌∷◌, ◌++◌, map, length, drop, refl, arith, Option, Some, None, rules}
use Rattle.sym_model.specs.Partition.{part}
use Rattle.sym_model.specs.ExpressionOffence.{OffenceKind, range, shape}
use Rattle.sym_model.specs.CommandOffence.{Offence, Rule, PlacedRow, when, first_offence, offences_after, offences_by, entry_rule, row_offences, count_offences, length_offences, order_offences, standard_offences, empty_row_offences}
use Rattle.sym_model.specs.Grammar.{insertion_offences, filled_offences}
use Rattle.word_laws.specs.JudgedRows.{is_too_much, is_too_long, cell_rule, is_disordered, is_no_record, inserted, recorded, skewed}
use Rattle.word_laws.proofs.EarlierOffences.{tally, Alike, tally_append, first_alike}

abbrev Weight : Type 0
Weight = Offence → ℕ

-- the error of the given kind at byte 0 of word k
abbrev pub of_kind : ℕ → OffenceKind → Offence
of_kind k kind = (k, 0, kind)

kinds_of_both : (f : Weight) (k : ℕ) (xs ys : List OffenceKind)
    → tally f (map (of_kind k) (xs ++ ys)) ≡ tally f (map (of_kind k) xs) + tally f (map (of_kind k) ys)
kinds_of_both f k [] ys = omega arith
kinds_of_both f k (x ∷ xs) ys = let e = kinds_of_both f k xs ys in omega (arith, e)

both_rules : (f : Weight) (r s : Rule) (b : List ℕ) (k : ℕ) (ns : List ℕ)
    → tally f (offences_after (λ before a. r before a ++ s before a) b k ns) ≡ tally f (offences_after r b k ns) + tally f (offences_after s b k ns)
both_rules f r s b k [] = refl
both_rules f r s b k (a ∷ ns) = search (rules, kinds_of_both, tally_append, (both_rules f r s (a ∷ b) (k + 1) ns))

no_rule : (f : Weight) (b : List ℕ) (k : ℕ) (ns : List ℕ) → tally f (offences_after (λ before a. []) b k ns) ≡ 0
no_rule f b k [] = refl
no_rule f b k (a ∷ ns) = no_rule f (a ∷ b) (k + 1) ns

abbrev much : Option ℕ → Rule
much count before a = when (is_too_much count (length before)) range

abbrev long : Option ℕ → Rule
long most before a = when (is_too_long most (length before)) shape

abbrev wrong : (List ℕ → ℕ → Bool) → Rule
wrong test before a = when (test before a) shape

cell_tally : (f : Weight) (count most : Option ℕ) (test : List ℕ → ℕ → Bool) (k : ℕ) (ns : List ℕ)
    → tally f (offences_by (cell_rule count most test) k ns)
    ≡ tally f (offences_by entry_rule k ns)
    + (tally f (offences_by (much count) k ns) + (tally f (offences_by (long most) k ns) + tally f (offences_by (wrong test) k ns)))
cell_tally f count most test k ns =
    let x = both_rules f entry_rule (λ before a. much count before a ++ (long most before a ++ wrong test before a)) [] k ns in
    let y = both_rules f (much count) (λ before a. long most before a ++ wrong test before a) [] k ns in
    let z = both_rules f (long most) (wrong test) [] k ns in
    omega (arith, x, y, z)

abbrev ordered : ℕ → List ℕ → ℕ → Rule
ordered c upper d = wrong (is_disordered c upper d)

inserted_below : (f : Weight) (count : ℕ) (u : List ℕ) (rows : List PlacedRow)
    → tally f (inserted count (Some (length u)) u rows)
    ≡ tally f (row_offences entry_rule rows) + (tally f (count_offences count rows) + (tally f (length_offences u rows) + tally f (order_offences 0 u [] rows)))
inserted_below f count u [] = refl
inserted_below f count u (row ∷ rows) =
    let k = row.0 in
    let ns = row.1 in
    let x = tally_append f (offences_by (cell_rule (Some count) (Some (length u)) (is_disordered 0 u 0)) k ns) (inserted (count + length ns) (Some (length ns)) ns rows) in
    let cell = cell_tally f (Some count) (Some (length u)) (is_disordered 0 u 0) k ns in
    let a = tally_append f (offences_by entry_rule k ns) (row_offences entry_rule rows) in
    let b = tally_append f (offences_by (much (Some count)) k ns) (count_offences (count + length ns) rows) in
    let d = tally_append f (offences_by (long (Some (length u))) k ns) (length_offences ns rows) in
    let e = tally_append f (offences_by (ordered 0 u 0) k ns) (order_offences 0 ns [] rows) in
    let rest = inserted_below f (count + length ns) ns rows in
    omega (arith, x, cell, a, b, d, e, rest)

inserted_alike : (row : PlacedRow) (rows : List PlacedRow)
    → Alike (insertion_offences (row ∷ rows)) (inserted 0 None [] (row ∷ rows) ++ empty_row_offences (row ∷ rows))
inserted_alike row rows f =
    let k = row.0 in
    let ns = row.1 in
    let all = row ∷ rows in
    let empties = empty_row_offences all in
    let q = tally_append f (row_offences entry_rule all) (count_offences 0 all) in
    let r = tally_append f (filled_offences all) (length_offences ns rows) in
    let s = tally_append f (filled_offences all ++ length_offences ns rows) empties in
    let p = tally_append f ((filled_offences all ++ length_offences ns rows) ++ empties) (order_offences 0 [] [] all) in
    let t = tally_append f (inserted 0 None [] all) empties in
    let x = tally_append f (offences_by (cell_rule (Some 0) None (is_disordered 0 [] 0)) k ns) (inserted (0 + length ns) (Some (length ns)) ns rows) in
    let cell = cell_tally f (Some 0) None (is_disordered 0 [] 0) k ns in
    let none = no_rule f [] k ns in
    let a = tally_append f (offences_by entry_rule k ns) (row_offences entry_rule rows) in
    let b = tally_append f (offences_by (much (Some 0)) k ns) (count_offences (0 + length ns) rows) in
    let e = tally_append f (offences_by (ordered 0 [] 0) k ns) (order_offences 0 ns [] rows) in
    let rest = inserted_below f (0 + length ns) ns rows in
    omega (arith, p, q, r, s, t, x, cell, none, a, b, e, rest)

pub inserted_first : (rows : List PlacedRow) → first_offence (insertion_offences rows) ≡ first_offence (inserted 0 None [] rows ++ empty_row_offences rows)
inserted_first [] = refl
inserted_first (row ∷ rows) =
    first_alike (insertion_offences (row ∷ rows)) (inserted 0 None [] (row ∷ rows) ++ empty_row_offences (row ∷ rows)) (inserted_alike row rows)

recorded_tally : (f : Weight) (cells count : ℕ) (earlier upper : List ℕ) (rows : List PlacedRow)
    → tally f (recorded cells count earlier upper rows)
    ≡ tally f (row_offences entry_rule rows) + (tally f (count_offences count rows) + tally f (standard_offences cells earlier upper rows))
recorded_tally f cells count earlier upper [] = refl
recorded_tally f cells count earlier upper (row ∷ rows) =
    let k = row.0 in
    let ns = row.1 in
    let test = is_no_record cells earlier upper in
    let x = tally_append f (offences_by (cell_rule (Some count) None test) k ns) (recorded cells (count + length ns) (ns ++ earlier) ns rows) in
    let cell = cell_tally f (Some count) None test k ns in
    let none = no_rule f [] k ns in
    let a = tally_append f (offences_by entry_rule k ns) (row_offences entry_rule rows) in
    let b = tally_append f (offences_by (much (Some count)) k ns) (count_offences (count + length ns) rows) in
    let e = tally_append f (offences_by (wrong test) k ns) (standard_offences cells (ns ++ earlier) ns rows) in
    let rest = recorded_tally f cells (count + length ns) (ns ++ earlier) ns rows in
    omega (arith, x, cell, none, a, b, e, rest)

pub recorded_first : (cells : ℕ) (rows : List PlacedRow)
    → first_offence (filled_offences rows ++ standard_offences cells [] [] rows) ≡ first_offence (recorded cells 0 [] [] rows)
recorded_first cells rows = search (rules, first_alike, tally_append, recorded_tally)

skewed_tally : (f : Weight) (c : ℕ) (upper inner : List ℕ) (rows : List PlacedRow)
    → tally f (skewed c upper inner rows) ≡ tally f (row_offences entry_rule rows) + tally f (order_offences c upper inner rows)
skewed_tally f c upper inner [] = refl
skewed_tally f c upper inner (row ∷ rows) =
    let k = row.0 in
    let ns = row.1 in
    let d = part inner 1 in
    let x = tally_append f (offences_by (cell_rule None None (is_disordered c upper d)) k ns) (skewed d ns (drop 1 inner) rows) in
    let cell = cell_tally f None None (is_disordered c upper d) k ns in
    let none = no_rule f [] k ns in
    let a = tally_append f (offences_by entry_rule k ns) (row_offences entry_rule rows) in
    let e = tally_append f (offences_by (ordered c upper d) k ns) (order_offences d ns (drop 1 inner) rows) in
    let rest = skewed_tally f d ns (drop 1 inner) rows in
    omega (arith, x, cell, none, a, e, rest)

pub skewed_first : (inner : List ℕ) (rows : List PlacedRow)
    → first_offence (row_offences entry_rule rows ++ order_offences 0 [] inner rows) ≡ first_offence (skewed 0 [] inner rows)
skewed_first inner rows = search (rules, first_alike, tally_append, skewed_tally)
