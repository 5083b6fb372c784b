-- Rows whose numbers are tested once, with flags for the entries (`judged`), have the errors that the rules of insertion, recording and skew tableaux
-- find (`inserted`, `recorded`, `skewed`).
use Rattle.std.proofs.lemmas.Grind.{common_steps}
use Rattle.std.proofs.Common.{◌≡◌, ℕ, zero, suc, ◌+◌, ◌<◌, ◌==◌, nat_lt, Bool, true, false, ◌||◌, List, [], ◌∷◌, ◌++◌, length, drop, reverse, get_or, replicate, refl, sym, ap, ap₂, ◌∙◌, arith, Option, Some, None, rules}
use Rattle.std.specs.Prelude.{slice_set}
use Rattle.std.proofs.lemmas.Bool.Decides.{nat_tests}
use Rattle.std.proofs.lemmas.List.{reverse-append}
use Rattle.std.proofs.Math.Bool.{or-false, or-true}
use Rattle.std.proofs.Math.ListN.{set, length-set}
use Rattle.sym_model.specs.Partition.{part}
use Rattle.sym_model.specs.CommandOffence.{PlacedRow, offences_after, stands_in}
use Rattle.word_laws.specs.JudgedRows.{cell_rule, is_disordered, is_no_record, inserted, recorded, skewed}
use Rattle.calc_language.specs.FoundOffences.{marked, is_taken, is_no_entry, judged}
use Rattle.sym_model.proofs.Numbers.{or_left_comm}

rules_agree : (count most : Option ℕ) (p q : List ℕ → ℕ → Bool) → ((b : List ℕ) (a : ℕ) → p b a ≡ q b a) → (b : List ℕ) (k : ℕ) (ns : List ℕ)
    → offences_after (cell_rule count most p) b k ns ≡ offences_after (cell_rule count most q) b k ns
rules_agree count most p q h b k [] = refl
rules_agree count most p q h b k (a ∷ ns) = search rules

-- ---- rows that are tested without flags

unmarked : (ns : List ℕ) → marked ns [] ≡ []
unmarked [] = refl
unmarked (a ∷ ns) = ap (λ flags. slice_set flags a true) (unmarked ns)

no_flags : (c : ℕ) (upper : List ℕ) (d : ℕ) (b : List ℕ) (a : ℕ) → is_no_entry c upper d [] b a ≡ is_disordered c upper d b a
no_flags c upper d b a =
    ap (λ flags. is_disordered c upper d b a || is_taken flags a) (unmarked b) ∙ or-false (is_disordered c upper d b a)

pub inserted_judged : (count : ℕ) (most : Option ℕ) (upper : List ℕ) (rows : List PlacedRow)
    → judged true (Some count) most 0 upper [] [] rows ≡ inserted count most upper rows
inserted_judged count most upper [] = refl
inserted_judged count most upper (row ∷ rows) =
    ap₂ ◌++◌ (rules_agree (Some count) most (is_no_entry 0 upper 0 []) (is_disordered 0 upper 0) (no_flags 0 upper 0) [] row.0 row.1)
    (ap (λ flags. judged true (Some (count + length row.1)) (Some (length row.1)) 0 row.1 [] flags rows) (unmarked (reverse row.1))
    ∙ inserted_judged (count + length row.1) (Some (length row.1)) row.1 rows)

pub skewed_judged : (c : ℕ) (upper inner : List ℕ) (rows : List PlacedRow) → judged false None None c upper inner [] rows ≡ skewed c upper inner rows
skewed_judged c upper inner [] = refl
skewed_judged c upper inner (row ∷ rows) =
    let d = part inner 1 in
    ap₂ ◌++◌ (rules_agree None None (is_no_entry c upper d []) (is_disordered c upper d) (no_flags c upper d) [] row.0 row.1)
    (ap (λ flags. judged false None None d row.1 (drop 1 inner) flags rows) (unmarked (reverse row.1)) ∙ skewed_judged d row.1 (drop 1 inner) rows)

-- ---- rows that are tested with flags for the entries that have occurred

get_set : (flags : List Bool) (x a : ℕ) → get_or (set flags x true) a true ≡ (get_or flags a true || (a == x))
get_set [] x a = refl
get_set (f ∷ flags) zero zero = sym (or-true f)
get_set (f ∷ flags) zero (suc a) = sym (ap (λ b. get_or flags a true || b) (let z : (suc a == 0) ≡ false = grind (arith, nat_tests) in z) ∙ or-false (get_or flags a true))
get_set (f ∷ flags) (suc x) zero = sym (ap (λ b. f || b) (let z : (0 == suc x) ≡ false = grind (arith, nat_tests) in z) ∙ or-false f)
get_set (f ∷ flags) (suc x) (suc a) =
    get_set flags x a ∙ ap (λ b. get_or flags a true || b) (let z : (a == x) ≡ (suc a == suc x) = grind (arith, nat_tests) in z)

taken_get : (flags : List Bool) (a : ℕ) → 0 < length flags → is_taken flags a ≡ get_or flags a true
taken_get [] a h = absurd (omega (arith, h))
taken_get (f ∷ flags) a h = refl

marked_length : (ns : List ℕ) (flags : List Bool) → length (marked ns flags) ≡ length flags
marked_length [] flags = refl
marked_length (a ∷ ns) flags = length-set (marked ns flags) a true ∙ marked_length ns flags

grouped : (x y z : Bool) → ((x || y) || z) ≡ (x || (z || y))
grouped true y z = refl
grouped false true true = refl
grouped false true false = refl
grouped false false true = refl
grouped false false false = refl

taken_marked : (ns : List ℕ) (flags : List Bool) (a : ℕ) → 0 < length flags → is_taken (marked ns flags) a ≡ (is_taken flags a || stands_in a ns)
taken_marked [] flags a h = sym (or-false (is_taken flags a))
taken_marked (x ∷ ns) flags a h = search (rules, marked_length, length-set, taken_get, get_set, grouped, (taken_marked ns flags a h))

stands_append : (a : ℕ) (xs ys : List ℕ) → stands_in a (xs ++ ys) ≡ (stands_in a ys || stands_in a xs)
stands_append a [] ys = sym (or-false (stands_in a ys))
stands_append a (x ∷ xs) ys = ap (λ b. (a == x) || b) (stands_append a xs ys) ∙ or_left_comm (a == x) (stands_in a ys) (stands_in a xs)

stands_reverse : (a : ℕ) (ns : List ℕ) → stands_in a (reverse ns) ≡ stands_in a ns
stands_reverse a [] = refl
stands_reverse a (x ∷ ns) =
    ap (stands_in a) (reverse-append (x ∷ []) ns) ∙ stands_append a (reverse ns) (x ∷ []) ∙ ap₂ ◌||◌ (or-false (a == x)) (stands_reverse a ns)

-- the list `flags` is not empty, and `is_taken flags a` holds if and only if the number a is greater than `cells` or among the entries `earlier`
pub record HasFlags (cells : ℕ) (earlier : List ℕ) (flags : List Bool) : Type 0 where
  pub some : 0 < length flags
  pub taken : (a : ℕ) → is_taken flags a ≡ (nat_lt cells a || stands_in a earlier)

row_flags : (cells : ℕ) (earlier ns : List ℕ) (flags : List Bool) → HasFlags cells earlier flags → HasFlags cells (ns ++ earlier) (marked (reverse ns) flags)
row_flags cells earlier ns flags h = search (rules, marked_length, taken_marked, stands_reverse, stands_append)

-- let `flags` be the flags of the entries `earlier` (`HasFlags`). For a number a after the entries b, the test with flags agrees with the test of
-- recording tableaux (`is_no_record`). The test of recording tableaux also refuses an a that equals its left neighbour, and the test with flags
-- does so too: the flag of a is set, since a is an entry of b
record_test : (cells : ℕ) (earlier upper : List ℕ) (flags : List Bool) → HasFlags cells earlier flags → (b : List ℕ) (a : ℕ)
    → is_no_entry 0 upper 0 flags b a ≡ is_no_record cells earlier upper b a
record_test cells earlier upper flags h b a = search (rules, taken_marked, nat_tests)

pub recorded_judged : (cells count : ℕ) (earlier upper : List ℕ) (flags : List Bool) (rows : List PlacedRow) → HasFlags cells earlier flags
    → judged false (Some count) None 0 upper [] flags rows ≡ recorded cells count earlier upper rows
recorded_judged cells count earlier upper flags [] h = refl
recorded_judged cells count earlier upper flags (row ∷ rows) h =
    ap₂ ◌++◌
    (rules_agree (Some count) None (is_no_entry 0 upper 0 flags) (is_no_record cells earlier upper) (record_test cells earlier upper flags h) [] row.0 row.1)
    (recorded_judged cells (count + length row.1) (row.1 ++ earlier) row.1 (marked (reverse row.1) flags) rows (row_flags cells earlier row.1 flags h))

pub first_flags : (cells : ℕ) → HasFlags cells [] (replicate (suc cells) false)
first_flags cells = grind (arith, common_steps)
