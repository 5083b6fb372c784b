-- The errors of the numbers in a row of a tableau. The numbers are tested one after another: a rule (`cell_rule`) finds the error of a number from
-- the numbers before it in the row.
use Rattle.std.proofs.Common.{◌≡◌, ℕ, suc, ◌+◌, ◌-◌, ◌<◌, ◌≤◌, nat_le, Bool, true, false, ◌||◌, List, [], ◌∷◌, ◌++◌, map, length, take, drop, reverse, get_or, drop-cons, refl, sym, ap, ap₂, ◌∙◌, subst, arith, Option, Some, None, Ok, Err, inl, inr, rules}
use Rattle.std.specs.Prelude.{slice_get, slice_set}
use Rattle.std.proofs.lemmas.List.{take_more, take_all, length-take-le, reverse-append, length-reverse}
use Rattle.sym_model.specs.Sum.{Among}
use Rattle.sym_model.specs.ExpressionOffence.{OffenceKind, is_wide, literal, range, shape, rank}
use Rattle.sym_model.specs.CommandOffence.{Offence, Rule, first_offence, offences_after, offences_by, left_of, falls, stays, entry_above, when, is_outside, greatest_letter}
use Rattle.word_laws.specs.JudgedRows.{is_too_much, is_too_long, cell_rule, is_disordered}
use Rattle.calc_base.specs.declared.words.WordsFault.{WordsFault}
use Rattle.expression_reading.specs.declared.offence.Kind.{Kind}
use Rattle.expression_reading.specs.declared.offence.Kind.TheVariants.{Literal, Range, Shape}
use Rattle.calc_words.specs.Faults.{fault_of}
use Rattle.calc_words.specs.Reading.{IsFirst}
use Rattle.expression_reading.specs.Offences.{kind_in}
use Rattle.calc_language.specs.FoundOffences.{kind_by, entry_or, marked, is_taken, is_no_entry}
use Rattle.calc_words.proofs.FirstOffences.{first-kind, first_of_three, lowest, Behind, within}
use Rattle.word_laws.proofs.JudgedRows.{of_kind}
use Rattle.std.proofs.lemmas.Option.{slice_get-get_or}

-- ---- the first of the errors of one number of a row

range_shapes : (q : OffenceKind) → Among q (range ∷ shape ∷ shape ∷ []) → nat_le 1 (rank q) ≡ true
range_shapes q (inl e) = ap (λ v. nat_le 1 (rank v)) e
range_shapes q (inr (inl e)) = ap (λ v. nat_le 1 (rank v)) e
range_shapes q (inr (inr (inl e))) = ap (λ v. nat_le 1 (rank v)) e
range_shapes q (inr (inr (inr m))) = absurd m

no_literal : (y z w : Bool) (q : OffenceKind) → Among q (when y range ++ (when z shape ++ when w shape)) → nat_le 1 (rank q) ≡ true
no_literal true true true q m = range_shapes q m
no_literal true true false q (inl e) = range_shapes q (inl e)
no_literal true true false q (inr (inl e)) = range_shapes q (inr (inl e))
no_literal true true false q (inr (inr m)) = absurd m
no_literal true false true q (inl e) = range_shapes q (inl e)
no_literal true false true q (inr (inl e)) = range_shapes q (inr (inl e))
no_literal true false true q (inr (inr m)) = absurd m
no_literal true false false q (inl e) = range_shapes q (inl e)
no_literal true false false q (inr m) = absurd m
no_literal false true true q m = range_shapes q (inr m)
no_literal false true false q (inl e) = range_shapes q (inr (inl e))
no_literal false true false q (inr m) = absurd m
no_literal false false true q (inl e) = range_shapes q (inr (inl e))
no_literal false false true q (inr m) = absurd m
no_literal false false false q m = absurd m

only_shape : (z : Bool) (q : OffenceKind) → Among q (when z shape) → nat_le 2 (rank q) ≡ true
only_shape true q (inl e) = ap (λ v. nat_le 2 (rank v)) e
only_shape true q (inr m) = absurd m
only_shape false q m = absurd m

cell_kinds : (k : ℕ) (x y v z w : Bool) (rest : List Offence) → Behind k rest
    → first_offence (map (of_kind k) ((when x literal ++ when y range) ++ (when v range ++ (when z shape ++ when w shape))) ++ rest)
    ≡ first_of_three k x (y || v) (z || w) (first_offence rest)
cell_kinds k true true v z w rest l =
    first-kind k literal (range ∷ (when v range ++ (when z shape ++ when w shape))) rest (λ q m. lowest q) l
cell_kinds k true false v z w rest l = first-kind k literal (when v range ++ (when z shape ++ when w shape)) rest (λ q m. lowest q) l
cell_kinds k false true v z w rest l = first-kind k range (when v range ++ (when z shape ++ when w shape)) rest (no_literal v z w) l
cell_kinds k false false true z w rest l = first-kind k range (when z shape ++ when w shape) rest (no_literal false z w) l
cell_kinds k false false false true w rest l = first-kind k shape (when w shape) rest (only_shape w) l
cell_kinds k false false false false true rest l = first-kind k shape [] rest (λ q m. absurd m) l
cell_kinds k false false false false false rest l = refl

abbrev pub found_or : ℕ → Option Kind → Option Offence → Option Offence
found_or k None rest = rest
found_or k (Some kind) rest = Some (k, 0, kind_in kind)

by_kind : (k : ℕ) (x y z : Bool) (rest : Option Offence) → first_of_three k x y z rest ≡ found_or k (kind_by x y z) rest
by_kind k true y z rest = refl
by_kind k false true z rest = refl
by_kind k false false true rest = refl
by_kind k false false false rest = refl

-- ---- the numbers before index i of a row, the nearest first

abbrev pub before_of : List ℕ → ℕ → List ℕ
before_of ns i = reverse (take i ns)

reverse_last : (ns : List ℕ) (a : ℕ) → reverse (ns ++ a ∷ []) ≡ a ∷ reverse ns
reverse_last ns a = reverse-append ns (a ∷ [])

pub before_next : (ns : List ℕ) (i : ℕ) → i < length ns → before_of ns (i + 1) ≡ get_or ns i 0 ∷ before_of ns i
before_next ns i h = ap reverse (take_more ns i 0 h) ∙ reverse_last (take i ns) (get_or ns i 0)

pub before_length : (ns : List ℕ) (i : ℕ) → i ≤ length ns → length (before_of ns i) ≡ i
before_length ns i h = length-reverse (take i ns) ∙ length-take-le i ns h

left_last : (row : List ℕ) → left_of (reverse row) ≡ slice_get row (length row - 1)
left_last [] = refl
left_last (a ∷ ns) =
    let row = a ∷ ns in
    let n = length row - 1 in
    let z : length row ≤ n + 1 = omega arith in
    ap (λ xs. left_of (reverse xs)) (sym (take_all (n + 1) row z))
    ∙ ap left_of (before_next row n (omega arith))
    ∙ sym (slice_get-get_or row n 0 (omega arith))

-- let `row` be the entries of a row that begins at column d, below the row `upper` that begins at column c: the next number a is smaller than the
-- last entry of `row`, or not greater than the entry above a, if and only if `is_disordered` is true
pub disordered_read : (c : ℕ) (upper : List ℕ) (d : ℕ) (row : List ℕ) (a : ℕ)
    → (falls (slice_get row (length row - 1)) a || stays (entry_above upper c (d + length row)) a) ≡ is_disordered c upper d (reverse row) a
disordered_read c upper d row a = search (rules, left_last, length-reverse)

-- the first error that the rule finds in the numbers from index i on, given the numbers before index i; the number at index 0 is word `at`
abbrev pub from_place : Rule → ℕ → List ℕ → ℕ → Option Offence
from_place rule at ns i = first_offence (offences_after rule (before_of ns i) (at + i) (drop i ns))

pub next_place : (count most : Option ℕ) (test : List ℕ → ℕ → Bool) (at : ℕ) (ns : List ℕ) (i : ℕ) (kind : Option Kind) → i < length ns
    → kind ≡ kind_by (is_wide (get_or ns i 0)) (is_outside greatest_letter (get_or ns i 0) || is_too_much count i) (is_too_long most i || test (before_of ns i) (get_or ns i 0))
    → from_place (cell_rule count most test) at ns i ≡ found_or (at + i) kind (from_place (cell_rule count most test) at ns (i + 1))
next_place count most test at ns i kind h e =
    let rule = cell_rule count most test in
    let a = get_or ns i 0 in
    let b = before_of ns i in
    let more = offences_after rule (a ∷ b) (at + i + 1) (drop (suc i) ns) in
    ap (λ xs. first_offence (offences_after rule b (at + i) xs)) (drop-cons ns i 0 h)
    ∙ cell_kinds (at + i) (is_wide a) (is_outside greatest_letter a) (is_too_much count (length b)) (is_too_long most (length b)) (test b a) more
    (λ p m. let w = within rule (a ∷ b) (at + i + 1) (drop (suc i) ns) p m in let z = w.0 in omega (arith, z))
    ∙ ap (λ n. first_of_three (at + i) (is_wide a) (is_outside greatest_letter a || is_too_much count n) (is_too_long most n || test b a) (first_offence more)) (before_length ns i (omega (arith, h)))
    ∙ by_kind (at + i) (is_wide a) (is_outside greatest_letter a || is_too_much count i) (is_too_long most i || test b a) (first_offence more)
    ∙ ap (λ k. found_or (at + i) k (first_offence more)) (sym e)
    ∙ ap (found_or (at + i) kind)
    (ap (λ xs. first_offence (offences_after rule xs (at + i + 1) (drop (suc i) ns))) (sym (before_next ns i h))
    ∙ ap (λ n. first_offence (offences_after rule (before_of ns (i + 1)) n (drop (suc i) ns))) (let z : at + i + 1 ≡ at + (i + 1) = omega arith in z)
    ∙ ap (λ n. first_offence (offences_after rule (before_of ns (i + 1)) (at + (i + 1)) (drop n ns))) (let z : suc i ≡ i + 1 = omega arith in z))

-- if the first error is at byte 0 of word k and has the kind `kind`, then the fault of this kind at word k reports the first error (`IsFirst`)
pub kind_refused : (first : Option Offence) (k : ℕ) (kind : Kind) (fault : WordsFault) → first ≡ Some (k, 0, kind_in kind) → fault ≡ fault_of k kind
    → IsFirst first fault
kind_refused first k Literal fault e h = subst (IsFirst first) (sym h) e
kind_refused first k Range fault e h = subst (IsFirst first) (sym h) e
kind_refused first k Shape fault e h = subst (IsFirst first) (sym h) e

-- ---- reading a row, one number after another (`ReadTo`)

entry_err : (a : ℕ) (k : Option Kind) (kind : Kind) → Err kind ≡ entry_or a k → Some kind ≡ k
entry_err a None kind e = cc
entry_err a (Some k) kind e = cc

entry_ok : (a : ℕ) (k : Option Kind) (v : ℕ) → Ok v ≡ entry_or a k → (None ≡ k) × (v ≡ a)
entry_ok a None v e = (refl, cc)
entry_ok a (Some k) v e = cc

-- the first i numbers of a row have no error; `row` is the list of these numbers, and `taken` is the list `flags`, with the flag at index a set for
-- each of these numbers a
pub record ReadTo (count most : Option ℕ) (c : ℕ) (upper : List ℕ) (d : ℕ) (flags : List Bool) (at : ℕ) (ns : List ℕ) (i : ℕ) (row : List ℕ) (taken : List Bool) : Type 0 where
  pub first_is : first_offence (offences_by (cell_rule count most (is_no_entry c upper d flags)) at ns)
      ≡ from_place (cell_rule count most (is_no_entry c upper d flags)) at ns i
  pub row_is : row ≡ take i ns
  pub taken_is : taken ≡ marked (reverse row) flags

-- the kind of the error of the number a that follows the entries `row`, if a has an error
abbrev pub next_kind : Option ℕ → Option ℕ → ℕ → List ℕ → ℕ → List ℕ → List Bool → ℕ → Option Kind
next_kind count most c upper d row taken a =
    kind_by (is_wide a) (is_outside greatest_letter a || is_too_much count (length row))
    (is_too_long most (length row) || (is_disordered c upper d (reverse row) a || is_taken taken a))

next_read : (count most : Option ℕ) (c : ℕ) (upper : List ℕ) (d : ℕ) (flags : List Bool) (at : ℕ) (ns : List ℕ) (i : ℕ) (row : List ℕ) (taken : List Bool)
    (kind : Option Kind) → ReadTo count most c upper d flags at ns i row taken → i < length ns
    → kind ≡ next_kind count most c upper d row taken (get_or ns i 0)
    → first_offence (offences_by (cell_rule count most (is_no_entry c upper d flags)) at ns)
    ≡ found_or (at + i) kind (from_place (cell_rule count most (is_no_entry c upper d flags)) at ns (i + 1))
next_read count most c upper d flags at ns i row taken kind r h e = search (rules, next_place, length-take-le)

pub row_refused : (count most : Option ℕ) (c : ℕ) (upper : List ℕ) (d : ℕ) (flags : List Bool) (at : ℕ) (ns : List ℕ) (i : ℕ) (row : List ℕ) (taken : List Bool)
    (a : ℕ) (kind : Kind) (fault : WordsFault) → ReadTo count most c upper d flags at ns i row taken → i < length ns → get_or ns i 0 ≡ a
    → Err kind ≡ entry_or a (next_kind count most c upper d row taken a) → fault ≡ fault_of (at + i) kind
    → IsFirst (first_offence (offences_by (cell_rule count most (is_no_entry c upper d flags)) at ns)) fault
row_refused count most c upper d flags at ns i row taken a kind fault r h e k f =
    kind_refused (first_offence (offences_by (cell_rule count most (is_no_entry c upper d flags)) at ns)) (at + i) kind fault
    (next_read count most c upper d flags at ns i row taken (Some kind) r h
    (entry_err a (next_kind count most c upper d row taken a) kind k ∙ ap (next_kind count most c upper d row taken) (sym e)))
    f

pub row_goes_on : (count most : Option ℕ) (c : ℕ) (upper : List ℕ) (d : ℕ) (flags : List Bool) (at : ℕ) (ns : List ℕ) (i : ℕ) (row : List ℕ) (taken : List Bool)
    (a v : ℕ) → ReadTo count most c upper d flags at ns i row taken → i < length ns → get_or ns i 0 ≡ a
    → Ok v ≡ entry_or a (next_kind count most c upper d row taken a)
    → ReadTo count most c upper d flags at ns (i + 1) (row ++ v ∷ []) (slice_set taken v true)
row_goes_on count most c upper d flags at ns i row taken a v r h e k =
    let o = entry_ok a (next_kind count most c upper d row taken a) v k in
    record {
      first_is = next_read count most c upper d flags at ns i row taken None r h (o.0 ∙ ap (next_kind count most c upper d row taken) (sym e));
      row_is = ap₂ (λ xs x. xs ++ x ∷ []) r.row_is (o.1 ∙ sym e) ∙ sym (take_more ns i 0 h);
      taken_is = ap (λ t. slice_set t v true) r.taken_is ∙ ap (λ xs. marked xs flags) (sym (reverse_last row v));
    }
