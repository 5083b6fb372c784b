-- The test of the numbers of a partition, one number after another.
use Rattle.std.proofs.lemmas.Grind.{common_steps}
use Rattle.std.proofs.Common.{◌≡◌, ℕ, zero, suc, ◌+◌, ◌<◌, ◌≤◌, ◌==◌, nat_le, nat_lt, Bool, true, false, ◌&&◌, ◌||◌, List, [], ◌∷◌, ◌++◌, map, length, take, drop, get_or, drop-cons, refl, sym, ap, ◌∙◌, subst, arith, Option, Some, None, rules}
use Rattle.std.proofs.lemmas.Bool.{le-leb, eqb-false}
use Rattle.std.proofs.Math.ListN.{drop_of_length-le, set, length-set}
use Rattle.std.proofs.lemmas.List.{take_more, take_more_set}
use Rattle.sym_model.specs.Partition.{size}
use Rattle.sym_model.specs.ExpressionOffence.{is_wide, rises, literal, range, shape}
use Rattle.sym_model.specs.CommandOffence.{Offence, first_offence, part_offences, part_rule, offences_after, left_of, when, most_parts, most_cells}
use Rattle.calc_base.specs.declared.words.WordsFault.{WordsFault}
use Rattle.expression_reading.specs.declared.offence.Kind.{Kind}
use Rattle.expression_reading.specs.declared.offence.Kind.TheVariants.{Literal, Range, Shape}
use Rattle.calc_words.specs.Faults.{fault_of}
use Rattle.calc_words.specs.NumberRuns.{narrow}
use Rattle.calc_words.specs.PartRules.{part_kind, range_or_shape}
use Rattle.calc_words.specs.Reading.{IsFirst}
use Rattle.calc_words.proofs.FirstOffences.{first_of_three, three_kinds_left, within}
use Rattle.word_laws.proofs.JudgedRows.{of_kind}

-- the first i numbers of ns, which begin at word `at`, have no error and are stored in `parts`; their sum is `cells`, the last of them is `last`, and
-- `heard` lists them, the last one first
pub record Judging (at : ℕ) (ns : List ℕ) (i cells : ℕ) (last : Option ℕ) (parts : List ℕ) : Type 0 where
  pub heard : List ℕ
  pub count_is : length heard ≡ i
  pub cells_are : size heard ≡ cells
  pub last_is : left_of heard ≡ last
  pub rest_is : part_offences at ns ≡ offences_after part_rule heard (at + i) (drop i ns)
  pub few : i ≤ 64
  pub low : cells ≤ 512
  pub parts_are : take i parts ≡ take i ns
  pub room : length parts ≡ 64

pub number_at : {A : Type 0} (f : A → List ℕ) (g : List ℕ → ℕ) (ws : List A) (i : ℕ) (x : A) → i < length ws → x ≡ get_or ws i x
    → get_or (map g (map f ws)) i 0 ≡ g (f x)
number_at f g [] i x h e = absurd (omega (arith, h))
number_at f g (w ∷ ws) zero x h e = ap (λ y. g (f y)) (sym e)
number_at f g (w ∷ ws) (suc i) x h e = number_at f g ws i x (omega arith) e

three : (at : ℕ) (ns : List ℕ) (i cells a : ℕ) (last : Option ℕ) (parts : List ℕ) (j : Judging at ns i cells last parts) → i < length ns → get_or ns i 0 ≡ a
    → first_offence (part_offences at ns)
    ≡ first_of_three (at + i) (is_wide a)
    ((length j.heard == most_parts) || (nat_le (size j.heard) most_cells && nat_lt most_cells (size j.heard + a)))
    (rises (left_of j.heard) a)
    (first_offence (offences_after part_rule (a ∷ j.heard) (at + i + 1) (drop (suc i) ns)))
three at ns i cells a last parts j h e =
    ap first_offence
    (j.rest_is
    ∙ ap (offences_after part_rule j.heard (at + i)) (drop-cons ns i 0 h ∙ ap (λ x. x ∷ drop (suc i) ns) e))
    ∙ three_kinds_left (at + i) (is_wide a)
    ((length j.heard == most_parts) || (nat_le (size j.heard) most_cells && nat_lt most_cells (size j.heard + a)))
    (rises (left_of j.heard) a)
    (offences_after part_rule (a ∷ j.heard) (at + i + 1) (drop (suc i) ns))
    (λ p m. let w = within part_rule (a ∷ j.heard) (at + i + 1) (drop (suc i) ns) p m in omega arith)

-- let the first i numbers have no error. Then `first_of_three` finds the error of the next number a, from the count i, the sum and the last of these
-- numbers, and this is the first error of the list; if a has no error, the first error of the list is that of the numbers after a.
pub judged : (at : ℕ) (ns : List ℕ) (i cells a : ℕ) (last : Option ℕ) (parts : List ℕ) (j : Judging at ns i cells last parts) → i < length ns → get_or ns i 0 ≡ a
    → first_offence (part_offences at ns)
    ≡ first_of_three (at + i) (is_wide a) ((i == most_parts) || nat_lt most_cells (cells + a)) (rises last a)
    (first_offence (offences_after part_rule (a ∷ j.heard) (at + i + 1) (drop (suc i) ns)))
judged at ns i cells a last parts j h e =
    let rest = first_offence (offences_after part_rule (a ∷ j.heard) (at + i + 1) (drop (suc i) ns)) in
    three at ns i cells a last parts j h e
    ∙ ap (λ n. first_of_three (at + i) (is_wide a) ((n == most_parts) || (nat_le (size j.heard) most_cells && nat_lt most_cells (size j.heard + a))) (rises (left_of j.heard) a) rest) j.count_is
    ∙ ap (λ n. first_of_three (at + i) (is_wide a) ((i == most_parts) || (nat_le n most_cells && nat_lt most_cells (n + a))) (rises (left_of j.heard) a) rest) j.cells_are
    ∙ ap (λ l. first_of_three (at + i) (is_wide a) ((i == most_parts) || (nat_le cells most_cells && nat_lt most_cells (cells + a))) (rises l a) rest) j.last_is
    ∙ ap (λ b. first_of_three (at + i) (is_wide a) ((i == most_parts) || (b && nat_lt most_cells (cells + a))) (rises last a) rest) (le-leb cells most_cells j.low)

pub narrow_none : (a : ℕ) → narrow a ≡ None → is_wide a ≡ true
narrow_none a h = search rules

-- if the first i numbers have no error and the next number a exceeds 2^127 - 1, the fault `Literal` at the word of a reports the first error
pub wide_first : (at : ℕ) (ns : List ℕ) (i cells a : ℕ) (last : Option ℕ) (parts : List ℕ) → Judging at ns i cells last parts → i < length ns → get_or ns i 0 ≡ a
    → narrow a ≡ None → (fault : WordsFault) → fault ≡ fault_of (at + i) Literal
    → IsFirst (first_offence (part_offences at ns)) fault
wide_first at ns i cells a last parts j h e w fault f =
    subst (λ r. IsFirst (first_offence (part_offences at ns)) r) (sym f)
    (judged at ns i cells a last parts j h e
    ∙ ap (λ b. first_of_three (at + i) b ((i == most_parts) || nat_lt most_cells (cells + a)) (rises last a)
    (first_offence (offences_after part_rule (a ∷ j.heard) (at + i + 1) (drop (suc i) ns)))) (narrow_none a w))

-- if `narrow a` is `Some v`, then a is at most 2^127 - 1, and v = a
pub narrow_some : (a v : ℕ) → Some v ≡ narrow a → (is_wide a ≡ false) × (v ≡ a)
narrow_some a v h = search rules

-- let the number at word k be at most 2^127 - 1. If its tests y and z give an error of some kind (`range_or_shape`), the fault of this kind at word k
-- reports the first error.
pub kind_judged : (k : ℕ) (y z : Bool) (rest first : Option Offence) (kind : Kind) → first ≡ first_of_three k false y z rest
    → Some kind ≡ range_or_shape y z → IsFirst first (fault_of k kind)
kind_judged k true z rest first kind h e = subst (λ x. IsFirst first (fault_of k x)) (sym (let g : kind ≡ Range = cc in g)) h
kind_judged k false true rest first kind h e = subst (λ x. IsFirst first (fault_of k x)) (sym (let g : kind ≡ Shape = cc in g)) h
kind_judged k false false rest first kind h e = cc

pub kind_first : (at : ℕ) (ns : List ℕ) (i cells a v : ℕ) (last : Option ℕ) (parts : List ℕ) → Judging at ns i cells last parts → i < length ns → get_or ns i 0 ≡ a
    → Some v ≡ narrow a → (kind : Kind) → Some kind ≡ part_kind i cells last v → (fault : WordsFault) → fault ≡ fault_of (at + i) kind
    → IsFirst (first_offence (part_offences at ns)) fault
kind_first at ns i cells a v last parts j h e w kind k fault f =
    let n = narrow_some a v w in
    let rest = first_offence (offences_after part_rule (a ∷ j.heard) (at + i + 1) (drop (suc i) ns)) in
    subst (λ r. IsFirst (first_offence (part_offences at ns)) r) (sym f)
    (kind_judged (at + i) ((i == most_parts) || nat_lt most_cells (cells + a)) (rises last a) rest (first_offence (part_offences at ns)) kind
    (judged at ns i cells a last parts j h e
    ∙ ap (λ b. first_of_three (at + i) b ((i == most_parts) || nat_lt most_cells (cells + a)) (rises last a) rest) n.0)
    (k ∙ ap (part_kind i cells last) n.1))

pub none_kinds : (y z : Bool) → range_or_shape y z ≡ None → (y ≡ false) × (z ≡ false)
none_kinds true z h = cc
none_kinds false true h = cc
none_kinds false false h = (refl, refl)

range_none : (count cells : ℕ) (last : Option ℕ) (v : ℕ) → part_kind count cells last v ≡ None
    → (((count == most_parts) || nat_lt most_cells (cells + v)) ≡ false) × (rises last v ≡ false)
range_none count cells last v h = none_kinds ((count == most_parts) || nat_lt most_cells (cells + v)) (rises last v) h

fits_in : (count cells : ℕ) (last : Option ℕ) (v : ℕ) → part_kind count cells last v ≡ None → (cells + v ≤ 512) × ((count == 64) ≡ false)
fits_in count cells last v h = search rules

pub no_kinds : (x y z : Bool) → x ≡ false → y ≡ false → z ≡ false → (when x literal ++ when y range) ++ when z shape ≡ []
no_kinds x y z a b c = cc

pub goes_on : (at : ℕ) (ns : List ℕ) (i cells a v : ℕ) (last : Option ℕ) (parts : List ℕ) → Judging at ns i cells last parts → i < length ns → get_or ns i 0 ≡ a
    → Some v ≡ narrow a → part_kind i cells last v ≡ None
    → Judging at ns (i + 1) (cells + v) (Some v) (set parts i v)
goes_on at ns i cells a v last parts j h e w k =
    let n = narrow_some a v w in
    let r = range_none i cells last v k in
    let fit = fits_in i cells last v k in
    let few : i + 1 ≤ 64 = let x = j.few in omega (arith, eqb-false i 64 fit.1, x) in
    let room = j.room in
    let here : i < length parts = omega (arith, room, few) in
    let range_not : ((length j.heard == most_parts) || (nat_le (size j.heard) most_cells && nat_lt most_cells (size j.heard + v))) ≡ false =
    ap (λ m. (m == most_parts) || (nat_le (size j.heard) most_cells && nat_lt most_cells (size j.heard + v))) j.count_is
    ∙ ap (λ m. (i == most_parts) || (nat_le m most_cells && nat_lt most_cells (m + v))) j.cells_are
    ∙ ap (λ b. (i == most_parts) || (b && nat_lt most_cells (cells + v))) (le-leb cells most_cells j.low)
    ∙ r.0 in
    record {
      heard = v ∷ j.heard;
      count_is = let x = j.count_is in omega (arith, x);
      cells_are = let x = j.cells_are in omega (arith, x);
      last_is = refl;
      rest_is =
          j.rest_is
          ∙ ap (offences_after part_rule j.heard (at + i)) (drop-cons ns i 0 h ∙ ap (λ x. x ∷ drop (suc i) ns) (e ∙ sym n.1))
          ∙ ap (λ kinds. map (of_kind (at + i)) kinds ++ offences_after part_rule (v ∷ j.heard) (at + i + 1) (drop (suc i) ns))
          (no_kinds (is_wide v) ((length j.heard == most_parts) || (nat_le (size j.heard) most_cells && nat_lt most_cells (size j.heard + v))) (rises (left_of j.heard) v)
          (ap is_wide n.1 ∙ n.0) range_not (ap (λ l. rises l v) j.last_is ∙ r.1))
          ∙ ap (λ m. offences_after part_rule (v ∷ j.heard) m (drop (suc i) ns)) (let z : at + i + 1 ≡ at + (i + 1) = omega arith in z)
          ∙ ap (λ m. offences_after part_rule (v ∷ j.heard) (at + (i + 1)) (drop m ns)) (let z : suc i ≡ i + 1 = omega arith in z);
      few = few;
      low = fit.0;
      parts_are =
          take_more_set parts i v here
          ∙ ap (λ xs. xs ++ v ∷ []) j.parts_are
          ∙ ap (λ x. take i ns ++ x ∷ []) (n.1 ∙ sym e)
          ∙ sym (take_more ns i 0 h);
      room = length-set parts i v ∙ j.room;
    }

-- if all numbers of the list have been tested without an error, the list has no error
pub ends : (at : ℕ) (ns : List ℕ) (i cells : ℕ) (last : Option ℕ) (parts : List ℕ) → Judging at ns i cells last parts → length ns ≤ i
    → first_offence (part_offences at ns) ≡ None
ends at ns i cells last parts j h = ap first_offence (j.rest_is ∙ ap (offences_after part_rule j.heard (at + i)) (drop_of_length-le ns h))

pub all_parts : (at : ℕ) (ns : List ℕ) (i cells : ℕ) (last : Option ℕ) (parts : List ℕ) → Judging at ns i cells last parts → length ns ≤ i → i ≤ length ns
    → take (length ns) parts ≡ ns
all_parts at ns i cells last parts j h k = grind (arith, common_steps)

pub counted : {A : Type 0} (f : A → List ℕ) (g : List ℕ → ℕ) (ws : List A) → length (map g (map f ws)) ≡ length ws
counted f g [] = refl
counted f g (w ∷ ws) = ap (λ n. suc n) (counted f g ws)
