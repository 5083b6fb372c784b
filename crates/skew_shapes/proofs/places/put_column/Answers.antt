use Rattle.std.proofs.Common.{◌≡◌, ℕ, true, false, ◌+◌, ◌-◌, ◌≤◌, ◌++◌, List, [], ◌∷◌, length, drop, rules}
use Rattle.std.proofs.Common.{get_or, ap, sym, subst, ◌∙◌, arith, refl, Some, None}
use Rattle.std.specs.List.{slice_get}
use Rattle.std.proofs.Math.ListN.{set}
use Rattle.std.proofs.lemmas.List.{drop-drop, length-drop, length-append, get_or-drop, nil_from_length}
use Rattle.sym_model.specs.Partition.{columns}
use Rattle.skew_shapes.specs.Rows.{HasPlaces, HoldsLetters, cells_above, cells_right_of, reaches}
use Rattle.skew_shapes.proofs.CellReadings.{above-reached, above-passed, letters-put, letters-spent}
use Rattle.skew_shapes.proofs.CellReadings.{letters-passed, right-more}
use Rattle.skew_shapes.proofs.places.put_column.Goals as goal
use Rattle.std.proofs.lemmas.Option.{get_or_from_slice_get}

more_done :
    (outer inner : List ℕ) (j k : ℕ) → reaches outer inner j (k + 1) ≡ true
    → length (cells_right_of outer inner j ++ cells_above outer inner j (k + 1))
    ≡ length (cells_right_of outer inner j ++ cells_above outer inner j k) + 1
more_done outer inner j k r = search (rules, above-reached, length-append)

first_letter : (w : List ℕ) (n x : ℕ) → slice_get (drop n w) 0 ≡ Some x → x ≡ get_or w n 0
first_letter w n x e =
    let same : n + 0 ≡ n = omega arith in
    sym (get_or_from_slice_get (drop n w) 0 x 0 e) ∙ get_or-drop n w 0 0 ∙ ap (λ i. get_or w i 0) same

none_is : (xs : List ℕ) → slice_get xs 0 ≡ None → length xs ≡ 0
none_is [] e = refl
none_is (a ∷ xs) e = absurd (cc)

no_letter : (w : List ℕ) (n : ℕ) → slice_get (drop n w) 0 ≡ None → length w ≤ n
no_letter w n e = omega (arith, none_is (drop n w) e, length-drop n w)

drop_past : (w : List ℕ) (n m : ℕ) → length w ≤ n → n ≤ m → drop n w ≡ drop m w
drop_past w n m h l =
    nil_from_length (drop n w) (omega (arith, length-drop n w))
    ∙ sym (nil_from_length (drop m w) (omega (arith, length-drop m w)))

pub loop-row-preserved-then-not-has_cell : goal.loop-row-preserved-then-not-has_cell
loop-row-preserved-then-not-has_cell c = search (rules, above-passed, letters-passed)

pub loop-row-preserved-in_default : goal.loop-row-preserved-in_default
loop-row-preserved-in_default c =
    let outer = c.args.outer.now in
    let inner = c.args.inner.now in
    let done = cells_right_of c.args.outer.now c.args.inner.now c.args.column ++ cells_above
    c.args.outer.now c.args.inner.now c.args.column c.loop-row.row in
    let reached : reaches c.args.outer.now c.args.inner.now c.args.column (c.loop-row.row + 1)
    ≡ true =
    sym c.has_cell.ensures ∙ c.if-not-has_cell.false in
    let more = more_done outer inner c.args.column c.loop-row.row reached in
    let spent : length c.args.word.now ≤ length done =
    no_letter c.args.word.now (length done)
    (sym (ap (λ xs. slice_get xs 0) c.loop-row.invariant.rest) ∙ sym c.first.ensures.value
    ∙ sym c.copied.ensures ∙ c.in_default.is) in
    record {
      rest =
          c.loop-row.invariant.rest ∙ drop_past c.args.word.now (length done) _ spent
          (omega (arith, more));
      letters =
          letters-spent c.args.starts.now c.loop-row.numbers outer inner c.args.word.now
          c.args.column c.loop-row.row reached
          c.loop-row.invariant.letters spent;
    }

pub loop-row-preserved : goal.loop-row-preserved
loop-row-preserved c =
    let outer = c.args.outer.now in
    let inner = c.args.inner.now in
    let done = cells_right_of c.args.outer.now c.args.inner.now c.args.column ++ cells_above
    c.args.outer.now c.args.inner.now c.args.column c.loop-row.row in
    let reached : reaches c.args.outer.now c.args.inner.now c.args.column (c.loop-row.row + 1)
    ≡ true =
    sym c.has_cell.ensures ∙ c.if-not-has_cell.false in
    let more = more_done outer inner c.args.column c.loop-row.row reached in
    let letter : c.in-Some.letter ≡ get_or c.args.word.now (length done) 0 =
    first_letter c.args.word.now (length done) c.in-Some.letter
    (sym (ap (λ xs. slice_get xs 0) c.loop-row.invariant.rest) ∙ sym c.first.ensures.value
    ∙ sym c.copied.ensures ∙ c.in-Some.is) in
    let places : HasPlaces c.args.starts.now c.args.outer.now (length c.loop-row.numbers) =
    subst (HasPlaces c.args.starts.now outer) (sym c.loop-row.auto.numbers) c.requires.places in
    record {
      rest =
          c.without_first-rest.ensures ∙ ap (drop 1) c.loop-row.invariant.rest ∙ drop-drop 1
          (length done) c.args.word.now
          ∙ ap (λ n. drop n c.args.word.now) (omega (arith, more));
      letters =
          let put = letters-put c.args.starts.now c.loop-row.numbers outer inner c.args.word.now
          c.args.column c.loop-row.row c.in-Some.letter
          places reached c.loop-row.invariant.letters letter in
          subst (λ n. HoldsLetters c.args.starts.now (set c.loop-row.numbers n c.in-Some.letter)
          outer inner (cells_right_of outer inner c.args.column ++ cells_above outer inner
          c.args.column (c.loop-row.row + 1)) c.args.word.now)
          (sym c.place.ensures) put;
    }

all_rows :
    (outer inner : List ℕ) (j k : ℕ) → 1 ≤ j → j ≤ columns outer → k ≡ length outer
    → cells_right_of outer inner j ++ cells_above outer inner j k ≡ cells_right_of outer inner
    (j - 1)
all_rows outer inner j k h l e = search (rules, right-more)

pub returns-clause-rest : goal.returns-clause-rest
returns-clause-rest c = search (rules, all_rows)

pub returns-clause-letters : goal.returns-clause-letters
returns-clause-letters c = search (rules, all_rows)
