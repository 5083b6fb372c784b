-- From a word that spells an expression, the builder makes the tree of this expression. A *phrase* is an expression as the grammar parses it, and a
-- *reading* is a state of the parser of phrases.
use Rattle.std.proofs.Common.{◌≡◌, ℕ, ◌+◌, ◌^◌, ◌<◌, ◌≤◌, ◌==◌, nat_lt, Bool, true, false, cond, List, [], ◌∷◌, ◌++◌, length, map, take, drop, get_or, refl, sym, ap, ◌∙◌, subst, append_assoc, arith, Option, Some, None}
use Rattle.std.specs.Prelude.{option_to_list}
use Rattle.std.proofs.lemmas.List.{map-append, take-append-drop}
use Rattle.std.proofs.lemmas.Bool.Decides.{nat_tests}
use Rattle.sym_model.specs.Expansion.{Basis}
use Rattle.sym_model.specs.Partition.{Falls, FallsFrom}
use Rattle.sym_model.specs.Expression.{number, fraction}
use Rattle.sym_model.specs.PrintedBlock.{decimal_value}
use Rattle.sym_model.specs.Phrase.{Phrase, numeral, ratio, tree}
use Rattle.sym_model.specs.ExpressionOffence.{Mark, value, denominator, entry, marks, entry_marks, is_wide, rises}
use Rattle.expression_laws.specs.LeftToRight.{Symbol, digit, plus_sign, minus_sign, star, slash, opens, closes, opens_list, closes_list, comma, letter_of, other, symbol, BeforeTerm, no_term, negating, adding, subtracting, BeforeFactor, no_factor, multiplying, Opened, outermost, inside, Piece, awaited, in_number, after_slash, in_denominator, after_letter, in_list, in_entry, closed, State, at, dead, step, start, phrases, found, is_live, after_factor, before_factor, in_list_step, join}
use Rattle.expression_laws.proofs.PhraseRuns.{Reading, read_on, read-append, found-spelled}
use Rattle.expression_laws.proofs.PhrasePrefixes.{commas, read-dead, symbol-codes}
use Rattle.expression_laws.proofs.PhraseMarks.{depth_of, term_begin, factor_begin, piece_begin, opened_marks, term_marks, factor_marks, piece_marks, state_marks, new_mark, last_value, marks-step, marks-found, MarksAre, entry_marks-next}
use Rattle.expression_reading.specs.Offences.{first_kind}
use Rattle.expression_reading.specs.ScanSteps.{capped, IsSoundDigit}
use Rattle.expression_reading.specs.Building.{Built, builds, AreEntries, IsFine, AreMild, IsBuildable}
use Rattle.expression_reading.proofs.ScanFacts.{IsByte, value-next, value-first}
use Rattle.expression_reading.proofs.ScanRuns.{read-more, sound-digit, byte-symbol, at-end}
use Rattle.expression_reading.proofs.FirstOffences.{small as not_wide}
use Rattle.sym_model.specs.Bounded.{AreAtMost}
use Rattle.std.proofs.lemmas.Bool.{ltb-false}

-- the result of the builder for a phrase: the tree of the phrase, and `true`, since it has no negative number and no denominator 0
abbrev pub tree_in : Phrase → Built
tree_in e = (tree e, true)

abbrev pub terms_state : BeforeTerm Phrase → BeforeTerm Built
terms_state no_term = no_term
terms_state negating = negating
terms_state (adding e) = adding (tree_in e)
terms_state (subtracting e) = subtracting (tree_in e)

abbrev pub factors_state : BeforeFactor Phrase → BeforeFactor Built
factors_state no_factor = no_factor
factors_state (multiplying e) = multiplying (tree_in e)

abbrev pub opened_state : Opened Phrase → Opened Built
opened_state outermost = outermost
opened_state (inside o t f) = inside (opened_state o) (terms_state t) (factors_state f)

abbrev pub piece_state : Piece Phrase (List ℕ) → Piece Built ℕ
piece_state awaited = awaited
piece_state (in_number ds) = in_number (capped (decimal_value ds))
piece_state (after_slash n) = after_slash (capped (decimal_value n))
piece_state (in_denominator n ds) = in_denominator (capped (decimal_value n)) (capped (decimal_value ds))
piece_state (after_letter basis) = after_letter basis
piece_state (in_list basis ws) = in_list basis (map decimal_value ws)
piece_state (in_entry basis ws ds) = in_entry basis (map decimal_value ws) (capped (decimal_value ds))
piece_state (closed e) = closed (tree_in e)

abbrev pub tree_state : Reading → State Built ℕ
tree_state dead = dead
tree_state (at p t f o) = at (piece_state p) (terms_state t) (factors_state f) (opened_state o)

join-state : (t : BeforeTerm Phrase) (f : BeforeFactor Phrase) (x : Phrase) → join builds (terms_state t) (factors_state f) (tree_in x) ≡ tree_in (join phrases t f x)
join-state no_term no_factor x = refl
join-state no_term (multiplying e) x = refl
join-state negating no_factor x = refl
join-state negating (multiplying e) x = refl
join-state (adding y) no_factor x = refl
join-state (adding y) (multiplying e) x = refl
join-state (subtracting y) no_factor x = refl
join-state (subtracting y) (multiplying e) x = refl

after_factor-state : (s : Symbol) (x : Phrase) (t : BeforeTerm Phrase) (f : BeforeFactor Phrase) (o : Opened Phrase)
    → after_factor builds (tree_in x) (terms_state t) (factors_state f) (opened_state o) s ≡ tree_state (after_factor phrases x t f o s)
after_factor-state star x t no_factor o = refl
after_factor-state star x t (multiplying e) o = refl
after_factor-state plus_sign x t f o = ap (λ y. at awaited (adding y) no_factor (opened_state o)) (join-state t f x)
after_factor-state minus_sign x t f o = ap (λ y. at awaited (subtracting y) no_factor (opened_state o)) (join-state t f x)
after_factor-state closes x t f (inside o t' f') =
    ap (λ y. at (closed y) (terms_state t') (factors_state f') (opened_state o)) (join-state t f x)
after_factor-state closes x t f outermost = refl
after_factor-state _ x t f o = refl

uncapped : (n : ℕ) → n < 2 ^ 127 → capped n ≡ n
uncapped n h = omega arith

first_false : (a : Bool) {A : Type 0} (k : A) (rest : Option A) → cond a (Some k) rest ≡ None → a ≡ false
first_false true k rest h = cc
first_false false k rest h = refl

rest_none : (a : Bool) {A : Type 0} (k : A) (rest : Option A) → cond a (Some k) rest ≡ None → rest ≡ None
rest_none true k rest h = cc
rest_none false k rest h = h

pub value-small : (n : ℕ) → first_kind (value n) ≡ None → n < 2 ^ 127
value-small n h = not_wide n (first_false (is_wide n) _ _ h)

pub denominator-small : (n : ℕ) → first_kind (denominator n) ≡ None → n < 2 ^ 127
denominator-small n h = not_wide n (first_false (is_wide n) _ _ h)

denominator-positive : (n : ℕ) → first_kind (denominator n) ≡ None → nat_lt 0 n ≡ true
denominator-positive n h =
    let zero : (n == 0) ≡ false = first_false (n == 0) _ _ (rest_none (is_wide n) _ _ h) in grind (arith, nat_tests)

record EntryIs (k : ℕ) (before : Option ℕ) (n : ℕ) : Type 0 where
  small : n < 2 ^ 127
  few : (k == 64) ≡ false
  falls : rises before n ≡ false

entry-is : (k : ℕ) (before : Option ℕ) (n : ℕ) → first_kind (entry k before n) ≡ None → EntryIs k before n
entry-is k before n h =
    let rest = rest_none (is_wide n) _ _ h in
    record {
      small = not_wide n (first_false (is_wide n) _ _ h);
      few = first_false (k == 64) _ _ rest;
      falls = first_false (rises before n) _ _ (rest_none (k == 64) _ _ rest);
    }

-- ---- mild marks (`AreMild`): no mark (a number, a denominator or a parenthesis, with the byte at which it begins) is an error, or a number of an
-- atom over 20

mild-left : (ms ns : List (ℕ × Mark)) → AreMild (ms ++ ns) → AreMild ms
mild-left [] ns h = tt
mild-left (m ∷ ms) ns h = (h.0, mild-left ms ns h.1)

mild-right : (ms ns : List (ℕ × Mark)) → AreMild (ms ++ ns) → AreMild ns
mild-right [] ns h = h
mild-right (m ∷ ms) ns h = mild-right ms ns h.1

mild-both : (ms ns : List (ℕ × Mark)) → AreMild ms → AreMild ns → AreMild (ms ++ ns)
mild-both [] ns h k = k
mild-both (m ∷ ms) ns h k = (h.0, mild-both ms ns h.1 k)

mild-piece : (p : Piece Phrase (List ℕ)) (t : BeforeTerm Phrase) (f : BeforeFactor Phrase) (o : Opened Phrase)
    → AreMild (state_marks (at p t f o)) → AreMild (piece_marks (depth_of o) (piece_begin t f o) p)
mild-piece p t f o h =
    mild-right (factor_marks (depth_of o) (factor_begin t o) f) _
    (mild-right (term_marks (depth_of o) (term_begin o) t) _ (mild-right (opened_marks o) _ h))

pub falls-next : (before : Option ℕ) (n : ℕ) (ns : List ℕ) → rises before n ≡ false → Falls (n ∷ ns) → FallsFrom before (n ∷ ns)
falls-next None n ns h f = f
falls-next (Some b) n ns h f = let le : n ≤ b = grind (arith, nat_tests) in (le, f)

pub falls-none : (before : Option ℕ) → FallsFrom before []
falls-none None = tt
falls-none (Some b) = tt

count-next : (k : ℕ) → (k == 64) ≡ false → k ≤ 64 → k + 1 ≤ 64
count-next k h l = grind (arith, nat_tests)

record Entries (k : ℕ) (before : Option ℕ) (ns : List ℕ) : Type 0 where
  falls : FallsFrom before ns
  few : k ≤ 64 → k + length ns ≤ 64
  low : AreAtMost 20 ns

entries-mild : (b k : ℕ) (before : Option ℕ) (ws : List (List ℕ)) → AreMild (entry_marks b k before ws) → Entries k before (map decimal_value ws)
entries-mild b k before [] h = record { falls = falls-none before; few = λ l. omega arith; low = tt }
entries-mild b k before (w ∷ ws) h =
    let is = entry-is k before (decimal_value w) h.0.0 in
    let rest = entries-mild (b + length w + 1) (k + 1) (Some (decimal_value w)) ws h.1 in
    record {
      falls = falls-next before (decimal_value w) (map decimal_value ws) is.falls rest.falls;
      few = λ l. omega (arith, rest.few (count-next k is.few l));
      low = (ltb-false 20 (decimal_value w) h.0.1, rest.low);
    }

-- the marks of the reading x are mild (no error, and no number of an atom over 20), and so is the mark that the symbol s
-- completes, if any
abbrev Mild : Reading → Symbol → Type 0
Mild x s = AreMild (state_marks x ++ option_to_list (new_mark x s))

new-mild : (x : Reading) (s : Symbol) → Mild x s → AreMild (option_to_list (new_mark x s))
new-mild x s h = mild-right (state_marks x) _ h

numeral-state : (s : Symbol) (ds : List ℕ) (t : BeforeTerm Phrase) (f : BeforeFactor Phrase) (o : Opened Phrase) → decimal_value ds < 2 ^ 127
    → after_factor builds (number (capped (decimal_value ds)), true) (terms_state t) (factors_state f) (opened_state o) s ≡ tree_state (after_factor phrases (numeral ds) t f o s)
numeral-state s ds t f o h =
    ap (λ n. after_factor builds (number n, true) (terms_state t) (factors_state f) (opened_state o) s) (uncapped (decimal_value ds) h)
    ∙ after_factor-state s (numeral ds) t f o

abbrev DenominatorIs : List ℕ → List ℕ → Type 0
DenominatorIs n ds = (decimal_value n < 2 ^ 127) × (decimal_value ds < 2 ^ 127) × (nat_lt 0 (decimal_value ds) ≡ true)

ratio-built : (n ds : List ℕ) → DenominatorIs n ds
    → builds.ratio_of (capped (decimal_value n)) (capped (decimal_value ds)) ≡ tree_in (ratio n ds)
ratio-built n ds h =
    ap (λ k. builds.ratio_of k (capped (decimal_value ds))) (uncapped (decimal_value n) h.0)
    ∙ ap (builds.ratio_of (decimal_value n)) (uncapped (decimal_value ds) h.1)
    ∙ ap (λ b. (fraction (decimal_value n) (decimal_value ds), b)) h.2

ratio-state : (s : Symbol) (n ds : List ℕ) (t : BeforeTerm Phrase) (f : BeforeFactor Phrase) (o : Opened Phrase) → DenominatorIs n ds
    → after_factor builds (builds.ratio_of (capped (decimal_value n)) (capped (decimal_value ds))) (terms_state t) (factors_state f) (opened_state o) s
    ≡ tree_state (after_factor phrases (ratio n ds) t f o s)
ratio-state s n ds t f o h =
    ap (λ x. after_factor builds x (terms_state t) (factors_state f) (opened_state o) s) (ratio-built n ds h)
    ∙ after_factor-state s (ratio n ds) t f o

denominator-is : (n ds : List ℕ) (t : BeforeTerm Phrase) (f : BeforeFactor Phrase) (o : Opened Phrase) (new : List (ℕ × Mark))
    → AreMild (state_marks (at (in_denominator n ds) t f o) ++ new) → first_kind (denominator (decimal_value ds)) ≡ None → DenominatorIs n ds
denominator-is n ds t f o new h k =
    let num = mild-piece (in_denominator n ds) t f o (mild-left (state_marks (at (in_denominator n ds) t f o)) new h) in
    (value-small (decimal_value n) num.0.0, denominator-small (decimal_value ds) k, denominator-positive (decimal_value ds) k)

entry-value : (ws : List (List ℕ)) (ds : List ℕ) → first_kind (entry (length ws) (last_value None ws) (decimal_value ds)) ≡ None → capped (decimal_value ds) ≡ decimal_value ds
entry-value ws ds h = uncapped (decimal_value ds) (entry-is (length ws) (last_value None ws) (decimal_value ds) h).small

entries-next : (ws : List (List ℕ)) (ds : List ℕ) → capped (decimal_value ds) ≡ decimal_value ds
    → map decimal_value ws ++ capped (decimal_value ds) ∷ [] ≡ map decimal_value (ws ++ ds ∷ [])
entries-next ws ds h = ap (λ n. map decimal_value ws ++ n ∷ []) h ∙ sym (map-append decimal_value ws (ds ∷ []))

number-step : (s : Symbol) (ds : List ℕ) (t : BeforeTerm Phrase) (f : BeforeFactor Phrase) (o : Opened Phrase) → Mild (at (in_number ds) t f o) s
    → step builds (tree_state (at (in_number ds) t f o)) s ≡ tree_state (step phrases (at (in_number ds) t f o) s)
number-step (digit c) ds t f o h = ap (λ n. at (in_number n) (terms_state t) (factors_state f) (opened_state o)) (value-next ds c)
number-step slash ds t f o h = refl
number-step star ds t f o h = numeral-state star ds t f o (value-small _ (new-mild (at (in_number ds) t f o) star h).0.0)
number-step plus_sign ds t f o h = numeral-state plus_sign ds t f o (value-small _ (new-mild (at (in_number ds) t f o) plus_sign h).0.0)
number-step minus_sign ds t f o h = numeral-state minus_sign ds t f o (value-small _ (new-mild (at (in_number ds) t f o) minus_sign h).0.0)
number-step closes ds t f o h = numeral-state closes ds t f o (value-small _ (new-mild (at (in_number ds) t f o) closes h).0.0)
number-step _ ds t f o h = refl

denominator-step : (s : Symbol) (n ds : List ℕ) (t : BeforeTerm Phrase) (f : BeforeFactor Phrase) (o : Opened Phrase) → Mild (at (in_denominator n ds) t f o) s
    → step builds (tree_state (at (in_denominator n ds) t f o)) s ≡ tree_state (step phrases (at (in_denominator n ds) t f o) s)
denominator-step (digit c) n ds t f o h =
    ap (λ k. at (in_denominator (capped (decimal_value n)) k) (terms_state t) (factors_state f) (opened_state o)) (value-next ds c)
denominator-step star n ds t f o h =
    ratio-state star n ds t f o (denominator-is n ds t f o (option_to_list (new_mark (at (in_denominator n ds) t f o) star)) h (new-mild (at (in_denominator n ds) t f o) star h).0.0)
denominator-step plus_sign n ds t f o h =
    ratio-state plus_sign n ds t f o (denominator-is n ds t f o (option_to_list (new_mark (at (in_denominator n ds) t f o) plus_sign)) h (new-mild (at (in_denominator n ds) t f o) plus_sign h).0.0)
denominator-step minus_sign n ds t f o h =
    ratio-state minus_sign n ds t f o (denominator-is n ds t f o (option_to_list (new_mark (at (in_denominator n ds) t f o) minus_sign)) h (new-mild (at (in_denominator n ds) t f o) minus_sign h).0.0)
denominator-step closes n ds t f o h =
    ratio-state closes n ds t f o (denominator-is n ds t f o (option_to_list (new_mark (at (in_denominator n ds) t f o) closes)) h (new-mild (at (in_denominator n ds) t f o) closes h).0.0)
denominator-step _ n ds t f o h = refl

before_factor-state : (s : Symbol) (t : BeforeTerm Phrase) (f : BeforeFactor Phrase) (o : Opened Phrase) → IsByte s
    → before_factor builds (terms_state t) (factors_state f) (opened_state o) s ≡ tree_state (before_factor phrases t f o s)
before_factor-state (digit c) t f o b = ap (λ n. at (in_number n) (terms_state t) (factors_state f) (opened_state o)) (value-first c b)
before_factor-state (letter_of basis) t f o b = refl
before_factor-state opens t f o b = refl
before_factor-state minus_sign no_term no_factor o b = refl
before_factor-state minus_sign no_term (multiplying e) o b = refl
before_factor-state minus_sign negating f o b = refl
before_factor-state minus_sign (adding e) f o b = refl
before_factor-state minus_sign (subtracting e) f o b = refl
before_factor-state _ t f o b = refl

list-state : (s : Symbol) (basis : Basis) (ws : List (List ℕ)) (t : BeforeTerm Phrase) (f : BeforeFactor Phrase) (o : Opened Phrase) → IsByte s
    → in_list_step builds basis (map decimal_value ws) (terms_state t) (factors_state f) (opened_state o) s ≡ tree_state (in_list_step phrases basis ws t f o s)
list-state (digit c) basis ws t f o b = ap (λ n. at (in_entry basis (map decimal_value ws) n) (terms_state t) (factors_state f) (opened_state o)) (value-first c b)
list-state closes_list basis [] t f o b = refl
list-state closes_list basis (w ∷ ws) t f o b = refl
list-state _ basis ws t f o b = refl

build-step : (s : Symbol) (p : Piece Phrase (List ℕ)) (t : BeforeTerm Phrase) (f : BeforeFactor Phrase) (o : Opened Phrase) → IsByte s → Mild (at p t f o) s
    → step builds (tree_state (at p t f o)) s ≡ tree_state (step phrases (at p t f o) s)
build-step s awaited t f o b h = before_factor-state s t f o b
build-step s (in_number ds) t f o b h = number-step s ds t f o h
build-step (digit c) (after_slash n) t f o b h =
    ap (λ k. at (in_denominator (capped (decimal_value n)) k) (terms_state t) (factors_state f) (opened_state o)) (value-first c b)
build-step _ (after_slash n) t f o b h = refl
build-step s (in_denominator n ds) t f o b h = denominator-step s n ds t f o h
build-step opens_list (after_letter basis) t f o b h = refl
build-step _ (after_letter basis) t f o b h = refl
build-step s (in_list basis ws) t f o b h = list-state s basis ws t f o b
build-step (digit c) (in_entry basis ws ds) t f o b h =
    ap (λ n. at (in_entry basis (map decimal_value ws) n) (terms_state t) (factors_state f) (opened_state o)) (value-next ds c)
build-step comma (in_entry basis ws ds) t f o b h =
    ap (λ ns. at (in_list basis ns) (terms_state t) (factors_state f) (opened_state o))
    (entries-next ws ds (entry-value ws ds (new-mild (at (in_entry basis ws ds) t f o) comma h).0.0))
build-step closes_list (in_entry basis ws ds) t f o b h =
    ap (λ ns. at (closed (builds.label_of basis ns)) (terms_state t) (factors_state f) (opened_state o))
    (entries-next ws ds (entry-value ws ds (new-mild (at (in_entry basis ws ds) t f o) closes_list h).0.0))
build-step _ (in_entry basis ws ds) t f o b h = refl
build-step s (closed x) t f o b h = after_factor-state s x t f o

entries-fine : (basis : Basis) (ws : List (List ℕ)) (ds : List ℕ) (t : BeforeTerm Phrase) (f : BeforeFactor Phrase) (o : Opened Phrase)
    → AreMild (state_marks (at (in_entry basis ws ds) t f o))
    → AreMild ((piece_begin t f o + 2 + length (commas ws), entry (length ws) (last_value None ws) (decimal_value ds)) ∷ [])
    → AreEntries (map decimal_value ws ++ capped (decimal_value ds) ∷ [])
entries-fine basis ws ds t f o h k =
    let b = piece_begin t f o + 2 in
    let all : AreMild (entry_marks b 0 None (ws ++ ds ∷ [])) =
    subst AreMild (sym (entry_marks-next b ws ds)) (mild-both (entry_marks b 0 None ws) _ (mild-piece (in_entry basis ws ds) t f o h) k) in
    let entries = entries-mild b 0 None (ws ++ ds ∷ []) all in
    subst AreEntries (sym (entries-next ws ds (entry-value ws ds k.0.0)))
    (record { falls = entries.falls; few = omega (arith, entries.few (omega arith)); low = entries.low })

pub fine : (s : Symbol) (p : Piece Phrase (List ℕ)) (t : BeforeTerm Phrase) (f : BeforeFactor Phrase) (o : Opened Phrase)
    → IsSoundDigit s → is_live (step phrases (at p t f o) s) ≡ true → Mild (at p t f o) s → IsFine (piece_state p) s
fine (digit c) p t f o d live h = d
fine opens (in_number ds) t f o d live h = cc
fine s (in_number ds) t f o d live h =
    omega (arith, value-small (decimal_value ds) (new-mild (at (in_number ds) t f o) s h).0.0)
fine opens (in_denominator n ds) t f o d live h = cc
fine s (in_denominator n ds) t f o d live h =
    let is = denominator-is n ds t f o (option_to_list (new_mark (at (in_denominator n ds) t f o) s)) h (new-mild (at (in_denominator n ds) t f o) s h).0.0 in
    (omega (arith, is.0), omega (arith, is.1))
fine opens (in_entry basis ws ds) t f o d live h = cc
fine s (in_entry basis ws ds) t f o d live h =
    entries-fine basis ws ds t f o (mild-left (state_marks (at (in_entry basis ws ds) t f o)) _ h) (new-mild (at (in_entry basis ws ds) t f o) s h)
fine s p t f o d live h = tt

dead-finds : (v : List ℕ) (e : Phrase) {A : Type 0} → found phrases (read_on v dead) ≡ Some e → A
dead-finds v e h = let d = ap (found phrases) (read-dead v) in cc

abbrev Grows : Reading → Phrase → Type 0
Grows x e = (more : List (ℕ × Mark)) × (marks 0 0 e ≡ state_marks x ++ more)

grows-step : (ms new : List (ℕ × Mark)) (y : Reading) (v : List ℕ) (e : Phrase) → MarksAre (ms ++ new) y → found phrases (read_on v y) ≡ Some e → Grows y e
    → (more : List (ℕ × Mark)) × (marks 0 0 e ≡ ms ++ more)
grows-step ms new dead v e k h g = dead-finds v e h
grows-step ms new (at p t f o) v e k h g = (new ++ g.0, g.1 ∙ ap (λ l. l ++ g.0) k ∙ append_assoc ms new g.0)

grows : (v : List ℕ) (x : Reading) (e : Phrase) → found phrases (read_on v x) ≡ Some e → Grows x e
grows [] x e h = (option_to_list (new_mark x other), marks-found x e h)
grows (b ∷ v) x e h =
    grows-step (state_marks x) (option_to_list (new_mark x (symbol b))) (step phrases x (symbol b)) v e (marks-step (symbol b) x) h
    (grows v (step phrases x (symbol b)) e h)

live-finds : (v : List ℕ) (y : Reading) (e : Phrase) → found phrases (read_on v y) ≡ Some e → is_live y ≡ true
live-finds v dead e h = dead-finds v e h
live-finds v (at p t f o) e h = refl

mild-step : (ms : List (ℕ × Mark)) (y : Reading) (e : Phrase) → is_live y ≡ true → MarksAre ms y → Grows y e → AreMild (marks 0 0 e) → AreMild ms
mild-step ms dead e live k g h = cc
mild-step ms (at p t f o) e live k g h = subst AreMild k (mild-left (state_marks (at p t f o)) g.0 (subst AreMild g.1 h))

rest-found : (w : List ℕ) (i : ℕ) (e : Phrase) → i < length w → found phrases (read_on w start) ≡ Some e
    → found phrases (read_on (drop (i + 1) w) (step phrases (read_on (take i w) start) (symbol (get_or w i 0)))) ≡ Some e
rest-found w i e h k =
    ap (λ x. found phrases (read_on (drop (i + 1) w) x)) (sym (read-more w i (get_or w i 0) h refl))
    ∙ ap (found phrases) (sym (read-append (take (i + 1) w) (drop (i + 1) w) start))
    ∙ ap (λ v. found phrases (read_on v start)) (take-append-drop (i + 1) w) ∙ k

-- at the byte i of the word w, the next step of the reading is not dead and its marks are mild (no error, and no number of an atom
-- over 20)
pub record StepIs (w : List ℕ) (i : ℕ) : Type 0 where
  pub live : is_live (step phrases (read_on (take i w) start) (symbol (get_or w i 0))) ≡ true
  pub mild : AreMild (state_marks (read_on (take i w) start) ++ option_to_list (new_mark (read_on (take i w) start) (symbol (get_or w i 0))))

pub step-is : (w : List ℕ) (i : ℕ) → i < length w → IsBuildable w → StepIs w i
step-is w i h b =
    let x = read_on (take i w) start in
    let s = symbol (get_or w i 0) in
    let rest = rest-found w i b.0 h (found-spelled w b.0 b.1) in
    let live = live-finds (drop (i + 1) w) (step phrases x s) b.0 rest in
    record {
      live = live;
      mild = mild-step _ (step phrases x s) b.0 live (marks-step s x) (grows (drop (i + 1) w) (step phrases x s) b.0 rest) b.2;
    }

part-fine : (s : Symbol) (x : Reading) (q : Piece Built ℕ) (t : BeforeTerm Built) (f : BeforeFactor Built) (o : Opened Built)
    → at q t f o ≡ tree_state x → IsSoundDigit s → is_live (step phrases x s) ≡ true → AreMild (state_marks x ++ option_to_list (new_mark x s)) → IsFine q s
part-fine s dead q t f o e d live h = cc
part-fine s (at p t' f' o') q t f o e d live h =
    let same : piece_state p ≡ q = cc in subst (λ y. IsFine y s) same (fine s p t' f' o' d live h)

pub takes-fine : (w : List ℕ) (i : ℕ) (s : Symbol) (q : Piece Built ℕ) (t : BeforeTerm Built) (f : BeforeFactor Built) (o : Opened Built) → i < length w → IsBuildable w
    → s ≡ symbol (get_or w i 0) → at q t f o ≡ tree_state (read_on (take i w) start) → IsFine q s
takes-fine w i s q t f o h b e k =
    let is = step-is w i h b in
    subst (IsFine q) (sym e)
    (part-fine (symbol (get_or w i 0)) (read_on (take i w) start) q t f o k (sound-digit (get_or w i 0)) is.live is.mild)

state-step : (s : Symbol) (x : Reading) → IsByte s → is_live (step phrases x s) ≡ true → AreMild (state_marks x ++ option_to_list (new_mark x s))
    → step builds (tree_state x) s ≡ tree_state (step phrases x s)
state-step s dead b live h = cc
state-step s (at p t f o) b live h = build-step s p t f o b h

byte-of : (w : List ℕ) (i : ℕ) → get_or w i 0 < 256 → IsByte (symbol (get_or w i 0))
byte-of w i h = byte-symbol (get_or w i 0) (symbol (get_or w i 0)) h (symbol-codes (get_or w i 0))

pub next-state : (w : List ℕ) (i : ℕ) (z : State Built ℕ) → i < length w → get_or w i 0 < 256 → IsBuildable w → z ≡ tree_state (read_on (take i w) start)
    → step builds z (symbol (get_or w i 0)) ≡ tree_state (read_on (take (i + 1) w) start)
next-state w i z h small b k =
    let is = step-is w i h b in
    ap (λ y. step builds y (symbol (get_or w i 0))) k
    ∙ state-step (symbol (get_or w i 0)) (read_on (take i w) start) (byte-of w i small) is.live is.mild
    ∙ ap tree_state (sym (read-more w i (get_or w i 0) h refl))

live-state : (x : Reading) → is_live x ≡ true → is_live (tree_state x) ≡ true
live-state dead h = h
live-state (at p t f o) h = refl

-- the builder can read each byte of an expression without an error: its step does not lead to `dead`
pub stays-live : (w : List ℕ) (i : ℕ) (z : State Built ℕ) → i < length w → get_or w i 0 < 256 → IsBuildable w → z ≡ tree_state (read_on (take i w) start)
    → is_live (step builds z (symbol (get_or w i 0))) ≡ true
stays-live w i z h small b k =
    ap is_live (next-state w i z h small b k)
    ∙ live-state (read_on (take (i + 1) w) start) (ap is_live (read-more w i (get_or w i 0) h refl) ∙ (step-is w i h b).live)

whole-mild : (w : List ℕ) (b : IsBuildable w) → AreMild (state_marks (read_on w start) ++ option_to_list (new_mark (read_on w start) other))
whole-mild w b = subst AreMild (marks-found (read_on w start) b.0 (found-spelled w b.0 b.1)) b.2

end-fine : (p : Piece Phrase (List ℕ)) (t : BeforeTerm Phrase) (f : BeforeFactor Phrase) (o : Opened Phrase) (e : Phrase)
    → found phrases (at p t f o) ≡ Some e → Mild (at p t f o) other → IsFine (piece_state p) other
end-fine p t f (inside o t' f') e h m = cc
end-fine awaited t f outermost e h m = tt
end-fine (in_number ds) t f outermost e h m = omega (arith, value-small (decimal_value ds) (new-mild (at (in_number ds) t f outermost) other m).0.0)
end-fine (after_slash n) t f outermost e h m = tt
end-fine (in_denominator n ds) t f outermost e h m =
    let is = denominator-is n ds t f outermost (option_to_list (new_mark (at (in_denominator n ds) t f outermost) other)) m (new-mild (at (in_denominator n ds) t f outermost) other m).0.0 in
    (omega (arith, is.0), omega (arith, is.1))
end-fine (after_letter basis) t f outermost e h m = tt
end-fine (in_list basis ws) t f outermost e h m = tt
end-fine (in_entry basis ws ds) t f outermost e h m = cc
end-fine (closed x) t f outermost e h m = tt

part-end : (x : Reading) (e : Phrase) (q : Piece Built ℕ) (t : BeforeTerm Built) (f : BeforeFactor Built) (o : Opened Built)
    → at q t f o ≡ tree_state x → found phrases x ≡ Some e → Mild x other → IsFine q other
part-end dead e q t f o k h m = cc
part-end (at p t' f' o') e q t f o k h m =
    let same : piece_state p ≡ q = cc k in subst (λ y. IsFine y other) same (end-fine p t' f' o' e h m)

pub ends-fine : (w : List ℕ) (i : ℕ) (q : Piece Built ℕ) (t : BeforeTerm Built) (f : BeforeFactor Built) (o : Opened Built) → i ≡ length w → IsBuildable w
    → at q t f o ≡ tree_state (read_on (take i w) start) → IsFine q other
ends-fine w i q t f o h b k =
    part-end (read_on w start) b.0 q t f o (k ∙ ap tree_state (at-end w i h)) (found-spelled w b.0 b.1) (whole-mild w b)

found-built : (x : Reading) (e : Phrase) → found phrases x ≡ Some e → Mild x other → found builds (tree_state x) ≡ Some (tree_in e)
found-built dead e h m = cc
found-built (at p t f (inside o t' f')) e h m = cc
found-built (at (in_number ds) t f outermost) e h m =
    let is : join phrases t f (numeral ds) ≡ e = cc h in
    ap (λ n. Some (join builds (terms_state t) (factors_state f) (number n, true))) (uncapped _ (value-small (decimal_value ds) (new-mild (at (in_number ds) t f outermost) other m).0.0))
    ∙ ap Some (join-state t f (numeral ds) ∙ ap tree_in is)
found-built (at (in_denominator n ds) t f outermost) e h m =
    let is : join phrases t f (ratio n ds) ≡ e = cc h in
    let den = denominator-is n ds t f outermost (option_to_list (new_mark (at (in_denominator n ds) t f outermost) other)) m (new-mild (at (in_denominator n ds) t f outermost) other m).0.0 in
    ap (λ x. Some (join builds (terms_state t) (factors_state f) x)) (ratio-built n ds den)
    ∙ ap Some (join-state t f (ratio n ds) ∙ ap tree_in is)
found-built (at (closed x) t f outermost) e h m =
    let is : join phrases t f x ≡ e = cc h in ap Some (join-state t f x ∙ ap tree_in is)
found-built (at awaited t f outermost) e h m = cc
found-built (at (after_slash n) t f outermost) e h m = cc
found-built (at (after_letter basis) t f outermost) e h m = cc
found-built (at (in_list basis ws) t f outermost) e h m = cc
found-built (at (in_entry basis ws ds) t f outermost) e h m = cc

pub whole-built : (w : List ℕ) (i : ℕ) (z : State Built ℕ) (b : IsBuildable w) → i ≡ length w → z ≡ tree_state (read_on (take i w) start)
    → found builds z ≡ Some (tree_in b.0)
whole-built w i z b h k =
    ap (found builds) (k ∙ ap tree_state (at-end w i h))
    ∙ found-built (read_on w start) b.0 (found-spelled w b.0 b.1) (whole-mild w b)
