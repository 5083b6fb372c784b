-- The scan of a word to its end, or to its first byte that is invalid.
use Rattle.std.proofs.Common.{◌≡◌, ℕ, ◌+◌, ◌^◌, ◌<◌, ◌≤◌, ◌==◌, Bool, true, false, ◌&&◌, List, [], ◌∷◌, ◌++◌, length, length-append, take, drop, get_or, refl, sym, ap, ◌∙◌, subst, add-one, arith, Option, Some, None, option_map, Ok, Err, ◌⊎◌, inl, inr, ⊎_elim}
use Rattle.std.specs.Prelude.{option_to_list, is_some}
use Rattle.std.proofs.Math.Dec.{eqb-suc-zero}
use Rattle.std.proofs.lemmas.List.{take_more, length-take, take-append-drop, take-take}
use Rattle.std.proofs.Math.Seq.{take-length}
use Rattle.std.proofs.lemmas.Bool.{cases_lt}
use Rattle.sym_model.specs.Phrase.{Phrase, SpellsPhrase, BeginsExpression}
use Rattle.sym_model.specs.ExpressionOffence.{marks}
use Rattle.expression_laws.specs.LeftToRight.{Symbol, digit, other, symbol, BeforeTerm, no_term, negating, adding, subtracting, BeforeFactor, no_factor, multiplying, Opened, outermost, inside, Piece, awaited, in_number, after_slash, in_denominator, after_letter, in_list, in_entry, closed, at, dead, step, start, phrases, found, is_live}
use Rattle.expression_laws.proofs.PhraseRuns.{Reading, read_on, read-append, found-spelled}
use Rattle.expression_laws.proofs.PhrasePrefixes.{written, written_opened, commas, Continues, read-written, read-dead, symbol-codes, Codes, begins-from_live, live-from_begins, spells-from_found}
use Rattle.expression_laws.proofs.PhraseMarks.{depth_of, state_marks, new_mark, marks-step, marks-found, MarksAre}
use Rattle.sym_model.specs.Expansion.{Basis}
use Rattle.expression_reading.specs.declared.scan.Scan.{Scan}
use Rattle.expression_reading.specs.declared.scan.Mode.{Mode}
use Rattle.expression_reading.specs.ScanSteps.{IsSoundDigit, CanCount, mode_after, depth_after, number_mark, mark_before, Sees, StepsTo, has_factor, is_whole, IsScanned}
use Rattle.expression_reading.proofs.ScanFacts.{mode_of, Agrees, agrees, IsByte, same-mark, piece-mark, SameMark, plain, Finds, finds-next}

none-spelled : (w : List ℕ) (phrase : Phrase) → read_on w start ≡ dead → SpellsPhrase w phrase → ⊥
none-spelled w phrase d h = let e = ap (found phrases) (sym d) ∙ found-spelled w phrase h in cc

-- the state is not `dead`; the scan s has the mode and the depth of the state, and s has recorded the first error at the marks of the state
abbrev pub Keeps : Scan → Reading → Type 0
Keeps s dead = ⊥
Keeps s (at p t f o) = (s.mode ≡ mode_of p t f o) × (s.depth ≡ depth_of o) × Finds s (state_marks (at p t f o))

pub read-more : (w : List ℕ) (i b : ℕ) → i < length w → b ≡ get_or w i 0 → read_on (take (i + 1) w) start ≡ step phrases (read_on (take i w) start) (symbol b)
read-more w i b h e =
    ap (λ v. read_on v start) (take_more w i 0 h)
    ∙ read-append (take i w) (get_or w i 0 ∷ []) start
    ∙ ap (λ x. step phrases (read_on (take i w) start) (symbol x)) (sym e)

written-so_far : (w : List ℕ) → Continues w (read_on w start)
written-so_far w = read-written w start (tt, tt, tt, tt)

pub byte-symbol : (b : ℕ) (s : Symbol) → b < 256 → Codes b s → IsByte s
byte-symbol b (digit c) h k = omega (arith, k.0)
byte-symbol b _ h k = tt

sound-symbol : (b : ℕ) (s : Symbol) → Codes b s → IsSoundDigit s
sound-symbol b (digit c) k = omega (arith, k.0, k.1.0)
sound-symbol b _ k = tt

pub sound-digit : (b : ℕ) → IsSoundDigit (symbol b)
sound-digit b = sound-symbol b (symbol b) (symbol-codes b)

agrees-kept : (s u : Scan) (k : ℕ) (y : Symbol) (p : Piece Phrase (List ℕ)) (t : BeforeTerm Phrase) (f : BeforeFactor Phrase) (o : Opened Phrase)
    → length (written (at p t f o)) ≡ k → IsByte y → Keeps s (at p t f o) → StepsTo s k y (Some u)
    → Agrees (Some u.mode) (Some u.depth) (step phrases (at p t f o) y)
agrees-kept s u k y p t f o h b keep steps =
    let z = step phrases (at p t f o) y in
    let modes : mode_after (mode_of p t f o) (length (written (at p t f o))) y ≡ Some u.mode =
    ap (λ m. mode_after m (length (written (at p t f o))) y) (sym keep.0) ∙ ap (λ n. mode_after s.mode n y) h ∙ steps.0 in
    let depths : depth_after (depth_of o) y ≡ Some u.depth = ap (λ d. depth_after d y) (sym keep.1) ∙ steps.1 in
    subst (λ m. Agrees m (Some u.depth) z) modes
    (subst (λ d. Agrees (mode_after (mode_of p t f o) (length (written (at p t f o))) y) d z) depths (agrees y p t f o b))

same-kept : (s : Scan) (k : ℕ) (y : Symbol) (p : Piece Phrase (List ℕ)) (t : BeforeTerm Phrase) (f : BeforeFactor Phrase) (o : Opened Phrase)
    → length (written (at p t f o)) ≡ k → Keeps s (at p t f o) → is_live (step phrases (at p t f o) y) ≡ true
    → SameMark (mark_before s.mode s.depth k y) (new_mark (at p t f o) y)
same-kept s k y p t f o h keep live =
    let m : mark_before s.mode s.depth k y ≡ mark_before (mode_of p t f o) (depth_of o) (length (written (at p t f o))) y =
    ap (λ x. mark_before x s.depth k y) keep.0 ∙ ap (λ d. mark_before (mode_of p t f o) d k y) keep.1
    ∙ ap (λ n. mark_before (mode_of p t f o) (depth_of o) n y) (sym h) in
    ap (option_map plain) m ∙ same-mark y p t f o live

stepped : (s u : Scan) (k : ℕ) (y : Symbol) (p : Piece Phrase (List ℕ)) (t : BeforeTerm Phrase) (f : BeforeFactor Phrase) (o : Opened Phrase) (z : Reading)
    → step phrases (at p t f o) y ≡ z → length (written (at p t f o)) ≡ k → IsByte y
    → Keeps s (at p t f o) → StepsTo s k y (Some u) → Keeps u z
stepped s u k y p t f o dead e h b keep steps =
    subst (λ x. Agrees (Some u.mode) (Some u.depth) x) e (agrees-kept s u k y p t f o h b keep steps)
stepped s u k y p t f o (at p' t' f' o') e h b keep steps =
    let agree = subst (λ x. Agrees (Some u.mode) (Some u.depth) x) e (agrees-kept s u k y p t f o h b keep steps) in
    let ms = state_marks (at p t f o) ++ option_to_list (new_mark (at p t f o) y) in
    let is : state_marks (at p' t' f' o') ≡ ms = subst (MarksAre ms) e (marks-step y (at p t f o)) in
    let live : is_live (step phrases (at p t f o) y) ≡ true = ap is_live e in (
      agree.0,
      agree.1,
      subst (Finds u) (sym is)
          (finds-next s u (mark_before s.mode s.depth k y) (new_mark (at p t f o) y) (state_marks (at p t f o))
          (same-kept s k y p t f o h keep live) keep.2 steps.2),
    )

length-so_far : (w : List ℕ) (i : ℕ) (x : Reading) → i < length w → Continues (take i w) x → is_live x ≡ true → length (written x) ≡ i
length-so_far w i dead h c l = cc
length-so_far w i (at p t f o) h c l = ap length c.0 ∙ length-take i w ∙ omega arith

kept-step : (w : List ℕ) (i b : ℕ) (s u : Scan) (x : Reading) → i < length w → b < 256 → Continues (take i w) x → Keeps s x → StepsTo s i (symbol b) (Some u)
    → Keeps u (step phrases x (symbol b))
kept-step w i b s u dead h small c keep steps = absurd keep
kept-step w i b s u (at p t f o) h small c keep steps =
    stepped s u i (symbol b) p t f o (step phrases (at p t f o) (symbol b)) refl
    (length-so_far w i (at p t f o) h c refl) (byte-symbol b (symbol b) small (symbol-codes b)) keep steps

pub keeps-step : (w : List ℕ) (i b : ℕ) (s u : Scan) → i < length w → b ≡ get_or w i 0 → b < 256 → Keeps s (read_on (take i w) start) → StepsTo s i (symbol b) (Some u)
    → Keeps u (read_on (take (i + 1) w) start)
keeps-step w i b s u h e small keep steps =
    subst (Keeps u) (sym (read-more w i b h e))
    (kept-step w i b s u (read_on (take i w) start) h small (written-so_far (take i w)) keep steps)

agrees-fault : (m : Option Mode) (d : Option ℕ) (z : Reading) → (m ≡ None) ⊎ (d ≡ None) → Agrees m d z → z ≡ dead
agrees-fault None d z h a = a
agrees-fault (Some m) None z h a = a
agrees-fault (Some m) (Some d) z (inl e) a = cc
agrees-fault (Some m) (Some d) z (inr e) a = cc

fault : (w : List ℕ) (i b : ℕ) (s : Scan) (x : Reading) → i < length w → b < 256 → Continues (take i w) x → Keeps s x → StepsTo s i (symbol b) None
    → step phrases x (symbol b) ≡ dead
fault w i b s dead h small c keep steps = absurd keep
fault w i b s (at p t f o) h small c keep steps =
    let l = length-so_far w i (at p t f o) h c refl in
    let y = symbol b in
    agrees-fault (mode_after (mode_of p t f o) (length (written (at p t f o))) y) (depth_after (depth_of o) y) (step phrases (at p t f o) y)
    (⊎_elim
    (λ e. inl (ap (λ m. mode_after m (length (written (at p t f o))) y) (sym keep.0) ∙ ap (λ n. mode_after s.mode n y) l ∙ e))
    (λ e. inr (ap (λ d. depth_after d y) (sym keep.1) ∙ e))
    steps)
    (agrees y p t f o (byte-symbol b y small (symbol-codes b)))

depth-within : (o : Opened Phrase) → depth_of o ≤ length (written_opened o)
depth-within outermost = omega arith
depth-within (inside o t f) = simp length-append (omega (arith, depth-within o))

count-within : (ws : List (List ℕ)) → length ws ≤ length (commas ws)
count-within [] = omega arith
count-within (w ∷ ws) = simp length-append (omega (arith, count-within ws))

entry-within : (basis : Basis) (ws : List (List ℕ)) (ds : List ℕ) (t : BeforeTerm Phrase) (f : BeforeFactor Phrase) (o : Opened Phrase)
    → length ws ≤ length (written (at (in_entry basis ws ds) t f o))
entry-within basis ws ds t f o = simp length-append (omega (arith, count-within ws))

state-within : (p : Piece Phrase (List ℕ)) (t : BeforeTerm Phrase) (f : BeforeFactor Phrase) (o : Opened Phrase) → depth_of o ≤ length (written (at p t f o))
state-within p t f o = simp length-append (omega (arith, depth-within o))

mode-room : (p : Piece Phrase (List ℕ)) (t : BeforeTerm Phrase) (f : BeforeFactor Phrase) (o : Opened Phrase) → length (written (at p t f o)) + 1 < 2 ^ 64 → CanCount (mode_of p t f o)
mode-room awaited no_term no_factor o h = tt
mode-room awaited no_term (multiplying x) o h = tt
mode-room awaited negating f o h = tt
mode-room awaited (adding x) f o h = tt
mode-room awaited (subtracting x) f o h = tt
mode-room (in_entry basis ws ds) t f o h = omega (arith, h, entry-within basis ws ds t f o)
mode-room (in_number ds) t f o h = tt
mode-room (after_slash n) t f o h = tt
mode-room (in_denominator n ds) t f o h = tt
mode-room (after_letter basis) t f o h = tt
mode-room (in_list basis ws) t f o h = tt
mode-room (closed x) t f o h = tt

kept-room : (w : List ℕ) (i : ℕ) (s : Scan) (x : Reading) → i < length w → length w < 2 ^ 64 → Continues (take i w) x → Keeps s x → CanCount s.mode × (s.depth + 1 < 2 ^ 64)
kept-room w i s dead h small c keep = absurd keep
kept-room w i s (at p t f o) h small c keep =
    let l = length-so_far w i (at p t f o) h c refl in
    (subst CanCount (sym keep.0) (mode-room p t f o (omega arith)), omega (arith, keep.1, state-within p t f o))

pub room : (w : List ℕ) (i : ℕ) (s : Scan) → i < length w → length w < 2 ^ 64 → Keeps s (read_on (take i w) start) → CanCount s.mode × (s.depth + 1 < 2 ^ 64)
room w i s h small keep = kept-room w i s (read_on (take i w) start) h small (written-so_far (take i w)) keep

live-kept : (s : Scan) (x : Reading) → Keeps s x → is_live x ≡ true
live-kept s dead keep = absurd keep
live-kept s (at p t f o) keep = refl

not_live : (x : Reading) → x ≡ dead → is_live x ≡ true → ⊥
not_live x e l = let d = ap is_live e in cc

split-take : (w : List ℕ) (i j : ℕ) → i < j → j ≤ length w → take j w ≡ take (i + 1) w ++ drop (i + 1) (take j w)
split-take w i j h k = sym (take-append-drop (i + 1) (take j w)) ∙ ap (λ v. v ++ drop (i + 1) (take j w)) (take-take (i + 1) j w (omega arith))

dead-after : (w : List ℕ) (i j : ℕ) → read_on (take (i + 1) w) start ≡ dead → i < j → j ≤ length w → read_on (take j w) start ≡ dead
dead-after w i j e h k =
    ap (λ v. read_on v start) (split-take w i j h k)
    ∙ read-append (take (i + 1) w) (drop (i + 1) (take j w)) start
    ∙ ap (read_on (drop (i + 1) (take j w))) e ∙ read-dead (drop (i + 1) (take j w))

pub fault-scanned : (w : List ℕ) (i b : ℕ) (s : Scan) → i < length w → b ≡ get_or w i 0 → b < 256 → Keeps s (read_on (take i w) start) → StepsTo s i (symbol b) None
    → IsScanned w (Err i)
fault-scanned w i b s h e small keep steps =
    let d : read_on (take (i + 1) w) start ≡ dead =
    read-more w i b h e ∙ fault w i b s (read_on (take i w) start) h small (written-so_far (take i w)) keep steps in
    let all : read_on w start ≡ dead =
    ap (λ v. read_on v start) (sym (take-length w)) ∙ dead-after w i (length w) d h (omega arith) in (
      (λ phrase k. none-spelled w phrase all k),
      record {
        within = omega arith;
        begins = begins-from_live (take i w) (live-kept s (read_on (take i w) start) keep);
        longest = λ j k begins.
            ⊎_elim
            (λ after. absurd (not_live (read_on (take j w) start) (dead-after w i j d after k) (live-from_begins (take j w) begins)))
            (λ before. before)
            (cases_lt i j);
      },
    )

-- ---- a scanned word is an expression if and only if `is_whole` is true

no_depth : (n : ℕ) → (n + 1 == 0) ≡ false
no_depth n = ap (λ k. k == 0) (add-one n) ∙ eqb-suc-zero n

and-no_depth : (b : Bool) (n : ℕ) → (b && (n + 1 == 0)) ≡ false
and-no_depth true n = no_depth n
and-no_depth false n = refl

whole-is : (p : Piece Phrase (List ℕ)) (t : BeforeTerm Phrase) (f : BeforeFactor Phrase) (o : Opened Phrase)
    → (has_factor (mode_of p t f o) && (depth_of o == 0)) ≡ is_some (found phrases (at p t f o))
whole-is p t f (inside o t' f') = and-no_depth (has_factor (mode_of p t f (inside o t' f'))) (depth_of o)
whole-is awaited no_term no_factor outermost = refl
whole-is awaited no_term (multiplying x) outermost = refl
whole-is awaited negating f outermost = refl
whole-is awaited (adding x) f outermost = refl
whole-is awaited (subtracting x) f outermost = refl
whole-is (in_number ds) t f outermost = refl
whole-is (after_slash n) t f outermost = refl
whole-is (in_denominator n ds) t f outermost = refl
whole-is (after_letter basis) t f outermost = refl
whole-is (in_list basis ws) t f outermost = refl
whole-is (in_entry basis ws ds) t f outermost = refl
whole-is (closed x) t f outermost = refl

kept-whole : (s : Scan) (x : Reading) → Keeps s x → is_whole s ≡ is_some (found phrases x)
kept-whole s dead keep = absurd keep
kept-whole s (at p t f o) keep =
    ap (λ m. has_factor m && (s.depth == 0)) keep.0 ∙ ap (λ d. has_factor (mode_of p t f o) && (d == 0)) keep.1 ∙ whole-is p t f o

some-of : (e : Option Phrase) → is_some e ≡ true → (phrase : Phrase) × (e ≡ Some phrase)
some-of None h = cc
some-of (Some phrase) h = (phrase, refl)

finds-whole : (s u : Scan) (x : Reading) (e : Phrase) → Keeps s x → found phrases x ≡ Some e → Sees s (number_mark s.mode) u → Finds u (marks 0 0 e)
finds-whole s u dead e keep h sees = absurd keep
finds-whole s u (at p t f o) e keep h sees =
    subst (Finds u) (sym (marks-found (at p t f o) e h))
    (finds-next s u (number_mark s.mode) (new_mark (at p t f o) other) (state_marks (at p t f o))
    (ap (λ m. option_map plain (number_mark m)) keep.0 ∙ piece-mark p t f o) keep.2 sees)

pub at-end : (w : List ℕ) (i : ℕ) → i ≡ length w → read_on (take i w) start ≡ read_on w start
at-end w i h = ap (λ n. read_on (take n w) start) h ∙ ap (λ v. read_on v start) (take-length w)

pub whole-scanned : (w : List ℕ) (i : ℕ) (s u : Scan) → i ≡ length w → Keeps s (read_on (take i w) start) → is_whole s ≡ true → Sees s (number_mark s.mode) u → IsScanned w (Ok u)
whole-scanned w i s u h keep ends sees =
    let x = read_on w start in
    let kept = subst (Keeps s) (at-end w i h) keep in
    let e = some-of (found phrases x) (sym (kept-whole s x kept) ∙ ends) in
    let finds = finds-whole s u x e.0 kept e.1 sees in
    (e.0, spells-from_found w e.0 e.1, finds.0, finds.1)

no_phrase : (w : List ℕ) (phrase : Phrase) → is_some (found phrases (read_on w start)) ≡ false → SpellsPhrase w phrase → ⊥
no_phrase w phrase h k = let e = ap is_some (found-spelled w phrase k) in cc

pub part-scanned : (w : List ℕ) (i : ℕ) (s : Scan) → i ≡ length w → Keeps s (read_on (take i w) start) → is_whole s ≡ false → IsScanned w (Err (length w))
part-scanned w i s h keep open_end =
    let x = read_on w start in
    let kept = subst (Keeps s) (at-end w i h) keep in (
      λ phrase k. no_phrase w phrase (sym (kept-whole s x kept) ∙ open_end) k,
      record {
        within = omega arith;
        begins = subst BeginsExpression (sym (take-length w)) (begins-from_live w (live-kept s x kept));
        longest = λ j k begins. k;
      },
    )
