-- A scan reads the bytes of a word from left to right; its mode says what has been read last, and its depth is the number of open parentheses. Mode
-- and depth agree with the state of the parser of the definitions (`LeftToRight`) after the same bytes.
use Rattle.std.proofs.Common.{◌≡◌, ℕ, ◌+◌, ◌-◌, ◌*◌, ◌<◌, ◌==◌, true, ◌||◌, cond, List, [], ◌∷◌, ◌++◌, length, length-append, refl, sym, ap, ◌∙◌, subst, add-one, arith, Option, Some, None, option_map, flat_map}
use Rattle.std.specs.Prelude.{option_to_list}
use Rattle.std.proofs.lemmas.List.{append-nil}
use Rattle.std.proofs.Math.Dec.{eqb-suc-zero}
use Rattle.std.proofs.Math.Bool.{or-false}
use Rattle.sym_model.specs.Expansion.{Basis, monomials, elementaries, completes, power_sums, schurs}
use Rattle.sym_model.specs.PrintedBlock.{decimal_value, value_from}
use Rattle.sym_model.specs.Phrase.{Phrase, numeral, ratio, letter}
use Rattle.sym_model.specs.ExpressionOffence.{Mark as PlainMark, opening, offences_at, earlier, first_of}
use Rattle.expression_laws.specs.LeftToRight.{Symbol, digit, plus_sign, minus_sign, star, slash, opens, closes, opens_list, closes_list, comma, letter_of, BeforeTerm, no_term, negating, adding, subtracting, BeforeFactor, no_factor, multiplying, Opened, outermost, inside, Piece, awaited, in_number, after_slash, in_denominator, after_letter, in_list, in_entry, closed, at, dead, step, phrases, found, is_live, after_factor, before_factor, in_list_step}
use Rattle.expression_laws.proofs.PhraseRuns.{Reading}
use Rattle.expression_laws.proofs.PhrasePrefixes.{written, commas}
use Rattle.expression_laws.proofs.PhraseMarks.{depth_of, piece_begin, piece_mark, new_mark, last_value}
use Rattle.expression_reading.specs.declared.offence.Before.{Before}
use Rattle.expression_reading.specs.declared.offence.Mark.{Mark}
use Rattle.expression_reading.specs.declared.scan.Scan.{Scan}
use Rattle.expression_reading.specs.declared.scan.Mode.{Mode}
use Rattle.expression_reading.specs.declared.scan.Mode.TheVariants.{Start, Operand, Number, Slash, Denominator, Letter, List as Listing, Entry, Whole}
use Rattle.expression_reading.specs.Offences.{offence_in, mark_in}
use Rattle.expression_reading.specs.ScanSteps.{capped, mode_after, mode_after_factor, mode_before_factor, depth_after, number_mark, mark_before, is_high, any_high, first_at, Sees}
use Rattle.expression_reading.proofs.FirstOffences.{first-append, first-one, capped_mark, kind-capped, high-capped, any_high-append, capped-next}

-- the count and the last value, capped at 2^127, of the numbers `ws` in the list of an atom such as s[2,1]
abbrev pub before_of : List (List ℕ) → Before
before_of ws = record { count = length ws; last = option_map capped (last_value None ws) }

-- the mode of a scan, from the parts of the phrase that have been read
abbrev pub mode_of : Piece Phrase (List ℕ) → BeforeTerm Phrase → BeforeFactor Phrase → Opened Phrase → Mode
mode_of awaited no_term no_factor o = Start
mode_of awaited t f o = Operand
mode_of (in_number ds) t f o = Number (piece_begin t f o) (capped (decimal_value ds))
mode_of (after_slash n) t f o = Slash
mode_of (in_denominator n ds) t f o = Denominator (piece_begin t f o + length n + 1) (capped (decimal_value ds))
mode_of (after_letter basis) t f o = Letter
mode_of (in_list basis ws) t f o = Listing (before_of ws)
mode_of (in_entry basis ws ds) t f o = Entry (before_of ws) (piece_begin t f o + 2 + length (commas ws)) (capped (decimal_value ds))
mode_of (closed e) t f o = Whole

-- if the mode and the depth are given, they are those of the state y, which is not `dead`; if one of them is not given, y is `dead`
abbrev pub Agrees : Option Mode → Option ℕ → Reading → Type 0
Agrees None d y = y ≡ dead
Agrees (Some m) None y = y ≡ dead
Agrees (Some m) (Some d) dead = ⊥
Agrees (Some m) (Some d) (at p t f o) = (m ≡ mode_of p t f o) × (d ≡ depth_of o)

value_from-snoc : (n : ℕ) (ds : List ℕ) (c : ℕ) → value_from n (ds ++ c ∷ []) ≡ 10 * value_from n ds + (c - 48)
value_from-snoc n [] c = refl
value_from-snoc n (d ∷ ds) c = value_from-snoc (10 * n + (d - 48)) ds c

pub value-next : (ds : List ℕ) (c : ℕ) → capped (10 * capped (decimal_value ds) + (c - 48)) ≡ capped (decimal_value (ds ++ c ∷ []))
value-next ds c = capped-next (decimal_value ds) (c - 48) ∙ ap capped (sym (value_from-snoc 0 ds c))

-- if the symbol is a digit, its byte is below 256
abbrev pub IsByte : Symbol → Type 0
IsByte (digit c) = c < 256
IsByte _ = Unit {0}

pub value-first : (c : ℕ) → c < 256 → c - 48 ≡ capped (decimal_value (c ∷ []))
value-first c h = omega arith

awaited-length : (t : BeforeTerm Phrase) (f : BeforeFactor Phrase) (o : Opened Phrase) → length (written (at awaited t f o)) ≡ piece_begin t f o
awaited-length t f o = simp length-append (omega arith)

after_slash-length : (n : List ℕ) (t : BeforeTerm Phrase) (f : BeforeFactor Phrase) (o : Opened Phrase) → length (written (at (after_slash n) t f o)) ≡ piece_begin t f o + length n + 1
after_slash-length n t f o = simp length-append (omega arith)

pub letter-length : (basis : Basis) → length (letter basis) ≡ 1
letter-length monomials = refl
letter-length elementaries = refl
letter-length completes = refl
letter-length power_sums = refl
letter-length schurs = refl

in_list-length : (basis : Basis) (ws : List (List ℕ)) (t : BeforeTerm Phrase) (f : BeforeFactor Phrase) (o : Opened Phrase)
    → length (written (at (in_list basis ws) t f o)) ≡ piece_begin t f o + 2 + length (commas ws)
in_list-length basis ws t f o = simp length-append (omega (arith, letter-length basis))

operand-multiplying : (t : BeforeTerm Phrase) (e : Phrase) (o : Opened Phrase) → mode_of awaited t (multiplying e) o ≡ Operand
operand-multiplying no_term e o = refl
operand-multiplying negating e o = refl
operand-multiplying (adding x) e o = refl
operand-multiplying (subtracting x) e o = refl

depth-closed : (n : ℕ) → depth_after (n + 1) closes ≡ Some n
depth-closed n = ap (λ d. depth_after d closes) (add-one n)

agrees-after_factor : (s : Symbol) (x : Phrase) (t : BeforeTerm Phrase) (f : BeforeFactor Phrase) (o : Opened Phrase)
    → Agrees (mode_after_factor s) (depth_after (depth_of o) s) (after_factor phrases x t f o s)
agrees-after_factor star x t f o = (sym (operand-multiplying t _ o), refl)
agrees-after_factor plus_sign x t f o = (refl, refl)
agrees-after_factor minus_sign x t f o = (refl, refl)
agrees-after_factor closes x t f (inside o t' f') =
    subst (λ d. Agrees (Some Whole) d (after_factor phrases x t f (inside o t' f') closes)) (sym (depth-closed (depth_of o))) (refl, refl)
agrees-after_factor closes x t f outermost = refl
agrees-after_factor _ x t f o = refl

abbrev IsNoMinus : Symbol → Type 0
IsNoMinus minus_sign = ⊥
IsNoMinus _ = Unit {0}

agrees-before : (s : Symbol) (k : ℕ) (t : BeforeTerm Phrase) (f : BeforeFactor Phrase) (o : Opened Phrase) → k ≡ piece_begin t f o → IsByte s → IsNoMinus s
    → Agrees (mode_before_factor k s) (depth_after (depth_of o) s) (before_factor phrases t f o s)
agrees-before (digit c) k t f o e h n = (ap (λ x. Number x (c - 48)) e ∙ ap (Number (piece_begin t f o)) (value-first c h), refl)
agrees-before (letter_of basis) k t f o e h n = (refl, refl)
agrees-before opens k t f o e h n = (refl, refl)
agrees-before minus_sign k t f o e h n = absurd n
agrees-before _ k t f o e h n = refl

agrees-start : (s : Symbol) (k : ℕ) (o : Opened Phrase) → k ≡ piece_begin no_term no_factor o → IsByte s
    → Agrees (mode_after Start k s) (depth_after (depth_of o) s) (before_factor phrases no_term no_factor o s)
agrees-start minus_sign k o e h = (refl, refl)
agrees-start (digit c) k o e h = agrees-before (digit c) k no_term no_factor o e h tt
agrees-start (letter_of basis) k o e h = (refl, refl)
agrees-start opens k o e h = (refl, refl)
agrees-start _ k o e h = refl

no_minus : (t : BeforeTerm Phrase) (f : BeforeFactor Phrase) (o : Opened Phrase) → mode_of awaited t f o ≡ Operand → before_factor phrases t f o minus_sign ≡ dead
no_minus no_term no_factor o e = cc
no_minus no_term (multiplying x) o e = refl
no_minus negating f o e = refl
no_minus (adding x) f o e = refl
no_minus (subtracting x) f o e = refl

agrees-operand : (s : Symbol) (k : ℕ) (t : BeforeTerm Phrase) (f : BeforeFactor Phrase) (o : Opened Phrase) → mode_of awaited t f o ≡ Operand → k ≡ piece_begin t f o → IsByte s
    → Agrees (mode_after Operand k s) (depth_after (depth_of o) s) (before_factor phrases t f o s)
agrees-operand minus_sign k t f o m e h = no_minus t f o m
agrees-operand (digit c) k t f o m e h = agrees-before (digit c) k t f o e h tt
agrees-operand (letter_of basis) k t f o m e h = (refl, refl)
agrees-operand opens k t f o m e h = (refl, refl)
agrees-operand _ k t f o m e h = refl

agrees-awaited : (s : Symbol) (k : ℕ) (t : BeforeTerm Phrase) (f : BeforeFactor Phrase) (o : Opened Phrase) → k ≡ piece_begin t f o → IsByte s
    → Agrees (mode_after (mode_of awaited t f o) k s) (depth_after (depth_of o) s) (before_factor phrases t f o s)
agrees-awaited s k no_term no_factor o e h = agrees-start s k o e h
agrees-awaited s k no_term (multiplying x) o e h = agrees-operand s k no_term (multiplying x) o refl e h
agrees-awaited s k negating f o e h = agrees-operand s k negating f o refl e h
agrees-awaited s k (adding x) f o e h = agrees-operand s k (adding x) f o refl e h
agrees-awaited s k (subtracting x) f o e h = agrees-operand s k (subtracting x) f o refl e h

last_value-snoc : (before : Option ℕ) (ws : List (List ℕ)) (w : List ℕ) → last_value before (ws ++ w ∷ []) ≡ Some (decimal_value w)
last_value-snoc before [] w = refl
last_value-snoc before (v ∷ ws) w = last_value-snoc (Some (decimal_value v)) ws w

before-next : (ws : List (List ℕ)) (w : List ℕ)
    → ◌≡◌ {A = Mode} (Listing (record { count = length ws + 1; last = Some (capped (decimal_value w)) })) (Listing (before_of (ws ++ w ∷ [])))
before-next ws w =
    let count : length ws + 1 ≡ length (ws ++ w ∷ []) = simp length-append (omega arith) in
    ap (λ n. Listing (record { count = n; last = Some (capped (decimal_value w)) })) count
    ∙ ap (λ l. Listing (record { count = length (ws ++ w ∷ []); last = option_map capped l })) (sym (last_value-snoc None ws w))

no_close : (w : List ℕ) (ws : List (List ℕ)) → cond (length (w ∷ ws) == 0) (Some Whole) None ≡ None
no_close w ws = ap (λ b. cond b (Some Whole) None) (eqb-suc-zero (length ws))

agrees-list : (s : Symbol) (basis : Basis) (ws : List (List ℕ)) (t : BeforeTerm Phrase) (f : BeforeFactor Phrase) (o : Opened Phrase) → IsByte s
    → Agrees (mode_after (Listing (before_of ws)) (length (written (at (in_list basis ws) t f o))) s) (depth_after (depth_of o) s) (in_list_step phrases basis ws t f o s)
agrees-list (digit c) basis ws t f o h = (
  ap (λ x. Entry (before_of ws) x (c - 48)) (in_list-length basis ws t f o)
      ∙ ap (Entry (before_of ws) (piece_begin t f o + 2 + length (commas ws))) (value-first c h),
  refl,
)
agrees-list closes_list basis [] t f o h = (refl, refl)
agrees-list closes_list basis (w ∷ ws) t f o h =
    subst (λ m. Agrees m (Some (depth_of o)) dead) (sym (no_close w ws)) refl
agrees-list _ basis ws t f o h = refl

-- if the mode and the depth before a symbol are those of a state, then those after the symbol agree with the next state (`Agrees`)
pub agrees : (s : Symbol) (p : Piece Phrase (List ℕ)) (t : BeforeTerm Phrase) (f : BeforeFactor Phrase) (o : Opened Phrase) → IsByte s
    → Agrees (mode_after (mode_of p t f o) (length (written (at p t f o))) s) (depth_after (depth_of o) s) (step phrases (at p t f o) s)
agrees s awaited t f o h = agrees-awaited s _ t f o (awaited-length t f o) h
agrees (digit c) (in_number ds) t f o h = (ap (Number (piece_begin t f o)) (value-next ds c), refl)
agrees slash (in_number ds) t f o h = (refl, refl)
agrees s (in_number ds) t f o h = agrees-after_factor s (numeral ds) t f o
agrees (digit c) (after_slash n) t f o h = (
  ap (λ x. Denominator x (c - 48)) (after_slash-length n t f o)
      ∙ ap (Denominator (piece_begin t f o + length n + 1)) (value-first c h),
  refl,
)
agrees _ (after_slash n) t f o h = refl
agrees (digit c) (in_denominator n ds) t f o h = (ap (Denominator (piece_begin t f o + length n + 1)) (value-next ds c), refl)
agrees s (in_denominator n ds) t f o h = agrees-after_factor s (ratio n ds) t f o
agrees opens_list (after_letter basis) t f o h = (refl, refl)
agrees _ (after_letter basis) t f o h = refl
agrees s (in_list basis ws) t f o h = agrees-list s basis ws t f o h
agrees (digit c) (in_entry basis ws ds) t f o h =
    (ap (Entry (before_of ws) (piece_begin t f o + 2 + length (commas ws))) (value-next ds c), refl)
agrees comma (in_entry basis ws ds) t f o h = (before-next ws ds, refl)
agrees closes_list (in_entry basis ws ds) t f o h = (refl, refl)
agrees _ (in_entry basis ws ds) t f o h = refl
agrees s (closed x) t f o h = agrees-after_factor s x t f o

-- a mark that a scan has recorded (a byte, and the number, denominator or parenthesis that begins there), as a mark of the type in the definitions
abbrev pub plain : ℕ × Mark → ℕ × PlainMark
plain m = (m.0, mark_in m.1)

abbrev pub cap : ℕ × PlainMark → ℕ × PlainMark
cap m = (m.0, capped_mark m.1)

abbrev pub SameMark : Option (ℕ × Mark) → Option (ℕ × PlainMark) → Type 0
SameMark kept found = option_map plain kept ≡ option_map cap found

pub piece-mark : (p : Piece Phrase (List ℕ)) (t : BeforeTerm Phrase) (f : BeforeFactor Phrase) (o : Opened Phrase)
    → SameMark (number_mark (mode_of p t f o)) (piece_mark (piece_begin t f o) p)
piece-mark awaited no_term no_factor o = refl
piece-mark awaited no_term (multiplying x) o = refl
piece-mark awaited negating f o = refl
piece-mark awaited (adding x) f o = refl
piece-mark awaited (subtracting x) f o = refl
piece-mark (in_number ds) t f o = refl
piece-mark (after_slash n) t f o = refl
piece-mark (in_denominator n ds) t f o = refl
piece-mark (after_letter basis) t f o = refl
piece-mark (in_list basis ws) t f o = refl
piece-mark (in_entry basis ws ds) t f o = refl
piece-mark (closed x) t f o = refl

opening-mark : (p : Piece Phrase (List ℕ)) (t : BeforeTerm Phrase) (f : BeforeFactor Phrase) (o : Opened Phrase)
    → is_live (step phrases (at p t f o) opens) ≡ true → length (written (at p t f o)) ≡ piece_begin t f o
opening-mark awaited t f o h = awaited-length t f o
opening-mark (in_number ds) t f o h = cc
opening-mark (after_slash n) t f o h = cc
opening-mark (in_denominator n ds) t f o h = cc
opening-mark (after_letter basis) t f o h = cc
opening-mark (in_list basis ws) t f o h = cc
opening-mark (in_entry basis ws ds) t f o h = cc
opening-mark (closed x) t f o h = cc

pub same-mark : (s : Symbol) (p : Piece Phrase (List ℕ)) (t : BeforeTerm Phrase) (f : BeforeFactor Phrase) (o : Opened Phrase)
    → is_live (step phrases (at p t f o) s) ≡ true
    → SameMark (mark_before (mode_of p t f o) (depth_of o) (length (written (at p t f o))) s) (new_mark (at p t f o) s)
same-mark (digit c) p t f o h = refl
same-mark opens p t f o h = ap (λ n. Some (n, opening (depth_of o + 1))) (opening-mark p t f o h)
same-mark _ p t f o h = piece-mark p t f o

-- the first error that the scan s has recorded is the first error at the marks ms, and s has recorded whether one of these marks is a number of an
-- atom over 20
abbrev pub Finds : Scan → List (ℕ × PlainMark) → Type 0
Finds s ms = (option_map offence_in s.first ≡ first_of (flat_map offences_at ms)) × (s.is_high ≡ any_high ms)

some-parts : (k : ℕ × Mark) (m : ℕ × PlainMark) → SameMark (Some k) (Some m) → (k.0 ≡ m.0) × (mark_in k.1 ≡ capped_mark m.1)
some-parts k m e =
    let same : plain k ≡ cap m = cc e in (ap (λ (x : ℕ × PlainMark). x.0) same, ap (λ (x : ℕ × PlainMark). x.1) same)

first-same : (k : ℕ × Mark) (m : ℕ × PlainMark) → SameMark (Some k) (Some m) → first_at (k.0, mark_in k.1) ≡ first_of (flat_map offences_at (m ∷ []))
first-same k m e =
    let parts = some-parts k m e in
    ap (λ n. first_at (n, mark_in k.1)) parts.0 ∙ ap (λ x. first_at (m.0, x)) parts.1
    ∙ ap (option_map (λ kind. (m.0, kind))) (kind-capped m.1) ∙ sym (first-one m)

pub finds-next : (s u : Scan) (kept : Option (ℕ × Mark)) (new : Option (ℕ × PlainMark)) (ms : List (ℕ × PlainMark))
    → SameMark kept new → Finds s ms → Sees s kept u → Finds u (ms ++ option_to_list new)
finds-next s u None None ms e h k =
    subst (Finds u) (sym (append-nil ms)) (ap (option_map offence_in) k.0 ∙ h.0, k.1 ∙ h.1)
finds-next s u None (Some m) ms e h k = cc
finds-next s u (Some x) None ms e h k = cc
finds-next s u (Some x) (Some m) ms e h k =
    let parts = some-parts x m e in (
      k.0 ∙ ap (λ o. earlier o (first_at (x.0, mark_in x.1))) h.0
          ∙ ap (earlier (first_of (flat_map offences_at ms))) (first-same x m e) ∙ sym (first-append ms (m ∷ [])),
      k.1 ∙ ap (λ b. b || is_high (mark_in x.1)) h.1
          ∙ ap (λ y. any_high ms || is_high y) parts.1 ∙ ap (λ b. any_high ms || b) (high-capped m.1 ∙ sym (or-false (is_high m.1)))
          ∙ sym (any_high-append ms (m ∷ [])),
    )
