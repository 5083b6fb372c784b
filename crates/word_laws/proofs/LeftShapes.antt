-- The place of the error in words that must be a tableau with rows of given lengths, found word by word.
use Rattle.std.proofs.Common.{◌≡◌, ℕ, zero, suc, ◌+◌, ◌==◌, min, Bool, true, false, ◌&&◌, ◌||◌, cond, List, [], ◌∷◌, ◌++◌, map, length, refl, sym, ap, ◌∙◌, arith, Option, Some, None, rules}
use Rattle.std.specs.Prelude.{codes}
use Rattle.std.proofs.lemmas.Bool.{eqb-true, eqb-false}
use Rattle.sym_model.specs.Polynomial.{same}
use Rattle.sym_model.proofs.Exponents.{same_true}
use Rattle.sym_model.specs.ExpressionOffence.{shape}
use Rattle.sym_model.specs.Form.{Form, empty, word, sequence, number, EachOf, is_number_word, is_skippable, derivatives, one_more, taken, has_skippable, after_words}
use Rattle.sym_model.specs.CommandOffence.{Offence}
use Rattle.sym_model.specs.WordForms.{the, row_of, tableau_of, shape_offences}
use Rattle.word_laws.specs.WrittenRows.{row_text, further_text, rows_text, left_behind, left_at}
use Rattle.word_laws.specs.FirstWords.{IsNumber}
use Rattle.word_laws.specs.Words.{Words}

abbrev never : List ℕ → Bool
never text = false

-- ---- `found`: None if a list of words is of the form, and otherwise the length of its longest prefix that is also the beginning of some words of
-- the form

abbrev left_if : Bool → ℕ → Option ℕ
left_if b n = cond b None (Some n)

abbrev found : Form → Words → Option ℕ
found f words = left_if (has_skippable (after_words never (f ∷ []) words)) (taken never (f ∷ []) words)

abbrev shift : ℕ → Option ℕ → Option ℕ
shift d None = None
shift d (Some n) = Some (d + n)

abbrev offence_at : ℕ → Option ℕ → List Offence
offence_at k None = []
offence_at k (Some n) = (k + n, 0, shape) ∷ []

shape_found : (k : ℕ) (lengths : List ℕ) (words : Words) → shape_offences k lengths words ≡ offence_at k (found (tableau_of lengths) words)
shape_found k lengths words = search rules

shift_offence : (k d : ℕ) (x : Option ℕ) → offence_at k (shift d x) ≡ offence_at (k + d) x
shift_offence k d None = refl
shift_offence k d (Some n) = let e : k + (d + n) ≡ k + d + n = omega arith in ap (λ m. (m, 0, shape) ∷ []) e

shift_more : (a b c : ℕ) (x : Option ℕ) → a + b ≡ c → shift a (shift b x) ≡ shift c x
shift_more a b c None e = refl
shift_more a b c (Some n) e = let g : a + (b + n) ≡ c + n = omega (arith, e) in ap Some g

-- the forms h and g have the same derivatives by the first of the words, or, if there is no word, both allow the empty list or neither does
abbrev Going : Form → Form → Words → Type 0
Going h g [] = is_skippable h ≡ is_skippable g
Going h g (text ∷ rest) = derivatives never h text ≡ derivatives never g text

abbrev found_by : List Form → Words → Option ℕ
found_by ds rest = left_if (has_skippable (after_words never (ds ++ []) rest)) (one_more (ds ++ []) (taken never (ds ++ []) rest))

going_found : (h g : Form) (words : Words) → Going h g words → found h words ≡ found g words
going_found h g [] e = ap (λ b. left_if (b || false) 0) e
going_found h g (text ∷ rest) e = ap (λ ds. found_by ds rest) e

step_found : (h g : Form) (text : List ℕ) (rest : Words) → derivatives never h text ≡ g ∷ [] → found h (text ∷ rest) ≡ shift 1 (found g rest)
step_found h g text rest e = search rules

nothing_left : (words : Words) → after_words never [] words ≡ []
nothing_left [] = refl
nothing_left (text ∷ words) = nothing_left words

stop_found : (h : Form) (text : List ℕ) (rest : Words) → derivatives never h text ≡ [] → found h (text ∷ rest) ≡ Some 0
stop_found h text rest e =
    ap (λ ds. found_by ds rest) e ∙ ap (λ fs. left_if (has_skippable fs) 0) (nothing_left rest)

-- ---- `then lengths f`: the form f, followed by the rows of a tableau with the given lengths, each after a `/`

abbrev then : List ℕ → Form → Form
then [] f = f
then (m ∷ lengths) f = sequence f (sequence (the (codes "/")) (tableau_of (m ∷ lengths)))

tableau_then : (n : ℕ) (lengths : List ℕ) → tableau_of (n ∷ lengths) ≡ then lengths (row_of n)
tableau_then n [] = refl
tableau_then n (m ∷ lengths) = refl

then_one : (lengths : List ℕ) (f h : Form) (text : List ℕ) → is_skippable f ≡ false → derivatives never f text ≡ h ∷ []
    → derivatives never (then lengths f) text ≡ then lengths h ∷ []
then_one [] f h text s e = e
then_one (m ∷ lengths) f h text s e = search rules

then_none : (lengths : List ℕ) (f : Form) (text : List ℕ) → is_skippable f ≡ false → derivatives never f text ≡ []
    → derivatives never (then lengths f) text ≡ []
then_none [] f text s e = e
then_none (m ∷ lengths) f text s e = search rules

then_going : (lengths : List ℕ) (f : Form) (words : Words) → Going (then lengths (sequence empty f)) (then lengths f) words
then_going [] f [] = refl
then_going [] f (text ∷ words) = refl
then_going (m ∷ lengths) f [] = refl
then_going (m ∷ lengths) f (text ∷ words) = refl

no_skip : (lengths : List ℕ) (f : Form) → is_skippable f ≡ false → is_skippable (then lengths f) ≡ false
no_skip [] f s = s
no_skip (m ∷ lengths) f s = ap (λ b. b && false) s

row_no_skip : (n : ℕ) → is_skippable (row_of n) ≡ false
row_no_skip zero = refl
row_no_skip (suc zero) = refl
row_no_skip (suc (suc n)) = refl

number_one : (w : List ℕ) → IsNumber w → derivatives never (word number) w ≡ empty ∷ []
number_one w h = ap (λ b. cond b (empty ∷ []) []) h

row_more : (n : ℕ) (w : List ℕ) → IsNumber w → derivatives never (row_of (suc (suc n))) w ≡ sequence empty (row_of (suc n)) ∷ []
row_more n w h = ap (λ b. map (λ h. sequence h (row_of (suc n))) (cond b (empty ∷ []) []) ++ []) h

not_text : (text w : List ℕ) → is_number_word text ≡ false → IsNumber w → same text w ≡ false
not_text text w n h = by (same text w) refl
  where
    by : (b : Bool) → same text w ≡ b → b ≡ false
    by true e = let z : true ≡ false = sym h ∙ sym (ap is_number_word (same_true text w e)) ∙ n in cc
    by false e = refl

-- if a row has the length n that it must have, the error in the words of the row followed by `more` is the error in `more`, read as the words after
-- the row
row_fits : (lengths : List ℕ) (n : ℕ) (row more : Words) → EachOf IsNumber row → length row ≡ n
    → found (then lengths (row_of n)) (row_text row ++ more) ≡ shift (length (row_text row)) (found (then lengths empty) more)
row_fits lengths zero [] more a e =
    step_found (then lengths (row_of 0)) (then lengths empty) (codes ".") more (then_one lengths (row_of 0) empty (codes ".") refl refl)
row_fits lengths (suc n) [] more a e = absurd (omega (arith, e))
row_fits lengths zero (w ∷ row) more a e = absurd (omega (arith, e))
row_fits lengths (suc zero) (w ∷ []) more a e =
    step_found (then lengths (row_of 1)) (then lengths empty) w more (then_one lengths (row_of 1) empty w refl (number_one w a.0))
row_fits lengths (suc (suc n)) (w ∷ []) more a e = absurd (omega (arith, e))
row_fits lengths (suc zero) (w ∷ v ∷ row) more a e = absurd (omega (arith, e))
row_fits lengths (suc (suc n)) (w ∷ v ∷ row) more a e =
    search (rules, step_found, then_one, row_more, going_found, then_going, shift_more, (row_fits lengths (suc n) (v ∷ row) more a.1))

-- if a row must have at least one more number, but a `/` or no word follows, the error is at this place
further_stops : (lengths : List ℕ) (n : ℕ) (rows : List Words) → found (then lengths (row_of (suc n))) (further_text rows) ≡ Some 0
further_stops lengths n [] =
    ap (λ b. left_if (b || false) 0) (no_skip lengths (row_of (suc n)) (row_no_skip (suc n)))
further_stops lengths zero (r ∷ rows) =
    stop_found (then lengths (row_of 1)) (codes "/") (row_text r ++ further_text rows) (then_none lengths (row_of 1) (codes "/") refl refl)
further_stops lengths (suc n) (r ∷ rows) = search (rules, stop_found, then_none)

empty_stops : (lengths : List ℕ) (v : List ℕ) → IsNumber v → derivatives never (then lengths empty) v ≡ []
empty_stops [] v h = refl
empty_stops (m ∷ lengths) v h =
    ap (λ b. map (λ h. sequence h (tableau_of (m ∷ lengths))) (cond b (empty ∷ []) []) ++ []) (not_text (codes "/") v refl h)

row_misses : (lengths : List ℕ) (n : ℕ) (row : Words) (rows : List Words) (m : ℕ) → EachOf IsNumber row → (length row ≡ n → ⊥) → m ≡ min n (length row)
    → found (then lengths (row_of n)) (row_text row ++ further_text rows) ≡ Some m
row_misses lengths zero [] rows m a e k = absurd (e refl)
row_misses lengths zero (w ∷ row) rows m a e k = search (rules, stop_found, then_none, not_text)
row_misses lengths (suc zero) [] rows m a e k = search (rules, stop_found, then_none)
row_misses lengths (suc (suc n)) [] rows m a e k = search (rules, stop_found, then_none)
row_misses lengths (suc zero) (w ∷ []) rows m a e k = absurd (e refl)
row_misses lengths (suc zero) (w ∷ v ∷ row) rows m a e k =
    step_found (then lengths (row_of 1)) (then lengths empty) w (v ∷ (row ++ further_text rows))
    (then_one lengths (row_of 1) empty w refl (number_one w a.0))
    ∙ ap (shift 1) (stop_found (then lengths empty) v (row ++ further_text rows) (empty_stops lengths v a.1.0))
    ∙ (let z : 1 + 0 ≡ m = omega (arith, k) in ap Some z)
row_misses lengths (suc (suc n)) (w ∷ []) rows m a e k =
    let f = row_of (suc n) in
    step_found (then lengths (row_of (suc (suc n)))) (then lengths (sequence empty f)) w (further_text rows)
    (then_one lengths (row_of (suc (suc n))) (sequence empty f) w refl (row_more n w a.0))
    ∙ ap (shift 1)
    (going_found (then lengths (sequence empty f)) (then lengths f) (further_text rows) (then_going lengths f (further_text rows))
    ∙ further_stops lengths n rows)
    ∙ (let z : 1 + 0 ≡ m = omega (arith, k) in ap Some z)
row_misses lengths (suc (suc n)) (w ∷ v ∷ row) rows m a e k =
    let f = row_of (suc n) in
    let rest = v ∷ (row ++ further_text rows) in
    step_found (then lengths (row_of (suc (suc n)))) (then lengths (sequence empty f)) w rest
    (then_one lengths (row_of (suc (suc n))) (sequence empty f) w refl (row_more n w a.0))
    ∙ ap (shift 1)
    (going_found (then lengths (sequence empty f)) (then lengths f) rest (then_going lengths f rest)
    ∙ row_misses lengths (suc n) (v ∷ row) rows (min (suc n) (length (v ∷ row))) a.1 (λ h. e (omega (arith, h))) refl)
    ∙ (let z : 1 + min (suc n) (length (v ∷ row)) ≡ m = omega (arith, k) in ap Some z)

-- ---- the place of the error in the words of all rows

no_rows_asked : (e : ℕ) (rows : List Words) (later : List Offence)
    → offence_at e (found (then [] empty) (further_text rows)) ≡ left_behind e [] rows later
no_rows_asked e [] later = refl
no_rows_asked e (r ∷ rs) later =
    ap (offence_at e) (stop_found empty (codes "/") (row_text r ++ further_text rs) refl)
    ∙ (let z : e + 0 ≡ e = omega arith in ap (λ p. (p, 0, shape) ∷ []) z)

no_rows_there : (e m : ℕ) (ls : List ℕ) (later : List Offence)
    → offence_at e (found (then (m ∷ ls) empty) (further_text [])) ≡ left_behind e (m ∷ ls) [] later
no_rows_there e m ls later = let z : e + 0 ≡ e = omega arith in ap (λ p. (p, 0, shape) ∷ []) z

-- for a row that must have the length n, followed by further rows: if the row has another length, the error is in the row, and otherwise it is the
-- error of the words after the row (`behind`)
row_left : (k n : ℕ) (lengths : List ℕ) (row : Words) (rows : List Words) (behind : List Offence) → EachOf IsNumber row
    → offence_at (k + length (row_text row)) (found (then lengths empty) (further_text rows)) ≡ behind
    → offence_at k (found (tableau_of (n ∷ lengths)) (rows_text (row ∷ rows)))
    ≡ cond (length row == n) behind ((k + min n (length row), 0, shape) ∷ [])
row_left k n lengths row rows behind a h = search (rules, tableau_then, row_fits, eqb-true, shift_offence, row_misses, eqb-false)

left_found : (k n : ℕ) (lengths : List ℕ) (row : Words) (rows : List Words) → EachOf (EachOf IsNumber) (row ∷ rows)
    → offence_at k (found (tableau_of (n ∷ lengths)) (rows_text (row ∷ rows))) ≡ left_at k (n ∷ lengths) (row ∷ rows)
left_found k n [] row rows a = search (rules, row_left, no_rows_asked)
left_found k n (m ∷ ls) row [] a = search (rules, row_left, no_rows_there)
left_found k n (m ∷ ls) row (r ∷ rs) a =
    let ih = left_found (k + length (row_text row) + 1) m ls r rs a.1 in
    row_left k n (m ∷ ls) row (r ∷ rs)
    (left_behind (k + length (row_text row)) (m ∷ ls) (r ∷ rs) (left_at (k + length (row_text row) + 1) (m ∷ ls) (r ∷ rs))) a.0
    (let t = tableau_of (m ∷ ls) in
    let e = k + length (row_text row) in
    ap (offence_at e)
    (step_found (then (m ∷ ls) empty) (sequence empty t) (codes "/") (row_text r ++ further_text rs) refl
    ∙ ap (shift 1) (going_found (sequence empty t) t (row_text r ++ further_text rs) (then_going [] t (row_text r ++ further_text rs))))
    ∙ shift_offence e 1 (found t (row_text r ++ further_text rs))
    ∙ ih)

pub left_shape : (k n : ℕ) (lengths : List ℕ) (row : Words) (rows : List Words) → EachOf (EachOf IsNumber) (row ∷ rows)
    → shape_offences k (n ∷ lengths) (rows_text (row ∷ rows)) ≡ left_at k (n ∷ lengths) (row ∷ rows)
left_shape k n lengths row rows a = shape_found k (n ∷ lengths) (rows_text (row ∷ rows)) ∙ left_found k n lengths row rows a
