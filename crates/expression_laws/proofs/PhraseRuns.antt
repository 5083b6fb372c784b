-- A *phrase* is the syntax tree of an expression or of a part of one. If the machine of specs/LeftToRight reads the spelling of a phrase, byte by
-- byte, it finds this phrase. So a word spells at most one phrase.
use Rattle.std.proofs.Common.{◌≡◌, ℕ, List, [], ◌∷◌, ◌++◌, refl, sym, ap, ◌∙◌, append_assoc, arith, Some, option_map, rules}
use Rattle.std.proofs.lemmas.List.{append-nil}
use Rattle.std.specs.Prelude.{codes}
use Rattle.sym_model.specs.Expansion.{Basis, monomials, elementaries, completes, power_sums, schurs}
use Rattle.sym_model.specs.NumberWord.{IsDigit, AreDigits, IsNumberWord, AreNumberWords, comma_separated}
use Rattle.sym_model.specs.Phrase.{Operator, plus, minus, times, Phrase, numeral, ratio, label, brackets, minus_first, operation, Level, expression, term, factor, Covers, level_of, Is, letter, spelling, SpellsPhrase}
use Rattle.expression_laws.specs.LeftToRight.{Symbol, digit, plus_sign, minus_sign, star, slash, opens, closes, opens_list, closes_list, comma, letter_of, other, symbol, BeforeTerm, no_term, negating, adding, subtracting, BeforeFactor, no_factor, multiplying, Opened, outermost, inside, Piece, awaited, in_number, after_slash, in_denominator, in_list, in_entry, closed, State, at, step, run, start, phrases, join, join_term, after_factor, factor_found, found}

pub symbol-digit : (b : ℕ) → IsDigit b → symbol b ≡ digit b
symbol-digit b h = search rules

abbrev pub Reading : Type 0
Reading = State Phrase (List ℕ)

abbrev pub read_on : List ℕ → Reading → Reading
read_on w s = run phrases w s

pub read-append : (u v : List ℕ) (s : Reading) → read_on (u ++ v) s ≡ read_on v (read_on u s)
read-append [] v s = refl
read-append (b ∷ u) v s = read-append u v (step phrases s (symbol b))

read-digit : (b : ℕ) (w : List ℕ) (s : Reading) → IsDigit b → read_on (b ∷ w) s ≡ read_on w (step phrases s (digit b))
read-digit b w s h = ap (λ x. read_on w (step phrases s x)) (symbol-digit b h)

read-number : (ds es : List ℕ) (t : BeforeTerm Phrase) (f : BeforeFactor Phrase) (o : Opened Phrase) → AreDigits es
    → read_on es (at (in_number ds) t f o) ≡ at (in_number (ds ++ es)) t f o
read-number ds [] t f o h = ap (λ x. at (in_number x) t f o) (sym (append-nil ds))
read-number ds (b ∷ es) t f o h = search (rules, read-digit, append_assoc, (read-number (ds ++ b ∷ []) es t f o h.1))

read-denominator : (n ds es : List ℕ) (t : BeforeTerm Phrase) (f : BeforeFactor Phrase) (o : Opened Phrase) → AreDigits es
    → read_on es (at (in_denominator n ds) t f o) ≡ at (in_denominator n (ds ++ es)) t f o
read-denominator n ds [] t f o h = ap (λ x. at (in_denominator n x) t f o) (sym (append-nil ds))
read-denominator n ds (b ∷ es) t f o h = search (rules, read-digit, append_assoc, (read-denominator n (ds ++ b ∷ []) es t f o h.1))

read-entry : (basis : Basis) (ws : List (List ℕ)) (ds es : List ℕ) (t : BeforeTerm Phrase) (f : BeforeFactor Phrase) (o : Opened Phrase) → AreDigits es
    → read_on es (at (in_entry basis ws ds) t f o) ≡ at (in_entry basis ws (ds ++ es)) t f o
read-entry basis ws ds [] t f o h = ap (λ x. at (in_entry basis ws x) t f o) (sym (append-nil ds))
read-entry basis ws ds (b ∷ es) t f o h = search (rules, read-digit, append_assoc, (read-entry basis ws (ds ++ b ∷ []) es t f o h.1))

whole-number : (w : List ℕ) (t : BeforeTerm Phrase) (f : BeforeFactor Phrase) (o : Opened Phrase) → IsNumberWord w
    → read_on w (at awaited t f o) ≡ at (in_number w) t f o
whole-number [] t f o h = absurd (omega (arith, h.nonempty))
whole-number (b ∷ ds) t f o h =
    read-digit b ds (at awaited t f o) h.digits.0 ∙ read-number (b ∷ []) ds t f o h.digits.1

whole-denominator : (n w : List ℕ) (t : BeforeTerm Phrase) (f : BeforeFactor Phrase) (o : Opened Phrase) → IsNumberWord w
    → read_on w (at (after_slash n) t f o) ≡ at (in_denominator n w) t f o
whole-denominator n [] t f o h = absurd (omega (arith, h.nonempty))
whole-denominator n (b ∷ ds) t f o h =
    read-digit b ds (at (after_slash n) t f o) h.digits.0 ∙ read-denominator n (b ∷ []) ds t f o h.digits.1

whole-entry : (basis : Basis) (ws : List (List ℕ)) (w : List ℕ) (t : BeforeTerm Phrase) (f : BeforeFactor Phrase) (o : Opened Phrase) → IsNumberWord w
    → read_on w (at (in_list basis ws) t f o) ≡ at (in_entry basis ws w) t f o
whole-entry basis ws [] t f o h = absurd (omega (arith, h.nonempty))
whole-entry basis ws (b ∷ ds) t f o h =
    read-digit b ds (at (in_list basis ws) t f o) h.digits.0 ∙ read-entry basis ws (b ∷ []) ds t f o h.digits.1

read-entries : (basis : Basis) (ws : List (List ℕ)) (w : List ℕ) (more : List (List ℕ)) (t : BeforeTerm Phrase) (f : BeforeFactor Phrase) (o : Opened Phrase) → AreNumberWords (w ∷ more)
    → read_on (comma_separated (w ∷ more) ++ codes "]") (at (in_list basis ws) t f o) ≡ at (closed (label basis (ws ++ w ∷ more))) t f o
read-entries basis ws w [] t f o h =
    read-append w (codes "]") (at (in_list basis ws) t f o) ∙ ap (read_on (codes "]")) (whole-entry basis ws w t f o h.0)
read-entries basis ws w (v ∷ more) t f o h =
    search (rules, append_assoc, read-append, whole-entry, (read-entries basis (ws ++ w ∷ []) v more t f o h.1))

symbol-letter : (basis : Basis) (w : List ℕ) (s : Reading) → read_on (letter basis ++ w) s ≡ read_on w (step phrases s (letter_of basis))
symbol-letter monomials w s = refl
symbol-letter elementaries w s = refl
symbol-letter completes w s = refl
symbol-letter power_sums w s = refl
symbol-letter schurs w s = refl

read-label : (basis : Basis) (ws : List (List ℕ)) (t : BeforeTerm Phrase) (f : BeforeFactor Phrase) (o : Opened Phrase) → AreNumberWords ws
    → read_on (spelling (label basis ws)) (at awaited t f o) ≡ at (closed (label basis ws)) t f o
read-label basis [] t f o h = symbol-letter basis (codes "[]") (at awaited t f o)
read-label basis (w ∷ ws) t f o h = search (rules, symbol-letter, read-entries)

-- the current factor after all bytes of the factor e: if e is a number or a fraction, further digits may follow, and otherwise it is complete
abbrev pub piece_of : Phrase → Piece Phrase (List ℕ)
piece_of (numeral ds) = in_number ds
piece_of (ratio ds es) = in_denominator ds es
piece_of e = closed e

-- the state after reading a term, within the open parentheses o and after the text t before the term
abbrev pub ended_term : BeforeTerm Phrase → Opened Phrase → Phrase → Reading
ended_term t o (operation times l r) = at (piece_of r) t (multiplying l) o
ended_term t o e = at (piece_of e) t no_factor o

-- the state after reading an expression, within the open parentheses o
abbrev pub ended : Opened Phrase → Phrase → Reading
ended o (minus_first e) = ended_term negating o e
ended o (operation plus l r) = ended_term (adding l) o r
ended o (operation minus l r) = ended_term (subtracting l) o r
ended o e = ended_term no_term o e

-- the symbol is one that may follow a whole factor: a star, a plus, a minus or a closing parenthesis
abbrev pub Follows : Symbol → Type 0
Follows star = Unit {0}
Follows plus_sign = Unit {0}
Follows minus_sign = Unit {0}
Follows closes = Unit {0}
Follows _ = ⊥

abbrev pub EndsTerm : Symbol → Type 0
EndsTerm plus_sign = Unit {0}
EndsTerm minus_sign = Unit {0}
EndsTerm closes = Unit {0}
EndsTerm _ = ⊥

follows : (s : Symbol) → EndsTerm s → Follows s
follows plus_sign h = tt
follows minus_sign h = tt
follows closes h = tt
follows (digit b) h = absurd h
follows star h = absurd h
follows slash h = absurd h
follows opens h = absurd h
follows opens_list h = absurd h
follows closes_list h = absurd h
follows comma h = absurd h
follows (letter_of b) h = absurd h
follows other h = absurd h

after-number : (ds : List ℕ) (t : BeforeTerm Phrase) (f : BeforeFactor Phrase) (o : Opened Phrase) (s : Symbol) → Follows s
    → step phrases (at (in_number ds) t f o) s ≡ after_factor phrases (numeral ds) t f o s
after-number ds t f o (digit b) h = absurd h
after-number ds t f o slash h = absurd h
after-number ds t f o _ h = refl

after-denominator : (ds es : List ℕ) (t : BeforeTerm Phrase) (f : BeforeFactor Phrase) (o : Opened Phrase) (s : Symbol) → Follows s
    → step phrases (at (in_denominator ds es) t f o) s ≡ after_factor phrases (ratio ds es) t f o s
after-denominator ds es t f o (digit b) h = absurd h
after-denominator ds es t f o _ h = refl

pub factor_covers : (operator : Operator) → Covers factor (level_of operator) → ⊥
factor_covers plus h = h
factor_covers minus h = h
factor_covers times h = h

after-piece : (e : Phrase) (t : BeforeTerm Phrase) (f : BeforeFactor Phrase) (o : Opened Phrase) (s : Symbol) → Follows s → Is factor e
    → step phrases (at (piece_of e) t f o) s ≡ after_factor phrases e t f o s
after-piece (numeral ds) t f o s h a = after-number ds t f o s h
after-piece (ratio ds es) t f o s h a = after-denominator ds es t f o s h
after-piece (label basis ws) t f o s h a = refl
after-piece (brackets e) t f o s h a = refl
after-piece (minus_first e) t f o s h a = absurd a.0
after-piece (operation operator l r) t f o s h a = absurd (factor_covers operator a.0)

as_term : (l r : Phrase) (t : BeforeTerm Phrase) (o : Opened Phrase) (s : Symbol) → Follows s
    → after_factor phrases r t (multiplying l) o s ≡ after_factor phrases (operation times l r) t no_factor o s
as_term l r t o star h = refl
as_term l r t o plus_sign h = refl
as_term l r t o minus_sign h = refl
as_term l r t (inside o t' f') closes h = refl
as_term l r t outermost closes h = refl
as_term l r t o (digit b) h = absurd h
as_term l r t o slash h = absurd h
as_term l r t o opens h = absurd h
as_term l r t o opens_list h = absurd h
as_term l r t o closes_list h = absurd h
as_term l r t o comma h = absurd h
as_term l r t o (letter_of b) h = absurd h
as_term l r t o other h = absurd h

after-term : (e : Phrase) (t : BeforeTerm Phrase) (o : Opened Phrase) (s : Symbol) → Follows s → Is term e
    → step phrases (ended_term t o e) s ≡ after_factor phrases e t no_factor o s
after-term (numeral ds) t o s h a = after-number ds t no_factor o s h
after-term (ratio ds es) t o s h a = after-denominator ds es t no_factor o s h
after-term (label basis ws) t o s h a = refl
after-term (brackets e) t o s h a = refl
after-term (minus_first e) t o s h a = absurd a.0
after-term (operation times l r) t o s h a = after-piece r t (multiplying l) o s h a.2 ∙ as_term l r t o s h
after-term (operation plus l r) t o s h a = absurd a.0
after-term (operation minus l r) t o s h a = absurd a.0

as_expression : (t : BeforeTerm Phrase) (e : Phrase) (o : Opened Phrase) (s : Symbol) → EndsTerm s
    → after_factor phrases e t no_factor o s ≡ after_factor phrases (join_term phrases t e) no_term no_factor o s
as_expression t e o plus_sign h = refl
as_expression t e o minus_sign h = refl
as_expression t e (inside o t' f') closes h = refl
as_expression t e outermost closes h = refl
as_expression t e o star h = absurd h
as_expression t e o (digit b) h = absurd h
as_expression t e o slash h = absurd h
as_expression t e o opens h = absurd h
as_expression t e o opens_list h = absurd h
as_expression t e o closes_list h = absurd h
as_expression t e o comma h = absurd h
as_expression t e o (letter_of b) h = absurd h
as_expression t e o other h = absurd h

after-expression : (e : Phrase) (o : Opened Phrase) (s : Symbol) → EndsTerm s → Is expression e
    → step phrases (ended o e) s ≡ after_factor phrases e no_term no_factor o s
after-expression (numeral ds) o s h a = after-term (numeral ds) no_term o s (follows s h) a
after-expression (ratio ds es) o s h a = after-term (ratio ds es) no_term o s (follows s h) a
after-expression (label basis ws) o s h a = after-term (label basis ws) no_term o s (follows s h) a
after-expression (brackets e) o s h a = after-term (brackets e) no_term o s (follows s h) a
after-expression (minus_first e) o s h a = after-term e negating o s (follows s h) a.1 ∙ as_expression negating e o s h
after-expression (operation times l r) o s h a = after-term (operation times l r) no_term o s (follows s h) a
after-expression (operation plus l r) o s h a = after-term r (adding l) o s (follows s h) a.2 ∙ as_expression (adding l) r o s h
after-expression (operation minus l r) o s h a = after-term r (subtracting l) o s (follows s h) a.2 ∙ as_expression (subtracting l) r o s h

-- the statement that the machine, if it reads the spelling of the phrase e as a factor, a term or an expression, is then in the state after this
-- factor, term or expression
abbrev pub Reads : Level → Phrase → Type 0
Reads factor e = (t : BeforeTerm Phrase) (f : BeforeFactor Phrase) (o : Opened Phrase) → read_on (spelling e) (at awaited t f o) ≡ at (piece_of e) t f o
Reads term e = (t : BeforeTerm Phrase) (o : Opened Phrase) → read_on (spelling e) (at awaited t no_factor o) ≡ ended_term t o e
Reads expression e = (o : Opened Phrase) → read_on (spelling e) (at awaited no_term no_factor o) ≡ ended o e

reads-numeral : (level : Level) (ds : List ℕ) → Reads factor (numeral ds) → Reads level (numeral ds)
reads-numeral factor ds h = h
reads-numeral term ds h = λ t o. h t no_factor o
reads-numeral expression ds h = λ o. h no_term no_factor o

reads-ratio : (level : Level) (ds es : List ℕ) → Reads factor (ratio ds es) → Reads level (ratio ds es)
reads-ratio factor ds es h = h
reads-ratio term ds es h = λ t o. h t no_factor o
reads-ratio expression ds es h = λ o. h no_term no_factor o

reads-label : (level : Level) (basis : Basis) (ws : List (List ℕ)) → Reads factor (label basis ws) → Reads level (label basis ws)
reads-label factor basis ws h = h
reads-label term basis ws h = λ t o. h t no_factor o
reads-label expression basis ws h = λ o. h no_term no_factor o

reads-brackets : (level : Level) (e : Phrase) → Reads factor (brackets e) → Reads level (brackets e)
reads-brackets factor e h = h
reads-brackets term e h = λ t o. h t no_factor o
reads-brackets expression e h = λ o. h no_term no_factor o

read-times : (l r : Phrase) → Is term l → Reads term l → Reads factor r → Reads term (operation times l r)
read-times l r a hl hr = search (rules, read-append, after-term)

read-brackets : (e : Phrase) → Is expression e → Reads expression e → Reads factor (brackets e)
read-brackets e a h = search (rules, read-append, after-expression)

read-plus : (l r : Phrase) → Is expression l → Reads expression l → Reads term r → Reads expression (operation plus l r)
read-plus l r a hl hr = search (rules, read-append, after-expression)

read-minus : (l r : Phrase) → Is expression l → Reads expression l → Reads term r → Reads expression (operation minus l r)
read-minus l r a hl hr = search (rules, read-append, after-expression)

-- if the phrase e is of a level (factor, term or expression), reading its spelling gives the state after e as a phrase of this level
pub reads : (level : Level) (e : Phrase) → Is level e → Reads level e
reads level (numeral ds) a = reads-numeral level ds (λ t f o. whole-number ds t f o a)
reads level (ratio ds es) a = search (rules, reads-ratio, read-append, whole-number, whole-denominator)
reads level (label basis ws) a = reads-label level basis ws (λ t f o. read-label basis ws t f o a)
reads level (brackets e) a = reads-brackets level e (read-brackets e a (reads expression e a))
reads expression (minus_first e) a = λ o. reads term e a.1 negating o
reads term (minus_first e) a = absurd a.0
reads factor (minus_first e) a = absurd a.0
reads expression (operation plus l r) a = read-plus l r a.1 (reads expression l a.1) (reads term r a.2)
reads expression (operation minus l r) a = read-minus l r a.1 (reads expression l a.1) (reads term r a.2)
reads expression (operation times l r) a = λ o. read-times l r a.1 (reads term l a.1) (reads factor r a.2) no_term o
reads term (operation times l r) a = read-times l r a.1 (reads term l a.1) (reads factor r a.2)
reads term (operation plus l r) a = absurd a.0
reads term (operation minus l r) a = absurd a.0
reads factor (operation operator l r) a = absurd (factor_covers operator a.0)

factor_found-piece : (e : Phrase) → Is factor e → factor_found phrases (piece_of e) ≡ Some e
factor_found-piece (numeral ds) a = refl
factor_found-piece (ratio ds es) a = refl
factor_found-piece (label basis ws) a = refl
factor_found-piece (brackets e) a = refl
factor_found-piece (minus_first e) a = absurd a.0
factor_found-piece (operation operator l r) a = absurd (factor_covers operator a.0)

found-term : (e : Phrase) (t : BeforeTerm Phrase) → Is term e → found phrases (ended_term t outermost e) ≡ Some (join_term phrases t e)
found-term (numeral ds) t a = refl
found-term (ratio ds es) t a = refl
found-term (label basis ws) t a = refl
found-term (brackets e) t a = refl
found-term (minus_first e) t a = absurd a.0
found-term (operation times l r) t a = ap (option_map (join phrases t (multiplying l))) (factor_found-piece r a.2)
found-term (operation plus l r) t a = absurd a.0
found-term (operation minus l r) t a = absurd a.0

pub found-expression : (e : Phrase) → Is expression e → found phrases (ended outermost e) ≡ Some e
found-expression (numeral ds) a = refl
found-expression (ratio ds es) a = refl
found-expression (label basis ws) a = refl
found-expression (brackets e) a = refl
found-expression (minus_first e) a = found-term e negating a.1
found-expression (operation times l r) a = found-term (operation times l r) no_term a
found-expression (operation plus l r) a = found-term r (adding l) a.2
found-expression (operation minus l r) a = found-term r (subtracting l) a.2

-- if a word spells the phrase e, the machine finds e after it has read the word
pub found-spelled : (word : List ℕ) (e : Phrase) → SpellsPhrase word e → found phrases (read_on word start) ≡ Some e
found-spelled word e h = search (rules, reads, found-expression)

-- a word spells at most one phrase
pub one_phrase : (word : List ℕ) (p q : Phrase) → SpellsPhrase word p → SpellsPhrase word q → p ≡ q
one_phrase word p q h k = let e = sym (found-spelled word p h) ∙ found-spelled word q k in cc
