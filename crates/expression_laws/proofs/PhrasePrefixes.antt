-- The machine of specs/LeftToRight reads a text byte by byte. If its state after the text is not `dead`, some expression begins with the text. If it
-- finds an expression e after the last byte, the text spells e. A state is *sound* (`Sound`) if each phrase (syntax tree) in it has the level that
-- the grammar requires: factor, term or expression.
use Rattle.std.proofs.Common.{◌≡◌, ℕ, ◌==◌, true, List, [], ◌∷◌, ◌++◌, length-append, refl, sym, ap, ◌∙◌, subst, append_assoc, arith, Some, rules}
use Rattle.std.proofs.lemmas.Bool.{eqb-true}
use Rattle.std.proofs.lemmas.List.{append-nil}
use Rattle.std.specs.Prelude.{codes}
use Rattle.sym_model.specs.Expansion.{Basis}
use Rattle.sym_model.specs.NumberWord.{IsDigit, AreDigits, IsNumberWord, AreNumberWords, comma_separated}
use Rattle.sym_model.specs.Phrase.{plus, minus, times, Phrase, numeral, ratio, label, brackets, minus_first, operation, expression, term, factor, Is, letter, spelling, SpellsPhrase, BeginsExpression}
use Rattle.expression_laws.specs.LeftToRight.{Symbol, digit, plus_sign, minus_sign, star, slash, opens, closes, opens_list, closes_list, comma, letter_of, other, symbol, BeforeTerm, no_term, negating, adding, subtracting, BeforeFactor, no_factor, multiplying, Opened, outermost, inside, Piece, awaited, in_number, after_slash, in_denominator, after_letter, in_list, in_entry, closed, at, dead, step, start, phrases, join, join_factor, join_term, after_factor, before_factor, in_list_step, is_live, found}
use Rattle.expression_laws.proofs.PhraseRuns.{Reading, read_on, read-append, factor_covers, found-spelled}

-- the byte b has the given symbol
abbrev pub Codes : ℕ → Symbol → Type 0
Codes b (digit c) = (c ≡ b) × IsDigit b
Codes b plus_sign = b ≡ 43
Codes b minus_sign = b ≡ 45
Codes b star = b ≡ 42
Codes b slash = b ≡ 47
Codes b opens = b ≡ 40
Codes b closes = b ≡ 41
Codes b opens_list = b ≡ 91
Codes b closes_list = b ≡ 93
Codes b comma = b ≡ 44
Codes b (letter_of basis) = letter basis ≡ b ∷ []
Codes b other = Unit {0}

same : (b k : ℕ) → b == k ≡ true → b ≡ k
same b k h = eqb-true b k h

pub symbol-codes : (b : ℕ) → Codes b (symbol b)
symbol-codes b = search rules

-- the bytes of the text before a term
abbrev pub written_term : BeforeTerm Phrase → List ℕ
written_term no_term = []
written_term negating = codes "-"
written_term (adding e) = spelling e ++ codes "+"
written_term (subtracting e) = spelling e ++ codes "-"

abbrev pub written_factor : BeforeFactor Phrase → List ℕ
written_factor no_factor = []
written_factor (multiplying e) = spelling e ++ codes "*"

abbrev pub written_opened : Opened Phrase → List ℕ
written_opened outermost = []
written_opened (inside o t f) = written_opened o ++ (written_term t ++ (written_factor f ++ codes "("))

-- the text of a list of numbers with a comma after each number; a number is given by the list of its digits
abbrev pub commas : List (List ℕ) → List ℕ
commas [] = []
commas (w ∷ ws) = w ++ (codes "," ++ commas ws)

abbrev pub written_piece : Piece Phrase (List ℕ) → List ℕ
written_piece awaited = []
written_piece (in_number ds) = ds
written_piece (after_slash ds) = ds ++ codes "/"
written_piece (in_denominator ds es) = ds ++ (codes "/" ++ es)
written_piece (after_letter basis) = letter basis
written_piece (in_list basis ws) = letter basis ++ (codes "[" ++ commas ws)
written_piece (in_entry basis ws ds) = letter basis ++ (codes "[" ++ (commas ws ++ ds))
written_piece (closed e) = spelling e

abbrev pub written : Reading → List ℕ
written (at p t f o) = written_opened o ++ (written_term t ++ (written_factor f ++ written_piece p))
written dead = []

-- the phrase before a term, if there is one, is an expression of the grammar
abbrev pub SoundTerm : BeforeTerm Phrase → Type 0
SoundTerm (adding e) = Is expression e
SoundTerm (subtracting e) = Is expression e
SoundTerm _ = Unit {0}

abbrev pub SoundFactor : BeforeFactor Phrase → Type 0
SoundFactor (multiplying e) = Is term e
SoundFactor no_factor = Unit {0}

abbrev pub SoundOpened : Opened Phrase → Type 0
SoundOpened outermost = Unit {0}
SoundOpened (inside o t f) = SoundOpened o × SoundTerm t × SoundFactor f

abbrev pub SoundPiece : Piece Phrase (List ℕ) → Type 0
SoundPiece awaited = Unit {0}
SoundPiece (in_number ds) = IsNumberWord ds
SoundPiece (after_slash ds) = IsNumberWord ds
SoundPiece (in_denominator ds es) = IsNumberWord ds × IsNumberWord es
SoundPiece (after_letter basis) = Unit {0}
SoundPiece (in_list basis ws) = AreNumberWords ws
SoundPiece (in_entry basis ws ds) = AreNumberWords ws × IsNumberWord ds
SoundPiece (closed e) = Is factor e

abbrev pub Sound : Reading → Type 0
Sound (at p t f o) = SoundPiece p × SoundTerm t × SoundFactor f × SoundOpened o
Sound dead = Unit {0}

-- the state is `dead`, or it satisfies `Sound` (each phrase in it has the level that the grammar requires) and `w` is the list of the bytes read
abbrev pub Continues : List ℕ → Reading → Type 0
Continues w dead = Unit {0}
Continues w (at p t f o) = (written (at p t f o) ≡ w) × Sound (at p t f o)

pub spelling-join_factor : (f : BeforeFactor Phrase) (x : Phrase) → spelling (join_factor phrases f x) ≡ written_factor f ++ spelling x
spelling-join_factor no_factor x = refl
spelling-join_factor (multiplying e) x = sym (append_assoc (spelling e) (codes "*") (spelling x))

pub spelling-join_term : (t : BeforeTerm Phrase) (x : Phrase) → spelling (join_term phrases t x) ≡ written_term t ++ spelling x
spelling-join_term no_term x = refl
spelling-join_term negating x = refl
spelling-join_term (adding e) x = sym (append_assoc (spelling e) (codes "+") (spelling x))
spelling-join_term (subtracting e) x = sym (append_assoc (spelling e) (codes "-") (spelling x))

pub spelling-join : (t : BeforeTerm Phrase) (f : BeforeFactor Phrase) (x : Phrase) → spelling (join phrases t f x) ≡ written_term t ++ (written_factor f ++ spelling x)
spelling-join t f x = spelling-join_term t (join_factor phrases f x) ∙ ap (λ w. written_term t ++ w) (spelling-join_factor f x)

as-term : (x : Phrase) → Is factor x → Is term x
as-term (numeral ds) h = h
as-term (ratio ds es) h = h
as-term (label basis ws) h = h
as-term (brackets e) h = h
as-term (minus_first e) h = absurd h.0
as-term (operation operator l r) h = absurd (factor_covers operator h.0)

as-expression : (x : Phrase) → Is term x → Is expression x
as-expression (numeral ds) h = h
as-expression (ratio ds es) h = h
as-expression (label basis ws) h = h
as-expression (brackets e) h = h
as-expression (minus_first e) h = absurd h.0
as-expression (operation times l r) h = h
as-expression (operation plus l r) h = absurd h.0
as-expression (operation minus l r) h = absurd h.0

pub Is-join_factor : (f : BeforeFactor Phrase) (x : Phrase) → SoundFactor f → Is factor x → Is term (join_factor phrases f x)
Is-join_factor no_factor x h a = as-term x a
Is-join_factor (multiplying e) x h a = (tt, h, a)

pub Is-join_term : (t : BeforeTerm Phrase) (x : Phrase) → SoundTerm t → Is term x → Is expression (join_term phrases t x)
Is-join_term no_term x h a = as-expression x a
Is-join_term negating x h a = (tt, a)
Is-join_term (adding e) x h a = (tt, h, a)
Is-join_term (subtracting e) x h a = (tt, h, a)

pub Is-join : (t : BeforeTerm Phrase) (f : BeforeFactor Phrase) (x : Phrase) → SoundTerm t → SoundFactor f → Is factor x → Is expression (join phrases t f x)
Is-join t f x h k a = Is-join_term t (join_factor phrases f x) h (Is-join_factor f x k a)

joined : (w : List ℕ) (t : BeforeTerm Phrase) (f : BeforeFactor Phrase) (x e : Phrase) → Is factor x → SoundTerm t → SoundFactor f
    → w ≡ written_term t ++ (written_factor f ++ spelling x) → Some (join phrases t f x) ≡ Some e → SpellsPhrase w e
joined w t f x e a ht hf h k = search (rules, same, Is-join, spelling-join)

one_digit : (c b : ℕ) → c ≡ b → IsDigit b → IsNumberWord (c ∷ [])
one_digit c b e h = record { nonempty = omega arith; digits = (subst IsDigit (sym e) h, tt) }

AreDigits-snoc : (ds : List ℕ) (c : ℕ) → AreDigits ds → IsDigit c → AreDigits (ds ++ c ∷ [])
AreDigits-snoc [] c h k = (k, tt)
AreDigits-snoc (d ∷ ds) c h k = (h.0, AreDigits-snoc ds c h.1 k)

IsNumberWord-snoc : (ds : List ℕ) (c b : ℕ) → c ≡ b → IsDigit b → IsNumberWord ds → IsNumberWord (ds ++ c ∷ [])
IsNumberWord-snoc ds c b e h k = search (rules, length-append, AreDigits-snoc)

after-factor : (b : ℕ) (s : Symbol) (x : Phrase) (t : BeforeTerm Phrase) (f : BeforeFactor Phrase) (o : Opened Phrase) → Codes b s → Is factor x → SoundTerm t → SoundFactor f → SoundOpened o
    → Continues ((written_opened o ++ (written_term t ++ (written_factor f ++ spelling x))) ++ b ∷ []) (after_factor phrases x t f o s)
after-factor b star x t f o e a ht hf ho =
    (simp (e, spelling-join_factor, append_assoc, append-nil), (tt, ht, Is-join_factor f x hf a, ho))
after-factor b plus_sign x t f o e a ht hf ho =
    (simp (e, spelling-join, append_assoc, append-nil), (tt, Is-join t f x ht hf a, tt, ho))
after-factor b minus_sign x t f o e a ht hf ho =
    (simp (e, spelling-join, append_assoc, append-nil), (tt, Is-join t f x ht hf a, tt, ho))
after-factor b closes x t f (inside o t' f') e a ht hf ho =
    (simp (e, spelling-join, append_assoc), (Is-join t f x ht hf a, ho.1, ho.2, ho.0))
after-factor b _ x t f o e a ht hf ho = tt

before-factor : (b : ℕ) (s : Symbol) (t : BeforeTerm Phrase) (f : BeforeFactor Phrase) (o : Opened Phrase) → Codes b s → SoundTerm t → SoundFactor f → SoundOpened o
    → Continues ((written_opened o ++ (written_term t ++ (written_factor f ++ []))) ++ b ∷ []) (before_factor phrases t f o s)
before-factor b (digit c) t f o e ht hf ho =
    (simp (e.0, append_assoc, append-nil), (one_digit c b e.0 e.1, ht, hf, ho))
before-factor b (letter_of basis) t f o e ht hf ho =
    (simp (e, append_assoc, append-nil), (tt, ht, hf, ho))
before-factor b opens t f o e ht hf ho =
    (simp (e, append_assoc, append-nil), (tt, tt, tt, (ho, ht, hf)))
before-factor b minus_sign no_term no_factor o e ht hf ho =
    (simp (e, append-nil), (tt, tt, tt, ho))
before-factor b _ t f o e ht hf ho = tt

pub comma_separated-snoc : (ws : List (List ℕ)) (w : List ℕ) → comma_separated (ws ++ w ∷ []) ≡ commas ws ++ w
comma_separated-snoc [] w = refl
comma_separated-snoc (v ∷ []) w = simp (append_assoc, append-nil)
comma_separated-snoc (v ∷ u ∷ ws) w =
    ap (λ x. v ++ (codes "," ++ x)) (comma_separated-snoc (u ∷ ws) w) ∙ sym (append_assoc v (codes "," ++ commas (u ∷ ws)) w)

commas-snoc : (ws : List (List ℕ)) (w : List ℕ) → commas (ws ++ w ∷ []) ≡ commas ws ++ (w ++ codes ",")
commas-snoc [] w = refl
commas-snoc (v ∷ ws) w =
    ap (λ x. v ++ (codes "," ++ x)) (commas-snoc ws w) ∙ sym (append_assoc v (codes "," ++ commas ws) (w ++ codes ","))

AreNumberWords-snoc : (ws : List (List ℕ)) (w : List ℕ) → AreNumberWords ws → IsNumberWord w → AreNumberWords (ws ++ w ∷ [])
AreNumberWords-snoc [] w h k = (k, tt)
AreNumberWords-snoc (v ∷ ws) w h k = (h.0, AreNumberWords-snoc ws w h.1 k)

in-list : (b : ℕ) (s : Symbol) (basis : Basis) (ws : List (List ℕ)) (t : BeforeTerm Phrase) (f : BeforeFactor Phrase) (o : Opened Phrase) → Codes b s → AreNumberWords ws → SoundTerm t → SoundFactor f → SoundOpened o
    → Continues ((written_opened o ++ (written_term t ++ (written_factor f ++ (letter basis ++ (codes "[" ++ commas ws))))) ++ b ∷ []) (in_list_step phrases basis ws t f o s)
in-list b (digit c) basis ws t f o e hw ht hf ho =
    (simp (e.0, append_assoc), ((hw, one_digit c b e.0 e.1), ht, hf, ho))
in-list b closes_list basis [] t f o e hw ht hf ho =
    (simp (e, append_assoc, append-nil), (tt, ht, hf, ho))
in-list b _ basis ws t f o e hw ht hf ho = tt

-- if the state x is sound, the state after one more byte b is `dead`, or it is sound and the bytes read are those of x followed by b
pub continues : (b : ℕ) (s : Symbol) (x : Reading) → Codes b s → Sound x → Continues (written x ++ b ∷ []) (step phrases x s)
continues b s dead e h = tt
continues b s (at awaited t f o) e h = before-factor b s t f o e h.1 h.2 h.3
continues b (digit c) (at (in_number ds) t f o) e h =
    (simp (e.0, append_assoc), (IsNumberWord-snoc ds c b e.0 e.1 h.0, h.1, h.2, h.3))
continues b slash (at (in_number ds) t f o) e h = (simp (e, append_assoc), h)
continues b s (at (in_number ds) t f o) e h = after-factor b s (numeral ds) t f o e h.0 h.1 h.2 h.3
continues b (digit c) (at (after_slash ds) t f o) e h =
    (simp (e.0, append_assoc), ((h.0, one_digit c b e.0 e.1), h.1, h.2, h.3))
continues b s (at (after_slash ds) t f o) e h = tt
continues b (digit c) (at (in_denominator ds es) t f o) e h =
    (simp (e.0, append_assoc), ((h.0.0, IsNumberWord-snoc es c b e.0 e.1 h.0.1), h.1, h.2, h.3))
continues b s (at (in_denominator ds es) t f o) e h = after-factor b s (ratio ds es) t f o e h.0 h.1 h.2 h.3
continues b opens_list (at (after_letter basis) t f o) e h = (simp (e, append_assoc), (tt, h.1, h.2, h.3))
continues b s (at (after_letter basis) t f o) e h = tt
continues b s (at (in_list basis ws) t f o) e h = in-list b s basis ws t f o e h.0 h.1 h.2 h.3
continues b (digit c) (at (in_entry basis ws ds) t f o) e h =
    (simp (e.0, append_assoc), ((h.0.0, IsNumberWord-snoc ds c b e.0 e.1 h.0.1), h.1, h.2, h.3))
continues b comma (at (in_entry basis ws ds) t f o) e h =
    (simp (e, commas-snoc, append_assoc), (AreNumberWords-snoc ws ds h.0.0 h.0.1, h.1, h.2, h.3))
continues b closes_list (at (in_entry basis ws ds) t f o) e h =
    (simp (e, comma_separated-snoc, append_assoc), (AreNumberWords-snoc ws ds h.0.0 h.0.1, h.1, h.2, h.3))
continues b s (at (in_entry basis ws ds) t f o) e h = tt
continues b s (at (closed x) t f o) e h = after-factor b s x t f o e h.0 h.1 h.2 h.3

pub read-dead : (w : List ℕ) → read_on w dead ≡ dead
read-dead [] = refl
read-dead (b ∷ w) = read-dead w

-- if the state x is sound, the state after a text w is read is `dead`, or it is sound and the bytes read are those of x followed by w
pub read-written : (w : List ℕ) (x : Reading) → Sound x → Continues (written x ++ w) (read_on w x)
read-written [] dead h = tt
read-written [] (at p t f o) h = (sym (append-nil (written (at p t f o))), h)
read-written (b ∷ w) x h =
    next w b x (step phrases x (symbol b)) (continues b (symbol b) x (symbol-codes b) h) (read-written w)
  where
    next : (w : List ℕ) (b : ℕ) (x y : Reading) → Continues (written x ++ b ∷ []) y → ((z : Reading) → Sound z → Continues (written z ++ w) (read_on w z)) → Continues (written x ++ b ∷ w) (read_on w y)
    next w b x dead k ih = subst (Continues (written x ++ b ∷ w)) (sym (read-dead w)) tt
    next w b x (at p t f o) k ih =
        subst (λ v. Continues v (read_on w (at p t f o)))
        (ap (λ v. v ++ w) k.0 ∙ append_assoc (written x) (b ∷ []) w)
        (ih (at p t f o) k.1)

-- some bytes that make the current factor complete if they are read next
abbrev rest_of : Piece Phrase (List ℕ) → List ℕ
rest_of awaited = codes "1"
rest_of (in_number ds) = []
rest_of (after_slash ds) = codes "1"
rest_of (in_denominator ds es) = []
rest_of (after_letter basis) = codes "[]"
rest_of (in_list basis ws) = codes "1]"
rest_of (in_entry basis ws ds) = codes "]"
rest_of (closed e) = []

abbrev closers : Opened Phrase → List ℕ
closers outermost = []
closers (inside o t f) = codes ")" ++ closers o

-- the complete factor that the current factor becomes if the bytes `rest_of` are read next
abbrev factor_from : Piece Phrase (List ℕ) → Phrase
factor_from awaited = numeral (codes "1")
factor_from (in_number ds) = numeral ds
factor_from (after_slash ds) = ratio ds (codes "1")
factor_from (in_denominator ds es) = ratio ds es
factor_from (after_letter basis) = label basis []
factor_from (in_list basis ws) = label basis (ws ++ codes "1" ∷ [])
factor_from (in_entry basis ws ds) = label basis (ws ++ ds ∷ [])
factor_from (closed e) = e

abbrev close : Phrase → Opened Phrase → Phrase
close e outermost = e
close e (inside o t f) = close (join phrases t f (brackets e)) o

pub one_is_number : IsNumberWord (codes "1")
one_is_number = record { nonempty = omega arith; digits = ((omega arith, omega arith), tt) }

spelling-factor_from : (p : Piece Phrase (List ℕ)) → spelling (factor_from p) ≡ written_piece p ++ rest_of p
spelling-factor_from awaited = refl
spelling-factor_from (in_number ds) = sym (append-nil ds)
spelling-factor_from (after_slash ds) = sym (append_assoc ds (codes "/") (codes "1"))
spelling-factor_from (in_denominator ds es) = sym (append-nil (ds ++ (codes "/" ++ es)))
spelling-factor_from (after_letter basis) = refl
spelling-factor_from (in_list basis ws) = simp (comma_separated-snoc, append_assoc)
spelling-factor_from (in_entry basis ws ds) = simp (comma_separated-snoc, append_assoc)
spelling-factor_from (closed e) = sym (append-nil (spelling e))

Is-factor_from : (p : Piece Phrase (List ℕ)) → SoundPiece p → Is factor (factor_from p)
Is-factor_from awaited h = one_is_number
Is-factor_from (in_number ds) h = h
Is-factor_from (after_slash ds) h = (h, one_is_number)
Is-factor_from (in_denominator ds es) h = h
Is-factor_from (after_letter basis) h = tt
Is-factor_from (in_list basis ws) h = AreNumberWords-snoc ws (codes "1") h one_is_number
Is-factor_from (in_entry basis ws ds) h = AreNumberWords-snoc ws ds h.0 h.1
Is-factor_from (closed e) h = h

regroup : (a b c d e f : List ℕ) → a ++ ((b ++ (c ++ (d ++ e))) ++ f) ≡ (a ++ (b ++ (c ++ d))) ++ (e ++ f)
regroup a b c d e f = simp append_assoc

regroup_open : (a b c d e : List ℕ) → a ++ ((b ++ (c ++ (codes "(" ++ (d ++ codes ")")))) ++ e) ≡ (a ++ (b ++ (c ++ codes "("))) ++ (d ++ (codes ")" ++ e))
regroup_open a b c d e = simp append_assoc

spelling-close : (e : Phrase) (o : Opened Phrase) → spelling (close e o) ≡ written_opened o ++ (spelling e ++ closers o)
spelling-close e outermost = sym (append-nil (spelling e))
spelling-close e (inside o t f) =
    spelling-close (join phrases t f (brackets e)) o
    ∙ ap (λ v. written_opened o ++ (v ++ closers o)) (spelling-join t f (brackets e))
    ∙ regroup_open (written_opened o) (written_term t) (written_factor f) (spelling e) (closers o)

Is-close : (e : Phrase) (o : Opened Phrase) → Is expression e → SoundOpened o → Is expression (close e o)
Is-close e outermost h k = h
Is-close e (inside o t f) h k = Is-close (join phrases t f (brackets e)) o (Is-join t f (brackets e) k.1 k.2 h) k.0

complete : (w : List ℕ) (x : Reading) → Continues w x → is_live x ≡ true → BeginsExpression w
complete w dead h live = cc
complete w (at p t f o) h live = (
  rest_of p ++ closers o,
  close (join phrases t f (factor_from p)) o,
  record {
    allowed = Is-close _ o (Is-join t f (factor_from p) h.1.1 h.1.2 (Is-factor_from p h.1.0)) h.1.3;
    spelled = sym (
        spelling-close (join phrases t f (factor_from p)) o
        ∙ ap (λ v. written_opened o ++ (v ++ closers o))
        (spelling-join t f (factor_from p) ∙ ap (λ v. written_term t ++ (written_factor f ++ v)) (spelling-factor_from p))
        ∙ regroup (written_opened o) (written_term t) (written_factor f) (written_piece p) (rest_of p) (closers o)
        ∙ ap (λ v. v ++ (rest_of p ++ closers o)) h.0);
  },
)

-- if the state after reading a text from the start is not `dead`, some expression begins with the text
pub begins-from_live : (w : List ℕ) → is_live (read_on w start) ≡ true → BeginsExpression w
begins-from_live w h = complete w (read_on w start) (read-written w start (tt, tt, tt, tt)) h

live-or_dead : (x : Reading) → (x ≡ dead → ⊥) → is_live x ≡ true
live-or_dead dead h = absurd (h refl)
live-or_dead (at p t f o) h = refl

found-dead : (w : List ℕ) (x : Reading) (e : Phrase) → x ≡ dead → found phrases (read_on w x) ≡ Some e → ⊥
found-dead w x e h k = let d = ap (λ y. found phrases (read_on w y)) h ∙ ap (found phrases) (read-dead w) in cc

-- if some expression begins with a text, the state after reading the text from the start is not `dead`
pub live-from_begins : (w : List ℕ) → BeginsExpression w → is_live (read_on w start) ≡ true
live-from_begins w h =
    live-or_dead (read_on w start) (λ e.
    found-dead h.0 (read_on w start) h.1 e
    (ap (found phrases) (sym (read-append w h.0 start)) ∙ found-spelled (w ++ h.0) h.1 h.2))

whole : (w : List ℕ) (x : Reading) (e : Phrase) → Continues w x → found phrases x ≡ Some e → SpellsPhrase w e
whole w dead e h k = cc
whole w (at p t f (inside o t' f')) e h k = cc
whole w (at (in_number ds) t f outermost) e h k = joined w t f (numeral ds) e h.1.0 h.1.1 h.1.2 (sym h.0) k
whole w (at (in_denominator ds es) t f outermost) e h k = joined w t f (ratio ds es) e h.1.0 h.1.1 h.1.2 (sym h.0) k
whole w (at (closed x) t f outermost) e h k = joined w t f x e h.1.0 h.1.1 h.1.2 (sym h.0) k
whole w (at awaited t f outermost) e h k = cc
whole w (at (after_slash ds) t f outermost) e h k = cc
whole w (at (after_letter basis) t f outermost) e h k = cc
whole w (at (in_list basis ws) t f outermost) e h k = cc
whole w (at (in_entry basis ws ds) t f outermost) e h k = cc

pub spells-from_found : (w : List ℕ) (e : Phrase) → found phrases (read_on w start) ≡ Some e → SpellsPhrase w e
spells-from_found w e h = whole w (read_on w start) e (read-written w start (tt, tt, tt, tt)) h
