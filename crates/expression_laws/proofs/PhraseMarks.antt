-- A *phrase* is the syntax tree of an expression or of a part of one. Its *marks* are its numbers and its opening parentheses, each with the byte at
-- which it begins (specs/ExpressionOffence). The machine of specs/LeftToRight reads an expression byte by byte; its *state* (`Reading`) has the parts
-- of the expression that it has read. Here the marks of a phrase are computed from the states of the machine.
use Rattle.std.proofs.Common.{◌≡◌, ℕ, ◌+◌, List, [], ◌∷◌, ◌++◌, length, length-append, refl, sym, ap, ◌∙◌, subst, append_assoc, arith, Option, Some, None, rules}
use Rattle.std.proofs.lemmas.List.{append-nil}
use Rattle.std.specs.Prelude.{codes, option_to_list}
use Rattle.sym_model.specs.Expansion.{Basis}
use Rattle.sym_model.specs.PrintedBlock.{decimal_value}
use Rattle.sym_model.specs.Phrase.{Phrase, numeral, ratio}
use Rattle.sym_model.specs.ExpressionOffence.{Mark, value, denominator, entry, opening, marks, entry_marks}
use Rattle.expression_laws.specs.LeftToRight.{Symbol, digit, plus_sign, minus_sign, star, slash, opens, closes, opens_list, closes_list, comma, letter_of, other, BeforeTerm, no_term, negating, adding, subtracting, BeforeFactor, no_factor, multiplying, Opened, outermost, inside, Piece, awaited, in_number, after_slash, in_denominator, after_letter, in_list, in_entry, closed, at, dead, step, phrases, join, join_factor, join_term, after_factor, found}
use Rattle.expression_laws.proofs.PhraseRuns.{Reading}
use Rattle.expression_laws.proofs.PhrasePrefixes.{written_term, written_factor, written_opened, commas}

abbrev pub Marks : Type 0
Marks = List (ℕ × Mark)

-- the number of open parentheses
abbrev pub depth_of : Opened Phrase → ℕ
depth_of outermost = 0
depth_of (inside o t f) = depth_of o + 1

-- the byte at which the expression within the innermost open parenthesis begins, or 0 if no parenthesis is open
abbrev pub term_begin : Opened Phrase → ℕ
term_begin o = length (written_opened o)

abbrev pub factor_begin : BeforeTerm Phrase → Opened Phrase → ℕ
factor_begin t o = term_begin o + length (written_term t)

abbrev pub piece_begin : BeforeTerm Phrase → BeforeFactor Phrase → Opened Phrase → ℕ
piece_begin t f o = factor_begin t o + length (written_factor f)

abbrev pub term_marks : ℕ → ℕ → BeforeTerm Phrase → Marks
term_marks d b (adding e) = marks d b e
term_marks d b (subtracting e) = marks d b e
term_marks d b _ = []

abbrev pub factor_marks : ℕ → ℕ → BeforeFactor Phrase → Marks
factor_marks d b (multiplying e) = marks d b e
factor_marks d b no_factor = []

abbrev pub opened_marks : Opened Phrase → Marks
opened_marks outermost = []
opened_marks (inside o t f) =
    opened_marks o ++ (term_marks (depth_of o) (term_begin o) t
    ++ (factor_marks (depth_of o) (factor_begin t o) f ++ (piece_begin t f o, opening (depth_of o + 1)) ∷ []))

-- the marks of the complete numbers and parentheses in the part of the current factor that is read; the factor begins at the byte b, after d open
-- parentheses
abbrev pub piece_marks : ℕ → ℕ → Piece Phrase (List ℕ) → Marks
piece_marks d b (after_slash n) = (b, value (decimal_value n)) ∷ []
piece_marks d b (in_denominator n ds) = (b, value (decimal_value n)) ∷ []
piece_marks d b (in_list basis ws) = entry_marks (b + 2) 0 None ws
piece_marks d b (in_entry basis ws ds) = entry_marks (b + 2) 0 None ws
piece_marks d b (closed e) = marks d b e
piece_marks d b _ = []

abbrev pub state_marks : Reading → Marks
state_marks dead = []
state_marks (at p t f o) =
    opened_marks o ++ (term_marks (depth_of o) (term_begin o) t
    ++ (factor_marks (depth_of o) (factor_begin t o) f ++ piece_marks (depth_of o) (piece_begin t f o) p))

-- the value of the last number of ws, or `before` if ws is empty; a number is given by the list of its digits
abbrev pub last_value : Option ℕ → List (List ℕ) → Option ℕ
last_value before [] = before
last_value before (w ∷ ws) = last_value (Some (decimal_value w)) ws

-- the mark of the number whose digits are being read, if there is one, in a factor that begins at the byte b
abbrev pub piece_mark : ℕ → Piece Phrase (List ℕ) → Option (ℕ × Mark)
piece_mark b (in_number ds) = Some (b, value (decimal_value ds))
piece_mark b (in_denominator n ds) = Some (b + length n + 1, denominator (decimal_value ds))
piece_mark b (in_entry basis ws ds) = Some (b + 2 + length (commas ws), entry (length ws) (last_value None ws) (decimal_value ds))
piece_mark b _ = None

-- the mark that becomes complete when the symbol is read in the state: the mark of a number that the symbol ends, or of an opening parenthesis, or
-- None
abbrev pub new_mark : Reading → Symbol → Option (ℕ × Mark)
new_mark dead s = None
new_mark (at p t f o) (digit b) = None
new_mark (at p t f o) opens = Some (piece_begin t f o, opening (depth_of o + 1))
new_mark (at p t f o) _ = piece_mark (piece_begin t f o) p

entry_marks-snoc : (b k : ℕ) (before : Option ℕ) (ws : List (List ℕ)) (w : List ℕ)
    → entry_marks b k before (ws ++ w ∷ []) ≡ entry_marks b k before ws ++ (b + length (commas ws), entry (k + length ws) (last_value before ws) (decimal_value w)) ∷ []
entry_marks-snoc b k before [] w = search rules
entry_marks-snoc b k before (v ∷ ws) w =
    let place : b + length v + 1 + length (commas ws) ≡ b + length (v ++ (codes "," ++ commas ws)) = simp length-append (omega arith) in
    let count : k + 1 + length ws ≡ k + length (v ∷ ws) = omega arith in
    ap (λ ms. (b, entry k before (decimal_value v)) ∷ ms)
    (entry_marks-snoc (b + length v + 1) (k + 1) (Some (decimal_value v)) ws w
    ∙ ap (λ n. entry_marks (b + length v + 1) (k + 1) (Some (decimal_value v)) ws ++ (n, entry (k + 1 + length ws) (last_value before (v ∷ ws)) (decimal_value w)) ∷ []) place
    ∙ ap (λ n. entry_marks (b + length v + 1) (k + 1) (Some (decimal_value v)) ws ++ (b + length (v ++ (codes "," ++ commas ws)), entry n (last_value before (v ∷ ws)) (decimal_value w)) ∷ []) count)

pub entry_marks-next : (b : ℕ) (ws : List (List ℕ)) (w : List ℕ)
    → entry_marks b 0 None (ws ++ w ∷ []) ≡ entry_marks b 0 None ws ++ (b + length (commas ws), entry (length ws) (last_value None ws) (decimal_value w)) ∷ []
entry_marks-next b ws w = search (rules, entry_marks-snoc, commas)

marks-join_factor : (d b : ℕ) (f : BeforeFactor Phrase) (x : Phrase) → marks d b (join_factor phrases f x) ≡ factor_marks d b f ++ marks d (b + length (written_factor f)) x
marks-join_factor d b no_factor x = ap (λ n. marks d n x) (omega arith)
marks-join_factor d b (multiplying e) x = ap (λ n. marks d b e ++ marks d n x) (simp length-append (omega arith))

marks-join_term : (d b : ℕ) (t : BeforeTerm Phrase) (x : Phrase) → marks d b (join_term phrases t x) ≡ term_marks d b t ++ marks d (b + length (written_term t)) x
marks-join_term d b no_term x = ap (λ n. marks d n x) (omega arith)
marks-join_term d b negating x = refl
marks-join_term d b (adding e) x = ap (λ n. marks d b e ++ marks d n x) (simp length-append (omega arith))
marks-join_term d b (subtracting e) x = ap (λ n. marks d b e ++ marks d n x) (simp length-append (omega arith))

pub marks-join : (d b : ℕ) (t : BeforeTerm Phrase) (f : BeforeFactor Phrase) (x : Phrase)
    → marks d b (join phrases t f x) ≡ term_marks d b t ++ (factor_marks d (b + length (written_term t)) f ++ marks d (b + length (written_term t) + length (written_factor f)) x)
marks-join d b t f x =
    marks-join_term d b t (join_factor phrases f x) ∙ ap (λ ms. term_marks d b t ++ ms) (marks-join_factor d (b + length (written_term t)) f x)

-- the state is `dead`, or its marks are ms
abbrev pub MarksAre : Marks → Reading → Type 0
MarksAre ms dead = Unit {0}
MarksAre ms (at p t f o) = state_marks (at p t f o) ≡ ms

cast : (ms ns : Marks) (x : Reading) → ms ≡ ns → MarksAre ms x → MarksAre ns x
cast ms ns x e h = subst (λ v. MarksAre v x) e h

pub begin-inside : (o : Opened Phrase) (t : BeforeTerm Phrase) (f : BeforeFactor Phrase) → term_begin (inside o t f) ≡ piece_begin t f o + 1
begin-inside o t f = simp length-append (omega arith)

regroup : (a t f r : Marks) (m : ℕ × Mark) → a ++ (t ++ (f ++ m ∷ r)) ≡ (a ++ (t ++ (f ++ m ∷ []))) ++ r
regroup a t f r m = simp append_assoc

after-factor : (s : Symbol) (x : Phrase) (t : BeforeTerm Phrase) (f : BeforeFactor Phrase) (o : Opened Phrase)
    → MarksAre (state_marks (at (closed x) t f o)) (after_factor phrases x t f o s)
after-factor star x t f o = search (rules, append-nil, marks-join_factor)
after-factor plus_sign x t f o =
    ap (λ ms. opened_marks o ++ ms) (append-nil _ ∙ marks-join (depth_of o) (term_begin o) t f x)
after-factor minus_sign x t f o =
    ap (λ ms. opened_marks o ++ ms) (append-nil _ ∙ marks-join (depth_of o) (term_begin o) t f x)
after-factor closes x t f (inside o t' f') = search (rules, begin-inside, marks-join, regroup)
after-factor _ x t f o = tt

last : (a t f : Marks) (m : ℕ × Mark) → a ++ (t ++ (f ++ m ∷ [])) ≡ (a ++ (t ++ (f ++ []))) ++ m ∷ []
last a t f m = simp (append_assoc, append-nil)

last_two : (a t f : Marks) (l m : ℕ × Mark) → a ++ (t ++ (f ++ l ∷ m ∷ [])) ≡ (a ++ (t ++ (f ++ l ∷ []))) ++ m ∷ []
last_two a t f l m = simp append_assoc

last_entry : (a t f es : Marks) (m : ℕ × Mark) → a ++ (t ++ (f ++ (es ++ m ∷ []))) ≡ (a ++ (t ++ (f ++ es))) ++ m ∷ []
last_entry a t f es m = simp append_assoc

opened-next : (a t f : Marks) (m : ℕ × Mark) → (a ++ (t ++ (f ++ m ∷ []))) ++ ([] ++ ([] ++ [])) ≡ (a ++ (t ++ (f ++ []))) ++ m ∷ []
opened-next a t f m = simp (append_assoc, append-nil)

entry-next : (ws : List (List ℕ)) (ds : List ℕ) (t : BeforeTerm Phrase) (f : BeforeFactor Phrase) (o : Opened Phrase) (basis : Basis)
    → opened_marks o ++ (term_marks (depth_of o) (term_begin o) t
    ++ (factor_marks (depth_of o) (factor_begin t o) f ++ entry_marks (piece_begin t f o + 2) 0 None (ws ++ ds ∷ [])))
    ≡ state_marks (at (in_entry basis ws ds) t f o) ++ (piece_begin t f o + 2 + length (commas ws), entry (length ws) (last_value None ws) (decimal_value ds)) ∷ []
entry-next ws ds t f o basis = search (rules, entry_marks-next, last_entry)

abbrev Adds : Reading → Symbol → Type 0
Adds x s = MarksAre (state_marks x ++ option_to_list (new_mark x s)) (step phrases x s)

after-numeral : (s : Symbol) (ds : List ℕ) (t : BeforeTerm Phrase) (f : BeforeFactor Phrase) (o : Opened Phrase)
    → MarksAre (state_marks (at (in_number ds) t f o) ++ (piece_begin t f o, value (decimal_value ds)) ∷ []) (after_factor phrases (numeral ds) t f o s)
after-numeral s ds t f o = search (rules, cast, last, after-factor)

after-ratio : (s : Symbol) (n ds : List ℕ) (t : BeforeTerm Phrase) (f : BeforeFactor Phrase) (o : Opened Phrase)
    → MarksAre (state_marks (at (in_denominator n ds) t f o) ++ (piece_begin t f o + length n + 1, denominator (decimal_value ds)) ∷ []) (after_factor phrases (ratio n ds) t f o s)
after-ratio s n ds t f o = search (rules, cast, last_two, after-factor)

after-closed : (s : Symbol) (x : Phrase) (t : BeforeTerm Phrase) (f : BeforeFactor Phrase) (o : Opened Phrase)
    → MarksAre (state_marks (at (closed x) t f o) ++ []) (after_factor phrases x t f o s)
after-closed s x t f o = cast _ _ (after_factor phrases x t f o s) (sym (append-nil _)) (after-factor s x t f o)

before-factor : (s : Symbol) (t : BeforeTerm Phrase) (f : BeforeFactor Phrase) (o : Opened Phrase) → Adds (at awaited t f o) s
before-factor (digit b) t f o = sym (append-nil _)
before-factor (letter_of basis) t f o = sym (append-nil _)
before-factor opens t f o =
    opened-next (opened_marks o) (term_marks (depth_of o) (term_begin o) t) (factor_marks (depth_of o) (factor_begin t o) f) _
before-factor minus_sign no_term no_factor o = sym (append-nil _)
before-factor _ t f o = tt

in-list : (s : Symbol) (basis : Basis) (ws : List (List ℕ)) (t : BeforeTerm Phrase) (f : BeforeFactor Phrase) (o : Opened Phrase) → Adds (at (in_list basis ws) t f o) s
in-list (digit b) basis ws t f o = sym (append-nil _)
in-list closes_list basis [] t f o = sym (append-nil _)
in-list _ basis ws t f o = tt

in-number : (s : Symbol) (ds : List ℕ) (t : BeforeTerm Phrase) (f : BeforeFactor Phrase) (o : Opened Phrase) → Adds (at (in_number ds) t f o) s
in-number (digit b) ds t f o = sym (append-nil _)
in-number slash ds t f o =
    last (opened_marks o) (term_marks (depth_of o) (term_begin o) t) (factor_marks (depth_of o) (factor_begin t o) f) _
in-number star ds t f o = after-numeral star ds t f o
in-number plus_sign ds t f o = after-numeral plus_sign ds t f o
in-number minus_sign ds t f o = after-numeral minus_sign ds t f o
in-number closes ds t f o = after-numeral closes ds t f o
in-number _ ds t f o = tt

in-denominator : (s : Symbol) (n ds : List ℕ) (t : BeforeTerm Phrase) (f : BeforeFactor Phrase) (o : Opened Phrase) → Adds (at (in_denominator n ds) t f o) s
in-denominator (digit b) n ds t f o = sym (append-nil _)
in-denominator star n ds t f o = after-ratio star n ds t f o
in-denominator plus_sign n ds t f o = after-ratio plus_sign n ds t f o
in-denominator minus_sign n ds t f o = after-ratio minus_sign n ds t f o
in-denominator closes n ds t f o = after-ratio closes n ds t f o
in-denominator _ n ds t f o = tt

in-closed : (s : Symbol) (x : Phrase) (t : BeforeTerm Phrase) (f : BeforeFactor Phrase) (o : Opened Phrase) → Adds (at (closed x) t f o) s
in-closed star x t f o = after-closed star x t f o
in-closed plus_sign x t f o = after-closed plus_sign x t f o
in-closed minus_sign x t f o = after-closed minus_sign x t f o
in-closed closes x t f o = after-closed closes x t f o
in-closed _ x t f o = tt

-- if the symbol s is read in the state x, the new state is `dead`, or its marks are the marks of x, followed by the mark `new_mark x s` if there is
-- one
pub marks-step : (s : Symbol) (x : Reading) → Adds x s
marks-step s dead = tt
marks-step s (at awaited t f o) = before-factor s t f o
marks-step s (at (in_number ds) t f o) = in-number s ds t f o
marks-step (digit b) (at (after_slash n) t f o) = sym (append-nil _)
marks-step _ (at (after_slash n) t f o) = tt
marks-step s (at (in_denominator n ds) t f o) = in-denominator s n ds t f o
marks-step opens_list (at (after_letter basis) t f o) = sym (append-nil _)
marks-step _ (at (after_letter basis) t f o) = tt
marks-step s (at (in_list basis ws) t f o) = in-list s basis ws t f o
marks-step (digit b) (at (in_entry basis ws ds) t f o) = sym (append-nil _)
marks-step comma (at (in_entry basis ws ds) t f o) = entry-next ws ds t f o basis
marks-step closes_list (at (in_entry basis ws ds) t f o) = entry-next ws ds t f o basis
marks-step _ (at (in_entry basis ws ds) t f o) = tt
marks-step s (at (closed x) t f o) = in-closed s x t f o

-- if the bytes read spell the expression e, then the marks of e are the marks of the state x, followed by the mark of the number at the end of e, if
-- e ends with a number
pub marks-found : (x : Reading) (e : Phrase) → found phrases x ≡ Some e → marks 0 0 e ≡ state_marks x ++ option_to_list (new_mark x other)
marks-found dead e h = cc
marks-found (at p t f (inside o t' f')) e h = cc
marks-found (at (in_number ds) t f outermost) e h =
    let is : join phrases t f (numeral ds) ≡ e = cc h in
    ap (marks 0 0) (sym is) ∙ marks-join 0 0 t f (numeral ds)
    ∙ last [] (term_marks 0 0 t) (factor_marks 0 (0 + length (written_term t)) f) _
marks-found (at (in_denominator n ds) t f outermost) e h =
    let is : join phrases t f (ratio n ds) ≡ e = cc h in
    ap (marks 0 0) (sym is) ∙ marks-join 0 0 t f (ratio n ds)
    ∙ last_two [] (term_marks 0 0 t) (factor_marks 0 (0 + length (written_term t)) f) _ _
marks-found (at (closed x) t f outermost) e h = search (rules, marks-join, append-nil)
marks-found (at awaited t f outermost) e h = cc
marks-found (at (after_slash ds) t f outermost) e h = cc
marks-found (at (after_letter basis) t f outermost) e h = cc
marks-found (at (in_list basis ws) t f outermost) e h = cc
marks-found (at (in_entry basis ws ds) t f outermost) e h = cc
