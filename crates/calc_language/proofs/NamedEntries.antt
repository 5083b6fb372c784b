-- Lists of commands with different names, if the words of each command begin with its name: the name determines the command, and words that begin
-- with the name of no command have their first error of syntax at the first word.
use Rattle.std.proofs.Common.{◌≡◌, ℕ, zero, suc, take, ◌≤◌, ◌<◌, Bool, true, false, not, ◌&&◌, List, [], ◌∷◌, ◌++◌, map, length, refl, sym, ap, ◌∙◌, subst, arith, ◌⊎◌, inl, inr, rules}
use Rattle.sym_model.specs.Sum.{Among}
use Rattle.sym_model.specs.GoodTableau.{is_among}
use Rattle.sym_model.specs.Polynomial.{same}
use Rattle.sym_model.proofs.Exponents.{same_from}
use Rattle.sym_model.specs.Form.{Form, sequence, EachOf, Begins, Awaits}
use Rattle.sym_model.specs.Entry.{Entry, SpellsBy, BeginsCommand}
use Rattle.sym_model.specs.SyntaxPlace.{IsSyntaxPlace}
use Rattle.sym_model.specs.WordForms.{the}
use Rattle.word_laws.specs.Words.{Words}
use Rattle.word_laws.specs.Reading.{forms_of}
use Rattle.word_laws.proofs.LongestPrefixes.{CanBe, some_words, some_out}
use Rattle.calc_words.specs.Joined.{Named}
use Rattle.std.proofs.lemmas.Bool.{or_left, or_right, both_ways}

-- the form g, if the given form is f followed by g; otherwise the given form
abbrev pub behind : Form → Form
behind (sequence f g) = g
behind f = f

-- the form of the command e is the name of e, followed by another form or by nothing
abbrev pub IsLed : Entry → Type 0
IsLed e = (e.form ≡ sequence (the e.name) (behind e.form)) ⊎ (e.form ≡ the e.name)

pub each_among : (P : Entry → Type 0) (entries : List Entry) → EachOf P entries → (e : Entry) → Among e entries → P e
each_among P [] h e m = absurd m
each_among P (f ∷ entries) h e (inl s) = subst P (sym s) h.0
each_among P (f ∷ entries) h e (inr m) = each_among P entries h.1 e m

-- ---- commands with different names

abbrev pub names_of : List Entry → List (List ℕ)
names_of entries = map (λ (e : Entry). e.name) entries

abbrev pub are_named_apart : List Entry → Bool
are_named_apart [] = true
are_named_apart (e ∷ entries) = not (is_among e.name (names_of entries)) && are_named_apart entries

among_names : (name : List ℕ) (e : Entry) (entries : List Entry) → Among e entries → e.name ≡ name → is_among name (names_of entries) ≡ true
among_names name e [] m h = absurd m
among_names name e (f ∷ entries) (inl s) h =
    or_left (same name f.name) (is_among name (names_of entries)) (same_from name f.name (sym h ∙ ap (λ (x : Entry). x.name) s))
among_names name e (f ∷ entries) (inr m) h = or_right (same name f.name) (is_among name (names_of entries)) (among_names name e entries m h)

not_both : (x y : Bool) → (not x && y) ≡ true → (x ≡ false) × (y ≡ true)
not_both true y h = cc
not_both false y h = (refl, h)

pub one_named : (entries : List Entry) → are_named_apart entries ≡ true → (e f : Entry) → Among e entries → Among f entries → f.name ≡ e.name → f ≡ e
one_named [] h e f m n s = absurd m
one_named (x ∷ entries) h e f (inl m) (inl n) s = n ∙ sym m
one_named (x ∷ entries) h e f (inl m) (inr n) s =
    let p = not_both (is_among x.name (names_of entries)) (are_named_apart entries) h in
    absurd (both_ways (is_among x.name (names_of entries)) p.0 (among_names x.name f entries n (s ∙ ap (λ (y : Entry). y.name) m)))
one_named (x ∷ entries) h e f (inr m) (inl n) s =
    let p = not_both (is_among x.name (names_of entries)) (are_named_apart entries) h in
    absurd (both_ways (is_among x.name (names_of entries)) p.0 (among_names x.name e entries m (sym s ∙ ap (λ (y : Entry). y.name) n)))
one_named (x ∷ entries) h e f (inr m) (inr n) s =
    one_named entries (not_both (is_among x.name (names_of entries)) (are_named_apart entries) h).1 e f m n s

abbrev BeginsAs : List ℕ → Words → Type 0
BeginsAs name words = (rest : Words) × (words ≡ name ∷ rest)

pub led_named : (e : Entry) → IsLed e → Named e
led_named e (inl s) = search rules
led_named e (inr s) = search rules

pub unnamed : (entries : List Entry) → EachOf IsLed entries → CanBe (forms_of entries) → 0 < length entries → (words : Words)
    → ((e : Entry) → Among e entries → BeginsAs e.name words → ⊥) → IsSyntaxPlace entries words 0 0
unnamed entries l c n words h = record {
  no_command = λ command s.
      let f = some_out (λ e. SpellsBy e words command) entries s in
      h f.0 f.1 ((led f.0 f.1).spells words f.2.has);
  word_is = record { within = omega arith; begins = some_begins entries c n; longest = λ j k b. by j words k (λ e m. h e m) b };
  byte_is = inr ((λ a. let f = some_out (λ e. Awaits e.form []) entries a.awaited in let m = (led f.0 f.1).awaits [] f.2 in nothing f.0.name m.0 m.1), refl);
}
  where
    led : (e : Entry) → Among e entries → Named e
    led e m = led_named e (each_among IsLed entries l e m)

    some_begins : (es : List Entry) → CanBe (forms_of es) → 0 < length es → BeginsCommand es []
    some_begins [] c n = absurd (omega (arith, n))
    some_begins (e ∷ es) c n = inl (some_words e.form c.0)

    nothing : (name : List ℕ) (rest : Words) → [] ≡ name ∷ rest → ⊥
    nothing name rest e = cc

    by : (j : ℕ) (ws : Words) → j ≤ length ws → ((e : Entry) → Among e entries → BeginsAs e.name ws → ⊥) → BeginsCommand entries (take j ws) → j ≤ 0
    by zero ws k h b = omega arith
    by (suc j) [] k h b = absurd (omega (arith, k))
    by (suc j) (w ∷ ws) k h b =
        let f = some_out (λ e. Begins e.form (w ∷ take j ws)) entries b in
        let m = (led f.0 f.1).spells ((w ∷ take j ws) ++ f.2.0) f.2.1 in
        let first : w ≡ f.0.name = cc in
        absurd (h f.0 f.1 (ws, ap (λ v. v ∷ ws) first))
