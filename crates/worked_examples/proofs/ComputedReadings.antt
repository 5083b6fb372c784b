-- All ways to read words as a command, and the errors of each, computed from the forms of the commands; used to prove worked examples.
use Rattle.std.proofs.Common.{◌≡◌, ℕ, zero, suc, Bool, true, false, cond, List, [], ◌∷◌, ◌++◌, map, length, append_assoc, refl, sym, ap, ◌∙◌, subst, ◌⊎◌, inl, inr, Option, Some, None, filter, flat_map}
use Rattle.std.proofs.lemmas.List.{append-nil}
use Rattle.sym_model.specs.Sum.{Among}
use Rattle.sym_model.specs.Polynomial.{same}
use Rattle.sym_model.proofs.Exponents.{same_true}
use Rattle.sym_model.proofs.Sums.{Among_from_append, Among_from_map, Among_from_each, Among_from_select}
use Rattle.sym_model.specs.Expansion.{Basis}
use Rattle.sym_model.specs.Phrase.{Phrase, letter, SpellsPhrase}
use Rattle.expression_laws.specs.LeftToRight.{run, start, phrases, found}
use Rattle.expression_laws.proofs.PhrasePrefixes.{spells-from_found}
use Rattle.sym_model.specs.Form.{Class, exact, number, target, formula, WrittenWord, word_of, MayBe, SomeOf, Form, empty, word, sequence, either, many, Written, words_of, May, Has, is_number_word}
use Rattle.sym_model.specs.Command.{Command}
use Rattle.sym_model.specs.CommandOffence.{Offence, first_offence}
use Rattle.sym_model.specs.Entry.{Entry, HasFirstOffence, SpellsWithoutOffence}
use Rattle.word_laws.proofs.Classes.{number_sound}
use Rattle.word_laws.specs.Words.{Words}

abbrev of_option : {A : Type 0} → Option A → List A
of_option None = []
of_option (Some x) = x ∷ []

-- the values that the word can have as a word of the class c
abbrev pub word_readings : (c : Class) → List ℕ → List (WrittenWord c)
word_readings (exact w) text = cond (same w text) (tt ∷ []) []
word_readings number text = cond (is_number_word text) (text ∷ []) []
word_readings (target bases) text = filter (λ b. same (letter b) text) bases
word_readings formula text = of_option (found phrases (run phrases text start))

-- the ways to read at most n values with `read`, one after another, from the front of the words; each way is the list of these values, with the words
-- that remain
abbrev pub more_readings : {A : Type 0} → (Words → List (A × Words)) → ℕ → Words → List (List A × Words)
more_readings read zero words = ([], words) ∷ []
more_readings {A} read (suc n) words =
    ([], words)
    ∷ flat_map (λ (p : A × Words). map (λ (q : List A × Words). (p.0 ∷ q.0, q.1)) (more_readings read n p.1)) (read words)

-- the ways to read a value of the form f from the front of the words; each way is the value, with the words that remain
abbrev pub readings : (f : Form) → Words → List (Written f × Words)
readings empty words = (tt, words) ∷ []
readings (word c) [] = []
readings (word c) (text ∷ words) = map (λ (x : WrittenWord c). (x, words)) (word_readings c text)
readings (sequence f g) words =
    flat_map (λ (p : Written f × Words). map (λ (q : Written g × Words). ((p.0, q.0), q.1)) (readings g p.1)) (readings f words)
readings (either f g) words =
    map (λ (p : Written f × Words). (inl p.0, p.1)) (readings f words)
    ++ map (λ (p : Written g × Words). (inr p.0, p.1)) (readings g words)
readings (many f) words = more_readings (readings f) (length words) words

abbrev IsReading : (f : Form) → Words → Written f × Words → Type 0
IsReading f words p = May f p.0 × (words ≡ words_of f p.0 ++ p.1)

among_cond : {A : Type 0} (b : Bool) (x y : A) → Among x (cond b (y ∷ []) []) → (b ≡ true) × (x ≡ y)
among_cond true x y (inl e) = (refl, e)
among_cond true x y (inr m) = absurd m
among_cond false x y m = absurd m

some_equal : (basis : Basis) (bases : List Basis) → Among basis bases → SomeOf (λ b. basis ≡ b) bases
some_equal basis [] m = absurd m
some_equal basis (b ∷ bases) (inl e) = inl e
some_equal basis (b ∷ bases) (inr m) = inr (some_equal basis bases m)

found_option : (text : List ℕ) (o : Option Phrase) (x : Phrase) → found phrases (run phrases text start) ≡ o → Among x (of_option o) → SpellsPhrase text x
found_option text None x e m = absurd m
found_option text (Some p) x e (inl k) = spells-from_found text x (e ∙ ap Some (sym k))
found_option text (Some p) x e (inr m) = absurd m

word_sound : (c : Class) (text : List ℕ) (x : WrittenWord c) → Among x (word_readings c text) → MayBe c x × (text ≡ word_of c x)
word_sound (exact w) text x m = (tt, sym (same_true w text (among_cond (same w text) x tt m).0))
word_sound number text x m =
    let p = among_cond (is_number_word text) x text m in
    (number_sound x (ap is_number_word p.1 ∙ p.0), sym p.1)
word_sound (target bases) text x m =
    let p = Among_from_select (λ b. same (letter b) text) x bases m in
    (some_equal x bases p.0, sym (same_true (letter x) text p.1))
word_sound formula text x m =
    let p = found_option text (found phrases (run phrases text start)) x refl m in (p.allowed, p.spelled)

more_sound : (f : Form) → ((words : Words) (p : Written f × Words) → Among p (readings f words) → IsReading f words p)
    → (n : ℕ) (words : Words) (p : List (Written f) × Words) → Among p (more_readings (readings f) n words) → IsReading (many f) words p
more_sound f sound zero words p (inl e) = subst (IsReading (many f) words) (sym e) (tt, refl)
more_sound f sound zero words p (inr m) = absurd m
more_sound f sound (suc n) words p (inl e) = subst (IsReading (many f) words) (sym e) (tt, refl)
more_sound f sound (suc n) words p (inr m) =
    let a = Among_from_each (λ (p : Written f × Words). map (λ (q : List (Written f) × Words). (p.0 ∷ q.0, q.1)) (more_readings (readings f) n p.1)) p (readings f words) m in
    let b = Among_from_map (λ (q : List (Written f) × Words). (a.0.0 ∷ q.0, q.1)) p (more_readings (readings f) n a.0.1) a.2 in
    let s = sound words a.0 a.1 in
    let t = more_sound f sound n a.0.1 b.0 b.1 in
    subst (IsReading (many f) words) (sym b.2)
    ((s.0, t.0), s.1 ∙ ap (λ us. words_of f a.0.0 ++ us) t.1 ∙ sym (append_assoc (words_of f a.0.0) (flat_map (words_of f) b.0.0) b.0.1))

-- each element of `readings f words` is a reading of the words by the form f (`IsReading`)
pub readings_sound : (f : Form) (words : Words) (p : Written f × Words) → Among p (readings f words) → IsReading f words p
readings_sound empty words p (inl e) = subst (IsReading empty words) (sym e) (tt, refl)
readings_sound empty words p (inr m) = absurd m
readings_sound (word c) [] p m = absurd m
readings_sound (word c) (text ∷ words) p m =
    let a = Among_from_map (λ (x : WrittenWord c). (x, words)) p (word_readings c text) m in
    let s = word_sound c text a.0 a.1 in
    subst (IsReading (word c) (text ∷ words)) (sym a.2) (s.0, ap (λ t. t ∷ words) s.1)
readings_sound (sequence f g) words p m =
    let a = Among_from_each (λ (p : Written f × Words). map (λ (q : Written g × Words). ((p.0, q.0), q.1)) (readings g p.1)) p (readings f words) m in
    let b = Among_from_map (λ (q : Written g × Words). ((a.0.0, q.0), q.1)) p (readings g a.0.1) a.2 in
    let s = readings_sound f words a.0 a.1 in
    let t = readings_sound g a.0.1 b.0 b.1 in
    subst (IsReading (sequence f g) words) (sym b.2)
    ((s.0, t.0), s.1 ∙ ap (λ us. words_of f a.0.0 ++ us) t.1 ∙ sym (append_assoc (words_of f a.0.0) (words_of g b.0.0) b.0.1))
readings_sound (either f g) words p m =
    by
    (Among_from_append p (map (λ (p : Written f × Words). (inl p.0, p.1)) (readings f words)) (map (λ (p : Written g × Words). (inr p.0, p.1)) (readings g words)) m)
    (readings_sound f words)
    (readings_sound g words)
  where
    by : Among p (map (λ (p : Written f × Words). (inl p.0, p.1)) (readings f words)) ⊎ Among p (map (λ (p : Written g × Words). (inr p.0, p.1)) (readings g words))
        → ((p : Written f × Words) → Among p (readings f words) → IsReading f words p)
        → ((p : Written g × Words) → Among p (readings g words) → IsReading g words p)
        → IsReading (either f g) words p
    by (inl m) l r =
        let a = Among_from_map (λ (p : Written f × Words). (inl p.0, p.1)) p (readings f words) m in
        let s = l a.0 a.1 in subst (IsReading (either f g) words) (sym a.2) s
    by (inr m) l r =
        let a = Among_from_map (λ (p : Written g × Words). (inr p.0, p.1)) p (readings g words) m in
        let s = r a.0 a.1 in subst (IsReading (either f g) words) (sym a.2) s
readings_sound (many f) words p m = more_sound f (readings_sound f) (length words) words p m

-- whether no word is left
abbrev is_nothing : Words → Bool
is_nothing [] = true
is_nothing (text ∷ words) = false

abbrev pub whole_readings : (f : Form) → Words → List (Written f)
whole_readings f words = map (λ (p : Written f × Words). p.0) (filter (λ (p : Written f × Words). is_nothing p.1) (readings f words))

nothing : (words : Words) → is_nothing words ≡ true → words ≡ []
nothing [] h = refl
nothing (text ∷ words) h = cc

pub whole_readings_sound : (f : Form) (words : Words) (x : Written f) → Among x (whole_readings f words)
    → (h : Has f words) × (h.written ≡ x)
whole_readings_sound f words x m =
    let a = Among_from_map (λ (p : Written f × Words). p.0) x (filter (λ (p : Written f × Words). is_nothing p.1) (readings f words)) m in
    let b = Among_from_select (λ (p : Written f × Words). is_nothing p.1) a.0 (readings f words) a.1 in
    let s = readings_sound f words a.0 b.0 in
    let e = nothing a.0.1 b.1 in (
      record {
        written = a.0.0;
        allowed = s.0;
        spelled = s.1 ∙ ap (λ us. words_of f a.0.0 ++ us) e ∙ append-nil (words_of f a.0.0);
      },
      sym a.2,
    )

-- for each way to read the words as a command of the list of entries, its first error, or `None` if it has none
abbrev pub offences_found : List Entry → Words → List (Option Offence)
offences_found entries words =
    flat_map (λ (e : Entry). map (λ (x : Written e.form). first_offence (e.offends x)) (whole_readings e.form words)) entries

pub offends_sound : (entries : List Entry) (words : Words) (o : Option Offence) → Among o (offences_found entries words)
    → HasFirstOffence entries words o
offends_sound [] words o m = m
offends_sound (e ∷ entries) words o m =
    by
    (Among_from_append o (map (λ (x : Written e.form). first_offence (e.offends x)) (whole_readings e.form words)) (offences_found entries words) m)
    (offends_sound entries words o)
  where
    by : Among o (map (λ (x : Written e.form). first_offence (e.offends x)) (whole_readings e.form words)) ⊎ Among o (offences_found entries words)
        → (Among o (offences_found entries words) → HasFirstOffence entries words o) → HasFirstOffence (e ∷ entries) words o
    by (inl m) again =
        let a = Among_from_map (λ (x : Written e.form). first_offence (e.offends x)) o (whole_readings e.form words) m in
        let s = whole_readings_sound e.form words a.0 a.1 in
        inl (record { has = s.0; first_is = a.2 ∙ ap (λ x. first_offence (e.offends x)) (sym s.1) })
    by (inr m) again = inr (again m)

-- the list with only the command if there is no error, and otherwise the empty list
abbrev freely : Option Offence → Command → List Command
freely None c = c ∷ []
freely (Some o) c = []

abbrev pub commands_found : List Entry → Words → List Command
commands_found entries words =
    flat_map (λ (e : Entry). flat_map (λ (x : Written e.form). freely (first_offence (e.offends x)) (e.says x)) (whole_readings e.form words)) entries

free : (o : Option Offence) (c d : Command) → Among c (freely o d) → (o ≡ None) × (c ≡ d)
free None c d (inl e) = (refl, e)
free None c d (inr m) = absurd m
free (Some o) c d m = absurd m

pub commands_sound : (entries : List Entry) (words : Words) (c : Command) → Among c (commands_found entries words)
    → SpellsWithoutOffence entries words c
commands_sound [] words c m = m
commands_sound (e ∷ entries) words c m =
    by
    (Among_from_append c (flat_map (λ (x : Written e.form). freely (first_offence (e.offends x)) (e.says x)) (whole_readings e.form words)) (commands_found entries words) m)
    (commands_sound entries words c)
  where
    by : Among c (flat_map (λ (x : Written e.form). freely (first_offence (e.offends x)) (e.says x)) (whole_readings e.form words)) ⊎ Among c (commands_found entries words)
        → (Among c (commands_found entries words) → SpellsWithoutOffence entries words c) → SpellsWithoutOffence (e ∷ entries) words c
    by (inl m) again =
        let a = Among_from_each (λ (x : Written e.form). freely (first_offence (e.offends x)) (e.says x)) c (whole_readings e.form words) m in
        let s = whole_readings_sound e.form words a.0 a.1 in
        let f = free (first_offence (e.offends a.0)) c (e.says a.0) a.2 in
        inl (record {
          has = s.0;
          says_it = f.1 ∙ ap (λ x. e.says x) (sym s.1);
          no_offence = ap (λ x. first_offence (e.offends x)) s.1 ∙ f.0;
        })
    by (inr m) again = inr (again m)
