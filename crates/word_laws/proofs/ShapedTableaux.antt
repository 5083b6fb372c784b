-- The words of a tableau with rows of given lengths, and the errors of shape of other words.
use Rattle.std.proofs.Common.{◌≡◌, ℕ, zero, suc, ◌+◌, Bool, true, false, ◌&&◌, cond, List, [], ◌∷◌, ◌++◌, map, length, take, refl, sym, ap, ◌∙◌, subst, arith, ◌⊎◌, inl, inr, ◌↔◌, flat_map, rules}
use Rattle.std.specs.Prelude.{codes}
use Rattle.std.proofs.lemmas.List.{append-nil}
use Rattle.std.proofs.lemmas.Bool.{and_parts, and_from}
use Rattle.sym_model.specs.Sum.{Among}
use Rattle.sym_model.proofs.Sums.{Among_from_append, Among_from_map, Among_from_each}
use Rattle.sym_model.specs.LongestPrefix.{IsLongestPrefix}
use Rattle.sym_model.specs.ExpressionOffence.{shape}
use Rattle.sym_model.specs.Form.{Class, exact, number, target, formula, Form, empty, word, sequence, either, many, Written, words_of, May, SomeOf, Has, Begins, fits, is_skippable, derivatives, after_word, taken, has_skippable, after_words, are_words_of, can_be}
use Rattle.sym_model.specs.CommandOffence.{Offence, entries}
use Rattle.sym_model.specs.WordForms.{row_words, tableau_words, row_entries, placed, tableau_rows, row_of, tableau_of, shape_offences}
use Rattle.expression_laws.proofs.PhraseRuns.{one_phrase}
use Rattle.word_laws.specs.Reading.{is_expression}
use Rattle.word_laws.proofs.Derivatives.{has_sequence}
use Rattle.word_laws.proofs.LongestPrefixes.{BeginsOne, taken_longest, whole_sound, whole_complete, among_cond}
use Rattle.word_laws.proofs.Readings.{one_written}
use Rattle.word_laws.proofs.ExpressionWords.{tells_expressions}
use Rattle.word_laws.specs.Words.{Words}

-- ---- for forms without expressions, the derivatives do not depend on which words are expressions

abbrev is_plain_class : Class → Bool
is_plain_class formula = false
is_plain_class _ = true

abbrev pub is_plain : Form → Bool
is_plain empty = true
is_plain (word c) = is_plain_class c
is_plain (sequence f g) = is_plain f && is_plain g
is_plain (either f g) = is_plain f && is_plain g
is_plain (many f) = is_plain f

abbrev Reads : Type 0
Reads = List ℕ → Bool

same_fits : (r s : Reads) (c : Class) (text : List ℕ) → is_plain_class c ≡ true → fits r c text ≡ fits s c text
same_fits r s (exact w) text h = refl
same_fits r s number text h = refl
same_fits r s (target bases) text h = refl
same_fits r s formula text h = cc

same_derivatives : (r s : Reads) (f : Form) (text : List ℕ) → is_plain f ≡ true → derivatives r f text ≡ derivatives s f text
same_derivatives r s empty text h = refl
same_derivatives r s (word c) text h = ap (λ b. cond b (empty ∷ []) []) (same_fits r s c text h)
same_derivatives r s (sequence f g) text h =
    let p = and_parts (is_plain f) (is_plain g) h in
    ap (λ hs. map (λ h. sequence h g) hs ++ cond (is_skippable f) (derivatives r g text) []) (same_derivatives r s f text p.0)
    ∙ ap (λ hs. map (λ h. sequence h g) (derivatives s f text) ++ cond (is_skippable f) hs []) (same_derivatives r s g text p.1)
same_derivatives r s (either f g) text h =
    let p = and_parts (is_plain f) (is_plain g) h in
    ap (λ hs. hs ++ derivatives r g text) (same_derivatives r s f text p.0)
    ∙ ap (λ hs. derivatives s f text ++ hs) (same_derivatives r s g text p.1)
same_derivatives r s (many f) text h = ap (map (λ h. sequence h (many f))) (same_derivatives r s f text h)

plain_cond : (b : Bool) (h : Form) → Among h (cond b (empty ∷ []) []) → is_plain h ≡ true
plain_cond true h (inl e) = ap is_plain e
plain_cond true h (inr m) = absurd m
plain_cond false h m = absurd m

plain_derivative : (r : Reads) (f h : Form) (text : List ℕ) → is_plain f ≡ true → Among h (derivatives r f text) → is_plain h ≡ true
plain_derivative r empty h text p m = absurd m
plain_derivative r (word c) h text p m = plain_cond (fits r c text) h m
plain_derivative r (sequence f g) h text p m =
    let q = and_parts (is_plain f) (is_plain g) p in
    by q.1 (Among_from_append h (map (λ h. sequence h g) (derivatives r f text)) (cond (is_skippable f) (derivatives r g text) []) m)
    (λ k. plain_derivative r f k text q.0)
    (plain_derivative r g h text q.1)
  where
    by : is_plain g ≡ true → Among h (map (λ h. sequence h g) (derivatives r f text)) ⊎ Among h (cond (is_skippable f) (derivatives r g text) [])
        → ((k : Form) → Among k (derivatives r f text) → is_plain k ≡ true)
        → (Among h (derivatives r g text) → is_plain h ≡ true)
        → is_plain h ≡ true
    by e (inl a) l k =
        let b = Among_from_map (λ h. sequence h g) h (derivatives r f text) a in
        ap is_plain b.2 ∙ and_from (is_plain b.0) (is_plain g) (l b.0 b.1) e
    by e (inr a) l k = k (among_cond (is_skippable f) h (derivatives r g text) a)
plain_derivative r (either f g) h text p m =
    let q = and_parts (is_plain f) (is_plain g) p in
    elim (Among_from_append h (derivatives r f text) (derivatives r g text) m) [
      | inl a ↦ plain_derivative r f h text q.0 a
      | inr a ↦ plain_derivative r g h text q.1 a
    ]
plain_derivative r (many f) h text p m =
    let b = Among_from_map (λ h. sequence h (many f)) h (derivatives r f text) m in
    ap is_plain b.2 ∙ and_from (is_plain b.0) (is_plain f) (plain_derivative r f b.0 text p b.1) p

abbrev Plain : List Form → Type 0
Plain forms = (f : Form) → Among f forms → is_plain f ≡ true

same_after : (r s : Reads) (forms : List Form) (text : List ℕ) → Plain forms → after_word r forms text ≡ after_word s forms text
same_after r s [] text p = refl
same_after r s (f ∷ forms) text p = search (rules, same_derivatives, (same_after r s forms text))

plain_after : (r : Reads) (forms : List Form) (text : List ℕ) → Plain forms → Plain (after_word r forms text)
plain_after r forms text p h m =
    let b = Among_from_each (λ f. derivatives r f text) h forms m in plain_derivative r b.0 h text (p b.0 b.1) b.2

same_taken : (r s : Reads) (forms : List Form) (words : Words) → Plain forms → taken r forms words ≡ taken s forms words
same_taken r s forms [] p = refl
same_taken r s forms (text ∷ words) p =
    search (rules, plain_after, same_after, (same_taken r s (after_word r forms text) words (plain_after r forms text p)))

same_left : (r s : Reads) (forms : List Form) (words : Words) → Plain forms → after_words r forms words ≡ after_words s forms words
same_left r s forms [] p = refl
same_left r s forms (text ∷ words) p =
    search (rules, plain_after, same_after, (same_left r s (after_word r forms text) words (plain_after r forms text p)))

plain_row : (n : ℕ) → is_plain (row_of n) ≡ true
plain_row zero = refl
plain_row (suc zero) = refl
plain_row (suc (suc n)) = plain_row (suc n)

plain_tableau : (lengths : List ℕ) → is_plain (tableau_of lengths) ≡ true
plain_tableau [] = refl
plain_tableau (n ∷ []) = plain_row n
plain_tableau (n ∷ m ∷ lengths) =
    and_from (is_plain (row_of n)) (is_plain (tableau_of (m ∷ lengths))) (plain_row n) (plain_tableau (m ∷ lengths))

can_be_row : (n : ℕ) → can_be (row_of n) ≡ true
can_be_row zero = refl
can_be_row (suc zero) = refl
can_be_row (suc (suc n)) = can_be_row (suc n)

can_be_tableau : (lengths : List ℕ) → can_be (tableau_of lengths) ≡ true
can_be_tableau [] = refl
can_be_tableau (n ∷ []) = can_be_row n
can_be_tableau (n ∷ m ∷ lengths) =
    and_from (can_be (row_of n)) (can_be (tableau_of (m ∷ lengths))) (can_be_row n) (can_be_tableau (m ∷ lengths))

plain_one : (lengths : List ℕ) → Plain (tableau_of lengths ∷ [])
plain_one lengths f (inl e) = ap is_plain e ∙ plain_tableau lengths
plain_one lengths f (inr m) = absurd m

only : (P : Form → Type 0) (f : Form) → SomeOf P (f ∷ []) → P f
only P f (inl h) = h
only P f (inr h) = absurd h

abbrev never : Reads
never text = false

-- `taken` is the length of the longest prefix of the words that is also the beginning of a tableau with rows of these lengths
pub shape_longest : (lengths : List ℕ) (words : Words)
    → IsLongestPrefix (Begins (tableau_of lengths)) words (taken never (tableau_of lengths ∷ []) words)
shape_longest lengths words =
    subst (IsLongestPrefix (Begins (tableau_of lengths)) words)
    (same_taken is_expression never (tableau_of lengths ∷ []) words (plain_one lengths))
    (record {
      within = p.within;
      begins = only (λ f. Begins f (take (taken is_expression (tableau_of lengths ∷ []) words) words)) (tableau_of lengths) p.begins;
      longest = λ j k b. p.longest j k (inl b);
    })
  where
    p : IsLongestPrefix (BeginsOne (tableau_of lengths ∷ [])) words (taken is_expression (tableau_of lengths ∷ []) words)
    p = taken_longest is_expression tells_expressions (tableau_of lengths ∷ []) (can_be_tableau lengths, tt) (omega arith) words

has_sound : (lengths : List ℕ) (words : Words) → are_words_of never (tableau_of lengths) words ≡ true → Has (tableau_of lengths) words
has_sound lengths words h =
    only (λ f. Has f words) (tableau_of lengths)
    (whole_sound is_expression tells_expressions (tableau_of lengths ∷ []) words
    (ap has_skippable (same_left is_expression never (tableau_of lengths ∷ []) words (plain_one lengths)) ∙ h))

has_complete : (lengths : List ℕ) (words : Words) → Has (tableau_of lengths) words → are_words_of never (tableau_of lengths) words ≡ true
has_complete lengths words h =
    ap has_skippable (same_left never is_expression (tableau_of lengths ∷ []) words (plain_one lengths))
    ∙ whole_complete is_expression tells_expressions (tableau_of lengths ∷ []) words (inl h)

no_offence : (b : Bool) (o : Offence) → cond b [] (o ∷ []) ≡ [] → b ≡ true
no_offence true o h = refl
no_offence false o h = cc

-- there is no error of shape if and only if the words are a tableau with rows of these lengths
pub shape_none : (k : ℕ) (lengths : List ℕ) (words : Words) → (shape_offences k lengths words ≡ []) ↔ Has (tableau_of lengths) words
shape_none k lengths words = search (rules, has_sound, no_offence, has_complete)

the_one : (b : Bool) (o p : Offence) → Among o (cond b [] (p ∷ [])) → o ≡ p
the_one true o p m = absurd m
the_one false o p (inl e) = e
the_one false o p (inr m) = absurd m

-- an error of shape is at the word after the longest prefix of the words that is also the beginning of a tableau with rows of these lengths
pub shape_place : (k : ℕ) (lengths : List ℕ) (words : Words) (o : Offence) → Among o (shape_offences k lengths words)
    → (n : ℕ) × (o ≡ (k + n, 0, shape)) × IsLongestPrefix (Begins (tableau_of lengths)) words n
shape_place k lengths words o m = search (rules, the_one, shape_longest)

-- ---- the lengths of the rows of a tableau

abbrev pub Row : Type 0
Row = Written row_words

abbrev row_length : Row → ℕ
row_length r = length (row_entries r)

-- the rows of the tableau x: its first row, and the row after each `/`
abbrev rows_of : Written tableau_words → List Row
rows_of x = x.0 ∷ map (λ (y : Unit {0} × Row). y.1) x.1

placed_lengths : (k : ℕ) (rs : List Row) → map length (entries (placed k rs)) ≡ map row_length rs
placed_lengths k [] = refl
placed_lengths k (r ∷ rs) = ap (λ ns. row_length r ∷ ns) (placed_lengths (k + length (words_of row_words r) + 1) rs)

row_to : (w : List ℕ) (ws : Words) → May row_words (inr (w, ws)) → Has (row_of (row_length (inr (w, ws)))) (w ∷ ws)
row_to w [] a = record { written = w; allowed = a.0; spelled = refl }
row_to w (v ∷ ws) a =
    has_sequence (word number) (row_of (row_length (inr (v, ws)))) (w ∷ []) (v ∷ ws)
    (record { written = w; allowed = a.0; spelled = refl })
    (row_to v ws a.1)

single_words : (ws : Words) → flat_map (words_of (word number)) ws ≡ ws
single_words [] = refl
single_words (w ∷ ws) = ap (λ vs. w ∷ vs) (single_words ws)

row_has : (r : Row) → May row_words r → Has (row_of (row_length r)) (words_of row_words r)
row_has (inl x) a = record { written = tt; allowed = tt; spelled = refl }
row_has (inr x) a =
    subst (Has (row_of (row_length (inr x)))) (sym (ap (λ vs. x.0 ∷ vs) (single_words x.1))) (row_to x.0 x.1 a)

tableau_has : (r : Row) (rs : List (Unit {0} × Row)) → May tableau_words (r, rs)
    → Has (tableau_of (map row_length (rows_of (r, rs)))) (words_of tableau_words (r, rs))
tableau_has r [] a = subst (Has (row_of (row_length r))) (sym (append-nil (words_of row_words r))) (row_has r a.0)
tableau_has r (y ∷ rs) a =
    has_sequence (row_of (row_length r)) (sequence (word (exact (codes "/"))) (tableau_of (map row_length (rows_of (y.1, rs)))))
    (words_of row_words r) (codes "/" ∷ words_of tableau_words (y.1, rs))
    (row_has r a.0)
    (has_sequence (word (exact (codes "/"))) (tableau_of (map row_length (rows_of (y.1, rs)))) (codes "/" ∷ []) (words_of tableau_words (y.1, rs))
    (record { written = tt; allowed = tt; spelled = refl })
    (tableau_has y.1 rs (a.1.0.1, a.1.1)))

-- ws are the words of some row of length n
record RowOf (n : ℕ) (ws : Words) : Type 0 where
  row : Row
  may : May row_words row
  words_are : ws ≡ words_of row_words row
  long : row_length row ≡ n

row_from : (n : ℕ) (ws : Words) → Has (row_of n) ws → RowOf n ws
row_from zero ws h = record { row = inl tt; may = tt; words_are = h.spelled; long = refl }
row_from (suc zero) ws h =
    record { row = inr (h.written, []); may = (h.allowed, tt); words_are = h.spelled; long = refl }
row_from (suc (suc n)) ws h =
    by
    (row_from (suc n) (words_of (row_of (suc n)) h.written.1) (record { written = h.written.1; allowed = h.allowed.1; spelled = refl }))
  where
    more : (r : Row) → May row_words r → words_of (row_of (suc n)) h.written.1 ≡ words_of row_words r → row_length r ≡ suc n
        → RowOf (suc (suc n)) ws
    more (inl x) a e l = absurd (omega (arith, l))
    more (inr x) a e l = record {
      row = inr (h.written.0, x.0 ∷ x.1);
      may = (h.allowed.0, a);
      words_are = h.spelled ∙ ap (λ us. h.written.0 ∷ us) e;
      long = ap suc l;
    }

    by : RowOf (suc n) (words_of (row_of (suc n)) h.written.1) → RowOf (suc (suc n)) ws
    by r = more r.row r.may r.words_are r.long

-- ws are the words of some tableau with rows of these lengths
record TableauOf (lengths : List ℕ) (ws : Words) : Type 0 where
  tableau : Written tableau_words
  may : May tableau_words tableau
  words_are : ws ≡ words_of tableau_words tableau
  long : map row_length (rows_of tableau) ≡ lengths

tableau_from : (n : ℕ) (lengths : List ℕ) (ws : Words) → Has (tableau_of (n ∷ lengths)) ws → TableauOf (n ∷ lengths) ws
tableau_from n [] ws h =
    let r = row_from n ws h in
    record {
      tableau = (r.row, []);
      may = (r.may, tt);
      words_are = r.words_are ∙ sym (append-nil (words_of row_words r.row));
      long = ap (λ k. k ∷ []) r.long;
    }
tableau_from n (m ∷ lengths) ws h =
    let r =
    row_from n (words_of (row_of n) h.written.0)
    (record { written = h.written.0; allowed = h.allowed.0; spelled = refl }) in
    let t =
    tableau_from m lengths (words_of (tableau_of (m ∷ lengths)) h.written.1.1)
    (record { written = h.written.1.1; allowed = h.allowed.1.1; spelled = refl }) in
    record {
      tableau = (r.row, (tt, t.tableau.0) ∷ t.tableau.1);
      may = (r.may, ((tt, t.may.0), t.may.1));
      words_are =
          h.spelled
          ∙ ap (λ us. us ++ (codes "/" ∷ words_of (tableau_of (m ∷ lengths)) h.written.1.1)) r.words_are
          ∙ ap (λ us. words_of row_words r.row ++ (codes "/" ∷ us)) t.words_are;
      long = ap (λ k. k ∷ map row_length (rows_of t.tableau)) r.long ∙ ap (λ ks. n ∷ ks) t.long;
    }

-- the words of a tableau x are of the form of a tableau with rows of the lengths n ∷ lengths if and only if the rows of x have these lengths
pub shape_rows : (n : ℕ) (lengths : List ℕ) (x : Written tableau_words) → May tableau_words x
    → Has (tableau_of (n ∷ lengths)) (words_of tableau_words x) ↔ (map length (tableau_rows x) ≡ n ∷ lengths)
shape_rows n lengths x a = (
  λ h.
      let t = tableau_from n lengths (words_of tableau_words x) h in
      let same : x ≡ t.tableau =
      one_written one_phrase tableau_words refl (words_of tableau_words x)
      (record { written = x; allowed = a; spelled = refl })
      (record { written = t.tableau; allowed = t.may; spelled = t.words_are }) in
      placed_lengths 0 (rows_of x) ∙ ap (λ y. map row_length (rows_of y)) same ∙ t.long,
  λ h.
      subst (λ ns. Has (tableau_of ns) (words_of tableau_words x))
      (sym (placed_lengths 0 (rows_of x)) ∙ h)
      (tableau_has x.0 x.1 a),
)
