-- Words that begin with the rows of a tableau, and the place of the error in words that do not begin with such rows. A list of words *fails* inside
-- a form, a pattern of words (`StopsIn`), if it is not of the form and its first error is not directly after complete words of the form.
use Rattle.std.proofs.lemmas.Grind.{common_steps}
use Rattle.std.proofs.Common.{◌≡◌, ℕ, true, ◌<◌, List, [], ◌∷◌, ◌++◌, append_assoc, length, length-append, refl, sym, ap, ◌∙◌, subst, arith, inl, inr, rules}
use Rattle.std.specs.Prelude.{codes}
use Rattle.sym_model.specs.Form.{Form, sequence, many, Written, words_of, May, Has, EachOf, is_number_word}
use Rattle.sym_model.specs.WordForms.{the, optional, row_words, tableau_words, from_words}
use Rattle.word_laws.specs.FirstWords.{IsNumber, BeginsOtherwise}
use Rattle.word_laws.specs.OneReading.{are_apart, firsts, continuing}
use Rattle.word_laws.specs.Words.{Words}
use Rattle.word_laws.proofs.Classes.{number_complete}
use Rattle.word_laws.proofs.Readings.{OfOne, Unlike}
use Rattle.word_laws.proofs.Cuts.{StartsAs, EndsAt, IsTaken, StopsIn, unlike_second, unlike_last, ends_unlike, stops_first, stops_left, stops_right, optional_taken, optional_absent, optional_stops}
use Rattle.word_laws.proofs.CutParts.{is_exact, is_number, unlike_kind, unlike_text, the_taken, letters_taken}

starts_behind : (q r rest : Words) → StartsAs r rest → StartsAs (q ++ r) (q ++ rest)
starts_behind [] r rest s = s
starts_behind (t ∷ q) r rest s = (q ++ rest, refl)

pub sequence_taken : (f g : Form) (p q behind rest ws : Words) → are_apart (continuing f) (firsts g) ≡ true → IsTaken f p behind ws
    → IsTaken g q rest behind → IsTaken (sequence f g) (p ++ q) rest ws
sequence_taken f g p q behind rest ws a k l = record {
  written = (k.written, l.written);
  allowed = (k.allowed, l.allowed);
  piece_is = ap (λ us. us ++ q) k.piece_is ∙ ap (λ us. words_of f k.written ++ us) l.piece_is;
  words_are = k.words_are ∙ ap (λ us. p ++ us) l.words_are ∙ sym (append_assoc p q rest);
  ends = λ y r s m st e u.
      l.ends y.1 r s m.1 st
      (k.ends y.0 (words_of g l.written ++ r) (words_of g y.1 ++ s) m.0
      (subst (StartsAs (words_of g l.written ++ r)) (sym (l.words_are ∙ ap (λ us. us ++ rest) l.piece_is)) (starts_behind (words_of g l.written) r rest st))
      (sym (append_assoc (words_of f k.written) (words_of g l.written) r) ∙ e ∙ append_assoc (words_of f y.0) (words_of g y.1) s)
      (unlike_second f g y.1 m.1 s a u))
      (unlike_last f g s u);
}

of_row : (t : List ℕ) → OfOne (firsts row_words) t → (t ≡ codes "." → ⊥) → IsNumber t
of_row t o n = search (rules, is_exact, is_number)

pub dot_taken : (rest words : Words) → words ≡ codes "." ∷ rest → IsTaken row_words (codes "." ∷ []) rest words
dot_taken rest words e = record { written = inl tt; allowed = tt; piece_is = refl; words_are = e; ends = ends }
  where
    ends : EndsAt row_words (inl tt) rest
    ends (inl y) r s m st e u = cc
    ends (inr y) r s m st e u = let n = number_complete y.0 m.0 in let k : y.0 ≡ codes "." = cc in let z = sym (ap is_number_word k) ∙ n in cc

pub row_taken : (t : List ℕ) (more ns rest words : Words) → words ≡ t ∷ more → IsNumber t → words ≡ ns ++ rest → EachOf IsNumber ns
    → BeginsOtherwise IsNumber rest → IsTaken row_words ns rest words
row_taken t more ns rest words f i e n b =
    let k = letters_taken t more ns rest words f i e n b in
    record {
      written = inr k.written;
      allowed = k.allowed;
      piece_is = k.piece_is;
      words_are = e;
      ends = ends_unlike row_words refl (inr k.written) k.allowed rest (unlike_kind IsNumber (continuing row_words) rest of_next b);
    }
  where
    of_next : (t : List ℕ) → OfOne (continuing row_words) t → IsNumber t
    of_next t o = elim (o.among) as (λ m. IsNumber t) [
      | inl e ↦ subst IsNumber (sym o.spelled) (is_number o.class o.written o.allowed e)
      | inr m ↦ absurd m
    ]

pub row_wrong : (words : Words) → BeginsOtherwise (λ t. t ≡ codes ".") words → BeginsOtherwise IsNumber words → StopsIn row_words words (length words)
row_wrong words d b = stops_first row_words words refl refl (by words d b)
  where
    by : (ws : Words) → BeginsOtherwise (λ t. t ≡ codes ".") ws → BeginsOtherwise IsNumber ws → Unlike (firsts row_words) ws
    by [] d b = tt
    by (t ∷ ws) d b = λ o. b (of_row t o d)

-- ---- words that begin with the rows after the first one, each after a `/`

abbrev next_row : Form
next_row = sequence (the (codes "/")) row_words

abbrev pub further_rows : Form
further_rows = many next_row

abbrev more_rows : Form
more_rows = sequence next_row further_rows

abbrev as_more : Written further_rows → Written (optional more_rows)
as_more [] = inl tt
as_more (x ∷ xs) = inr (x, xs)

abbrev as_rows : Written (optional more_rows) → Written further_rows
as_rows (inl x) = []
as_rows (inr x) = x.0 ∷ x.1

words_more : (x : Written further_rows) → words_of (optional more_rows) (as_more x) ≡ words_of further_rows x
words_more [] = refl
words_more (x ∷ xs) = refl

words_rows : (x : Written (optional more_rows)) → words_of (optional more_rows) x ≡ words_of further_rows (as_rows x)
words_rows (inl x) = refl
words_rows (inr x) = refl

may_more : (x : Written further_rows) → May further_rows x → May (optional more_rows) (as_more x)
may_more [] m = tt
may_more (x ∷ xs) m = m

may_rows : (x : Written (optional more_rows)) → May (optional more_rows) x → May further_rows (as_rows x)
may_rows (inl x) m = tt
may_rows (inr x) m = m

unlike_more : (ws : Words) → Unlike (continuing further_rows) ws → Unlike (continuing (optional more_rows)) ws
unlike_more ws u = search rules

rows_taken : (p rest ws : Words) → IsTaken (optional more_rows) p rest ws → IsTaken further_rows p rest ws
rows_taken p rest ws k = record {
  written = as_rows k.written;
  allowed = may_rows k.written k.allowed;
  piece_is = k.piece_is ∙ words_rows k.written;
  words_are = k.words_are;
  ends = λ y r s m st e u.
      k.ends (as_more y) r s (may_more y m) st
      (ap (λ us. us ++ r) (words_rows k.written) ∙ e ∙ ap (λ us. us ++ s) (sym (words_more y))) (unlike_more s u);
}

pub no_rows : (ws : Words) → BeginsOtherwise (λ t. t ≡ codes "/") ws → IsTaken further_rows [] ws ws
no_rows ws b = rows_taken [] ws ws (optional_absent more_rows ws refl (unlike_text (codes "/") ws b))

next_taken : (p more behind ws : Words) → ws ≡ codes "/" ∷ more → IsTaken row_words p behind more → IsTaken next_row (codes "/" ∷ p) behind ws
next_taken p more behind ws e k =
    sequence_taken (the (codes "/")) row_words (codes "/" ∷ []) p more behind ws refl (the_taken (codes "/") (codes "/" ∷ []) more ws refl e) k

pub further_taken : (p q more behind rest ws : Words) → ws ≡ codes "/" ∷ more → IsTaken row_words p behind more → IsTaken further_rows q rest behind
    → IsTaken further_rows ((codes "/" ∷ p) ++ q) rest ws
further_taken p q more behind rest ws e k l = search (rules, rows_taken, optional_taken, sequence_taken, next_taken)

stops_more : (ws : Words) (left : ℕ) → left < length ws → StopsIn more_rows ws left → StopsIn further_rows ws left
stops_more ws left l w =
    let o = optional_stops more_rows ws left l w in (
      record {
        before = o.0.before;
        after = o.0.after;
        words_are = o.0.words_are;
        left_is = o.0.left_is;
        begins = (o.0.begins.0, as_has (o.0.before ++ o.0.begins.0) o.0.begins.1);
        stops = λ t rest e h. o.0.stops t rest e (h.0, has_more ((o.0.before ++ t ∷ []) ++ h.0) h.1);
        is_none = λ h. o.0.is_none (has_more ws h);
      },
      λ us vs e h u. o.1 us vs e (has_more us h) (unlike_more vs u),
    )
  where
    as_has : (us : Words) → Has (optional more_rows) us → Has further_rows us
    as_has us h = record { written = as_rows h.written; allowed = may_rows h.written h.allowed; spelled = h.spelled ∙ words_rows h.written }

    has_more : (us : Words) → Has further_rows us → Has (optional more_rows) us
    has_more us h = record { written = as_more h.written; allowed = may_more h.written h.allowed; spelled = h.spelled ∙ sym (words_more h.written) }

fewer_left : (f : Form) (us ws : Words) (t : List ℕ) (left : ℕ) → ws ≡ t ∷ us → StopsIn f us left → left < length ws
fewer_left f us ws t left e w = grind (arith, common_steps)

pub next_stops : (more ws : Words) (left : ℕ) → ws ≡ codes "/" ∷ more → StopsIn row_words more left → StopsIn further_rows ws left
next_stops more ws left e w =
    stops_more ws left (fewer_left row_words more ws (codes "/") left e w)
    (stops_left next_row further_rows ws left refl refl
    (stops_right (the (codes "/")) row_words (codes "/" ∷ []) more ws left refl (the_taken (codes "/") (codes "/" ∷ []) more ws refl e) w))

pub further_stops : (p more behind ws : Words) (left : ℕ) → ws ≡ codes "/" ∷ more → IsTaken row_words p behind more → StopsIn further_rows behind left
    → StopsIn further_rows ws left
further_stops p more behind ws left e k w =
    stops_more ws left less
    (stops_right next_row further_rows (codes "/" ∷ p) behind ws left refl (next_taken p more behind ws e k) w)
  where
    less : left < length ws
    less =
        let a = ap length (e ∙ ap (λ us. codes "/" ∷ us) k.words_are) in
        let b = length-append p behind in
        let c = ap length w.0.words_are in
        let d = length-append w.0.before w.0.after in
        let i = w.0.left_is in
        omega (arith, a, b, c, d, i)

-- ---- rows that have been taken from the front of the words, and the words after them

pub record RowsPassed (rest words : Words) : Type 0 where
  pub front : Words
  pub words_are : words ≡ front ++ rest
  pub taken : (q tail : Words) → IsTaken further_rows q tail rest → IsTaken tableau_words (front ++ q) tail words
  pub stops : (left : ℕ) → StopsIn further_rows rest left → StopsIn tableau_words words left

pub first_passed : (p rest words : Words) → IsTaken row_words p rest words → RowsPassed rest words
first_passed p rest words k = search (rules, sequence_taken, stops_right)

pub first_stops : (words : Words) (left : ℕ) → StopsIn row_words words left → StopsIn tableau_words words left
first_stops words left w = stops_left row_words further_rows words left refl refl w

pub next_passed : (p rest more behind words : Words) → RowsPassed rest words → rest ≡ codes "/" ∷ more → IsTaken row_words p behind more
    → RowsPassed behind words
next_passed p rest more behind words r e k = record {
  front = r.front ++ (codes "/" ∷ p);
  words_are =
      r.words_are
      ∙ ap (λ us. r.front ++ us) (e ∙ ap (λ us. codes "/" ∷ us) k.words_are)
      ∙ sym (append_assoc r.front (codes "/" ∷ p) behind);
  taken = λ q tail l.
      subst (λ us. IsTaken tableau_words us tail words) (sym (append_assoc r.front (codes "/" ∷ p) q))
      (r.taken ((codes "/" ∷ p) ++ q) tail (further_taken p q more behind tail rest e k l));
  stops = λ left w. r.stops left (further_stops p more behind rest left e k w);
}

pub from_absent : (words : Words) → BeginsOtherwise (λ t. t ≡ codes "-from") words → IsTaken (optional from_words) [] words words
from_absent words b = optional_absent from_words words refl (unlike_text (codes "-from") words b)

pub from_taken : (p more rest words : Words) → words ≡ codes "-from" ∷ more → IsTaken tableau_words p rest more
    → IsTaken (optional from_words) (codes "-from" ∷ p) rest words
from_taken p more rest words e k =
    optional_taken from_words (codes "-from" ∷ p) rest words refl
    (sequence_taken (the (codes "-from")) tableau_words (codes "-from" ∷ []) p more rest words refl
    (the_taken (codes "-from") (codes "-from" ∷ []) more words refl e) k)

pub from_stops : (more words : Words) (left : ℕ) → words ≡ codes "-from" ∷ more → StopsIn tableau_words more left → StopsIn (optional from_words) words left
from_stops more words left e w =
    optional_stops from_words words left (fewer_left tableau_words more words (codes "-from") left e w)
    (stops_right (the (codes "-from")) tableau_words (codes "-from" ∷ []) more words left refl
    (the_taken (codes "-from") (codes "-from" ∷ []) more words refl e) w)
