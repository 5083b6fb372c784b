-- Words that begin with one part of a command: a number, a letter of a basis, an expression, `-r` and a number, or `-m`. A form (a pattern of
-- words) *takes* words from the front of a list of words (`IsTaken`). If a list does not begin with words of the form, the place of the error is
-- found.
use Rattle.std.proofs.Common.{◌≡◌, ℕ, true, List, [], ◌∷◌, ◌++◌, length, refl, sym, ap, ◌∙◌, subst, arith, inl, inr, flat_map, rules}
use Rattle.std.specs.Prelude.{codes}
use Rattle.sym_model.specs.Expansion.{Basis, monomials, elementaries, completes, power_sums, schurs}
use Rattle.sym_model.specs.Grammar.{all_bases}
use Rattle.sym_model.specs.Phrase.{Phrase, SpellsPhrase, letter}
use Rattle.sym_model.specs.Form.{Class, exact, number, target, formula, WrittenWord, word_of, MayBe, word, SomeOf, EachOf, May, is_letter_of}
use Rattle.sym_model.specs.WordForms.{the, optional, rows_words, form_words, partition_words, permutation_words}
use Rattle.word_laws.specs.FirstWords.{IsNumber, BeginsOtherwise}
use Rattle.word_laws.specs.Words.{Words}
use Rattle.word_laws.proofs.Classes.{number_sound, number_complete, letter_complete}
use Rattle.word_laws.proofs.Readings.{OfOne, Unlike}
use Rattle.word_laws.proofs.Cuts.{IsTaken, StopsIn, ends_unlike, stops_first, stops_right, optional_taken, optional_absent, optional_stops}

pub is_exact : (c : Class) (x : WrittenWord c) (text : List ℕ) → c ≡ exact text → word_of c x ≡ text
is_exact (exact a) x text e = cc
is_exact number x text e = cc
is_exact (target bases) x text e = cc
is_exact formula x text e = cc

pub is_number : (c : Class) (x : WrittenWord c) → MayBe c x → c ≡ number → IsNumber (word_of c x)
is_number (exact a) x m e = cc
is_number number x m e = number_complete x m
is_number (target bases) x m e = cc
is_number formula x m e = cc

pub unlike_kind : (P : List ℕ → Type 0) (cs : List Class) (words : Words) → ((t : List ℕ) → OfOne cs t → P t) → BeginsOtherwise P words → Unlike cs words
unlike_kind P cs [] h b = tt
unlike_kind P cs (t ∷ words) h b = λ o. b (h t o)

unlike_nothing : (words : Words) → Unlike [] words
unlike_nothing words = search rules

of_class : (c : Class) (P : List ℕ → Type 0) → ((x : WrittenWord c) → MayBe c x → P (word_of c x)) → (t : List ℕ) → OfOne (c ∷ []) t → P t
of_class c P h t o = elim (o.among) as (λ m. P t) [
  | inl e ↦ subst P (sym o.spelled) (subst (λ k. (x : WrittenWord k) → MayBe k x → P (word_of k x)) (sym e) h o.written o.allowed)
  | inr m ↦ absurd m
]

unlike_numbers : (words : Words) → BeginsOtherwise IsNumber words → Unlike (number ∷ []) words
unlike_numbers words b = unlike_kind IsNumber (number ∷ []) words (of_class number IsNumber number_complete) b

pub unlike_text : (text : List ℕ) (words : Words) → BeginsOtherwise (λ t. t ≡ text) words → Unlike (exact text ∷ []) words
unlike_text text words b =
    unlike_kind (λ t. t ≡ text) (exact text ∷ []) words (of_class (exact text) (λ t. t ≡ text) (λ x m. refl)) b

pub may_be : (ns : Words) → EachOf IsNumber ns → EachOf (May (word number)) ns
may_be [] e = tt
may_be (t ∷ ns) e = (number_sound t e.0, may_be ns e.1)

pub singles : (ns : Words) → flat_map (λ t. t ∷ []) ns ≡ ns
singles [] = refl
singles (t ∷ ns) = ap (λ ws. t ∷ ws) (singles ns)

-- ---- words that begin with a word of one class, with numbers, or with the letters of a permutation

word_taken : (c : Class) (x : WrittenWord c) (piece rest words : Words) → MayBe c x → piece ≡ word_of c x ∷ [] → words ≡ word_of c x ∷ rest
    → IsTaken (word c) piece rest words
word_taken c x piece rest words m p e = search rules

pub the_taken : (text : List ℕ) (piece rest words : Words) → piece ≡ text ∷ [] → words ≡ text ∷ rest → IsTaken (the text) piece rest words
the_taken text piece rest words p e = word_taken (exact text) tt piece rest words tt p e

pub the_wrong : (text : List ℕ) (words : Words) → BeginsOtherwise (λ t. t ≡ text) words → StopsIn (the text) words (length words)
the_wrong text words b = stops_first (the text) words refl refl (unlike_text text words b)

pub number_taken : (digits : List ℕ) (piece rest words : Words) → IsNumber digits → piece ≡ digits ∷ [] → words ≡ digits ∷ rest
    → IsTaken (word number) piece rest words
number_taken digits piece rest words n p e = word_taken number digits piece rest words (number_sound digits n) p e

pub number_wrong : (words : Words) → BeginsOtherwise IsNumber words → StopsIn (word number) words (length words)
number_wrong words b = stops_first (word number) words refl refl (unlike_numbers words b)

-- ---- words that begin with the letter of a basis or with an expression
pub is_basis : (t : Basis) → SomeOf (λ b. t ≡ b) all_bases
is_basis monomials = inl refl
is_basis elementaries = inr (inl refl)
is_basis completes = inr (inr (inl refl))
is_basis power_sums = inr (inr (inr (inl refl)))
is_basis schurs = inr (inr (inr (inr (inl refl))))

pub letter_taken : (basis : Basis) (rest words : Words) → words ≡ letter basis ∷ rest → IsTaken (word (target all_bases)) (letter basis ∷ []) rest words
letter_taken basis rest words e = word_taken (target all_bases) basis (letter basis ∷ []) rest words (is_basis basis) refl e

pub letter_wrong : (words : Words) → BeginsOtherwise (λ t. is_letter_of all_bases t ≡ true) words
    → StopsIn (word (target all_bases)) words (length words)
letter_wrong words b = search (rules, stops_first, unlike_kind, of_class, letter_complete)

abbrev pub IsExpressionText : List ℕ → Type 0
IsExpressionText text = (phrase : Phrase) × SpellsPhrase text phrase

pub expression_taken : (text : List ℕ) (rest words : Words) → IsExpressionText text → words ≡ text ∷ rest → IsTaken (word formula) (text ∷ []) rest words
expression_taken text rest words p e =
    word_taken formula p.0 (text ∷ []) rest words p.1.allowed (ap (λ t. t ∷ []) p.1.spelled) (e ∙ ap (λ t. t ∷ rest) p.1.spelled)

pub expression_wrong : (words : Words) → BeginsOtherwise IsExpressionText words → StopsIn (word formula) words (length words)
expression_wrong words b =
    stops_first (word formula) words refl refl
    (unlike_kind IsExpressionText (formula ∷ []) words
    (of_class formula IsExpressionText (λ x m. (x, record { allowed = m; spelled = refl }))) b)

pub numbers_taken : (ns rest words : Words) → words ≡ ns ++ rest → EachOf IsNumber ns → BeginsOtherwise IsNumber rest
    → IsTaken partition_words ns rest words
numbers_taken ns rest words e n b = record {
  written = ns;
  allowed = may_be ns n;
  piece_is = sym (singles ns);
  words_are = e;
  ends = ends_unlike partition_words refl ns (may_be ns n) rest (unlike_numbers rest b);
}

pub letters_taken : (t : List ℕ) (more ns rest words : Words) → words ≡ t ∷ more → IsNumber t → words ≡ ns ++ rest → EachOf IsNumber ns
    → BeginsOtherwise IsNumber rest → IsTaken permutation_words ns rest words
letters_taken t more [] rest words f i e n b = absurd (subst (BeginsOtherwise IsNumber) (sym e ∙ f) b i)
letters_taken t more (u ∷ ns) rest words f i e n b = record {
  written = (u, ns);
  allowed = (number_sound u n.0, may_be ns n.1);
  piece_is = ap (λ ws. u ∷ ws) (sym (singles ns));
  words_are = e;
  ends = ends_unlike permutation_words refl (u, ns) (number_sound u n.0, may_be ns n.1) rest (unlike_numbers rest b);
}

pub letters_wrong : (words : Words) → BeginsOtherwise IsNumber words → StopsIn permutation_words words (length words)
letters_wrong words b = stops_first permutation_words words refl refl (unlike_numbers words b)

pub rows_taken : (digits : List ℕ) (piece rest words : Words) → IsNumber digits → piece ≡ codes "-r" ∷ digits ∷ [] → words ≡ codes "-r" ∷ digits ∷ rest
    → IsTaken rows_words piece rest words
rows_taken digits piece rest words n p e = record {
  written = (tt, digits);
  allowed = (tt, number_sound digits n);
  piece_is = p;
  words_are = e ∙ ap (λ us. us ++ rest) (sym p);
  ends = ends_unlike rows_words refl (tt, digits) (tt, number_sound digits n) rest (unlike_nothing rest);
}

pub rows_absent : (words : Words) → BeginsOtherwise (λ t. t ≡ codes "-r") words → StopsIn rows_words words (length words)
rows_absent words b = stops_first rows_words words refl refl (unlike_text (codes "-r") words b)

pub rows_unnumbered : (words more : Words) → words ≡ codes "-r" ∷ more → BeginsOtherwise IsNumber more → StopsIn rows_words words (length more)
rows_unnumbered words more e b =
    stops_right (the (codes "-r")) (word number) (codes "-r" ∷ []) more words (length more) refl
    (the_taken (codes "-r") (codes "-r" ∷ []) more words refl e) (number_wrong more b)

-- ---- the optional words `-r` and a number, and the optional word `-m`

pub maybe_rows_taken : (digits : List ℕ) (piece rest words : Words) → IsNumber digits → piece ≡ codes "-r" ∷ digits ∷ [] → words ≡ codes "-r" ∷ digits ∷ rest
    → IsTaken (optional rows_words) piece rest words
maybe_rows_taken digits piece rest words n p e = optional_taken rows_words piece rest words refl (rows_taken digits piece rest words n p e)

pub maybe_rows_absent : (words : Words) → BeginsOtherwise (λ t. t ≡ codes "-r") words → IsTaken (optional rows_words) [] words words
maybe_rows_absent words b = optional_absent rows_words words refl (unlike_text (codes "-r") words b)

pub maybe_rows_unnumbered : (words more : Words) → words ≡ codes "-r" ∷ more → BeginsOtherwise IsNumber more
    → StopsIn (optional rows_words) words (length more)
maybe_rows_unnumbered words more e b =
    optional_stops rows_words words (length more) (let n = ap length e in omega (arith, n)) (rows_unnumbered words more e b)

pub maybe_form_taken : (piece rest words : Words) → piece ≡ codes "-m" ∷ [] → words ≡ codes "-m" ∷ rest → IsTaken (optional form_words) piece rest words
maybe_form_taken piece rest words p e = optional_taken form_words piece rest words refl (the_taken (codes "-m") piece rest words p e)

pub maybe_form_absent : (words : Words) → BeginsOtherwise (λ t. t ≡ codes "-m") words → IsTaken (optional form_words) [] words words
maybe_form_absent words b = optional_absent form_words words refl (unlike_text (codes "-m") words b)
