-- Words of a command that are divided into parts: the tableaux in them, and the rows of these tableaux.
use Rattle.std.proofs.Common.{◌≡◌, ℕ, ◌<◌, List, [], ◌∷◌, ◌++◌, append_assoc, length, refl, sym, ap, ◌∙◌, subst, arith, inl, inr, flat_map, rules}
use Rattle.std.specs.Prelude.{codes}
use Rattle.std.proofs.lemmas.List.{append-nil}
use Rattle.sym_model.specs.Form.{Written, EachOf, May, words_of, sequence, is_number_word}
use Rattle.sym_model.specs.WordForms.{the, optional, row_words, tableau_words, from_words}
use Rattle.word_laws.specs.Words.{Words}
use Rattle.word_laws.specs.WrittenRows.{row_text, further_text, rows_text, written_row, later_rows, written_rows}
use Rattle.word_laws.proofs.Classes.{number_complete}
use Rattle.calc_words.specs.NumberRuns.{IsNumber, BeginsOtherwise}
use Rattle.calc_words.specs.Parts.{AreCut}
use Rattle.calc_words.specs.declared.word_parts.Part.TheVariants.{Minus, Slash, Shape, Tableau, MaybeFrom}
use Rattle.calc_words.proofs.Commands.{singles}
use Rattle.calc_words.proofs.CutCommands.{has_of}
use Rattle.calc_words.proofs.FactorCuts.{one_run}
use Rattle.calc_words.proofs.PartValues.{are_numbers}
use Rattle.calc_language.specs.SkewWords.{AreSkewWords}
use Rattle.calc_language.specs.TableauWords.{AreTwoTableaux}
use Rattle.calc_language.specs.TabWords.{AreTabWords, from_text, from_rows}

-- ---- the words of the rows of a written tableau

pub row_spelled : (x : Written row_words) → words_of row_words x ≡ row_text (written_row x)
row_spelled (inl x) = refl
row_spelled (inr x) = ap (λ ws. x.0 ∷ ws) (singles x.1)

further_spelled : (xs : List (Written (sequence (the (codes "/")) row_words))) → flat_map (words_of (sequence (the (codes "/")) row_words)) xs ≡ further_text (later_rows xs)
further_spelled [] = refl
further_spelled (x ∷ xs) = search (rules, row_spelled, (further_spelled xs))

pub rows_spelled : (x : Written tableau_words) → words_of tableau_words x ≡ rows_text (written_rows x)
rows_spelled x =
    ap (λ ws. ws ++ flat_map (words_of (sequence (the (codes "/")) row_words)) x.1) (row_spelled x.0) ∙ ap (λ ws. row_text (written_row x.0) ++ ws) (further_spelled x.1)

row_numbers : (x : Written row_words) → May row_words x → EachOf IsNumber (written_row x)
row_numbers (inl x) m = tt
row_numbers (inr x) m = (number_complete x.0 m.0, are_numbers x.1 m.1)

further_numbers : (xs : List (Written (sequence (the (codes "/")) row_words))) → EachOf (May (sequence (the (codes "/")) row_words)) xs → EachOf (EachOf IsNumber) (later_rows xs)
further_numbers [] m = tt
further_numbers (x ∷ xs) m = (row_numbers x.1 m.0.1, further_numbers xs m.1)

pub rows_numbers : (x : Written tableau_words) → May tableau_words x → EachOf (EachOf IsNumber) (written_rows x)
rows_numbers x m = (row_numbers x.0 m.0, further_numbers x.1 m.1)

pub some_row : (x : Written tableau_words) → 0 < length (written_rows x)
some_row x = omega arith

-- ---- the words of `unrsk`, `rect` and `tab`, divided into parts

pub pair_cut : (words : Words) (places : List ℕ) (k : AreCut (codes "unrsk") (Tableau ∷ Minus ∷ Tableau ∷ []) places words) (first second : List Words)
    → first ≡ written_rows k.parts.0 → second ≡ written_rows k.parts.3.3.0 → AreTwoTableaux first second words
pair_cut words places k first second e f =
    subst (λ xs. AreTwoTableaux xs second words) (sym e)
    (subst (λ ys. AreTwoTableaux (written_rows k.parts.0) ys words) (sym f)
    (record {
      has = has_of (codes "unrsk") (Tableau ∷ Minus ∷ Tableau ∷ []) places words k;
      first_is = refl;
      second_is = refl;
      words_are =
          (has_of (codes "unrsk") (Tableau ∷ Minus ∷ Tableau ∷ []) places words k).spelled
          ∙ ap (λ ws. codes "unrsk" ∷ (ws ++ codes "-" ∷ words_of tableau_words k.parts.3.3.0)) (rows_spelled k.parts.0)
          ∙ ap (λ ws. codes "unrsk" ∷ (rows_text (written_rows k.parts.0) ++ codes "-" ∷ ws)) (rows_spelled k.parts.3.3.0);
      first_some = some_row k.parts.0;
      first_numbers = rows_numbers k.parts.0 k.parts.1;
      second_some = some_row k.parts.3.3.0;
      second_numbers = rows_numbers k.parts.3.3.0 k.parts.3.3.1;
    }))

lists_spelled : (name : List ℕ) (outer inner more : Words)
    → ◌≡◌ {A = Words} (name ∷ (flat_map (λ t. t ∷ []) outer ++ (codes "/" ∷ (flat_map (λ t. t ∷ []) inner ++ more)))) (name ∷ (outer ++ codes "/" ∷ (inner ++ more)))
lists_spelled name outer inner more =
    ap (λ ws. name ∷ (ws ++ codes "/" ∷ (flat_map (λ t. t ∷ []) inner ++ more))) (singles outer) ∙ ap (λ ws. name ∷ (outer ++ (codes "/" ∷ (ws ++ more)))) (singles inner)

pub skew_cut : (words : Words) (places : List ℕ) (k : AreCut (codes "rect") (Shape ∷ Slash ∷ Shape ∷ Minus ∷ Tableau ∷ []) places words) (outer inner : Words) (rows : List Words)
    → outer ≡ flat_map (λ t. t ∷ []) k.parts.0 → inner ≡ flat_map (λ t. t ∷ []) k.parts.3.3.0 → rows ≡ written_rows k.parts.3.3.3.3.0 → AreSkewWords outer inner rows words
skew_cut words places k outer inner rows e f g =
    let x = k.parts.3.3.3.3.0 in
    subst (λ us. AreSkewWords us inner rows words) (sym (e ∙ singles k.parts.0))
    (subst (λ us. AreSkewWords k.parts.0 us rows words) (sym (f ∙ singles k.parts.3.3.0))
    (subst (λ xs. AreSkewWords k.parts.0 k.parts.3.3.0 xs words) (sym g)
    (record {
      has = has_of (codes "rect") (Shape ∷ Slash ∷ Shape ∷ Minus ∷ Tableau ∷ []) places words k;
      outer_is = refl;
      inner_is = refl;
      rows_are = refl;
      words_are =
          (has_of (codes "rect") (Shape ∷ Slash ∷ Shape ∷ Minus ∷ Tableau ∷ []) places words k).spelled
          ∙ lists_spelled (codes "rect") k.parts.0 k.parts.3.3.0 (codes "-" ∷ words_of tableau_words x)
          ∙ ap (λ ws. codes "rect" ∷ (k.parts.0 ++ codes "/" ∷ (k.parts.3.3.0 ++ codes "-" ∷ ws))) (rows_spelled x);
      rows_some = some_row x;
      rows_numbers = rows_numbers x k.parts.3.3.3.3.1;
    })))

from_spelled : (x : Written (optional from_words)) → words_of (optional from_words) x ≡ from_text (from_rows x)
from_spelled (inl x) = refl
from_spelled (inr x) = ap (λ ws. codes "-from" ∷ ws) (rows_spelled x.1)

from_numbers : (x : Written (optional from_words)) → May (optional from_words) x → EachOf (EachOf IsNumber) (from_rows x)
from_numbers (inl x) m = tt
from_numbers (inr x) m = rows_numbers x.1 m.1

pub none_from : (x : Written (optional from_words)) (words : Words) → words ≡ words_of (optional from_words) x → BeginsOtherwise (λ t. t ≡ codes "-from") words → [] ≡ from_rows x
none_from (inl x) words e b = refl
none_from (inr x) words e b = absurd (subst (BeginsOtherwise (λ t. t ≡ codes "-from")) e b refl)

-- if the words of the part `-from` TABLEAU are `-from` and `more`, its tableau has a row, its rows are lists of numbers, and `more` are the words of
-- the rows
pub some_from : (x : Written (optional from_words)) (words more : Words) → May (optional from_words) x → words ≡ words_of (optional from_words) x → words ≡ codes "-from" ∷ more
    → (0 < length (from_rows x)) × EachOf (EachOf IsNumber) (from_rows x) × (more ≡ rows_text (from_rows x))
some_from (inl x) words more m e f = let z = sym e ∙ f in cc
some_from (inr x) words more m e f =
    let z = sym f ∙ e in let k : more ≡ words_of tableau_words x.1 = cc in (omega arith, rows_numbers x.1 m.1, k ∙ rows_spelled x.1)

pub tab_cut : (words : Words) (places : List ℕ) (k : AreCut (codes "tab") (Shape ∷ Slash ∷ Shape ∷ MaybeFrom ∷ []) places words) (outer inner : Words) (rows : List Words)
    → outer ≡ flat_map (λ t. t ∷ []) k.parts.0 → inner ≡ flat_map (λ t. t ∷ []) k.parts.3.3.0 → rows ≡ from_rows k.parts.3.3.3.0 → AreTabWords outer inner rows words
tab_cut words places k outer inner rows e f g =
    let x = k.parts.3.3.3.0 in
    subst (λ us. AreTabWords us inner rows words) (sym (e ∙ singles k.parts.0))
    (subst (λ us. AreTabWords k.parts.0 us rows words) (sym (f ∙ singles k.parts.3.3.0))
    (subst (λ xs. AreTabWords k.parts.0 k.parts.3.3.0 xs words) (sym g)
    (record {
      has = has_of (codes "tab") (Shape ∷ Slash ∷ Shape ∷ MaybeFrom ∷ []) places words k;
      outer_is = refl;
      inner_is = refl;
      rows_are = refl;
      words_are =
          (has_of (codes "tab") (Shape ∷ Slash ∷ Shape ∷ MaybeFrom ∷ []) places words k).spelled
          ∙ lists_spelled (codes "tab") k.parts.0 k.parts.3.3.0 (words_of (optional from_words) x)
          ∙ ap (λ ws. codes "tab" ∷ (k.parts.0 ++ codes "/" ∷ (k.parts.3.3.0 ++ ws))) (from_spelled x);
      rows_numbers = from_numbers x k.parts.3.3.3.1;
    })))

-- ---- the rows of a tableau, taken one after another from its words

no_number : (rows : List Words) → BeginsOtherwise IsNumber (further_text rows)
no_number [] = tt
no_number (row ∷ rows) = λ h. cc

pub dot_row : (row words rest : Words) (rows : List Words) → EachOf IsNumber row → words ≡ row_text row ++ further_text rows → words ≡ codes "." ∷ rest
    → ([] ≡ row) × (rest ≡ further_text rows)
dot_row [] words rest rows n e f = let z = sym f ∙ e in (refl, cc)
dot_row (t ∷ row) words rest rows n e f = let z = sym e ∙ f in let k : t ≡ codes "." = cc in let h = sym (ap is_number_word k) ∙ n.0 in cc

pub number_row : (row words ns rest : Words) (rows : List Words) → EachOf IsNumber row → words ≡ row_text row ++ further_text rows
    → BeginsOtherwise (λ t. t ≡ codes ".") words → words ≡ ns ++ rest → EachOf IsNumber ns → BeginsOtherwise IsNumber rest
    → (ns ≡ row) × (rest ≡ further_text rows)
number_row [] words ns rest rows n e d f m b = absurd (subst (BeginsOtherwise (λ t. t ≡ codes ".")) e d refl)
number_row (t ∷ row) words ns rest rows n e d f m b = one_run IsNumber ns (t ∷ row) rest (further_text rows) m n b (no_number rows) (sym f ∙ e)

-- `all` is `rows`, followed by later rows of numbers; `rest` has the words of the later rows, with a `/` before each of these rows
pub record FurtherLeft (rows : List Words) (rest : Words) (all : List Words) : Type 0 where
  pub later : List Words
  pub all_are : all ≡ rows ++ later
  pub numbers : EachOf (EachOf IsNumber) later
  pub rest_is : rest ≡ further_text later

pub record RowsRead (rows : List Words) (rest words : Words) : Type 0 where
  pub left : (all : List Words) → 0 < length all → EachOf (EachOf IsNumber) all → words ≡ rows_text all → FurtherLeft rows rest all

abbrev pub FirstRow : Words → Words → Words → Type 0
FirstRow words first rest =
    (row : Words) (rows : List Words) → EachOf IsNumber row → words ≡ row_text row ++ further_text rows → (first ≡ row) × (rest ≡ further_text rows)

pub first_read : (words first rest : Words) → FirstRow words first rest → RowsRead (first ∷ []) rest words
first_read words first rest h = search rules

pub next_read : (rows : List Words) (words rest more row later : Words) → RowsRead rows rest words → rest ≡ codes "/" ∷ more → FirstRow more row later
    → RowsRead (rows ++ row ∷ []) later words
next_read rows words rest more row later r e h = record { left = λ all l n k. by all (r.left all l n k) }
  where
    by : (all : List Words) → FurtherLeft rows rest all → FurtherLeft (rows ++ row ∷ []) later all
    by all f = on f.later f.all_are f.numbers f.rest_is
      where
        on : (us : List Words) → all ≡ rows ++ us → EachOf (EachOf IsNumber) us → rest ≡ further_text us → FurtherLeft (rows ++ row ∷ []) later all
        on [] a n i = let z = sym e ∙ i in cc
        on (u ∷ us) a n i =
            let z = sym e ∙ i in
            let k = h u us n.0 cc in
            record { later = us; all_are = a ∙ ap (λ v. rows ++ v ∷ us) (sym k.0) ∙ sym (append_assoc rows (row ∷ []) us); numbers = n.1; rest_is = k.1 }

pub all_read : (rows all : List Words) (words rest : Words) → RowsRead rows rest words → BeginsOtherwise (λ t. t ≡ codes "/") rest → 0 < length all
    → EachOf (EachOf IsNumber) all → words ≡ rows_text all → rows ≡ all
all_read rows all words rest r b l n e = by (r.left all l n e)
  where
    by : FurtherLeft rows rest all → rows ≡ all
    by f = on f.later f.all_are f.rest_is
      where
        on : (us : List Words) → all ≡ rows ++ us → rest ≡ further_text us → rows ≡ all
        on [] a i = sym (a ∙ append-nil rows)
        on (u ∷ us) a i = absurd (subst (BeginsOtherwise (λ t. t ≡ codes "/")) i b refl)
