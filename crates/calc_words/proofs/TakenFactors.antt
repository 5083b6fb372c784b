-- The words of factors at the front of a list of words.
use Rattle.std.proofs.lemmas.Grind.{common_steps}
use Rattle.std.proofs.Common.{◌≡◌, ℕ, ◌-◌, ◌≤◌, List, ◌∷◌, ◌++◌, append_assoc, map, length, refl, sym, ap, ◌∙◌, arith, rules}
use Rattle.std.specs.Prelude.{codes}
use Rattle.sym_model.specs.Form.{sequence, many, EachOf}
use Rattle.sym_model.specs.WordForms.{the, partition_words, next_words, factors_words}
use Rattle.word_laws.specs.OneReading.{continuing}
use Rattle.word_laws.specs.Words.{Words}
use Rattle.word_laws.proofs.Readings.{OfOne}
use Rattle.word_laws.proofs.Cuts.{IsTaken, StopsIn, ends_unlike, stops_left, stops_right}
use Rattle.word_laws.proofs.CutParts.{is_exact, is_number, unlike_kind, numbers_taken, the_wrong}
use Rattle.calc_words.specs.NumberRuns.{IsNumber, BeginsOtherwise}
use Rattle.calc_words.specs.FactorWords.{IsPieceWord}
use Rattle.calc_words.proofs.FactorCuts.{cut, are_written}

pub factors_wrong : (words ns rest : Words) → words ≡ ns ++ rest → EachOf IsNumber ns → BeginsOtherwise IsNumber rest
    → BeginsOtherwise (λ t. t ≡ codes "-") rest → StopsIn factors_words words (length rest)
factors_wrong words ns rest e n b d =
    stops_right partition_words (sequence next_words (many next_words)) ns rest words (length rest) refl (numbers_taken ns rest words e n b)
    (stops_left next_words (many next_words) rest (length rest) refl refl
    (stops_left (the (codes "-")) partition_words rest (length rest) refl refl (the_wrong (codes "-") rest d)))

of_piece : (t : List ℕ) → OfOne (continuing factors_words) t → IsPieceWord t
of_piece t o = search (rules, is_exact, is_number)

pub factors_taken : (words ns after later ps rest : Words) → words ≡ ns ++ after → EachOf IsNumber ns → after ≡ codes "-" ∷ later
    → later ≡ ps ++ rest → EachOf IsPieceWord ps → BeginsOtherwise IsPieceWord rest → IsTaken factors_words (ns ++ codes "-" ∷ ps) rest words
factors_taken words ns after later ps rest e n d l p o =
    let k = cut ps p in
    let w = are_written (ns ++ codes "-" ∷ ps) ns k.second k.others (ap (λ us. ns ++ codes "-" ∷ us) k.words_are) n k.second_numbers k.other_numbers in
    record {
      written = w.written;
      allowed = w.allowed;
      piece_is = w.spelled;
      words_are =
          e ∙ ap (λ us. ns ++ us) (d ∙ ap (λ us. codes "-" ∷ us) l) ∙ sym (append_assoc ns (codes "-" ∷ ps) rest);
      ends = ends_unlike factors_words refl w.written w.allowed rest (unlike_kind IsPieceWord (continuing factors_words) rest of_piece o);
    }

-- if the words are `piece` followed by `rest`, the number of words of `piece` is the number of all words minus that of `rest`
pub factors_count : {A : Type 0} (f : A → List ℕ) (words rest : List A) (piece : Words) → map f words ≡ piece ++ map f rest
    → length words - length rest ≡ length piece
factors_count f words rest piece e = grind (arith, common_steps)

pub no_more_left : {A : Type 0} (f : A → List ℕ) (words after later rest : List A) (ns ps : Words) → map f words ≡ ns ++ map f after → map f after ≡ codes "-" ∷ map f later
    → map f later ≡ ps ++ map f rest → length rest ≤ length words
no_more_left f words after later rest ns ps e d l = grind (arith, common_steps)
