-- The lines of a text that begins with a given line. The block of a line is the text of its answer or refusal: if the lines of a batch are given as
-- two lists, its blocks are those of the first list, followed by those of the second.
use Rattle.std.proofs.Common.{◌≡◌, ℕ, ◌==◌, ◌<◌, Bool, true, false, ◌&&◌, cond, List, [], ◌∷◌, ◌++◌, append_assoc, length, refl, sym, ap, ◌∙◌, Some}
use Rattle.std.specs.Prelude.{codes}
use Rattle.std.proofs.lemmas.Bool.{lt-ltb, ne_eqb}
use Rattle.sym_model.specs.BatchLine.{BatchLine, too_long, passed_over, spoken, is_some_text, lines_of, batch_line, most_bytes, line_of_words, words_of_line, without_return}
use Rattle.sym_model.specs.BatchOutcome.{Block, AreBlocks, batch_text, is_done, are_done}
use Rattle.sym_model.specs.Entry.{Entry}
use Rattle.sym_model.specs.NumberText.{split_at, before_first}
use Rattle.batch_lines.specs.Feeds.{HasNoFeed}
use Rattle.batch_lines.specs.Reading.{Took}

-- ---- the lines of a text: the first line and the others, or one line without a line feed

abbrev whole_lines : List (List ℕ) → List (List ℕ)
whole_lines [] = []
whole_lines (piece ∷ []) = cond (is_some_text piece) (piece ∷ []) []
whole_lines (piece ∷ next ∷ pieces) = piece ∷ whole_lines (next ∷ pieces)

lines_are : (text : List ℕ) → lines_of text ≡ whole_lines (split_at 10 text)
lines_are text = refl

split_some : (text : List ℕ) → (p : List ℕ) × (ps : List (List ℕ)) × (split_at 10 text ≡ p ∷ ps)
split_some [] = ([], [], refl)
split_some (b ∷ text) = by (b == 10) refl (split_some text)
  where
    by : (t : Bool) → (b == 10) ≡ t → (p : List ℕ) × (ps : List (List ℕ)) × (split_at 10 text ≡ p ∷ ps) → (p : List ℕ) × (ps : List (List ℕ)) × (split_at 10 (b ∷ text) ≡ p ∷ ps)
    by true e r = ([], split_at 10 text, ap (λ x. cond x ([] ∷ split_at 10 text) (before_first b (split_at 10 text))) e)
    by false e r =
        (b ∷ r.0, r.1, ap (λ x. cond x ([] ∷ split_at 10 text) (before_first b (split_at 10 text))) e ∙ ap (before_first b) r.2)

split_other : (b : ℕ) (text : List ℕ) → (b ≡ 10 → ⊥) → split_at 10 (b ∷ text) ≡ before_first b (split_at 10 text)
split_other b text n = ap (λ x. cond x ([] ∷ split_at 10 text) (before_first b (split_at 10 text))) (ne_eqb b 10 n)

split_feed : (text rest : List ℕ) → HasNoFeed text → split_at 10 (text ++ 10 ∷ rest) ≡ text ∷ split_at 10 rest
split_feed [] rest h = refl
split_feed (b ∷ text) rest h = split_other b (text ++ 10 ∷ rest) h.0 ∙ ap (before_first b) (split_feed text rest h.1)

split_one : (text : List ℕ) → HasNoFeed text → split_at 10 text ≡ text ∷ []
split_one [] h = refl
split_one (b ∷ text) h = split_other b text h.0 ∙ ap (before_first b) (split_one text h.1)

pub line_first : (text rest : List ℕ) → HasNoFeed text → lines_of (text ++ 10 ∷ rest) ≡ text ∷ lines_of rest
line_first text rest h =
    let s = split_some rest in
    lines_are (text ++ 10 ∷ rest)
    ∙ ap whole_lines (split_feed text rest h ∙ ap (λ ps. text ∷ ps) s.2)
    ∙ ap (λ ps. text ∷ whole_lines ps) (sym s.2)

pub line_last : (text : List ℕ) → HasNoFeed text → 0 < length text → lines_of text ≡ text ∷ []
line_last text h l =
    lines_are text ∙ ap whole_lines (split_one text h) ∙ ap (λ t. cond t (text ∷ []) []) (lt-ltb 0 (length text) l)

pub told : (all rest taken : List ℕ) → Took (Some all) (Some rest) taken → all ≡ taken ++ rest
told all rest taken h = cc

pub long_is : (text : List ℕ) → most_bytes < length text → batch_line text ≡ too_long
long_is text h = ap (λ t. cond t too_long (line_of_words (words_of_line (without_return text)))) (lt-ltb most_bytes (length text) h)

pub more_blocks : (entries : List Entry) (lines more : List BatchLine) (blocks others : List Block) → AreBlocks entries lines blocks → AreBlocks entries more others
    → AreBlocks entries (lines ++ more) (blocks ++ others)
more_blocks entries [] more [] others h k = k
more_blocks entries [] more (b ∷ blocks) others h k = absurd h
more_blocks entries (passed_over ∷ lines) more blocks others h k = more_blocks entries lines more blocks others h k
more_blocks entries (too_long ∷ lines) more [] others h k = absurd h
more_blocks entries (too_long ∷ lines) more (b ∷ blocks) others h k = (h.0, more_blocks entries lines more blocks others h.1 k)
more_blocks entries (spoken words ∷ lines) more [] others h k = absurd h
more_blocks entries (spoken words ∷ lines) more (b ∷ blocks) others h k = (h.0, more_blocks entries lines more blocks others h.1 k)

pub more_text : (first : Block) (blocks : List Block) (b : Block) → batch_text ((first ∷ blocks) ++ b ∷ []) ≡ batch_text (first ∷ blocks) ++ (codes "--\n" ++ b.0)
more_text first [] b = refl
more_text first (next ∷ blocks) b =
    ap (λ xs. first.0 ++ (codes "--\n" ++ xs)) (more_text next blocks b)
    ∙ sym (append_assoc first.0 (codes "--\n" ++ batch_text (next ∷ blocks)) (codes "--\n" ++ b.0))

pub more_done : (blocks : List Block) (b : Block) → are_done (blocks ++ b ∷ []) ≡ (are_done blocks && is_done b.1)
more_done [] b = by (is_done b.1)
  where
    by : (t : Bool) → (t && true) ≡ (true && t)
    by true = refl
    by false = refl
more_done (a ∷ blocks) b = ap (λ t. is_done a.1 && t) (more_done blocks b) ∙ by (is_done a.1) (are_done blocks) (is_done b.1)
  where
    by : (x y z : Bool) → (x && (y && z)) ≡ ((x && y) && z)
    by true y z = refl
    by false y z = refl
