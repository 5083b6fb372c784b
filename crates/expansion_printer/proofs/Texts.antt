-- The texts of lists, item by item: numbers with a separator, and the block of a list of terms, which has one line for each term, or only the line
-- `0` if there is no term.
use Rattle.std.proofs.Common.{◌≡◌, ℕ, ◌+◌, ◌<◌, ◌≤◌, length, get_or, take, take_all, arith, List, [], ◌∷◌, ◌++◌, refl, sym, ◌∙◌, ap, append_assoc, append-nil, map, cond, ◌==◌, zero, suc}
use Rattle.std.specs.Prelude.{codes, decimal, ℤ, pos, negsuc, nat_lt}
use Rattle.std.specs.Fmt.{digits, signed_decimal}
use Rattle.std.proofs.lemmas.List.{take_more, length-map, length-take-le, map-append}
use Rattle.std.proofs.lemmas.Simd.{map-map}
use Rattle.std.proofs.lemmas.Bool.{eq-eqb, ne_eqb, cond-true, cond-false, lt-ltb}
use Rattle.sym_model.specs.Expansion.{Fraction, Terms}
use Rattle.sym_model.specs.NumberText.{numbers_text}
use Rattle.sym_model.specs.Kind.{LabelRules, label_rules}
use Rattle.sym_model.specs.Kind as kinds
use Rattle.sym_model.specs.Answer.{answer, answer_text}
use Rattle.expansion_printer.specs.Answers.{number_terms}
use Rattle.sym_model.specs.PrintedBlock.{line_by, lines_by, block_by}
use Rattle.sym_model.specs.TableauText.{separated}

pub numbers_text-separated : (numbers : List ℕ) → separated (codes ",") (map decimal numbers) ≡ numbers_text numbers
numbers_text-separated [] = refl
numbers_text-separated (a ∷ []) = refl
numbers_text-separated (a ∷ b ∷ numbers) = ap (λ t. decimal a ++ (codes "," ++ t)) (numbers_text-separated (b ∷ numbers))

separated-behind : (separator piece : List ℕ) (first : List ℕ) (pieces : List (List ℕ))
    → separated separator (first ∷ pieces) ++ (separator ++ piece) ≡ separated separator ((first ∷ pieces) ++ piece ∷ [])
separated-behind separator piece first [] = refl
separated-behind separator piece first (next ∷ pieces) =
    append_assoc first (separator ++ separated separator (next ∷ pieces)) (separator ++ piece)
    ∙ ap (λ t. first ++ t) (append_assoc separator (separated separator (next ∷ pieces)) (separator ++ piece)
    ∙ ap (λ t. separator ++ t) (separated-behind separator piece next pieces))

-- the separated text of a list, then the separator unless the list is empty, and then a piece, are the separated text of the list with this piece
-- appended
pub separated-push : (separator : List ℕ) (pieces : List (List ℕ)) (piece : List ℕ) (at : ℕ) → length pieces ≡ at
    → separated separator pieces ++ cond (at == 0) piece (separator ++ piece) ≡ separated separator (pieces ++ piece ∷ [])
separated-push separator [] piece at first =
    cond-true (at == 0) piece (separator ++ piece) (eq-eqb at 0 (sym first))
separated-push separator (other ∷ pieces) piece at later =
    ap (λ t. separated separator (other ∷ pieces) ++ t) (cond-false (at == 0) piece (separator ++ piece) (ne_eqb at 0 (λ e. omega arith)))
    ∙ separated-behind separator piece other pieces

-- the separated texts of the first `at` items, then the separator unless at = 0, and then the text of the next item, are the separated texts of the
-- first at + 1 items
pub texts-more : {N : Type 0} (separator : List ℕ) (text : N → List ℕ) (items : List N) (at : ℕ) (item : N)
    → at < length items → item ≡ get_or items at item
    → separated separator (map text (take at items)) ++ cond (at == 0) (text item) (separator ++ text item)
    ≡ separated separator (map text (take (at + 1) items))
texts-more separator text items at item below is =
    separated-push separator (map text (take at items)) (text item) at
    (length-map (take at items) text ∙ length-take-le at items (omega arith))
    ∙ ap (separated separator) (sym (ap (map text) (take_more items at item below ∙ ap (λ y. take at items ++ y ∷ []) (sym is))
    ∙ map-append text (take at items) (item ∷ [])))

-- the first `at` numbers in decimal, separated, then the separator unless at = 0, and then the next number, are the first at + 1 numbers, separated
pub numerals-more : {N : Type 0} (separator : List ℕ) (number : N → ℕ) (numbers : List N) (at : ℕ) (item : N)
    → at < length numbers → item ≡ get_or numbers at item
    → separated separator (map decimal (map number (take at numbers)))
    ++ cond (at == 0) (decimal (number item)) (separator ++ decimal (number item))
    ≡ separated separator (map decimal (map number (take (at + 1) numbers)))
numerals-more separator number numbers at item below is =
    ap (λ pieces. separated separator pieces ++ cond (at == 0) (decimal (number item)) (separator ++ decimal (number item)))
    (map-map decimal number (take at numbers))
    ∙ texts-more separator (λ n. decimal (number n)) numbers at item below is
    ∙ ap (separated separator) (sym (map-map decimal number (take (at + 1) numbers)))

pub numerals-all : {N : Type 0} (separator : List ℕ) (number : N → ℕ) (numbers : List N) (at : ℕ) → length numbers ≤ at
    → separated separator (map decimal (map number (take at numbers))) ≡ separated separator (map decimal (map number numbers))
numerals-all separator number numbers at all = ap (λ xs. separated separator (map decimal (map number xs))) (take_all at numbers all)

pub map_same : (numbers : List ℕ) → map (λ (n : ℕ). n) numbers ≡ numbers
map_same [] = refl
map_same (n ∷ numbers) = ap (λ ns. n ∷ ns) (map_same numbers)

-- appending the line of a term to the lines of a list gives the lines of the list with the term appended
pub lines_by-push : {Label : Type 0} (rules : LabelRules Label) (terms : Terms Label) (t : Label × Fraction)
    → lines_by rules terms ++ line_by rules t ≡ lines_by rules (terms ++ t ∷ [])
lines_by-push rules [] t = sym (append-nil (line_by rules t))
lines_by-push rules (u ∷ terms) t =
    append_assoc (line_by rules u) (lines_by rules terms) (line_by rules t)
    ∙ ap (λ text. line_by rules u ++ text) (lines_by-push rules terms t)

-- the block of a list that is not empty is the lines of its terms
pub block_by-some : {Label : Type 0} (rules : LabelRules Label) (terms : Terms Label) → 0 < length terms
    → lines_by rules terms ≡ block_by rules terms
block_by-some rules [] some = absurd (omega arith)
block_by-some rules (t ∷ terms) some = refl

-- the block of the empty list is the line `0`
pub block_by-nothing : {Label : Type 0} (rules : LabelRules Label) (terms : Terms Label) → length terms ≡ 0
    → codes "0\n" ≡ block_by rules terms
block_by-nothing rules [] none = refl
block_by-nothing rules (t ∷ terms) none = absurd (omega arith)

-- the integer `value` in decimal and a line feed are the text of the answer `value`
pub number_line : (value : ℤ) → signed_decimal value ++ codes "\n" ≡ answer_text (answer kinds.number (number_terms value))
unfolding digits
number_line (pos zero) = refl
number_line (pos (suc n)) =
    sym (ap (block_by (label_rules kinds.number)) (cond-true (nat_lt 0 (suc n)) ((tt, (pos (suc n), 1)) ∷ []) [] (lt-ltb 0 (suc n) (omega arith)))
    ∙ append-nil (signed_decimal (pos (suc n)) ++ codes "\n"))
number_line (negsuc n) =
    sym (ap (block_by (label_rules kinds.number)) (cond-true (nat_lt 0 (suc n)) ((tt, (negsuc n, 1)) ∷ []) [] (lt-ltb 0 (suc n) (omega arith)))
    ∙ append-nil (signed_decimal (negsuc n) ++ codes "\n"))
