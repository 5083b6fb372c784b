-- The texts of the rows of a filling, entry by entry.
use Rattle.std.proofs.Common.{◌≡◌, ◌≢◌, ℕ, zero, suc, ◌+◌, ◌-◌, ◌<◌, arith, List, [], ◌∷◌, ◌++◌, refl, sym, ◌∙◌, ap, map, cond, ◌==◌}
use Rattle.std.specs.Prelude.{codes, decimal}
use Rattle.std.proofs.lemmas.Bool.{ne_eqb, cond-false}
use Rattle.std.proofs.lemmas.List.{length-map, map-append}
use Rattle.std.proofs.lemmas.Simd.{map-map}
use Rattle.calc_base.specs.Sink.{SinkSeen}
use Rattle.sym_model.specs.Partition.{after, part, rows}
use Rattle.sym_model.specs.TableauText.{separated, spaced, row_text, tableau_text}
use Rattle.sym_model.proofs.AfterLists.{length_after, after-more}
use Rattle.skew_shapes.specs.Rows.{row_by, rows_by}
use Rattle.expansion_printer.specs.Gathering.{Waiting, Gathers}
use Rattle.expansion_printer.proofs.GatheringLaws.{Gathers-then, Gathers-as}
use Rattle.expansion_printer.proofs.Texts.{separated-push}

-- if a separator was collected and then a text, and k is not 0, then the text of item k of a list, counted from 0, was collected with the separator
-- that is in front of every item but the first
pub Gathers-behind : {old mid new : Waiting} {first second third : SinkSeen} {separator text : List ℕ} {k : ℕ} → k ≢ 0
    → Gathers old first mid second separator → Gathers mid second new third text
    → Gathers old first new third (cond (k == 0) text (separator ++ text))
Gathers-behind {separator = separator} {text = text} {k = k} some front back =
    Gathers-as (sym (cond-false (k == 0) text (separator ++ text) (ne_eqb k 0 some))) (Gathers-then front back)

-- if the text of item k of a list was collected, with the separator that is in front of every item but the first, and k = at, then that of item `at`
-- was collected
pub Gathers-piece : {old new : Waiting} {first second : SinkSeen} {k n : ℕ} (separator : List ℕ) (at m : ℕ)
    → Gathers old first new second (cond (k == 0) (decimal n) (separator ++ decimal n)) → k ≡ at → n ≡ m
    → Gathers old first new second (cond (at == 0) (decimal m) (separator ++ decimal m))
Gathers-piece {k = k} {n = n} separator at m goes place number =
    Gathers-as (ap (λ i. cond (i == 0) (decimal n) (separator ++ decimal n)) place
    ∙ ap (λ i. cond (at == 0) (decimal i) (separator ++ decimal i)) number) goes

-- the separated texts of the numbers from a + 1 to a + at, then the separator unless at = 0, and then the text of the next number, are the separated
-- texts of the numbers from a + 1 to a + at + 1
pub pieces-more : (separator : List ℕ) (text : ℕ → List ℕ) (a at next : ℕ) → next ≡ a + at + 1
    → separated separator (map text (after a at)) ++ cond (at == 0) (text next) (separator ++ text next)
    ≡ separated separator (map text (after a (at + 1)))
pieces-more separator text a at next e =
    ap (λ n. separated separator (map text (after a at)) ++ cond (at == 0) (text n) (separator ++ text n)) e
    ∙ separated-push separator (map text (after a at)) (text (a + at + 1)) at (length-map (after a at) text ∙ length_after a at)
    ∙ ap (separated separator) (sym (map-append text (after a at) ((a + at + 1) ∷ [])) ∙ ap (map text) (sym (after-more a at)))

pub spaced-map : (f : ℕ → ℕ) (columns : List ℕ) → separated (codes " ") (map (λ column. decimal (f column)) columns) ≡ spaced (map f columns)
spaced-map f columns = ap (separated (codes " ")) (sym (map-map decimal f columns))

-- if a row has cells, the text of the row consists of its entries with spaces between them
pub row_text-some : (f : ℕ → ℕ → ℕ) (outer inner : List ℕ) (row : ℕ) → part inner row < part outer row
    → spaced (row_by f outer inner row) ≡ row_text (row_by f outer inner row)
row_text-some f outer inner row some = by (part outer row - part inner row) (omega arith)
  where
    by : (k : ℕ) → 0 < k → spaced (map (f row) (after (part inner row) k)) ≡ row_text (map (f row) (after (part inner row) k))
    by zero h = absurd (omega arith)
    by (suc k) h = refl

-- the text of a tableau with k > 0 rows consists of the texts of the rows 1, .., k, with ` / ` between them
pub tableau_text-some : (f : ℕ → ℕ → ℕ) (outer inner : List ℕ) (k : ℕ) → k ≡ rows outer → 0 < k
    → separated (codes " / ") (map (λ row. row_text (row_by f outer inner row)) (after 0 k)) ≡ tableau_text (rows_by f outer inner)
tableau_text-some f [] inner k e some = absurd (omega arith)
tableau_text-some f (a ∷ outer) inner k e some =
    ap (separated (codes " / ")) (sym (map-map row_text (row_by f (a ∷ outer) inner) (after 0 k)))
    ∙ ap (λ n. separated (codes " / ") (map row_text (map (row_by f (a ∷ outer) inner) (after 0 n)))) e
