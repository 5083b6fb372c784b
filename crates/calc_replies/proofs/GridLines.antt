-- The text of a growth grid, as the text of its first lines and that of the lines after them.
use Rattle.std.proofs.Common.{◌≡◌, ◌≤◌, ◌<◌, ◌+◌, ℕ, List, [], ◌∷◌, ◌++◌, take, drop, length, append-nil, sym, ◌∙◌, ap, flat_map}
use Rattle.std.proofs.lemmas.List.{take-append-drop}
use Rattle.growth_diagrams.proofs.GridLines.{lines-more, lines_all}
use Rattle.sym_model.specs.Growth.{grid_line, grid_lines}
use Rattle.sym_model.specs.TableauText.{shapes_line, grid_text}
use Rattle.std.proofs.lemmas.Grind.{flat_map-append}

-- the text of the first k lines of the growth grid of a permutation
abbrev pub first_lines : List ℕ → ℕ → List ℕ
first_lines w k = flat_map shapes_line (take k (grid_lines w))

-- the text of the lines after the first k of the growth grid of a permutation
abbrev pub last_lines : List ℕ → ℕ → List ℕ
last_lines w k = flat_map shapes_line (drop k (grid_lines w))

pub one_line_more : (w : List ℕ) (k : ℕ) (line : List (List ℕ)) → k ≤ length w → line ≡ grid_line w k
    → first_lines w k ++ shapes_line line ≡ first_lines w (k + 1)
one_line_more w k line h is =
    ap (λ (shapes : List (List ℕ)). first_lines w k ++ shapes_line shapes) is
    ∙ ap (λ t. first_lines w k ++ t) (sym (append-nil (shapes_line (grid_line w k))))
    ∙ sym (flat_map-append shapes_line (take k (grid_lines w)) (grid_line w k ∷ []))
    ∙ ap (λ (lines : List (List (List ℕ))). flat_map shapes_line lines) (sym (lines-more w k h))

pub with_last_lines : (w : List ℕ) (k : ℕ) → first_lines w k ++ last_lines w k ≡ grid_text w
with_last_lines w k =
    sym (flat_map-append shapes_line (take k (grid_lines w)) (drop k (grid_lines w)))
    ∙ ap (λ (lines : List (List (List ℕ))). flat_map shapes_line lines) (take-append-drop k (grid_lines w))

pub all_lines : (w : List ℕ) (k : ℕ) → length w < k → first_lines w k ≡ grid_text w
all_lines w k h = ap (λ (lines : List (List (List ℕ))). flat_map shapes_line lines) (lines_all w k h)
