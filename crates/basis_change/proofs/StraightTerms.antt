-- The terms to which the arrangements of a partition straighten, as lists that are added to a table.
--     straight_terms-over         a sum over the terms of all arrangements
--     straightened_list-append    the terms to which a list xs ++ ys straightens
use Rattle.std.proofs.Common.{◌≡◌, ℕ, true, false, cond, List, [], ◌∷◌, ◌++◌, ap, ◌∙◌, ℤ, ◌*ℤ◌, rules}
use Rattle.std.specs.Prelude.{Some, None}
use Rattle.std.proofs.lemmas.Grind.{flat_map-append}
use Rattle.std.proofs.lemmas.Int.{ints}
use Rattle.sym_model.specs.Sum.{total}
use Rattle.sym_model.specs.WholeTerms.{WholeTerms}
use Rattle.sym_model.specs.BetaList.{has_equal_entries, sorted_falling, sorting_sign, from_beta}
use Rattle.sym_model.specs.Arrangement.{arrangements}
use Rattle.sym_model.specs.Straightening.{shifted}
use Rattle.sym_model.proofs.Ring.{ring}
use Rattle.sym_model.proofs.Sums.{total_ext, total_each, total_scale}
use Rattle.basis_change.specs.SpecialRimHooks.{straight_value, arranged_value}
use Rattle.basis_change.proofs.FrontSorting.{value-equal, value-different}
use Rattle.linear_combinations.specs.Gains.{over}
use Rattle.basis_change.specs.Arranging.{times_straight, straight_term, straight_terms}
use Rattle.basis_change.specs.Straightening.{straightened_list}
use lib.IntN.{*ℤ-zero}

pub total-straight_terms : (g : List ℕ × ℤ → ℤ) (c : ℤ) (parts : List ℕ) (n : ℕ) → total g (straight_terms c parts n) ≡ total (λ α. total g (straight_term c (shifted α))) (arrangements parts n)
total-straight_terms g c parts n = total_each g (λ (α : List ℕ). straight_term c (shifted α)) (arrangements parts n)

pub straight_term-some : (c : ℤ) (entries : List ℕ) → has_equal_entries entries ≡ false
    → straight_term c entries ≡ (from_beta (sorted_falling entries), sorting_sign entries *ℤ c) ∷ []
straight_term-some c entries h = ap (λ t. times_straight c (cond t None (Some (sorting_sign entries, from_beta (sorted_falling entries))))) h

pub straight_term-none : (c : ℤ) (entries : List ℕ) → has_equal_entries entries ≡ true → straight_term c entries ≡ []
straight_term-none c entries h = ap (λ t. times_straight c (cond t None (Some (sorting_sign entries, from_beta (sorted_falling entries))))) h

straight_term-over : (φ : List ℕ → ℤ) (c : ℤ) (entries : List ℕ) → over φ (straight_term c entries) ≡ c *ℤ straight_value φ entries
straight_term-over φ c entries = search (rules, ring, ints, straight_term-none, value-equal, *ℤ-zero, straight_term-some, value-different)

pub straight_terms-over : (φ : List ℕ → ℤ) (c : ℤ) (parts : List ℕ) (n : ℕ) → over φ (straight_terms c parts n) ≡ c *ℤ arranged_value φ parts n
straight_terms-over φ c parts n =
    total-straight_terms (λ (t : List ℕ × ℤ). t.1 *ℤ φ t.0) c parts n
    ∙ total_ext (λ (α : List ℕ). over φ (straight_term c (shifted α))) (λ (α : List ℕ). c *ℤ straight_value φ (shifted α)) (λ α. straight_term-over φ c (shifted α)) (arrangements parts n)
    ∙ total_scale c (λ (α : List ℕ). straight_value φ (shifted α)) (arrangements parts n)

pub straightened_list-append : (places : ℕ) (xs ys : WholeTerms) → straightened_list places (xs ++ ys) ≡ straightened_list places xs ++ straightened_list places ys
straightened_list-append places xs ys = flat_map-append (λ (t : List ℕ × ℤ). straight_terms t.1 t.0 places) xs ys
