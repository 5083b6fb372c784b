-- The beta sets that result from adding cells to a given set are added to a table one after another, as terms. There is a bead at the place b for
-- each number b of the set, and a cell is added by moving a bead up by one place. A loop goes over the places of the beads that may move first.
--     gains_next, overflows_next     one step of the loop: the sets for which the bead at the next place b moves first are added
--     cells_none, cells_some         the sets if no cell is left to add, and if at least one is
use Rattle.std.proofs.Common.{◌≡◌, ℕ, zero, suc, ◌+◌, ◌-◌, ◌*◌, ◌^◌, ◌<◌, ◌≤◌, List, [], ◌∷◌, ◌++◌, refl, sym, ap, ◌∙◌, subst, arith, ℤ, pos, flat_map, append_assoc, append-nil, inl, rules}
use Rattle.std.specs.Prelude.{nat_eq}
use Rattle.std.proofs.lemmas.List.{map-append}
use Rattle.std.proofs.lemmas.Grind.{flat_map-append}
use Rattle.sym_model.specs.WholeTerms.{WholeTermsOf}
use Rattle.sym_model.proofs.Ring.{product-one}
use Rattle.linear_combinations.specs.Gains.{Gains, Overflows, each_by, scaled}
use Rattle.linear_combinations.proofs.Gains.{gains_both, scaled_append, overflows_both, overflows_more}
use Rattle.sym_model.specs.Sum.{Among}
use Rattle.sym_model.proofs.Sums.{Among-append_right}
use Rattle.beta_sets.specs.BetaSets.{numbers, IsSplit}
use Rattle.strip_rules.specs.declared.bead_strips.Strip.{Strip}
use Rattle.strip_rules.specs.declared.bead_strips.Strip.TheVariants.{Horizontal, Vertical}
use Rattle.strip_rules.specs.BeadMoves.{next_bound, next_places, with_cells}
use Rattle.strip_rules.proofs.CellMoves.{next_tells, place_low}

-- the list of the sets, each with the coefficient 1
abbrev pub ones : List ℕ → WholeTermsOf ℕ
ones sets = each_by (λ (s : ℕ). pos 1) sets

-- the sets that result from `set` by adding `left` cells, the first one by moving the bead at place b
abbrev pub from_bead : Strip → ℕ → ℕ → ℕ → List ℕ
from_bead strip left set b = with_cells strip (left - 1) (next_bound strip b) (set + 2 ^ b)

ones-append : (xs ys : List ℕ) → ones (xs ++ ys) ≡ ones xs ++ ones ys
ones-append xs ys = map-append (λ (s : ℕ). (s, pos 1)) xs ys

module _ (c : ℤ) (done g : List ℕ) (old cur : WholeTermsOf ℕ) (so_far : Gains old (scaled c (ones done)) cur) where
  gains_more : (new : WholeTermsOf ℕ) → Gains cur (scaled c (ones g)) new → Gains old (scaled c (ones (done ++ g))) new
  gains_more new more = search (rules, ones-append, scaled_append, gains_both)

  overflows_then : (rest all : List ℕ) → (done ++ g) ++ rest ≡ all → Overflows nat_eq cur (scaled c (ones g)) → Overflows nat_eq old (scaled c (ones all))
  overflows_then rest all is large =
      subst (Overflows nat_eq old)
      (ap (λ l. l ++ scaled c (ones rest)) (sym (scaled_append c (ones done) (ones g)) ∙ ap (scaled c) (sym (ones-append done g)))
      ∙ sym (scaled_append c (ones (done ++ g)) (ones rest)) ∙ ap (scaled c) (sym (ones-append (done ++ g) rest) ∙ ap ones is))
      (overflows_more nat_eq old (scaled c (ones done) ++ scaled c (ones g)) (scaled c (ones rest)) (overflows_both nat_eq old (scaled c (ones done)) cur (scaled c (ones g)) so_far large))

pub cells_none : (strip : Strip) (left bound set : ℕ) (c : ℤ) → left ≡ 0 → (set, c) ∷ [] ≡ scaled c (ones (with_cells strip left bound set))
cells_none strip left bound set c e =
    ap (λ (z : ℤ). (set, z) ∷ []) (sym (product-one c)) ∙ ap (λ n. scaled c (ones (with_cells strip n bound set))) (sym e)

cells_some : (strip : Strip) (left bound set : ℕ) → (left ≡ 0 → ⊥) → with_cells strip left bound set ≡ flat_map (from_bead strip left set) (next_places strip bound (numbers set))
cells_some strip zero bound set n = absurd (n refl)
cells_some strip (suc k) bound set n =
    ap (λ j. flat_map (λ b. with_cells strip j (next_bound strip b) (set + 2 ^ b)) (next_places strip bound (numbers set))) (let e : k ≡ suc k - 1 = omega arith in e)

-- the loop of `add_cells` at place b: the sets whose first cell is added at one of the places `passed` have been added to the table, and the places
-- `others` come after b
module _ (strip : Strip) (left bound set b : ℕ) (c : ℤ) (passed others : List ℕ) (old cur : WholeTermsOf ℕ) (so_far : Gains old (scaled c (ones (flat_map (from_bead strip left set) passed))) cur) where
  pub gains_next : (new : WholeTermsOf ℕ) → Gains cur (scaled c (ones (from_bead strip left set b))) new → Gains old (scaled c (ones (flat_map (from_bead strip left set) (passed ++ b ∷ [])))) new
  gains_next new more = search (rules, append-nil, flat_map-append, gains_more)

  pub overflows_next : (left ≡ 0 → ⊥) → passed ++ b ∷ others ≡ next_places strip bound (numbers set) → Overflows nat_eq cur (scaled c (ones (from_bead strip left set b)))
      → Overflows nat_eq old (scaled c (ones (with_cells strip left bound set)))
  overflows_next n all large =
      let f = from_bead strip left set in
      overflows_then c (flat_map f passed) (f b) old cur so_far (flat_map f others) (with_cells strip left bound set)
      (append_assoc (flat_map f passed) (f b) (flat_map f others)
      ∙ sym (flat_map-append f passed (b ∷ others)) ∙ ap (flat_map f) all ∙ sym (cells_some strip left bound set n)) large

pub gains_all : (strip : Strip) (left bound set : ℕ) (c : ℤ) (passed : List ℕ) (old new : WholeTermsOf ℕ) → (left ≡ 0 → ⊥) → passed ≡ next_places strip bound (numbers set)
    → Gains old (scaled c (ones (flat_map (from_bead strip left set) passed))) new → Gains old (scaled c (ones (with_cells strip left bound set))) new
gains_all strip left bound set c passed old new n all =
    subst (λ (l : List ℕ). Gains old (scaled c (ones l)) new) (ap (flat_map (from_bead strip left set)) all ∙ sym (cells_some strip left bound set n))

pub bead_low : (strip : Strip) (bound left set places b : ℕ) (passed : List ℕ) → left ≤ 20 → set < 2 ^ (63 - left) → IsSplit places b (places - 2 ^ b) → passed ++ numbers places ≡ next_places strip bound (numbers set)
    → (b < 63 - left) × (2 ^ b ≤ set)
bead_low strip bound left set places b passed l h split all =
    place_low (63 - left) set b (omega arith) h
    (next_tells strip bound b (numbers set)
    (subst (Among b) all (Among-append_right b passed (numbers places) (subst (Among b) (sym split.numbers) (inl refl))))).0

pub next_bound_low : (strip : Strip) (b : ℕ) → b < 63 → next_bound strip b < 64
next_bound_low Horizontal b l = omega arith
next_bound_low Vertical b l = omega arith

pub raised_room : (left set b : ℕ) → (left ≡ 0 → ⊥) → left ≤ 20 → set < 2 ^ (63 - left) → 2 ^ b ≤ set → set + 2 ^ b < 2 ^ (63 - (left - 1))
raised_room left set b n l h p =
    let e : 2 ^ (63 - (left - 1)) ≡ 2 ^ suc (63 - left) = ap (λ m. 2 ^ m) (let s : 63 - (left - 1) ≡ suc (63 - left) = omega arith in s) in
    let d : 2 ^ suc (63 - left) ≡ 2 * 2 ^ (63 - left) = omega arith in
    omega arith

pub word_room : (left set b : ℕ) → left ≤ 20 → set < 2 ^ (63 - left) → 2 ^ b ≤ set → set + 2 ^ b < 2 ^ 64
word_room left set b l h p = search rules
