-- Special rim hooks of a cells, added below the shape of a beta set in each row in which they can begin (specs/RimHooks).
--     hooks-next, hooks-end, hooks_gain, hooks_overflow     the results are added to a table one row after another
--     hooks-mass, hooks-over, hooks-labels                  the list of the results for all these rows: the absolute values of its coefficients, the
--                                                           sums over its terms, and its labels
use Rattle.std.proofs.Common.{◌≡◌, ℕ, zero, suc, ◌+◌, ◌*◌, ◌^◌, ◌<◌, ◌≤◌, List, ◌++◌, append-nil, refl, sym, ap, ap₂, ◌∙◌, subst, arith, ℤ, ◌+ℤ◌, rules}
use Rattle.std.specs.Prelude.{nat_eq}
use Rattle.sym_model.specs.Partition.{size, after}
use Rattle.sym_model.specs.Sum.{total}
use Rattle.basis_change.specs.SpecialRimHooks.{straight_value, hooked}
use Rattle.linear_combinations.specs.Gains.{WholeTermsOf, over, mass, scaled, HaveLabels, Gains, Overflows}
use Rattle.linear_combinations.proofs.Gains.{gains_both, scaled_append, over_append, overflows_both, overflows_more}
use Rattle.sym_model.proofs.WholeTerms.{labels_append}
use Rattle.linear_combinations.proofs.Masses.{mass_append}
use Rattle.beta_sets.specs.BetaSets.{shape, IsBetaSet, IsShape}
use Rattle.basis_change.specs.RimHooks.{hook, hooks}
use Rattle.beta_sets.proofs.BetaSets.{below_power}
use Rattle.basis_change.proofs.HookEntries.{hook-mass, hook-over, hook-labels, lengthened_is}
use Rattle.sym_model.proofs.Numbers.{pow_next}

pub hooks-next : (a left more set longer : ℕ) → left ≡ suc more → longer ≡ 2 * set + 1 → hooks a left set ≡ hook a set ++ hooks a more longer
hooks-next a left more set longer e l = ap (λ n. hooks a n set) e ∙ ap (λ s. hook a set ++ hooks a more s) (sym l)

pub hooks-end : (a left set : ℕ) (done all : WholeTermsOf ℕ) → left ≡ 0 → done ++ hooks a left set ≡ all → done ≡ all
hooks-end a left set done all e is = sym (append-nil done) ∙ ap (λ n. done ++ hooks a n set) (sym e) ∙ is

module _ (c : ℤ) (done g old cur : WholeTermsOf ℕ) (so_far : Gains old (scaled c done) cur) where
  pub hooks_gain : (new : WholeTermsOf ℕ) → Gains cur (scaled c g) new → Gains old (scaled c (done ++ g)) new
  hooks_gain new more = subst (λ l. Gains old l new) (sym (scaled_append c done g)) (gains_both old (scaled c done) cur (scaled c g) new so_far more)

  pub hooks_overflow : (rest all : WholeTermsOf ℕ) → (done ++ g) ++ rest ≡ all → Overflows nat_eq cur (scaled c g) → Overflows nat_eq old (scaled c all)
  hooks_overflow rest all is large =
      subst (Overflows nat_eq old) (ap (λ l. l ++ scaled c rest) (sym (scaled_append c done g)) ∙ sym (scaled_append c (done ++ g) rest) ∙ ap (scaled c) is)
      (overflows_more nat_eq old (scaled c done ++ scaled c g) (scaled c rest) (overflows_both nat_eq old (scaled c done) cur (scaled c g) so_far large))

pub hooks-mass : (a many set : ℕ) → mass (hooks a many set) ≤ many
hooks-mass a zero set = omega arith
hooks-mass a (suc many) set = search (rules, hook-mass, mass_append, (hooks-mass a many (2 * set + 1)))

module _ (ν : List ℕ) (a d : ℕ) (positive : 0 < a) (cells : size ν + a ≤ d) (few : d ≤ 20) where
  next_is : (k set e : ℕ) → IsBetaSet ν k set → set < 2 ^ e → e ≤ d → IsBetaSet ν (k + 1) (2 * set + 1)
  next_is k set e is low l = lengthened_is ν k set (2 * set + 1) (k + 1) is (below_power set e 63 low (omega arith)) refl refl

  next-low : (set e : ℕ) → set < 2 ^ e → 2 * set + 1 < 2 ^ (e + 1)
  next-low set e low = let p = pow_next e in omega arith

  pub hooks-over : (φ : List ℕ → ℤ) (many k set e : ℕ) → IsBetaSet ν k set → set < 2 ^ e → e + many ≤ d + 1
      → over (λ s. φ (shape s)) (hooks a many set) ≡ total (λ count. straight_value φ (hooked ν count a)) (after k many)
  hooks-over φ zero k set e is low l = refl
  hooks-over φ (suc many) k set e is low l =
      over_append (λ s. φ (shape s)) (hook a set) (hooks a many (2 * set + 1))
      ∙ ap₂ (λ x y. x +ℤ y) (hook-over ν k set a is (below_power set e 63 low (omega arith)) (omega arith) φ)
      (hooks-over φ many (k + 1) (2 * set + 1) (e + 1) (next_is k set e is low (omega arith)) (next-low set e low) (omega arith))

  pub hooks-labels : (many k set e : ℕ) → IsBetaSet ν k set → set < 2 ^ e → e + many ≤ d + 1 → HaveLabels (IsShape d) (hooks a many set)
  hooks-labels zero k set e is low l = λ t m. absurd m
  hooks-labels (suc many) k set e is low l =
      labels_append (IsShape d) (hook a set) (hooks a many (2 * set + 1))
      (hook-labels ν k set a is (below_power set e 63 low (omega arith)) (omega arith) d positive cells (below_power set e d low (omega arith)))
      (hooks-labels many (k + 1) (2 * set + 1) (e + 1) (next_is k set e is low (omega arith)) (next-low set e low) (omega arith))
