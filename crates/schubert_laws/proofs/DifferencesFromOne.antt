-- The laws of divided differences with variables counted from 1, as `divided_difference_law` states them.
use Rattle.std.proofs.Common.{◌≡◌, ℕ, zero, suc, ◌+◌, ◌-◌, ◌<◌, ◌≤◌, refl, sym, ◌∙◌, ap, ap₂, arith, ℤ, ◌*ℤ◌, rules}
use Rattle.sym_model.specs.Polynomial.{Term, Poly, Same, In, nothing, plus, scale, negate, times, coefficient}
use Rattle.sym_model.specs.Permutation.{exchanged}
use Rattle.sym_model.specs.DividedDifference.{variable, with_exchanged, divided_difference, differences_after}
use Rattle.sym_model.proofs.Sums.{total_map}
use Rattle.sym_model.proofs.Polynomials.{pair_in, same_from_pair, Same_refl, Same_trans, Same_sym, plus_respects, times_respects, negate_respects}
use Rattle.schubert_laws.proofs.Exchanges.{exchange_at, exchanged_is}
use Rattle.schubert_laws.proofs.DifferenceLaws.{differences_respect, differences-scale, differences_square, differences_commute, differences_braid, In_differences, exchange_variables, pair_exchange_variables, differences-times, variable_after, difference_quotient}

pub divided_respects : (i : ℕ) (f g : Poly) → Same f g → Same (divided_difference i f) (divided_difference i g)
divided_respects zero f g e = λ α. refl
divided_respects (suc k) f g e = differences_respect k f g e

pub divided-scale : (i : ℕ) (c : ℤ) (f : Poly) → Same (divided_difference i (scale c f)) (scale c (divided_difference i f))
divided-scale zero c f = λ α. refl
divided-scale (suc k) c f = differences-scale k c f

pub divided_square : (i : ℕ) (f : Poly) → Same (divided_difference i (divided_difference i f)) nothing
divided_square zero f = λ α. refl
divided_square (suc k) f = differences_square k f

pub divided_commute : (i j : ℕ) (f : Poly) → i + 2 ≤ j → Same (divided_difference i (divided_difference j f)) (divided_difference j (divided_difference i f))
divided_commute i zero f h = absurd (omega arith)
divided_commute zero (suc k) f h = λ α. refl
divided_commute (suc j) (suc k) f h = differences_commute j k f (omega arith)

braid_at : (i j : ℕ) (f : Poly) → j ≡ suc i
    → Same (divided_difference i (divided_difference j (divided_difference i f))) (divided_difference j (divided_difference i (divided_difference j f)))
braid_at i zero f e = absurd (omega arith)
braid_at zero (suc k) f e = λ α. refl
braid_at (suc i) (suc k) f e = search (rules, differences_braid)

pub divided_braid : (i : ℕ) (f : Poly)
    → Same (divided_difference i (divided_difference (i + 1) (divided_difference i f))) (divided_difference (i + 1) (divided_difference i (divided_difference (i + 1) f)))
divided_braid i f = braid_at i (i + 1) f (omega arith)

pub In_divided : (i n : ℕ) (f : Poly) → In n f → In n (divided_difference i f)
In_divided zero n f h = λ t m. absurd m
In_divided (suc k) n f h = In_differences k n f h

-- ---- polynomials with x_i and x_(i+1) exchanged, i counted from 1

pub with_exchanged_is : (k n : ℕ) (f : Poly) → In n f → suc k < n → Same (with_exchanged (suc k) f) (exchange_variables k f)
with_exchanged_is k n f i h =
    same_from_pair (with_exchanged (suc k) f) (exchange_variables k f) (λ φ.
    total_map (λ (t : Term). t.1 *ℤ φ t.0) (λ (t : Term). (exchanged (suc k) t.0, t.1)) f
    ∙ pair_in n f (λ α. φ (exchanged (suc k) α)) (λ α. φ (exchange_at k α)) i (λ α l. ap φ (exchanged_is k α (omega arith)))
    ∙ sym (pair_exchange_variables k f φ))

pub divided-times : (i n : ℕ) (f g : Poly) → 1 ≤ i → i < n → In n f → In n g
    → Same (divided_difference i (times f g)) (plus (times (divided_difference i f) g) (times (with_exchanged i f) (divided_difference i g)))
divided-times zero n f g c h i j = absurd (omega arith)
divided-times (suc k) n f g c h i j =
    Same_trans
    (differences_after k (times f g))
    (plus (times (differences_after k f) g) (times (exchange_variables k f) (differences_after k g)))
    (plus (times (differences_after k f) g) (times (with_exchanged (suc k) f) (differences_after k g)))
    (differences-times k n f g i j h)
    (plus_respects (times (differences_after k f) g) (times (differences_after k f) g) (times (exchange_variables k f) (differences_after k g)) (times (with_exchanged (suc k) f) (differences_after k g))
    (Same_refl (times (differences_after k f) g))
    (times_respects (exchange_variables k f) (with_exchanged (suc k) f) (differences_after k g) (differences_after k g) (Same_sym (with_exchanged (suc k) f) (exchange_variables k f) (with_exchanged_is k n f i h)) (Same_refl (differences_after k g))))

pub variable_is : (k i : ℕ) → i ≡ suc k → variable i ≡ variable_after k
variable_is k i e = let d : i - 1 ≡ k = omega arith in ap variable_after d

pub divided_quotient : (i n : ℕ) (f : Poly) → 1 ≤ i → i < n → In n f
    → Same (times (plus (variable i) (negate (variable (i + 1)))) (divided_difference i f)) (plus f (negate (with_exchanged i f)))
divided_quotient zero n f c h i = absurd (omega arith)
divided_quotient (suc k) n f c h i =
    Same_trans
    (times (plus (variable (suc k)) (negate (variable (suc k + 1)))) (differences_after k f))
    (plus f (negate (exchange_variables k f)))
    (plus f (negate (with_exchanged (suc k) f)))
    (λ α. ap₂ (λ x y. coefficient (times (plus x (negate y)) (differences_after k f)) α) (variable_is k (suc k) refl) (variable_is (suc k) (suc k + 1) (omega arith)) ∙ difference_quotient k n f i h α)
    (plus_respects f f (negate (exchange_variables k f)) (negate (with_exchanged (suc k) f)) (Same_refl f)
    (negate_respects (exchange_variables k f) (with_exchanged (suc k) f) (Same_sym (with_exchanged (suc k) f) (exchange_variables k f) (with_exchanged_is k n f i h))))
