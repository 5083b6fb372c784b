-- The families h_k and e_k satisfy Newton's identities, with the signs 1 for h_k and (-1)^(i-1) for e_k.
use Rattle.std.proofs.Common.{◌≡◌, ℕ, zero, suc, ◌-◌, ◌*◌, Bool, true, cond, List, [], ◌∷◌, replicate, refl, sym, ap, ap₂, ◌∙◌, ℤ, pos, ◌*ℤ◌, filter, flat_map, rules}
use Rattle.std.specs.Prelude.{nat_abs}
use Rattle.sym_model.specs.Polynomial.{Poly, Same, pair, times, scale, one}
use Rattle.sym_model.specs.Partition.{after}
use Rattle.sym_model.specs.Bases.{power_sum_of, elementary_of, complete_of, monomials, at_most_one, exponent_lists}
use Rattle.sym_model.specs.PlaceOrders.{minus_one_to}
use Rattle.sym_model.specs.WholeTerms.{WholeTerms}
use Rattle.sym_model.proofs.Ring.{one-product, product_assoc}
use Rattle.sym_model.proofs.Sums.{total_ext, total_select}
use Rattle.sym_model.proofs.Polynomials.{pair_each, pair_scale, pair_monomials, pair_one, same_from_pair, Same_trans}
use Rattle.sym_model.proofs.Monomials.{total_exponent_lists-zero}
use Rattle.basis_change_laws.proofs.NewtonIdentities.{newton_complete, newton_elementary}
use Rattle.sym_model.proofs.Integers.{sign_size}

-- the polynomials G_k satisfy Newton's identities with the signs σ: G_0 = 1, and k·G_k is the sum of σ(i)·p_i·G_(k-i) over i from 1 to k; each σ(i)
-- is 1 or -1
pub record IsNewton (G : ℕ → ℕ → Poly) (σ : ℕ → ℤ) : Type 0 where
  pub unit : (i : ℕ) → nat_abs (σ i) ≡ 1
  pub first : (n : ℕ) → Same (G 0 n) (one n)
  pub sums : (k n : ℕ) → Same (scale (pos k) (G k n)) (flat_map (λ i. scale (σ i) (times (power_sum_of i n) (G (k - i) n))) (after 0 k))

-- ---- h_0 = e_0 = 1, and h_k and e_k satisfy Newton's identities

pub zeros_low : (n : ℕ) → at_most_one (replicate n 0) ≡ true
zeros_low zero = refl
zeros_low (suc n) = zeros_low n

pub one-monomials : (test : List ℕ → Bool) (n : ℕ) → test (replicate n 0) ≡ true → Same (monomials test n 0) (one n)
one-monomials test n e = same_from_pair (monomials test n 0) (one n) (λ φ.
    pair_monomials (filter test (exponent_lists n 0)) φ
    ∙ total_select φ test (exponent_lists n 0)
    ∙ total_exponent_lists-zero (λ α. cond (test α) (φ α) (pos 0)) n
    ∙ ap (λ b. cond b (φ (replicate n 0)) (pos 0)) e
    ∙ sym (pair_one n φ))

pub newton-elementary : IsNewton elementary_of (λ i. minus_one_to (i - 1))
newton-elementary = search (rules, sign_size, one-monomials, zeros_low, newton_elementary)

pub newton-complete : IsNewton complete_of (λ i. pos 1)
newton-complete = record {
  unit = λ i. refl;
  first = λ n. one-monomials (λ α. true) n refl;
  sums = λ k n.
      Same_trans (scale (pos k) (complete_of k n)) (flat_map (λ i. times (power_sum_of i n) (complete_of (k - i) n)) (after 0 k)) (flat_map (λ i. scale (pos 1) (times (power_sum_of i n) (complete_of (k - i) n))) (after 0 k))
      (newton_complete k n)
      (same_from_pair (flat_map (λ i. times (power_sum_of i n) (complete_of (k - i) n)) (after 0 k)) (flat_map (λ i. scale (pos 1) (times (power_sum_of i n) (complete_of (k - i) n))) (after 0 k)) (λ φ.
      pair_each (λ (i : ℕ). times (power_sum_of i n) (complete_of (k - i) n)) (after 0 k) φ
      ∙ total_ext (λ (i : ℕ). pair (times (power_sum_of i n) (complete_of (k - i) n)) φ) (λ (i : ℕ). pair (scale (pos 1) (times (power_sum_of i n) (complete_of (k - i) n))) φ)
      (λ i. sym (pair_scale (pos 1) (times (power_sum_of i n) (complete_of (k - i) n)) φ ∙ one-product (pair (times (power_sum_of i n) (complete_of (k - i) n)) φ))) (after 0 k)
      ∙ sym (pair_each (λ (i : ℕ). scale (pos 1) (times (power_sum_of i n) (complete_of (k - i) n))) (after 0 k) φ)));
}

pub scale-scale : (x y : ℤ) (W : WholeTerms) → scale x (scale y W) ≡ scale (x *ℤ y) W
scale-scale x y [] = refl
scale-scale x y (t ∷ W) = ap₂ ◌∷◌ (ap (λ z. (t.0, z)) (sym (product_assoc x y t.1))) (scale-scale x y W)
