-- Properties of a list W of terms that also hold for a table `terms` with the same coefficients. A table is a list of terms in which each label
-- occurs only once and no coefficient is 0.
--     `table-few`        the absolute values of the coefficients of the table add up to at most those of the terms of W
--     `table-stands`     if W is q times f (`Stands`), so is the table
--     `stands-greatest`  if a list is q times f with labels of at most d cells, its greatest label has at most d cells
use Rattle.std.proofs.Common.{ℕ, ◌≤◌, [], sym, ◌∙◌, arith}
use Rattle.std.specs.Cmp.Lexicographic.{nat_list_eq_equiv}
use Rattle.sym_model.specs.Polynomial.{Poly, Same, pair}
use Rattle.sym_model.specs.Bases.{product_over}
use Rattle.sym_model.specs.WholeTerms.{WholeTerms, absolute_total}
use Rattle.sym_model.proofs.Polynomials.{pair_determined}
use Rattle.linear_combinations.specs.Gains.{over}
use Rattle.linear_combinations.proofs.Labels.{same_partition}
use Rattle.sparse_polys.specs.MonomialProducts.{greatest_size}
use Rattle.sparse_polys.specs.LabelSizes.{AreWithin}
use Rattle.sparse_polys.specs.Tables.{IsWholeTable}
use Rattle.sparse_polys.proofs.Bounds.{greatest-within}
use Rattle.sparse_polys.proofs.WholeLists.{labels-same}
use Rattle.basis_change_laws.specs.JoinedLists.{IsLow, Stands}
use Rattle.linear_combinations.proofs.Weighed.{gains_mass}
use lib.IntN.{+ℤ_idl}

module _ (terms W : WholeTerms) (is : IsWholeTable terms) (e : Same terms W) where
  pub table-few : absolute_total terms ≤ absolute_total W
  table-few =
      let m =
      gains_mass same_partition nat_list_eq_equiv [] W terms is
      (record { sums = λ φ. pair_determined terms W φ e ∙ sym (+ℤ_idl (over φ W)) }) in
      omega arith

  pub table-stands : (P : ℕ → ℕ → Poly) (q A d : ℕ) (f : ℕ → Poly) → Stands P q A d f W → Stands P q A d f terms
  table-stands P q A d f h = record {
    value = λ n φ. pair_determined terms W (λ l. pair (product_over P l n) φ) e ∙ h.value n φ;
    few = let x = table-few in let y = h.few in omega arith;
    labels = labels-same (IsLow d) terms W is e h.labels;
  }

pub stands-within : (P : ℕ → ℕ → Poly) (q A d : ℕ) (f : ℕ → Poly) (terms : WholeTerms) → Stands P q A d f terms → AreWithin d terms
stands-within P q A d f terms h t m = (h.labels t m).low

pub stands-greatest : (P : ℕ → ℕ → Poly) (q A d : ℕ) (f : ℕ → Poly) (terms : WholeTerms) → Stands P q A d f terms → greatest_size terms ≤ d
stands-greatest P q A d f terms h = greatest-within d terms (stands-within P q A d f terms h)
