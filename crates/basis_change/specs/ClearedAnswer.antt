-- The results of a change of basis: a list of terms with integer coefficients, and the list of fractions that is obtained if each of these
-- coefficients is divided by one number. The growth into a basis at a degree d (`growth`) is 1 if d = 0, and otherwise d^d for m and s, and d!·(2d)^d
-- for e, h and p. The clearing factor for d is d! for e, h and p, and 1 for m and s. `IsBoundedBy N list` says that |c|·Π λ_i! ≤ N·|λ|! for each term
-- c·m_λ of the list.
use Rattle.std.specs.Prelude.{◌≡◌, ℕ, ◌*◌, ◌%◌, ◌^◌, ◌≤◌, List, Result, IfOk, IsErrOf}
use Rattle.calc_base.specs.declared.faults.SumFault.{SumFault}
use Rattle.calc_base.specs.declared.faults.SumFault.TheVariants.{Large}
use Rattle.sym_model.specs.Sum.{Among}
use Rattle.sym_model.specs.Expansion.{Basis, monomials, elementaries, completes, power_sums, schurs}
use Rattle.sym_model.specs.Expansion.{Fraction, Terms}
use Rattle.sym_model.specs.ListWeight.{absolute_sum}
use Rattle.sym_model.specs.Weight.{factorial, growth}
use Rattle.sparse_polys.specs.MonomialProducts.{greatest_size}
use Rattle.sparse_polys.specs.LabelSizes.{AreWithin}
use Rattle.sym_model.specs.WholeTerms.{WholeTerms}
use Rattle.linear_combinations.specs.Gains.{mass}
use Rattle.sym_model.specs.Polynomial.{coefficient}
use Rattle.fraction_laws.specs.Fractions.{lowest_terms}
use Rattle.sparse_polys.specs.Tables.{found, IsWholeTable}
use Rattle.basis_change.specs.Clearing.{IsBoundedBy, IsMultipleIn, clearing_factor}

-- m is a multiple of the denominator of each coefficient of the list, the absolute values of the coefficients times m add up to at most `most`, and
-- no label has more than d cells
pub record IsClearedBy (m most d : ℕ) (terms : Terms (List ℕ)) : Type 0 where
  pub whole : (t : List ℕ × Fraction) → Among t terms → m % t.1.1 ≡ 0
  pub few : absolute_sum m terms ≤ most
  pub within : AreWithin d terms

-- the basis is e, h or p, whose polynomials are products over the parts of their labels
abbrev pub IsMultiplied : Basis → Type 0
IsMultiplied monomials = ⊥
IsMultiplied elementaries = Unit {0}
IsMultiplied completes = Unit {0}
IsMultiplied power_sums = Unit {0}
IsMultiplied schurs = ⊥

-- If the target basis is e, h or p, and d is the greatest size of a label of `list`: `den`·d! times each coefficient of the answer is an integer, the
-- absolute values of these products add up to at most `num`·`growth`(target, d), and no label of the answer has more than d cells.
abbrev pub MultipliesOut : Basis → ℕ → ℕ → Terms (List ℕ) → Terms (List ℕ) → Type 0
MultipliesOut target num den list answer =
    let d = greatest_size list in
    IsMultiplied target → IsClearedBy (den * factorial d) (num * growth target d) d answer

-- The result of changing a list in m, with labels of at most `size` cells, into the target basis: the answer, read in the target basis, is the list
-- times the clearing factor. If the target basis is e, h or p, no label of the answer has more than `size` cells, and for each N with `IsBoundedBy N
-- list` the absolute values of its coefficients add up to at most N·`growth`(target, size). `Large` is returned only if N·`growth`(target, size) is
-- 2^127 or more for each such N.
pub record IsChanged (target : Basis) (size : ℕ) (list : WholeTerms)
    (result : Result WholeTerms SumFault) : Type 0 where
  pub value : IfOk result (IsMultipleIn target (clearing_factor target size) list)
  pub few : IfOk result (λ answer. IsMultiplied target → (N : ℕ) → IsBoundedBy N list
      → mass answer ≤ N * growth target size)
  pub within : IfOk result (λ answer. IsMultiplied target → AreWithin size answer)
  pub table : IfOk result IsWholeTable
  pub large : IsErrOf result Large → (N : ℕ) → IsBoundedBy N list
      → 2 ^ 127 ≤ N * growth target size

-- The fractions that result from changing a list in m, with labels of at most `size` cells, into the target basis: the coefficients of the answer are
-- those of `whole` divided by `den`, and `whole` is the list times the clearing factor, in the target basis.
pub record IsQuotientOf (target : Basis) (size den : ℕ) (list : WholeTerms)
    (answer : Terms (List ℕ)) : Type 0 where
  pub whole : WholeTerms
  pub value : IsMultipleIn target (clearing_factor target size) list whole
  pub few : IsMultiplied target → (N : ℕ) → IsBoundedBy N list → mass whole ≤ N * growth target size
  pub within : IsMultiplied target → AreWithin size whole
  pub quotients : (label : List ℕ) → found answer label ≡ lowest_terms (coefficient whole label) den
