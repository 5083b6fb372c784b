-- Schubert polynomials as lists of monomials with integer coefficients.
use Rattle.std.specs.Prelude.{ℕ, ◌^◌, ◌≤◌, ◌≤ℤ◌, ◌<ℤ◌, nat_eq, ℤ, pos, List, length}
use Rattle.std.specs.Cmp.Lexicographic.{pointwise}
use Rattle.fraction_laws.specs.Fractions.{whole}
use Rattle.linear_combinations.specs.Entries.{IsCombination}
use Rattle.sym_model.specs.DividedDifference.{x_to_in}
use Rattle.sym_model.specs.Expansion.{Represents}
use Rattle.sym_model.specs.LabelLimits.{is_monomial_label}
use Rattle.sym_model.specs.Partition.{size}
use Rattle.sym_model.specs.PlaceOrders.{inversions}
use Rattle.sym_model.specs.Schubert.{schubert_in}
use Rattle.sym_model.specs.Sum.{Among}
use Rattle.sym_model.specs.WholeTerms.{WholeTerms, as_fractions}
use Rattle.sym_model.specs.PastLimit.{HasPast, IsCoefficientOfSchubert}

-- a term in at most n variables, of degree at most d, with a coefficient that is not negative and below 2^127
pub record IsTerm (n d : ℕ) (t : List ℕ × ℤ) : Type 0 where
  pub few : length t.0 ≤ n
  pub small : size t.0 ≤ d
  pub natural : pos 0 ≤ℤ t.1
  pub held : t.1 <ℤ pos (2 ^ 127)

-- each term has at most n variables, a degree of at most d, and a coefficient from 0 to 2^127 - 1
abbrev pub AreTerms : ℕ → ℕ → WholeTerms → Type 0
AreTerms n d terms = (t : List ℕ × ℤ) → Among t terms → IsTerm n d t

-- each monomial occurs once and has at most 255 variables and a degree of at most 32385 (`is_monomial_label`), and no coefficient is 0
abbrev pub IsMonomialTable : WholeTerms → Type 0
IsMonomialTable terms = IsCombination (pointwise nat_eq) is_monomial_label whole terms

-- the list is the Schubert polynomial of w in every number of variables: each monomial occurs once, with at most as
-- many variables as w has letters, with a degree of at most the number of inversions of w, and with a coefficient
-- from 1 to 2^127 - 1
pub record IsSchubertOf (w : List ℕ) (terms : WholeTerms) : Type 0 where
  pub represents : (n : ℕ) → Represents (λ exponents. x_to_in exponents n) (as_fractions terms)
      (schubert_in w n) 1
  pub terms_of : AreTerms (length w) (inversions w) terms
  pub table : IsMonomialTable terms
  pub fits : HasPast (IsCoefficientOfSchubert w) → ⊥
