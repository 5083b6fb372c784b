-- The different numbers of a list, and m_λ for the empty partition λ.
--     monomial-none              m_λ is 1 if λ is empty
use Rattle.std.proofs.Common.{◌≡◌, ℕ, true, List, [], ◌∷◌, rules}
use Rattle.std.proofs.lemmas.Bool.{eq-eqb, or_right, cond-true}
use Rattle.sym_model.specs.Sum.{Among}
use Rattle.sym_model.specs.Polynomial.{Same, one}
use Rattle.sym_model.specs.Bases.{has, monomial}
use Rattle.sym_model.specs.RaisedPart.{distinct}
use Rattle.sym_model.proofs.Sums.{total_select}
use Rattle.sym_model.proofs.Exponents.{same_from}
use Rattle.sym_model.proofs.Polynomials.{pair_monomials, pair_one, same_from_pair}
use Rattle.sym_model.proofs.SortedParts.{sorted_parts-zeros}
use Rattle.sym_model.proofs.Monomials.{total_exponent_lists-zero}

pub has_from-distinct : (k : ℕ) (numbers : List ℕ) → Among k (distinct numbers) → has k numbers ≡ true
has_from-distinct k [] m = absurd m
has_from-distinct k (c ∷ numbers) m = search (rules, or_right, eq-eqb, (has_from-distinct k numbers))

pub monomial-none : (n : ℕ) → Same (monomial [] n) (one n)
monomial-none n =
    search (rules, same_from_pair, pair_monomials, total_select, total_exponent_lists-zero, cond-true, same_from, sorted_parts-zeros, pair_one)
