-- If a linear combination of monomial symmetric polynomials (a list in m) has the coefficients of the product of a list in m and e_k or h_k, it is
-- this product, as a polynomial.
use Rattle.std.proofs.Common.{◌≡◌, ℕ, List}
use Rattle.sym_model.specs.Bases.{elementary_of, complete_of}
use Rattle.sym_model.specs.Partition.{IsPartition}
use Rattle.sym_model.specs.Polynomial.{Same, coefficient, times}
use Rattle.sym_model.specs.WholeTerms.{WholeTerms}
use Rattle.sym_model.proofs.PolynomialLaws.{times_comm}
use Rattle.sym_model.proofs.Polynomials.{Same_refl, Same_sym, Same_trans, times_respects}
use Rattle.monomial_laws.specs.ExpressionTerms.{in_monomials, elementary_terms, complete_terms}
use Rattle.monomial_laws.specs.MonomialProduct.{product_coefficient}
use Rattle.monomial_laws.proofs.AtomTerms.{list-elementary, list-complete}
use Rattle.monomial_laws.proofs.Splits.{terms_product}

pub elementary_value : (k : ℕ) (list product : WholeTerms)
    → ((ν : List ℕ) → IsPartition ν → coefficient product ν ≡ product_coefficient (elementary_terms k) list ν)
    → (n : ℕ) → Same (in_monomials product n) (times (elementary_of k n) (in_monomials list n))
elementary_value k list product h n =
    let others = in_monomials list n in
    let first = in_monomials (elementary_terms k) n in
    Same_trans (in_monomials product n) (times first others) (times (elementary_of k n) others)
    (Same_sym (times first others) (in_monomials product n) (terms_product (elementary_terms k) list product h n))
    (times_respects first (elementary_of k n) others others (list-elementary k n) (Same_refl others))

pub complete_value : (k : ℕ) (list product : WholeTerms)
    → ((ν : List ℕ) → IsPartition ν → coefficient product ν ≡ product_coefficient list (complete_terms k) ν)
    → (n : ℕ) → Same (in_monomials product n) (times (complete_of k n) (in_monomials list n))
complete_value k list product h n =
    let others = in_monomials list n in
    let second = in_monomials (complete_terms k) n in
    Same_trans (in_monomials product n) (times others second) (times (complete_of k n) others)
    (Same_sym (times others second) (in_monomials product n) (terms_product list (complete_terms k) product h n))
    (Same_trans (times others second) (times second others) (times (complete_of k n) others) (times_comm others second)
    (times_respects second (complete_of k n) others others (list-complete k n) (Same_refl others)))
