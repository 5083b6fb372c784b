-- Two factors given by their indices in a list of two.
use Rattle.std.proofs.Common.{◌≡◌, ℕ, ◌+◌, ◌^◌, ◌<◌, ◌≤◌, List, [], ◌∷◌, length, Option, Some, None, refl, sym, subst, arith, rules}
use Rattle.std.specs.Prelude.{slice_get, IfSome}
use Rattle.sym_model.specs.Partition.{IsPartition, rows, size}
use Rattle.sym_model.specs.GoodTableau.{product_count}
use Rattle.sym_model.specs.WholeTerms.{WholeTerms, as_fractions}
use Rattle.sym_model.specs.Products.{ExpandsInSchurs, schur_product}
use Rattle.sym_model.specs.PastLimit.{HasPast, IsCoefficientOfProduct}
use Rattle.lr_product.specs.Counts.{HasCounts, IsPastSomewhere}
use Rattle.lattice_rows.specs.ListedProduct.{ListsProduct}
use Rattle.schur_products.specs.ListedTerms.{ListsProductOf}
use Rattle.lr_product.proofs.GoodCounts.{mult_answers, mult_fits, mult_past}
use Rattle.partitions.specs.FactorList.{AreFactors}

-- the factors are left and right, which are partitions within the limits
pub record AreTwo (factors : List (List ℕ)) (left right : List ℕ) : Type 0 where
  pub are : factors ≡ left ∷ right ∷ []
  pub left_partition : IsPartition left
  pub right_partition : IsPartition right
  pub sizes : size left + size right ≤ 4096
  pub lengths : rows left + rows right ≤ 512

pub are_two : (factors : List (List ℕ)) (left right : List ℕ) → AreFactors factors → length factors ≡ 2 → slice_get factors 0 ≡ Some left → slice_get factors 1 ≡ Some right → AreTwo factors left right
are_two [] left right f n a b = absurd (omega arith)
are_two (x ∷ []) left right f n a b = absurd (omega arith)
are_two (x ∷ y ∷ []) left right f n a b = search rules
are_two (x ∷ y ∷ z ∷ factors) left right f n a b = absurd (omega arith)

pub meets_two : (given : Option ℕ) (factors : List (List ℕ)) (left right : List ℕ) (o : Option WholeTerms) (terms : WholeTerms) → given ≡ None → AreTwo factors left right → o ≡ Some terms
    → IfSome o (HasCounts (rows left + rows right) (product_count (rows left + rows right) left right)) → ExpandsInSchurs given (schur_product factors) (as_fractions terms)
meets_two None factors left right None terms e t is c = absurd (cc)
meets_two (Some k) factors left right o terms e t is c = absurd (cc)
meets_two None factors left right (Some l) terms e t is c =
    subst (λ xs. ExpandsInSchurs None (schur_product xs) (as_fractions terms)) (sym t.are)
    (mult_answers None (rows left + rows right) left right terms refl t.left_partition t.right_partition
    (subst (λ (p : Option WholeTerms). IfSome p (HasCounts (rows left + rows right) (product_count (rows left + rows right) left right))) is c))

pub fits_two : (given : Option ℕ) (factors : List (List ℕ)) (left right : List ℕ) → given ≡ None → AreTwo factors left right
    → ((parts : List ℕ) → IsPartition parts → rows parts ≤ rows left + rows right → product_count (rows left + rows right) left right parts < 2 ^ 127) → HasPast (IsCoefficientOfProduct given factors) → ⊥
fits_two (Some k) factors left right e t small past = absurd (cc)
fits_two None factors left right e t small past =
    mult_fits None (rows left + rows right) left right refl t.left_partition t.right_partition small (subst (λ xs. HasPast (IsCoefficientOfProduct None xs)) t.are past)

pub past_two : (given : Option ℕ) (factors : List (List ℕ)) (left right : List ℕ) → given ≡ None → AreTwo factors left right
    → IsPastSomewhere (rows left + rows right) (product_count (rows left + rows right) left right) → HasPast (IsCoefficientOfProduct given factors)
past_two (Some k) factors left right e t past = absurd (cc)
past_two None factors left right e t past =
    subst (λ xs. HasPast (IsCoefficientOfProduct None xs)) (sym t.are) (mult_past None (rows left + rows right) left right refl t.left_partition t.right_partition past)

pub fits_given : (given : Option ℕ) (factors : List (List ℕ)) (left right : List ℕ) (o : Option WholeTerms) (terms : WholeTerms) → given ≡ None → AreTwo factors left right → o ≡ Some terms
    → IfSome o (λ l. (parts : List ℕ) → IsPartition parts → rows parts ≤ rows left + rows right → product_count (rows left + rows right) left right parts < 2 ^ 127) → HasPast (IsCoefficientOfProduct given factors) → ⊥
fits_given given factors left right None terms e t is small = absurd (cc)
fits_given given factors left right (Some l) terms e t is small = fits_two given factors left right e t small

pub lists_two : (factors : List (List ℕ)) (left right : List ℕ) (terms : WholeTerms) → AreTwo factors left right → ListsProduct (rows left + rows right) left right terms → ListsProductOf factors terms
lists_two factors left right terms t h = record {
  canonical = h.canonical;
  meets = λ p. subst (λ xs. ExpandsInSchurs None (schur_product xs) (as_fractions terms)) (sym t.are)
      (mult_answers None (rows left + rows right) left right terms refl t.left_partition t.right_partition (h.counts p));
  fits = λ p. fits_two None factors left right refl t (h.fits p);
  past = λ p. past_two None factors left right refl t (h.past p);
}
