-- Products of a list xs ++ ys of terms with a term, a polynomial or a variable.
use Rattle.std.proofs.Common.{◌≡◌, ℕ, List, [], ◌∷◌, ◌++◌, refl, ap, ℤ, ◌*ℤ◌, rules}
use Rattle.std.proofs.lemmas.List.{map-append}
use Rattle.sym_model.specs.Expansion.{Fraction}
use Rattle.sym_model.specs.Polynomial.{Poly, Term, join, times}
use Rattle.sym_model.specs.WholeTerms.{WholeTerms}
use Rattle.linear_combinations.specs.Gains.{replaced, scaled as multiple}
use Rattle.linear_combinations.proofs.Gains.{replaced_append, scaled_append}
use Rattle.monomial_laws.specs.ExpressionTerms.{over}
use Rattle.fraction_laws.specs.Fractions.{scaled}
use Rattle.sparse_polys.specs.Combination.{terms_of}
pub use Rattle.linear_combinations.proofs.Gains.{so_far_next}
pub use Rattle.sparse_polys.proofs.Rows.{list_whole, list_among}
use Rattle.sparse_polys.specs.Products.{times_variable}
use Rattle.sparse_polys.specs.MonomialProducts.{product_terms, products}
use Rattle.std.proofs.lemmas.Grind.{flat_map-append}

module _ {R : Type 0} (value : R → Fraction) where
  pub over_pieces : (q : ℕ) (xs ys : List (List ℕ × R)) → over q (terms_of value (xs ++ ys)) ≡ over q (terms_of value xs) ++ over q (terms_of value ys)
  over_pieces q [] ys = refl
  over_pieces q (x ∷ xs) ys = ap (λ l. (x.0, scaled q (value x.1)) ∷ l) (over_pieces q xs ys)

  pub row_pieces : (s : Term) (e : ℕ) (xs ys : List (List ℕ × R))
      → times (s ∷ []) (over e (terms_of value (xs ++ ys))) ≡ times (s ∷ []) (over e (terms_of value xs)) ++ times (s ∷ []) (over e (terms_of value ys))
  row_pieces s e [] ys = refl
  row_pieces s e (x ∷ xs) ys = ap (λ l. (join s.0 x.0, s.1 *ℤ scaled e (value x.1)) ∷ l) (row_pieces s e xs ys)

  pub product_pieces : (d : ℕ) (g : Poly) (xs ys : List (List ℕ × R))
      → times (over d (terms_of value (xs ++ ys))) g ≡ times (over d (terms_of value xs)) g ++ times (over d (terms_of value ys)) g
  product_pieces d g xs ys = search (rules, over_pieces, flat_map-append)

  pub raised_pieces : (r q : ℕ) (xs ys : List (List ℕ × R))
      → times_variable r (over q (terms_of value (xs ++ ys))) ≡ times_variable r (over q (terms_of value xs)) ++ times_variable r (over q (terms_of value ys))
  raised_pieces r q xs ys = search (rules, over_pieces, map-append)

  pub terms_pieces : (z : ℤ) (left : List ℕ) (e : ℕ) (xs ys : List (List ℕ × R))
      → multiple z (replaced (product_terms left) (over e (terms_of value (xs ++ ys))))
      ≡ multiple z (replaced (product_terms left) (over e (terms_of value xs))) ++ multiple z (replaced (product_terms left) (over e (terms_of value ys)))
  terms_pieces z left e xs ys = search (rules, over_pieces, replaced_append, scaled_append)

  pub products_pieces : (d : ℕ) (g : WholeTerms) (xs ys : List (List ℕ × R))
      → products (over d (terms_of value (xs ++ ys))) g ≡ products (over d (terms_of value xs)) g ++ products (over d (terms_of value ys)) g
  products_pieces d g xs ys = search (rules, over_pieces, replaced_append)
