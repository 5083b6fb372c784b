-- Lists of terms in a multiplicative basis: the label of a term is a partition and denotes the product of polynomials P_a over its parts a.
use Rattle.std.specs.Prelude.{◌≡◌, ℕ, ◌≤◌, ℤ, pos, ◌*ℤ◌, List, [], ◌∷◌, map, flat_map}
use Rattle.sym_model.specs.Polynomial.{Poly, pair}
use Rattle.sym_model.specs.Partition.{IsPartition, size, insert_part}
use Rattle.sym_model.specs.Bases.{product_over}
use Rattle.sym_model.specs.WholeTerms.{WholeTerms, absolute_total, HaveLabels}

-- the partition that has the parts of both partitions: the parts of the first are inserted one by one into the second
abbrev pub merged : List ℕ → List ℕ → List ℕ
merged [] parts = parts
merged (a ∷ more) parts = merged more (insert_part a parts)

-- the product of the term z·`parts` and the list V: the numbers of `parts` are inserted into each label of V, and each coefficient is multiplied by z
abbrev pub row : List ℕ → ℤ → WholeTerms → WholeTerms
row parts z V = map (λ (t : List ℕ × ℤ). (merged parts t.0, z *ℤ t.1)) V

-- the product of two lists W and V of terms: for each term of W and each term of V, a term with the merged labels as its label, and the product of
-- the coefficients as its coefficient
abbrev pub joined : WholeTerms → WholeTerms → WholeTerms
joined W V = flat_map (λ (s : List ℕ × ℤ). row s.0 s.1 V) W

-- the label is a partition of at most d cells
pub record IsLow (d : ℕ) (label : List ℕ) : Type 0 where
  pub partition : IsPartition label
  pub low : size label ≤ d

-- W is a list of q·f: in every number n of variables, q·f(n) is the sum, over the terms of W with coefficient c and label λ, of c times the product
-- of the P_a over the parts a of λ. The absolute values of the coefficients of W add up to at most `most`, and the labels of W are partitions of at
-- most d cells.
pub record Stands (P : ℕ → ℕ → Poly) (q most d : ℕ) (f : ℕ → Poly) (W : WholeTerms) : Type 0 where
  pub value : (n : ℕ) (φ : List ℕ → ℤ)
      → pair W (λ label. pair (product_over P label n) φ) ≡ pos q *ℤ pair (f n) φ
  pub few : absolute_total W ≤ most
  pub labels : HaveLabels (IsLow d) W
