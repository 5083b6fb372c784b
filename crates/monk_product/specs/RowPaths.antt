-- Diagrams and permutations at which `times_rows` (specs/DiagramRows of `double_schubert_laws`) is the product with a given Schubert polynomial, up to
-- its sign. A permutation of at most n letters is written without fixed letters at the end, which are equal to their places.
use Rattle.std.specs.Prelude.{◌≡◌, ℕ, ℤ, ◌*ℤ◌, ◌≤◌, List, length, get_or, take, None}
use Rattle.sym_model.specs.PlaceOrders.{sign}
use Rattle.sym_model.specs.Polynomial.{Poly, In, pair, scale, times}
use Rattle.sym_model.specs.Permutation.{IsOneLine, AreInverse, with_fixed, first_ascent}
use Rattle.sym_model.specs.Schubert.{schubert_in}
use Rattle.sym_model.specs.Sum.{Among}
use Rattle.double_schubert_laws.specs.DiagramRows.{AreWithin, LeadsTo, times_rows}
use Rattle.monk_product.specs.RowProducts.{IsValueAt}
use Rattle.monk_product.specs.declared.row_table.Entry.{Entry}

-- exchanges at common descents have changed the lists `first` and `second` to `first2` and `second2`
pub record KeepsPath (first second first2 second2 : List ℕ) : Type 0 where
  pub leads : (μ : List ℕ) → LeadsTo μ second first → LeadsTo μ second2 first2
  pub one_line : IsOneLine first → IsOneLine first2
  pub first_length : length first2 ≡ length first
  pub second_length : length second2 ≡ length second

-- exchanges at common descents lead from μ and n, .., 1 to the inverse of v and to the permutation q of n letters
pub record IsEndOf (μ v q : List ℕ) : Type 0 where
  pub inverse : List ℕ
  pub one_line : IsOneLine inverse
  pub are_inverse : AreInverse v inverse
  pub as_long : length inverse ≡ length μ
  pub long : length (with_fixed (length μ) q) ≡ length μ
  pub leads : LeadsTo μ (with_fixed (length μ) q) inverse

-- at q, a permutation of at most n letters, `times_rows` for these rows is the product with S_v, up to the sign of v
pub record IsPathFor (v : List ℕ) (n : ℕ) (rows q : List ℕ) : Type 0 where
  pub within : AreWithin n rows
  pub value : (k : ℕ) (s : Poly) (φ : List ℕ → ℤ)
      → pair (times_rows k s rows (with_fixed n q)) φ
      ≡ sign v *ℤ pair (times s (schubert_in v k)) φ

-- q is the permutation n, .., 1, written without fixed letters at the end
pub record IsLongest (n : ℕ) (q : List ℕ) : Type 0 where
  pub falls : first_ascent (with_fixed n q) ≡ None

-- from the index m on, the rows have no cells
abbrev pub IsEmptyFrom : ℕ → List ℕ → Type 0
IsEmptyFrom m rows = (a : ℕ) → m ≤ a → get_or rows a 0 ≡ 0

-- the rows of the code up to the last one that has cells
pub record AreRowsOf (code rows : List ℕ) : Type 0 where
  pub within : length rows ≤ length code
  pub first : rows ≡ take (length rows) code
  pub empty : IsEmptyFrom (length rows) code

-- each s(k) is a polynomial in k variables
abbrev pub AreIn : (ℕ → Poly) → Type 0
AreIn s = (k : ℕ) → In k (s k)

-- the sum of each entry is the value of these rows at its permutation (`IsValueAt`)
abbrev pub AreValues : (ℕ → Poly) → ℕ → List ℕ → List Entry → Type 0
AreValues s n rows table = (e : Entry) → Among e table → IsValueAt s n rows e.perm e.sum

-- the Schubert polynomial of u, times the sign of v
abbrev pub signed_by : List ℕ → List ℕ → ℕ → Poly
signed_by v u k = scale (sign v) (schubert_in u k)
