-- Products of a polynomial and a Schubert polynomial, row by row of a diagram (`times_rows`, specs/DiagramRows of `double_schubert_laws`). A
-- permutation of at most n letters is written without fixed letters at the end, which are equal to their places. Two polynomials are compared by the
-- sums of c·φ(α) over their terms c·x^α (`pair`), for every function φ.
use Rattle.std.specs.Prelude.{◌≡◌, ℕ, ◌+◌, ◌-◌, ℤ, pos, negsuc, ◌+ℤ◌, ◌*ℤ◌, List, ◌++◌, map, get_or, take}
use Rattle.sym_model.specs.Sum.{total}
use Rattle.sym_model.specs.Partition.{after}
use Rattle.sym_model.specs.Polynomial.{Poly, In, pair, times}
use Rattle.sym_model.specs.Permutation.{covers_among, covers_down, times_swap, with_fixed}
use Rattle.sym_model.specs.Schubert.{schubert_in}
use Rattle.sym_model.specs.WholeTerms.{HaveLabels, WholeTerms}
use Rattle.schubert_laws.specs.Chains.{elementary_in, letters_before}
use Rattle.schubert_laws.specs.ShortPermutations.{IsShort}
use Rattle.double_schubert_laws.specs.DiagramRows.{HasLeftAscent, times_rows}
use Rattle.linear_combinations.specs.Gains.{over, each_with}
use Rattle.monk_product.specs.declared.row_summands.Summand.{Summand}

-- in every number k of variables, the sum of c·S_w over the terms (w, c) of `sum` is `times_rows` of s(k) for these rows at q, a permutation of at most
-- n letters
pub record IsValueAt (s : ℕ → Poly) (n : ℕ) (rows q : List ℕ) (sum : WholeTerms) : Type 0 where
  pub value : (k : ℕ) (φ : List ℕ → ℤ) → over (λ w. pair (schubert_in w k) φ) sum
      ≡ pair (times_rows k (s k) rows (with_fixed n q)) φ

-- the sum of `coefficient` times f(degree, perm) over the summands
abbrev pub sum_over : (ℕ → List ℕ → ℤ) → List Summand → ℤ
sum_over f summands = total (λ (x : Summand). x.coefficient *ℤ f x.degree x.perm) summands

-- in k variables: the sum of c·φ(α) over the terms c·x^α of e_d(x_1, .., x_r) times `times_rows` of s for the first i rows at v, a permutation of at most
-- n letters; here r is the number of cells of the next row
abbrev pub row_value : ℕ → ℕ → List ℕ → ℕ → Poly → (List ℕ → ℤ) → ℕ → List ℕ → ℤ
row_value n i rows k s φ d v =
    pair (times (elementary_in d (get_or rows i 0) k)
    (times_rows k s (take i rows) (with_fixed n v))) φ

-- `times_rows` for the first i + 1 rows at q, a permutation of at most n letters, is the sum over these summands of `coefficient` times
-- e_d(x_1, .., x_r), for d = `degree` and the number r of cells of the last of these rows, times `times_rows` for the first i rows at `perm`
pub record AreSummandsAt (n i : ℕ) (rows q : List ℕ) (summands : List Summand) : Type 0 where
  pub value : (k : ℕ) (s : Poly) (φ : List ℕ → ℤ) → In k s
      → pair (times_rows k s (take (i + 1) rows) (with_fixed n q)) φ
      ≡ sum_over (row_value n i rows k s φ) summands

-- f is 0 at each permutation of at most n letters in which letters a and a + 1, both at most m, stand in this order
abbrev pub IsNullAt : ℕ → ℕ → (List ℕ → ℤ) → Type 0
IsNullAt n m f = (v : List ℕ) → IsShort n v → HasLeftAscent m (with_fixed n v) → f v ≡ pos 0

-- the table `new` of permutations of at most n letters is the table `old` plus the terms `gained`, up to terms whose permutations have letters a and
-- a + 1, both at most m, in this order
pub record GainsExcept (n m : ℕ) (old gained new : WholeTerms) : Type 0 where
  pub sums : (f : List ℕ → ℤ) → IsNullAt n m f → over f new ≡ over f old +ℤ over f gained
  pub short : HaveLabels (IsShort n) new

-- the covers w·t_rb of w with r < b ≤ n
abbrev pub covers_to : ℕ → ℕ → List ℕ → List (List ℕ)
covers_to n r w = covers_among w (map (λ b. times_swap r b w) (after r (n - r)))

-- the covers w·t_ar with a < r, with coefficients 1, and the covers w·t_rb with r < b ≤ n, with coefficients -1; here r is the place of the letter m
abbrev pub signed_covers : ℕ → ℕ → List ℕ → WholeTerms
signed_covers n m w =
    each_with (pos 1) (covers_down (letters_before m (with_fixed n w) + 1) w)
    ++ each_with (negsuc 0) (covers_to n (letters_before m (with_fixed n w) + 1) w)
