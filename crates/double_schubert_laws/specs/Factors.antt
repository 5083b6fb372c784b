-- Terms y^e·S_w of double Schubert polynomials, given by their labels (w, e), and their products with x_r - y_c and with other double Schubert
-- polynomials.
use Rattle.std.specs.Prelude.{ℕ, ◌+ℤ◌, ◌-ℤ◌, ℤ, List}
use Rattle.sym_model.specs.Sum.{total}
use Rattle.sym_model.specs.Polynomial.{times, pair}
use Rattle.sym_model.specs.Permutation.{letter, covers_up, covers_down}
use Rattle.sym_model.specs.DividedDifference.{raised}
use Rattle.sym_model.specs.DoubleSchubert.{double_schubert_in, shifted_in}

-- the sum of φ, a function of labels, over the labels of the terms of (x_r - y_c)·y^e·S_w by Monk's rule, with the signs of the terms; here (w, e) is
-- `label`. With the sign +: (v, e) for the covers v = w·t_rj with j > r, and the label of y_(w(r))·y^e·S_w. With the sign -: (v, e) for the covers
-- v = w·t_ir with i < r, and the label of y_c·y^e·S_w.
abbrev pub over_factor : ℕ → ℕ → (List ℕ × List ℕ → ℤ) → List ℕ × List ℕ → ℤ
over_factor r c φ label =
    ((total (λ v. φ (v, label.1)) (covers_up r label.0)
    -ℤ total (λ v. φ (v, label.1)) (covers_down r label.0))
    +ℤ φ (label.0, raised (letter label.0 r) label.1))
    -ℤ φ (label.0, raised c label.1)

-- Σ c·φ(α) over the terms c·x^α of the product S_p·y^e·S_w in n variables x and n variables y; here (w, e) is the label
abbrev pub acted : ℕ → (List ℕ → ℤ) → List ℕ → List ℕ × List ℕ → ℤ
acted n φ p label = pair (times (double_schubert_in p n) (shifted_in label n)) φ
