-- The texts of terms with their signs, one after another.
use Rattle.std.specs.Prelude.{ℕ, ℤ, Bool, true, false, List, [], ◌∷◌, ◌++◌, codes, cond}
use Rattle.sym_model.specs.Expansion.{Basis, Fraction, Terms}
use Rattle.sym_model.specs.NumberText.{fraction_text}
use Rattle.sym_model.specs.OneLine.{is_negative, is_unit, without_sign, atom_text, later_text}

-- the sign in front of a term: `-` if the numerator is negative; otherwise `+`, or no text in front of the first term
abbrev pub sign_text : Bool → ℤ → List ℕ
sign_text is_first num = cond (is_negative num) (codes "-") (cond is_first [] (codes "+"))

-- the absolute value of a coefficient and `*`; the empty text if the absolute value is 1
abbrev pub coefficient_text : Fraction → List ℕ
coefficient_text c = cond (is_unit c) [] (fraction_text (without_sign c) ++ codes "*")

-- the text of a term with its sign
abbrev pub signed_text : Basis → Bool → List ℕ × Fraction → List ℕ
signed_text basis is_first t =
    sign_text is_first t.1.0 ++ (coefficient_text t.1 ++ atom_text basis t.0)

-- the texts of the terms with their signs, one after another
abbrev pub signed_terms : Basis → Terms (List ℕ) → List ℕ
signed_terms basis [] = []
signed_terms basis (t ∷ terms) = signed_text basis true t ++ later_text basis terms

-- whether the list has no term
abbrev pub is_empty : Terms (List ℕ) → Bool
is_empty [] = true
is_empty (t ∷ terms) = false
