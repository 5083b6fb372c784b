-- The printed texts of coefficients, and of the terms of the one-line form, which prints an expansion on one line.
use Rattle.std.proofs.Common.{◌≡◌, ℕ, ◌<◌, length, arith, Bool, true, false, List, [], ◌∷◌, ◌++◌, cond, eqb, ℤ, pos, negsuc, suc, nat_abs, refl, sym, ◌∙◌, ap, append_assoc, append-nil, decimal}
use Rattle.std.specs.Prelude.{codes}
use Rattle.std.specs.Fmt.{signed_decimal}
use Rattle.std.proofs.lemmas.Bool.{and_parts, eqb-true, cond-false}
use Rattle.sym_model.specs.Expansion.{Basis, Fraction, Terms}
use Rattle.sym_model.specs.NumberText.{fraction_text}
use Rattle.sym_model.specs.OneLine.{is_unit, is_negative, without_sign, unsigned_text, later_text, one_line}
use Rattle.expansion_printer.specs.SignedTerms.{sign_text, coefficient_text, signed_text, signed_terms, is_empty}

not_unit : (num : ℤ) (den size : ℕ) → size ≡ nat_abs num → (size ≡ 1 → den ≡ 1 → ⊥) → is_unit (num, den) ≡ false
not_unit num den size e other = by (is_unit (num, den)) refl
  where
    by : (b : Bool) → is_unit (num, den) ≡ b → b ≡ false
    by true h =
        let p = and_parts (eqb (nat_abs num) 1) (eqb den 1) h in
        absurd (other (e ∙ eqb-true (nat_abs num) 1 p.0) (eqb-true den 1 p.1))
    by false h = refl

-- if the coefficient num/den is neither 1 nor -1, its text in a one-line form is its absolute value followed by `*`
pub coefficient-printed : (num : ℤ) (den size : ℕ) → size ≡ nat_abs num → (size ≡ 1 → den ≡ 1 → ⊥)
    → decimal size ++ (cond (eqb den 1) [] (47 ∷ decimal den) ++ codes "*") ≡ coefficient_text (num, den)
coefficient-printed num den size e other =
    ap (λ n. decimal n ++ (cond (eqb den 1) [] (47 ∷ decimal den) ++ codes "*")) e
    ∙ by (eqb den 1)
    ∙ sym (cond-false (is_unit (num, den)) [] (fraction_text (without_sign (num, den)) ++ codes "*") (not_unit num den size e other))
  where
    by : (b : Bool) → decimal (nat_abs num) ++ (cond b [] (47 ∷ decimal den) ++ codes "*")
        ≡ cond b (decimal (nat_abs num)) (decimal (nat_abs num) ++ (47 ∷ decimal den)) ++ codes "*"
    by true = refl
    by false = sym (append_assoc (decimal (nat_abs num)) (47 ∷ decimal den) (codes "*"))

-- the sign of num, its absolute value and, unless den is 1, `/` and den are the text of the fraction num/den
pub fraction-printed : (num : ℤ) (den : ℕ)
    → sign_text true num ++ (decimal (nat_abs num) ++ cond (eqb den 1) [] (47 ∷ decimal den)) ≡ fraction_text (num, den)
fraction-printed num den = by (eqb den 1) num
  where
    by : (b : Bool) (z : ℤ) → sign_text true z ++ (decimal (nat_abs z) ++ cond b [] (47 ∷ decimal den))
        ≡ cond b (signed_decimal z) (signed_decimal z ++ (47 ∷ decimal den))
    by true (pos n) = append-nil (decimal n)
    by true (negsuc n) = ap (λ t. 45 ∷ t) (append-nil (decimal (suc n)))
    by false (pos n) = refl
    by false (negsuc n) = refl

later_text-push : (basis : Basis) (terms : Terms (List ℕ)) (t : List ℕ × Fraction) → later_text basis terms ++ signed_text basis false t ≡ later_text basis (terms ++ t ∷ [])
later_text-push basis [] t =
    ap (λ text. cond (is_negative t.1.0) (codes "-") (codes "+") ++ text) (sym (append-nil (unsigned_text basis t)))
later_text-push basis (u ∷ terms) t =
    append_assoc (cond (is_negative u.1.0) (codes "-") (codes "+")) (unsigned_text basis u ++ later_text basis terms) (signed_text basis false t)
    ∙ ap (λ text. cond (is_negative u.1.0) (codes "-") (codes "+") ++ text)
    (append_assoc (unsigned_text basis u) (later_text basis terms) (signed_text basis false t)
    ∙ ap (λ text. unsigned_text basis u ++ text) (later_text-push basis terms t))

-- the text of signed terms, followed by that of one more signed term, is the text of the list with this term appended
pub signed_terms-push : (basis : Basis) (terms : Terms (List ℕ)) (is_first : Bool) (t : List ℕ × Fraction) → is_first ≡ is_empty terms
    → signed_terms basis terms ++ signed_text basis is_first t ≡ signed_terms basis (terms ++ t ∷ [])
signed_terms-push basis [] is_first t e = ap (λ b. signed_text basis b t) e ∙ sym (append-nil (signed_text basis true t))
signed_terms-push basis (u ∷ terms) is_first t e =
    ap (λ b. signed_terms basis (u ∷ terms) ++ signed_text basis b t) e
    ∙ append_assoc (signed_text basis true u) (later_text basis terms) (signed_text basis false t)
    ∙ ap (λ text. signed_text basis true u ++ text) (later_text-push basis terms t)

pub is_empty-push : (terms : Terms (List ℕ)) (t : List ℕ × Fraction) → false ≡ is_empty (terms ++ t ∷ [])
is_empty-push [] t = refl
is_empty-push (u ∷ terms) t = refl

-- if there is a term, the text of the signed terms and a line feed are the one-line form
pub one_line-some : (basis : Basis) (terms : Terms (List ℕ)) → 0 < length terms → signed_terms basis terms ++ codes "\n" ≡ one_line basis terms
one_line-some basis [] some = absurd (omega arith)
one_line-some basis (t ∷ terms) some =
    append_assoc (signed_text basis true t) (later_text basis terms) (codes "\n")
    ∙ append_assoc (cond (is_negative t.1.0) (codes "-") []) (unsigned_text basis t) (later_text basis terms ++ codes "\n")
