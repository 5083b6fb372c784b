-- Values of decimal digits, read one after another.
use Rattle.std.proofs.Common.{◌≡◌, ℕ, ◌+◌, ◌-◌, ◌*◌, ◌≤◌, ◌<◌, length, arith, List, ◌++◌, sym, ◌∙◌, ap, take, drop, get_or}
use Rattle.std.proofs.lemmas.List.{take-append-drop}
use Rattle.sym_model.specs.NumberText.{value_from, decimal_value}
use Rattle.printing_laws.proofs.Decimals.{value_from-append, value_from-ge, decimal_value_more}

pub value-front : (xs : List ℕ) (k : ℕ) → decimal_value (take k xs) ≤ decimal_value xs
value-front xs k =
    let e : value_from 0 (take k xs ++ drop k xs) ≡ value_from (decimal_value (take k xs)) (drop k xs) = value_from-append 0 (take k xs) (drop k xs) in
    let all : value_from 0 (take k xs ++ drop k xs) ≡ decimal_value xs = ap (value_from 0) (take-append-drop k xs) in
    let h = value_from-ge (decimal_value (take k xs)) (drop k xs) in
    omega arith

-- let `value` be the value of the first k digits: 10 times `value`, plus the next digit, is the value of the first k + 1 digits
pub value-more : (xs : List ℕ) (k value : ℕ) → value ≡ decimal_value (take k xs) → k < length xs
    → 10 * value + (get_or xs k 0 - 48) ≡ decimal_value (take (k + 1) xs)
value-more xs k value so_far below =
    ap (λ v. 10 * v + (get_or xs k 0 - 48)) so_far ∙ sym (decimal_value_more xs k below)

-- if 10 times the value of the first k digits, plus the next digit, is not below the bound, the value of all digits is not below the bound
pub value-past : (xs : List ℕ) (k value bound : ℕ) → value ≡ decimal_value (take k xs) → k < length xs
    → (10 * value + (get_or xs k 0 - 48) < bound → ⊥) → decimal_value xs < bound → ⊥
value-past xs k value bound so_far below past whole =
    let e = value-more xs k value so_far below in
    let h = value-front xs (k + 1) in
    past (omega arith)
