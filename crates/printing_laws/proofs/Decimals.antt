-- Decimal texts of numbers: the digits that the standard library writes for a number are read back as this number.
use Rattle.std.proofs.Common.{◌≡◌, ℕ, suc, ◌+◌, ◌*◌, ◌-◌, ◌^◌, ◌<◌, ◌≤◌, ◌/◌, ◌%◌, List, [], ◌∷◌, ◌++◌, length, take, get_or, length-append, eqb, ℤ, pos, negsuc, neg_ℤ, refl, ap, ◌∙◌, subst, decimal, arith}
use Rattle.std.specs.Fmt.{signed_decimal}
use Rattle.std.proofs.lemmas.Fmt.{decimal_by_steps_wide}
use Rattle.std.proofs.lemmas.List.{take_more}
use Rattle.std.proofs.lemmas.Bool.{ne_eqb, cond-false}
use Rattle.sym_model.specs.NumberWord.{IsDigit, AreDigits}
use Rattle.sym_model.specs.NumberText.{value_from, decimal_value, signed_value}
use Rattle.sym_model.specs.Bounded.{Lacks}

-- `value_from n xs` is the value of the digits of n followed by the digits xs; for xs ++ ys it is `value_from m ys` with m = `value_from n xs`
pub value_from-append : (n : ℕ) (xs ys : List ℕ) → value_from n (xs ++ ys) ≡ value_from (value_from n xs) ys
value_from-append n [] ys = refl
value_from-append n (x ∷ xs) ys = value_from-append (10 * n + (x - 48)) xs ys

-- appending a digit with the code d to xs multiplies `value_from n xs`, the value of the digits of n followed by the digits xs, by 10 and adds the
-- value d - 48 of the digit
pub value_from-push : (n : ℕ) (xs : List ℕ) (d : ℕ) → value_from n (xs ++ (d ∷ [])) ≡ 10 * value_from n xs + (d - 48)
value_from-push n xs d = value_from-append n xs (d ∷ [])

pub decimal_value_more : (xs : List ℕ) (i : ℕ) → i < length xs → decimal_value (take (i + 1) xs) ≡ 10 * decimal_value (take i xs) + (get_or xs i 0 - 48)
decimal_value_more xs i h = ap decimal_value (take_more xs i 0 h) ∙ value_from-push 0 (take i xs) (get_or xs i 0)

pub value_from-ge : (n : ℕ) (xs : List ℕ) → n ≤ value_from n xs
value_from-ge n [] = omega arith
value_from-ge n (x ∷ xs) = let h = value_from-ge (10 * n + (x - 48)) xs in omega arith

pub are_digits-append : (xs ys : List ℕ) → AreDigits xs → AreDigits ys → AreDigits (xs ++ ys)
are_digits-append [] ys h k = k
are_digits-append (x ∷ xs) ys h k = (h.0, are_digits-append xs ys h.1 k)

-- the text consists of digits, at least one, and their decimal value is n
pub record IsWritten (n : ℕ) (text : List ℕ) : Type 0 where
  pub nonempty : 0 < length text
  pub digits : AreDigits text
  pub value : decimal_value text ≡ n

-- the decimal text of a number n below 10^64 consists of digits, at least one, and their decimal value is n
pub decimal-is_written : (n : ℕ) → n < 10 ^ 64 → IsWritten n (decimal n)
decimal-is_written = decimal_by_steps_wide IsWritten one more
  where
    one : (n : ℕ) → n < 10 → IsWritten n ((48 + n) ∷ [])
    one n h = record { nonempty = omega arith; digits = ((omega arith, omega arith), tt); value = omega arith }

    more : (n : ℕ) (ds : List ℕ) → 10 ≤ n → IsWritten (n / 10) ds → IsWritten n (ds ++ ((48 + n % 10) ∷ []))
    more n ds h w = record {
      nonempty = simp length-append (omega arith);
      digits = are_digits-append ds _ w.digits ((omega arith, omega arith), tt);
      value = value_from-push 0 ds (48 + n % 10) ∙ (let e = w.value in omega arith);
    }

pub decimal-nonempty : (n : ℕ) → n < 10 ^ 64 → 0 < length (decimal n)
decimal-nonempty n h = (decimal-is_written n h).nonempty

pub decimal-digits : (n : ℕ) → n < 10 ^ 64 → AreDigits (decimal n)
decimal-digits n h = (decimal-is_written n h).digits

pub decimal_value-decimal : (n : ℕ) → n < 10 ^ 64 → decimal_value (decimal n) ≡ n
decimal_value-decimal n h = (decimal-is_written n h).value

pub lacks-append : (byte : ℕ) (xs ys : List ℕ) → Lacks byte xs → Lacks byte ys → Lacks byte (xs ++ ys)
lacks-append byte [] ys h k = k
lacks-append byte (x ∷ xs) ys h k = (h.0, lacks-append byte xs ys h.1 k)

pub lacks-from_digits : (byte : ℕ) (xs : List ℕ) → (IsDigit byte → ⊥) → AreDigits xs → Lacks byte xs
lacks-from_digits byte [] other h = tt
lacks-from_digits byte (x ∷ xs) other h =
    ((λ e. other (subst IsDigit e h.0)), lacks-from_digits byte xs other h.1)

-- no byte below 48, such as a space, a comma, a parenthesis, `-`, `/` or LF, occurs in the decimal text of a number below 10^64
pub decimal-lacks : (byte n : ℕ) → byte < 48 → n < 10 ^ 64 → Lacks byte (decimal n)
decimal-lacks byte n low h = lacks-from_digits byte (decimal n) (λ d. omega arith) (decimal-digits n h)

-- the absolute value of the integer is below 10^64
abbrev pub IsShort : ℤ → Type 0
IsShort (pos n) = n < 10 ^ 64
IsShort (negsuc n) = n + 1 < 10 ^ 64

-- the decimal text of an integer with an absolute value below 10^64 has no byte below 48 other than `-` (45)
pub signed_decimal-lacks : (byte : ℕ) (z : ℤ) → byte < 48 → (45 ≡ byte → ⊥) → IsShort z → Lacks byte (signed_decimal z)
signed_decimal-lacks byte (pos n) low other h = decimal-lacks byte n low h
signed_decimal-lacks byte (negsuc n) low other h = (other, decimal-lacks byte (suc n) low (omega arith))

pub signed_value-digits : (xs : List ℕ) → AreDigits xs → signed_value xs ≡ pos (decimal_value xs)
signed_value-digits [] h = refl
signed_value-digits (x ∷ xs) h = cond-false (eqb x 45) _ _ (ne_eqb x 45 (λ e. omega (arith, h.0)))

-- the text of an integer with an absolute value below 10^64 is read as that integer
pub signed_value-signed_decimal : (z : ℤ) → IsShort z → signed_value (signed_decimal z) ≡ z
signed_value-signed_decimal (pos n) h =
    signed_value-digits (decimal n) (decimal-digits n h) ∙ ap pos (decimal_value-decimal n h)
signed_value-signed_decimal (negsuc n) h =
    ap (λ m. neg_ℤ (pos m)) (decimal_value-decimal (suc n) (omega arith))
