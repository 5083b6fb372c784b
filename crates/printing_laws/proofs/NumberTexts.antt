-- A number below 10^64, a list of such numbers, and a fraction whose numerator (in absolute value) and denominator are below 10^64, are read back
-- from their texts.
use Rattle.std.proofs.Common.{◌≡◌, ℕ, ◌^◌, ◌<◌, Bool, true, false, List, [], ◌∷◌, ◌++◌, length, map, cond, eqb, refl, sym, ap, ◌∙◌, decimal, length-append, arith}
use Rattle.std.specs.Fmt.{signed_decimal}
use Rattle.std.proofs.lemmas.Bool.{eq-eqb, ne_eqb, eqb-true, cond-true, cond-false}
use Rattle.sym_model.specs.Partition.{size}
use Rattle.sym_model.specs.Expansion.{Fraction}
use Rattle.sym_model.specs.NumberText.{fraction_text, numbers_text, label_text, before_first, split_at, before_cut, cut_at, decimal_value, fraction_of_pieces, fraction_of, without_last, numbers_of, label_of}
use Rattle.sym_model.specs.Kind.{BeginsWithSpace}
use Rattle.printing_laws.proofs.Decimals.{lacks-append, decimal-lacks, decimal-nonempty, decimal_value-decimal, IsShort, signed_decimal-lacks, signed_value-signed_decimal}
use Rattle.sym_model.specs.Bounded.{Lacks}

pub split_at-whole : (s : ℕ) (text : List ℕ) → Lacks s text → split_at s text ≡ text ∷ []
split_at-whole s [] h = refl
split_at-whole s (b ∷ text) h =
    cond-false (eqb b s) _ _ (ne_eqb b s h.0) ∙ ap (before_first b) (split_at-whole s text h.1)

pub split_at-piece : (s : ℕ) (piece rest : List ℕ) → Lacks s piece → split_at s (piece ++ (s ∷ rest)) ≡ piece ∷ split_at s rest
split_at-piece s [] rest h = cond-true (eqb s s) _ _ (eq-eqb s s refl)
split_at-piece s (b ∷ piece) rest h =
    cond-false (eqb b s) _ _ (ne_eqb b s h.0) ∙ ap (before_first b) (split_at-piece s piece rest h.1)

-- if `front` has no space, and `rest` is empty or begins with a space, cutting `front ++ rest` at its first space gives `front` and `rest`
pub cut_at-space : (front rest : List ℕ) → Lacks 32 front → BeginsWithSpace rest → cut_at 32 (front ++ rest) ≡ (front, rest)
cut_at-space [] [] h k = refl
cut_at-space [] (b ∷ rest) h k = cond-true (eqb b 32) _ _ (eq-eqb b 32 k)
cut_at-space (b ∷ front) rest h k =
    cond-false (eqb b 32) _ _ (ne_eqb b 32 h.0) ∙ ap (before_cut b) (cut_at-space front rest h.1 k)

-- each number of the list is below 10^64
abbrev pub AreShort : List ℕ → Type 0
AreShort [] = Unit {0}
AreShort (a ∷ numbers) = (a < 10 ^ 64) × AreShort numbers

pub are_short-from_size : (numbers : List ℕ) → size numbers < 10 ^ 64 → AreShort numbers
are_short-from_size [] h = tt
are_short-from_size (a ∷ numbers) h = (omega arith, are_short-from_size numbers (omega arith))

-- if the numbers of a list are below 10^64 and the list is not empty, splitting its text at the commas and reading the pieces gives these numbers
pub split_at-numbers : (a : ℕ) (numbers : List ℕ) → AreShort (a ∷ numbers) → map decimal_value (split_at 44 (numbers_text (a ∷ numbers))) ≡ a ∷ numbers
split_at-numbers a [] h =
    ap (map decimal_value) (split_at-whole 44 (decimal a) (decimal-lacks 44 a (omega arith) h.0)) ∙ ap (λ n. n ∷ []) (decimal_value-decimal a h.0)
split_at-numbers a (b ∷ numbers) h =
    ap (map decimal_value) (split_at-piece 44 (decimal a) (numbers_text (b ∷ numbers)) (decimal-lacks 44 a (omega arith) h.0)) ∙ (ap (λ n. n ∷ map decimal_value (split_at 44 (numbers_text (b ∷ numbers)))) (decimal_value-decimal a h.0) ∙ ap (λ ns. a ∷ ns) (split_at-numbers b numbers h.1))

-- a byte below 48 other than the comma (44) does not occur in the text of a list of numbers below 10^64
pub numbers_text-lacks : (byte : ℕ) (numbers : List ℕ) → byte < 48 → (44 ≡ byte → ⊥) → AreShort numbers → Lacks byte (numbers_text numbers)
numbers_text-lacks byte [] low other h = tt
numbers_text-lacks byte (a ∷ []) low other h = decimal-lacks byte a low h.0
numbers_text-lacks byte (a ∷ b ∷ numbers) low other h =
    lacks-append byte (decimal a) _ (decimal-lacks byte a low h.0) (other, numbers_text-lacks byte (b ∷ numbers) low other h.1)

pub without_last-push : (text : List ℕ) (byte : ℕ) → without_last (text ++ (byte ∷ [])) ≡ text
without_last-push [] byte = refl
without_last-push (b ∷ []) byte = refl
without_last-push (b ∷ c ∷ text) byte = ap (λ t. b ∷ t) (without_last-push (c ∷ text) byte)

pub numbers_of-nonempty : (text : List ℕ) → 0 < length text → numbers_of text ≡ map decimal_value (split_at 44 text)
numbers_of-nonempty [] h = absurd (omega arith)
numbers_of-nonempty (b ∷ text) h = refl

numbers_text-nonempty : (a : ℕ) (numbers : List ℕ) → AreShort (a ∷ numbers) → 0 < length (numbers_text (a ∷ numbers))
numbers_text-nonempty a [] h = decimal-nonempty a h.0
numbers_text-nonempty a (b ∷ numbers) h = simp length-append (let e = decimal-nonempty a h.0 in omega arith)

pub numbers_of-text : (numbers : List ℕ) → AreShort numbers → numbers_of (numbers_text numbers) ≡ numbers
numbers_of-text [] h = refl
numbers_of-text (a ∷ numbers) h =
    numbers_of-nonempty (numbers_text (a ∷ numbers)) (numbers_text-nonempty a numbers h) ∙ split_at-numbers a numbers h

pub label_of-text : (numbers : List ℕ) → AreShort numbers → label_of (label_text numbers) ≡ numbers
label_of-text numbers h =
    ap numbers_of (without_last-push (numbers_text numbers) 41) ∙ numbers_of-text numbers h

pub label_text-lacks : (byte : ℕ) (numbers : List ℕ) → byte < 40 → AreShort numbers → Lacks byte (label_text numbers)
label_text-lacks byte numbers low h =
    ((λ e. omega arith), lacks-append byte (numbers_text numbers) _ (numbers_text-lacks byte numbers (omega arith) (λ e. omega arith) h) ((λ e. omega arith), tt))

-- the absolute value of the numerator and the denominator are below 10^64
pub record IsShortFraction (c : Fraction) : Type 0 where
  pub num : IsShort c.0
  pub den : c.1 < 10 ^ 64

-- a fraction whose numerator (in absolute value) and denominator are below 10^64 is read back from its text
pub fraction_of-text : (c : Fraction) → IsShortFraction c → fraction_of (fraction_text c) ≡ c
fraction_of-text c h = by (eqb c.1 1) refl
  where
    lacks : Lacks 47 (signed_decimal c.0)
    lacks = signed_decimal-lacks 47 c.0 (omega arith) (λ e. omega arith) h.num

    by : (b : Bool) → eqb c.1 1 ≡ b → fraction_of_pieces (split_at 47 (cond b (signed_decimal c.0) (signed_decimal c.0 ++ (47 ∷ decimal c.1)))) ≡ c
    by true e =
        ap fraction_of_pieces (split_at-whole 47 (signed_decimal c.0) lacks) ∙ (ap (λ z. (z, 1)) (signed_value-signed_decimal c.0 h.num) ∙ ap (λ d. (c.0, d)) (sym (eqb-true c.1 1 e)))
    by false e =
        ap fraction_of_pieces (split_at-piece 47 (signed_decimal c.0) (decimal c.1) lacks) ∙ (ap (λ ps. fraction_of_pieces (signed_decimal c.0 ∷ ps)) (split_at-whole 47 (decimal c.1) (decimal-lacks 47 c.1 (omega arith) h.den)) ∙ (ap (λ z. (z, decimal_value (decimal c.1))) (signed_value-signed_decimal c.0 h.num) ∙ ap (λ d. (c.0, d)) (decimal_value-decimal c.1 h.den)))

pub fraction_text-lacks : (byte : ℕ) (c : Fraction) → byte < 45 → IsShortFraction c → Lacks byte (fraction_text c)
fraction_text-lacks byte c low h = by (eqb c.1 1)
  where
    lacks : Lacks byte (signed_decimal c.0)
    lacks = signed_decimal-lacks byte c.0 (omega arith) (λ e. omega arith) h.num

    by : (b : Bool) → Lacks byte (cond b (signed_decimal c.0) (signed_decimal c.0 ++ (47 ∷ decimal c.1)))
    by true = lacks
    by false = lacks-append byte (signed_decimal c.0) _ lacks ((λ e. omega arith), decimal-lacks byte c.1 (omega arith) h.den)
