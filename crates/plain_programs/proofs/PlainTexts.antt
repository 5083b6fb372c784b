-- Invariants of the loops of blocks.rt, the program that writes the printed block of a list of terms by the definition.
use Rattle.std.proofs.Common.{◌≡◌, ℕ, suc, ◌-◌, ◌≤◌, length, take, get_or, arith, List, [], ◌∷◌, ◌++◌, drop, sym, ap, ◌∙◌, decimal, append_assoc, append-nil}
use Rattle.std.proofs.Math.Seq.{take-length}
use Rattle.sym_model.specs.PrintedBlock.{numbers_text}

-- the text of a list of numbers, each with a comma in front
abbrev pub comma_numbers : List ℕ → List ℕ
comma_numbers [] = []
comma_numbers (a ∷ numbers) = 44 ∷ (decimal a ++ comma_numbers numbers)

pub numbers_text-first : (a : ℕ) (numbers : List ℕ) → numbers_text (a ∷ numbers) ≡ decimal a ++ comma_numbers numbers
numbers_text-first a [] = sym (append-nil (decimal a))
numbers_text-first a (b ∷ numbers) = ap (λ text. decimal a ++ (44 ∷ text)) (numbers_text-first b numbers)

-- the text of a list of numbers with commas between them: the first number, followed by each later number with a comma in front
pub first_written : (new old numbers : List ℕ) → 1 ≤ length numbers → new ≡ old ++ decimal (get_or numbers 0 0) → new ++ comma_numbers (drop 0 (take (length numbers - 1) (drop 1 numbers))) ≡ old ++ numbers_text numbers
first_written new old [] h e = absurd (omega arith)
first_written new old (a ∷ rest) h e =
    let whole : take (suc (length rest) - 1) rest ≡ rest = ap (λ n. take n rest) (sub-one-suc (length rest)) ∙ take-length rest in
    ap (λ r. new ++ comma_numbers r) whole ∙ (ap (λ t. t ++ comma_numbers rest) e ∙ (append_assoc old (decimal a) (comma_numbers rest) ∙ ap (λ t. old ++ t) (sym (numbers_text-first a rest))))
  where
    sub-one-suc : (n : ℕ) → suc n - 1 ≡ n
    sub-one-suc n = omega arith
