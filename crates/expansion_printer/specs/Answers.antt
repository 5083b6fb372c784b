-- The answers that the program computes, translated into answers as the definitions of `sym_model` describe them.
use Rattle.std.specs.Prelude.{ℤ, [], ◌∷◌, cond, nat_lt, nat_abs}
use Rattle.sym_model.specs.Kind.{Kind as PlainKind, Label, number, expansion, product, pairs}
use Rattle.sym_model.specs.Kind.{powers, permutations, polynomial, shifts}
use Rattle.sym_model.specs.Expansion.{Terms}
use Rattle.sym_model.specs.Answer.{Answer as PlainAnswer, answer}
use Rattle.sym_model.specs.WholeTerms.{as_fractions}
use Rattle.expansion_printer.specs.declared.answer.Kind.{Kind}
use Rattle.expansion_printer.specs.declared.answer.Kind.TheVariants as kinds
use Rattle.expansion_printer.specs.declared.answer.Answer.{Answer}
use Rattle.expansion_printer.specs.declared.answer.Answer.TheVariants.{Number, Expansion, Product}
use Rattle.expansion_printer.specs.declared.answer.Answer.TheVariants.{Pairs, Powers, Permutations}
use Rattle.expansion_printer.specs.declared.answer.Answer.TheVariants.{Polynomial, Shifts}

-- for a kind of answer of the program, the kind of answer in the definitions (`sym_model`)
abbrev pub kind_of : Kind → PlainKind
kind_of kinds.Number = number
kind_of kinds.Expansion = expansion
kind_of kinds.Product = product
kind_of kinds.Pairs = pairs
kind_of kinds.Powers = powers
kind_of kinds.Permutations = permutations
kind_of kinds.Polynomial = polynomial
kind_of kinds.Shifts = shifts

-- the terms of the number `value`: one term, and no term for 0
abbrev pub number_terms : ℤ → Terms (Label number)
number_terms value = cond (nat_lt 0 (nat_abs value)) ((tt, (value, 1)) ∷ []) []

-- for an answer of the program, the answer in the definitions (`sym_model`): its kind and its terms, with integer coefficients as fractions
abbrev pub plain_answer : Answer → PlainAnswer
plain_answer (Number value) = answer number (number_terms value)
plain_answer (Expansion terms) = answer expansion terms
plain_answer (Product terms) = answer product (as_fractions terms)
plain_answer (Pairs terms) = answer pairs (as_fractions terms)
plain_answer (Powers terms) = answer powers (as_fractions terms)
plain_answer (Permutations terms) = answer permutations (as_fractions terms)
plain_answer (Polynomial terms) = answer polynomial (as_fractions terms)
plain_answer (Shifts terms) = answer shifts (as_fractions terms)

-- for an answer of the program, the kind of this answer in the definitions (`sym_model`)
abbrev pub kind_of_answer : Answer → PlainKind
kind_of_answer (Number value) = number
kind_of_answer (Expansion terms) = expansion
kind_of_answer (Product terms) = product
kind_of_answer (Pairs terms) = pairs
kind_of_answer (Powers terms) = powers
kind_of_answer (Permutations terms) = permutations
kind_of_answer (Polynomial terms) = polynomial
kind_of_answer (Shifts terms) = shifts
