-- The kind of the error of a letter of a permutation, for letters of at most 2^127 - 1.
use Rattle.std.specs.Prelude.{ℕ, ◌==◌, nat_lt, ◌||◌, List, length, Option}
use Rattle.sym_model.specs.CommandOffence.{is_outside, stands_in}
use Rattle.expression_reading.specs.declared.offence.Kind.{Kind}
use Rattle.calc_words.specs.PartRules.{range_or_shape}

-- For a permutation of `count` letters, in which at most `most` letters are allowed: the kind of the error of the letter `value`, which follows the
-- letters `before`; no kind if this letter has no error.
abbrev pub letter_kind : ℕ → ℕ → List ℕ → ℕ → Option Kind
letter_kind most count before value =
    range_or_shape (nat_lt most value || (length before == most))
    (is_outside count value || stands_in value before)
