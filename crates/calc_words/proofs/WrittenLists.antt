-- If the numbers of a partition, a number of rows or lines, or a seed have no error, they are within their limits.
use Rattle.std.proofs.Common.{◌≡◌, ℕ, ◌+◌, ◌≤◌, ◌==◌, nat_le, nat_lt, false, ◌&&◌, List, [], ◌∷◌, length, arith, None, rules}
use Rattle.std.proofs.lemmas.Bool.{ltb-false, eqb-false, or_parts}
use Rattle.sym_model.specs.Partition.{size, without_last_zeros, FallsFrom}
use Rattle.sym_model.proofs.SortedParts.{IsPartition-without_last_zeros, size-without_last_zeros}
use Rattle.sym_model.specs.CommandOffence.{first_offence, part_offences, part_rule, rows_rule, offences_by, offences_after, left_of, is_outside, most_cells}
use Rattle.sym_model.specs.Grammar.{two_partitions}
use Rattle.sym_model.specs.WordForms.{partition}
use Rattle.sym_model.proofs.Parts.{length-without_last_zeros}
use Rattle.word_laws.specs.Words.{Words}
use Rattle.partitions.specs.Limits.{IsWithinLimits}
use Rattle.word_laws.proofs.FirstOffences.{first_none}
use Rattle.word_laws.proofs.NoOffences.{none_append, none_first, none_next}
use Rattle.calc_words.specs.WrittenLimits.{IsWritten, IsRowNumber}
use Rattle.expression_reading.proofs.BuildRuns.{falls-next, falls-none}
use Rattle.sym_model.proofs.Lists.{none_chosen}

-- ---- the numbers of a partition, if they have no error

record Fits (before ns : List ℕ) : Type 0 where
  falls : FallsFrom (left_of before) ns
  few : length before + length ns ≤ 64
  small : size before + size ns ≤ 512

not_past : (cells a : ℕ) → cells ≤ 512 → (nat_le cells most_cells && nat_lt most_cells (cells + a)) ≡ false → cells + a ≤ 512
not_past cells a s h = search rules

fits : (before : List ℕ) (k : ℕ) (ns : List ℕ) → length before ≤ 64 → size before ≤ 512 → offences_after part_rule before k ns ≡ [] → Fits before ns
fits before k [] f s h = record { falls = falls-none (left_of before); few = omega arith; small = omega arith }
fits before k (a ∷ ns) f s h =
    search (rules, none_next, none_append, or_parts, none_chosen, not_past, eqb-false, falls-next, (fits (a ∷ before) (k + 1) ns))

-- if the numbers ns of a partition have no error, ns without the zeros at its end is a partition within the limits
pub written : (k : ℕ) (ns : List ℕ) → first_offence (part_offences k ns) ≡ None → IsWritten (without_last_zeros ns)
written k ns h = search (rules, fits, first_none, IsPartition-without_last_zeros, length-without_last_zeros, size-without_last_zeros)

pub written_partition : (parts : List ℕ) → IsWritten parts → IsWithinLimits parts
written_partition parts w =
    record { partition = w.partition; few = (let x = w.few in omega (arith, x)); small = (let x = w.small in omega (arith, x)) }

pub two_written : (k : ℕ) (left right : Words) → first_offence (two_partitions k left right) ≡ None
    → IsWritten (partition left) × IsWritten (partition right)
two_written k left right h = search (rules, none_first, written)

-- ---- a number of rows, a number of lines, and a seed, if they have no error

not_zero : (a : ℕ) → (a == 0) ≡ false → 1 ≤ a
not_zero a h = let x = eqb-false a 0 h in omega (arith, x)

pub inside : (limit a : ℕ) → is_outside limit a ≡ false → (1 ≤ a) × (a ≤ limit)
inside limit a h = let o = or_parts (a == 0) (nat_lt limit a) h in (not_zero a o.0, ltb-false limit a o.1)

pub row_number : (k a : ℕ) → first_offence (offences_by rows_rule k (a ∷ [])) ≡ None → IsRowNumber a
row_number k a h = search rules
