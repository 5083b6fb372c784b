-- The numbers of blocks, terms and bytes, added up over the blocks (the texts of answers or refusals) of the lines of
-- a workload.
use Rattle.std.specs.Prelude.{ℕ, ◌+◌, ◌*◌, ◌^◌, ◌≤◌, List, ◌++◌, map, length, codes, decimal}
use Rattle.sym_model.specs.Partition.{size}
use Rattle.sym_model.specs.Workload.{terms_in}
use Rattle.batch_lines.specs.declared.sums.Sums.{Sums}

-- the sums over a list of blocks, given by their texts: the numbers of blocks, terms and bytes
abbrev pub sums_over : List (List ℕ) → Sums
sums_over blocks =
    record {
      lines = length blocks;
      terms = size (map terms_in blocks);
      bytes = size (map length blocks);
    }

-- the sums after one more block, given by its text
abbrev pub sums_with : Sums → List ℕ → Sums
sums_with s block =
    record { lines = s.lines + 1; terms = s.terms + terms_in block; bytes = s.bytes + length block }

-- the numbers of terms and of bytes are at most 2^64 times the number of blocks, so that they fit in 128 bits
pub record AreSmall (s : Sums) : Type 0 where
  pub terms : s.terms ≤ s.lines * 2 ^ 64
  pub bytes : s.bytes ≤ s.lines * 2 ^ 64

-- the text of the sums: a line for each of the three numbers
abbrev pub sums_text : Sums → List ℕ
sums_text s =
    codes "lines "
    ++ (decimal s.lines
    ++ (codes "\nterms " ++ (decimal s.terms
    ++ (codes "\nbytes " ++ (decimal s.bytes ++ codes "\n")))))
