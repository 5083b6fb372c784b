use Rattle.std.proofs.Common.{◌≡◌, ◌++◌, length}
use Rattle.sparse_polys.specs.Combination.{terms_of}
use Rattle.sym_model.specs.PrintedBlock.{terms_of as block_terms}
use Rattle.block_reader.proofs.lines.read_pairs.Given as goal

-- the terms that were read so far, followed by those of the rest of the text, are the terms of the text
abbrev pub invariant-loop-pairs : goal.invariant-loop-pairs
invariant-loop-pairs g l =
    block_terms g.L.Spelled.line_rules l.text ≡ terms_of g.R.Scalar.value l.pairs.items ++ block_terms g.L.Spelled.line_rules l.rest

abbrev pub decreases-loop-pairs : goal.decreases-loop-pairs
decreases-loop-pairs g l = length l.rest
