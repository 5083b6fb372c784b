use Rattle.std.proofs.Common.{◌≡◌, ◌++◌, map, drop}
use Rattle.std.specs.String.{string_bytes}
use Rattle.plain_programs.specs.PlainTerm.{term_of}
use Rattle.sym_model.specs.PrintedBlock.{lines_text, block}
use Rattle.plain_programs.proofs.blocks.plain_block.Given as goal

abbrev pub invariant-loop-term : goal.invariant-loop-term
invariant-loop-term l =
    string_bytes l.text ++ lines_text (map term_of (drop l.term-index l.terms)) ≡ block (map term_of l.terms)
