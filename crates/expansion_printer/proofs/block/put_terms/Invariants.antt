use Rattle.std.proofs.Common.{◌≡◌, ◌++◌, map}
use Rattle.std.specs.List.{All}
use Rattle.expansion_printer.specs.Gathering.{Gathers}
use Rattle.sym_model.specs.PrintedBlock.{lines_by}
use Rattle.sparse_polys.specs.Combination.{terms_of}
use Rattle.expansion_printer.proofs.block.put_terms.Given as goal

-- unless a write failed, the lines of the terms visited so far have been written to the sink, except for a last part, which is in the buffer
abbrev pub invariant-loop-label : goal.invariant-loop-label
invariant-loop-label g l = record {
  goes : Gathers l.fn.text (g.K.Sink.seen l.fn.sink) l.text (g.K.Sink.seen l.sink)
      (lines_by g.L.Named.line_rules
      (terms_of g.R.Scalar.value (map (λ item. item.now) l.yielded)));
  held : All (λ (t : g.row.L.Denot × g.row.R.Denot). g.R.Scalar.is_held t.1)
      (map (λ item. item.now) l.yielded);
  so_far : map (λ item. item.now) l.yielded ++ l.label-iterator.rest.now
      ≡ l.initial.label-iterator.rest.now;
}
