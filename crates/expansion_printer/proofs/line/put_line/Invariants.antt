use Rattle.std.proofs.Common.{◌≡◌, ◌++◌, map, List, ℕ}
use Rattle.std.specs.List.{All}
use Rattle.expansion_printer.specs.Gathering.{Gathers}
use Rattle.expression_reading.specs.Trees.{basis_of}
use Rattle.sparse_polys.specs.Combination.{terms_of}
use Rattle.expansion_printer.specs.SignedTerms.{signed_terms, is_empty}
use Rattle.expansion_printer.proofs.line.put_line.Given as goal

-- unless a write failed, the texts of the terms visited so far have been written to the sink, except for a last part, which is in the buffer
abbrev pub invariant-loop-label : goal.invariant-loop-label
invariant-loop-label g l = record {
  goes : Gathers l.fn.text (g.K.Sink.seen l.fn.sink) l.text (g.K.Sink.seen l.sink)
      (signed_terms (basis_of l.basis)
      (terms_of g.R.Scalar.value (map (λ item. item.now) l.yielded)));
  first : l.is_first
      ≡ is_empty (terms_of g.R.Scalar.value (map (λ item. item.now) l.yielded));
  held : All (λ (t : List ℕ × g.row.R.Denot). g.R.Scalar.is_held t.1)
      (map (λ item. item.now) l.yielded);
  so_far : map (λ item. item.now) l.yielded ++ l.label-iterator.rest.now
      ≡ l.initial.label-iterator.rest.now;
}
