use Rattle.std.proofs.Common.{◌++◌, ◌∷◌, [], ap, sym, ◌∙◌}
use Rattle.std.proofs.lemmas.List.{map-append}
use Rattle.sparse_polys.specs.Combination.{terms_of}
use Rattle.block_reader.specs.Fitting.{terms_found}
use Rattle.block_reader.proofs.lines.push_found.Goals as goal

pub returns : goal.returns
returns g c =
    let value = g.R.Scalar.value in
    let old = c.args.pairs.now.items in
    ap (terms_of value) c.in_ok-push.ensures.items
    ∙ map-append (λ (p : g.row.L.Denot × g.row.R.Denot). (p.0, value p.1)) old (c.in-Some.pair ∷ [])
    ∙ ap (λ f. terms_of value old ++ terms_found value f) (sym c.in-Some.is)
