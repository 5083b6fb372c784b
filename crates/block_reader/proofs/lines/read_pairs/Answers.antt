use Rattle.std.proofs.Common.{◌≡◌, ◌<◌, ℕ, List, length, ap, sym, ◌∙◌, subst, rules, tests}
use Rattle.std.specs.Prelude.{Err}
use Rattle.std.proofs.lemmas.Result.{err_from_is_err_and}
use Rattle.sym_model.specs.Kind.{after_one}
use Rattle.sym_model.specs.NumberText.{cut_at}
use Rattle.sparse_polys.specs.Combination.{terms_of}
use Rattle.block_reader.specs.declared.fault.ReadBackFault.TheVariants.{NotPrinted}
use Rattle.block_reader.specs.Fitting.{terms_found}
use Rattle.block_reader.proofs.Cuts.{after_one-cut}
use Rattle.block_reader.proofs.LineSteps.{lines-refused, lines-last, lines-more}
use Rattle.block_reader.proofs.lines.read_pairs.Goals as goal

pub returns-in_err-found-clause-refused : goal.returns-in_err-found-clause-refused
returns-in_err-found-clause-refused g c =
    let p = err_from_is_err_and c.from_residual.result c.from_residual.ensures.1 in
    rw (p.1, p.2) (λ e. let same : c.in_err-found.field-0.0 ≡ NotPrinted = cc in
    lines-refused g.L.Spelled.line_rules g.R.Coefficient.has_fractions g.L.Label.is_label
    c.args.text.now c.loop-pairs.rest.now c.cut.result.0.now c.cut.result.1.now
    (terms_of g.R.Scalar.value c.loop-pairs.pairs.items) c.loop-pairs.invariant c.cut.ensures.front
    c.cut.ensures.back (c.in_err-found.ensures.refused (ap Err same)))

pub returns-then-is_empty-clause-ok : goal.returns-then-is_empty-clause-ok
returns-then-is_empty-clause-ok g c =
    let none : length c.cut.result.1.now ≡ 0 = search (rules, tests) in
    lines-last g.L.Spelled.line_rules g.R.Coefficient.has_fractions g.L.Label.is_label
    c.args.text.now c.loop-pairs.rest.now c.cut.result.0.now c.cut.result.1.now
    (terms_of g.R.Scalar.value c.loop-pairs.pairs.items) c.loop-pairs.invariant c.cut.ensures.front
    c.cut.ensures.back
    (terms_found g.R.Scalar.value c.in_ok-found.found)
    (terms_of g.R.Scalar.value c.push_found.new.pairs.items) none c.in_ok-found.ensures.ok
    c.in_ok-push_found.ensures

pub loop-pairs-smaller : goal.loop-pairs-smaller
loop-pairs-smaller g c =
    let some : 0 < length c.cut.result.1.now = search (rules, tests) in
    let rest = c.loop-pairs.rest.now in
    let more : 0 < length (cut_at 10 rest).1 = subst (λ (t : List ℕ). 0 < length t)
    c.cut.ensures.back some in
    subst (λ (t : List ℕ). length t < length rest)
    (sym (c.after_first-rest.ensures ∙ ap after_one c.cut.ensures.back))
    (after_one-cut 10 rest more)

pub loop-pairs-preserved : goal.loop-pairs-preserved
loop-pairs-preserved g c =
    let some : 0 < length c.cut.result.1.now = search (rules, tests) in
    lines-more g.L.Spelled.line_rules g.R.Coefficient.has_fractions g.L.Label.is_label
    c.args.text.now c.loop-pairs.rest.now c.cut.result.0.now c.cut.result.1.now
    (terms_of g.R.Scalar.value c.loop-pairs.pairs.items) c.loop-pairs.invariant c.cut.ensures.front
    c.cut.ensures.back
    (terms_found g.R.Scalar.value c.in_ok-found.found)
    (terms_of g.R.Scalar.value c.push_found.new.pairs.items) c.after_first-rest.result.now some
    c.after_first-rest.ensures c.in_ok-found.ensures.ok c.in_ok-push_found.ensures
