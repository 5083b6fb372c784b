use Rattle.std.proofs.Common.{◌≡◌, ◌&&◌, true, ap, sym, ◌∙◌, subst}
use Rattle.std.proofs.lemmas.Bool.{and_parts, and_from, false_from_ne_true as not_true}
use Rattle.sym_model.specs.Canonical.{is_ordered, is_reduced, each_term}
use Rattle.sym_model.specs.Expansion.{Fraction, Terms}
use Rattle.sym_model.specs.PrintedBlock.{terms_of as block_terms}
use Rattle.sparse_polys.specs.Combination.{terms_of, is_canonical_list}
use Rattle.sparse_polys.proofs.Tables.{canonical-fractions}
use Rattle.sparse_polys.proofs.ValueLists.{canonical_values}
use Rattle.block_reader.specs.Fitting.{all_fit}
use Rattle.block_reader.proofs.FittingTerms.{fit-terms}
use Rattle.block_reader.proofs.lines.read_terms.Goals as goal

pub returns-in-Some-clause-ok : goal.returns-in-Some-clause-ok
returns-in-Some-clause-ok g c =
    ap (terms_of g.R.Scalar.value) c.in-Some.ensures.1 ∙ c.in_ok-pairs.ensures.ok

pub returns-in-None-clause-refused : goal.returns-in-None-clause-refused
returns-in-None-clause-refused g c =
    let value = g.R.Scalar.value in
    let order = g.L.Label.order in
    let is_label = g.L.Label.is_label in
    let has_fractions = g.R.Coefficient.has_fractions in
    let terms = block_terms g.L.Spelled.line_rules c.args.text.now in
    λ e. not_true (is_ordered order terms && all_fit has_fractions is_label terms) (λ h.
    let p = and_parts (is_ordered order terms) (all_fit has_fractions is_label terms) h in
    let canonical : is_canonical_list order is_label terms ≡ true =
    canonical-fractions is_label order terms
    ∙ and_from (is_ordered order terms)
    (each_term (λ (t : g.row.L.Denot × Fraction). is_reduced t.1 && is_label t.0) terms) p.0
    (fit-terms has_fractions is_label terms p.1) in
    c.in-None.ensures (sym (canonical_values value order is_label c.in_ok-pairs.pairs.items)
    ∙ subst (λ (ts : Terms g.row.L.Denot). is_canonical_list order is_label ts ≡ true)
    (sym c.in_ok-pairs.ensures.ok) canonical))
