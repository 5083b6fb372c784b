use Rattle.std.proofs.Common.{Err, ap, ap₂, ◌+◌, ◌∙◌}
use Rattle.linear_combinations.proofs.Steps.{error_is}
use Rattle.lattice_rows.proofs.RuleTerms.{rule_terms, some_of, shown_if}
use Rattle.lattice_rows.proofs.product_terms.product.Goals as goal

pub pairs_of-requires : goal.pairs_of-requires
pairs_of-requires c = record {
  limits = (rule_terms _ _ _ _ _ _ _ _ _ _ (some_of _ _ _ c.in-Some.is c.in_ok-rule.ensures)
      (ap₂ ◌+◌ (c.from.ensures ∙ c.rows.ensures.value) (c.from-2.ensures ∙ c.rows-2.ensures.value))
      c.requires.lengths c.requires.sizes c.start-start.ensures.ways c.in_ok-walk.ensures.rest).limited;
}

pub returns-in_err-pairs-clause-large : goal.returns-in_err-pairs-clause-large
returns-in_err-pairs-clause-large c = λ e.
    (rule_terms _ _ _ _ _ _ _ _ _ _ (some_of _ _ _ c.in-Some.is c.in_ok-rule.ensures)
    (ap₂ ◌+◌ (c.from.ensures ∙ c.rows.ensures.value) (c.from-2.ensures ∙ c.rows-2.ensures.value))
    c.requires.lengths c.requires.sizes c.start-start.ensures.ways c.in_ok-walk.ensures.rest).past
    (c.in_err-pairs.ensures.large
    (ap Err (error_is _ _ _ c.from_residual-in_err-pairs.ensures.1 e)))

pub returns-clause-counts : goal.returns-clause-counts
returns-clause-counts c =
    shown_if c.from_pairs.result _ _ _ c.from_pairs.ensures (λ canonical terms same.
    (rule_terms _ _ _ _ _ _ _ _ _ _ (some_of _ _ _ c.in-Some.is c.in_ok-rule.ensures)
    (ap₂ ◌+◌ (c.from.ensures ∙ c.rows.ensures.value) (c.from-2.ensures ∙ c.rows-2.ensures.value))
    c.requires.lengths c.requires.sizes c.start-start.ensures.ways c.in_ok-walk.ensures.rest).counts
    c.in_ok-pairs.ensures.small _ terms c.in_ok-pairs.ensures.pairs canonical same)

pub returns-clause-fits : goal.returns-clause-fits
returns-clause-fits c =
    shown_if c.from_pairs.result _ _ _ c.from_pairs.ensures (λ canonical terms same.
    (rule_terms _ _ _ _ _ _ _ _ _ _ (some_of _ _ _ c.in-Some.is c.in_ok-rule.ensures)
    (ap₂ ◌+◌ (c.from.ensures ∙ c.rows.ensures.value) (c.from-2.ensures ∙ c.rows-2.ensures.value))
    c.requires.lengths c.requires.sizes c.start-start.ensures.ways c.in_ok-walk.ensures.rest).fits
    c.in_ok-pairs.ensures.small)
