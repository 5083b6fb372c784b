use Rattle.std.proofs.Common.{ap₂, ◌+◌, ◌∙◌}
use Rattle.lattice_rows.proofs.ListedProducts.{rule_lists}
use Rattle.lattice_rows.proofs.RuleTerms.{rule_terms, some_of}
use Rattle.lattice_rows.proofs.product_lister.ProductLister.new.Goals as goal

pub invariant_of-result : goal.invariant_of-result
invariant_of-result c =
    (rule_terms _ _ _ _ _ _ _ _ _ _ (some_of _ _ _ c.in-Some.is c.in_ok-rule.ensures)
    (ap₂ ◌+◌ (c.from.ensures ∙ c.rows.ensures.value) (c.from-2.ensures ∙ c.rows-2.ensures.value))
    c.requires.lengths c.requires.sizes c.start-start.ensures.ways c.in_ok-walk.ensures.rest).limited

pub returns-clause-lists : goal.returns-clause-lists
returns-clause-lists c =
    rule_lists _ _ _ _ _ _ _ _ _ _ (some_of _ _ _ c.in-Some.is c.in_ok-rule.ensures)
    (ap₂ ◌+◌ (c.from.ensures ∙ c.rows.ensures.value) (c.from-2.ensures ∙ c.rows-2.ensures.value))
    c.requires.lengths c.requires.sizes c.start-start.ensures.ways c.in_ok-walk.ensures.rest
