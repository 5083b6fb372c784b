use Rattle.std.proofs.Common.{[], pos, subst, refl, sym, arith}
use Rattle.fraction_laws.specs.Fractions.{whole}
use Rattle.linear_combinations.specs.Entries.{HasSameCoefficients}
use Rattle.linear_combinations.proofs.Steps.{IsCombination-empty}
use Rattle.linear_combinations.proofs.Totals.{length_same}
use Rattle.rim_hooks.proofs.steps.no_terms.Goals as goal
use Rattle.std.proofs.lemmas.List.{nil_from_length}

pub returns-clause-none : goal.returns-clause-none
returns-clause-none g c =
    let eq = g.L.PartialEq.eq in
    let same = subst (λ old. HasSameCoefficients eq (pos 0) old c.in_ok-sorted_terms.field-0)
    c.new-terms.ensures c.in_ok-sorted_terms.ensures.same in
    nil_from_length c.in_ok-sorted_terms.field-0 (let few = (length_same g.met.L.Eq.laws g.met.L.Label.same_label (pos 0) whole refl
    c.in_ok-sorted_terms.field-0 [] c.in_ok-sorted_terms.ensures.combination
    (IsCombination-empty eq g.L.Label.is_label whole) (λ label. sym (same label))) in omega arith)
