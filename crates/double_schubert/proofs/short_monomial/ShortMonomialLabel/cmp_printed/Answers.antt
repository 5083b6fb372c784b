use Rattle.std.proofs.Common.{refl, ap₂, sym, ◌∙◌}
use Rattle.std.specs.Ordering.{nat_cmp}
use Rattle.std.specs.Cmp.Lexicographic.{slice_cmp}
use Rattle.linear_combinations.proofs.Labels.{falling_lists_equal}
use Rattle.double_schubert.proofs.short_monomial.ShortMonomialLabel.cmp_printed.Goals as goal

pub returns-clause-equal : goal.returns-clause-equal
returns-clause-equal c =
    λ equal. falling_lists_equal c.args.self.now c.args.other.now refl refl
    (sym (c.cmp.ensures ∙ ap₂ (slice_cmp nat_cmp) (c.as_slice.ensures ∙ c.other.view_is)
    (c.as_slice-2.ensures ∙ c.self.view_is)) ∙ equal)
