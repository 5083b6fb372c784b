use Rattle.std.proofs.Common.{ap₂, ◌∙◌}
use Rattle.std.specs.Prelude.{nat_eq}
use Rattle.std.specs.Cmp.Lexicographic.{pointwise}
use Rattle.monk_product.proofs.ShortPerms.{same_test}
use Rattle.monk_product.proofs.short_perm.ShortPermPartialEq.eq.Goals as goal

pub returns : goal.returns
returns c =
    c.eq.ensures
    ∙ same_test c.self.inside.letters c.other.inside.letters c.self.invariant.long
    c.other.invariant.long
    ∙ ap₂ (pointwise nat_eq) c.self.view_is c.other.view_is
