use Rattle.std.proofs.Common.{sym, ap, ◌∙◌}
use Rattle.sym_model.specs.Permutation.{with_fixed}
use Rattle.monk_product.proofs.ShortPerms.{filled}
use Rattle.monk_product.proofs.short_perm.ShortPermHash.hash.Goals as goal

pub returns : goal.returns
returns g c =
    c.write.ensures
    ∙ ap (λ l. g.H.Hasher.write c.args.state.now l)
    (sym (ap (with_fixed 32) (sym c.self.view_is)
    ∙ filled c.self.inside.letters c.self.invariant.long))
