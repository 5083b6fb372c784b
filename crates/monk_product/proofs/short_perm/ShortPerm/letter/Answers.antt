use Rattle.std.proofs.Common.{slice_index, ap}
use Rattle.monk_product.proofs.ShortPerms.{as_stored}
use Rattle.monk_product.proofs.short_perm.ShortPerm.letter.Goals as goal

pub returns : goal.returns
returns c =
    ap (λ u. slice_index u c.args.place)
    (as_stored c.self.inside.letters c.args.self.now c.self.view_is c.self.invariant.long)
