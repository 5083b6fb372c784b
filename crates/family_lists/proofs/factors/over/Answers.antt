use Rattle.family_lists.proofs.FactorSteps.{factorial-below}
use Rattle.family_lists.proofs.factors.over.Goals as goal

pub signed-requires : goal.signed-requires
signed-requires c =
    factorial-below c.factorial.result c.args.k c.factorial.ensures c.requires

pub signed-requires-in-Complete : goal.signed-requires-in-Complete
signed-requires-in-Complete c =
    factorial-below c.factorial-in-Complete.result c.args.k c.factorial-in-Complete.ensures
    c.requires
