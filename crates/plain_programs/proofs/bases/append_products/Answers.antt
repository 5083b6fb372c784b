use Rattle.std.proofs.Common.{◌+◌, ◌<◌, ◌^◌, sym, subst}
use Rattle.sym_model.specs.Partition.{size}
use Rattle.plain_programs.proofs.PlainDegrees.{among-item}
use Rattle.plain_programs.proofs.bases.append_products.Goals as goal

pub plain_join-requires : goal.plain_join-requires
plain_join-requires c =
    subst (λ β. size c.args.first.now + size β < 2 ^ 64) (sym c.deref.ensures.value)
    (c.requires _ (among-item c.args.second.now _ _ c.loop-exponents-test.true
    c.exponents-item.is))
