use Rattle.std.proofs.Common.{◌+◌, ◌<◌, ◌^◌, sym, subst}
use Rattle.sym_model.specs.Partition.{size}
use Rattle.plain_programs.proofs.PlainDegrees.{among-item}
use Rattle.plain_programs.proofs.bases.times.Goals as goal

pub append_products-requires : goal.append_products-requires
append_products-requires c β m =
    subst (λ α. size α + size β < 2 ^ 64) (sym c.deref.ensures.value)
    (c.requires _ β (among-item c.args.first.now _ _ c.loop-exponents-test.true
    c.exponents-item.is) m)
