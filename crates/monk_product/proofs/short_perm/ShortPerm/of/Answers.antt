use Rattle.std.proofs.Common.{ap, ◌∙◌}
use Rattle.sym_model.specs.Permutation.{kept}
use Rattle.perm_codes.proofs.WithinLimits.{kept_fixed}
use Rattle.monk_product.proofs.ShortPerms.{filled_of, spread}
use Rattle.monk_product.proofs.short_perm.ShortPerm.of.Goals as goal

pub invariant_of-result : goal.invariant_of-result
invariant_of-result c =
    filled_of c.args.w.now _ c.inversions.result
    (spread c.args.w.now c.copy_from_slice.new.self c.letters-own.result.now
    c.letters-own.ensures.value c.copy_from_slice.ensures.after)
    c.inversions.ensures.limits c.requires c.inversions.ensures.value

pub returns : goal.returns
returns c =
    ap kept (spread c.args.w.now c.copy_from_slice.new.self c.letters-own.result.now
    c.letters-own.ensures.value c.copy_from_slice.ensures.after)
    ∙ kept_fixed 32 c.args.w.now c.inversions.ensures.limits
