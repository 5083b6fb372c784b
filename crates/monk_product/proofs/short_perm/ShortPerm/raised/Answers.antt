use Rattle.std.proofs.Common.{◌+◌, eqb-true, eq-eqb, sym, ap, ◌∙◌, arith}
use Rattle.std.specs.List.{swap}
use Rattle.sym_model.specs.PlaceOrders.{inversions}
use Rattle.sym_model.specs.Permutation.{kept}
use Rattle.perm_codes.proofs.InversionCounts.{few_inversions}
use Rattle.monk_product.proofs.ShortPerms.{short_of, swapped, exchanged_kept, exchange_test}
use Rattle.monk_product.proofs.short_perm.ShortPerm.raised.Goals as goal

pub overflow_add-result : goal.overflow_add-result
overflow_add-result c =
    let few = few_inversions c.self.inside.letters (short_of _ _ c.self.invariant).few in
    let count = c.self.invariant.count_is in
    omega arith

pub invariant_of-result : goal.invariant_of-result
invariant_of-result c =
    swapped c.self.inside.letters c.swap.new.self c.self.inside.inversions c.args.first
    c.args.second c.self.invariant c.swap.ensures.after c.swap.ensures.len c.requires.order
    c.requires.inside
    (eqb-true (inversions (swap c.self.inside.letters c.args.first c.args.second))
    (inversions c.self.inside.letters + 1)
    (sym (exchange_test c.self.inside.letters c.args.self.now c.self.inside.inversions
    c.args.first c.args.second c.self.view_is c.self.invariant c.requires.order c.requires.inside)
    ∙ eq-eqb _ _ c.requires.one))

pub returns : goal.returns
returns c =
    let l = c.self.invariant.long in
    ap kept c.swap.ensures.after
    ∙ sym (exchanged_kept c.self.inside.letters c.args.self.now c.args.first c.args.second
    c.self.view_is c.requires.order (omega arith))
