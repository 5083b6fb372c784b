use Rattle.std.proofs.Common.{◌+◌, true, false, not, eqb-true, [], ◌∷◌, get_or, sym, ap, ◌∙◌, arith}
use Rattle.std.specs.List.{swap}
use Rattle.sym_model.specs.PlaceOrders.{inversions}
use Rattle.sym_model.specs.Permutation.{kept}
use Rattle.perm_codes.proofs.InversionCounts.{few_inversions}
use Rattle.perm_codes.proofs.OneSwap.{rising_test, falling_test}
use Rattle.monk_product.proofs.ShortPerms.{short_of, swapped, cover_is}
use Rattle.monk_product.proofs.short_perm.ShortPerm.cover.Goals as goal
use Rattle.monk_product.proofs.short_perm.ShortPerm.cover.Goals.{else-low-high-via-then-low-high+else-not-has_between, else-low-high-via-else-low-high}
use Rattle.std.proofs.lemmas.Bool.{le-ltb}

pub overflow_add-result : goal.overflow_add-result
overflow_add-result c =
    let few = few_inversions c.self.inside.letters (short_of _ _ c.self.invariant).few in
    let count = c.self.invariant.count_is in
    omega arith

pub invariant_of-result : goal.invariant_of-result
invariant_of-result c =
    let l = c.self.invariant.long in
    swapped c.self.inside.letters c.swap.new.self c.self.inside.inversions c.args.first
    c.args.second c.self.invariant c.swap.ensures.after c.swap.ensures.len c.requires.order
    c.requires.inside
    (eqb-true (inversions (swap c.self.inside.letters c.args.first c.args.second))
    (inversions c.self.inside.letters + 1) (sym (ap not c.has_between.ensures
    ∙ rising_test c.args.first c.args.second c.self.inside.letters c.requires.order (omega arith)
    c.self.invariant.one_line.once c.if-low-high.true) ∙ ap not c.if-not-has_between.true))

pub returns-then-not-has_between : goal.returns-then-not-has_between
returns-then-not-has_between c =
    let l = c.self.invariant.long in
    ap (λ v. kept v ∷ []) c.swap.ensures.after
    ∙ sym (cover_is c.self.inside.letters c.args.self.now c.self.inside.inversions c.args.first
    c.args.second true c.self.view_is c.self.invariant c.requires.order c.requires.inside
    (sym (ap not c.has_between.ensures
    ∙ rising_test c.args.first c.args.second c.self.inside.letters c.requires.order (omega arith)
    c.self.invariant.one_line.once c.if-low-high.true) ∙ ap not c.if-not-has_between.true))

pub returns-else-low-high : goal.returns-else-low-high
returns-else-low-high c =
    let l = c.self.invariant.long in
    elim c.else-low-high.branch [
      | else-low-high-via-then-low-high+else-not-has_between w ↦
          sym (cover_is c.self.inside.letters c.args.self.now c.self.inside.inversions c.args.first
          c.args.second false c.self.view_is c.self.invariant c.requires.order c.requires.inside
          (sym (rising_test c.args.first c.args.second c.self.inside.letters c.requires.order
          (omega arith) c.self.invariant.one_line.once w.if-low-high.true)
          ∙ sym (ap not w.has_between.ensures) ∙ ap not w.if-not-has_between.false))
      | else-low-high-via-else-low-high w ↦
          sym (cover_is c.self.inside.letters c.args.self.now c.self.inside.inversions c.args.first
          c.args.second false c.self.view_is c.self.invariant c.requires.order c.requires.inside
          (sym (falling_test c.args.first c.args.second c.self.inside.letters c.requires.order
          (omega arith) c.self.invariant.one_line.once w.if-low-high.false)
          ∙ le-ltb (get_or c.self.inside.letters c.args.first 0) (get_or c.self.inside.letters c.args.second 0) w.if-low-high.false))
    ]
