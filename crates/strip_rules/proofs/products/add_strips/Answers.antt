use Rattle.std.proofs.Common.{◌≤◌, sym, subst}
use Rattle.sym_model.specs.Strip.{height}
use Rattle.strip_rules.proofs.ShapeLists.{hook_list, hook_around, height_positive, shape_limits}
use Rattle.strip_rules.proofs.TermProducts.{horizontal_product, vertical_product, hooks_product}
use Rattle.strip_rules.proofs.products.add_strips.Goals as goal
use Rattle.std.proofs.lemmas.Result.{on_ok_weaker}

pub add_signed_shapes-requires-clause-limits : goal.add_signed_shapes-requires-clause-limits
add_signed_shapes-requires-clause-limits g c ν m =
    let k = c.args.k in
    let label = c.args.label.now in
    let each = hook_list k label _ c.in_ok-hooks-in-PowerSum.ensures.hooks in
    shape_limits k label ν c.requires.partition c.requires.cells c.requires.rows
    (hook_around k label _ each ν m)

pub add_signed_shapes-requires-clause-heights : goal.add_signed_shapes-requires-clause-heights
add_signed_shapes-requires-clause-heights g c ν m =
    let k = c.args.k in
    let label = c.args.label.now in
    subst (λ b. 1 ≤ height ν b) (sym c.in_ok-hooks-in-PowerSum.ensures.base)
    (height_positive k label _ c.requires.partition
    (hook_list k label _ c.in_ok-hooks-in-PowerSum.ensures.hooks) ν m)

pub returns-in_ok-with_vertical_strip-in-Elementary-clause-ok
    : goal.returns-in_ok-with_vertical_strip-in-Elementary-clause-ok
returns-in_ok-with_vertical_strip-in-Elementary-clause-ok g c =
    let strips = vertical_product c.args.k c.args.label.now _ c.requires.partition
    c.in_ok-with_vertical_strip-in-Elementary.ensures in
    rw c.in-Elementary.is (on_ok_weaker c.add_shapes.result (λ adds.
    (_, strips, adds)) c.add_shapes.ensures.ok)

pub returns-in_ok-with_vertical_strip-in-Elementary-clause-large
    : goal.returns-in_ok-with_vertical_strip-in-Elementary-clause-large
returns-in_ok-with_vertical_strip-in-Elementary-clause-large g c err =
    let strips = vertical_product c.args.k c.args.label.now _ c.requires.partition
    c.in_ok-with_vertical_strip-in-Elementary.ensures in
    rw c.in-Elementary.is (_, strips, c.add_shapes.ensures.large err)

pub returns-in_ok-with_horizontal_strip-in-Complete-clause-ok
    : goal.returns-in_ok-with_horizontal_strip-in-Complete-clause-ok
returns-in_ok-with_horizontal_strip-in-Complete-clause-ok g c =
    let strips = horizontal_product c.args.k c.args.label.now _ c.requires.partition
    c.in_ok-with_horizontal_strip-in-Complete.ensures in
    rw c.in-Complete.is (on_ok_weaker c.add_shapes-in-Complete.result (λ adds. (_, strips, adds)) c.add_shapes-in-Complete.ensures.ok)

pub returns-in_ok-with_horizontal_strip-in-Complete-clause-large
    : goal.returns-in_ok-with_horizontal_strip-in-Complete-clause-large
returns-in_ok-with_horizontal_strip-in-Complete-clause-large g c err =
    let strips = horizontal_product c.args.k c.args.label.now _ c.requires.partition
    c.in_ok-with_horizontal_strip-in-Complete.ensures in
    rw c.in-Complete.is (_, strips, c.add_shapes-in-Complete.ensures.large err)

pub returns-in_ok-hooks-in-PowerSum-clause-ok : goal.returns-in_ok-hooks-in-PowerSum-clause-ok
returns-in_ok-hooks-in-PowerSum-clause-ok g c =
    let hooks = c.in_ok-hooks-in-PowerSum.ensures in
    let made = hooks_product c.args.k c.args.label.now _ _ (c.requires.positive c.in-PowerSum.is)
    c.requires.partition hooks.base hooks.hooks in
    rw c.in-PowerSum.is (on_ok_weaker c.add_signed_shapes.result (λ adds.
    (_, made, adds)) c.add_signed_shapes.ensures.ok)

pub returns-in_ok-hooks-in-PowerSum-clause-large : goal.returns-in_ok-hooks-in-PowerSum-clause-large
returns-in_ok-hooks-in-PowerSum-clause-large g c err =
    let hooks = c.in_ok-hooks-in-PowerSum.ensures in
    let made = hooks_product c.args.k c.args.label.now _ _ (c.requires.positive c.in-PowerSum.is)
    c.requires.partition hooks.base hooks.hooks in
    rw c.in-PowerSum.is (_, made, c.add_signed_shapes.ensures.large err)
