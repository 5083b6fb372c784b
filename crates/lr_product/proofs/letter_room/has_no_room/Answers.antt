use Rattle.std.proofs.Common.{◌≡◌, true, ◌∙◌, rules}
use Rattle.schur_laws.proofs.ProductCounts.{product_exchanged, product_outside}
use Rattle.strip_laws.proofs.Containment.{contains-from}
use Rattle.lr_product.proofs.GoodCounts.{contains-false, product_count-other_size}
use Rattle.lr_product.proofs.NoRoom.{no_room, no_room_exchanged, overfull_tells}
use Rattle.lr_product.proofs.letter_room.has_no_room.Goals as goal

pub returns-then-size-clause-none : goal.returns-then-size-clause-none
returns-then-size-clause-none c = search (rules, product_count-other_size)

pub returns-then-not-contains-clause-none : goal.returns-then-not-contains-clause-none
returns-then-not-contains-clause-none c = λ yes.
    product_outside c.args.inner.now c.args.content.now c.args.outer.now
    c.size.ensures.limits.partition c.size-2.ensures.limits.partition
    c.size-3.ensures.limits.partition
    (contains-false c.args.outer.now c.args.inner.now (λ h. let there : c.contains.result ≡ true =
    c.contains.ensures.1 h in absurd (cc)))

pub returns-then-not-contains-2-clause-none : goal.returns-then-not-contains-2-clause-none
returns-then-not-contains-2-clause-none c = λ yes.
    product_exchanged c.args.inner.now c.args.content.now c.args.outer.now
    c.size.ensures.limits.partition c.size-2.ensures.limits.partition
    c.size-3.ensures.limits.partition
    ∙ product_outside c.args.content.now c.args.inner.now c.args.outer.now
    c.size-2.ensures.limits.partition c.size.ensures.limits.partition
    c.size-3.ensures.limits.partition
    (contains-false c.args.outer.now c.args.content.now (λ h. let there : c.contains-2.result ≡ true =
    c.contains-2.ensures.1 h in absurd (cc)))

pub returns-then-is_overfull-clause-none : goal.returns-then-is_overfull-clause-none
returns-then-is_overfull-clause-none c = search (rules, no_room, contains-from, overfull_tells)

pub returns-clause-none : goal.returns-clause-none
returns-clause-none c = search (rules, no_room_exchanged, contains-from, overfull_tells)

pub returns-clause-may : goal.returns-clause-may
returns-clause-may c = search (rules, contains-from, overfull_tells)
