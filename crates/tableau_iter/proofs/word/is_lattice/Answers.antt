use Rattle.std.proofs.Common.{◌+◌, ◌-◌, replicate, get_or, set, sym, ap}
use Rattle.std.proofs.Common.{◌∙◌, refl, arith}
use Rattle.std.proofs.lemmas.List.{get_or_read}
use Rattle.tableau_iter.proofs.Letters.{refused, next_letter}
use Rattle.tableau_iter.proofs.word.is_lattice.Goals as goal
use Rattle.sym_model.proofs.Contents.{content-none}

pub loop-place-init : goal.loop-place-init
loop-place-init c = record {
  counted = c.in_ok-counts.ensures.items_if_clones_equal (λ y e. e) ∙ ap (λ n. replicate n 0)
      c.from.ensures ∙ sym (content-none c.args.letters);
  allowed = refl;
}

pub returns-then-not-may_follow : goal.returns-then-not-may_follow
returns-then-not-may_follow c =
    refused c.args.letters c.args.word.now c.loop-place.counts.items c.deref.result.now
    c.loop-place.place c.loop-place-test.true c.deref.ensures.value
    c.loop-place.invariant.counted (sym c.may_follow.ensures ∙ c.if-not-may_follow.true)

pub overflow_add-index_mut : goal.overflow_add-index_mut
overflow_add-index_mut c =
    let next =
    next_letter c.args.letters c.args.word.now c.loop-place.counts.items c.deref.result.now
    c.loop-place.place c.loop-place-test.true c.deref.ensures.value
    c.loop-place.invariant.counted c.loop-place.invariant.allowed (sym c.may_follow.ensures
    ∙ c.if-not-may_follow.false) in
    let counts = c.loop-place.counts.items in
    let here = get_or_read counts (c.from-in-loop-place.result - 1) c.index_mut.result.now
    (omega (arith, next.place, c.from-in-loop-place.ensures)) c.index_mut.ensures.value 0 in
    omega (
      arith,
      next.few,
      here,
      c.requires,
      ap (λ n. get_or c.loop-place.counts.items (n - 1) 0)
          c.from-in-loop-place.ensures,
    )

pub loop-place-preserved : goal.loop-place-preserved
loop-place-preserved c =
    let next =
    next_letter c.args.letters c.args.word.now c.loop-place.counts.items c.deref.result.now
    c.loop-place.place c.loop-place-test.true c.deref.ensures.value
    c.loop-place.invariant.counted c.loop-place.invariant.allowed (sym c.may_follow.ensures
    ∙ c.if-not-may_follow.false) in
    record {
      counted =
          ap (λ x. set c.loop-place.counts.items (c.from-in-loop-place.result - 1) (x + 1))
          (get_or_read c.loop-place.counts.items (c.from-in-loop-place.result - 1) c.index_mut.result.now
          (omega (arith, next.place, c.from-in-loop-place.ensures)) c.index_mut.ensures.value 0)
          ∙ ap (λ n. set c.loop-place.counts.items (n - 1) (get_or c.loop-place.counts.items
          (n - 1) 0 + 1)) c.from-in-loop-place.ensures
          ∙ next.counted;
      allowed = next.allowed;
    }
