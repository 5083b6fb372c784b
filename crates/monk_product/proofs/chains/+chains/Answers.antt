use Rattle.std.proofs.Common.{◌+◌, ◌-◌, ◌<◌, ◌≤◌, ◌⊎◌, take, drop, flat_map, inl, inr, sym, ap, ◌∙◌, subst, arith, eqb-true}
use Rattle.std.specs.Prelude.{OnOk}
use Rattle.linear_combinations.specs.Gains.{Gains, each_with}
use Rattle.double_schubert_laws.specs.KeptChains.{kept_chains}
use Rattle.sym_model.specs.Permutation.{with_fixed}
use Rattle.schubert_laws.proofs.IndependentSchuberts.{length-with_fixed}
use Rattle.monk_product.proofs.ChainLists.{ends_to, none_left}
use Rattle.monk_product.proofs.ChainSteps.{adds_place, skips_place, taken, too_great, too_few}
use Rattle.monk_product.proofs.ChainSteps.{all_places, is_cover, low_raised, low_kept, more_added}
use Rattle.monk_product.proofs.ChainSteps.{none_added, all_covers, cover_short, letter_most}
use Rattle.monk_product.proofs.chains.+chains.Goals as goal
use Rattle.monk_product.proofs.chains.+chains.Goals.{add_chains-then-letter-most+then-has_room+in_ok-add_chains_at, add_chains-else-letter-most, add_chains-else-letter-most-via-then-letter-most+else-has_room, add_chains-else-letter-most-via-else-letter-most}
use Rattle.monk_product.proofs.chains.+chains.Goals.{add_chains_at-else-low-other-via-then-low-other+else-other-letter, add_chains_at-else-low-other-via-else-low-other}

pub add_chains-returns-then-d-eq0 : goal.add_chains-returns-then-d-eq0
add_chains-returns-then-d-eq0 t c =
    subst (λ l. OnOk c.add_at_label.result
    (Gains c.args.sum.now (each_with c.args.c l) c.add_at_label.new.self))
    (sym (ap (λ i. kept_chains c.args.most i c.args.k c.args.n c.args.w.now) c.if-d-eq0.true
    ∙ none_left c.args.most c.args.k c.args.n c.args.w.now)) c.add_at_label.ensures.gains

pub add_chains-loop-place-preserved : goal.add_chains-loop-place-preserved
add_chains-loop-place-preserved t c =
    let from = c.loop-place.auto.place in
    let test = c.loop-place-test.true in
    let some = c.if-d-eq0.false in
    let long = length-with_fixed c.args.n c.args.w.now c.requires.short.short in
    let step = skips_place c.args.c
    (ends_to c.args.most (c.args.d - 1) c.args.k c.args.n c.args.w.now) c.args.k
    c.loop-place.place c.args.sum.now c.loop-place.sum (with_fixed c.args.n c.args.w.now)
    (omega arith) (omega arith) c.loop-place.invariant in
    elim c.if-letter-most.branch [
      | add_chains-then-letter-most+then-has_room+in_ok-add_chains_at w ↦
          subst (λ s. Gains c.args.sum.now
          (each_with c.args.c (flat_map (ends_to c.args.most (c.args.d - 1) c.args.k c.args.n
          c.args.w.now) (take (c.loop-place.place + 1 - c.args.k)
          (drop c.args.k (with_fixed c.args.n c.args.w.now))))) s) (sym w.sum-is)
          (adds_place c.args.c
          (ends_to c.args.most (c.args.d - 1) c.args.k c.args.n c.args.w.now) c.args.k
          c.loop-place.place c.args.sum.now c.loop-place.sum
          (with_fixed c.args.n c.args.w.now) (omega arith) (omega arith)
          c.loop-place.invariant _ w.add_chains_at.new.sum
          (taken c.args.n c.args.k c.loop-place.place (c.args.d - 1) c.args.most
          c.letter-letter.result c.args.w.now c.requires.short c.requires.few (omega arith)
          (omega arith) c.letter-letter.ensures (omega (arith, w.if-letter-most.true)))
          w.in_ok-add_chains_at.ensures)
      | add_chains-else-letter-most w ↦
          subst (λ s. Gains c.args.sum.now
          (each_with c.args.c (flat_map (ends_to c.args.most (c.args.d - 1) c.args.k c.args.n
          c.args.w.now) (take (c.loop-place.place + 1 - c.args.k)
          (drop c.args.k (with_fixed c.args.n c.args.w.now))))) s) (sym w.sum-is)
          (step (elim w.else-letter-most.branch [
            | add_chains-else-letter-most-via-then-letter-most+else-has_room v ↦
                let cut = v.has_room.ensures v.if-has_room.false in
                too_few c.args.n c.args.k c.loop-place.place (c.args.d - 1) c.args.most
                c.letter-letter.result c.args.w.now c.requires.short c.requires.few
                (omega arith) (omega arith) c.letter-letter.ensures (omega arith)
            | add_chains-else-letter-most-via-else-letter-most v ↦
                too_great c.args.n c.args.k c.loop-place.place (c.args.d - 1) c.args.most
                c.letter-letter.result c.args.w.now c.requires.short c.requires.few
                (omega arith) (omega arith) c.letter-letter.ensures
                (omega (arith, v.if-letter-most.false))
          ]))
    ]

pub add_chains-returns : goal.add_chains-returns
add_chains-returns t c =
    all_places c.args.c c.args.n c.args.k c.loop-place.place c.args.d c.args.most c.args.w.now
    c.args.sum.now c.loop-place.sum c.requires.short (omega (arith, c.loop-place-test.false))
    (omega (arith, c.if-d-eq0.false)) c.requires.most c.loop-place.invariant

pub add_chains_at-raised-requires-clause-one : goal.add_chains_at-raised-requires-clause-one
add_chains_at-raised-requires-clause-one t c =
    eqb-true _ _ (is_cover c.args.n c.loop-at.at c.args.place c.args.k c.args.left
    c.letter-letter.result c.letter-other.result c.loop-at.low c.args.w.now c.requires.short
    c.requires.few (omega (arith, c.loop-at-test.true)) (omega (arith, c.loop-at.auto.at))
    c.requires.later c.requires.inside c.letter-letter.ensures c.letter-other.ensures
    c.loop-at.invariant.low (omega (arith, c.if-low-other.true))
    (omega (arith, c.if-other-letter.true)))

pub add_chains_at-add_chains-requires : goal.add_chains_at-add_chains-requires
add_chains_at-add_chains-requires t c =
    let some = c.loop-at-test.true in
    let first = c.loop-at.auto.at in
    let later = c.requires.later in
    let inside = c.requires.inside in
    let most = letter_most c.args.n c.args.place c.letter-letter.result c.args.w.now
    c.requires.short c.requires.few c.requires.inside c.letter-letter.ensures in (
      omega arith,
      (
        cover_short c.args.n (c.loop-at.at - 1) c.args.place c.args.w.now c.raised.result
            c.requires.short (omega arith) c.requires.inside c.raised.ensures
            (is_cover c.args.n c.loop-at.at c.args.place c.args.k c.args.left
            c.letter-letter.result c.letter-other.result c.loop-at.low c.args.w.now c.requires.short
            c.requires.few (omega arith) (omega arith)
            c.requires.later c.requires.inside c.letter-letter.ensures c.letter-other.ensures
            c.loop-at.invariant.low (omega (arith, c.if-low-other.true))
            (omega (arith, c.if-other-letter.true))),
        (c.requires.few, (omega arith, omega arith)),
      ),
    )

pub add_chains_at-loop-at-preserved-then-other-letter :
    goal.add_chains_at-loop-at-preserved-then-other-letter
add_chains_at-loop-at-preserved-then-other-letter t c =
    let some = c.loop-at-test.true in
    let first = c.loop-at.auto.at in
    record {
      low = low_raised c.args.n c.loop-at.at c.args.place c.args.k c.args.left
          c.letter-letter.result c.letter-other.result c.loop-at.low c.args.w.now
          c.requires.short c.requires.few (omega arith) (omega arith) c.requires.later
          c.requires.inside c.letter-letter.ensures c.letter-other.ensures
          c.loop-at.invariant.low (omega (arith, c.if-low-other.true))
          (omega (arith, c.if-other-letter.true));
      gains = more_added c.args.n c.loop-at.at c.args.place c.args.k c.args.left
          c.letter-letter.result c.letter-other.result c.loop-at.low c.args.w.now
          c.requires.short c.requires.few (omega arith) (omega arith) c.requires.later
          c.requires.inside c.letter-letter.ensures c.letter-other.ensures
          c.loop-at.invariant.low c.args.c c.args.sum.now c.loop-at.sum
          c.loop-at.invariant.gains (omega (arith, c.if-low-other.true))
          (omega (arith, c.if-other-letter.true)) c.raised.result c.add_chains.new.sum
          c.raised.ensures c.in_ok-add_chains.ensures;
    }

pub add_chains_at-loop-at-preserved : goal.add_chains_at-loop-at-preserved
add_chains_at-loop-at-preserved t c =
    let some = c.loop-at-test.true in
    let first = c.loop-at.auto.at in
    let so : (c.letter-other.result < c.loop-at.low)
    ⊎ (c.letter-letter.result ≤ c.letter-other.result) =
    elim c.else-low-other.branch [
      | add_chains_at-else-low-other-via-then-low-other+else-other-letter w ↦
          inr (omega (arith, w.if-other-letter.false))
      | add_chains_at-else-low-other-via-else-low-other w ↦
          inl (omega (arith, w.if-low-other.false))
    ] in
    record {
      low = low_kept c.args.n c.loop-at.at c.args.place c.args.k c.args.left
          c.letter-letter.result c.letter-other.result c.loop-at.low c.args.w.now
          c.requires.short c.requires.few (omega arith) (omega arith) c.requires.later
          c.requires.inside c.letter-letter.ensures c.letter-other.ensures
          c.loop-at.invariant.low so;
      gains = none_added c.args.n c.loop-at.at c.args.place c.args.k c.args.left
          c.letter-letter.result c.letter-other.result c.loop-at.low c.args.w.now
          c.requires.short c.requires.few (omega arith) (omega arith) c.requires.later
          c.requires.inside c.letter-letter.ensures c.letter-other.ensures
          c.loop-at.invariant.low c.args.c c.args.sum.now c.loop-at.sum
          c.loop-at.invariant.gains so;
    }

pub add_chains_at-returns : goal.add_chains_at-returns
add_chains_at-returns t c =
    all_covers c.args.c c.args.n c.args.k c.args.place c.loop-at.at c.args.left
    c.letter-letter.result c.args.w.now c.args.sum.now c.loop-at.sum c.requires.short
    c.requires.few (omega (arith, c.loop-at-test.false)) c.requires.later c.requires.inside
    c.letter-letter.ensures c.loop-at.invariant.gains
