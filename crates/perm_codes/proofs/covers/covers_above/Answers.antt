use Rattle.std.proofs.Common.{◌+◌, eqb-true, sym, ap, ◌∙◌, arith}
use Rattle.std.specs.List.{swap}
use Rattle.sym_model.specs.PlaceOrders.{inversions}
use Rattle.sym_model.specs.Permutation.{kept}
use Rattle.perm_codes.proofs.CoverSteps.{found_above, passed_above}
use Rattle.perm_codes.proofs.covers.covers_above.Goals as goal
use Rattle.perm_codes.proofs.covers.covers_above.Goals.{then-makes_one_inversion+in_ok-copy+in_ok-push}
use Rattle.perm_codes.proofs.covers.covers_above.Goals.{else-makes_one_inversion}

pub loop-other-preserved : goal.loop-other-preserved
loop-other-preserved c =
    let w = c.args.letters.now in
    let order = c.loop-other.auto.other in
    elim c.if-makes_one_inversion.branch [
      | then-makes_one_inversion+in_ok-copy+in_ok-push s ↦
          ap (λ (v : _). v.items) s.covers-is ∙ s.in_ok-push.ensures.items
          ∙ found_above w c.args.place c.loop-other.other c.loop-other.covers.items
          s.exchanged.result (omega arith) c.loop-other-test.true c.requires.permutation
          (sym c.makes_one_inversion.ensures ∙ s.if-makes_one_inversion.true) c.loop-other.invariant
          (s.exchanged.ensures ∙ ap (λ v. kept (swap v c.args.place c.loop-other.other))
          s.in_ok-copy.ensures.ok)
      | else-makes_one_inversion s ↦
          ap (λ (v : _). v.items) s.covers-is
          ∙ passed_above w c.args.place c.loop-other.other c.loop-other.covers.items (omega arith)
          c.loop-other-test.true c.requires.permutation
          (sym c.makes_one_inversion.ensures ∙ s.if-makes_one_inversion.false)
          c.loop-other.invariant
    ]

-- if exchanging the letters at `place` and `other` makes exactly one more inversion, the argument `count` of `exchanged` is the number of inversions
-- after this exchange
pub exchanged-requires-clause-count : goal.exchanged-requires-clause-count
exchanged-requires-clause-count c =
    let w = c.args.letters.now in
    let more = eqb-true (inversions (swap w c.args.place c.loop-other.other)) (inversions w + 1)
    (sym c.makes_one_inversion.ensures ∙ c.if-makes_one_inversion.true) in
    c.requires.count ∙ sym more ∙ ap (λ v. inversions (swap v c.args.place c.loop-other.other))
    (sym c.in_ok-copy.ensures.ok)
