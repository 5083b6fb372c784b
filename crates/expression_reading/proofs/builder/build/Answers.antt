use Rattle.std.proofs.Common.{◌≡◌, ◌∙◌, arith, sym, ap}
use Rattle.std.proofs.lemmas.Result.{IfOk-weaker}
use Rattle.expression_laws.specs.LeftToRight.{is_live, step}
use Rattle.expression_laws.proofs.PhraseRuns.{one_phrase}
use Rattle.expression_reading.specs.Building.{builds, built_of, part_in, terms_in, factors_in}
use Rattle.expression_reading.specs.Building.{opened_in, state_of}
use Rattle.expression_reading.proofs.BuildFacts.{found-joined, found-factor}
use Rattle.expression_reading.proofs.BuildRuns.{tree_in, takes-fine, next-state, stays-live}
use Rattle.expression_reading.proofs.BuildRuns.{ends-fine, whole-built}
use Rattle.expression_reading.proofs.builder.build.Goals as goal

pub read-requires : goal.read-requires
read-requires c =
    let w = c.args.word.now in
    let i = c.loop-byte.byte-index in
    let b = c.loop-byte.builder in
    let live = stays-live w i (state_of b) c.loop-byte-test.true
    (omega (arith, c.type_inv.word i)) c.requires c.loop-byte.invariant in
    let fine = takes-fine w i _ (part_in b.part) (terms_in b.frame.terms)
    (factors_in b.frame.factors) (opened_in b.opened.items)
    c.loop-byte-test.true c.requires c.symbol_of.ensures c.loop-byte.invariant in
    (ap (λ s. is_live (step builds (state_of b) s)) c.symbol_of.ensures ∙ live, fine)

pub loop-byte-preserved : goal.loop-byte-preserved
loop-byte-preserved c =
    let i = c.loop-byte.byte-index in
    let b = state_of c.loop-byte.builder in
    c.in_ok-read.ensures ∙ ap (step builds b) c.symbol_of.ensures
    ∙ next-state c.args.word.now i b c.loop-byte-test.true
    (omega (arith, c.type_inv.word i)) c.requires c.loop-byte.invariant

pub take_expression-requires-clause-sound : goal.take_expression-requires-clause-sound
take_expression-requires-clause-sound c =
    let b = c.loop-byte.builder in
    ends-fine c.args.word.now c.loop-byte.byte-index (part_in b.part) (terms_in b.frame.terms)
    (factors_in b.frame.factors) (opened_in b.opened.items)
    (omega arith) c.requires c.loop-byte.invariant

pub take_expression-requires-clause-whole : goal.take_expression-requires-clause-whole
take_expression-requires-clause-whole c =
    let b = c.loop-byte.builder in
    found-factor (part_in b.part) (terms_in b.frame.terms) (factors_in b.frame.factors)
    (opened_in b.opened.items) (tree_in c.requires.0)
    (whole-built c.args.word.now c.loop-byte.byte-index (state_of b) c.requires (omega arith)
    c.loop-byte.invariant)

pub returns : goal.returns
returns c =
    let b = c.loop-byte.builder in
    let whole = found-joined (part_in b.part) (terms_in b.frame.terms) (factors_in b.frame.factors)
    (opened_in b.opened.items) (tree_in c.requires.0)
    (whole-built c.args.word.now c.loop-byte.byte-index (state_of b) c.requires (omega arith)
    c.loop-byte.invariant) in
    IfOk-weaker c.take_expression.result _ _
    (λ e given phrase spells.
    let some = sym given ∙ whole in
    let built : built_of e ≡ tree_in c.requires.0 = cc some in
    built ∙ ap tree_in (one_phrase c.args.word.now c.requires.0 phrase c.requires.1 spells))
    c.take_expression.ensures.value
