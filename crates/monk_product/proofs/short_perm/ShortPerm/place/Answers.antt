use Rattle.std.proofs.Common.{suc, sym, ap, ◌∙◌, arith}
use Rattle.std.proofs.lemmas.List.{get_or_default}
use Rattle.schubert_laws.specs.Chains.{letters_before}
use Rattle.schubert_laws.proofs.ChainSums.{place_below, place_is}
use Rattle.monk_product.proofs.ShortPerms.{as_stored, not_yet}
use Rattle.monk_product.proofs.short_perm.ShortPerm.place.Goals as goal

pub loop-place-init : goal.loop-place-init
loop-place-init c =
    let long = c.self.invariant.long in
    let few = c.requires.few in
    let below = place_below c.args.letter c.self.inside.letters c.self.invariant.one_line
    c.requires.some (omega arith) in
    (omega arith, omega arith)

pub loop-place-preserved : goal.loop-place-preserved
loop-place-preserved c =
    let long = c.self.invariant.long in
    let few = c.requires.few in (
      not_yet c.args.letter c.loop-place.place c.self.inside.letters c.self.invariant.one_line
          c.requires.some (omega arith) c.loop-place.invariant.0 c.loop-place-test.true,
      c.loop-place.invariant.1,
    )

pub returns-clause-place : goal.returns-clause-place
returns-clause-place c =
    let long = c.self.invariant.long in
    let few = c.requires.few in
    let first = c.loop-place.invariant.0 in
    let below = c.loop-place.invariant.1 in
    sym (place_is c.args.letter c.loop-place.place c.self.inside.letters
    c.self.invariant.one_line c.requires.some (omega arith)
    (get_or_default c.self.inside.letters c.loop-place.place (suc c.loop-place.place) 0
    (omega arith) ∙ c.loop-place-test.false))
    ∙ ap (letters_before c.args.letter)
    (as_stored c.self.inside.letters c.args.self.now c.self.view_is c.self.invariant.long)
