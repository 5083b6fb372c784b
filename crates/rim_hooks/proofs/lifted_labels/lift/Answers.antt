use Rattle.std.proofs.Common.{◌≡◌, ℕ, List, ◌+◌, ◌++◌, [], ◌∷◌, length, ap, ◌∙◌, arith, rules}
use Rattle.std.proofs.lemmas.List.{length-append}
use Rattle.sym_model.specs.BetaList.{beta}
use Rattle.beta_list_laws.proofs.BetaLists.{length-beta}
use Rattle.rim_hooks.proofs.LiftedEntries.{insert_front, lift_more}
use Rattle.rim_hooks.proofs.lifted_labels.lift.Goals as goal

pub loop-turn-init : goal.loop-turn-init
loop-turn-init c =
    let e : c.in_ok-entries.entries.items ≡ beta c.args.k c.args.label.now.1 = c.in_ok-entries.ensures.ok ∙ c.as_slice.ensures ∙ c.in_ok-beta.ensures.value ∙ ap (λ (l : ℕ × List ℕ). beta c.args.k l.1) c.label.view_is in
    record { entries = e; few = ap length e ∙ length-beta c.args.k c.args.label.now.1 }

pub loop-turn-preserved : goal.loop-turn-preserved
loop-turn-preserved c =
    let rest = c.pop.new.self.items in
    let last = c.in-Some.last in
    let first = c.in-Some-checked_add.first in
    let parts : c.loop-turn.entries.items ≡ rest ++ (last ∷ []) = c.in-Some.ensures.items in
    let is : first ≡ last + c.args.n = search rules in
    let before = length-append rest (last ∷ []) in
    let old = ap length parts in
    let new = ap length (c.in_ok-insert.ensures.ok ∙ insert_front rest first) in
    let few = c.loop-turn.invariant.few in
    record {
      entries = lift_more c.args.n c.loop-turn._turn (beta c.args.k c.args.label.now.1) c.loop-turn.entries.items rest c.insert.new.self.items last first
          c.loop-turn.invariant.entries parts is c.in_ok-insert.ensures.ok;
      few = omega arith;
    }
