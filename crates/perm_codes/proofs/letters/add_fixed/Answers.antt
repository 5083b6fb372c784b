use Rattle.std.proofs.Common.{◌≡◌, ◌+◌, ◌-◌, ◌++◌, ◌∷◌, [], length, sym, ap, ◌∙◌, arith}
use Rattle.std.proofs.Common.{append_assoc}
use Rattle.sym_model.specs.Partition.{after}
use Rattle.sym_model.proofs.AfterLists.{after-more}
use Rattle.perm_codes.proofs.letters.add_fixed.Goals as goal

pub loop-at-preserved : goal.loop-at-preserved
loop-at-preserved c =
    let w = c.args.letters.now in
    let n = length c.args.letters.now in
    let at = c.loop-at.at in
    let last : length c.args.letters.now + (c.loop-at.at - length c.args.letters.now) + 1
    ≡ c.loop-at.at + 1 = omega arith in
    let next : (c.loop-at.at - length c.args.letters.now) + 1 ≡ (c.loop-at.at + 1)
    - length c.args.letters.now = omega arith in
    let items = c.in_ok-push.ensures.ok ∙ ap (λ l. l ++ (at + 1) ∷ []) c.loop-at.invariant.1
    ∙ append_assoc w (after n (at - n)) ((at + 1) ∷ [])
    ∙ ap (λ x. w ++ (after n (at - n) ++ x ∷ [])) (sym last)
    ∙ ap (λ l. w ++ l) (sym (after-more n (at - n)))
    ∙ ap (λ k. w ++ after n k) next in
    (omega arith, items)

pub returns : goal.returns
returns c =
    let w = c.args.letters.now in
    let n = length c.args.letters.now in
    let end : c.loop-at.at - length c.args.letters.now ≡ c.args.last - length c.args.letters.now =
    omega (arith, c.loop-at.invariant.0) in
    c.loop-at.invariant.1 ∙ ap (λ k. w ++ after n k) end
