use Rattle.std.proofs.Common.{◌≡◌, ◌∙◌, [], sym, subst}
use Rattle.std.specs.Bool.{OnFalse}
use Rattle.calc_replies.proofs.WrittenText.{all_lines}
use Rattle.calc_replies.proofs.written.text_of_terms.Goals as goal

pub returns-clause-text : goal.returns-clause-text
returns-clause-text c =
    all_lines c.push_next.new.text c.push_next.new.lister c.args.lister _
    (sym c.in_ok-push_next.ensures.lines ∙ c.loop-text.invariant.lines)
    (subst (λ b. OnFalse b (c.push_next.new.lister ≡ [])) c.if-branch.false
    c.in_ok-push_next.ensures.ended) c.in_ok-finish.ensures
