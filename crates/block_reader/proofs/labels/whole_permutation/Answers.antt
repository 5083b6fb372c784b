use Rattle.std.proofs.Common.{length, ap, sym, ◌∙◌}
use Rattle.block_reader.proofs.LabelCauses.{kept-long, not_permutation-cut}
use Rattle.block_reader.proofs.labels.whole_permutation.Goals as goal

pub returns-then-letters : goal.returns-then-letters
returns-then-letters c =
    c.requires ∙ kept-long c.args.letters.now
    (ap length (sym (c.letters.ensures.value ∙ c.requires)) ∙ c.if-letters.true)

pub returns : goal.returns
returns c =
    not_permutation-cut c.args.letters.now
    (λ e. c.if-letters.false (ap length (c.letters.ensures.value ∙ c.requires ∙ e)))
