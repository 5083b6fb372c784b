use Rattle.std.proofs.Common.{ap, ◌∙◌, ◌+◌, ◌-◌, ◌++◌}
use Rattle.batch_lines.specs.Parts.{behind_spaces}
use Rattle.batch_lines.proofs.Words.{word, letters_so, four_words}
use Rattle.batch_lines.proofs.numbers.put_letters.Goals as goal

pub returns-clause-text : goal.returns-clause-text
returns-clause-text c =
    let a = c.args.first + 1 in
    let b = c.past_one-b.result in
    let r = c.past_one-c.result in
    c.put_word-4.ensures.text
    ∙ ap (λ t. t ++ word (10 - a - b - r)) (c.put_word-3.ensures.text
    ∙ ap (λ t. t ++ word r) (c.put_word-2.ensures.text ∙ ap (λ t. t ++ word b)
    c.put_word.ensures.text))
    ∙ four_words c.args.out.now a b r (10 - a - b - r)
    ∙ ap (λ ls. c.args.out.now ++ behind_spaces ls)
    (letters_so c.args.first c.args.second c.args.third b c.min.result c.past_one.result
    c.max.result r
    c.requires.below_4 c.requires.below_3 c.requires.below_2 c.past_one-b.ensures c.min.ensures
    c.past_one.ensures c.max.ensures c.past_one-c.ensures)
