use Rattle.std.proofs.Common.{sym, ap, ◌∙◌, subst, arith}
use Rattle.linear_combinations.proofs.Steps.{if_answered}
use Rattle.sym_model.specs.Permutation.{kept}
use Rattle.perm_codes.specs.Limits.{IsShortPermutation}
use Rattle.schubert_laws.proofs.Blocks.{one_line_behind, length-behind}
use Rattle.stanley_expand.specs.Blocks.{between}
use Rattle.stanley_expand.proofs.BlockEnds.{letters_behind, one_line_between, length_between}
use Rattle.stanley_expand.proofs.behind.block_behind.Goals as goal

pub letters_between-letter-items-requires-clause-to : goal.letters_between-letter-items-requires-clause-to
letters_between-letter-items-requires-clause-to c = c.requires.to.inside

pub from_valid_letters-requires : goal.from_valid_letters-requires
from_valid_letters-requires c =
    let few = c.requires.letters in
    let fixed = c.requires.fixed in
    let order = c.requires.order in
    let inside = c.requires.to.inside in
    let w = c.args.perm.now in
    let n = c.args.from in
    let k = c.args.to in
    let o = c.letters_between-letter-items.ensures.limits.kept.one_line in
    let a = length-behind c.args.fixed (between n k w) in
    let b = length_between w n k o c.requires.from c.requires.order c.requires.to in
    subst IsShortPermutation (sym (c.as_slice.ensures.value ∙ letters_behind c.args.fixed n k c.loop-letter.letter-index w c.loop-letter.letters.items
    c.letters_between-letter-items.result.now c.loop-letter.invariant c.loop-letter-test.false c.letters_between-letter-items.ensures.value))
    (record {
      one_line = one_line_behind c.args.fixed (between n k w) (one_line_between w n k o c.requires.from c.requires.order c.requires.to);
      some = omega arith;
      few =
          omega arith;
    })

pub returns-clause-perm : goal.returns-clause-perm
returns-clause-perm c =
    if_answered c.from_valid_letters.result c.from_valid_letters.ensures.ok (λ perm e. e ∙ ap kept (c.as_slice.ensures.value
    ∙ letters_behind c.args.fixed c.args.from c.args.to c.loop-letter.letter-index c.args.perm.now c.loop-letter.letters.items
    c.letters_between-letter-items.result.now c.loop-letter.invariant c.loop-letter-test.false c.letters_between-letter-items.ensures.value))
