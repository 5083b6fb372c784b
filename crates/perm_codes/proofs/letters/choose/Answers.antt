use Rattle.std.proofs.Common.{◌≡◌, ◌-◌, ◌++◌, length, ap, ◌∙◌, arith}
use Rattle.sym_model.specs.Partition.{after}
use Rattle.sym_model.specs.Permutation.{letters_by_code}
use Rattle.sym_model.proofs.AfterLists.{length_after}
use Rattle.perm_codes.proofs.letters.choose.Goals as goal

pub loop-entry-init : goal.loop-entry-init
loop-entry-init c =
    let n = length c.args.code.now in
    let zero_less : length c.args.code.now - 0 ≡ length c.args.code.now = omega arith in
    let left : c.in_ok-left.left.items ≡ after 0 n = c.in_ok-left.ensures ∙ ap (after 0) zero_less
    in
    record {
      count = omega (arith, ap length left, length_after 0 (length c.args.code.now));
      code = c.requires.code;
      letters = ap (λ l. l ++ letters_by_code c.args.code.now c.in_ok-left.left.items)
          c.new-list.ensures.items ∙ ap (letters_by_code c.args.code.now) left;
    }
