use Rattle.std.proofs.Common.{◌≡◌, nat_lt, rules, sym, ◌∙◌, count_by}
use Rattle.stanley_expand.proofs.GreaterLetters.{greater-count_by}
use Rattle.stanley_expand.proofs.letters.count_greater.Goals as goal

pub returns : goal.returns
returns c =
    let counted : c.count.result ≡ count_by (λ b. nat_lt c.args.bound b) c.args.letters.now =
    search rules in
    counted ∙ sym (greater-count_by c.args.bound c.args.letters.now)
