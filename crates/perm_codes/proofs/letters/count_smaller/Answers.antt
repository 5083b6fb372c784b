use Rattle.std.proofs.Common.{◌≡◌, nat_lt, rules, sym, ◌∙◌, count_by}
use Rattle.perm_codes.proofs.Prefixes.{smaller-count_by}
use Rattle.perm_codes.proofs.letters.count_smaller.Goals as goal

pub returns-clause-count : goal.returns-clause-count
returns-clause-count c =
    let counted : c.count.result ≡ count_by (λ b. nat_lt b c.args.bound) c.args.letters.now =
    search rules in
    counted ∙ sym (smaller-count_by c.args.bound c.args.letters.now)
