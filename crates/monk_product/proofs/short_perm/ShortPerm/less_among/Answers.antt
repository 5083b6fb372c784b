use Rattle.std.proofs.Common.{◌≡◌, nat_lt, filter, length, take, sym, ap, ◌∙◌, rules, count_by}
use Rattle.std.proofs.lemmas.List.Sums.{length-filter}
use Rattle.monk_product.proofs.ShortPerms.{as_stored}
use Rattle.monk_product.proofs.short_perm.ShortPerm.less_among.Goals as goal

pub returns : goal.returns
returns c =
    let counted : c.count.result
    ≡ count_by (λ a. nat_lt a c.args.letter) (take c.args.k c.self.inside.letters) =
    search rules in
    counted ∙ sym (length-filter (λ a. nat_lt a c.args.letter)
    (take c.args.k c.self.inside.letters))
    ∙ ap (λ u. length (filter (λ a. nat_lt a c.args.letter) (take c.args.k u)))
    (as_stored c.self.inside.letters c.args.self.now c.self.view_is c.self.invariant.long)
