use Rattle.std.proofs.Common.{◌≡◌, ◌≤◌, ◌-◌, sym, ap₂, subst, arith}
use Rattle.std.proofs.lemmas.Nat.{one_shl}
use Rattle.beta_sets.proofs.GreatestPlaces.{digit_low}
use Rattle.beta_sets.proofs.beta_set.BetaSet.without.Goals as goal

pub overflow_sub-result : goal.overflow_sub-result
overflow_sub-result c =
    let v : c.self.inside.digits ≡ c.args.self = c.self.view_is in
    let low = digit_low c.args.self c.args.number c.requires.place c.requires.there in
    subst (λ m. m ≤ c.self.inside.digits) (sym (one_shl c.args.number 64 c.requires.place)) (omega arith)

pub returns : goal.returns
returns c =
    let v : c.self.inside.digits ≡ c.args.self = c.self.view_is in
    ap₂ (λ a b. a - b) v (one_shl c.args.number 64 c.requires.place)
