use Rattle.std.proofs.Common.{◌≡◌, ℕ, ◌^◌, ◌<◌, ◌≤◌, arith, rules}
use Rattle.std.specs.Prelude.{Option, Some, None, SomeIff, MatchOption}
use Rattle.std.proofs.lemmas.Bool.{both_ways}
use Rattle.strip_rules.proofs.complete.times_placings.Goals as goal

pub times_count-requires : goal.times_count-requires
times_count-requires c = search (rules, both_ways)

counted : (o : Option ℕ) (n : ℕ) → SomeIff o (n < 2 ^ 128) n
    → MatchOption o (2 ^ 128 ≤ n) (λ m. m ≡ n)
counted None n h = omega (arith, h)
counted (Some m) n h = h.1

pub returns : goal.returns
returns c = search (rules, counted)
