use Rattle.std.proofs.Common.{◌≡◌, ℕ, ◌-◌, ◌≤◌, ◌++◌, List, length, take, replicate, ap, ap₂, ◌∙◌}
use Rattle.std.proofs.Common.{arith}
use Rattle.std.proofs.lemmas.List.{take_all}
use Rattle.partitions.proofs.Arrangings.{arrangements-first}
use Rattle.partitions.proofs.arrangements.Arrangements.new.Goals as goal

padded :
    (parts given numbers : List ℕ) (n m k : ℕ) → given ≡ parts → n ≡ m → k ≡ length given →
    length parts ≤ m
    → numbers ≡ take n given ++ replicate (n - k) 0 → numbers ≡ parts ++ replicate
    (m - length parts) 0
padded parts given numbers n m k e f g h is =
    let room : n - k ≡ m - length parts = omega (arith, ap length e) in
    let whole : length given ≤ n = omega (arith, ap length e) in
    is ∙ ap₂ (λ l j. l ++ replicate j 0) (take_all n given whole ∙ e) room

pub returns-clause-rest : goal.returns-clause-rest
returns-clause-rest c =
    arrangements-first c.args.shape.now c.resize.new.self.items c.args.places
    c.parts.ensures.limits.partition c.requires.rows
    (padded c.args.shape.now c.in_ok-numbers.numbers.items c.resize.new.self.items c.from.result
    c.args.places
    c.in_ok-numbers.numbers.len (c.in_ok-numbers.ensures.items ∙ c.parts.ensures.value)
    c.from.ensures (omega (
      arith,
      ap length c.in_ok-numbers.ensures.items,
      c.in_ok-numbers.ensures.len,
    )) c.requires.rows
    c.in_ok-resize.ensures.items)
