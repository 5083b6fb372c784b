use Rattle.std.proofs.Common.{◌≡◌, ℕ, ◌^◌, nat_lt, nat_le, min, Bool, true, false, cond, Some, None, rules}
use Rattle.std.specs.Bool.{then_some}
use Rattle.std.proofs.lemmas.Bool.{leb-true, lt-ltb, le-ltb, leb-false}
use Rattle.std.proofs.lemmas.List.{take_all}
use Rattle.calc_words.specs.NumberRuns.{narrow}
use Rattle.printing_laws.proofs.Decimals.{decimal_value_more}
use Rattle.calc_words.proofs.numbers.value_of.Goals as goal

kept_by : (n v : ℕ) (b d : Bool) → nat_lt v (2 ^ 127) ≡ d → nat_le (2 ^ 127) n ≡ b →
    (b ≡ true → d ≡ false) → (b ≡ false → (d ≡ true) × (v ≡ n))
    → then_some (nat_lt v (2 ^ 127)) v ≡ cond (nat_le (2 ^ 127) n) None (Some n)
kept_by n v true d e h x y = search rules
kept_by n v false d e h x y = search rules

kept : (n v : ℕ) → v ≡ min n (2 ^ 127) → then_some (nat_lt v (2 ^ 127)) v ≡ narrow n
kept n v h = search (rules, kept_by, leb-true, le-ltb, leb-false, lt-ltb)

pub loop-byte-preserved : goal.loop-byte-preserved
loop-byte-preserved c = search (rules, decimal_value_more)

pub returns : goal.returns
returns c = search (rules, kept, take_all)
