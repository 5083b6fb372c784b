use Rattle.std.proofs.Common.{◌≡◌, ◌+◌, ◌-◌, ◌++◌, List, ℕ, length, take, rules}
use Rattle.std.specs.Prelude.{replicate}
use Rattle.std.proofs.lemmas.List.{take_all, take_at}
use Rattle.skew_shapes.proofs.vertical_strips.add_ones.Goals as goal

resized : (above longer : List ℕ) (left len n : ℕ) → len ≡ length above → n ≡ len + left →
    longer ≡ take n above ++ replicate (n - len) 1
    → longer ≡ above ++ replicate left 1
resized above longer left len n l e r = search (rules, take_all)

pub from_valid_parts-requires : goal.from_valid_parts-requires
from_valid_parts-requires c = search (rules, resized)

pub returns : goal.returns
returns c = search (rules, resized, take_at)
