use Rattle.std.proofs.Common.{◌≡◌, ◌++◌, map, drop, ℕ, List, flat_map}
use Rattle.std.specs.Global.{Vec}
use Rattle.sym_model.specs.Polynomial.{join}
use Rattle.plain_programs.specs.PlainLists.{lists}
use Rattle.plain_programs.proofs.bases.times.Given as goal

abbrev pub invariant-loop-exponents : goal.invariant-loop-exponents
invariant-loop-exponents l =
    let rows : List ℕ → List (List ℕ) = λ α. map (λ β. join α β) (map (λ (β : Vec ℕ). β.items) l.second) in
    lists l.all ++ flat_map rows (map (λ (α : Vec ℕ). α.items) (drop l.exponents-index l.first)) ≡ flat_map rows (map (λ (α : Vec ℕ). α.items) l.first)
