use Rattle.std.proofs.Common.{◌≡◌, ◌++◌, map, drop, ℕ}
use Rattle.std.specs.Global.{Vec}
use Rattle.sym_model.specs.Polynomial.{join}
use Rattle.plain_programs.specs.PlainLists.{lists}
use Rattle.plain_programs.proofs.bases.append_products.Given as goal

abbrev pub invariant-loop-exponents : goal.invariant-loop-exponents
invariant-loop-exponents l =
    lists l.all ++ map (λ β. join l.first β) (map (λ (β : Vec ℕ). β.items) (drop l.exponents-index l.second)) ≡ lists l.fn.all ++ map (λ β. join l.first β) (map (λ (β : Vec ℕ). β.items) l.second)
