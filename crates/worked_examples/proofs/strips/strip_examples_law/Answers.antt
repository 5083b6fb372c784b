use Rattle.std.proofs.Common.{[], ◌∷◌, refl, arith, rules}
use Rattle.strip_laws.proofs.Strips.{horizontal_rows, vertical_rows}
use Rattle.worked_examples.proofs.ClosedShapes.{horizontal_closed, vertical_closed, holds_closed}
use Rattle.worked_examples.proofs.ClosedShapes.{hook_closed, no_hook, not_connected}
use Rattle.worked_examples.proofs.strips.strip_examples_law.Goals as goal

pub returns-clause-row_of_two : goal.returns-clause-row_of_two
returns-clause-row_of_two c = search (rules, horizontal_closed, holds_closed)

pub returns-clause-three_rows : goal.returns-clause-three_rows
returns-clause-three_rows c = search (rules, horizontal_closed, holds_closed)

pub returns-clause-not_horizontal : goal.returns-clause-not_horizontal
returns-clause-not_horizontal c s =
    let h = horizontal_rows (2 ∷ 2 ∷ 2 ∷ []) (2 ∷ 1 ∷ []) (omega arith, (omega arith, tt))
    (omega arith, tt) s 2 (omega arith) in
    omega (arith, h)

pub returns-clause-column_of_two : goal.returns-clause-column_of_two
returns-clause-column_of_two c = search (rules, vertical_closed, holds_closed)

pub returns-clause-not_vertical : goal.returns-clause-not_vertical
returns-clause-not_vertical c s = let h = vertical_rows (4 ∷ 1 ∷ []) (2 ∷ 1 ∷ []) s 1 (omega arith)
    in omega (arith, h)

pub returns-clause-flat_hook : goal.returns-clause-flat_hook
returns-clause-flat_hook c =
    hook_closed (3 ∷ []) (1 ∷ []) 1 1 (record {
      falls = tt;
      longer = omega arith;
      counts = omega arith;
      ordered = omega arith;
      above = tt;
      chained = tt;
      end = omega arith;
      below = tt;
    })

pub returns-clause-upright_hook : goal.returns-clause-upright_hook
returns-clause-upright_hook c =
    hook_closed (1 ∷ 1 ∷ 1 ∷ []) (1 ∷ []) 2 3 (record {
      falls = (omega arith, (omega arith, tt));
      longer = omega arith;
      counts = omega arith;
      ordered = omega arith;
      above = (refl, tt);
      chained = (refl, tt);
      end = omega arith;
      below = tt;
    })

pub returns-clause-corner_hook : goal.returns-clause-corner_hook
returns-clause-corner_hook c =
    hook_closed (2 ∷ 1 ∷ []) [] 1 2 (record {
      falls = (omega arith, tt);
      longer = omega arith;
      counts = omega arith;
      ordered = omega arith;
      above = tt;
      chained = (refl, tt);
      end = omega arith;
      below = tt;
    })

pub returns-clause-square : goal.returns-clause-square
returns-clause-square c = no_hook (2 ∷ 2 ∷ []) (omega arith) (omega arith)

pub returns-clause-apart : goal.returns-clause-apart
returns-clause-apart c = not_connected
