use Rattle.std.proofs.Common.{[], ◌∷◌, refl, arith}
use Rattle.worked_examples.proofs.tableaux.slide_examples_law.Goals as goal

pub returns-clause-one_row : goal.returns-clause-one_row
returns-clause-one_row c = record {
  chosen = 1 ∷ 2 ∷ 1 ∷ [];
  slides = (
    (omega arith, omega arith),
    (
      (omega arith, omega arith),
      ((omega arith, omega arith), refl),
    ),
  );
  straight = refl;
}
