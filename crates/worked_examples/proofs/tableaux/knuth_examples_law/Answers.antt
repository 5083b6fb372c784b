use Rattle.std.proofs.Common.{[], ◌∷◌, refl, arith, inl, inr}
use Rattle.worked_examples.proofs.tableaux.knuth_examples_law.Goals as goal

pub returns-clause-first : goal.returns-clause-first
returns-clause-first c =
    record {
      front = [];
      three = 2 ∷ 3 ∷ 1 ∷ [];
      changed = 2 ∷ 1 ∷ 3 ∷ [];
      back = [];
      related = inl (inl (record {
        x = 1;
        y = 2;
        z = 3;
        below = omega arith;
        within = omega arith;
        before = refl;
        after = refl;
      }));
      from = refl;
      to = refl;
    }

pub returns-clause-first_back : goal.returns-clause-first_back
returns-clause-first_back c =
    record {
      front = [];
      three = 2 ∷ 1 ∷ 3 ∷ [];
      changed = 2 ∷ 3 ∷ 1 ∷ [];
      back = [];
      related = inl (inr (record {
        x = 1;
        y = 2;
        z = 3;
        below = omega arith;
        within = omega arith;
        before = refl;
        after = refl;
      }));
      from = refl;
      to = refl;
    }

pub returns-clause-second : goal.returns-clause-second
returns-clause-second c =
    record {
      front = [];
      three = 1 ∷ 3 ∷ 2 ∷ [];
      changed = 3 ∷ 1 ∷ 2 ∷ [];
      back = [];
      related = inr (inl (record {
        x = 1;
        y = 2;
        z = 3;
        within = omega arith;
        below = omega arith;
        before = refl;
        after = refl;
      }));
      from = refl;
      to = refl;
    }

pub returns-clause-first_equal : goal.returns-clause-first_equal
returns-clause-first_equal c =
    record {
      front = [];
      three = 2 ∷ 2 ∷ 1 ∷ [];
      changed = 2 ∷ 1 ∷ 2 ∷ [];
      back = [];
      related = inl (inl (record {
        x = 1;
        y = 2;
        z = 2;
        below = omega arith;
        within = omega arith;
        before = refl;
        after = refl;
      }));
      from = refl;
      to = refl;
    }

pub returns-clause-second_equal : goal.returns-clause-second_equal
returns-clause-second_equal c =
    record {
      front = [];
      three = 1 ∷ 2 ∷ 1 ∷ [];
      changed = 2 ∷ 1 ∷ 1 ∷ [];
      back = [];
      related = inr (inl (record {
        x = 1;
        y = 1;
        z = 2;
        within = omega arith;
        below = omega arith;
        before = refl;
        after = refl;
      }));
      from = refl;
      to = refl;
    }

pub returns-clause-inside : goal.returns-clause-inside
returns-clause-inside c =
    record {
      front = 4 ∷ [];
      three = 1 ∷ 3 ∷ 2 ∷ [];
      changed = 3 ∷ 1 ∷ 2 ∷ [];
      back = 5 ∷ [];
      related = inr (inl (record {
        x = 1;
        y = 2;
        z = 3;
        within = omega arith;
        below = omega arith;
        before = refl;
        after = refl;
      }));
      from = refl;
      to = refl;
    }

pub returns-clause-joined : goal.returns-clause-joined
returns-clause-joined c =
    record {
      chain = (1 ∷ 3 ∷ 2 ∷ 4 ∷ []) ∷ (3 ∷ 1 ∷ 2 ∷ 4 ∷ []) ∷ [];
      steps = (
        record {
          front = 1 ∷ [];
          three = 3 ∷ 4 ∷ 2 ∷ [];
          changed = 3 ∷ 2 ∷ 4 ∷ [];
          back = [];
          related = inl (inl (record {
            x = 2;
            y = 3;
            z = 4;
            below = omega arith;
            within =
                omega arith;
            before = refl;
            after = refl;
          }));
          from = refl;
          to = refl;
        },
        (
          record {
            front = [];
            three = 1 ∷ 3 ∷ 2 ∷ [];
            changed = 3 ∷ 1 ∷ 2 ∷ [];
            back = 4 ∷ [];
            related = inr (inl (record {
              x = 1;
              y = 2;
              z = 3;
              within = omega arith;
              below =
                  omega arith;
              before = refl;
              after = refl;
            }));
            from = refl;
            to = refl;
          },
          refl,
        ),
      );
    }

pub returns-clause-itself : goal.returns-clause-itself
returns-clause-itself c = λ w. record { chain = []; steps = refl }
