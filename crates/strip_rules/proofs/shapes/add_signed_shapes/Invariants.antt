use Rattle.std.proofs.Common.{◌≡◌, ℕ, List, ◌++◌, ◌-◌, length}
use Rattle.std.specs.Prelude.{nat_eq}
use Rattle.std.specs.Cmp.Lexicographic.{pointwise}
use Rattle.sym_model.specs.Canonical.{is_label}
use Rattle.sym_model.specs.PlaceOrders.{minus_one_to}
use Rattle.sym_model.specs.Strip.{height}
use Rattle.sparse_polys.specs.Combination.{terms_of}
use Rattle.linear_combinations.specs.Cleared.{GainsMultiple}
use Rattle.linear_combinations.specs.Gains.{each_by}
use Rattle.strip_rules.proofs.shapes.add_signed_shapes.Given as goal

-- the shapes visited so far have been added with their signs; these shapes, followed by those still to come, are all shapes, and the partition to
-- which the rim hooks are added (`base`) is unchanged
abbrev pub invariant-loop-alloc : goal.invariant-loop-alloc
invariant-loop-alloc g l =
    let value = g.R.Scalar.value in
    (done : List (List ℕ)) × record {
      so_far : done ++ l.hooks.rest ≡ l.fn.hooks.rest;
      base : l.hooks.base ≡ l.fn.hooks.base;
      adds :
          GainsMultiple (pointwise nat_eq) is_label (value l.c)
          (each_by (λ ν. minus_one_to (height ν l.fn.hooks.base - 1)) done)
          (terms_of value l.fn.sum)
          (terms_of value l.sum);
    }

abbrev pub decreases-loop-alloc : goal.decreases-loop-alloc
decreases-loop-alloc g l = length l.hooks.rest
