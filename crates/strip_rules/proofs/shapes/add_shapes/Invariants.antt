use Rattle.std.proofs.Common.{◌≡◌, ◌++◌, pos}
use Rattle.std.specs.Vec.Iter.{into_iter_items}
use Rattle.std.specs.Prelude.{nat_eq}
use Rattle.std.specs.Cmp.Lexicographic.{pointwise}
use Rattle.sym_model.specs.Canonical.{is_label}
use Rattle.sparse_polys.specs.Combination.{terms_of}
use Rattle.linear_combinations.specs.Cleared.{GainsMultiple}
use Rattle.linear_combinations.specs.Gains.{each_by}
use Rattle.strip_rules.proofs.shapes.add_shapes.Given as goal

-- the shapes visited so far have been added with the coefficient c; these shapes followed by those still to come are all shapes
abbrev pub invariant-loop-shape : goal.invariant-loop-shape
invariant-loop-shape g l =
    let value = g.R.Scalar.value in
    record {
      so_far : l.yielded ++ into_iter_items l.shape-iterator ≡ l.fn.shapes.items;
      adds : GainsMultiple (pointwise nat_eq) is_label (value l.c)
          (each_by (λ ν. pos 1) l.yielded) (terms_of value l.fn.sum) (terms_of value l.sum);
    }
