use Rattle.std.proofs.Common.{◌≡◌, List, ℕ, [], ◌++◌, sym, ◌∙◌, subst, ap, refl, Err, pos, rules}
use Rattle.std.proofs.Common.{arith}
use Rattle.std.specs.Vec.Iter.{into_iter_items}
use Rattle.std.proofs.lemmas.Grind.{common_steps}
use Rattle.std.specs.Prelude.{nat_eq}
use Rattle.std.specs.Cmp.Lexicographic.{pointwise}
use Rattle.sym_model.specs.Canonical.{is_label}
use Rattle.linear_combinations.proofs.Steps.{error_is, all_done}
use Rattle.sparse_polys.specs.Combination.{terms_of}
use Rattle.linear_combinations.proofs.Cleared.{Gains-none}
use Rattle.linear_combinations.specs.Cleared.{GainsMultiple}
use Rattle.strip_rules.proofs.Signs.{signed_one}
use Rattle.strip_rules.proofs.TermsAdded.{Gains-shape, Overflows-shape, Gains-signed}
use Rattle.strip_rules.proofs.TermsAdded.{Overflows-signed}
use Rattle.linear_combinations.specs.Gains.{each_by}
use Rattle.strip_rules.proofs.shapes.add_shapes.Goals as goal
use Rattle.sparse_polys.proofs.PartitionTerms.{listed_next}

pub loop-shape-init : goal.loop-shape-init
loop-shape-init g c = search (rules, Gains-none)

pub loop-shape-preserved : goal.loop-shape-preserved
loop-shape-preserved g c =
    let value = g.R.Scalar.value in
    let done = c.loop-shape.yielded in
    let label = c.in-Some.shape in
    let on = ap (λ (xs : List (List ℕ)). done ++ xs) (sym c.in-Some.ensures.steps.0)
    ∙ c.loop-shape.invariant.so_far in
    record {
      so_far = listed_next done _ _ label on;
      adds =
          Gains-shape (value c.args.c) (λ ν. pos 1) done label (terms_of value c.args.sum.now)
          (terms_of value c.loop-shape.sum) c.loop-shape.invariant.adds
          (terms_of value c.add_term.new.self)
          (Gains-signed value g.R.Scalar.zero g.met.R.Scalar.zero_value.0 (value c.args.c)
          (pos 1) label c.args.c c.loop-shape.sum (signed_one (value c.args.c))
          c.add_term.ensures.tables.before.combination g.R.Scalar.sum g.met.R.Scalar.sum_value c.add_term.new.self
          c.requires.lowest c.in_ok-add_term.ensures.tables.after.combination c.in_ok-add_term.ensures.ok);
    }

pub returns-in_err-add_term-clause-large : goal.returns-in_err-add_term-clause-large
returns-in_err-add_term-clause-large g c large =
    let value = g.R.Scalar.value in
    let done = c.loop-shape.yielded in
    let label = c.in-Some.shape in
    let on = ap (λ (xs : List (List ℕ)). done ++ xs) (sym c.in-Some.ensures.steps.0)
    ∙ c.loop-shape.invariant.so_far in
    let refused = c.in_err-add_term.ensures.large.0
    (ap Err (error_is _ _ _ c.from_residual.ensures.1 large)) in
    Overflows-shape (value c.args.c) (λ ν. pos 1) done label (terms_of value c.args.sum.now)
    (terms_of value c.loop-shape.sum) c.loop-shape.invariant.adds _ _ on
    (Overflows-signed value g.R.Scalar.zero g.met.R.Scalar.zero_value.0 (value c.args.c) (pos 1)
    label
    c.args.c c.loop-shape.sum (signed_one (value c.args.c))
    c.add_term.ensures.tables.before.combination g.R.Scalar.is_held g.R.Scalar.checked_sum g.met.R.Scalar.sum_answers
    refused)

pub returns-clause-ok : goal.returns-clause-ok
returns-clause-ok g c =
    let value = g.R.Scalar.value in
    let none : into_iter_items c.loop-shape.shape-iterator ≡ [] = grind (arith, common_steps) in
    subst (λ l. GainsMultiple (pointwise nat_eq) is_label (value c.args.c)
    (each_by (λ ν. pos 1) l) (terms_of value c.args.sum.now)
    (terms_of value c.loop-shape.sum))
    (all_done c.loop-shape.yielded _ _ _ none c.loop-shape.invariant.so_far refl)
    c.loop-shape.invariant.adds
