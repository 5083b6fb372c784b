use Rattle.std.proofs.Common.{◌<◌, sym, subst, ap, ◌∙◌, length, ◌*ℤ◌}
use Rattle.std.proofs.Common.{[]}
use Rattle.std.proofs.lemmas.Bool.{both_ways}
use Rattle.std.specs.Prelude.{nat_eq}
use Rattle.std.specs.Cmp.Lexicographic.{pointwise}
use Rattle.std.proofs.lemmas.List.{get_or_default}
use Rattle.fraction_laws.specs.Fractions.{whole}
use Rattle.linear_combinations.specs.Entries.{IsCombination}
use Rattle.stanley_expand.specs.Walk.{IsHeld}
use Rattle.stanley_expand.proofs.Overflows.{large_waiting}
use Rattle.sym_model.specs.LabelLimits.{is_permutation_label}
use Rattle.sym_model.specs.Polynomial.{pair, nothing}
use Rattle.sym_model.specs.Schubert.{schubert_in}
use Rattle.sym_model.proofs.Polynomials.{pair_determined}
use Rattle.linear_combinations.proofs.Masses.{on_both}
use Rattle.stanley_expand.proofs.GreaterBefore.{no_polynomial}
use Rattle.stanley_expand.proofs.Tables.{none_step, put_step}
use Rattle.stanley_expand.proofs.walk.put.Goals as goal
use lib.IntN.{*ℤ-zero}

-- if some letter of the permutation has more than m = `rows` greater letters before it, its Schubert polynomial in m variables is 0, so nothing has
-- to be added
pub returns-then-has_more_before-clause-step : goal.returns-then-has_more_before-clause-step
returns-then-has_more_before-clause-step c sum =
    none_step c.args.rows sum c.args.todo.now.items
    (λ φ. c.args.count *ℤ pair (schubert_in c.args.perm c.args.rows) φ)
    (λ φ. ap (λ z. c.args.count *ℤ z) (pair_determined (schubert_in c.args.perm c.args.rows)
    nothing φ (no_polynomial c.args.rows c.args.perm c.requires.rising.short.one_line
    (c.has_more_before.ensures.0 c.if-has_more_before.true))) ∙ *ℤ-zero c.args.count)

pub returns-clause-step : goal.returns-clause-step
returns-clause-step c =
    on_both {Q = IsCombination (pointwise nat_eq) is_permutation_label whole c.add_owned.new.self × IsHeld c.add_owned.new.self} c.add_owned.result c.add_owned.ensures.gains
    (on_both c.add_owned.result c.add_owned.ensures.table c.add_owned.ensures.held (λ table held.
    (table, held)))
    (λ gains is sum. put_step c.args.rows c.number-at.result c.args.perm c.args.count
    (record { rising = c.requires.rising; here = sym c.number-at.ensures.number })
    c.requires.counts sum c.args.todo.now.items c.index_mut-counts.result.now c.add_owned.new.self
    (subst (λ n. n < length c.args.todo.now.items) (sym c.number-at.ensures.number)
    c.requires.table)
    c.index_mut-counts.ensures.value is.0 is.1 gains)

pub returns-clause-large : goal.returns-clause-large
returns-clause-large c err sum =
    large_waiting c.args.rows c.number-at.result c.args.perm c.args.count sum c.args.todo.now.items
    c.index_mut-counts.result.now
    (record { rising = c.requires.rising; here = sym c.number-at.ensures.number })
    (λ more. absurd (both_ways c.has_more_before.result c.if-has_more_before.false
    (c.has_more_before.ensures.1 more))) c.requires.counts
    (c.index_mut-counts.ensures.value ∙ get_or_default c.args.todo.now.items c.number-at.result
    c.index_mut-counts.result.now [] (subst (λ n. n < length c.args.todo.now.items)
    (sym c.number-at.ensures.number) c.requires.table))
    (c.add_owned.ensures.large err)
