use Rattle.std.proofs.Common.{[], ◌∷◌, ◌++◌, refl, ap, ◌∙◌, subst, arith}
use Rattle.std.specs.Prelude.{Err}
use Rattle.sym_model.specs.Permutation.{letter, covers_down}
use Rattle.schubert_laws.proofs.Ranks.{letter_counts}
use Rattle.double_schubert_laws.proofs.DoubleFromOne.{letter_small}
use Rattle.linear_combinations.proofs.Steps.{error_is}
use Rattle.linear_combinations.specs.Gains.{replaced}
use Rattle.transition_walk.specs.Waiting.{Joins, WaitingOverflows, each_waits}
use Rattle.transition_walk.proofs.JoinedLists.{joins_both, overflows_both, overflows_more}
use Rattle.double_schubert.specs.ByPermutations.{plus_terms, minus_terms, difference_terms}
use Rattle.double_schubert.proofs.FactorLists.{lists_as}
use Rattle.double_schubert.proofs.by_permutations.add_product.Goals as goal
use Rattle.std.proofs.lemmas.Result.{on_ok_weaker}

pub add_waiting_by-requires : goal.add_waiting_by-requires
add_waiting_by-requires c t m =
    let a = letter_counts c.args.term.perm c.args.r c.letter.ensures.limits.kept.one_line
    c.requires.first in
    let b = letter_small c.args.term.perm c.args.r c.letter.ensures.limits.kept.one_line
    c.requires.first in
    let v = c.letter.ensures.value in
    let l = c.requires.letters in
    let r = c.requires.last in
    record {
      first = omega arith;
      last = omega arith;
      column = c.requires.column;
      last_column = c.requires.last_column;
      room = c.requires.degree t m;
    }

pub returns-clause-joins : goal.returns-clause-joins
returns-clause-joins c =
    on_ok_weaker c.add_waiting_by.result (λ last.
    let s0 = c.args.sum.now.items in
    let s1 = c.add_at_each.new.sum.items in
    let s2 = c.add_at_each-2.new.sum.items in
    let new = c.add_waiting_by.new.todo.items in
    let up = each_waits (replaced plus_terms c.args.term.factor) c.up.result.now in
    let down = each_waits (replaced minus_terms c.args.term.factor) c.down.result.now in
    let here = (record {
      perm = c.args.term.perm;
      factor = replaced (difference_terms c.letter.result c.args.c) c.args.term.factor;
    }) ∷ [] in
    subst (λ l. Joins s0 l new)
    (lists_as c.args.r c.args.c c.letter.result c.args.term c.up.result.now c.down.result.now
    (c.up.ensures ∙ c.in_ok-covers.ensures.up) (c.down.ensures ∙ c.in_ok-covers.ensures.down)
    c.letter.ensures.value)
    (joins_both s0 up s1 (down ++ here) new c.in_ok-add_at_each.ensures.joins
    (joins_both s1 down s2 here new c.in_ok-add_at_each-2.ensures.joins last))) c.add_waiting_by.ensures.joins

pub returns-clause-large : goal.returns-clause-large
returns-clause-large c err =
    let s0 = c.args.sum.now.items in
    let s1 = c.add_at_each.new.sum.items in
    let s2 = c.add_at_each-2.new.sum.items in
    let up = each_waits (replaced plus_terms c.args.term.factor) c.up.result.now in
    let down = each_waits (replaced minus_terms c.args.term.factor) c.down.result.now in
    let here = (record {
      perm = c.args.term.perm;
      factor = replaced (difference_terms c.letter.result c.args.c) c.args.term.factor;
    }) ∷ [] in
    subst (WaitingOverflows s0)
    (lists_as c.args.r c.args.c c.letter.result c.args.term c.up.result.now c.down.result.now
    (c.up.ensures ∙ c.in_ok-covers.ensures.up) (c.down.ensures ∙ c.in_ok-covers.ensures.down)
    c.letter.ensures.value)
    (overflows_both s0 up s1 (down ++ here) c.in_ok-add_at_each.ensures.joins
    (overflows_both s1 down s2 here c.in_ok-add_at_each-2.ensures.joins
    (c.add_waiting_by.ensures.large err)))

pub returns-in_err-add_at_each-clause-large : goal.returns-in_err-add_at_each-clause-large
returns-in_err-add_at_each-clause-large c err =
    let s0 = c.args.sum.now.items in
    let up = each_waits (replaced plus_terms c.args.term.factor) c.up.result.now in
    let down = each_waits (replaced minus_terms c.args.term.factor) (covers_down c.args.r c.args.term.perm) in
    let here = (record {
      perm = c.args.term.perm;
      factor = replaced (difference_terms (letter c.args.term.perm c.args.r) c.args.c) c.args.term.factor;
    }) ∷ [] in
    subst (WaitingOverflows s0)
    (lists_as c.args.r c.args.c (letter c.args.term.perm c.args.r) c.args.term c.up.result.now (covers_down c.args.r c.args.term.perm)
    (c.up.ensures ∙ c.in_ok-covers.ensures.up) refl refl)
    (overflows_more s0 up (down ++ here) (c.in_err-add_at_each.ensures.large
    (ap Err (error_is _ _ _ c.from_residual-in_err-add_at_each.ensures.1 err))))

pub returns-in_err-add_at_each-2-clause-large : goal.returns-in_err-add_at_each-2-clause-large
returns-in_err-add_at_each-2-clause-large c err =
    let s0 = c.args.sum.now.items in
    let s1 = c.add_at_each.new.sum.items in
    let up = each_waits (replaced plus_terms c.args.term.factor) c.up.result.now in
    let down = each_waits (replaced minus_terms c.args.term.factor) c.down.result.now in
    let here = (record {
      perm = c.args.term.perm;
      factor = replaced (difference_terms (letter c.args.term.perm c.args.r) c.args.c) c.args.term.factor;
    }) ∷ [] in
    subst (WaitingOverflows s0)
    (lists_as c.args.r c.args.c (letter c.args.term.perm c.args.r) c.args.term c.up.result.now c.down.result.now
    (c.up.ensures ∙ c.in_ok-covers.ensures.up) (c.down.ensures ∙ c.in_ok-covers.ensures.down) refl)
    (overflows_both s0 up s1 (down ++ here) c.in_ok-add_at_each.ensures.joins
    (overflows_more s1 down here (c.in_err-add_at_each-2.ensures.large
    (ap Err (error_is _ _ _ c.from_residual-in_err-add_at_each-2.ensures.1 err)))))
