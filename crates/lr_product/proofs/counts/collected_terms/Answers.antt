use Rattle.std.proofs.Common.{◌≡◌, ℕ, ◌+◌, pos, List, take, drop, subst, sym, ap, ◌∙◌, rules}
use Rattle.std.proofs.Common.{arith}
use Rattle.std.specs.Prelude.{Some, Err, slice_get}
use Rattle.std.proofs.lemmas.List.{take_all}
use Rattle.sym_model.specs.Partition.{without_last_zeros}
use Rattle.partitions.specs.Limits.{IsWithinLimits}
use Rattle.lr_product.specs.WeighedSum.{weighed, unreached, comes_to}
use Rattle.lr_product.proofs.Steps.{IsReached, reached-tells, weighed-none}
use Rattle.lr_product.proofs.CountedLists.{Finds, counted, counted-zero, counted-long, finds_next}
use Rattle.lr_product.proofs.CountedLists.{finds_same, held_small, past_next, sum_within}
use Rattle.lr_product.proofs.CountedLists.{has_counts}
use Rattle.linear_combinations.proofs.Steps.{error_is}
use Rattle.lr_product.proofs.counts.collected_terms.Goals as goal

reached_here : (n : ℕ) (es : List (List ℕ × ℕ)) (i : ℕ) (key : List ℕ) (w : ℕ) → weighed n
    (unreached n 4096) es ≡ 0 → slice_get es i ≡ Some (key, w) → (w ≡ 0 → ⊥) → IsReached n 4096
    (take n key)
reached_here n es i key w z h some = reached-tells n 4096 (take n key) (drop n key)
    (weighed-none n (unreached n 4096) es i key w z h (omega (arith, some)))

pub loop-at-preserved-then-ways-eq0 : goal.loop-at-preserved-then-ways-eq0
loop-at-preserved-then-ways-eq0 c =
    let n = c.args.letters in
    let es = c.args.table.entries in
    let zero : c.entry-ways.result.1 ≡ 0 = c.if-ways-eq0.true in
    let same : (parts : List ℕ) → counted n es (c.loop-at.at + 1) parts ≡ counted n es c.loop-at.at
    parts = λ parts. counted-zero n es c.loop-at.at c.entry-ways.result.0.now
    c.entry-ways.result.1 parts c.entry-ways.ensures zero in
    record {
      end = c.loop-at.invariant.end;
      finds = λ parts. c.loop-at.invariant.finds parts ∙ sym (ap pos (same parts));
    }

pub slice_bounds-sum-end : goal.slice_bounds-sum-end
slice_bounds-sum-end c = search (rules, reached_here)

pub add_sum-requires : goal.add_sum-requires
add_sum-requires c =
    let n = c.args.letters in
    let key = c.entry-ways.result.0.now in
    let r = reached_here n c.args.table.entries c.loop-at.at key c.entry-ways.result.1
    c.requires.reached c.entry-ways.ensures c.if-ways-eq0.false in
    subst (λ (s : List ℕ). IsWithinLimits (without_last_zeros s))
    (sym (ap (λ k. take k key) c.from.ensures)) (sum_within n (take n key) c.requires.letters r)

pub returns-in_err-add_sum-clause-large : goal.returns-in_err-add_sum-clause-large
returns-in_err-add_sum-clause-large c = λ e.
    let n = c.args.letters in
    let es = c.args.table.entries in
    let key = c.entry-ways.result.0.now in
    let r = reached_here n es c.loop-at.at key c.entry-ways.result.1 c.requires.reached
    c.entry-ways.ensures c.if-ways-eq0.false in
    past_next n 4096 es c.loop-at.at key _ c.entry-ways.result.1 c.loop-at.terms
    c.entry-ways.ensures (ap (λ k. take k key) c.from.ensures) r
    c.loop-at.invariant.finds (c.in_err-add_sum.ensures.large
    (ap Err (error_is _ _ _ c.from_residual.ensures.1 e)))

pub loop-at-preserved : goal.loop-at-preserved
loop-at-preserved c =
    let n = c.args.letters in
    let es = c.args.table.entries in
    let key = c.entry-ways.result.0.now in
    let is : take c.from.result key ≡ take n key = ap (λ k. take k key) c.from.ensures in
    record {
      end = c.loop-at.invariant.end;
      finds = finds_next n es c.loop-at.at key (take c.from.result key) c.entry-ways.result.1
          c.loop-at.terms c.add_sum.new.terms c.entry-ways.ensures is c.loop-at.invariant.finds
          c.in_ok-add_sum.ensures.more;
    }

pub returns-clause-counts : goal.returns-clause-counts
returns-clause-counts c =
    let n = c.args.letters in
    let es = c.args.table.entries in
    let all : take c.loop-at.at es ≡ es = take_all c.loop-at.at es
    (omega (arith, c.loop-at.invariant.end, c.loop-at-test.false)) in
    has_counts n (λ parts. weighed n (comes_to parts) es) c.in_ok-sorted_terms.field-0
    c.in_ok-sorted_terms.ensures.combination
    (finds_same (λ parts. weighed n (comes_to parts) es) c.loop-at.terms
    c.in_ok-sorted_terms.field-0 c.in_ok-sorted_terms.ensures.same
    (subst (λ (l : List (List ℕ × ℕ)). Finds (λ parts. weighed n (comes_to parts) l)
    c.loop-at.terms) all c.loop-at.invariant.finds))
    (λ parts. counted-long n es parts)

pub returns-clause-fits : goal.returns-clause-fits
returns-clause-fits c =
    let n = c.args.letters in
    let es = c.args.table.entries in
    let all : take c.loop-at.at es ≡ es = take_all c.loop-at.at es
    (omega (arith, c.loop-at.invariant.end, c.loop-at-test.false)) in
    held_small c.in_ok-sorted_terms.field-0 (λ parts. weighed n (comes_to parts) es)
    c.in_ok-sorted_terms.ensures.held
    (finds_same (λ parts. weighed n (comes_to parts) es) c.loop-at.terms
    c.in_ok-sorted_terms.field-0 c.in_ok-sorted_terms.ensures.same
    (subst (λ (l : List (List ℕ × ℕ)). Finds (λ parts. weighed n (comes_to parts) l)
    c.loop-at.terms) all c.loop-at.invariant.finds))
