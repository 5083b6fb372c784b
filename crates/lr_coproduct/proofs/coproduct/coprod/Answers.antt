use Rattle.std.proofs.Common.{◌≡◌, ℕ, List, ◌+◌, length, take, ap, sym, ◌∙◌, subst, inl, inr, arith}
use Rattle.std.proofs.Common.{pos, flat_map}
use Rattle.std.specs.Prelude.{None, Err, false}
use Rattle.std.proofs.lemmas.List.{take_all}
use Rattle.fraction_laws.specs.Fractions.{whole}
use Rattle.sym_model.specs.Sum.{Among}
use Rattle.sym_model.specs.Polynomial.{Same}
use Rattle.sym_model.specs.GoodTableau.{skew_count}
use Rattle.sym_model.specs.Schur.{schur, skew_schur}
use Rattle.sym_model.specs.Expansion.{beside}
use Rattle.sym_model.proofs.Sums.{Among-append_left, Among-append_right}
use Rattle.sym_model.specs.LabelLimits.{is_pair_label}
use Rattle.sym_model.specs.PrintedOrder.{pair_order}
use Rattle.sym_model.specs.WholeTerms.{as_fractions}
use Rattle.sym_model.specs.PastLimit.{HasPast, IsCoefficientOfSkew}
use Rattle.sym_model.specs.Products.{IsCoproductOf}
use Rattle.linear_combinations.specs.Entries.{IsCanonicalList}
use Rattle.linear_combinations.proofs.Steps.{error_is}
use Rattle.lr_coproduct.specs.PairTerms.{pair_sum, pair_coefficient, HavePairCounts, AreBefore}
use Rattle.lr_coproduct.specs.SkewLists.{HaveSkewLists}
use Rattle.lr_coproduct.proofs.Prefixes.{IsAt, at_among, take_next, either_at}
use Rattle.lr_coproduct.proofs.SortedShapes.{earlier_before}
use Rattle.lr_coproduct.proofs.Lookups.{not_before}
use Rattle.lr_coproduct.proofs.Answering.{sum_next, coproduct_meets, past_of_inner, none_past}
use Rattle.lr_coproduct.proofs.OrderedPairs.{unwrapped}
use Rattle.lr_coproduct.proofs.coproduct.coprod.Goals as goal

pub returns-in_err-add_inner-clause-large : goal.returns-in_err-add_inner-clause-large
returns-in_err-add_inner-clause-large c = λ e.
    let items = c.in_ok-inners.inners.items in
    let here : IsAt items c.loop-at.at c.index-inner.result.now =
    record {
      within = omega (arith, c.loop-at-test.true, c.loop-at.invariant.end);
      is =
          c.index-inner.ensures;
    } in
    past_of_inner c.args.shape.now c.index-inner.result.now items c.in_ok-inners.ensures.listed
    (at_among items c.loop-at.at c.index-inner.result.now here)
    (c.in_err-add_inner.ensures.large
    (ap Err (error_is _ _ _ c.from_residual-in_err-add_inner.ensures.1 e)))

pub add_inner-requires-clause-here : goal.add_inner-requires-clause-here
add_inner-requires-clause-here c =
    let items = c.in_ok-inners.inners.items in
    let count = c.loop-at.invariant.count in
    subst (λ (l : List (List ℕ)). IsAt l (length c.loop-at.lists.items) c.index-inner.result.now)
    (sym c.deref.ensures.value)
    (subst (λ (i : ℕ). IsAt items i c.index-inner.result.now) (sym count)
    (record {
      within = omega (arith, c.loop-at-test.true, c.loop-at.invariant.end);
      is =
          c.index-inner.ensures;
    }))

pub loop-at-preserved : goal.loop-at-preserved
loop-at-preserved c =
    let items = c.in_ok-inners.inners.items in
    let at = c.loop-at.at in
    let inner = c.index-inner.result.now in
    let shape = c.args.shape.now in
    let old = c.loop-at.pairs.items in
    let here : IsAt items at inner = record {
      within = omega (
        arith,
        c.loop-at-test.true,
        c.loop-at.invariant.end,
      );
      is = c.index-inner.ensures;
    } in
    let next = take_next items at inner here in
    let before : AreBefore c.loop-at.pairs.items c.index-inner.result.now = λ t m.
    earlier_before items at inner t.0.0 c.in_ok-inners.ensures.listed.ordered here
    (c.loop-at.invariant.firsts t m) in
    record {
      end = c.loop-at.invariant.end;
      count = let n = c.in_ok-add_inner.ensures.count in let m = c.loop-at.invariant.count in
          omega arith;
      lists = subst (λ (l : List (List ℕ)). HaveSkewLists shape l c.add_inner.new.lists.items)
          c.deref.ensures.value c.in_ok-add_inner.ensures.lists;
      adds = λ n k. sum_next (λ i. beside (schur i n) (skew_schur shape i k)) (take at items)
          (take (at + 1) items) inner (pair_sum n k old) (pair_sum n k c.add_inner.new.pairs.items)
          next (c.loop-at.invariant.adds n k) (c.in_ok-add_inner.ensures.adds n k);
      canonical = c.in_ok-add_inner.ensures.goes_on before c.loop-at.invariant.canonical;
      firsts = λ t m. subst (λ (l : List (List ℕ)). Among t.0.0 l) (sym next)
          (elim (c.in_ok-add_inner.ensures.firsts t m) [
            | inl k ↦ Among-append_left t.0.0
                (take at items) _ (c.loop-at.invariant.firsts t k)
            | inr e ↦ Among-append_right t.0.0
                (take at items) _ (inl e)
          ]);
      counts = λ first m second q.
          either_at (λ (j : List ℕ). pair_coefficient c.add_inner.new.pairs.items j second
          ≡ pos (skew_count shape j second)) items at inner first here m
          (c.in_ok-add_inner.ensures.counts c.in_ok-inners.ensures.shape before second q)
          (λ k. c.in_ok-add_inner.ensures.others first second (λ e. not_before first inner
          (earlier_before items at inner first c.in_ok-inners.ensures.listed.ordered here k)
          (sym e)) ∙ c.loop-at.invariant.counts first k second q);
      fits = λ i m. either_at (λ j. HasPast (IsCoefficientOfSkew None shape j) → ⊥) items at inner
          i here m c.in_ok-add_inner.ensures.fits (c.loop-at.invariant.fits i);
    }

pub returns-clause-meets : goal.returns-clause-meets
returns-clause-meets c =
    let items = c.in_ok-inners.inners.items in
    let shape = c.args.shape.now in
    let list = c.loop-at.pairs.items in
    let all : take c.loop-at.at items ≡ items = take_all c.loop-at.at items
    (omega (arith, c.loop-at.invariant.end, c.loop-at-test.false)) in
    subst (λ terms. IsCoproductOf shape (as_fractions terms))
    (sym (unwrapped (IsCanonicalList pair_order is_pair_label whole list) c.from_pairs.result
    c.unwrap.result list c.unwrap.ensures c.from_pairs.ensures))
    (coproduct_meets shape items list c.in_ok-inners.ensures.shape c.in_ok-inners.ensures.listed
    (λ n k. subst (λ l. Same (pair_sum n k list)
    (flat_map (λ i. beside (schur i n) (skew_schur shape i k)) l)) all
    (c.loop-at.invariant.adds n k)))

pub returns-clause-counts : goal.returns-clause-counts
returns-clause-counts c =
    let items = c.in_ok-inners.inners.items in
    let shape = c.args.shape.now in
    let list = c.loop-at.pairs.items in
    let all : take c.loop-at.at items ≡ items = take_all c.loop-at.at items
    (omega (arith, c.loop-at.invariant.end, c.loop-at-test.false)) in
    subst (HavePairCounts shape)
    (sym (unwrapped (IsCanonicalList pair_order is_pair_label whole list) c.from_pairs.result
    c.unwrap.result list c.unwrap.ensures c.from_pairs.ensures))
    (λ first second p h q. c.loop-at.invariant.counts first (subst (λ l. Among first l) (sym all)
    (c.in_ok-inners.ensures.listed.all first p h)) second q)

pub returns-clause-fits : goal.returns-clause-fits
returns-clause-fits c =
    let items = c.in_ok-inners.inners.items in
    let all : take c.loop-at.at items ≡ items = take_all c.loop-at.at items
    (omega (arith, c.loop-at.invariant.end, c.loop-at-test.false)) in
    none_past c.args.shape.now items c.in_ok-inners.ensures.listed
    (λ i m. c.loop-at.invariant.fits i (subst (λ l. Among i l) (sym all) m))
