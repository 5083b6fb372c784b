use Rattle.std.proofs.Common.{ℕ, ℤ, List, length, take, sym, subst, arith}
use Rattle.std.specs.Prelude.{None, false}
use Rattle.fraction_laws.specs.Fractions.{whole}
use Rattle.sym_model.specs.LabelLimits.{is_label}
use Rattle.sym_model.specs.Partition.{size}
use Rattle.sym_model.specs.PrintedOrder.{printed_order}
use Rattle.sym_model.specs.WholeTerms.{as_fractions}
use Rattle.sym_model.specs.Products.{ExpandsInSchurs}
use Rattle.sym_model.specs.Schur.{skew_schur}
use Rattle.linear_combinations.specs.Entries.{IsCanonicalList}
use Rattle.lr_coproduct.proofs.Prefixes.{IsAt, at_among}
use Rattle.lr_coproduct.proofs.OrderedPairs.{unwrapped}
use Rattle.lr_coproduct.proofs.Exchanging.{ListsExchanged, front_exchanged, next_term}
use Rattle.lr_coproduct.proofs.Exchanging.{exchanged_meets, exchanged_fits, listed_fits}
use Rattle.lr_coproduct.proofs.Sizes.{behind_range}
use Rattle.lr_coproduct.proofs.exchange.exchanged.Goals as goal

pub loop-at-init : goal.loop-at-init
loop-at-init c =
    subst (λ (l : List (List ℕ × ℤ)). ListsExchanged c.args.shape.now c.args.inner.now
    (take c.count_above-first.result c.args.inners.now) l) (sym c.new-terms.ensures.items)
    (front_exchanged c.args.shape.now c.args.inner.now c.args.inners.now (length c.args.lists.now) _
    c.count_above-first.result c.size.ensures.limits.partition c.requires.listed c.requires.here
    c.count_above-first.ensures
    (omega (arith, c.size.ensures.value, c.size-2.ensures.value, c.requires.small)))

pub coefficient_in-c-requires : goal.coefficient_in-c-requires
coefficient_in-c-requires c = c.requires.listed.partitions c.args.inner.now
    (at_among c.args.inners.now (length c.args.lists.now) c.args.inner.now c.requires.here)

pub loop-at-preserved : goal.loop-at-preserved
loop-at-preserved c =
    let here : IsAt c.args.inners.now c.loop-at.at c.index-inners-at.result =
    record {
      within = omega (
        arith,
        c.loop-at-test.true,
        c.min-end.ensures,
        c.requires.here.within,
      );
      is = c.index-inners-at.is;
    } in
    next_term c.args.shape.now c.args.inner.now c.args.inners.now c.args.lists.now c.loop-at.at
    c.index-inners-at.result c.index-lists-at.result c.coefficient_in-c.result
    c.loop-at.terms.items c.add_term.new.terms.items c.size.ensures.limits.partition
    c.requires.listed c.requires.here c.requires.lists here
    (record {
      within = omega (arith, c.loop-at-test.true, c.min-end.ensures);
      is =
          c.index-lists-at.is;
    })
    c.coefficient_in-c.ensures.canonical c.coefficient_in-c.ensures.value
    c.in_ok-add_term.ensures.none c.in_ok-add_term.ensures.one c.loop-at.invariant

pub returns-clause-meets : goal.returns-clause-meets
returns-clause-meets c =
    let shape = c.args.shape.now in
    let inner = c.args.inner.now in
    let inners = c.args.inners.now in
    let list = c.loop-at.terms.items in
    subst (λ terms. ExpandsInSchurs None (skew_schur shape inner) (as_fractions terms))
    (sym (unwrapped (IsCanonicalList printed_order is_label whole list) c.from_pairs.result
    c.unwrap.result list c.unwrap.ensures c.from_pairs.ensures))
    (exchanged_meets shape inner inners c.loop-at.at list c.size.ensures.limits.partition
    c.requires.listed (at_among inners (length c.args.lists.now) inner c.requires.here)
    (behind_range (size shape) inners (length c.args.lists.now) inner _ c.count_above.result
    c.loop-at.at c.requires.listed.ordered c.requires.here c.requires.small
    c.count_above.ensures
    (omega (arith, c.size.ensures.value, c.size-2.ensures.value, c.requires.small))
    (omega (arith, c.loop-at-test.false, c.min-end.ensures)))
    c.loop-at.invariant)

pub returns-clause-fits : goal.returns-clause-fits
returns-clause-fits c =
    exchanged_fits c.args.shape.now c.args.inner.now c.args.inners.now (length c.args.lists.now)
    c.size.ensures.limits.partition c.requires.listed c.requires.here c.requires.small
    (listed_fits c.args.shape.now c.args.inners.now c.args.lists.now c.requires.lists)
