use Rattle.std.proofs.Common.{◌≡◌, ◌+◌, ◌-◌, sym, ap, arith}
use Rattle.std.proofs.lemmas.Int.{ints}
use Rattle.linear_combinations.specs.Gains.{over}
use Rattle.monk_product.specs.RowProducts.{row_value}
use Rattle.monk_product.proofs.RowSums.{first_terms, partial, row_first, row_last, row_step}
use Rattle.monk_product.proofs.RowSums.{value_null}
use Rattle.monk_product.proofs.row_summands.row_summands.Goals as goal

pub loop-done-init : goal.loop-done-init
loop-done-init c =
    let most = c.if-n-gt-MOST_LETTERS.false in
    let inside = c.if-i-n.false in
    let len = c.len.ensures in
    let fits = c.if-len-n.false in
    let first = first_terms c.args.n c.args.q.now c.in_ok-copy.field-0 c.one.result c.new-terms.result
    c.add_owned.new.self (omega arith) c.in_ok-copy.ensures.ok c.one.ensures.one
    c.new-terms.ensures c.in_ok-add_owned.ensures.gains c.in_ok-add_owned.ensures.table in
    record {
      short = first.2;
      value = λ rows within cells k s φ in_k.
          row_first c.args.n c.args.i rows (omega arith) (omega arith) within k s φ in_k _
          c.args.cells c.args.q.now c.add_owned.new.self c.new-summands.result.items (omega arith)
          cells c.new-summands.ensures.items first.0 first.1;
    }

pub loop-done-preserved : goal.loop-done-preserved
loop-done-preserved c =
    let most = c.if-n-gt-MOST_LETTERS.false in
    let inside = c.if-i-n.false in
    let test = c.loop-done-test.true in
    let inv = c.loop-done.invariant in
    let n = c.args.n in
    let i = c.args.i in
    let d = c.args.cells - c.loop-done.done in
    let e = c.args.cells - (c.loop-done.done + 1) in
    record {
      short = c.in_ok-terms.ensures.short;
      value = λ rows within cells k s φ in_k.
          let now = inv.value rows within cells k s φ in_k in
          let more = c.in_ok-add_summands.ensures (row_value n i rows k s φ)
          (value_null n i rows (omega arith) (omega arith) within k s φ in_k d) in
          let step = row_step n i rows (omega arith) (omega arith) within k s φ in_k d e
          c.args.cells c.loop-done.terms c.in_ok-terms.terms (omega arith) (sym cells) inv.short
          c.in_ok-terms.ensures in
          omega (arith, ints);
    }

pub returns : goal.returns
returns c =
    let most = c.if-n-gt-MOST_LETTERS.false in
    let inside = c.if-i-n.false in
    let test = c.loop-done-test.false in
    let n = c.args.n in
    let i = c.args.i in
    λ rows within cells. record {
      value = λ k s φ in_k.
          let now = c.loop-done.invariant.value rows within cells k s φ in_k in
          let more = c.in_ok-add_summands-2.ensures (row_value n i rows k s φ)
          (value_null n i rows (omega arith) (omega arith) within k s φ in_k 0) in
          let last = row_last n i rows (omega arith) (omega arith) within k s φ in_k c.args.cells
          c.loop-done.terms in
          let none : c.args.cells - c.loop-done.done ≡ 0 = omega arith in
          let all = ap (λ x. over (partial n i rows (omega arith) (omega arith) within k s φ in_k x
          c.args.cells) c.loop-done.terms) none in
          omega (arith, ints);
    }
