use Rattle.std.proofs.Common.{[], ◌+◌, ℕ, List, take, sym, subst, ◌∙◌, arith}
use Rattle.std.proofs.lemmas.List.{take_all}
use Rattle.sym_model.specs.Permutation.{with_fixed}
use Rattle.sym_model.proofs.Lists.{take-read}
use Rattle.double_schubert_laws.specs.DiagramRows.{times_rows}
use Rattle.monk_product.proofs.RowTables.{IsSumOver, no_sum, sum_more, values_next}
use Rattle.monk_product.proofs.row_table.next_value.Goals as goal

pub loop-summand-init : goal.loop-summand-init
loop-summand-init c = λ s rows h k.
    let value = λ (v : List ℕ). times_rows k (s k) (take c.args.i rows) (with_fixed c.args.n v) in
    subst (IsSumOver k value c.args.cells []) (sym c.new-sum.ensures) (no_sum k value c.args.cells)

pub loop-summand-preserved : goal.loop-summand-preserved
loop-summand-preserved c = λ s rows h k.
    let value = λ (v : List ℕ). times_rows k (s k) (take c.args.i rows) (with_fixed c.args.n v) in
    let items = c.deref-summand-items.result.now in
    sum_more k value c.args.cells (take c.loop-summand.summand-index items)
    c.summand-item.result (take (c.loop-summand.summand-index + 1) items)
    c.loop-summand.sum c.add_summand.new.sum
    (take-read items c.loop-summand.summand-index c.summand-item.result (omega arith) c.summand-item.is)
    (c.loop-summand.invariant s rows h k)
    (λ φ. c.in_ok-add_summand.ensures k φ value (λ e m ψ. (h e m).value k ψ))

pub returns : goal.returns
returns c = λ s rows j w e h.
    values_next s c.args.n c.args.i c.args.cells rows c.args.q.now c.in_ok-summands.summands.items
    c.loop-summand.sum j e (c.in_ok-summands.ensures rows w e)
    (λ k. subst (λ l. IsSumOver k (λ v. times_rows k (s k) (take c.args.i rows) (with_fixed c.args.n v))
    c.args.cells l c.loop-summand.sum)
    (take_all c.loop-summand.summand-index c.deref-summand-items.result.now (omega arith) ∙ c.deref-summand-items.ensures.value)
    (c.loop-summand.invariant s rows h k))
